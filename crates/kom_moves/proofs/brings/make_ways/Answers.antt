use Rattle.std.proofs.Common.{◌≤◌, length, subst, arith}
use Rattle.kom_state.specs.Parts.{queue_spare, state_of}
use Rattle.kom_births.proofs.Room.{no_less_again, same_again}
use Rattle.kom_moves.proofs.Bringing.{all_ways, room_on}
use Rattle.kom_moves.proofs.brings.make_ways.Goals as goal

pub loop-release-preserved : goal.loop-release-preserved
loop-release-preserved c =
    let r = c.release-item.result in
    record {
      same = same_again (state_of c.args.state.now) (state_of c.loop-release.state) (state_of c.reserve_queue.new.self) c.loop-release.invariant.same c.in_ok-reserve_queue.ensures.same;
      not_less = no_less_again c.args.state.now c.loop-release.state c.reserve_queue.new.self c.loop-release.invariant.not_less c.in_ok-reserve_queue.ensures.not_less;
      room = room_on c.args.released.now c.loop-release.release-index r c.loop-release-test.true c.release-item.is (length c.args.released.now) c.loop-release.state c.reserve_queue.new.self
          c.in_ok-reserve_queue.ensures.not_less c.loop-release.invariant.room
          (subst (λ d. length c.args.released.now ≤ queue_spare c.reserve_queue.new.self r.chan d) c.way_in-way.ensures c.in_ok-reserve_queue.ensures.ok);
    }

pub returns-in_err-reserve_queue-clause-same : goal.returns-in_err-reserve_queue-clause-same
returns-in_err-reserve_queue-clause-same c = same_again (state_of c.args.state.now) (state_of c.loop-release.state) (state_of c.reserve_queue.new.self) c.loop-release.invariant.same c.reserve_queue.ensures.same

pub returns-in_err-reserve_queue-clause-not_less : goal.returns-in_err-reserve_queue-clause-not_less
returns-in_err-reserve_queue-clause-not_less c = no_less_again c.args.state.now c.loop-release.state c.reserve_queue.new.self c.loop-release.invariant.not_less c.reserve_queue.ensures.not_less

pub returns-clause-ok : goal.returns-clause-ok
returns-clause-ok c = all_ways c.args.released.now c.loop-release.release-index (length c.args.released.now) c.loop-release.state (omega (arith, c.loop-release-test.false)) c.loop-release.invariant.room
