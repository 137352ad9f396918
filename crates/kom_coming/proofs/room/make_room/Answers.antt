use Rattle.std.proofs.Common.{◌≡◌, ◌<◌, sym, ap, subst, length, take, get_or, arith}
use Rattle.std.proofs.lemmas.List.{take_all}
use Rattle.kom_state.specs.Parts.{state_of}
use Rattle.kom_coming.proofs.Little.{taken_more}
use Rattle.kom_coming.proofs.Rooms.{HasRooms, no_less_again, rooms_enough, rooms_kept, rooms_more, same_again}
use Rattle.kom_coming.proofs.room.make_room.Goals as goal

pub loop-coming-preserved : goal.loop-coming-preserved
loop-coming-preserved c =
    let was = c.loop-coming.invariant in
    let qs = c.args.entering.now.comings in
    let i = c.loop-coming.coming-index in
    let q = c.coming-item.result in
    let same = c.as_slice-coming-items.ensures in
    record {
      same = same_again (state_of c.args.state.now) (state_of c.loop-coming.state) (state_of c.reserve_queue.new.self) was.same c.in_ok-reserve_queue.ensures.same;
      not_less = no_less_again c.args.state.now c.loop-coming.state c.reserve_queue.new.self was.not_less c.in_ok-reserve_queue.ensures.not_less;
      rooms = subst (λ l. HasRooms l c.args.entering.now.offers c.reserve_queue.new.self)
          (sym (taken_more qs i q (subst (λ l. i < length l) same c.loop-coming-test.true) (subst (λ l. q ≡ get_or l i q) same c.coming-item.is)))
          (rooms_more (take i qs) q c.args.entering.now.offers c.reserve_queue.new.self (rooms_kept (take i qs) c.args.entering.now.offers c.loop-coming.state c.reserve_queue.new.self c.in_ok-reserve_queue.ensures.not_less was.rooms) c.in_ok-reserve_queue.ensures.ok);
    }

pub returns-clause-ok : goal.returns-clause-ok
returns-clause-ok c x d =
    let qs = c.args.entering.now.comings in
    let n = c.args.entering.now.offers in
    let long = ap length c.as_slice-coming-items.ensures in
    rooms_enough qs n c.loop-coming.state x d (c.requires.once x d)
    (subst (λ l. HasRooms l n c.loop-coming.state) (take_all c.loop-coming.coming-index qs (omega (arith, long, c.loop-coming-test.false))) c.loop-coming.invariant.rooms)
