use Rattle.std.proofs.Common.{◌+◌, ◌≤◌, length, arith}
use Rattle.kom_state.specs.Parts.{state_of}
use Rattle.kom_puts.proofs.BySlots.{no_less_again, same_again}
use Rattle.kom_preparing.proofs.Carried.{follow_stays, puts_stay}
use Rattle.kom_coming.proofs.Rooms.{same_self}
use Rattle.kom_preparing.proofs.Roomy.{less_self}
use Rattle.kom_preparing.proofs.reserve.reserve_puts.Goals as goal

pub returns-in_err-make_room-clause-same : goal.returns-in_err-make_room-clause-same
returns-in_err-make_room-clause-same c = same_again (state_of c.args.state.now) (state_of c.reserve_to_follow.new.state) (state_of c.make_room.new.state) c.reserve_to_follow.ensures.same c.make_room.ensures.same

pub returns-in_err-make_room-clause-not_less : goal.returns-in_err-make_room-clause-not_less
returns-in_err-make_room-clause-not_less c = no_less_again c.args.state.now c.reserve_to_follow.new.state c.make_room.new.state c.reserve_to_follow.ensures.not_less c.make_room.ensures.not_less

pub returns-in_err-reserve_for_effects-clause-same : goal.returns-in_err-reserve_for_effects-clause-same
returns-in_err-reserve_for_effects-clause-same c =
    same_again (state_of c.args.state.now) (state_of c.make_room.new.state) (state_of c.reserve_for_effects.new.state)
    (same_again (state_of c.args.state.now) (state_of c.reserve_to_follow.new.state) (state_of c.make_room.new.state) c.reserve_to_follow.ensures.same c.make_room.ensures.same) c.reserve_for_effects.ensures.same

pub returns-in_err-reserve_for_effects-clause-not_less : goal.returns-in_err-reserve_for_effects-clause-not_less
returns-in_err-reserve_for_effects-clause-not_less c =
    no_less_again c.args.state.now c.make_room.new.state c.reserve_for_effects.new.state
    (no_less_again c.args.state.now c.reserve_to_follow.new.state c.make_room.new.state c.reserve_to_follow.ensures.not_less c.make_room.ensures.not_less) c.reserve_for_effects.ensures.not_less

pub returns-clause-same : goal.returns-clause-same
returns-clause-same c =
    same_again (state_of c.args.state.now) (state_of c.make_room.new.state) (state_of c.reserve_for_effects.new.state)
    (same_again (state_of c.args.state.now) (state_of c.reserve_to_follow.new.state) (state_of c.make_room.new.state) c.reserve_to_follow.ensures.same c.make_room.ensures.same) c.reserve_for_effects.ensures.same

pub returns-clause-not_less : goal.returns-clause-not_less
returns-clause-not_less c =
    no_less_again c.args.state.now c.make_room.new.state c.reserve_for_effects.new.state
    (no_less_again c.args.state.now c.reserve_to_follow.new.state c.make_room.new.state c.reserve_to_follow.ensures.not_less c.make_room.ensures.not_less) c.reserve_for_effects.ensures.not_less

pub returns-clause-follow : goal.returns-clause-follow
returns-clause-follow c =
    let v = c.args.state.now in
    let a = c.reserve_to_follow.new.state in
    let b = c.make_room.new.state in
    let n = c.reserve_for_effects.new.state in
    follow_stays (state_of v) a n
    (same_again (state_of v) (state_of b) (state_of n) (same_again (state_of v) (state_of a) (state_of b) c.reserve_to_follow.ensures.same c.make_room.ensures.same) c.reserve_for_effects.ensures.same)
    (no_less_again a b n c.make_room.ensures.not_less c.reserve_for_effects.ensures.not_less) c.args.c 1 c.args.body.now c.args.item.now c.in_ok-reserve_to_follow.ensures.ok

pub returns-clause-come : goal.returns-clause-come
returns-clause-come c x d = let a = c.in_ok-make_room.ensures.ok x d in let b = c.reserve_for_effects.ensures.not_less.numbers x d in omega (arith, a, b)

pub returns-clause-puts : goal.returns-clause-puts
returns-clause-puts c =
    let b = c.make_room.new.state in
    let n = c.reserve_for_effects.new.state in
    puts_stay (state_of b) n n c.reserve_for_effects.ensures.same (less_self n) c.args.c (1 + length c.args.effects.now) c.args.item.now c.args.told.now c.args.effects.now c.in_ok-reserve_for_effects.ensures.ok
