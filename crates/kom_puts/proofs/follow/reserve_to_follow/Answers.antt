use Rattle.std.proofs.Common.{◌≤◌, subst}
use Rattle.std.specs.Prelude.{IfSome}
use Rattle.kom_state.specs.Parts.{state_of, control_spare}
use Rattle.kom_state.proofs.Reserving.{on_ok}
use Rattle.kom_puts.specs.Puts.{dumped_in}
use Rattle.kom_puts.proofs.Putting.{room_for_its_own, room_for_none}
use Rattle.kom_puts.proofs.follow.reserve_to_follow.Goals as goal

pub returns-in-None-clause-ok : goal.returns-in-None-clause-ok
returns-in-None-clause-ok c =
    let m = state_of c.args.state.now in
    let u = c.reserve_one.new.state in
    let body = c.args.body.now in
    let item = c.args.item.now in
    on_ok c.reserve_one.result c.reserve_one.ensures.ok (λ h.
    room_for_none c.args.n m c.args.c body item u c.in-None.ensures
    (room_for_its_own c.args.n (dumped_in m c.args.c body item) u
    (subst (λ o. IfSome o (λ d. c.args.n ≤ control_spare u d)) (c.dump_receiver-parent.ensures body) h)))
