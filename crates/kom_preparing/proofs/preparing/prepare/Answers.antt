use Rattle.std.proofs.Common.{◌≡◌, ◌+◌, ◌≤◌, ◌<◌, true, ap, ◌∙◌, sym, subst, length, arith}
use Rattle.kom_lang.specs.declared.body.Body.{Body}
use Rattle.kom_system.specs.WellFormed.{IsDeclared}
use Rattle.kom_nursery.specs.Nurseries.{all_of}
use Rattle.kom_record.specs.Entries.{acts}
use Rattle.kom_refine.specs.Points.{StandsAt, start_of}
use Rattle.kom_state.specs.Parts.{Parts, state_of}
use Rattle.kom_turns.specs.Runs.{history_of, system_of}
use Rattle.kom_preparing.specs.Spaces.{IsButForSpace}
use Rattle.kom_preparing.proofs.Roomy.{space_again, space_self}
use Rattle.kom_preparing.proofs.Whole.{children_by, has_room, knows, living_by, made_by}
use Rattle.kom_preparing.proofs.preparing.prepare.Goals as goal

pub told_of-told-requires : goal.told_of-told-requires
told_of-told-requires c =
    let v = c.args.run.now in
    made_by c.args.c c.args.took c.args.item.now c.args.body.now c.args.effects.now v (knows c.args.c c.args.took c.args.item.now c.args.body.now c.args.effects.now v c.requires.run c.requires.reacted)

pub dumped_for-requires : goal.dumped_for-requires
dumped_for-requires c =
    let v = c.args.run.now in
    made_by c.args.c c.args.took c.args.item.now c.args.body.now c.args.effects.now v (knows c.args.c c.args.took c.args.item.now c.args.body.now c.args.effects.now v c.requires.run c.requires.reacted)

pub returns-in_err-entering-clause-same : goal.returns-in_err-entering-clause-same
returns-in_err-entering-clause-same c = space_self c.args.run.now

pub returns-in_err-dumped-clause-same : goal.returns-in_err-dumped-clause-same
returns-in_err-dumped-clause-same c = space_self c.args.run.now

pub returns-in_err-widen_sets-clause-same : goal.returns-in_err-widen_sets-clause-same
returns-in_err-widen_sets-clause-same c = space_again c.args.run.now c.make_state_room.new.run c.widen_sets.new.run c.make_state_room.ensures.same c.widen_sets.ensures.same

pub returns-in_err-make_entry_room-clause-same : goal.returns-in_err-make_entry_room-clause-same
returns-in_err-make_entry_room-clause-same c =
    space_again c.args.run.now c.widen_sets.new.run c.make_entry_room.new.run
    (space_again c.args.run.now c.make_state_room.new.run c.widen_sets.new.run c.make_state_room.ensures.same c.widen_sets.ensures.same) c.make_entry_room.ensures.same

pub returns-in_err-woken-clause-same : goal.returns-in_err-woken-clause-same
returns-in_err-woken-clause-same c =
    space_again c.args.run.now c.widen_sets.new.run c.make_entry_room.new.run
    (space_again c.args.run.now c.make_state_room.new.run c.widen_sets.new.run c.make_state_room.ensures.same c.widen_sets.ensures.same) c.make_entry_room.ensures.same

pub returns-clause-same : goal.returns-clause-same
returns-clause-same c =
    space_again c.args.run.now c.widen_sets.new.run c.make_entry_room.new.run
    (space_again c.args.run.now c.make_state_room.new.run c.widen_sets.new.run c.make_state_room.ensures.same c.widen_sets.ensures.same) c.make_entry_room.ensures.same

pub list_for-requires-clause-living : goal.list_for-requires-clause-living
list_for-requires-clause-living c =
    let v = c.args.run.now in
    let n = c.make_entry_room.new.run in
    let all = space_again v c.widen_sets.new.run n
    (space_again v c.make_state_room.new.run c.widen_sets.new.run c.make_state_room.ensures.same c.widen_sets.ensures.same) c.make_entry_room.ensures.same
    in
    living_by c.args.c c.args.took c.args.item.now c.args.body.now c.args.effects.now v (knows c.args.c c.args.took c.args.item.now c.args.body.now c.args.effects.now v c.requires.run c.requires.reacted) n all

pub list_for-requires-clause-children : goal.list_for-requires-clause-children
list_for-requires-clause-children c =
    let v = c.args.run.now in
    let n = c.make_entry_room.new.run in
    let D = subst (λ y. IsDeclared y.declarations) c.deref.ensures c.well_formed-2.ensures.declared in
    let all = space_again v c.widen_sets.new.run n
    (space_again v c.make_state_room.new.run c.widen_sets.new.run c.make_state_room.ensures.same c.widen_sets.ensures.same) c.make_entry_room.ensures.same
    in
    children_by c.args.c c.args.took c.args.item.now c.args.body.now c.args.effects.now v (knows c.args.c c.args.took c.args.item.now c.args.body.now c.args.effects.now v c.requires.run c.requires.reacted) n all
    c.same_states_follow.ensures c.children_are_in_slots.ensures D

pub list_for-requires-clause-number : goal.list_for-requires-clause-number
list_for-requires-clause-number c =
    let a = ap (λ (x : Parts). length (state_of x).nodes) (c.make_entry_room.ensures.state ∙ c.widen_sets.ensures.state) in
    let b = c.in_ok-nursery.ensures.number in
    omega (arith, a, b)

pub returns-clause-found : goal.returns-clause-found
returns-clause-found c w s r = record {
  told = c.told_of-told.ensures.told (system_of c.args.run.now) c.args.run.now.env.plan (history_of c.args.run.now) s.legal s.state r.reacted.lives;
  entering = λ by to places. c.in_ok-entering.ensures.entering w s r by to places;
  broods = c.in_ok-nursery.ensures.planted w s r;
}

pub returns-clause-ready : goal.returns-clause-ready
returns-clause-ready c =
    let v = c.args.run.now in
    let a = c.make_state_room.new.run in
    let n = c.make_entry_room.new.run in
    let all = space_again v c.widen_sets.new.run n
    (space_again v c.make_state_room.new.run c.widen_sets.new.run c.make_state_room.ensures.same c.widen_sets.ensures.same) c.make_entry_room.ensures.same
    in
    has_room c.args.c c.args.item.now c.args.body.now c.args.effects.now _ v a n all (c.make_entry_room.ensures.state ∙ c.widen_sets.ensures.state)
    c.told_of-told.ensures.above c.in_ok-nursery.ensures.slots c.in_ok-dumped.ensures c.in_ok-nursery.ensures.follow c.in_ok-nursery.ensures.come c.in_ok-nursery.ensures.puts c.in_ok-nursery.ensures.room
    (let x = c.in_ok-widen_sets.ensures.marks in
    let y = ap (λ m. m.bound) c.make_entry_room.ensures.marks in
    let i = c.instance_count.ensures in
    let k = c.instances.ensures in
    omega (arith, x, y, i, k))
    (let x = c.in_ok-widen_sets.ensures.busy in
    let y = ap (λ m. m.bound) c.make_entry_room.ensures.marks in
    let z = ap (λ m. m.bound) c.make_entry_room.ensures.busy in
    omega (arith, x, y, z))
    c.in_ok-make_entry_room.ensures.kept
    (let x = c.in_ok-make_entry_room.ensures.going in let y = c.len.ensures in omega (arith, x, y))

pub returns-clause-list : goal.returns-clause-list
returns-clause-list c w s r =
    let v = c.args.run.now in
    let n = c.make_entry_room.new.run in
    let all = space_again v c.widen_sets.new.run n
    (space_again v c.make_state_room.new.run c.widen_sets.new.run c.make_state_room.ensures.same c.widen_sets.ensures.same) c.make_entry_room.ensures.same
    in
    c.in_ok-woken.ensures.room (system_of v) (history_of v) c.args.item.now
    (c.same_states_follow.ensures (system_of v) (start_of (history_of v)) (state_of v.state) (state_of n.state) all.state s.state)
    (c.in_ok-nursery.ensures.planted w s r)
