use Rattle.std.proofs.Common.{◌≡◌, sym, ap, ◌∙◌, arith}
use Rattle.kom_life.specs.Rows.{has_room, spare_of, is_there}
use Rattle.kom_numbers.specs.Numbering.{total}
use Rattle.kom_state.specs.Insides.{parts_of}
use Rattle.kom_state.proofs.Creating.{count_is, no_row, no_link, no_queues, may_hang, Rooms, rooms, grown_tied, is_planted, takes_room}
use Rattle.kom_state.proofs.state.RunState.plant.Goals as goal

pub add-first-requires-clause-spare : goal.add-first-requires-clause-spare
add-first-requires-clause-spare c =
    let v = parts_of c.self.inside in
    let r : Rooms v c.self.invariant c.args.links.now c.args.init = rooms v c.self.invariant c.args.links.now c.args.init (rw (← c.self.view_is) at c.requires.room) in
    r.numbers

pub add-first-requires-clause-instances : goal.add-first-requires-clause-instances
add-first-requires-clause-instances c =
    let v = parts_of c.self.inside in
    let few = rw (← c.self.view_is) at c.requires.few in
    omega (arith, few, count_is v c.self.invariant, c.self.invariant.numbered)

pub add-c-requires-clause-spare : goal.add-c-requires-clause-spare
add-c-requires-clause-spare c =
    let v = parts_of c.self.inside in
    let r : Rooms v c.self.invariant c.args.links.now c.args.init = rooms v c.self.invariant c.args.links.now c.args.init (rw (← c.self.view_is) at c.requires.room) in
    r.tree

pub add-c-requires-clause-few : goal.add-c-requires-clause-few
add-c-requires-clause-few c =
    let v = parts_of c.self.inside in
    let few = rw (← c.self.view_is) at c.requires.few in
    omega (arith, few, count_is v c.self.invariant)

pub add-c-requires-clause-place : goal.add-c-requires-clause-place
add-c-requires-clause-place c = may_hang (parts_of c.self.inside) c.self.invariant c.args.place (rw (← c.self.view_is) at c.requires.place)

pub enter-requires-clause-room : goal.enter-requires-clause-room
enter-requires-clause-room c =
    let v = parts_of c.self.inside in
    let r : Rooms v c.self.invariant c.args.links.now c.args.init = rooms v c.self.invariant c.args.links.now c.args.init (rw (← c.self.view_is) at c.requires.room) in
    ap (has_room v.rows) c.add-c.ensures.number ∙ r.row

pub enter-requires-clause-absent : goal.enter-requires-clause-absent
enter-requires-clause-absent c =
    let v = parts_of c.self.inside in
    ap (is_there v.rows) c.add-c.ensures.number ∙ no_row v c.self.invariant

pub enter-requires-clause-spare : goal.enter-requires-clause-spare
enter-requires-clause-spare c =
    let v = parts_of c.self.inside in
    let r : Rooms v c.self.invariant c.args.links.now c.args.init = rooms v c.self.invariant c.args.links.now c.args.init (rw (← c.self.view_is) at c.requires.room) in
    omega (arith, r.items, ap (spare_of v.rows) c.add-c.ensures.number)

pub add-requires : goal.add-requires
add-requires c =
    let v = parts_of c.self.inside in
    let r : Rooms v c.self.invariant c.args.links.now c.args.init = rooms v c.self.invariant c.args.links.now c.args.init (rw (← c.self.view_is) at c.requires.room) in
    r.shelf

pub lay-requires-clause-spare : goal.lay-requires-clause-spare
lay-requires-clause-spare c =
    let v = parts_of c.self.inside in
    let r : Rooms v c.self.invariant c.args.links.now c.args.init = rooms v c.self.invariant c.args.links.now c.args.init (rw (← c.self.view_is) at c.requires.room) in
    r.wires

pub lay-requires-clause-no_link : goal.lay-requires-clause-no_link
lay-requires-clause-no_link c = λ x h.
    let v = parts_of c.self.inside in
    let first : c.first.inside.0 ≡ total v.numbers = c.first.view_is ∙ c.add-first.ensures.first in
    no_link v c.self.invariant x (omega (arith, h, first))

pub lay-requires-clause-not_there : goal.lay-requires-clause-not_there
lay-requires-clause-not_there c = λ x h.
    let v = parts_of c.self.inside in
    let first : c.first.inside.0 ≡ total v.numbers = c.first.view_is ∙ c.add-first.ensures.first in
    no_queues v c.self.invariant x (omega (arith, h, first))

pub lay-requires-clause-slots : goal.lay-requires-clause-slots
lay-requires-clause-slots c = λ x low high.
    let v = parts_of c.self.inside in
    let r : Rooms v c.self.invariant c.args.links.now c.args.init = rooms v c.self.invariant c.args.links.now c.args.init (rw (← c.self.view_is) at c.requires.room) in
    let first : c.first.inside.0 ≡ total v.numbers = c.first.view_is ∙ c.add-first.ensures.first in
    r.slots x (omega (arith, low, first)) (omega (arith, high, first))

pub invariant_of-self : goal.invariant_of-self
invariant_of-self c =
    let v = parts_of c.self.inside in
    grown_tied v c.self.invariant c.args.system.now.declarations c.args.place c.args.body c.args.init c.args.links.now
    c.add-c.new.self c.lay.new.wiring c.lay.new.queues c.enter.new.life c.add.new.self c.add-first.new.self
    c.add-c.ensures.grows (rw c.add-c.ensures.number at c.add-c.ensures.occupants) c.add-first.ensures.outs c.add-first.ensures.counts
    (rw (c.add-c.ensures.number, c.catches_faults-catches.ensures) at c.enter.ensures.each) (rw c.add-c.ensures.number at c.enter.ensures.there) c.add.ensures.bodies
    (rw (c.first.view_is, c.add-first.ensures.first) at c.lay.ensures)

pub returns-clause-number : goal.returns-clause-number
returns-clause-number c =
    let v = parts_of c.self.inside in
    rw (← c.self.view_is) (c.add-c.ensures.number ∙ sym (count_is v c.self.invariant))

pub returns-clause-step : goal.returns-clause-step
returns-clause-step c =
    let v = parts_of c.self.inside in
    rw (← c.self.view_is, c.add-c.ensures.number) (is_planted v c.self.invariant c.args.system.now.declarations c.args.place c.args.body c.args.init c.args.links.now
    c.add-c.new.self c.lay.new.wiring c.lay.new.queues c.enter.new.life c.add.new.self c.add-first.new.self
    c.add-c.ensures.grows (rw c.add-c.ensures.number at c.add-c.ensures.occupants) c.add-first.ensures.outs c.add-first.ensures.counts
    (rw (c.add-c.ensures.number, c.catches_faults-catches.ensures) at c.enter.ensures.each) (rw c.add-c.ensures.number at c.enter.ensures.there) c.add.ensures.bodies
    (rw (c.first.view_is, c.add-first.ensures.first) at c.lay.ensures))

pub returns-clause-room : goal.returns-clause-room
returns-clause-room c =
    let v = parts_of c.self.inside in
    rw (← c.self.view_is, c.add-c.ensures.number) (takes_room v c.self.invariant c.args.system.now.declarations c.args.place c.args.body c.args.init c.args.links.now
    c.add-c.new.self c.lay.new.wiring c.lay.new.queues c.enter.new.life c.add.new.self c.add-first.new.self
    c.add-c.ensures.grows (rw c.add-c.ensures.number at c.add-c.ensures.occupants) c.add-first.ensures.outs c.add-first.ensures.counts
    (rw (c.add-c.ensures.number, c.catches_faults-catches.ensures) at c.enter.ensures.each) (rw c.add-c.ensures.number at c.enter.ensures.there) c.add.ensures.bodies
    (rw (c.first.view_is, c.add-first.ensures.first) at c.lay.ensures)
    (omega (arith, c.add-c.ensures.spare)) c.add.ensures.spare c.add-first.ensures.spare c.enter.ensures.room (rw c.add-c.ensures.number at c.enter.ensures.spare))
