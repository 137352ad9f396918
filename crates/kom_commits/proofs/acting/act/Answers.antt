use Rattle.std.proofs.Common.{◌+◌, sym, ap, subst, length, arith}
use Rattle.std.proofs.Math.Logic.{∥∥₁_map}
use Rattle.kom_turns.proofs.Standing.{said, same_number}
use Rattle.kom_turns.proofs.Standing as standing
use Rattle.kom_commits.specs.Counted.{waits_in_all}
use Rattle.kom_coming.specs.Directions.{AreThere}
use Rattle.kom_marks.specs.Marking.{IsMarked}
use Rattle.kom_refine.specs.States.{State}
use Rattle.kom_refine.specs.Steps.{SameQueues}
use Rattle.kom_commits.specs.Acting.{IsBegun}
use Rattle.kom_doing.specs.Marks.{marks_of}
use Rattle.kom_record.specs.Entries.{acts}
use Rattle.kom_state.specs.Parts.{state_of}
use Rattle.kom_commits.proofs.Beginning.{above_now, amid, below, counted, living, room_now, there}
use Rattle.kom_commits.proofs.Shown.{there_by}
use Rattle.kom_commits.proofs.acting.act.Goals as goal

pub begin-requires-clause-living : goal.begin-requires-clause-living
begin-requires-clause-living c =
    said _ c.requires.starts (λ s. living c.args.system.now.declarations c.args.c c.args.item.now c.args.told.now c.args.body.now c.args.effects.now c.args.entering.now c.args.nursery.now c.args.state.now s.ending s.starts c.handlers_live.ensures)

pub begin-requires-clause-there : goal.begin-requires-clause-there
begin-requires-clause-there c =
    subst (λ q. (m : State) → SameQueues (state_of c.args.state.now) m → AreThere q m) (sym c.as_slice-comings.ensures) (λ m same. there_by c.requires.starts c.args.entering.now.comings m (λ s. there c.args.system.now.declarations c.args.c c.args.item.now c.args.told.now c.args.body.now c.args.effects.now c.args.entering.now c.args.nursery.now c.args.state.now s.ending s.starts c.comings_are_there.ensures m same))

pub begin-requires-clause-below : goal.begin-requires-clause-below
begin-requires-clause-below c x d h q =
    standing.below h.comp c.args.marks.now.bound c.requires.starts (λ s. below c.args.system.now.declarations c.args.c c.args.item.now c.args.told.now c.args.body.now c.args.effects.now c.args.entering.now c.args.nursery.now c.args.state.now s.ending s.starts c.receivers_are_made.ensures c.well_formed-2.ensures.declared c.args.marks.now.bound c.requires.room x d h q)

pub do_all-requires-clause-begins : goal.do_all-requires-clause-begins
do_all-requires-clause-begins c =
    ∥∥₁_map c.requires.starts (λ s. record { ending = s.ending; amid = amid c.args.system.now.declarations c.args.c c.args.item.now c.args.told.now c.args.body.now c.args.effects.now c.args.entering.now c.args.nursery.now c.args.state.now s.ending s.starts c.begin.new.state (subst (λ q. IsBegun c.args.c c.args.item.now c.args.body.now q c.args.state.now c.begin.new.state) c.as_slice-comings.ensures c.begin.ensures.begun) c.handlings_begin.ensures c.entering_has_come.ensures c.numbers_stay.ensures })

pub do_all-requires-clause-above : goal.do_all-requires-clause-above
do_all-requires-clause-above c =
    above_now c.args.c c.args.item.now c.args.told.now c.args.body.now c.args.effects.now c.args.entering.now c.args.nursery.now c.args.state.now c.begin.new.state (subst (λ q. IsBegun c.args.c c.args.item.now c.args.body.now q c.args.state.now c.begin.new.state) c.as_slice-comings.ensures c.begin.ensures.begun) c.requires.above

pub do_all-requires-clause-room : goal.do_all-requires-clause-room
do_all-requires-clause-room c =
    room_now c.args.c c.args.item.now c.args.told.now c.args.body.now c.args.effects.now c.args.entering.now c.args.nursery.now c.args.state.now c.begin.new.state (subst (λ q. IsBegun c.args.c c.args.item.now c.args.body.now q c.args.state.now c.begin.new.state) c.as_slice-comings.ensures c.begin.ensures.begun) c.rooms_are_left.ensures c.args.marks.now.bound c.begin.new.marks.bound c.begin.ensures.marks.bound c.requires.room c.requires.puts

pub do_all-requires-clause-queued : goal.do_all-requires-clause-queued
do_all-requires-clause-queued c =
    let a = same_number (waits_in_all c.begin.new.state) (waits_in_all c.args.state.now + length c.args.entering.now.comings) c.requires.starts (λ s. counted c.args.system.now.declarations c.args.c c.args.item.now c.args.told.now c.args.body.now c.args.effects.now c.args.entering.now c.args.nursery.now c.args.state.now s.ending s.starts c.begin.new.state (subst (λ q. IsBegun c.args.c c.args.item.now c.args.body.now q c.args.state.now c.begin.new.state) c.as_slice-comings.ensures c.begin.ensures.begun) c.comings_are_there.ensures c.puts_follow.ensures c.same_queues_count.ensures c.comes_count.ensures c.channels_are_numbered.ensures) in
    let b = c.requires.queued in
    let d = ap length c.as_slice-comings.ensures in
    omega (arith, a, b, d)

pub returns-clause-acted : goal.returns-clause-acted
returns-clause-acted c y s =
    c.do_all.ensures.done y (amid c.args.system.now.declarations c.args.c c.args.item.now c.args.told.now c.args.body.now c.args.effects.now c.args.entering.now c.args.nursery.now c.args.state.now y s c.begin.new.state (subst (λ q. IsBegun c.args.c c.args.item.now c.args.body.now q c.args.state.now c.begin.new.state) c.as_slice-comings.ensures c.begin.ensures.begun) c.handlings_begin.ensures c.entering_has_come.ensures c.numbers_stay.ensures)

pub returns-clause-marks : goal.returns-clause-marks
returns-clause-marks c y s =
    c.marks_add_up.ensures ((1 + length c.args.body.now.slots) + length c.args.entering.now.comings) (marks_of c.args.system.now.declarations (acts y.before) c.args.c c.args.item.now c.args.effects.now)
    c.args.marks.now c.begin.new.marks c.do_all.new.marks (state_of c.args.state.now) (state_of c.begin.new.state) (state_of c.do_all.new.state)
    (subst (λ q. IsMarked ((1 + length c.args.body.now.slots) + length q) c.args.marks.now c.begin.new.marks (state_of c.args.state.now) (state_of c.begin.new.state)) c.as_slice-comings.ensures c.begin.ensures.marks)
    (c.do_all.ensures.marks y (amid c.args.system.now.declarations c.args.c c.args.item.now c.args.told.now c.args.body.now c.args.effects.now c.args.entering.now c.args.nursery.now c.args.state.now y s c.begin.new.state (subst (λ q. IsBegun c.args.c c.args.item.now c.args.body.now q c.args.state.now c.begin.new.state) c.as_slice-comings.ensures c.begin.ensures.begun) c.handlings_begin.ensures c.entering_has_come.ensures c.numbers_stay.ensures))
