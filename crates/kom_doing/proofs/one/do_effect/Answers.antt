use Rattle.std.proofs.Common.{sym, subst}
use Rattle.kom_lang.specs.declared.body.Effect.{Effect}
use Rattle.kom_marks.specs.Marking.{IsMarked}
use Rattle.kom_state.specs.Parts.{state_of}
use Rattle.kom_doing.specs.Effects.{IsDoable, IsDone, LeavesRoomBy, marks_by}
use Rattle.kom_doing.proofs.Cases.{create_marks, create_room, destroy_done, hold_done, keeps_all, only_puts, plug_done, put_keeps, put_room, resume_done, unmarked, unplug_done}
use Rattle.kom_doing.proofs.one.do_effect.Goals as goal

pub returns-in-Hold-clause-step : goal.returns-in-Hold-clause-step
returns-in-Hold-clause-step c =
    let S = c.args.system.now.declarations in
    let v = c.args.state.now in
    let w = c.hold.new.state in
    subst (λ (e : Effect). IsDone S c.args.c c.args.item.now c.args.told.now e c.args.nursery.now c.args.nursery.now v w) (sym c.in-Hold.is)
    (hold_done S c.args.c c.args.item.now c.args.told.now c.in-Hold.wire c.args.nursery.now v w c.numbers_stay.ensures c.hold.ensures.room.numbers c.hold.ensures.step)

pub returns-in-Resume-clause-step : goal.returns-in-Resume-clause-step
returns-in-Resume-clause-step c =
    let S = c.args.system.now.declarations in
    let v = c.args.state.now in
    let w = c.resume.new.state in
    subst (λ (e : Effect). IsDone S c.args.c c.args.item.now c.args.told.now e c.args.nursery.now c.args.nursery.now v w) (sym c.in-Resume.is)
    (resume_done S c.args.c c.args.item.now c.args.told.now c.in-Resume.wire c.args.nursery.now v w c.numbers_stay.ensures c.resume.ensures.room.numbers c.resume.ensures.step)

pub returns-in-Unplug-clause-step : goal.returns-in-Unplug-clause-step
returns-in-Unplug-clause-step c =
    let S = c.args.system.now.declarations in
    let v = c.args.state.now in
    let w = c.unplug.new.state in
    subst (λ (e : Effect). IsDone S c.args.c c.args.item.now c.args.told.now e c.args.nursery.now c.args.nursery.now v w) (sym c.in-Unplug.is)
    (unplug_done S c.args.c c.args.item.now c.args.told.now c.in-Unplug.wire c.in-Unplug.end c.args.nursery.now v w c.numbers_stay.ensures c.unplug.ensures.room.numbers c.unplug.ensures.step)

pub returns-in-Plug-clause-step : goal.returns-in-Plug-clause-step
returns-in-Plug-clause-step c =
    let S = c.args.system.now.declarations in
    let v = c.args.state.now in
    let w = c.plug.new.state in
    subst (λ (e : Effect). IsDone S c.args.c c.args.item.now c.args.told.now e c.args.nursery.now c.args.nursery.now v w) (sym c.in-Plug.is)
    (plug_done S c.args.c c.args.item.now c.args.told.now c.in-Plug.wire c.in-Plug.end c.in-Plug.place c.half_at-at.result c.args.nursery.now v w c.numbers_stay.ensures c.plug.ensures.room.numbers c.half_at-at.ensures c.plug.ensures.step)

pub returns-in-Destroy-clause-step : goal.returns-in-Destroy-clause-step
returns-in-Destroy-clause-step c =
    let S = c.args.system.now.declarations in
    let v = c.args.state.now in
    let w = c.destroy.new.state in
    subst (λ (e : Effect). IsDone S c.args.c c.args.item.now c.args.told.now e c.args.nursery.now c.args.nursery.now v w) (sym c.in-Destroy.is)
    (destroy_done S c.args.c c.args.item.now c.args.told.now c.in-Destroy.slot c.args.nursery.now v w c.numbers_stay.ensures c.destroy.ensures.room.numbers c.destroy.ensures.step)

pub returns-in-Hold-clause-room : goal.returns-in-Hold-clause-room
returns-in-Hold-clause-room c =
    let v = c.args.state.now in
    let w = c.hold.new.state in
    subst (λ (e : Effect). LeavesRoomBy c.args.c e c.args.nursery.now v w) (sym c.in-Hold.is) (keeps_all v w c.hold.ensures.room c.hold.ensures.controls c.hold.ensures.queues)

pub returns-in-Resume-clause-room : goal.returns-in-Resume-clause-room
returns-in-Resume-clause-room c =
    let v = c.args.state.now in
    let w = c.resume.new.state in
    subst (λ (e : Effect). LeavesRoomBy c.args.c e c.args.nursery.now v w) (sym c.in-Resume.is) (keeps_all v w c.resume.ensures.room c.resume.ensures.controls c.resume.ensures.queues)

pub returns-in-Unplug-clause-room : goal.returns-in-Unplug-clause-room
returns-in-Unplug-clause-room c =
    let v = c.args.state.now in
    let w = c.unplug.new.state in
    subst (λ (e : Effect). LeavesRoomBy c.args.c e c.args.nursery.now v w) (sym c.in-Unplug.is) (keeps_all v w c.unplug.ensures.room c.unplug.ensures.controls c.unplug.ensures.queues)

pub returns-in-Plug-clause-room : goal.returns-in-Plug-clause-room
returns-in-Plug-clause-room c =
    let v = c.args.state.now in
    let w = c.plug.new.state in
    subst (λ (e : Effect). LeavesRoomBy c.args.c e c.args.nursery.now v w) (sym c.in-Plug.is) (keeps_all v w c.plug.ensures.room c.plug.ensures.controls c.plug.ensures.queues)

pub returns-in-Unplug-clause-marks : goal.returns-in-Unplug-clause-marks
returns-in-Unplug-clause-marks c =
    let v = c.args.state.now in
    let w = c.unplug.new.state in
    subst (λ (e : Effect). IsMarked (marks_by (state_of v) c.args.c e c.args.nursery.now) c.args.marks.now c.args.marks.now (state_of v) (state_of w)) (sym c.in-Unplug.is)
    (unmarked c.args.marks.now (state_of v) (state_of w) c.marks_stay.ensures c.marks_are_few.ensures c.unplug.ensures.work)

pub returns-in-Plug-clause-marks : goal.returns-in-Plug-clause-marks
returns-in-Plug-clause-marks c =
    let v = c.args.state.now in
    let w = c.plug.new.state in
    subst (λ (e : Effect). IsMarked (marks_by (state_of v) c.args.c e c.args.nursery.now) c.args.marks.now c.args.marks.now (state_of v) (state_of w)) (sym c.in-Plug.is)
    (unmarked c.args.marks.now (state_of v) (state_of w) c.marks_stay.ensures c.marks_are_few.ensures c.plug.ensures.work)

pub returns-in-Create-clause-room : goal.returns-in-Create-clause-room
returns-in-Create-clause-room c =
    let S = c.args.system.now.declarations in
    let v = c.args.state.now in
    let may = subst (λ (e : Effect). IsDoable S c.args.c c.args.item.now c.args.told.now e c.args.nursery.now c.args.marks.now.bound v) c.in-Create.is c.requires.may in
    subst (λ (e : Effect). LeavesRoomBy c.args.c e c.args.nursery.now v c.create.new.state) (sym c.in-Create.is)
    (create_room S c.args.nursery.now c.create.new.nursery c.args.marks.now.bound v c.create.new.state may c.create.ensures.sown)

pub returns-in-Create-clause-marks : goal.returns-in-Create-clause-marks
returns-in-Create-clause-marks c =
    let S = c.args.system.now.declarations in
    let v = c.args.state.now in
    let w = c.create.new.state in
    let may = subst (λ (e : Effect). IsDoable S c.args.c c.args.item.now c.args.told.now e c.args.nursery.now c.args.marks.now.bound v) c.in-Create.is c.requires.may in
    subst (λ (e : Effect). IsMarked (marks_by (state_of v) c.args.c e c.args.nursery.now) c.args.marks.now c.create.new.marks (state_of v) (state_of w)) (sym c.in-Create.is)
    (create_marks S c.args.nursery.now c.args.marks.now.bound v w c.args.marks.now c.create.new.marks may c.create.ensures.marks)

pub returns-in_default-clause-room : goal.returns-in_default-clause-room
returns-in_default-clause-room c =
    let S = c.args.system.now.declarations in
    let v = c.args.state.now in
    let w = c.put_by_effect.new.state in
    let e = c.args.effect.now in
    let d = c.in_default in
    let puts = only_puts e d.not-Hold d.not-Resume d.not-Unplug d.not-Plug d.not-Create d.not-Destroy in
    put_room S c.args.c c.args.item.now c.args.told.now e c.args.nursery.now v w puts
    (put_keeps v c.holds_together.ensures c.args.c c.requires.living c.args.told.now c.requires.above c.args.item.now e w puts c.put_by_effect.ensures.room c.put_by_effect.ensures.controls c.put_by_effect.ensures.queues c.put_by_effect.ensures.spares)
