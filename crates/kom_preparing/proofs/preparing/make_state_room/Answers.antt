use Rattle.std.proofs.Common.{◌≡◌, ◌+◌, ◌≤◌, ◌<◌, ap, ◌∙◌, sym, subst, length, arith}
use Rattle.std.specs.Prelude.{IfSome}
use Rattle.kom_lang.specs.declared.body.Body.{Body}
use Rattle.kom_system.specs.declared.system.System.{System}
use Rattle.kom_system.specs.WellFormed.{IsDeclared}
use Rattle.kom_nursery.specs.Nurseries.{AreCreatable, IsNext, broods_of}
use Rattle.kom_record.specs.Entries.{acts}
use Rattle.kom_state.specs.Parts.{state_of}
use Rattle.kom_turns.specs.Runs.{history_of, system_of}
use Rattle.kom_turns.proofs.Standing.{at_most}
use Rattle.kom_preparing.proofs.Ended as ended
use Rattle.kom_preparing.proofs.Roomy.{state_roomier}
use Rattle.kom_preparing.proofs.Whole.{channels_by, creatable_by, few_by, knows, made_by, number_by, slots_by, there_by}
use Rattle.kom_preparing.proofs.preparing.make_state_room.Goals as goal

pub depth_of-depth-requires : goal.depth_of-depth-requires
depth_of-depth-requires c =
    let v = c.args.run.now in
    there_by c.args.c c.args.took c.args.item.now c.args.body.now c.args.effects.now v (knows c.args.c c.args.took c.args.item.now c.args.body.now c.args.effects.now v c.requires.run c.requires.reacted)

pub reserve_state-requires-clause-made : goal.reserve_state-requires-clause-made
reserve_state-requires-clause-made c =
    let v = c.args.run.now in
    made_by c.args.c c.args.took c.args.item.now c.args.body.now c.args.effects.now v (knows c.args.c c.args.took c.args.item.now c.args.body.now c.args.effects.now v c.requires.run c.requires.reacted)

pub reserve_state-requires-clause-slots : goal.reserve_state-requires-clause-slots
reserve_state-requires-clause-slots c =
    let v = c.args.run.now in
    let D = subst (λ y. IsDeclared y.declarations) c.deref.ensures c.well_formed-2.ensures.declared in
    slots_by c.args.c c.args.took c.args.item.now c.args.body.now c.args.effects.now v (knows c.args.c c.args.took c.args.item.now c.args.body.now c.args.effects.now v c.requires.run c.requires.reacted) D

pub reserve_state-requires-clause-few : goal.reserve_state-requires-clause-few
reserve_state-requires-clause-few c =
    let v = c.args.run.now in
    let D = subst (λ y. IsDeclared y.declarations) c.deref.ensures c.well_formed-2.ensures.declared in
    few_by c.args.c c.args.took c.args.item.now c.args.body.now c.args.effects.now v (knows c.args.c c.args.took c.args.item.now c.args.body.now c.args.effects.now v c.requires.run c.requires.reacted) D c.handlings_are_prepared.ensures

pub reserve_state-requires-clause-number : goal.reserve_state-requires-clause-number
reserve_state-requires-clause-number c =
    let v = c.args.run.now in
    let D = subst (λ y. IsDeclared y.declarations) c.deref.ensures c.well_formed-2.ensures.declared in
    number_by c.args.c c.args.took c.args.item.now c.args.body.now c.args.effects.now v (knows c.args.c c.args.took c.args.item.now c.args.body.now c.args.effects.now v c.requires.run c.requires.reacted) D c.handlings_are_prepared.ensures

pub reserve_state-requires-clause-channels : goal.reserve_state-requires-clause-channels
reserve_state-requires-clause-channels c =
    let v = c.args.run.now in
    let D = subst (λ y. IsDeclared y.declarations) c.deref.ensures c.well_formed-2.ensures.declared in
    channels_by c.args.c c.args.took c.args.item.now c.args.body.now c.args.effects.now v (knows c.args.c c.args.took c.args.item.now c.args.body.now c.args.effects.now v c.requires.run c.requires.reacted) D c.numbers_are_enough.ensures c.channels_are_numbered.ensures

pub reserve_state-requires-clause-depth : goal.reserve_state-requires-clause-depth
reserve_state-requires-clause-depth c =
    let v = c.args.run.now in
    let D = subst (λ y. IsDeclared y.declarations) c.deref.ensures c.well_formed-2.ensures.declared in
    at_most _ _ (knows c.args.c c.args.took c.args.item.now c.args.body.now c.args.effects.now v c.requires.run c.requires.reacted)
    (λ k.
    let a = (ended.prepared k.by c.args.c c.args.took c.args.item.now c.args.body.now c.args.effects.now v k.stands k.reacted D c.handlings_are_prepared.ensures).some_depth in
    let b : c.depth_of-depth.result ≡ k.reacted.old.depth =
    subst (λ o. IfSome o (λ (b : Body). c.depth_of-depth.result ≡ b.depth)) (ended.body_there k.by c.args.c c.args.took c.args.item.now c.args.body.now c.args.effects.now v k.stands k.reacted) c.depth_of-depth.ensures
    in
    omega (arith, a, b))

pub reserve_state-requires-clause-fits : goal.reserve_state-requires-clause-fits
reserve_state-requires-clause-fits c =
    let v = c.args.run.now in
    let D = subst (λ y. IsDeclared y.declarations) c.deref.ensures c.well_formed-2.ensures.declared in
    subst (λ (y : System). AreCreatable y.declarations c.depth_of-depth.result c.args.effects.now) (sym c.deref-2.ensures)
    (creatable_by (knows c.args.c c.args.took c.args.item.now c.args.body.now c.args.effects.now v c.requires.run c.requires.reacted) (system_of v) c.depth_of-depth.result c.args.effects.now
    (λ k.
    let b : c.depth_of-depth.result ≡ k.reacted.old.depth =
    subst (λ o. IfSome o (λ (b : Body). c.depth_of-depth.result ≡ b.depth)) (ended.body_there k.by c.args.c c.args.took c.args.item.now c.args.body.now c.args.effects.now v k.stands k.reacted) c.depth_of-depth.ensures
    in
    subst (λ n. AreCreatable (system_of v) n c.args.effects.now) (sym b)
    (ended.prepared k.by c.args.c c.args.took c.args.item.now c.args.body.now c.args.effects.now v k.stands k.reacted D c.handlings_are_prepared.ensures).creatable))

pub returns-in_err-nursery-clause-same : goal.returns-in_err-nursery-clause-same
returns-in_err-nursery-clause-same c = state_roomier c.args.run.now c.reserve_state.new.state c.reserve_state.ensures.same c.reserve_state.ensures.not_less

pub returns-clause-same : goal.returns-clause-same
returns-clause-same c = state_roomier c.args.run.now c.reserve_state.new.state c.reserve_state.ensures.same c.reserve_state.ensures.not_less

pub returns-clause-slots : goal.returns-clause-slots
returns-clause-slots c =
    let v = c.args.run.now in
    let D = subst (λ y. IsDeclared y.declarations) c.deref.ensures c.well_formed-2.ensures.declared in
    slots_by c.args.c c.args.took c.args.item.now c.args.body.now c.args.effects.now v (knows c.args.c c.args.took c.args.item.now c.args.body.now c.args.effects.now v c.requires.run c.requires.reacted) D

pub returns-clause-effects : goal.returns-clause-effects
returns-clause-effects c =
    let v = c.args.run.now in
    let D = subst (λ y. IsDeclared y.declarations) c.deref.ensures c.well_formed-2.ensures.declared in
    few_by c.args.c c.args.took c.args.item.now c.args.body.now c.args.effects.now v (knows c.args.c c.args.took c.args.item.now c.args.body.now c.args.effects.now v c.requires.run c.requires.reacted) D c.handlings_are_prepared.ensures

pub returns-clause-number : goal.returns-clause-number
returns-clause-number c =
    let v = c.args.run.now in
    let D = subst (λ y. IsDeclared y.declarations) c.deref.ensures c.well_formed-2.ensures.declared in
    let a = ap length c.reserve_state.ensures.same.tree.nodes in
    let b = number_by c.args.c c.args.took c.args.item.now c.args.body.now c.args.effects.now v (knows c.args.c c.args.took c.args.item.now c.args.body.now c.args.effects.now v c.requires.run c.requires.reacted) D c.handlings_are_prepared.ensures in
    omega (arith, a, b)

pub returns-clause-planted : goal.returns-clause-planted
returns-clause-planted c w s r =
    let v = c.args.run.now in
    let D = subst (λ y. IsDeclared y.declarations) c.deref.ensures c.well_formed-2.ensures.declared in
    let b : c.depth_of-depth.result ≡ r.old.depth =
    subst (λ o. IfSome o (λ (b : Body). c.depth_of-depth.result ≡ b.depth)) (ended.body_there w c.args.c c.args.took c.args.item.now c.args.body.now c.args.effects.now v s r) c.depth_of-depth.ensures
    in
    let next = subst (λ n. IsNext (system_of v) (acts (history_of v)) c.args.c n (length (state_of v.state).nodes)) (sym b)
    (ended.next w c.args.c c.args.took c.args.item.now c.args.body.now c.args.effects.now v s r D c.handlings_are_prepared.ensures)
    in
    subst (λ (y : System). IsNext y.declarations (acts (history_of v)) c.args.c c.depth_of-depth.result (length (state_of v.state).nodes) → c.in_ok-nursery.nursery ≡ broods_of y.declarations (acts (history_of v)) c.args.c c.args.item.now c.args.effects.now)
    c.deref-2.ensures (c.in_ok-nursery.ensures.planted (acts (history_of v)) c.args.item.now) next

pub returns-clause-room : goal.returns-clause-room
returns-clause-room c bound most = c.in_ok-nursery.ensures.room bound (let a = ap length c.reserve_state.ensures.same.tree.nodes in omega (arith, a, most))
