use Rattle.std.proofs.Common.{◌≡◌, subst, [], Some, None}
use Rattle.kom_record.specs.declared.entry.Outcome.TheVariants as outcome
use Rattle.kom_record.specs.declared.entry.Entry.TheVariants.{Did}
use Rattle.kom_record.specs.Entries.{item_at}
use Rattle.kom_system.specs.declared.system.System.{System}
use Rattle.kom_system.specs.WellFormed.{IsDeclared}
use Rattle.kom_entering.specs.Lists.{IsEntering}
use Rattle.kom_entering.specs.Standing.{StandsAfter}
use Rattle.kom_turns.specs.Runs.{history_of, system_of}
use Rattle.kom_turns.proofs.Standing.{at_most, below}
use Rattle.kom_preparing.proofs.Ended as ended
use Rattle.kom_preparing.proofs.Whole.{knows}
use Rattle.kom_preparing.proofs.working.entering_of.Goals as goal

pub of-requires-clause-effects : goal.of-requires-clause-effects
of-requires-clause-effects c =
    let v = c.args.run.now in
    let D = subst (λ y. IsDeclared y.declarations) c.deref.ensures c.well_formed-2.ensures.declared in
    below _ _ (knows c.args.c c.args.took c.args.item.now c.args.body.now c.args.effects.now v c.requires.run c.requires.reacted)
    (λ k. ended.small k.by c.args.c c.args.took c.args.item.now c.args.body.now c.args.effects.now v k.stands k.reacted D c.places_fit.ensures)

pub of-requires-clause-record : goal.of-requires-clause-record
of-requires-clause-record c =
    let v = c.args.run.now in
    below _ _ (knows c.args.c c.args.took c.args.item.now c.args.body.now c.args.effects.now v c.requires.run c.requires.reacted)
    (λ k. ended.short k.by c.args.c c.args.took c.args.item.now c.args.body.now c.args.effects.now v k.stands k.reacted)

pub returns-clause-entering : goal.returns-clause-entering
returns-clause-entering c w s r by to places =
    let v = c.args.run.now in
    let D = subst (λ y. IsDeclared y.declarations) c.deref.ensures c.well_formed-2.ensures.declared in
    subst (λ (y : System). StandsAfter y.declarations (history_of v) v.state → item_at (history_of v) c.args.took ≡ Some c.args.item.now
    → IsEntering y.declarations (history_of v) (Did by c.args.c c.args.took (outcome.Done c.args.body.now c.args.effects.now) to places) c.in_ok-entering.entering) c.deref-2.ensures (c.in_ok-entering.ensures by c.args.body.now to places)
    (ended.after w c.args.c c.args.took c.args.item.now c.args.body.now c.args.effects.now v s r D)
    (ended.taken w c.args.c c.args.took c.args.item.now c.args.body.now c.args.effects.now v s r)

pub returns-clause-once : goal.returns-clause-once
returns-clause-once c x d =
    let v = c.args.run.now in
    let D = subst (λ y. IsDeclared y.declarations) c.deref.ensures c.well_formed-2.ensures.declared in
    at_most _ _ (knows c.args.c c.args.took c.args.item.now c.args.body.now c.args.effects.now v c.requires.run c.requires.reacted)
    (λ k. c.comings_fit.ensures (system_of v) (history_of v) (Did k.by c.args.c c.args.took (outcome.Done c.args.body.now c.args.effects.now) None []) c.in_ok-entering.entering x d
    (subst (λ (y : System). StandsAfter y.declarations (history_of v) v.state → item_at (history_of v) c.args.took ≡ Some c.args.item.now
    → IsEntering y.declarations (history_of v) (Did k.by c.args.c c.args.took (outcome.Done c.args.body.now c.args.effects.now) None []) c.in_ok-entering.entering) c.deref-2.ensures (c.in_ok-entering.ensures k.by c.args.body.now None [])
    (ended.after k.by c.args.c c.args.took c.args.item.now c.args.body.now c.args.effects.now v k.stands k.reacted D)
    (ended.taken k.by c.args.c c.args.took c.args.item.now c.args.body.now c.args.effects.now v k.stands k.reacted)))
