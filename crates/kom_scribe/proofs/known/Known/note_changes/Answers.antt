use Rattle.std.proofs.Common.{◌+◌, ◌∷◌, [], ap, ◌∙◌, sym, length, get_or, take, None, arith}
use Rattle.kom_scribe.specs.declared.draft.Change.TheVariants.{Born}
use Rattle.kom_scribe.specs.Drafts.{occupant_in, births, known_occupant}
use Rattle.kom_scribe.proofs.Slots.{one_change_more, one_birth_more, few_births, fewer_births}
use Rattle.kom_scribe.proofs.known.Known.note_changes.Goals as goal

pub note_change-requires : goal.note_change-requires
note_change-requires c =
    let xs = c.as_slice-change-items.result.now in
    let i = c.loop-change.change-index in
    omega (arith, c.requires, ap births c.as_slice-change-items.ensures.value, one_birth_more xs i (Born None) c.loop-change-test.true, fewer_births xs (i + 1), c.loop-change.invariant.3)

pub overflow_add-next : goal.overflow_add-next
overflow_add-next c =
    let xs = c.as_slice-change-items.result.now in
    let i = c.loop-change.change-index in
    omega (arith, c.loop-change.invariant.2, c.births_of-next.ensures, one_birth_more xs i (Born None) c.loop-change-test.true, fewer_births xs (i + 1), few_births xs, ap length c.as_slice-change-items.ensures.value, c.args.self.now.kinds.small, c.args.draft.now.changes.small)

pub loop-change-preserved : goal.loop-change-preserved
loop-change-preserved c =
    let xs = c.as_slice-change-items.result.now in
    let i = c.loop-change.change-index in
    let x = get_or xs i (Born None) in
    let n = length c.args.self.now.kinds.items in (
      c.note_change.ensures.kinds ∙ c.loop-change.invariant.0,
      λ p s.
          c.note_change.ensures.occupants p s
          ∙ ap (λ m. occupant_in p s m (known_occupant c.loop-change.self p s) (x ∷ [])) c.loop-change.invariant.2
          ∙ ap (λ o. occupant_in p s (n + births (take i xs)) o (x ∷ [])) (c.loop-change.invariant.1 p s)
          ∙ sym (one_change_more p s n (known_occupant c.args.self.now p s) xs i (Born None) c.loop-change-test.true),
      omega (arith, c.loop-change.invariant.2, c.births_of-next.ensures, one_birth_more xs i (Born None) c.loop-change-test.true),
      omega (arith, c.loop-change.invariant.3, c.note_change.ensures.room, one_birth_more xs i (Born None) c.loop-change-test.true),
    )
