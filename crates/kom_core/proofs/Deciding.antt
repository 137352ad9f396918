-- What came of a handling.
use Rattle.std.proofs.Common.{◌≡◌, subst}
use Rattle.kom_lang.specs.Declarations.{Declarations}
use Rattle.kom_lang.specs.declared.body.Body.{Body}
use Rattle.kom_record.specs.declared.entry.Outcome.{Outcome}
use Rattle.kom_record.specs.declared.entry.Outcome.TheVariants as outcome
use Rattle.kom_record.specs.declared.item.Item.{Item}
use Rattle.kom_record.specs.Reaction.{Reacts}

-- no handling comes to Void
pub never_void : (S : Declarations) (b : Body) (item : Item) (o : Outcome) → o ≡ outcome.Void → Reacts S b item o → ⊥
unfolding Reacts
never_void S b item o e r = let P : Outcome → Type 0 = λ q. Reacts S b item q in subst P e r
