-- How many offers a handling has.
use Rattle.std.proofs.Common.{◌≡◌, ℕ, ◌+◌, ◌^◌, ◌<◌, ap, List, ◌∷◌, length, map, Option, Some, arith}
use Rattle.std.proofs.lemmas.List.{length-append, length-map, length-reverse}
use Rattle.kom_lang.specs.Declarations.{Declarations}
use Rattle.kom_lang.specs.declared.body.Body.{Body}
use Rattle.kom_lang.specs.declared.body.Effect.{Effect}
use Rattle.kom_record.specs.declared.item.Item.{Item}
use Rattle.kom_record.specs.declared.plan.Plan.{Plan}
use Rattle.kom_record.specs.declared.entry.Entry.TheVariants.{Did}
use Rattle.kom_record.specs.declared.entry.Outcome.TheVariants.{Done}
use Rattle.kom_record.specs.Entries.{Act, History, acts, acts_for, acts_of, item_at}
use Rattle.kom_record.specs.Legal.{IsLegal}
use Rattle.kom_record.specs.Plans.{PlanFits}
use Rattle.kom_limits.specs.Laws.{ActsAreBounded, RecordsAreShort}

module _ (S : Declarations) (Z : Plan) (P : History) (w c took : ℕ) (item : Item) (body : Body) (effects : List Effect) (to : Option ℕ) (places : List ℕ) where
  acts_long : item_at P took ≡ Some item → length (acts (Did w c took (Done body effects) to places ∷ P)) ≡ length effects + length (acts P)
  unfolding acts acts_of
  acts_long e =
      let act : Effect → Act = λ x. record { by = c; item = item; effect = x } in
      let a = length-append (acts_of P (Did w c took (Done body effects) to places)) (acts P) in
      let b = ap (λ o. length (acts_for c o effects)) e in
      let r = length-reverse (map act effects) in
      let m = length-map effects act in
      omega (arith, a, b, r, m)

  pub places_small : ActsAreBounded → RecordsAreShort → PlanFits S Z → IsLegal S Z (Did w c took (Done body effects) to places ∷ P) → item_at P took ≡ Some item → (length effects + 2 < 2 ^ 32) × (length P < 2 ^ 32)
  places_small bounded short f l e =
      let a = bounded S Z (Did w c took (Done body effects) to places ∷ P) l in
      let b = short S Z (Did w c took (Done body effects) to places ∷ P) l in
      let k = acts_long e in
      let s = f.steps in
      let i = f.instants in
      (omega (arith, a, k, s), omega (arith, b, s, i))
