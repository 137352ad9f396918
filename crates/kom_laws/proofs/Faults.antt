-- Whom a fault is told to.
use Rattle.std.proofs.Common.{◌≡◌, ℕ, Bool, true, false, refl, ap, ◌∙◌, List, [], ◌∷◌, ◌++◌, Option, Some, None, eq-eqb, inl, inr}
use Rattle.std.specs.Prelude.{nat_eq, is_none, is_some}
use Rattle.std.specs.Option.{option_map_or}
use Rattle.std.proofs.lemmas.Bool.Decides.{eqb_tells}
use Rattle.std.proofs.lemmas.List.{append-nil}
use Rattle.kom_base.specs.Lists.{if_so}
use Rattle.kom_lang.specs.Declarations.{Declarations}
use Rattle.kom_record.specs.declared.plan.Plan.{Plan}
use Rattle.kom_record.specs.declared.item.Control.{Control as ControlItem}
use Rattle.kom_record.specs.declared.item.Control.TheVariants.{Fault}
use Rattle.kom_record.specs.declared.entry.Outcome.TheVariants as outcome
use Rattle.kom_record.specs.declared.entry.Entry.TheVariants.{Did}
use Rattle.kom_record.specs.Entries.{History}
use Rattle.kom_record.specs.Bodies.{nearest}
use Rattle.kom_record.specs.Controls.{control_put, putting, to_nearest}
use Rattle.kom_record.specs.Ready.{is_closed}
use Rattle.kom_record.specs.Model.{model}
use Rattle.kom_laws.specs.Laws.{IsTold}

module _ (S : Declarations) (P : History) (w c took n : ℕ) (to : Option ℕ) (places : List ℕ) where
  abbrev told_to : Option (ℕ × ℕ) → ℕ → List ControlItem
  told_to o b = option_map_or (λ q. if_so (nat_eq q.0 b) (Fault q.1 n ∷ [])) o []

  put_is : (b : ℕ) → control_put S (Did w c took (outcome.Fault n) to places ∷ P) b ≡ control_put S P b ++ told_to (nearest S P c) b
  unfolding control_put putting to_nearest
  put_is b = refl

  not_this : (q : ℕ × ℕ) (b : ℕ) → (q.0 ≡ b → ⊥) → told_to (Some q) b ≡ []
  not_this q b h = elim (eqb_tells q.0 b) [ inl t ↦ absurd (h t.1) | inr t ↦ ap (λ t. if_so t (Fault q.1 n ∷ [])) t.0 ]

  others : (o : Option (ℕ × ℕ)) (b : ℕ) → ((s : ℕ) → o ≡ Some (b, s) → ⊥) → told_to o b ≡ []
  others None b h = refl
  others (Some q) b h = not_this q b (λ e. h q.1 (let f : q ≡ (b, q.1) = ap (λ a. (a, q.1)) e in ap Some f))

  pub fault_is_told : IsTold S P (Did w c took (outcome.Fault n) to places) c n
  fault_is_told = record {
    to_nearest = λ a s e. put_is a ∙ ap (λ o. control_put S P a ++ told_to o a) e ∙ ap (λ t. control_put S P a ++ if_so t (Fault s n ∷ [])) (eq-eqb a a refl);
    others = λ b h. put_is b ∙ ap (λ l. control_put S P b ++ l) (others (nearest S P c) b h) ∙ append-nil _;
  }

  or_true : (b : Bool) → Rattle.std.specs.Prelude.◌||◌ b true ≡ true
  or_true true = refl
  or_true false = refl

  pub unhandled_closes : (Z : Plan) → nearest S P c ≡ None → is_closed S Z (Did w c took (outcome.Fault n) to places ∷ P) ≡ true
  unfolding model
  unhandled_closes Z e = rw (e, or_true _)
