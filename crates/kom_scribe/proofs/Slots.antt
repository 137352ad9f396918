-- Occupants of slots after changes, and as they are looked up.
use Rattle.std.proofs.Common.{◌≡◌, ℕ, suc, ◌+◌, ◌<◌, ◌≤◌, ◌&&◌, ◌==◌, if◌then◌else◌, refl, sym, ap, ◌∙◌, List, [], ◌∷◌, ◌++◌, length, get_or, take, drop, Option, Some, None, inl, inr, arith}
use Rattle.std.specs.Ordering.{nat_cmp, is_eq, ordering_then}
use Rattle.std.specs.declared.cmp.Ordering.{Ordering}
use Rattle.std.specs.declared.cmp.Ordering.TheVariants.{Less, Equal, Greater}
use Rattle.std.specs.Cmp.{unsigned_ties}
use Rattle.std.proofs.lemmas.List.{take_more, take-append-drop}
use Rattle.std.proofs.lemmas.Bool.{eqb-true, eq-eqb, ne_eqb, eqb-false}
use Rattle.std.proofs.lemmas.Bool.Decides.{eqb_tells}
use Rattle.kom_trees.specs.declared.nodes.SlotOf.{SlotOf}
use Rattle.kom_scribe.specs.declared.draft.Change.{Change}
use Rattle.kom_scribe.specs.declared.draft.Change.TheVariants.{Born, Gone}
use Rattle.kom_scribe.specs.Drafts.{slot_cmp, is_at, occupant_in, births}

eqb_sym : (a b : ℕ) → (a == b) ≡ (b == a)
eqb_sym a b = elim (eqb_tells a b) [
  | inl t ↦ t.0 ∙ sym (eq-eqb b a (sym (eqb-true a b t.0)))
  | inr t ↦ t.0 ∙ sym (ne_eqb b a (λ e. eqb-false a b t.0 (sym e)))
]

both_equal : (r s : Ordering) → is_eq (ordering_then r s) ≡ (is_eq r && is_eq s)
both_equal Less s = refl
both_equal Equal s = refl
both_equal Greater s = refl

-- a key is looked up by both its parts
pub slot_tied : (p s : ℕ) (at : SlotOf) → is_eq (slot_cmp (record { comp = p; slot = s }) at) ≡ is_at p s (Some at)
slot_tied p s at =
    both_equal (nat_cmp p at.comp) (nat_cmp s at.slot)
    ∙ ap (λ b. b && is_eq (nat_cmp s at.slot)) (sym (unsigned_ties p at.comp) ∙ eqb_sym p at.comp)
    ∙ ap (λ b. (at.comp == p) && b) (sym (unsigned_ties s at.slot) ∙ eqb_sym s at.slot)

-- changes one after another
pub occupant_split : (p s n : ℕ) (old : Option ℕ) (xs ys : List Change) → occupant_in p s n old (xs ++ ys) ≡ occupant_in p s (n + births xs) (occupant_in p s n old xs) ys
occupant_split p s n old [] ys = ap (λ m. occupant_in p s m old ys) (let e : n ≡ n + 0 = omega arith in e)
occupant_split p s n old (Born at ∷ xs) ys =
    occupant_split p s (suc n) (if is_at p s at then Some n else old) xs ys
    ∙ ap (λ m. occupant_in p s m (occupant_in p s (suc n) (if is_at p s at then Some n else old) xs) ys) (let e : suc n + births xs ≡ n + suc (births xs) = omega arith in e)
occupant_split p s n old (Gone at ∷ xs) ys = occupant_split p s n (if is_at p s (Some at) then None else old) xs ys

pub births_split : (xs ys : List Change) → births (xs ++ ys) ≡ births xs + births ys
births_split [] ys = omega arith
births_split (Born at ∷ xs) ys = let e = births_split xs ys in omega (arith, e)
births_split (Gone at ∷ xs) ys = births_split xs ys

pub few_births : (xs : List Change) → births xs ≤ length xs
few_births [] = omega arith
few_births (Born at ∷ xs) = let l = few_births xs in omega (arith, l)
few_births (Gone at ∷ xs) = let l = few_births xs in omega (arith, l)

-- one change more of a list that is gone through
pub one_change_more : (p s n : ℕ) (old : Option ℕ) (xs : List Change) (i : ℕ) (d : Change) → i < length xs → occupant_in p s n old (take (i + 1) xs) ≡ occupant_in p s (n + births (take i xs)) (occupant_in p s n old (take i xs)) (get_or xs i d ∷ [])
one_change_more p s n old xs i d l = ap (occupant_in p s n old) (take_more xs i d l) ∙ occupant_split p s n old (take i xs) (get_or xs i d ∷ [])

pub one_birth_more : (xs : List Change) (i : ℕ) (d : Change) → i < length xs → births (take (i + 1) xs) ≡ births (take i xs) + births (get_or xs i d ∷ [])
one_birth_more xs i d l = ap births (take_more xs i d l) ∙ births_split (take i xs) (get_or xs i d ∷ [])

pub fewer_births : (xs : List Change) (n : ℕ) → births (take n xs) ≤ births xs
fewer_births xs n = let e = ap births (take-append-drop n xs) in let g = births_split (take n xs) (drop n xs) in omega (arith, e, g)
