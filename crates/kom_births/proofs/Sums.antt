-- Sums and rows over the first of some seeds.
use Rattle.std.proofs.Common.{◌≡◌, ℕ, ◌+◌, ◌<◌, ◌≤◌, Bool, true, false, sym, ap, ◌∙◌, subst, List, [], ◌∷◌, ◌++◌, length, get_or, take, drop, Option, Some, None, if◌then◌else◌, inl, inr, arith}
use Rattle.std.specs.Prelude.{◌==◌, is_some}
use Rattle.std.proofs.lemmas.Bool.{ne_eqb}
use Rattle.std.proofs.lemmas.Bool.Decides.{eqb_tells}
use Rattle.std.proofs.lemmas.List.{length-append, length-take-le, take_all, take_more, take-append-drop}
use Rattle.kom_record.specs.declared.item.Control.{Control as ControlItem}
use Rattle.kom_state.specs.Parts.{Parts, control_spare, has_row}
use Rattle.kom_state.specs.Plantings.{items_of}
use Rattle.kom_state.specs.Rooms.{HasNoLess}
use Rattle.kom_births.specs.declared.seed.Seed.{Seed}
use Rattle.kom_births.specs.Seeds.{links_of}
use Rattle.kom_births.specs.Sowing.{HasRows, items_for}
use Rattle.kom_births.proofs.OneMore.{items_push, links_append, links_push, past_items}
use Rattle.kom_births.proofs.Sown.{by_order}

module _ (xs : List Seed) (k : ℕ) (x : Seed) (h : k < length xs) (e : x ≡ get_or xs k x) where
  next : take (k + 1) xs ≡ take k xs ++ x ∷ []
  next = take_more xs k x h ∙ ap (λ z. take k xs ++ z ∷ []) (sym e)

  pub wider : length (links_of (take (k + 1) xs)) ≡ length (links_of (take k xs)) + length x.links
  wider = ap (λ l. length (links_of l)) next ∙ links_push (take k xs) x

  pub rows_more : (first : ℕ) (v w : Parts) → HasNoLess v w → HasRows (take k xs) first v → has_row w (first + k) ≡ true → length (items_of x.init) ≤ control_spare w (first + k) → HasRows (take (k + 1) xs) first w
  rows_more first v w keeps r row room =
      let long : length (take k xs) ≡ k = length-take-le k xs (omega (arith, h)) in
      let all = ap length next in
      let two = length-append (take k xs) (x ∷ []) in
      record {
        rows = λ c low high. elim (eqb_tells c (first + k)) [
          | inl t ↦ ap (has_row w) t.1 ∙ row
          | inr t ↦ keeps.rows c (r.rows c low (let z : c < first + length (take k xs) = by_less c low high t.1 in z))
        ];
        controls = λ c.
            let a = r.controls c in
            let b = keeps.controls c in
            let f = ap (items_for c first) next ∙ items_push c first (take k xs) x in
            elim (eqb_tells c (first + k)) [
              | inl t ↦
                  let z : items_for c first (take k xs) ≡ 0 = past_items c first (take k xs) (let q = t.1 in omega (arith, q, long)) in
                  let s : control_spare w c ≡ control_spare w (first + k) = ap (control_spare w) t.1 in
                  let g : (if c == first + length (take k xs) then length (items_of x.init) else 0) ≤ length (items_of x.init) = at_most (c == first + length (take k xs)) (length (items_of x.init)) in
                  omega (arith, room, f, z, s, g)
              | inr t ↦
                  let g : (if c == first + length (take k xs) then length (items_of x.init) else 0) ≡ 0 = ap (λ b. if b then length (items_of x.init) else 0) (ne_eqb c (first + length (take k xs)) (λ q. t.1 (omega (arith, q, long)))) in
                  omega (arith, a, b, f, g)
            ];
      }
    where
      by_less : (c : ℕ) → first ≤ c → c < first + length (take (k + 1) xs) → (c ≡ first + k → ⊥) → c < first + length (take k xs)
      by_less c low high n =
          let long : length (take k xs) ≡ k = length-take-le k xs (omega (arith, h)) in
          let all = ap length next in
          let two = length-append (take k xs) (x ∷ []) in
          by_order c (first + k) (λ l. omega (arith, l, long)) (λ q. absurd (n q)) (λ l. absurd (omega (arith, l, high, all, two, long)))

      at_most : (b : Bool) (n : ℕ) → (if b then n else 0) ≤ n
      at_most true n = omega arith
      at_most false n = omega arith

pub rows_all : (xs : List Seed) (k first : ℕ) (v : Parts) → length xs ≤ k → HasRows (take k xs) first v → HasRows xs first v
rows_all xs k first v h r = subst (λ l. HasRows l first v) (take_all k xs h) r

-- the sum so far fits where the whole does
pub fits_so_far : (xs : List Seed) (k : ℕ) → length (links_of (take k xs)) ≤ length (links_of xs)
fits_so_far xs k =
    let e = ap (λ l. length (links_of l)) (take-append-drop k xs) in
    let f = links_append (take k xs) (drop k xs) in
    omega (arith, e, f)

pub items_one : (o : Option ControlItem) → length (items_of o) ≤ 1
items_one None = omega arith
items_one (Some i) = omega arith

pub items_none : (o : Option ControlItem) → is_some o ≡ false → length (items_of o) ≤ 0
items_none None e = omega arith
items_none (Some i) e = absurd cc
