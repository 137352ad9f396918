-- The room for several trees.
use Rattle.std.proofs.Common.{◌≡◌, ℕ, ◌+◌, ◌<◌, refl, sym, ap, ◌∙◌, List, [], ◌∷◌, ◌++◌, length, if◌then◌else◌, inl, inr, arith}
use Rattle.std.proofs.lemmas.Bool.{ne_eqb}
use Rattle.std.proofs.lemmas.Bool.Decides.{eqb_tells}
use Rattle.std.proofs.lemmas.List.{length-append}
use Rattle.kom_state.specs.Parts.{Parts}
use Rattle.kom_state.specs.Plantings.{items_of}
use Rattle.kom_births.specs.declared.seed.Seed.{Seed}
use Rattle.kom_births.specs.Seeds.{links_of}
use Rattle.kom_births.specs.Sharing.{RoomsAreLeft, RoomsAreShared}
use Rattle.kom_births.specs.Sowing.{HasRooms, TakesRooms, items_for}
use Rattle.kom_births.proofs.OneMore.{links_append, past_items}
use Rattle.kom_births.proofs.Sown.{by_halves}

-- nothing waits for whoever has a lesser number
pub early_items : (c n : ℕ) (xs : List Seed) → c < n → items_for c n xs ≡ 0
early_items c n [] h = refl
early_items c n (x ∷ xs) h =
    ap (λ b. if b then length (items_of x.init) else items_for c (n + 1) xs) (ne_eqb c n (λ e. absurd (omega (arith, e, h)))) ∙ early_items c (n + 1) xs (omega (arith, h))

pub items_append : (c n : ℕ) (xs ys : List Seed) → items_for c n (xs ++ ys) ≡ items_for c n xs + items_for c (n + length xs) ys
items_append c n [] ys = ap (λ k. items_for c k ys) (let e : n ≡ n + 0 = omega arith in e) ∙ (let e : items_for c (n + 0) ys ≡ 0 + items_for c (n + 0) ys = omega arith in e)
items_append c n (x ∷ xs) ys = elim (eqb_tells c n) [
  | inl t ↦
      ap (λ b. if b then length (items_of x.init) else items_for c (n + 1) (xs ++ ys)) t.0
      ∙ (let z : length (items_of x.init) ≡ length (items_of x.init) + 0 = omega arith in z)
      ∙ sym (ap (λ b. (if b then length (items_of x.init) else items_for c (n + 1) xs) + items_for c (n + length (x ∷ xs)) ys) t.0
      ∙ ap (λ k. length (items_of x.init) + k) (early_items c (n + length (x ∷ xs)) ys (let e = t.1 in omega (arith, e))))
  | inr t ↦
      ap (λ b. if b then length (items_of x.init) else items_for c (n + 1) (xs ++ ys)) t.0
      ∙ items_append c (n + 1) xs ys
      ∙ ap (λ k. items_for c (n + 1) xs + items_for c k ys) (let e : (n + 1) + length xs ≡ n + length (x ∷ xs) = omega arith in e)
      ∙ sym (ap (λ b. (if b then length (items_of x.init) else items_for c (n + 1) xs) + items_for c (n + length (x ∷ xs)) ys) t.0)
]

module _ (xs ys : List Seed) (n chans : ℕ) (v : Parts) (h : HasRooms (xs ++ ys) n chans v) where
  long : length (xs ++ ys) ≡ length xs + length ys
  long = length-append xs ys

  wide : length (links_of (xs ++ ys)) ≡ length (links_of xs) + length (links_of ys)
  wide = links_append xs ys

  front : HasRooms xs n chans v
  front = record {
    instances = omega (arith, h.instances, long);
    channels = omega (arith, h.channels, wide);
    each = record {
      own = record {
        rows = λ c low high. h.each.own.rows c low (omega (arith, high, long));
        controls = λ c. let a = h.each.own.controls c in let b = items_append c n xs ys in omega (arith, a, b);
      };
      queues = λ x low high. h.each.queues x low (omega (arith, high, wide));
    };
  }

  back : (w : Parts) → TakesRooms xs n v w → HasRooms ys (n + length xs) (chans + length (links_of xs)) w
  back w t = record {
    instances = omega (arith, h.instances, t.instances, long);
    channels = omega (arith, h.channels, t.channels, wide);
    each = record {
      own = record {
        rows = λ c low high. t.rows c ∙ h.each.own.rows c (omega (arith, low)) (omega (arith, high, long));
        controls = λ c.
            let a = h.each.own.controls c in
            let b = items_append c n xs ys in
            let d = t.controls c in
            by_halves c (n + length xs) (λ l. let z = early_items c (n + length xs) ys l in omega (arith, z)) (λ l. let z = past_items c n xs l in omega (arith, a, b, d, z));
      };
      queues = λ x low high. t.queues x ∙ h.each.queues x (omega (arith, low)) (omega (arith, high, wide));
    };
  }

pub rooms_are_shared : RoomsAreShared
rooms_are_shared xs ys n chans v h = record { first = front xs ys n chans v h; then = back xs ys n chans v h }

pub rooms_are_left : RoomsAreLeft
rooms_are_left seeds n chans v w h l = record {
  instances = omega (arith, h.instances, l.instances);
  channels = omega (arith, h.channels, l.channels);
  each = record {
    own = record {
      rows = λ c low high. l.rows c low (h.each.own.rows c low high);
      controls = λ c. by_halves c n (λ k. let z = early_items c n seeds k in omega (arith, z)) (λ k. let a = h.each.own.controls c in let b = l.controls c k in omega (arith, a, b));
    };
    queues = λ x low high. l.queues x low (h.each.queues x low high);
  };
}
