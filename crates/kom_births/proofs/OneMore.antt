-- One more is planted.
use Rattle.std.proofs.Common.{◌≡◌, ℕ, suc, ◌+◌, ◌≤◌, true, refl, sym, ap, ◌∙◌, subst, List, [], ◌∷◌, ◌++◌, length, map, if◌then◌else◌, inl, inr, arith}
use Rattle.std.specs.Prelude.{◌==◌, sum}
use Rattle.std.proofs.lemmas.Bool.{ne_eqb}
use Rattle.std.proofs.lemmas.Bool.Decides.{eqb_tells}
use Rattle.std.proofs.lemmas.List.{append_assoc, append-nil, length-append, map-append}
use Rattle.std.proofs.lemmas.List.Sums.{sum_by-append, sum_by-cons}
use Rattle.kom_lang.specs.Declarations.{Declarations}
use Rattle.kom_numbers.specs.Numbering.{total}
use Rattle.kom_refine.specs.States.{Node, State}
use Rattle.kom_wiring.specs.declared.link.Link.{Link}
use Rattle.kom_state.specs.Parts.{Parts}
use Rattle.kom_state.specs.Plantings.{IsPlanted, HasRoomFor, TakesRoom, items_of}
use Rattle.kom_births.specs.declared.seed.Seed.{Seed}
use Rattle.kom_births.specs.Seeds.{links_of}
use Rattle.kom_births.specs.Sowing.{AreSown, HasRooms, TakesRooms, items_for}

pub links_append : (xs ys : List Seed) → length (links_of (xs ++ ys)) ≡ length (links_of xs) + length (links_of ys)
links_append [] ys = let z : length (links_of ys) ≡ 0 + length (links_of ys) = omega arith in z
links_append (x ∷ xs) ys =
    let e = links_append xs ys in
    let a = length-append x.links (links_of (xs ++ ys)) in
    let b = length-append x.links (links_of xs) in
    omega (arith, e, a, b)

one_link : (x : Seed) → length (links_of (x ∷ [])) ≡ length x.links
one_link x = ap (length {A = Link}) (append-nil x.links)

pub links_push : (xs : List Seed) (x : Seed) → length (links_of (xs ++ x ∷ [])) ≡ length (links_of xs) + length x.links
links_push xs x = let e = links_append xs (x ∷ []) in let f = one_link x in omega (arith, e, f)

-- the seeds so far, one more of them
pub sown_more : (S : Declarations) (n chans : ℕ) (xs : List Seed) (x : Seed) (m k j : State) → AreSown S n chans xs m k
    → IsPlanted S (n + length xs) (chans + length (links_of xs)) x.place x.body x.init x.links k j → AreSown S n chans (xs ++ x ∷ []) m j
sown_more S n chans [] x m k j h p =
    let a : n + 0 ≡ n = omega arith in
    let b : chans + 0 ≡ chans = omega arith in
    (j, subst (λ z. IsPlanted S z chans x.place x.body x.init x.links m j) a (subst (λ z. IsPlanted S (n + 0) z x.place x.body x.init x.links m j) b (subst (λ z. IsPlanted S (n + 0) (chans + 0) x.place x.body x.init x.links z j) (sym h) p)), refl)
sown_more S n chans (y ∷ ys) x m k j h p =
    let a : n + suc (length ys) ≡ (n + 1) + length ys = omega arith in
    let c = length-append y.links (links_of ys) in
    let b : chans + length (y.links ++ links_of ys) ≡ (chans + length y.links) + length (links_of ys) = omega (arith, c) in (
      h.0,
      h.1,
      sown_more S (n + 1) (chans + length y.links) ys x h.0 k j h.2
          (subst (λ z. IsPlanted S z ((chans + length y.links) + length (links_of ys)) x.place x.body x.init x.links k j) a (subst (λ z. IsPlanted S (n + suc (length ys)) z x.place x.body x.init x.links k j) b p)),
    )

-- ---- the items of each

same_test : (c d : ℕ) → c ≡ d → (c == d) ≡ true
same_test c d e = elim (eqb_tells c d) [ inl t ↦ t.0 | inr t ↦ absurd (t.1 e) ]

pub past_items : (c n : ℕ) (xs : List Seed) → n + length xs ≤ c → items_for c n xs ≡ 0
past_items c n [] h = refl
past_items c n (x ∷ xs) h =
    ap (λ b. if b then length (items_of x.init) else items_for c (n + 1) xs) (ne_eqb c n (λ e. absurd (omega (arith, e, h)))) ∙ past_items c (n + 1) xs (omega (arith, h))

pub items_at : (n : ℕ) (xs : List Seed) (x : Seed) (ys : List Seed) (c : ℕ) → c ≡ n + length xs → items_for c n (xs ++ x ∷ ys) ≡ length (items_of x.init)
items_at n [] x ys c e = ap (λ b. if b then length (items_of x.init) else items_for c (n + 1) ys) (same_test c n (omega (arith, e)))
items_at n (y ∷ xs) x ys c e =
    ap (λ b. if b then length (items_of y.init) else items_for c (n + 1) (xs ++ x ∷ ys)) (ne_eqb c n (λ f. absurd (omega (arith, e, f))))
    ∙ items_at (n + 1) xs x ys c (omega (arith, e))

pub items_push : (c n : ℕ) (xs : List Seed) (x : Seed) → items_for c n (xs ++ x ∷ []) ≡ items_for c n xs + (if c == n + length xs then length (items_of x.init) else 0)
items_push c n [] x =
    ap (λ k. if c == k then length (items_of x.init) else 0) (let e : n ≡ n + 0 = omega arith in e)
    ∙ zero_first (if c == n + 0 then length (items_of x.init) else 0)
  where
    zero_first : (k : ℕ) → k ≡ 0 + k
    zero_first k = omega arith
items_push c n (y ∷ xs) x = elim (eqb_tells c n) [
  | inl t ↦
      ap (λ b. if b then length (items_of y.init) else items_for c (n + 1) (xs ++ x ∷ [])) t.0
      ∙ (let z : length (items_of y.init) ≡ length (items_of y.init) + 0 = omega arith in z)
      ∙ sym (ap (λ b. (if b then length (items_of y.init) else items_for c (n + 1) xs) + (if c == n + suc (length xs) then length (items_of x.init) else 0)) t.0
      ∙ ap (λ b. length (items_of y.init) + (if b then length (items_of x.init) else 0)) (ne_eqb c (n + suc (length xs)) (λ f. let e = t.1 in absurd (omega (arith, e, f)))))
  | inr t ↦
      ap (λ b. if b then length (items_of y.init) else items_for c (n + 1) (xs ++ x ∷ [])) t.0
      ∙ items_push c (n + 1) xs x
      ∙ ap (λ k. items_for c (n + 1) xs + (if c == k then length (items_of x.init) else 0)) (let z : (n + 1) + length xs ≡ n + suc (length xs) = omega arith in z)
      ∙ sym (ap (λ b. (if b then length (items_of y.init) else items_for c (n + 1) xs) + (if c == n + suc (length xs) then length (items_of x.init) else 0)) t.0)
]

module _ (n : ℕ) (xs : List Seed) (x : Seed) (m k j : Parts) (r : TakesRooms xs n m k) (t : TakesRoom x.links x.init (n + length xs) k j) where
  pub rooms_more : TakesRooms (xs ++ x ∷ []) n m j
  rooms_more = record {
    outs = t.outs ∙ r.outs;
    counts = t.counts ∙ ap (λ l. l ++ length x.links ∷ []) r.counts ∙ append_assoc m.numbers.counts (map (λ (s : Seed). length s.links) xs) (length x.links ∷ [])
        ∙ ap (λ l. m.numbers.counts ++ l) (sym (map-append (λ (s : Seed). length s.links) xs (x ∷ [])));
    instances = omega (arith, r.instances, t.instances, length-append xs (x ∷ []));
    channels = omega (arith, r.channels, t.channels, links_push xs x);
    rows = λ c. t.rows c ∙ r.rows c;
    controls = λ c. let a = r.controls c in let b = t.controls c in let e = items_push c n xs x in omega (arith, a, b, e);
    queues = λ y. t.queues y ∙ r.queues y;
    queue_spares = λ y d. let a = r.queue_spares y d in let b = t.queue_spares y d in omega (arith, a, b);
  }

  -- the channels so far are counted
  pub total_more : (chans : ℕ) → total k.numbers ≡ chans + length (links_of xs) → total j.numbers ≡ chans + length (links_of (xs ++ x ∷ []))
  total_more chans e =
      let a : sum j.numbers.counts ≡ sum k.numbers.counts + length x.links = ap sum t.counts ∙ sum_by-append (λ z. z) k.numbers.counts (length x.links ∷ []) ∙ ap (λ z. sum k.numbers.counts + z) (let f : sum (length x.links ∷ []) ≡ length x.links = omega (arith, sum_by-cons (λ z. z) (length x.links) []) in f) in
      let b = ap length t.outs in
      let c = links_push xs x in
      omega (arith, a, b, c, e)

-- the room for the next
pub room_next : (n chans : ℕ) (all xs : List Seed) (x : Seed) (ys : List Seed) (m k : Parts) → xs ++ x ∷ ys ≡ all → HasRooms all n chans m → TakesRooms xs n m k
    → HasRoomFor x.links x.init (n + length xs) (chans + length (links_of xs)) k
room_next n chans all xs x ys m k e h r =
    let long = ap length e in
    let two = length-append xs (x ∷ ys) in
    let wide = ap (λ l. length (links_of l)) e in
    let links = links_append xs (x ∷ ys) in
    let own = length-append x.links (links_of ys) in
    record {
      instances = omega (arith, h.instances, r.instances, long, two);
      channels = omega (arith, h.channels, r.channels, wide, links, own);
      row = r.rows (n + length xs) ∙ h.each.own.rows (n + length xs) (omega arith) (omega (arith, long, two));
      controls =
          let a = h.each.own.controls (n + length xs) in
          let b = r.controls (n + length xs) in
          let c = past_items (n + length xs) n xs (omega arith) in
          let d = ap (items_for (n + length xs) n) (sym e) ∙ items_at n xs x ys (n + length xs) refl in
          omega (arith, a, b, c, d);
      queues = λ y low high. r.queues y ∙ h.each.queues y (omega (arith, low)) (omega (arith, high, wide, links, own));
    }

-- where all have been planted
pub nothing_left : {X : Type 0} (l : List X) → length l ≡ 0 → l ≡ []
nothing_left [] h = refl
nothing_left (x ∷ xs) h = absurd (omega arith)

pub rooms_none : (n : ℕ) (m : Parts) → TakesRooms [] n m m
rooms_none n m = record {
  outs = refl;
  counts = sym (append-nil m.numbers.counts);
  instances = omega arith;
  channels = omega arith;
  rows = λ c. refl;
  controls = λ c. omega arith;
  queues = λ x. refl;
  queue_spares = λ x d. omega arith;
}

pub nodes_more : (old : List Node) (i : Node) (new : List Node) (n : ℕ) (xs : List Seed) (x : Seed) → new ≡ old ++ i ∷ [] → length old ≡ n + length xs → length new ≡ n + length (xs ++ x ∷ [])
nodes_more old i new n xs x e f = omega (arith, ap length e, length-append old (i ∷ []), f, length-append xs (x ∷ []))
