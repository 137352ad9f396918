-- The effects of a handling mark at most as many as the state before them tells.
use Rattle.std.proofs.Common.{◌≡◌, ℕ, zero, suc, ◌+◌, ◌*◌, ◌<◌, ◌≤◌, Bool, true, false, if◌then◌else◌, ◌&&◌, ◌==◌, refl, sym, ap, ◌∙◌, List, [], ◌∷◌, ◌++◌, length, take, get_or, arith}
use Rattle.std.specs.List.{list_any, sum_by}
use Rattle.std.specs.Option.{option_map_or}
use Rattle.std.proofs.lemmas.List.{append-nil, length-append, take_all}
use Rattle.std.proofs.lemmas.List.Concat.{flat_map-append}
use Rattle.std.proofs.lemmas.List.Sums.{sum_by-cons, sum_by_push}
use Rattle.std.proofs.lemmas.Nat.{mul-le}
use Rattle.kom_lang.specs.Declarations.{Declarations}
use Rattle.kom_lang.specs.declared.body.Effect.{Effect}
use Rattle.kom_lang.specs.declared.body.Effect.TheVariants as effect
use Rattle.kom_record.specs.declared.item.Item.{Item}
use Rattle.kom_record.specs.Entries.{Act, History, acts}
use Rattle.kom_record.specs.Instances.{Instance, alive, ancestry_of, born}
use Rattle.kom_laws.proofs.InstanceLaws.{alive_all_before, instance_stays}
use Rattle.kom_lives.proofs.Lives.{both, both_of}
use Rattle.kom_refine.specs.Points.{act_of, start_of, StandsAt}
use Rattle.kom_refine.specs.States.{State}
use Rattle.kom_state.specs.Parts.{Parts, state_of}
use Rattle.kom_births.specs.declared.seed.Seed.{Seed}
use Rattle.kom_births.specs.Laws.{news_of, seeds_for}
use Rattle.kom_births.proofs.Begun.{seeds_long}
use Rattle.kom_nursery.specs.Nurseries.{all_of, brood_of, broods_of}
use Rattle.kom_changes.specs.Below.{count_under, lives_below}
use Rattle.kom_changes.proofs.Below.{count_most}
use Rattle.kom_doing.specs.Marks.{marks_at, marks_of}
use Rattle.kom_doing.proofs.Marked.{marks_same, up_to_here}
use Rattle.kom_extents.specs.Extents.{most_at}

-- ---- counts

count_fewer : (n : ℕ) (f g : ℕ → Bool) → ((e : ℕ) → e < n → f e ≡ true → g e ≡ true) → count_under n f ≤ count_under n g
count_fewer zero f g h = omega arith
count_fewer (suc n) f g h = at (f n) (g n) refl refl (count_fewer n f g (λ e l. h e (omega (arith, l))))
  where
    at : (a b : Bool) → f n ≡ a → g n ≡ b → count_under n f ≤ count_under n g → count_under n f + (if f n then 1 else 0) ≤ count_under n g + (if g n then 1 else 0)
    at true true x y r = let p = ap {B = ℕ} (λ (z : Bool). if z then 1 else 0) x in let q = ap {B = ℕ} (λ (z : Bool). if z then 1 else 0) y in omega (arith, r, p, q)
    at true false x y r = absurd (let z : true ≡ false = sym (h n (omega arith) x) ∙ y in cc)
    at false b x y r = let p = ap {B = ℕ} (λ (z : Bool). if z then 1 else 0) x in omega (arith, r, p)

-- so many numbers more
count_longer : (m n k : ℕ) (f : ℕ → Bool) → m ≡ n + k → count_under m f ≤ count_under n f + k
count_longer m n zero f e = let a = ap (λ z. count_under z f) (e ∙ (let z : n + 0 ≡ n = omega arith in z)) in omega (arith, a)
count_longer zero n (suc k) f e = absurd (omega (arith, e))
count_longer (suc m) n (suc k) f e = at (f m) (count_longer m n k f (omega (arith, e)))
  where
    at : (b : Bool) → count_under m f ≤ count_under n f + k → count_under m f + (if b then 1 else 0) ≤ count_under n f + suc k
    at true r = omega (arith, r)
    at false r = omega (arith, r)

all_append : (xs ys : List (List Seed)) → length (all_of (xs ++ ys)) ≡ length (all_of xs) + length (all_of ys)
all_append xs ys = ap length (flat_map-append (λ (b : List Seed). b) xs ys) ∙ length-append (all_of xs) (all_of ys)

module _ (S : Declarations) (R : History) (c : ℕ) (item : Item) (v : Parts) (n : ℕ) (s : StandsAt S (start_of R) (state_of v)) where
  abbrev m : State
  m = state_of v

  -- all acts after some more
  abbrev done : List Act → List Act
  done mine = mine ++ acts R

  -- so many were created after some more
  abbrev Grown : List Act → ℕ → Type 0
  Grown mine k = length (born S (done mine)) ≡ length (born S (acts R)) + k

  abbrev trees : List Act → Effect → ℕ
  trees mine e = length (all_of (brood_of S (done mine) c e))

  grows : (mine : List Act) (k : ℕ) (e : Effect) → Grown mine k → Grown (act_of c item e ∷ mine) (k + trees mine e)
  unfolding born
  grows mine k (effect.Create slot kind birth) g =
      let news = news_of S (done mine) c slot kind birth in
      let tree = seeds_for S (length (born S (done mine))) news in
      omega (arith, g, length-append (born S (done mine)) news, ap length (append-nil tree), seeds_long S (length (born S (done mine))) news)
  grows mine k (effect.Trigger p x) g = omega (arith, g)
  grows mine k (effect.Answer x) g = omega (arith, g)
  grows mine k (effect.Start q) g = omega (arith, g)
  grows mine k (effect.Stop q) g = omega (arith, g)
  grows mine k (effect.Destroy q) g = omega (arith, g)
  grows mine k (effect.Dump q) g = omega (arith, g)
  grows mine k (effect.Hold q) g = omega (arith, g)
  grows mine k (effect.Resume q) g = omega (arith, g)
  grows mine k (effect.Unplug q d) g = omega (arith, g)
  grows mine k (effect.Plug q d p) g = omega (arith, g)
  grows mine k effect.Escalate g = omega (arith, g)

  -- who ends later lived before or was created meanwhile
  few_end : (mine : List Act) (slot k : ℕ) → Grown mine k → marks_at S (done mine) c (effect.Destroy slot) ≤ marks_at S (acts R) c (effect.Destroy slot) + k
  unfolding ancestry_of
  few_end mine slot k g =
      let longer = count_longer (length (born S (done mine))) (length (born S (acts R))) k (ends (done mine)) g in
      let fewer = count_fewer (length (born S (acts R))) (ends (done mine)) (ends (acts R)) (λ d low t.
      let b = both (alive S (done mine) d) (in_slot (done mine) d) t in
      both_of (alive S (acts R) d) (in_slot (acts R) d) (alive_all_before S mine (acts R) d low b.0)
      (ap (λ o. list_any (λ q. c == q.0 && slot == q.1) (option_map_or (λ (i : Instance). i.ancestry) o [])) (sym (instance_stays S mine (acts R) d low)) ∙ b.1))
      in
      omega (arith, longer, fewer)
    where
      in_slot : List Act → ℕ → Bool
      in_slot a d = list_any (λ q. c == q.0 && slot == q.1) (ancestry_of S (born S a) d)

      ends : List Act → ℕ → Bool
      ends a d = alive S a d && in_slot a d

  one_effect : (mine : List Act) (k : ℕ) (e : Effect) → Grown mine k → k ≤ n → marks_at S (done mine) c e ≤ most_at m c n e + trees mine e
  one_effect mine k (effect.Create slot kind birth) g l =
      let news = news_of S (done mine) c slot kind birth in
      let tree = seeds_for S (length (born S (done mine))) news in
      omega (arith, ap length (append-nil tree), seeds_long S (length (born S (done mine))) news)
  one_effect mine k (effect.Destroy slot) g l =
      let a = few_end mine slot k g in
      let b = marks_same S (start_of R) v c item (effect.Destroy slot) [] _ s refl in
      omega (arith, a, b, l)
  one_effect mine k (effect.Trigger p x) g l = omega arith
  one_effect mine k (effect.Answer x) g l = omega arith
  one_effect mine k (effect.Start q) g l = omega arith
  one_effect mine k (effect.Stop q) g l = omega arith
  one_effect mine k (effect.Dump q) g l = omega arith
  one_effect mine k (effect.Hold q) g l = omega arith
  one_effect mine k (effect.Resume q) g l = omega arith
  one_effect mine k (effect.Unplug q d) g l = omega arith
  one_effect mine k (effect.Plug q d p) g l = omega arith
  one_effect mine k effect.Escalate g l = omega arith

  marks_after : (mine : List Act) (k : ℕ) (es : List Effect) → Grown mine k → k + length (all_of (broods_of S (done mine) c item es)) ≤ n
      → marks_of S (done mine) c item es ≤ sum_by (most_at m c n) es + length (all_of (broods_of S (done mine) c item es))
  marks_after mine k [] g l = omega arith
  marks_after mine k (e ∷ es) g l =
      let split = all_append (brood_of S (done mine) c e) (broods_of S (act_of c item e ∷ done mine) c item es) in
      let now = one_effect mine k e g (omega (arith, l)) in
      let rest = marks_after (act_of c item e ∷ mine) (k + trees mine e) es (grows mine k e g) (omega (arith, l, split)) in
      let total = sum_by-cons (most_at m c n) e es in
      omega (arith, split, now, rest, total)

  pub enough : (es : List Effect) → length (all_of (broods_of S (acts R) c item es)) ≤ n → marks_of S (acts R) c item es ≤ sum_by (most_at m c n) es + length (all_of (broods_of S (acts R) c item es))
  enough es l = marks_after [] 0 es (omega arith) (omega (arith, l))

-- ---- the sum

at_most_all : (w : State) (c n : ℕ) (e : Effect) → most_at w c n e ≤ 2 + (length w.nodes + n)
at_most_all w c n (effect.Create slot kind birth) = omega arith
at_most_all w c n (effect.Destroy slot) = let a = count_most (length w.nodes) (lives_below w c slot) in omega (arith, a)
at_most_all w c n (effect.Trigger p x) = omega arith
at_most_all w c n (effect.Answer x) = omega arith
at_most_all w c n (effect.Start q) = omega arith
at_most_all w c n (effect.Stop q) = omega arith
at_most_all w c n (effect.Dump q) = omega arith
at_most_all w c n (effect.Hold q) = omega arith
at_most_all w c n (effect.Resume q) = omega arith
at_most_all w c n (effect.Unplug q d) = omega arith
at_most_all w c n (effect.Plug q d p) = omega arith
at_most_all w c n effect.Escalate = omega arith

most_in_all : (w : State) (c n : ℕ) (es : List Effect) → sum_by (most_at w c n) es ≤ length es * (2 + (length w.nodes + n))
most_in_all w c n [] = omega arith
most_in_all w c n (e ∷ es) =
    let a = at_most_all w c n e in
    let b = most_in_all w c n es in
    let d = sum_by-cons (most_at w c n) e es in
    let h : suc (length es) * (2 + (length w.nodes + n)) ≡ (2 + (length w.nodes + n)) + length es * (2 + (length w.nodes + n)) = suc_times (length es) (2 + (length w.nodes + n)) in
    omega (arith, a, b, d, h)
  where
    suc_times : (a b : ℕ) → suc a * b ≡ b + a * b
    suc_times a b = omega arith

pub few_in_all : (w : State) (c n : ℕ) (es : List Effect) → length es ≤ 32 → sum_by (most_at w c n) es ≤ 64 + 32 * (length w.nodes + n)
few_in_all w c n es l =
    let a = most_in_all w c n es in
    let b = mul-le (length es) (2 + (length w.nodes + n)) 32 (2 + (length w.nodes + n)) l (omega arith) in
    omega (arith, a, b)

pub one_more : (w : State) (c n : ℕ) (es : List Effect) (k : ℕ) (e : Effect) → k < length es → e ≡ get_or es k e → sum_by (most_at w c n) (take (k + 1) es) ≡ sum_by (most_at w c n) (take k es) + most_at w c n e
one_more w c n es k e l is = ap (sum_by (most_at w c n)) (up_to_here es k e l is) ∙ sum_by_push (most_at w c n) (take k es) e

pub all_taken : (w : State) (c n : ℕ) (es : List Effect) (k : ℕ) → length es ≤ k → sum_by (most_at w c n) (take k es) ≡ sum_by (most_at w c n) es
all_taken w c n es k l = ap (sum_by (most_at w c n)) (take_all k es l)
