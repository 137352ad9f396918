-- How many events wait, channel by channel.
use Rattle.std.proofs.Common.{◌≡◌, ◌≢◌, ℕ, zero, suc, ◌+◌, ◌<◌, Bool, true, false, if◌then◌else◌, ◌&&◌, ◌==◌, refl, sym, ap, ◌∙◌, subst, List, [], ◌∷◌, ◌++◌, length, Option, Some, None, inl, inr, arith}
use Rattle.std.specs.Prelude.{is_some, nat_lt, slice_get}
use Rattle.std.specs.List.{cons_option, enumerate_from, flat_map, sum_by}
use Rattle.std.specs.Option.{option_and_then, option_map, option_map_or}
use Rattle.std.proofs.lemmas.Bool.{cases_eq, eq-eqb, lt-ltb, le-ltb, ne_eqb}
use Rattle.std.proofs.lemmas.List.{append-nil, length-append}
use Rattle.std.proofs.lemmas.List.Sums.{sum_by-append}
use Rattle.kom_base.specs.declared.numbers.Dir.{Dir}
use Rattle.kom_base.specs.declared.numbers.Dir.TheVariants.{Plus, Minus}
use Rattle.kom_base.specs.declared.numbers.EntryNo.{EntryNo}
use Rattle.kom_base.specs.Numbers.{same_dir}
use Rattle.kom_lang.specs.Declarations.{Declarations}
use Rattle.kom_lang.specs.declared.body.Effect.{Effect}
use Rattle.kom_lang.specs.declared.body.Effect.TheVariants as effect
use Rattle.kom_record.specs.declared.item.Item.{Item}
use Rattle.kom_record.specs.Channels.{channel_alive, channels, goes_out, is_living}
use Rattle.kom_record.specs.Entries.{History, Act, acts}
use Rattle.kom_record.specs.Instances.{Instance}
use Rattle.kom_record.specs.Ready.{directions, queued}
use Rattle.kom_laws.proofs.ChannelLaws.{channels_act, channels_by}
use Rattle.kom_entering.specs.declared.lists.Coming.{Coming}
use Rattle.kom_entering.specs.Lists.{numbers_into}
use Rattle.kom_refine.specs.Points.{Point, StandsAt, act_of, acts_at, start_of, with_act}
use Rattle.kom_refine.specs.States.{Link, Queue, State}
use Rattle.kom_refine.specs.Steps.{HaveCome, IsCreated, IsEffect, IsRelinked, IsRemoved, SameQueues, dies, empty_queue, received_by, with_numbers}
use Rattle.kom_wakes.specs.Laws.{QueuedIsCounted, queue_length}
use Rattle.kom_coming.specs.Directions.{AreThere}
use Rattle.kom_waits.specs.Waits.{ends_by, waits_among, waits_below, waits_in}

-- ---- sums

both : {X : Type 0} (f : ℕ × Dir → ℕ) (n : ℕ) (c : X) (cs : List X)
    → sum_by f (flat_map (λ (x : ℕ × X). (x.0, Plus) ∷ (x.0, Minus) ∷ []) (enumerate_from n (c ∷ cs))) ≡ (f (n, Plus) + f (n, Minus)) + sum_by f (flat_map (λ (x : ℕ × X). (x.0, Plus) ∷ (x.0, Minus) ∷ []) (enumerate_from (n + 1) cs))
both {X} f n c cs =
    let rest = sum_by f (flat_map (λ (x : ℕ × X). (x.0, Plus) ∷ (x.0, Minus) ∷ []) (enumerate_from (n + 1) cs)) in
    sum_by-append f ((n, Plus) ∷ (n, Minus) ∷ []) (flat_map (λ (x : ℕ × X). (x.0, Plus) ∷ (x.0, Minus) ∷ []) (enumerate_from (n + 1) cs))
    ∙ (let e : ((0 + f (n, Plus)) + f (n, Minus)) + rest ≡ (f (n, Plus) + f (n, Minus)) + rest = omega arith in e)

from_number : {X : Type 0} (m : State) (cs : List X) (n : ℕ)
    → waits_below m n + sum_by (λ (x : ℕ × Dir). queue_length (m.queues x.0 x.1)) (flat_map (λ (x : ℕ × X). (x.0, Plus) ∷ (x.0, Minus) ∷ []) (enumerate_from n cs)) ≡ waits_below m (n + length cs)
from_number m [] n = (let e : n ≡ n + 0 = omega arith in let a = ap (waits_below m) e in omega (arith, a))
from_number {X} m (c ∷ cs) n =
    let a = both (λ (x : ℕ × Dir). queue_length (m.queues x.0 x.1)) n c cs in
    let r = from_number m cs (n + 1) in
    let s : suc n ≡ n + 1 = omega arith in
    let one : waits_below m n + waits_in m n ≡ waits_below m (n + 1) = ap (waits_below m) s in
    let e : (n + 1) + length cs ≡ n + length (c ∷ cs) = omega arith in
    let last = ap (waits_below m) e in
    omega (arith, a, r, one, last)

pub below_same : (m n : State) (k : ℕ) → ((x : ℕ) (d : Dir) → x < k → queue_length (n.queues x d) ≡ queue_length (m.queues x d)) → waits_below n k ≡ waits_below m k
below_same m n zero h = refl
below_same m n (suc k) h =
    let r = below_same m n k (λ x d l. h x d (omega (arith, l))) in
    let p = h k Plus (omega arith) in
    let q = h k Minus (omega arith) in
    omega (arith, r, p, q)

-- one queue is longer by one
one_longer : (m n : State) (y : ℕ) (e : Dir) → queue_length (n.queues y e) ≡ queue_length (m.queues y e) + 1 → ((x : ℕ) (d : Dir) → (y == x && same_dir e d) ≡ false → queue_length (n.queues x d) ≡ queue_length (m.queues x d))
    → (k : ℕ) → y < k → waits_below n k ≡ waits_below m k + 1
one_longer m n y e one other zero l = absurd (omega (arith, l))
one_longer m n y e one other (suc k) l = elim (cases_eq y k) [
  | inl s ↦
      let r = below_same m n k (λ x d b. other x d (ap (λ t. t && same_dir e d) (ne_eqb y x (λ q. absurd (omega (arith, s, q, b)))))) in
      let h = here e k s one in
      omega (arith, r, h)
  | inr t ↦
      let r = one_longer m n y e one other k (let z : y ≢ k = t in omega arith) in
      let p = other k Plus (ap (λ q. q && same_dir e Plus) (ne_eqb y k t)) in
      let q = other k Minus (ap (λ q. q && same_dir e Minus) (ne_eqb y k t)) in
      omega (arith, r, p, q)
]
  where
    off : (b : Bool) → (b && false) ≡ false
    off true = refl
    off false = refl

    here : (e : Dir) (k : ℕ) → y ≡ k → queue_length (n.queues y e) ≡ queue_length (m.queues y e) + 1 → ((x : ℕ) (d : Dir) → (y == x && same_dir e d) ≡ false → queue_length (n.queues x d) ≡ queue_length (m.queues x d)) → waits_in n k ≡ waits_in m k + 1
    here Plus k s one other =
        let p : queue_length (n.queues k Plus) ≡ queue_length (m.queues k Plus) + 1 = subst (λ x. queue_length (n.queues x Plus) ≡ queue_length (m.queues x Plus) + 1) s one in
        let q = other k Minus (off (y == k)) in
        omega (arith, p, q)
    here Minus k s one other =
        let p : queue_length (n.queues k Minus) ≡ queue_length (m.queues k Minus) + 1 = subst (λ x. queue_length (n.queues x Minus) ≡ queue_length (m.queues x Minus) + 1) s one in
        let q = other k Plus (off (y == k)) in
        omega (arith, p, q)

own : (y : ℕ) (e : Dir) → (y == y && same_dir e e) ≡ true
own y Plus = ap (λ t. t && true) (eq-eqb y y refl)
own y Minus = ap (λ t. t && true) (eq-eqb y y refl)

longer : (q : Option Queue) (n : EntryNo) (ns : List EntryNo) → is_some q ≡ true → queue_length (option_map (with_numbers (n ∷ ns)) q) ≡ queue_length (option_map (with_numbers ns) q) + 1
longer None n ns h = absurd cc
longer (Some q) n ns h = let a = length-append q.numbers ns in let b = length-append q.numbers (n ∷ ns) in omega (arith, a, b)

none_longer : (q : Option Queue) → queue_length (option_map (with_numbers []) q) ≡ queue_length q
none_longer None = refl
none_longer (Some q) = ap length (append-nil q.numbers)

got_below : {X : Type 0} (xs : List X) (i : ℕ) → is_some (slice_get xs i) ≡ true → i < length xs
got_below [] i h = absurd cc
got_below (x ∷ xs) zero h = omega arith
got_below (x ∷ xs) (suc i) h = let k = got_below xs i h in omega (arith, k)

some_by : {X : Type 0} (f : X → Bool) (o : Option X) → option_map_or f o false ≡ true → is_some o ≡ true
some_by f None h = absurd cc
some_by f (Some x) h = refl

-- a state with these numbers behind those that wait
abbrev with_all : List Coming → State → State
with_all qs m = record m { queues = λ x d. option_map (with_numbers (numbers_into qs x d)) (m.queues x d) }

module _ (S : Declarations) (p : Point) (m : State) (s : StandsAt S p m) where
  living_there : (g l : Bool) (k : Link) (f : Link → Queue) → is_some (if g then None else option_map f (if l then Some k else None)) ≡ true → l ≡ true
  living_there true l k f e = absurd cc
  living_there false true k f e = refl
  living_there false false k f e = absurd cc

  is_linked : (x : ℕ) (d : Dir) → is_some (m.queues x d) ≡ true → is_some (m.links x) ≡ true
  is_linked x d h = go (is_living S (acts_at p) x) (living_there (goes_out S x d) (is_living S (acts_at p) x) _ _ (sym (ap is_some (s.queues x d)) ∙ h))
    where
      go : (b : Bool) → is_living S (acts_at p) x ≡ true → is_some (m.links x) ≡ true
      go b e = ap is_some (s.links x) ∙ by_living _ (is_living S (acts_at p) x) e
        where
          by_living : (l : Link) (b : Bool) → b ≡ true → is_some (if b then Some l else None) ≡ true
          by_living l true e = refl
          by_living l false e = absurd cc

  in_range : (x : ℕ) (d : Dir) → is_some (m.queues x d) ≡ true → x < length (channels S (acts_at p))
  unfolding is_living
  in_range x d h = got_below (channels S (acts_at p)) x (some_by (channel_alive S (acts_at p)) (slice_get (channels S (acts_at p)) x) (living_there (goes_out S x d) (is_living S (acts_at p) x) _ _ (sym (ap is_some (s.queues x d)) ∙ h)))

  all_come : (qs : List Coming) → AreThere qs m → waits_below (with_all qs m) (length (channels S (acts_at p))) ≡ waits_below m (length (channels S (acts_at p))) + length qs
  all_come [] t = let r = below_same m (with_all [] m) (length (channels S (acts_at p))) (λ x d l. none_longer (m.queues x d)) in omega (arith, r)
  all_come (q ∷ qs) t =
      let one : queue_length ((with_all (q ∷ qs) m).queues q.chan q.dir) ≡ queue_length ((with_all qs m).queues q.chan q.dir) + 1 =
      ap (λ b. queue_length (option_map (with_numbers (cons_option (if b then Some q.no else None) (numbers_into qs q.chan q.dir))) (m.queues q.chan q.dir))) (own q.chan q.dir)
      ∙ longer (m.queues q.chan q.dir) q.no (numbers_into qs q.chan q.dir) t.0
      in
      let r = one_longer (with_all qs m) (with_all (q ∷ qs) m) q.chan q.dir one
      (λ x d f. ap (λ b. queue_length (option_map (with_numbers (cons_option (if b then Some q.no else None) (numbers_into qs x d))) (m.queues x d))) f)
      (length (channels S (acts_at p))) (in_range q.chan q.dir t.0)
      in
      let k = all_come qs t.1 in
      omega (arith, r, k)

  pub come_counted : (qs : List Coming) (n : State) → AreThere qs m → HaveCome (numbers_into qs) m n → waits_below n (length (channels S (acts_at p))) ≡ waits_below m (length (channels S (acts_at p))) + length qs
  come_counted qs n t step = below_same (with_all qs m) n (length (channels S (acts_at p))) (λ x d l. ap queue_length (step.queues x d)) ∙ all_come qs t

  -- ---- the effects

  relinked_length : (b : Bool) (d : Dir) (l old : Option Link) (change : Link → Link) (q : Option Queue) → l ≡ (if b then option_map change old else old) → (is_some q ≡ true → is_some old ≡ true)
      → queue_length (if b then option_and_then (received_by d l) q else q) ≡ queue_length q
  relinked_length false d l old change q e h = refl
  relinked_length true d l old change None e h = refl
  relinked_length true d l None change (Some q) e h = absurd (let f = h refl in cc)
  relinked_length true d None (Some k) change (Some q) e h = absurd cc
  relinked_length true d (Some l) (Some k) change (Some q) e h = refl

  pub relinked_same : (names : ℕ → Bool) (change : Link → Link) (n : State) (k : ℕ) → IsRelinked names change m n → waits_below n k ≡ waits_below m k
  relinked_same names change n k r =
      below_same m n k (λ x d l. ap queue_length (r.queues x d) ∙ relinked_length (names x) d (n.links x) (m.links x) change (m.queues x d) (r.links x) (is_linked x d))

dying : (b : Bool) (k : ℕ) (p q a c : Option Queue) → p ≡ (if b then None else a) → q ≡ (if b then None else c) → (queue_length p + queue_length q) + (if b then queue_length a + queue_length c else 0) ≡ queue_length a + queue_length c
dying true k p q a c e f = let x = ap queue_length e in let y = ap queue_length f in omega (arith, x, y)
dying false k p q a c e f = let x = ap queue_length e in let y = ap queue_length f in omega (arith, x, y)

pub removed_less : (test : ℕ → Bool) (c slot : ℕ) (m n : State) (k : ℕ) → IsRemoved test c slot m n → waits_below n k + waits_among test m k ≡ waits_below m k
removed_less test c slot m n zero r = refl
removed_less test c slot m n (suc k) r =
    let a = removed_less test c slot m n k r in
    let d = dying (test k) k (n.queues k Plus) (n.queues k Minus) (m.queues k Plus) (m.queues k Minus) (r.queues k Plus) (r.queues k Minus) in
    omega (arith, a, d)

empty_length : (d : Dir) (l : Option Link) → queue_length (option_map (empty_queue d) l) ≡ 0
empty_length d None = refl
empty_length d (Some l) = refl

pub created_same : (S : Declarations) (done : List Act) (count chans : ℕ) (news : List Instance) (m n : State) (j : ℕ) → IsCreated S done count chans news m n → waits_below n (chans + j) ≡ waits_below m chans
created_same S done count chans news m n zero r =
    (let e : chans + 0 ≡ chans = omega arith in ap (waits_below n) e)
    ∙ below_same m n chans (λ x d l. ap queue_length (r.queues x d ∙ ap (λ b. if b then m.queues x d else option_map (empty_queue d) (n.links x)) (lt-ltb x chans l)))
created_same S done count chans news m n (suc j) r =
    let a = created_same S done count chans news m n j r in
    let e : chans + suc j ≡ suc (chans + j) = omega arith in
    let s = ap (waits_below n) e in
    let new : (d : Dir) → queue_length (n.queues (chans + j) d) ≡ 0 = λ d. ap queue_length (r.queues (chans + j) d ∙ ap (λ b. if b then m.queues (chans + j) d else option_map (empty_queue d) (n.links (chans + j))) (not_below chans j)) ∙ empty_length d (n.links (chans + j)) in
    let p = new Plus in
    let q = new Minus in
    omega (arith, a, s, p, q)
  where
    not_below : (c j : ℕ) → nat_lt (c + j) c ≡ false
    not_below c j = le-ltb (c + j) c (omega arith)

pub queued_counted : (S : Declarations) (P : History) (m : State) → QueuedIsCounted → StandsAt S (start_of P) m → queued S P ≡ waits_below m (length (channels S (acts P)))
unfolding directions
queued_counted S P m law s =
    let a = law S P m s in
    let b = from_number m (channels S (acts P)) 0 in
    let e : 0 + length (channels S (acts P)) ≡ length (channels S (acts P)) = omega arith in
    let f = ap (waits_below m) e in
    omega (arith, a, b, f)

module _ (S : Declarations) (p : Point) (c : ℕ) (item : Item) (m n : State) (s : StandsAt S p m) where
  -- no channel is made
  kept_count : (e : Effect) → channels_by S (acts_at p) (act_of c item e) ≡ [] → waits_below n (length (channels S (acts_at p))) ≡ waits_below m (length (channels S (acts_at p)))
      → waits_below n (length (channels S (acts_at (with_act S p (act_of c item e))))) + 0 ≡ waits_below m (length (channels S (acts_at p)))
  kept_count e none same =
      let grown : length (channels S (acts_at (with_act S p (act_of c item e)))) ≡ length (channels S (acts_at p)) =
      ap length (channels_act S (acts_at p) (act_of c item e) ∙ ap (λ l. channels S (acts_at p) ++ l) none ∙ append-nil (channels S (acts_at p)))
      in
      let a = ap (waits_below n) grown in
      omega (arith, a, same)

  quiet : SameQueues m n → waits_below n (length (channels S (acts_at p))) ≡ waits_below m (length (channels S (acts_at p)))
  quiet q = below_same m n (length (channels S (acts_at p))) (λ x d l. ap queue_length (q x d))

  pub effect_counted : (e : Effect) → IsEffect S p c item e m n
      → waits_below n (length (channels S (acts_at (with_act S p (act_of c item e))))) + ends_by S (acts_at p) c e m ≡ waits_below m (length (channels S (acts_at p)))
  effect_counted (effect.Hold k) r = kept_count (effect.Hold k) refl (relinked_same S p m s _ _ n _ r)
  effect_counted (effect.Resume k) r = kept_count (effect.Resume k) refl (relinked_same S p m s _ _ n _ r)
  effect_counted (effect.Plug k e place) r = kept_count (effect.Plug k e place) refl (relinked_same S p m s _ _ n _ r)
  effect_counted (effect.Unplug k e) r = kept_count (effect.Unplug k e) refl (relinked_same S p m s _ _ n _ r)
  effect_counted (effect.Create slot kind birth) r =
      let done = acts_at p in
      let a = act_of c item (effect.Create slot kind birth) in
      let grown = ap length (channels_act S done a) ∙ length-append (channels S done) (channels_by S done a) in
      let z = ap (waits_below n) grown in
      let w = created_same S (a ∷ done) _ (length (channels S done)) _ m n (length (channels_by S done a)) r in
      omega (arith, z, w)
  effect_counted (effect.Destroy slot) r =
      let done = acts_at p in
      let a = act_of c item (effect.Destroy slot) in
      let grown : length (channels S (a ∷ done)) ≡ length (channels S done) = ap length (channels_act S done a ∙ append-nil (channels S done)) in
      let z = ap (waits_below n) grown in
      let w = removed_less (dies S done c slot) c slot m n (length (channels S done)) r in
      omega (arith, z, w)
  effect_counted (effect.Trigger port event) r = kept_count (effect.Trigger port event) refl (quiet r.queues)
  effect_counted (effect.Answer event) r = kept_count (effect.Answer event) refl (quiet r.queues)
  effect_counted (effect.Start slot) r = kept_count (effect.Start slot) refl (quiet r.queues)
  effect_counted (effect.Stop slot) r = kept_count (effect.Stop slot) refl (quiet r.queues)
  effect_counted (effect.Dump slot) r = kept_count (effect.Dump slot) refl (quiet r.queues)
  effect_counted effect.Escalate r = kept_count effect.Escalate refl (quiet r.queues)
