-- How many events wait after a Took.
use Rattle.std.proofs.Common.{◌≡◌, ◌≢◌, ℕ, zero, suc, ◌+◌, ◌<◌, ◌≤◌, Bool, true, false, if◌then◌else◌, ◌&&◌, ◌==◌, refl, sym, ap, ◌∙◌, subst, List, [], ◌∷◌, length, drop, Option, Some, None, inl, inr, arith}
use Rattle.std.specs.Prelude.{is_some, slice_get}
use Rattle.std.specs.List.{enumerate_from, flat_map, sum_by}
use Rattle.std.specs.Option.{option_map, option_map_or, option_and_then}
use Rattle.std.proofs.lemmas.Bool.{cases_eq, eq-eqb, ne_eqb}
use Rattle.std.proofs.lemmas.List.Sums.{sum_by-append}
use Rattle.kom_base.specs.declared.numbers.Dir.{Dir}
use Rattle.kom_base.specs.declared.numbers.Dir.TheVariants.{Plus, Minus}
use Rattle.kom_base.specs.declared.numbers.EntryNo.{EntryNo}
use Rattle.kom_base.specs.Lists.{first}
use Rattle.kom_base.specs.Numbers.{same_dir}
use Rattle.kom_lang.specs.Declarations.{Declarations}
use Rattle.kom_record.specs.declared.item.Item.{Item}
use Rattle.kom_record.specs.declared.item.Item.TheVariants.{Control, Arrival}
use Rattle.kom_record.specs.declared.entry.Entry.TheVariants.{Took}
use Rattle.kom_record.specs.Entries.{History, acts, acts_of}
use Rattle.kom_record.specs.Channels.{channels, channel_alive, goes_out, is_living}
use Rattle.kom_record.specs.Queues.{entered}
use Rattle.kom_record.specs.Ready.{directions, out, queued}
use Rattle.kom_refine.specs.Points.{StandsAt, start_of}
use Rattle.kom_refine.specs.States.{Link, Queue, State}
use Rattle.kom_refine.specs.Steps.{IsTaken, without_first}
use Rattle.kom_wakes.specs.Laws.{QueuedIsCounted, queue_length}
use Rattle.kom_turns.specs.Items.{WaitsFirst, events_in}

both : {X : Type 0} (f : ℕ × Dir → ℕ) (n : ℕ) (c : X) (cs : List X)
    → sum_by f (flat_map (λ (x : ℕ × X). (x.0, Plus) ∷ (x.0, Minus) ∷ []) (enumerate_from n (c ∷ cs))) ≡ (f (n, Plus) + f (n, Minus)) + sum_by f (flat_map (λ (x : ℕ × X). (x.0, Plus) ∷ (x.0, Minus) ∷ []) (enumerate_from (n + 1) cs))
both {X} f n c cs =
    let rest = sum_by f (flat_map (λ (x : ℕ × X). (x.0, Plus) ∷ (x.0, Minus) ∷ []) (enumerate_from (n + 1) cs)) in
    sum_by-append f ((n, Plus) ∷ (n, Minus) ∷ []) (flat_map (λ (x : ℕ × X). (x.0, Plus) ∷ (x.0, Minus) ∷ []) (enumerate_from (n + 1) cs))
    ∙ (let e : ((0 + f (n, Plus)) + f (n, Minus)) + rest ≡ (f (n, Plus) + f (n, Minus)) + rest = omega arith in e)

sum_same : {X : Type 0} (f g : ℕ × Dir → ℕ) (n : ℕ) (cs : List X) → ((x : ℕ) (d : Dir) → n ≤ x → g (x, d) ≡ f (x, d))
    → sum_by g (flat_map (λ (x : ℕ × X). (x.0, Plus) ∷ (x.0, Minus) ∷ []) (enumerate_from n cs)) ≡ sum_by f (flat_map (λ (x : ℕ × X). (x.0, Plus) ∷ (x.0, Minus) ∷ []) (enumerate_from n cs))
sum_same f g n [] h = refl
sum_same f g n (c ∷ cs) h =
    let a = both g n c cs in
    let b = both f n c cs in
    let r = sum_same f g (n + 1) cs (λ x d l. h x d (omega arith)) in
    let p = h n Plus (omega arith) in
    let m = h n Minus (omega arith) in
    omega (arith, a, b, r, p, m)

one_less : {X : Type 0} (f g : ℕ × Dir → ℕ) (y : ℕ) (e : Dir) → g (y, e) + 1 ≡ f (y, e) → ((x : ℕ) (d : Dir) → (y == x && same_dir e d) ≡ false → g (x, d) ≡ f (x, d))
    → (n : ℕ) (cs : List X) → n ≤ y → y < n + length cs
    → sum_by g (flat_map (λ (x : ℕ × X). (x.0, Plus) ∷ (x.0, Minus) ∷ []) (enumerate_from n cs)) + 1 ≡ sum_by f (flat_map (λ (x : ℕ × X). (x.0, Plus) ∷ (x.0, Minus) ∷ []) (enumerate_from n cs))
one_less f g y e one other n [] low high = absurd (omega arith)
one_less f g y e one other n (c ∷ cs) low high =
    let a = both g n c cs in
    let b = both f n c cs in
    elim (cases_eq y n) [
      | inl s ↦
          let r = sum_same f g (n + 1) cs (λ x d l. other x d (ap (λ t. t && same_dir e d) (ne_eqb y x (λ q. absurd (omega (arith, s, q, l)))))) in
          let h = here e n s one other in
          omega (arith, a, b, r, h)
      | inr t ↦
          let r = one_less f g y e one other (n + 1) cs (let k : y ≢ n = t in omega arith) (omega arith) in
          let p = other n Plus (ap (λ q. q && same_dir e Plus) (ne_eqb y n t)) in
          let m = other n Minus (ap (λ q. q && same_dir e Minus) (ne_eqb y n t)) in
          omega (arith, a, b, r, p, m)
    ]
  where
    here : (e : Dir) (n : ℕ) → y ≡ n → g (y, e) + 1 ≡ f (y, e) → ((x : ℕ) (d : Dir) → (y == x && same_dir e d) ≡ false → g (x, d) ≡ f (x, d)) → (g (n, Plus) + g (n, Minus)) + 1 ≡ f (n, Plus) + f (n, Minus)
    here Plus n s one other =
        let p : g (n, Plus) + 1 ≡ f (n, Plus) = subst (λ x. g (x, Plus) + 1 ≡ f (x, Plus)) s one in
        let m = other n Minus (off (y == n)) in
        omega (arith, p, m)
      where
        off : (b : Bool) → (b && false) ≡ false
        off true = refl
        off false = refl
    here Minus n s one other =
        let p : g (n, Minus) + 1 ≡ f (n, Minus) = subst (λ x. g (x, Minus) + 1 ≡ f (x, Minus)) s one in
        let m = other n Plus (off (y == n)) in
        omega (arith, p, m)
      where
        off : (b : Bool) → (b && false) ≡ false
        off true = refl
        off false = refl

got_below : {X : Type 0} (xs : List X) (i : ℕ) → is_some (slice_get xs i) ≡ true → i < length xs
got_below [] i h = absurd cc
got_below (x ∷ xs) zero h = omega arith
got_below (x ∷ xs) (suc i) h = let k = got_below xs i h in omega (arith, k)

some_by : {X : Type 0} (f : X → Bool) (o : Option X) → option_map_or f o false ≡ true → is_some o ≡ true
some_by f None h = absurd cc
some_by f (Some x) h = refl

-- a queue from which the first is taken
shorter : (q : Option Queue) (k : EntryNo) → option_and_then (λ q. first q.numbers) q ≡ Some k → queue_length (option_map without_first q) + 1 ≡ queue_length q
shorter None k e = absurd cc
shorter (Some q) k e = drops q.numbers e
  where
    drops : (ns : List EntryNo) → first ns ≡ Some k → length (drop 1 ns) + 1 ≡ length ns
    drops [] e = absurd cc
    drops (n ∷ ns) e = omega arith

own : (y : ℕ) (e : Dir) → (y == y && same_dir e e) ≡ true
own y Plus = ap (λ t. t && true) (eq-eqb y y refl)
own y Minus = ap (λ t. t && true) (eq-eqb y y refl)

module _ (S : Declarations) (P : History) (w c : ℕ) where
  living_there : (g l : Bool) (o : Option Queue) (k : EntryNo) → option_and_then (λ q. first q.numbers) (if g then None else (if l then o else None)) ≡ Some k → l ≡ true
  living_there true l o k e = absurd cc
  living_there false true o k e = refl
  living_there false false o k e = absurd cc

  in_range : (m : State) (x : ℕ) (d : Dir) (k : EntryNo) → StandsAt S (start_of P) m → option_and_then (λ q. first q.numbers) (m.queues x d) ≡ Some k → x < length (channels S (acts P))
  unfolding is_living
  in_range m x d k s e =
      got_below (channels S (acts P)) x (some_by (channel_alive S (acts P)) (slice_get (channels S (acts P)) x)
      (living_there (goes_out S x d) (is_living S (acts P) x) _ k
      (sym (ap (option_and_then (λ q. first q.numbers)) (s.queues x d ∙ ap (λ q. if goes_out S x d then None else q) (moved _ _ (is_living S (acts P) x)))) ∙ e)))
    where
      moved : (f : Link → Queue) (k : Link) (l : Bool) → option_map f (if l then Some k else None) ≡ (if l then Some (f k) else None)
      moved f k true = refl
      moved f k false = refl

  pub queued_after : (item : Item) (m n : State) → QueuedIsCounted → StandsAt S (start_of P) m → StandsAt S (start_of (Took w c item ∷ P)) n → IsTaken c item m n → WaitsFirst m c item
      → queued S (Took w c item ∷ P) + events_in item ≡ queued S P
  unfolding directions acts acts_of
  queued_after (Control k) m n law s t taken h =
      let a = law S (Took w c (Control k) ∷ P) n t in
      let b = law S P m s in
      let same = sum_same (λ x. queue_length (m.queues x.0 x.1)) (λ x. queue_length (n.queues x.0 x.1)) 0 (channels S (acts P)) (λ x d l. ap queue_length (taken.queues x d)) in
      omega (arith, a ∙ same ∙ sym b)
  queued_after (Arrival y e k port side event back) m n law s t taken h =
      let a = law S (Took w c (Arrival y e k port side event back) ∷ P) n t in
      let b = law S P m s in
      let one : queue_length (n.queues y e) + 1 ≡ queue_length (m.queues y e) =
      ap (λ q. queue_length q + 1) (taken.queues y e ∙ ap (λ t. if t then option_map without_first (m.queues y e) else m.queues y e) (own y e)) ∙ shorter (m.queues y e) k h
      in
      let r = one_less (λ x. queue_length (m.queues x.0 x.1)) (λ x. queue_length (n.queues x.0 x.1)) y e one
      (λ x d f. ap queue_length (taken.queues x d ∙ ap (λ t. if t then option_map without_first (m.queues x d) else m.queues x d) f))
      0 (channels S (acts P)) (omega arith) (let i = in_range m y e k s h in omega (arith, i))
      in
      ap (λ q. q + 1) a ∙ r ∙ sym b

  pub out_after : (item : Item) → out S (Took w c item ∷ P) ≡ out S P
  unfolding out directions acts acts_of entered
  out_after item = refl

-- where an event waits, some are counted
pub enough : (S : Declarations) (P : History) (c : ℕ) (item : Item) (m : State) → QueuedIsCounted → StandsAt S (start_of P) m → WaitsFirst m c item → events_in item ≤ queued S P
unfolding directions
enough S P c (Control k) m law s h = omega arith
enough S P c (Arrival y e k port side event back) m law s h =
    let b = law S P m s in
    let r = one_less (λ x. queue_length (m.queues x.0 x.1)) (λ x. if y == x.0 && same_dir e x.1 then queue_length (option_map without_first (m.queues x.0 x.1)) else queue_length (m.queues x.0 x.1)) y e
    (ap (λ t. (if t then queue_length (option_map without_first (m.queues y e)) else queue_length (m.queues y e)) + 1) (own y e) ∙ shorter (m.queues y e) k h)
    (λ x d f. ap (λ t. if t then queue_length (option_map without_first (m.queues x d)) else queue_length (m.queues x d)) f)
    0 (channels S (acts P)) (omega arith) (let i = in_range S P 0 c m y e k s h in omega (arith, i))
    in
    omega (arith, b, r)
