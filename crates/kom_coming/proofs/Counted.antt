-- How many events wait after some came in.
use Rattle.std.proofs.Common.{◌≡◌, ◌≢◌, ℕ, zero, suc, ◌+◌, ◌<◌, ◌≤◌, Bool, true, false, if◌then◌else◌, ◌&&◌, ◌==◌, refl, sym, ap, ◌∙◌, subst, List, [], ◌∷◌, length, Option, Some, None, inl, inr, arith}
use Rattle.std.specs.Prelude.{is_some, slice_get}
use Rattle.std.specs.List.{cons_option, enumerate_from, flat_map, sum_by}
use Rattle.std.specs.Option.{option_map, option_map_or}
use Rattle.std.proofs.lemmas.Bool.{cases_eq, eq-eqb, ne_eqb}
use Rattle.std.proofs.lemmas.List.{append-nil, length-append, length-map}
use Rattle.std.proofs.lemmas.List.Sums.{sum_by-append}
use Rattle.kom_base.specs.declared.numbers.Dir.{Dir}
use Rattle.kom_base.specs.declared.numbers.Dir.TheVariants.{Plus, Minus}
use Rattle.kom_base.specs.declared.numbers.EntryNo.{EntryNo}
use Rattle.kom_base.specs.Numbers.{same_dir}
use Rattle.kom_lang.specs.Declarations.{Declarations}
use Rattle.kom_record.specs.declared.entry.Entry.TheVariants.{Did}
use Rattle.kom_record.specs.declared.entry.Outcome.{Outcome}
use Rattle.kom_record.specs.Entries.{History, acts}
use Rattle.kom_record.specs.Channels.{channel_alive, channels, goes_out, is_living}
use Rattle.kom_record.specs.Ready.{directions, out, queued}
use Rattle.kom_record.specs.Time.{outgoing, outgoing_of}
use Rattle.kom_entering.specs.declared.lists.Coming.{Coming}
use Rattle.kom_entering.specs.declared.lists.Entering.{Entering}
use Rattle.kom_entering.specs.Lists.{IsEntering, going_of, numbers_into}
use Rattle.kom_refine.specs.Points.{StandsAt, start_of}
use Rattle.kom_refine.specs.States.{Link, Queue, State}
use Rattle.kom_refine.specs.Steps.{HaveCome, with_numbers}
use Rattle.kom_wakes.specs.Laws.{OutIsCounted, QueuedIsCounted, queue_length}
use Rattle.kom_coming.specs.Directions.{AreThere}

both : {X : Type 0} (f : ℕ × Dir → ℕ) (n : ℕ) (c : X) (cs : List X)
    → sum_by f (flat_map (λ (x : ℕ × X). (x.0, Plus) ∷ (x.0, Minus) ∷ []) (enumerate_from n (c ∷ cs))) ≡ (f (n, Plus) + f (n, Minus)) + sum_by f (flat_map (λ (x : ℕ × X). (x.0, Plus) ∷ (x.0, Minus) ∷ []) (enumerate_from (n + 1) cs))
both {X} f n c cs =
    let rest = sum_by f (flat_map (λ (x : ℕ × X). (x.0, Plus) ∷ (x.0, Minus) ∷ []) (enumerate_from (n + 1) cs)) in
    sum_by-append f ((n, Plus) ∷ (n, Minus) ∷ []) (flat_map (λ (x : ℕ × X). (x.0, Plus) ∷ (x.0, Minus) ∷ []) (enumerate_from (n + 1) cs))
    ∙ (let e : ((0 + f (n, Plus)) + f (n, Minus)) + rest ≡ (f (n, Plus) + f (n, Minus)) + rest = omega arith in e)

sum_same : {X : Type 0} (f g : ℕ × Dir → ℕ) (n : ℕ) (cs : List X) → ((x : ℕ) (d : Dir) → n ≤ x → g (x, d) ≡ f (x, d))
    → sum_by g (flat_map (λ (x : ℕ × X). (x.0, Plus) ∷ (x.0, Minus) ∷ []) (enumerate_from n cs)) ≡ sum_by f (flat_map (λ (x : ℕ × X). (x.0, Plus) ∷ (x.0, Minus) ∷ []) (enumerate_from n cs))
sum_same f g n [] h = refl
sum_same f g n (c ∷ cs) h =
    let a = both g n c cs in
    let b = both f n c cs in
    let r = sum_same f g (n + 1) cs (λ x d l. h x d (omega arith)) in
    let p = h n Plus (omega arith) in
    let m = h n Minus (omega arith) in
    omega (arith, a, b, r, p, m)

one_less : {X : Type 0} (f g : ℕ × Dir → ℕ) (y : ℕ) (e : Dir) → g (y, e) + 1 ≡ f (y, e) → ((x : ℕ) (d : Dir) → (y == x && same_dir e d) ≡ false → g (x, d) ≡ f (x, d))
    → (n : ℕ) (cs : List X) → n ≤ y → y < n + length cs
    → sum_by g (flat_map (λ (x : ℕ × X). (x.0, Plus) ∷ (x.0, Minus) ∷ []) (enumerate_from n cs)) + 1 ≡ sum_by f (flat_map (λ (x : ℕ × X). (x.0, Plus) ∷ (x.0, Minus) ∷ []) (enumerate_from n cs))
one_less f g y e one other n [] low high = absurd (omega arith)
one_less f g y e one other n (c ∷ cs) low high =
    let a = both g n c cs in
    let b = both f n c cs in
    elim (cases_eq y n) [
      | inl s ↦
          let r = sum_same f g (n + 1) cs (λ x d l. other x d (ap (λ t. t && same_dir e d) (ne_eqb y x (λ q. absurd (omega (arith, s, q, l)))))) in
          let h = here e n s one other in
          omega (arith, a, b, r, h)
      | inr t ↦
          let r = one_less f g y e one other (n + 1) cs (let k : y ≢ n = t in omega arith) (omega arith) in
          let p = other n Plus (ap (λ q. q && same_dir e Plus) (ne_eqb y n t)) in
          let m = other n Minus (ap (λ q. q && same_dir e Minus) (ne_eqb y n t)) in
          omega (arith, a, b, r, p, m)
    ]
  where
    here : (e : Dir) (n : ℕ) → y ≡ n → g (y, e) + 1 ≡ f (y, e) → ((x : ℕ) (d : Dir) → (y == x && same_dir e d) ≡ false → g (x, d) ≡ f (x, d)) → (g (n, Plus) + g (n, Minus)) + 1 ≡ f (n, Plus) + f (n, Minus)
    here Plus n s one other =
        let p : g (n, Plus) + 1 ≡ f (n, Plus) = subst (λ x. g (x, Plus) + 1 ≡ f (x, Plus)) s one in
        let m = other n Minus (off (y == n)) in
        omega (arith, p, m)
      where
        off : (b : Bool) → (b && false) ≡ false
        off true = refl
        off false = refl
    here Minus n s one other =
        let p : g (n, Minus) + 1 ≡ f (n, Minus) = subst (λ x. g (x, Minus) + 1 ≡ f (x, Minus)) s one in
        let m = other n Plus (off (y == n)) in
        omega (arith, p, m)
      where
        off : (b : Bool) → (b && false) ≡ false
        off true = refl
        off false = refl

got_below : {X : Type 0} (xs : List X) (i : ℕ) → is_some (slice_get xs i) ≡ true → i < length xs
got_below [] i h = absurd cc
got_below (x ∷ xs) zero h = omega arith
got_below (x ∷ xs) (suc i) h = let k = got_below xs i h in omega (arith, k)

some_by : {X : Type 0} (f : X → Bool) (o : Option X) → option_map_or f o false ≡ true → is_some o ≡ true
some_by f None h = absurd cc
some_by f (Some x) h = refl

own : (y : ℕ) (e : Dir) → (y == y && same_dir e e) ≡ true
own y Plus = ap (λ t. t && true) (eq-eqb y y refl)
own y Minus = ap (λ t. t && true) (eq-eqb y y refl)

longer : (q : Option Queue) (n : EntryNo) (ns : List EntryNo) → is_some q ≡ true → queue_length (option_map (with_numbers ns) q) + 1 ≡ queue_length (option_map (with_numbers (n ∷ ns)) q)
longer None n ns h = absurd cc
longer (Some q) n ns h = let a = length-append q.numbers ns in let b = length-append q.numbers (n ∷ ns) in omega (arith, a, b)

none_longer : (q : Option Queue) → queue_length (option_map (with_numbers []) q) ≡ queue_length q
none_longer None = refl
none_longer (Some q) = ap length (append-nil q.numbers)

module _ (S : Declarations) (P : History) (m : State) (s : StandsAt S (start_of P) m) where
  living_there : (g l : Bool) (k : Link) (f : Link → Queue) → is_some (if g then None else option_map f (if l then Some k else None)) ≡ true → l ≡ true
  living_there true l k f e = absurd cc
  living_there false true k f e = refl
  living_there false false k f e = absurd cc

  in_range : (x : ℕ) (d : Dir) → is_some (m.queues x d) ≡ true → x < length (channels S (acts P))
  unfolding is_living
  in_range x d h = got_below (channels S (acts P)) x (some_by (channel_alive S (acts P)) (slice_get (channels S (acts P)) x) (living_there (goes_out S x d) (is_living S (acts P) x) _ _ (sym (ap is_some (s.queues x d)) ∙ h)))

  abbrev long : List Coming → ℕ × Dir → ℕ
  long qs x = queue_length (option_map (with_numbers (numbers_into qs x.0 x.1)) (m.queues x.0 x.1))

  all_counted : (qs : List Coming) → AreThere qs m → sum_by (long qs) (directions S P) ≡ sum_by (λ x. queue_length (m.queues x.0 x.1)) (directions S P) + length qs
  unfolding directions
  all_counted [] t =
      let r = sum_same (λ x. queue_length (m.queues x.0 x.1)) (long []) 0 (channels S (acts P)) (λ x d l. none_longer (m.queues x d)) in
      omega (arith, r)
  all_counted (q ∷ qs) t =
      let one : long qs (q.chan, q.dir) + 1 ≡ long (q ∷ qs) (q.chan, q.dir) =
      longer (m.queues q.chan q.dir) q.no (numbers_into qs q.chan q.dir) t.0
      ∙ sym (ap (λ b. queue_length (option_map (with_numbers (cons_option (if b then Some q.no else None) (numbers_into qs q.chan q.dir))) (m.queues q.chan q.dir))) (own q.chan q.dir))
      in
      let r = one_less (long (q ∷ qs)) (long qs) q.chan q.dir one
      (λ x d f. sym (ap (λ b. queue_length (option_map (with_numbers (cons_option (if b then Some q.no else None) (numbers_into qs x d))) (m.queues x d))) f))
      0 (channels S (acts P)) (omega arith) (let i = in_range q.chan q.dir t.0 in omega (arith, i))
      in
      let k = all_counted qs t.1 in
      omega (arith, r, k)

  pub queued_more : (qs : List Coming) (n : State) → QueuedIsCounted → AreThere qs m → HaveCome (numbers_into qs) m n → sum_by (λ x. queue_length (n.queues x.0 x.1)) (directions S P) ≡ queued S P + length qs
  unfolding directions
  queued_more qs n law t step =
      let a = sum_same (long qs) (λ x. queue_length (n.queues x.0 x.1)) 0 (channels S (acts P)) (λ x d l. ap queue_length (step.queues x d)) in
      let b = all_counted qs t in
      let k = law S P m s in
      omega (arith, a, b, k)

pub out_more : (S : Declarations) (P : History) (w c took : ℕ) (o : Outcome) (to : Option ℕ) (places : List ℕ) (v : Entering) → OutIsCounted → IsEntering S P (Did w c took o to places) v
    → out S (Did w c took o to places ∷ P) ≡ out S P + length v.goings
unfolding outgoing
out_more S P w c took o to places v law i =
    let a = law S (Did w c took o to places ∷ P) in
    let b = law S P in
    let k = length-append (outgoing S P) (outgoing_of S P (Did w c took o to places)) in
    let g = ap length i.goings ∙ length-map (outgoing_of S P (Did w c took o to places)) going_of in
    omega (arith, a, b, k, g)
