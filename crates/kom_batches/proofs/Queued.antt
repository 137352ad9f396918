-- How many events can wait in channels, and how many can have gone out.
use Rattle.std.proofs.Common.{◌≡◌, ℕ, zero, suc, ◌+◌, ◌*◌, ◌<◌, ◌≤◌, Bool, true, false, if◌then◌else◌, not, ◌&&◌, ◌==◌, refl, sym, ap, ◌∙◌, List, [], ◌∷◌, ◌++◌, length, map, Option, Some, None, arith}
use Rattle.std.specs.Prelude.{is_some, nat_lt, slice_get}
use Rattle.std.specs.Option.{option_map_or}
use Rattle.std.specs.List.{cons_option, enumerate_from, filter_map, flat_map, sum_by}
use Rattle.std.proofs.lemmas.Bool.{eqb-true, eq-eqb, ltb-true, ne_eqb}
use Rattle.std.proofs.lemmas.Nat.{mul-le}
use Rattle.std.proofs.lemmas.List.{length-append}
use Rattle.std.proofs.lemmas.List.FromFn.{length-enumerate_from}
use Rattle.std.proofs.lemmas.List.Sums.{sum_by-cons, sum_by-le}
use Rattle.kom_base.specs.declared.numbers.Dir.{Dir}
use Rattle.kom_base.specs.declared.numbers.Dir.TheVariants.{Plus, Minus}
use Rattle.kom_base.specs.Numbers.{agree, is_plus}
use Rattle.kom_lang.specs.Declarations.{Declarations, kind_of}
use Rattle.kom_lang.specs.declared.kind.PortDecl.{PortDecl}
use Rattle.kom_laws.proofs.Unaffected.{and_both}
use Rattle.kom_offered.specs.Laws.{are_at_ports, number_into}
use Rattle.kom_offered.proofs.Releasing.{come_in}
use Rattle.kom_limits.specs.Laws.{ActsAreBounded, NumbersAreEnough, RecordsAreShort}
use Rattle.kom_record.specs.declared.plan.Plan.{Plan}
use Rattle.kom_record.specs.declared.entry.Release.{Release}
use Rattle.kom_record.specs.declared.entry.Entry.{Entry}
use Rattle.kom_record.specs.declared.entry.Entry.TheVariants.{Took, Did, Moved}
use Rattle.kom_record.specs.Channels.{Channel, Environment, channels, channels_of, comes_in, goes_out, is_living, is_outer}
use Rattle.kom_record.specs.Entries.{History, acts, acts_of}
use Rattle.kom_record.specs.Legal.{IsLegal}
use Rattle.kom_record.specs.Instances.{born}
use Rattle.kom_record.specs.Offers.{Offer, offers}
use Rattle.kom_record.specs.Plans.{PlanFits}
use Rattle.kom_record.specs.Queues.{Envelope, entered, entering, enters, is_among, received, waiting}
use Rattle.kom_record.specs.Ready.{directions, out, queued}
use Rattle.kom_system.specs.WellFormed.{IsDeclared}
use Rattle.kom_batches.proofs.Ported.{at_ports}
use Rattle.kom_batches.proofs.Short.{few_made, few_kept, few_offers, short}

slice_get_there : {X : Type 0} (xs : List X) (i : ℕ) → i < length xs → is_some (slice_get xs i) ≡ true
slice_get_there [] i lt = absurd (omega (arith, lt))
slice_get_there (x ∷ xs) zero lt = refl
slice_get_there (x ∷ xs) (suc i) lt = slice_get_there xs i (omega (arith, lt))

-- ---- sums over both directions of channels

abbrev both_ways : {X : Type 0} → ℕ → List X → List (ℕ × Dir)
both_ways n cs = flat_map (λ x. (x.0, Plus) ∷ (x.0, Minus) ∷ []) (enumerate_from n cs)

sum_less : {X : Type 0} (f g : X → ℕ) → ((x : X) → f x ≤ g x) → (xs : List X) → sum_by f xs ≤ sum_by g xs
sum_less f g h [] = omega arith
sum_less f g h (x ∷ xs) =
    let a = h x in
    let r = sum_less f g h xs in
    let b = sum_by-cons f x xs in
    let d = sum_by-cons g x xs in
    omega (arith, a, r, b, d)

sums_add : {X : Type 0} (f g h : X → ℕ) → ((x : X) → h x ≡ f x + g x) → (xs : List X) → sum_by h xs ≡ sum_by f xs + sum_by g xs
sums_add f g h e [] = refl
sums_add f g h e (x ∷ xs) =
    let a = e x in
    let r = sums_add f g h e xs in
    let b = sum_by-cons f x xs in
    let d = sum_by-cons g x xs in
    let k = sum_by-cons h x xs in
    omega (arith, a, r, b, d, k)

no_sum : {X : Type 0} (xs : List X) → sum_by (λ x. 0) xs ≡ 0
no_sum [] = refl
no_sum (x ∷ xs) = let a = sum_by-cons (λ x. 0) x xs in let r = no_sum xs in omega (arith, a, r)

long_ways : {X : Type 0} (n : ℕ) (cs : List X) → length (both_ways n cs) ≡ 2 * length cs
long_ways n [] = refl
long_ways n (c ∷ cs) = let r = long_ways (n + 1) cs in omega (arith, r)

two_more : {X : Type 0} (f : ℕ × Dir → ℕ) (n : ℕ) (c : X) (cs : List X) → sum_by f (both_ways n (c ∷ cs)) ≡ f (n, Plus) + f (n, Minus) + sum_by f (both_ways (n + 1) cs)
two_more f n c cs =
    let a = sum_by-cons f (n, Plus) ((n, Minus) ∷ both_ways (n + 1) cs) in
    let b = sum_by-cons f (n, Minus) (both_ways (n + 1) cs) in
    omega (arith, a, b)

long_map : {X Y : Type 0} (f : X → Y) (xs : List X) → length (map f xs) ≡ length xs
long_map f [] = refl
long_map f (x ∷ xs) = ap suc (long_map f xs)

module _ (S : Declarations) where
  abbrev ports : List PortDecl
  ports = (kind_of S S.root.kind).ports

  -- an event that is released at a port comes in by one direction of its channel
  abbrev counts : ℕ → ℕ × Dir → ℕ
  counts y x = if y == x.0 && comes_in S x.0 x.1 then 1 else 0

  one_way : (y : ℕ) → y < length ports → (if comes_in S y Plus then 1 else 0) + (if comes_in S y Minus then 1 else 0) ≡ 1
  unfolding comes_in is_outer
  one_way y lt = go (slice_get ports y) (slice_get_there ports y lt)
    where
      go : (o : Option PortDecl) → is_some o ≡ true
          → (if option_map_or (λ p. not (agree p.provided (is_plus Plus))) o false then 1 else 0) + (if option_map_or (λ p. not (agree p.provided (is_plus Minus))) o false then 1 else 0) ≡ 1
      go None h = absurd (cc)
      go (Some p) h = elim p.provided as (λ b. (if not (agree b true) then 1 else 0) + (if not (agree b false) then 1 else 0) ≡ 1) [ true ↦ refl | false ↦ refl ]

  elsewhere : (y n : ℕ) (d : Dir) → (y == n) ≡ false → counts y (n, d) ≡ 0
  elsewhere y n d e = ap (λ b. if b && comes_in S n d then 1 else 0) e

  here_at : (y n : ℕ) (d : Dir) → (y == n) ≡ true → counts y (n, d) ≡ (if comes_in S y d then 1 else 0)
  here_at y n d e = ap (λ b. if b && comes_in S n d then 1 else 0) e ∙ ap (λ m. if comes_in S m d then 1 else 0) (sym (eqb-true y n e))

  none_below : {X : Type 0} (y n : ℕ) (cs : List X) → y < n → sum_by (counts y) (both_ways n cs) ≡ 0
  none_below y n [] lt = refl
  none_below y n (c ∷ cs) lt =
      let a = two_more (counts y) n c cs in
      let r = none_below y (n + 1) cs (omega (arith, lt)) in
      let e : (y == n) ≡ false = ne_eqb y n (λ s. absurd (omega (arith, s, lt))) in
      let p = elsewhere y n Plus e in
      let m = elsewhere y n Minus e in
      omega (arith, a, r, p, m)

  one_among : {X : Type 0} (y n : ℕ) (cs : List X) → y < length ports → n ≤ y → y < n + length cs → sum_by (counts y) (both_ways n cs) ≡ 1
  one_among y n [] port low high = absurd (omega (arith, low, high))
  one_among y n (c ∷ cs) port low high = go (y == n) refl (one_among y (n + 1) cs port)
    where
      go : (b : Bool) → (y == n) ≡ b → (n + 1 ≤ y → y < (n + 1) + length cs → sum_by (counts y) (both_ways (n + 1) cs) ≡ 1) → sum_by (counts y) (both_ways n (c ∷ cs)) ≡ 1
      go true e rest =
          let a = two_more (counts y) n c cs in
          let p = here_at y n Plus e in
          let m = here_at y n Minus e in
          let w = one_way y port in
          let s : y ≡ n = eqb-true y n e in
          let r = none_below y (n + 1) cs (omega (arith, s)) in
          omega (arith, a, p, m, w, r)
      go false e rest =
          let a = two_more (counts y) n c cs in
          let p = elsewhere y n Plus e in
          let m = elsewhere y n Minus e in
          let s : (y ≡ n → ⊥) = λ s. cc (e, eq-eqb y n s) in
          let r = rest (omega (arith, low, s)) (omega (arith, high)) in
          omega (arith, a, p, m, r)

  -- ---- what a Moved brings in

  added_one : {X : Type 0} (b : Bool) (x : X) (xs : List X) → length (cons_option (if b then Some x else None) xs) ≡ (if b then 1 else 0) + length xs
  added_one true x xs = omega arith
  added_one false x xs = omega arith

  all_counted : {X : Type 0} (position k : ℕ) (released : List Release) (cs : List X) → are_at_ports S released ≡ true → length ports ≤ length cs
      → sum_by (λ (x : ℕ × Dir). length (filter_map (number_into S position x.0 x.1) (enumerate_from k released))) (both_ways 0 cs) ≡ length released
  all_counted position k [] cs at le = no_sum (both_ways 0 cs)
  all_counted position k (r ∷ released) cs at le =
      let parts = and_both (nat_lt r.chan (length ports)) (are_at_ports S released) at in
      let lt : r.chan < length ports = ltb-true r.chan (length ports) parts.0 in
      let rest = all_counted position (k + 1) released cs parts.1 le in
      let one = one_among r.chan 0 cs lt (omega arith) (omega (arith, lt, le)) in
      let sum = sums_add (counts r.chan) (λ (x : ℕ × Dir). length (filter_map (number_into S position x.0 x.1) (enumerate_from (k + 1) released)))
      (λ (x : ℕ × Dir). length (filter_map (number_into S position x.0 x.1) (enumerate_from k (r ∷ released))))
      (λ x. added_one (r.chan == x.0 && comes_in S x.0 x.1) (record { position = position; place = k }) (filter_map (number_into S position x.0 x.1) (enumerate_from (k + 1) released)))
      (both_ways 0 cs)
      in
      omega (arith, rest, one, sum)

  sum_by_same : {X : Type 0} (f g : X → ℕ) → ((x : X) → f x ≡ g x) → (xs : List X) → sum_by f xs ≡ sum_by g xs
  sum_by_same f g h [] = refl
  sum_by_same f g h (x ∷ xs) = sum_by-cons f x xs ∙ (λ i. h x i + sum_by_same f g h xs i) ∙ sym (sum_by-cons g x xs)

  pub moved_counted : {X : Type 0} (P : History) (w t : ℕ) (released : List Release) (cs : List X) → are_at_ports S released ≡ true → length ports ≤ length cs
      → sum_by (λ (x : ℕ × Dir). length (entering S P (Moved w t released) x.0 x.1)) (both_ways 0 cs) ≡ length released
  moved_counted P w t released cs at le =
      sum_by_same (λ (x : ℕ × Dir). length (entering S P (Moved w t released) x.0 x.1)) (λ (x : ℕ × Dir). length (filter_map (number_into S (length P) x.0 x.1) (enumerate_from 0 released)))
      (λ x. sym (long_map (λ q. q.no) (entering S P (Moved w t released) x.0 x.1)) ∙ ap length (come_in S P x.0 x.1 w t released at)) (both_ways 0 cs)
      ∙ all_counted (length P) 0 released cs at le

  ports_first : (P : History) → length ports ≤ length (channels S (acts P))
  unfolding channels
  ports_first P =
      let environment : List Channel = map (λ (q : ℕ × PortDecl). Environment q.0) (enumerate_from 0 ports) in
      let a = length-append environment (flat_map (channels_of S) (enumerate_from 0 (born S (acts P)))) in
      let b = long_map {Y = Channel} (λ (q : ℕ × PortDecl). Environment q.0) (enumerate_from 0 ports) in
      let c = length-enumerate_from 0 ports in
      omega (arith, a, b, c)

  pub entering_counted : (P : History) (w t : ℕ) (released : List Release) → are_at_ports S released ≡ true
      → sum_by (λ (x : ℕ × Dir). length (entering S P (Moved w t released) x.0 x.1)) (directions S P) ≡ length released
  unfolding directions
  entering_counted P w t released at = moved_counted P w t released (channels S (acts P)) at (ports_first P)

  -- ---- what ever entered

  did_enters : (P : History) (e : Entry) (x : ℕ) (d : Dir) → length (entering S P e x d) ≤ length (offers P e)
  unfolding entering
  did_enters P e x d =
      let a = few_made {Y = Envelope} (λ (q : ℕ × Offer). if enters S P x d q.1 then Some (record { no = record { position = length P; place = q.0 }; event = q.1.event; back = q.1.back }) else None) (enumerate_from 0 (offers P e)) in
      let b = length-enumerate_from 0 (offers P e) in
      omega (arith, a, b)

  module _ {X : Type 0} (Z : Plan) (cs : List X) (few : length (both_ways 0 cs) ≤ 6400002032) (le : length ports ≤ length cs) (bounded : ActsAreBounded) (shorts : RecordsAreShort) (fits : PlanFits S Z) where
    abbrev all_of : History → ℕ
    all_of P = sum_by (λ (x : ℕ × Dir). length (entered S P x.0 x.1)) (both_ways 0 cs)

    grown : (P : History) (e : Entry) → sum_by (λ (x : ℕ × Dir). length (entered S P x.0 x.1 ++ entering S P e x.0 x.1)) (both_ways 0 cs) ≡ all_of P + sum_by (λ (x : ℕ × Dir). length (entering S P e x.0 x.1)) (both_ways 0 cs)
    grown P e = sums_add (λ (x : ℕ × Dir). length (entered S P x.0 x.1)) (λ (x : ℕ × Dir). length (entering S P e x.0 x.1)) (λ (x : ℕ × Dir). length (entered S P x.0 x.1 ++ entering S P e x.0 x.1))
        (λ x. length-append (entered S P x.0 x.1) (entering S P e x.0 x.1)) (both_ways 0 cs)

    by_did : (P : History) (e : Entry) → sum_by (λ (x : ℕ × Dir). length (entering S P e x.0 x.1)) (both_ways 0 cs) ≤ 6400002032 * length (offers P e)
    by_did P e =
        let a = sum_by-le (λ (x : ℕ × Dir). length (entering S P e x.0 x.1)) (length (offers P e)) (both_ways 0 cs) (λ k x lt. did_enters P e _ _) in
        let c = mul-le (length (both_ways 0 cs)) (length (offers P e)) 6400002032 (length (offers P e)) few (omega arith) in
        omega (arith, a, c)

    few_entered : (P : History) → IsLegal S Z P → all_of P ≤ 6400002032 * (length (acts P) + length P) + 2007000000 * length P
    unfolding entered acts IsLegal
    few_entered [] l = let a = no_sum (both_ways 0 cs) in omega (arith, a)
    few_entered (Took w c item ∷ P) l =
        let r = few_entered P l.0 in
        let e = length-append (acts_of P (Took w c item)) (acts P) in
        omega (arith, r, e)
    few_entered (Did w c took o to places ∷ P) l =
        let r = few_entered P l.0 in
        let g = grown P (Did w c took o to places) in
        let a = by_did P (Did w c took o to places) in
        let b = few_offers S Z P w c took o to places in
        let e = length-append (acts_of P (Did w c took o to places)) (acts P) in
        omega (arith, r, g, a, b, e)
    few_entered (Moved w t released ∷ P) l =
        let r = few_entered P l.0 in
        let g = grown P (Moved w t released) in
        let at : are_at_ports S released ≡ true = ap (are_at_ports S) l.1.all_released ∙ at_ports S Z P t fits in
        let a = moved_counted P w t released cs at le in
        let b = ap length l.1.all_released in
        let k = short S Z bounded shorts P t fits l.0 in
        let e = length-append (acts_of P (Moved w t released)) (acts P) in
        omega (arith, r, g, a, b, k, e)

  few_waiting : (P : History) (x : ℕ) (d : Dir) → length (waiting S P x d) ≤ length (entered S P x d)
  unfolding waiting
  few_waiting P x d = few_kept (λ p. not (is_among S (received S P x d) p)) (entered S P x d)

  if_less : (b : Bool) (n m : ℕ) → n ≤ m → (if b then n else 0) ≤ m
  if_less true n m h = h
  if_less false n m h = omega arith

  module _ (Z : Plan) (bounded : ActsAreBounded) (shorts : RecordsAreShort) (enough : NumbersAreEnough) (P : History) (d : IsDeclared S) (fits : PlanFits S Z) (l : IsLegal S Z P) where
    abbrev ways : List (ℕ × Dir)
    ways = both_ways 0 (channels S (acts P))

    all_short : sum_by (λ (x : ℕ × Dir). length (entered S P x.0 x.1)) ways ≤ 100000000000000000
    all_short =
        let n = enough S Z P [] d fits l (omega arith) in
        let long = long_ways 0 (channels S (acts P)) in
        let m = n.channels_few in
        let few : length (both_ways 0 (channels S (acts P))) ≤ 6400002032 = omega (arith, long, m) in
        let a = few_entered Z (channels S (acts P)) few (ports_first P) bounded shorts fits P l in
        let b = bounded S Z P l in
        let c = shorts S Z P l in
        let s = fits.steps in
        let i = fits.instants in
        omega (arith, a, b, c, s, i)

    pub queue_short : queued S P ≤ 100000000000000000
    unfolding queued directions
    queue_short =
        let a = all_short in
        let q = sum_less (λ (x : ℕ × Dir). if is_living S (acts P) x.0 && not (goes_out S x.0 x.1) then length (waiting S P x.0 x.1) else 0) (λ x. length (entered S P x.0 x.1))
        (λ x. if_less (is_living S (acts P) x.0 && not (goes_out S x.0 x.1)) _ _ (few_waiting P x.0 x.1)) ways
        in
        omega (arith, a, q)

    pub out_short : out S P ≤ 100000000000000000
    unfolding out directions
    out_short =
        let a = all_short in
        let q = sum_less (λ (x : ℕ × Dir). if goes_out S x.0 x.1 then length (entered S P x.0 x.1) else 0) (λ x. length (entered S P x.0 x.1))
        (λ x. if_less (goes_out S x.0 x.1) _ _ (omega arith)) ways
        in
        omega (arith, a, q)
