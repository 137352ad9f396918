-- The numbers of channels.
use Rattle.std.proofs.Common.{◌≡◌, ℕ, zero, suc, ◌+◌, ◌<◌, ◌≤◌, Bool, true, false, ◌&&◌, ◌==◌, refl, sym, ap, ◌∙◌, List, [], ◌∷◌, ◌++◌, length, map, Option, Some, None, arith, eq-eqb}
use Rattle.std.specs.Prelude.{slice_get, take}
use Rattle.std.specs.List.{enumerate_from, flat_map}
use Rattle.std.specs.Option.{option_map, option_map_or}
use Rattle.std.proofs.lemmas.Bool.{eqb-true}
use Rattle.std.proofs.lemmas.List.{length-append, length-map}
use Rattle.std.proofs.lemmas.List.FromFn.{length-enumerate_from}
use Rattle.std.proofs.lemmas.List.Sums.{sum_by-cons}
use Rattle.kom_base.specs.declared.numbers.Half.{Half}
use Rattle.kom_base.specs.declared.numbers.Side.TheVariants.{Outside}
use Rattle.kom_lang.specs.Declarations.{Declarations, kind_of}
use Rattle.kom_lang.specs.declared.kind.Place.{Place}
use Rattle.kom_record.specs.Entries.{Act}
use Rattle.kom_record.specs.Instances.{Instance, alive, born, occupant}
use Rattle.kom_record.specs.Channels.{Channel, Environment, Own, channels, channels_of, half_of}
use Rattle.kom_laws.proofs.InstanceLaws.{born_grows}
use Rattle.kom_laws.proofs.ChannelLaws.{base, number_of_wire, wire_number}
use Rattle.kom_refine.specs.Points.{Point, StandsAt, acts_at}
use Rattle.kom_refine.specs.States.{State}
use Rattle.kom_refine.specs.Steps.{is_channel, names}
use Rattle.kom_numbered.specs.Laws.{channel_count, first_channel, half_by}

same_tests : (a b : Bool) → (a ≡ true → b ≡ true) → (b ≡ true → a ≡ true) → a ≡ b
same_tests true b f g = sym (f refl)
same_tests false true f g = g refl
same_tests false false f g = refl

both : (a b : Bool) → (a && b) ≡ true → (a ≡ true) × (b ≡ true)
both true b e = (refl, e)
both false b e = absurd cc

both_of : (a b : Bool) → a ≡ true → b ≡ true → (a && b) ≡ true
both_of true b e f = f
both_of false b e f = absurd cc

take_left : {X : Type 0} (n : ℕ) (xs ys : List X) → n ≤ length xs → take n (xs ++ ys) ≡ take n xs
take_left zero xs ys h = refl
take_left (suc n) [] ys h = absurd (omega (arith, h))
take_left (suc n) (x ∷ xs) ys h = ap (λ l. x ∷ l) (take_left n xs ys (omega (arith, h)))

take_all : {X : Type 0} (xs : List X) → take (length xs) xs ≡ xs
take_all [] = refl
take_all (x ∷ xs) = ap (λ l. x ∷ l) (take_all xs)

module _ (S : Declarations) where
  own_count : (n : ℕ) (i : Instance) → length (channels_of S (n, i)) ≡ length (kind_of S i.kind).channels
  own_count n i = length-map (enumerate_from 0 (kind_of S i.kind).channels) (λ k. Own n k.0) ∙ length-enumerate_from 0 (kind_of S i.kind).channels

  front_count : (c n : ℕ) (is : List Instance) → length (flat_map (channels_of S) (take c (enumerate_from n is))) ≡ channel_count S (take c is)
  front_count zero n is = refl
  front_count (suc c) n [] = refl
  front_count (suc c) n (i ∷ is) =
      let a = length-append (channels_of S (n, i)) (flat_map (channels_of S) (take c (enumerate_from (n + 1) is))) in
      let b = own_count n i in
      let r = front_count c (n + 1) is in
      let s = sum_by-cons (λ i. length (kind_of S i.kind).channels) i (take c is) in
      omega (arith, a, b, r, s)

  all_count : (n : ℕ) (is : List Instance) → length (flat_map (channels_of S) (enumerate_from n is)) ≡ channel_count S is
  all_count n [] = refl
  all_count n (i ∷ is) =
      let a = length-append (channels_of S (n, i)) (flat_map (channels_of S) (enumerate_from (n + 1) is)) in
      let b = own_count n i in
      let r = all_count (n + 1) is in
      let s = sum_by-cons (λ i. length (kind_of S i.kind).channels) i is in
      omega (arith, a, b, r, s)

  base_is : (done : List Act) (c : ℕ) → base S done c ≡ first_channel S done c
  base_is done c = ap (λ n. length (kind_of S S.root.kind).ports + n) (front_count c 0 (born S done))

  owned : (c k : ℕ) (o : Option Channel) → option_map_or (is_channel c k) o false ≡ true → o ≡ Some (Own c k)
  owned c k None e = absurd cc
  owned c k (Some (Environment q)) e = absurd cc
  owned c k (Some (Own d j)) e =
      let a = both _ _ e in
      let x : c ≡ d = eqb-true c d a.0 in
      let y : k ≡ j = eqb-true k j a.1 in
      cc

  named : (done : List Act) (c k x : ℕ) → slice_get (channels S done) (first_channel S done c + k) ≡ Some (Own c k) → names S done c k x ≡ (x == first_channel S done c + k)
  named done c k x at =
      same_tests (names S done c k x) (x == first_channel S done c + k)
      (λ e. eq-eqb x (first_channel S done c + k) (wire_number S done x c k (owned c k (slice_get (channels S done) x) e) ∙ ap (λ n. n + k) (base_is done c)))
      (λ e.
      let same = eqb-true x (first_channel S done c + k) e in
      ap (λ o. option_map_or (is_channel c k) o false) (ap (slice_get (channels S done)) same ∙ at) ∙ both_of (c == c) (k == k) (eq-eqb c c refl) (eq-eqb k k refl))

  pub numbered : (done : List Act) (c k : ℕ) (i : Instance) → slice_get (born S done) c ≡ Some i → k < length (kind_of S i.kind).channels
      → (slice_get (channels S done) (first_channel S done c + k) ≡ Some (Own c k)) × ((x : ℕ) → names S done c k x ≡ (x == first_channel S done c + k))
  numbered done c k i e h =
      let at = ap (λ n. slice_get (channels S done) (n + k)) (sym (base_is done c)) ∙ number_of_wire S done c k i e h in
      (at, λ x. named done c k x at)

  pub counted : (done : List Act) → length (channels S done) ≡ first_channel S done (length (born S done))
  unfolding channels
  counted done =
      let env = map (λ q. Environment q.0) (enumerate_from 0 (kind_of S S.root.kind).ports) in
      let a = length-append env (flat_map (channels_of S) (enumerate_from 0 (born S done))) in
      let b : length env ≡ length (kind_of S S.root.kind).ports = length-map (enumerate_from 0 (kind_of S S.root.kind).ports) (λ q. Environment q.0) ∙ length-enumerate_from 0 (kind_of S S.root.kind).ports in
      let c = all_count 0 (born S done) in
      let d : channel_count S (take (length (born S done)) (born S done)) ≡ channel_count S (born S done) = ap (channel_count S) (take_all (born S done)) in
      omega (arith, a, b, c, d)

  pub stay : (mine done : List Act) (c : ℕ) → c ≤ length (born S done) → first_channel S (mine ++ done) c ≡ first_channel S done c
  stay mine done c h =
      let g = born_grows S mine done in
      ap (λ l. length (kind_of S S.root.kind).ports + channel_count S (take c l)) g.1
      ∙ ap (λ l. length (kind_of S S.root.kind).ports + channel_count S l) (take_left c (born S done) g.0 h)

  -- ---- halves

  half_at : (done : List Act) (m : State) (c port : ℕ) (sl : Option ℕ) → ((s : ℕ) → m.child c s ≡ occupant S done c s) → half_of S done c (record { slot = sl; port = port }) ≡ half_by m c (record { slot = sl; port = port })
  unfolding half_of
  half_at done m c port None h = refl
  half_at done m c port (Some s) h = ap (option_map (outer port)) (sym (h s))
    where
      outer : ℕ → ℕ → Half
      outer port q = record { comp = q; port = port; side = Outside }

  pub halves : (p : Point) (m : State) (c : ℕ) (place : Place) → StandsAt S p m → alive S (acts_at p) c ≡ true → half_of S (acts_at p) c place ≡ half_by m c place
  halves p m c place s a = half_at (acts_at p) m c place.port place.slot (λ t. s.child c t a)
