-- What goes out: by one channel at most, and in order of number.
use Rattle.std.proofs.Common.{◌≡◌, ℕ, zero, suc, ◌+◌, ◌≤◌, Bool, true, false, refl, sym, ap, ◌∙◌, subst, List, [], ◌∷◌, ◌++◌, length, map, Option, Some, None, if◌then◌else◌, ◌⊎◌, inl, inr, arith}
use Rattle.std.specs.Prelude.{slice_get}
use Rattle.std.specs.List.{flat_map, filter_map, enumerate_from, cons_option}
use Rattle.std.specs.Option.{option_map_or, option_and_then}
use Rattle.std.proofs.lemmas.Bool.{eqb-true}
use Rattle.kom_base.specs.declared.numbers.Dir.{Dir}
use Rattle.kom_base.specs.declared.numbers.Half.{Half}
use Rattle.kom_base.specs.declared.numbers.Side.TheVariants.{Outside}
use Rattle.kom_base.specs.Numbers.{agree, is_plus, same_half}
use Rattle.kom_lang.specs.Declarations.{Declarations, kind_of}
use Rattle.kom_lang.specs.declared.kind.PortDecl.{PortDecl}
use Rattle.kom_record.specs.Model.{model}
use Rattle.kom_record.specs.declared.entry.Entry.{Entry}
use Rattle.kom_record.specs.Entries.{History, Act, acts}
use Rattle.kom_record.specs.Instances.{born}
use Rattle.kom_record.specs.Channels.{Channel, Environment, channels, channels_of, source, comes_in, is_living}
use Rattle.kom_record.specs.Offers.{Origin, AtHalf, FromOutside, Offer, offers}
use Rattle.kom_record.specs.Queues.{enters, starts_at}
use Rattle.kom_record.specs.Time.{Outgoing, clock, outgoing_by, outgoing_of, outward, root_ports}
use Rattle.kom_laws.proofs.Members.{IsIn, here, there, Some-injective}
use Rattle.kom_laws.proofs.ListFacts.{numbered, in_numbered, nothing_made}
use Rattle.kom_laws.proofs.NextItem.{chosen, bound}
use Rattle.kom_laws.proofs.Unaffected.{and_both}
use Rattle.kom_times.specs.Laws.{goes_out_by}

pub held_of : {X : Type 0} (f : X → Bool) (o : Option X) → option_map_or f o false ≡ true → (x : X) × (o ≡ Some x) × (f x ≡ true)
held_of f None e = absurd cc
held_of f (Some x) e = (x, refl, e)

made_from_at : {X Y : Type 0} (f : X → Option Y) (x : X) (xs : List X) (y : Y) (o : Option Y) → f x ≡ o → (IsIn y (filter_map f xs) → (z : X) × IsIn z xs × (f z ≡ Some y)) → IsIn y (cons_option o (filter_map f xs)) → (z : X) × IsIn z (x ∷ xs) × (f z ≡ Some y)
made_from_at f x xs y None e rest h = let r = rest h in (r.0, there r.1, r.2)
made_from_at f x xs y (Some y') e rest here = (x, here, e)
made_from_at f x xs y (Some z) e rest (there h) = let r = rest h in (r.0, there r.1, r.2)

-- what was made was made from a member
pub made_from : {X Y : Type 0} (f : X → Option Y) (xs : List X) (y : Y) → IsIn y (filter_map f xs) → (x : X) × IsIn x xs × (f x ≡ Some y)
made_from f [] y h = elim h [ ]
made_from f (x ∷ xs) y h = made_from_at f x xs y (f x) refl (made_from f xs y) h

-- ---- lists from which at most one thing is made

-- a member of a numbered list has at least its first number
number_from : {X : Type 0} (n : ℕ) (xs : List X) (q : ℕ × X) → IsIn q (enumerate_from n xs) → n ≤ q.0
number_from n xs q h = let r = numbered n xs q h in omega (arith, r.1)

abbrev AtMostOne : {X Y : Type 0} → (ℕ × X → Option Y) → List (ℕ × X) → Type 0
AtMostOne {X} {Y} f qs = (p q : ℕ × X) (a b : Y) → IsIn p qs → IsIn q qs → f p ≡ Some a → f q ≡ Some b → p.0 ≡ q.0

rest_nothing : {X Y : Type 0} (f : ℕ × X → Option Y) (n : ℕ) (x : X) (xs : List X) (y : Y) → AtMostOne f (enumerate_from n (x ∷ xs)) → f (n, x) ≡ Some y → (q : ℕ × X) → IsIn q (enumerate_from (n + 1) xs) → (o : Option Y) → f q ≡ o → f q ≡ None
rest_nothing f n x xs y h e q m None g = g
rest_nothing f n x xs y h e q m (Some z) g =
    let s = h (n, x) q y z here (there m) e g in
    let t = number_from (n + 1) xs q m in
    absurd (omega (arith, s, t))

one_made_at : {X Y : Type 0} (f : ℕ × X → Option Y) (n : ℕ) (x : X) (xs : List X) (q : ℕ × X) (y : Y) → AtMostOne f (enumerate_from n (x ∷ xs)) → f q ≡ Some y → (IsIn q (enumerate_from (n + 1) xs) → filter_map f (enumerate_from (n + 1) xs) ≡ y ∷ [])
    → (o : Option Y) → f (n, x) ≡ o → IsIn q (enumerate_from n (x ∷ xs)) → cons_option (f (n, x)) (filter_map f (enumerate_from (n + 1) xs)) ≡ y ∷ []
one_made_at f n x xs q y h e rest o g here =
    ap (λ z. cons_option z (filter_map f (enumerate_from (n + 1) xs))) e
    ∙ ap (λ r. y ∷ r) (nothing_made f (enumerate_from (n + 1) xs) (λ p m. rest_nothing f n x xs y h e p m (f p) refl))
one_made_at f n x xs q y h e rest None g (there m) = ap (λ z. cons_option z (filter_map f (enumerate_from (n + 1) xs))) g ∙ rest m
one_made_at f n x xs q y h e rest (Some z) g (there m) = absurd (let k : f q ≡ None = rest_nothing f n x xs z h g q m (f q) refl in cc)

pub one_made : {X Y : Type 0} (f : ℕ × X → Option Y) (n : ℕ) (xs : List X) (q : ℕ × X) (y : Y) → AtMostOne f (enumerate_from n xs) → IsIn q (enumerate_from n xs) → f q ≡ Some y → filter_map f (enumerate_from n xs) ≡ y ∷ []
one_made f n [] q y h m e = elim m [ ]
one_made f n (x ∷ xs) q y h m e =
    one_made_at f n x xs q y h e (λ k. one_made f (n + 1) xs q y (λ p r a b i j. h p r a b (there i) (there j)) k e) (f (n, x)) refl m

module _ (S : Declarations) where
  environment_at : (n : ℕ) (ps : List PortDecl) (more : List Channel) (i : ℕ) (p : PortDecl) → slice_get ps i ≡ Some p → slice_get (map (λ q. Environment q.0) (enumerate_from n ps) ++ more) i ≡ Some (Environment (n + i))
  environment_at n [] more i p e = absurd cc
  environment_at n (q ∷ ps) more zero p e = ap (λ m. Some (Environment m)) (let f : n ≡ n + 0 = omega arith in f)
  environment_at n (q ∷ ps) more (suc i) p e = environment_at (n + 1) ps more i p e ∙ ap (λ m. Some (Environment m)) (let f : (n + 1) + i ≡ n + suc i = omega arith in f)

  -- the half at the end of an environment channel is at the port of the same number
  source_port : (done : List Act) (x : ℕ) (d : Dir) (port : PortDecl) (h : Half) → slice_get (kind_of S S.root.kind).ports x ≡ Some port → source S done x d ≡ Some h → h.port ≡ x
  unfolding model
  source_port done x d port h p e =
      let at = environment_at 0 (kind_of S S.root.kind).ports (flat_map (channels_of S) (enumerate_from 0 (born S done))) x port p in
      let zero_more : 0 + x ≡ x = omega arith in
      let end : option_and_then (λ q. if agree q.provided (is_plus d) then Some (record { comp = 0; port = 0 + x; side = Outside }) else None) (slice_get (kind_of S S.root.kind).ports (0 + x)) ≡ Some h =
      sym (ap (option_and_then (Rattle.kom_record.specs.Channels.channel_end S done d)) at) ∙ e in
      let b = bound _ (slice_get (kind_of S S.root.kind).ports (0 + x)) h end in
      let c = chosen (agree b.0.provided (is_plus d)) (Some (record { comp = 0; port = 0 + x; side = Outside })) h b.1 in
      ap (λ k. k.port) (sym (Some-injective c)) ∙ zero_more

  starts_of : (P : History) (x : ℕ) (d : Dir) (o : Offer) → enters S P x d o ≡ true → starts_at S P x d o.origin ≡ true
  unfolding model
  starts_of P x d o e = (and_both _ _ (and_both _ _ e).0).0

  start_port : (P : History) (x : ℕ) (d : Dir) (port : PortDecl) (h : Half) → slice_get (kind_of S S.root.kind).ports x ≡ Some port → starts_at S P x d (AtHalf h) ≡ true → h.port ≡ x
  unfolding model
  start_port P x d port h p e =
      let r = held_of (same_half h) (source S (acts P) x d) e in
      let s = source_port (acts P) x d port r.0 p r.1 in
      eqb-true h.port r.0.port (and_both _ _ (and_both _ _ r.2).0).1 ∙ s

  one_way : (P : History) (x y : ℕ) (d f : Dir) (p q : PortDecl) (o : Origin) → slice_get (kind_of S S.root.kind).ports x ≡ Some p → slice_get (kind_of S S.root.kind).ports y ≡ Some q
      → starts_at S P x d o ≡ true → starts_at S P y f o ≡ true → x ≡ y
  unfolding model
  one_way P x y d f p q (AtHalf h) a b s t = sym (start_port P x d p h a s) ∙ start_port P y f q h b t
  one_way P x y d f p q (FromOutside z) a b s t = sym (eqb-true z x (and_both _ _ s).0) ∙ eqb-true z y (and_both _ _ t).0

  -- what an offer makes at a port of the root
  abbrev pub by_port : History → ℕ × Offer → ℕ × PortDecl → Option Outgoing
  by_port P q x = if enters S P x.0 (outward x.1) q.1 then Some (record { no = record { position = length P; place = q.0 }; chan = x.0; event = q.1.event; at = clock P }) else None

  by_entering : (P : History) (q : ℕ × Offer) (x : ℕ × PortDecl) (o : Outgoing) (b : Bool) → enters S P x.0 (outward x.1) q.1 ≡ b → by_port P q x ≡ Some o → enters S P x.0 (outward x.1) q.1 ≡ true
  by_entering P q x o true e h = e
  by_entering P q x o false e h = absurd (let f = sym (ap (λ b. if◌then◌else◌ {A = Option Outgoing} b (Some (record { no = record { position = length P; place = q.0 }; chan = x.0; event = q.1.event; at = clock P })) None) e) ∙ h in cc)

  pub port_at : (x : ℕ × PortDecl) → IsIn x (root_ports S) → slice_get (kind_of S S.root.kind).ports x.0 ≡ Some x.1
  port_at x h =
      let n = numbered 0 (kind_of S S.root.kind).ports x h in
      ap (slice_get (kind_of S S.root.kind).ports) (let e : x.0 ≡ n.0 = omega (arith, n.1) in e) ∙ n.2

  in_ports : (x : ℕ) (p : PortDecl) → slice_get (kind_of S S.root.kind).ports x ≡ Some p → IsIn (x, p) (root_ports S)
  in_ports x p e = subst (λ m. IsIn (m, p) (root_ports S)) (let f : 0 + x ≡ x = omega arith in f) (in_numbered 0 (kind_of S S.root.kind).ports x p e)

  one_port : (P : History) (q : ℕ × Offer) → AtMostOne (by_port P q) (root_ports S)
  one_port P q x y a b i j e f =
      one_way P x.0 y.0 (outward x.1) (outward y.1) x.1 y.1 q.1.origin (port_at x i) (port_at y j)
      (starts_of P x.0 (outward x.1) q.1 (by_entering P q x a _ refl e)) (starts_of P y.0 (outward y.1) q.1 (by_entering P q y b _ refl f))

  pub goes_out : (P : History) (q : ℕ × Offer) (x : ℕ) (port : PortDecl) → slice_get (kind_of S S.root.kind).ports x ≡ Some port → enters S P x (outward port) q.1 ≡ true → outgoing_by S P q ≡ goes_out_by P q x ∷ []
  goes_out P q x port p e =
      one_made (by_port P q) 0 (kind_of S S.root.kind).ports (x, port) (goes_out_by P q x) (one_port P q) (in_ports x port p)
      (ap (λ b. if◌then◌else◌ {A = Option Outgoing} b (Some (goes_out_by P q x)) None) e)

  pub stays_in : (P : History) (q : ℕ × Offer) → ((x : ℕ) (port : PortDecl) → slice_get (kind_of S S.root.kind).ports x ≡ Some port → enters S P x (outward port) q.1 ≡ false) → outgoing_by S P q ≡ []
  stays_in P q h = nothing_made (by_port P q) (root_ports S) (λ x m. ap (λ b. if◌then◌else◌ {A = Option Outgoing} b (Some (record { no = record { position = length P; place = q.0 }; chan = x.0; event = q.1.event; at = clock P })) None) (h x.0 x.1 (port_at x m)))

  -- ---- in order of number

  -- these go out by one entry, in rising places from n on
  pub record IsOut (P : History) (o : Outgoing) : Type 0 where
    pub position : o.no.position ≡ length P
    pub at : o.at ≡ clock P

  abbrev pub Rise : History → ℕ → List Outgoing → Type 0
  Rise P n [] = Unit {0}
  Rise P n (o ∷ os) = IsOut P o × (n ≤ o.no.place) × Rise P (o.no.place + 1) os

  rise_from : (P : History) (m n : ℕ) (os : List Outgoing) → m ≤ n → Rise P n os → Rise P m os
  rise_from P m n [] h r = tt
  rise_from P m n (o ∷ os) h r = (r.0, omega (arith, r.1, h), r.2)

  -- an offer makes nothing or one thing
  by_offer : (P : History) (q : ℕ × Offer) (os : List Outgoing) → outgoing_by S P q ≡ os → (outgoing_by S P q ≡ []) ⊎ ((x : ℕ) × (outgoing_by S P q ≡ goes_out_by P q x ∷ []))
  by_offer P q [] e = inl e
  by_offer P q (o ∷ os) e =
      let m = made_from (by_port P q) (root_ports S) o (subst (IsIn o) (sym e) here) in
      inr (m.0.0, goes_out P q m.0.0 m.0.1 (port_at m.0 m.1) (by_entering P q m.0 o _ refl m.2))

  rise_more : (P : History) (n : ℕ) (q : Offer) (os : List Outgoing) → (outgoing_by S P (n, q) ≡ []) ⊎ ((x : ℕ) × (outgoing_by S P (n, q) ≡ goes_out_by P (n, q) x ∷ [])) → Rise P (n + 1) os → Rise P n (outgoing_by S P (n, q) ++ os)
  rise_more P n q os (inl e) r = subst (λ ys. Rise P n (ys ++ os)) (sym e) (rise_from P n (n + 1) os (omega arith) r)
  rise_more P n q os (inr e) r = subst (λ ys. Rise P n (ys ++ os)) (sym e.1) (record { position = refl; at = refl }, omega arith, r)

  rises : (P : History) (n : ℕ) (qs : List Offer) → Rise P n (flat_map (outgoing_by S P) (enumerate_from n qs))
  rises P n [] = tt
  rises P n (q ∷ qs) = rise_more P n q _ (by_offer P (n, q) _ refl) (rises P (n + 1) qs)

  -- what goes out by an entry rises
  pub outgoing_rises : (P : History) (e : Entry) → Rise P 0 (outgoing_of S P e)
  unfolding model
  outgoing_rises P e = rises P 0 (offers P e)
