-- What instances that are planted one after another make of a state.
use Rattle.std.proofs.Common.{◌≡◌, ℕ, zero, suc, ◌+◌, ◌-◌, ◌<◌, ◌≤◌, ◌&&◌, Bool, true, false, refl, sym, ap, ◌∙◌, subst, List, [], ◌∷◌, ◌++◌, length, map, Option, Some, None, if◌then◌else◌, ◌⊎◌, inl, inr, arith}
use Rattle.std.specs.Prelude.{slice_get, nat_lt, ◌==◌}
use Rattle.std.specs.List.{enumerate_from}
use Rattle.std.specs.Option.{option_map, option_map_or}
use Rattle.std.proofs.lemmas.Bool.{lt-ltb, le-ltb, ne_eqb}
use Rattle.std.proofs.lemmas.Bool.Decides.{eqb_tells}
use Rattle.std.proofs.lemmas.List.{append-nil, append_assoc}
use Rattle.std.proofs.lemmas.Option.{slice_get_past, slice_get_within}
use Rattle.kom_base.specs.declared.numbers.Dir.{Dir}
use Rattle.kom_base.specs.Lists.{either, first, if_so}
use Rattle.kom_lang.specs.Declarations.{Declarations, kind_of, has_init}
use Rattle.kom_lang.specs.declared.body.Body.{Body}
use Rattle.kom_lang.specs.declared.body.Birth.{Birth}
use Rattle.kom_lang.specs.declared.body.Birth.TheVariants.{Args, State as FromState}
use Rattle.kom_record.specs.declared.item.Control.TheVariants.{Init}
use Rattle.kom_record.specs.Instances.{Instance, child_among, is_child}
use Rattle.kom_record.specs.Controls.{inits, inits_by}
use Rattle.kom_laws.proofs.ListFacts.{get_left, get_right}
use Rattle.kom_wiring.specs.declared.link.Link.{Link as WireLink}
use Rattle.kom_refine.specs.States.{Node, ControlRow, State}
use Rattle.kom_refine.specs.Points.{node_of}
use Rattle.kom_refine.specs.Steps.{first_body_of, row_with, empty_queue}
use Rattle.kom_state.specs.Parts.{link_seen}
use Rattle.kom_state.specs.Plantings.{IsPlanted, MayPlant, ancestry_in, items_of}
use Rattle.kom_births.specs.declared.seed.Seed.{Seed}
use Rattle.kom_births.specs.Seeds.{links_of}
use Rattle.kom_births.specs.Sowing.{AreSown, MaySow}

-- ---- by the order of two numbers

pub if_below : {X : Type 0} (d k : ℕ) (u v : X) → d < k → (if nat_lt d k then u else v) ≡ u
if_below d k u v h = ap (λ b. if b then u else v) (lt-ltb d k h)

pub if_above : {X : Type 0} (d k : ℕ) (u v : X) → k ≤ d → (if nat_lt d k then u else v) ≡ v
if_above d k u v h = ap (λ b. if b then u else v) (le-ltb d k h)

if_same : {X : Type 0} (d k : ℕ) (u v : X) → d ≡ k → (if d == k then u else v) ≡ u
if_same d k u v e = elim (eqb_tells d k) [ inl t ↦ ap (λ b. if b then u else v) t.0 | inr t ↦ absurd (t.1 e) ]

if_other : {X : Type 0} (d k : ℕ) (u v : X) → (d ≡ k → ⊥) → (if d == k then u else v) ≡ v
if_other d k u v h = ap (λ b. if b then u else v) (ne_eqb d k h)

pub by_order : {P : Type 0} (d n : ℕ) → (d < n → P) → (d ≡ n → P) → (n + 1 ≤ d → P) → P
by_order zero zero l e g = e refl
by_order zero (suc n) l e g = l (omega arith)
by_order (suc d) zero l e g = g (omega arith)
by_order (suc d) (suc n) l e g = by_order d n (λ h. l (omega (arith, h))) (λ h. e (ap suc h)) (λ h. g (omega (arith, h)))

pub by_halves : {P : Type 0} (d n : ℕ) → (d < n → P) → (n ≤ d → P) → P
by_halves zero zero l g = g (omega arith)
by_halves zero (suc n) l g = l (omega arith)
by_halves (suc d) zero l g = g (omega arith)
by_halves (suc d) (suc n) l g = by_halves d n (λ h. l (omega (arith, h))) (λ h. g (omega (arith, h)))

-- ---- lists

pub get_middle : {A : Type 0} (xs : List A) (y : A) (zs : List A) → slice_get (xs ++ y ∷ zs) (length xs) ≡ Some y
get_middle [] y zs = refl
get_middle (x ∷ xs) y zs = get_middle xs y zs

pub get_before : {A : Type 0} (xs ys : List A) (k : ℕ) (y : A) → slice_get xs k ≡ Some y → slice_get (xs ++ ys) k ≡ Some y
get_before xs ys k y e = get_left xs ys k (slice_get_within xs k y e) ∙ e

next_place : {A : Type 0} (x : A) (xs : List A) (d n : ℕ) → n + 1 ≤ d → slice_get xs (d - (n + 1)) ≡ slice_get (x ∷ xs) (d - n)
next_place x xs d n h = sym (ap (slice_get (x ∷ xs)) (let e : d - n ≡ suc (d - (n + 1)) = omega (arith, h) in e))

-- an Init is the only item that waits first
pub one_item : (S : Declarations) (k : ℕ) (birth : Birth) → items_of (first (inits_by S k birth)) ≡ inits_by S k birth
one_item S k (FromState vs) = refl
one_item S k (Args vs) = at (has_init (kind_of S k))
  where
    at : (b : Bool) → items_of (first (if_so b (Init vs ∷ []))) ≡ if_so b (Init vs ∷ [])
    at true = refl
    at false = refl

-- the ancestry of what is created in a place, among these nodes
abbrev pub line_in : List Node → Option (ℕ × ℕ) → List (ℕ × ℕ)
line_in nodes None = []
line_in nodes (Some q) = q ∷ option_map_or (λ (n : Node). n.ancestry) (slice_get nodes q.0) []

line_is : (m : State) (p : Option (ℕ × ℕ)) → ancestry_in m p ≡ line_in m.nodes p
line_is m None = refl
line_is m (Some q) = refl

-- each instance is under its parent, which is one of those before it
abbrev pub AreRooted : List Node → List Instance → Type 0
AreRooted nodes is = (xs : List Instance) (i : Instance) (ys : List Instance) → is ≡ xs ++ i ∷ ys → i.ancestry ≡ line_in (nodes ++ map node_of xs) (first i.ancestry)

-- nobody has a number from `count` on, and no channel one from `chans` on
pub record IsBare (count chans : ℕ) (m : State) : Type 0 where
  pub living : (d : ℕ) → count ≤ d → m.living d ≡ false
  pub links_none : (x : ℕ) → chans ≤ x → m.links x ≡ None
  pub queues : (x : ℕ) (d : Dir) → chans ≤ x → m.queues x d ≡ None
  pub controls : (d : ℕ) → count ≤ d → m.controls d ≡ None
  pub bodies : (d : ℕ) → count ≤ d → m.bodies d ≡ None

module _ (S : Declarations) where
  -- the place is free, once the instances before are there
  abbrev pub IsFree : ℕ → List Instance → State → Option (ℕ × ℕ) → Type 0
  IsFree n xs m None = (xs ≡ []) × (m.nodes ≡ [])
  IsFree n xs m (Some q) =
      (((q.0 < n) × (m.living q.0 ≡ true)) ⊎ ((n ≤ q.0) × (q.0 < n + length xs)))
      × (child_among S q.0 q.1 n xs ≡ None) × (m.child q.0 q.1 ≡ None)

  abbrev pub AreFree : ℕ → List Instance → State → Type 0
  AreFree n is m = (xs : List Instance) (i : Instance) (ys : List Instance) → is ≡ xs ++ i ∷ ys → IsFree n xs m (first i.ancestry)

module _ (S : Declarations) (g : ℕ → Instance → Seed) (place_is : (c : ℕ) (i : Instance) → (g c i).place ≡ first i.ancestry)
    (body_is : (c : ℕ) (i : Instance) → (g c i).body ≡ first_body_of S i) (init_is : (c : ℕ) (i : Instance) → (g c i).init ≡ first (inits S i)) where
  abbrev pub seeds : ℕ → List Instance → List Seed
  seeds n is = map (λ (q : ℕ × Instance). g q.0 q.1) (enumerate_from n is)

  abbrev pub flat : ℕ → List Instance → List WireLink
  flat n is = links_of (seeds n is)

  abbrev pub row_of : Instance → ControlRow
  row_of i = row_with S (inits S i) (first_body_of S i)

  -- the state with the instances `is` more
  pub record IsGrown (n chans : ℕ) (is : List Instance) (m k : State) : Type 0 where
    pub nodes : k.nodes ≡ m.nodes ++ map node_of is
    pub living : (d : ℕ) → k.living d ≡ (if nat_lt d n then m.living d else nat_lt d (n + length is))
    pub child : (p s : ℕ) → k.child p s ≡ either (child_among S p s n is) (m.child p s)
    pub links_now : (x : ℕ) → k.links x ≡ (if nat_lt x chans then m.links x else option_map link_seen (slice_get (flat n is) (x - chans)))
    pub queues : (x : ℕ) (d : Dir) → k.queues x d ≡ (if nat_lt x chans then m.queues x d else option_map (empty_queue d) (k.links x))
    pub controls : (d : ℕ) → k.controls d ≡ (if nat_lt d n then m.controls d else option_map row_of (slice_get is (d - n)))
    pub bodies : (d : ℕ) → k.bodies d ≡ (if nat_lt d n then m.bodies d else option_map (first_body_of S) (slice_get is (d - n)))

  nothing_more : {X : Type 0} (f : ℕ → X) (z : X) (k : ℕ) → ((d : ℕ) → k ≤ d → f d ≡ z) → (d : ℕ) → f d ≡ (if nat_lt d k then f d else z)
  nothing_more f z k h d = by_halves d k (λ l. sym (if_below d k (f d) z l)) (λ l. h d l ∙ sym (if_above d k (f d) z l))

  grown_nothing : (n chans : ℕ) (m : State) → IsBare n chans m → IsGrown n chans [] m m
  unfolding child_among
  grown_nothing n chans m b = record {
    nodes = sym (append-nil m.nodes);
    living = λ d. by_halves d n (λ l. sym (if_below d n (m.living d) (nat_lt d (n + 0)) l)) (λ l. b.living d l ∙ sym (le-ltb d (n + 0) (omega (arith, l))) ∙ sym (if_above d n (m.living d) (nat_lt d (n + 0)) l));
    child = λ p s. refl;
    links_now = nothing_more m.links None chans b.links_none;
    queues = λ x d. by_halves x chans (λ l. sym (if_below x chans (m.queues x d) (option_map (empty_queue d) (m.links x)) l))
        (λ l. b.queues x d l ∙ sym (ap (option_map (empty_queue d)) (b.links_none x l)) ∙ sym (if_above x chans (m.queues x d) (option_map (empty_queue d) (m.links x)) l));
    controls = nothing_more m.controls None n b.controls;
    bodies = nothing_more m.bodies None n b.bodies;
  }

  -- ---- one more

  module _ (n chans : ℕ) (i : Instance) (m j : State) (bare : IsBare n chans m) (line : i.ancestry ≡ line_in m.nodes (first i.ancestry))
      (p : IsPlanted S n chans (g n i).place (g n i).body (g n i).init (g n i).links m j) where
    abbrev width : ℕ
    width = length (g n i).links

    bare_next : IsBare (n + 1) (chans + width) j
    bare_next = record {
      living = λ d h. p.living d ∙ if_other d n true (m.living d) (λ e. absurd (omega (arith, h, e))) ∙ bare.living d (omega (arith, h));
      links_none = no_link;
      queues = λ x d h. p.queues x d ∙ if_above x chans (m.queues x d) (option_map (empty_queue d) (j.links x)) (omega (arith, h)) ∙ ap (option_map (empty_queue d)) (no_link x h);
      controls = λ d h. p.controls d ∙ if_other d n (Some (row_with S (items_of (g n i).init) (g n i).body)) (m.controls d) (λ e. absurd (omega (arith, h, e))) ∙ bare.controls d (omega (arith, h));
      bodies = λ d h. p.bodies d ∙ if_other d n (Some (g n i).body) (m.bodies d) (λ e. absurd (omega (arith, h, e))) ∙ bare.bodies d (omega (arith, h));
    }
      where
        no_link : (x : ℕ) → chans + width ≤ x → j.links x ≡ None
        no_link x h =
            p.links_now x ∙ if_above x chans (m.links x) (option_map link_seen (slice_get (g n i).links (x - chans))) (omega (arith, h))
            ∙ ap (option_map link_seen) (slice_get_past (g n i).links (x - chans) (omega (arith, h)))

    node_is : record { kind = (g n i).body.kind; ancestry = ancestry_in m (g n i).place } ≡ node_of i
    node_is =
        ap (λ (b : Body). record { kind = b.kind; ancestry = ancestry_in m (g n i).place }) (body_is n i)
        ∙ ap (λ l. record { kind = i.kind; ancestry = l }) (ap (ancestry_in m) (place_is n i) ∙ line_is m (first i.ancestry) ∙ sym line)

    nodes_next : j.nodes ≡ m.nodes ++ node_of i ∷ []
    nodes_next = p.nodes ∙ ap (λ x. m.nodes ++ x ∷ []) node_is

    rooted_next : (is : List Instance) → AreRooted m.nodes (i ∷ is) → AreRooted j.nodes is
    rooted_next is h xs y ys e =
        h (i ∷ xs) y ys (ap (λ l. i ∷ l) e)
        ∙ ap (λ l. line_in l (first y.ancestry)) (sym (append_assoc m.nodes (node_of i ∷ []) (map node_of xs)) ∙ ap (λ l. l ++ map node_of xs) (sym nodes_next))

    placed : (q s : ℕ) → j.child q s ≡ (if is_child S q s i then Some n else m.child q s)
    placed q s = p.child q s ∙ ap (λ o. if option_map_or (λ (a : ℕ × ℕ). a.0 == q && a.1 == s) o false then Some n else m.child q s) (place_is n i)

    row_new : Some (row_with S (items_of (g n i).init) (g n i).body) ≡ Some (row_of i)
    row_new =
        ap (λ (b : Body). Some (row_with S (items_of (g n i).init) b)) (body_is n i)
        ∙ ap (λ o. Some (row_with S (items_of o) (first_body_of S i))) (init_is n i)
        ∙ ap (λ is. Some (row_with S is (first_body_of S i))) (one_item S i.kind i.birth)

    module _ (is : List Instance) (k : State) (r : IsGrown (n + 1) (chans + width) is j k) where
      abbrev more : List WireLink
      more = flat (n + 1) is

      grown_living : (d : ℕ) → k.living d ≡ (if nat_lt d n then m.living d else nat_lt d (n + suc (length is)))
      grown_living d = r.living d ∙ by_order d n
          (λ l. if_below d (n + 1) (j.living d) (nat_lt d ((n + 1) + length is)) (omega (arith, l)) ∙ p.living d ∙ if_other d n true (m.living d) (λ e. absurd (omega (arith, l, e)))
          ∙ sym (if_below d n (m.living d) (nat_lt d (n + suc (length is))) l))
          (λ e. if_below d (n + 1) (j.living d) (nat_lt d ((n + 1) + length is)) (omega (arith, e)) ∙ p.living d ∙ if_same d n true (m.living d) e
          ∙ sym (lt-ltb d (n + suc (length is)) (omega (arith, e))) ∙ sym (if_above d n (m.living d) (nat_lt d (n + suc (length is))) (omega (arith, e))))
          (λ l. if_above d (n + 1) (j.living d) (nat_lt d ((n + 1) + length is)) l ∙ ap (nat_lt d) (let e : (n + 1) + length is ≡ n + suc (length is) = omega arith in e)
          ∙ sym (if_above d n (m.living d) (nat_lt d (n + suc (length is))) (omega (arith, l))))

      grown_child : (q s : ℕ) → k.child q s ≡ either (child_among S q s n (i ∷ is)) (m.child q s)
      unfolding child_among
      grown_child q s =
          r.child q s
          ∙ ap (λ c. either (child_among S q s c is) (j.child q s)) (let e : n + 1 ≡ suc n = omega arith in e)
          ∙ ap (either (child_among S q s (suc n) is)) (placed q s)
          ∙ at (child_among S q s (suc n) is) (is_child S q s i) (m.child q s)
        where
          at : (a : Option ℕ) (b : Bool) (c : Option ℕ) → either a (if b then Some n else c) ≡ either (either a (if b then Some n else None)) c
          at None true c = refl
          at None false c = refl
          at (Some x) b c = refl

      link_within : (x : ℕ) → x < chans + width → k.links x ≡ j.links x
      link_within x h = r.links_now x ∙ if_below x (chans + width) (j.links x) (option_map link_seen (slice_get more (x - (chans + width)))) h

      grown_links : (x : ℕ) → k.links x ≡ (if nat_lt x chans then m.links x else option_map link_seen (slice_get ((g n i).links ++ more) (x - chans)))
      grown_links x = by_halves x chans
          (λ l. link_within x (omega (arith, l)) ∙ p.links_now x ∙ if_below x chans (m.links x) (option_map link_seen (slice_get (g n i).links (x - chans))) l
          ∙ sym (if_below x chans (m.links x) (option_map link_seen (slice_get ((g n i).links ++ more) (x - chans))) l))
          (λ l. by_halves x (chans + width)
          (λ h. link_within x h ∙ p.links_now x ∙ if_above x chans (m.links x) (option_map link_seen (slice_get (g n i).links (x - chans))) l
          ∙ ap (option_map link_seen) (sym (get_left (g n i).links more (x - chans) (omega (arith, h, l)))))
          (λ h. r.links_now x ∙ if_above x (chans + width) (j.links x) (option_map link_seen (slice_get more (x - (chans + width)))) h
          ∙ ap (option_map link_seen) (sym (get_right (g n i).links more (x - (chans + width))) ∙ ap (slice_get ((g n i).links ++ more)) (let e : width + (x - (chans + width)) ≡ x - chans = omega (arith, h) in e)))
          ∙ sym (if_above x chans (m.links x) (option_map link_seen (slice_get ((g n i).links ++ more) (x - chans))) l))

      grown_queues : (x : ℕ) (d : Dir) → k.queues x d ≡ (if nat_lt x chans then m.queues x d else option_map (empty_queue d) (k.links x))
      grown_queues x d = r.queues x d ∙ by_halves x (chans + width)
          (λ h. if_below x (chans + width) (j.queues x d) (option_map (empty_queue d) (k.links x)) h ∙ p.queues x d
          ∙ ap (λ o. if nat_lt x chans then m.queues x d else option_map (empty_queue d) o) (sym (link_within x h)))
          (λ h. if_above x (chans + width) (j.queues x d) (option_map (empty_queue d) (k.links x)) h ∙ sym (if_above x chans (m.queues x d) (option_map (empty_queue d) (k.links x)) (omega (arith, h))))

      by_place : {X : Type 0} (d : ℕ) (now mid old : ℕ → Option X) (F : Instance → X)
          → now d ≡ (if nat_lt d (n + 1) then mid d else option_map F (slice_get is (d - (n + 1)))) → mid d ≡ (if d == n then Some (F i) else old d)
          → now d ≡ (if nat_lt d n then old d else option_map F (slice_get (i ∷ is) (d - n)))
      by_place d now mid old F e f = e ∙ by_order d n
          (λ l. if_below d (n + 1) (mid d) (option_map F (slice_get is (d - (n + 1)))) (omega (arith, l)) ∙ f ∙ if_other d n (Some (F i)) (old d) (λ q. absurd (omega (arith, l, q)))
          ∙ sym (if_below d n (old d) (option_map F (slice_get (i ∷ is) (d - n))) l))
          (λ q. if_below d (n + 1) (mid d) (option_map F (slice_get is (d - (n + 1)))) (omega (arith, q)) ∙ f ∙ if_same d n (Some (F i)) (old d) q
          ∙ ap (λ z. option_map F (slice_get (i ∷ is) z)) (let z : 0 ≡ d - n = omega (arith, q) in z)
          ∙ sym (if_above d n (old d) (option_map F (slice_get (i ∷ is) (d - n))) (omega (arith, q))))
          (λ l. if_above d (n + 1) (mid d) (option_map F (slice_get is (d - (n + 1)))) l ∙ ap (option_map F) (next_place i is d n l)
          ∙ sym (if_above d n (old d) (option_map F (slice_get (i ∷ is) (d - n))) (omega (arith, l))))

      grown_more : IsGrown n chans (i ∷ is) m k
      grown_more = record {
        nodes = r.nodes ∙ ap (λ l. l ++ map node_of is) nodes_next ∙ append_assoc m.nodes (node_of i ∷ []) (map node_of is);
        living = grown_living;
        child = grown_child;
        links_now = grown_links;
        queues = grown_queues;
        controls = λ d. by_place d k.controls j.controls m.controls row_of (r.controls d) (p.controls d ∙ ap (λ o. if d == n then o else m.controls d) row_new);
        bodies = λ d. by_place d k.bodies j.bodies m.bodies (first_body_of S) (r.bodies d) (p.bodies d ∙ ap (λ (b : Body). if d == n then Some b else m.bodies d) (body_is n i));
      }

  pub grown : (n chans : ℕ) (is : List Instance) (m k : State) → IsBare n chans m → AreRooted m.nodes is → AreSown S n chans (seeds n is) m k → IsGrown n chans is m k
  grown n chans [] m k b r h = subst (IsGrown n chans [] m) h (grown_nothing n chans m b)
  grown n chans (i ∷ is) m k b r h =
      let line : i.ancestry ≡ line_in m.nodes (first i.ancestry) = r [] i is refl ∙ ap (λ l. line_in l (first i.ancestry)) (append-nil m.nodes) in
      grown_more n chans i m h.0 b line h.1 is k
      (grown (n + 1) (chans + length (g n i).links) is h.0 k (bare_next n chans i m h.0 b line h.1) (rooted_next n chans i m h.0 b line h.1 is r) h.2)

  -- ---- each finds its place

  -- a list of seeds that is cut is the seeds of a list that is cut
  abbrev IsCut : ℕ → List Instance → List Seed → Seed → Type 0
  IsCut n is before s = (xs : List Instance) × (i : Instance) × (ys : List Instance) × (is ≡ xs ++ i ∷ ys) × (before ≡ seeds n xs) × (s.place ≡ first i.ancestry)

  cut : (n : ℕ) (is : List Instance) (before : List Seed) (s : Seed) (after : List Seed) → seeds n is ≡ before ++ s ∷ after → IsCut n is before s
  cut n [] [] s after e = absurd cc
  cut n [] (b ∷ bs) s after e = absurd cc
  cut n (i ∷ is) [] s after e = let f : g n i ≡ s = cc in ([], i, is, refl, refl, ap (λ (z : Seed). z.place) (sym f) ∙ place_is n i)
  cut n (i ∷ is) (b ∷ bs) s after e =
      let f : g n i ≡ b = cc in
      let r = cut (n + 1) is bs s after (let h : seeds (n + 1) is ≡ bs ++ s ∷ after = cc in h) in
      (i ∷ r.0, r.1, r.2, ap (λ l. i ∷ l) r.3, ap (λ z. z ∷ bs) (sym f) ∙ ap (λ l. g n i ∷ l) r.4, r.5)

  rooted_front : (nodes : List Node) (xs : List Instance) (i : Instance) (ys is : List Instance) → is ≡ xs ++ i ∷ ys → AreRooted nodes is → AreRooted nodes xs
  rooted_front nodes xs i ys is e h us y vs f = h us y (vs ++ i ∷ ys) (e ∙ ap (λ l. l ++ i ∷ ys) f ∙ append_assoc us (y ∷ vs) (i ∷ ys))

  found_free : (n chans : ℕ) (xs : List Instance) (m k : State) (p : Option (ℕ × ℕ)) → IsGrown n chans xs m k → IsFree S n xs m p → MayPlant k p
  found_free n chans xs m k None r f = r.nodes ∙ ap (λ l. m.nodes ++ map node_of l) f.0 ∙ append-nil m.nodes ∙ f.1
  found_free n chans xs m k (Some q) r f = (
    r.living q.0 ∙ elim f.0 [
      | inl h ↦ if_below q.0 n (m.living q.0) (nat_lt q.0 (n + length xs)) h.0 ∙ h.1
      | inr h ↦ if_above q.0 n (m.living q.0) (nat_lt q.0 (n + length xs)) h.0 ∙ lt-ltb q.0 (n + length xs) h.1
    ],
    r.child q.0 q.1 ∙ ap (λ o. either o (m.child q.0 q.1)) f.1 ∙ f.2,
  )

  pub may_sow : (n chans : ℕ) (is : List Instance) (m : State) → IsBare n chans m → AreRooted m.nodes is → AreFree S n is m → MaySow S n chans (seeds n is) m
  may_sow n chans is m b r f before s after k e h =
      let c = cut n is before s after e in
      let all = grown n chans c.0 m k b (rooted_front m.nodes c.0 c.1 c.2 is c.3 r) (subst (λ l. AreSown S n chans l m k) c.4 h) in
      subst (MayPlant k) (sym c.5) (found_free n chans c.0 m k (first c.1.ancestry) all (f c.0 c.1 c.2 c.3))
