-- The first body of an instance agrees with the effects by which it was created, and fits.
use Rattle.std.proofs.Common.{◌≡◌, ℕ, zero, suc, ◌+◌, ◌<◌, ◌≤◌, Bool, true, false, if◌then◌else◌, not, ◌&&◌, ◌||◌, refl, sym, ap, ◌∙◌, subst, List, [], ◌∷◌, ◌++◌, length, Option, Some, None, arith}
use Rattle.std.specs.Prelude.{slice_get, slice_index_or, nat_lt, map, is_none}
use Rattle.std.specs.List.{cons_option, enumerate_from, filter_map, list_all}
use Rattle.std.specs.Option.{option_map, option_map_or, option_and_then}
use Rattle.std.proofs.lemmas.List.{length-map}
use Rattle.std.proofs.lemmas.Bool.{eqb-true, le-ltb, lt-ltb, ltb-true}
use Rattle.std.proofs.lemmas.Option.{slice_get-map, slice_get_within}
use Rattle.kom_base.specs.declared.numbers.Dir.{Dir}
use Rattle.kom_base.specs.declared.numbers.Dir.TheVariants.{Plus, Minus}
use Rattle.kom_base.specs.Lists.{either}
use Rattle.kom_lang.specs.Bodies.{first_body, first_wire, first_vars, is_initialised_at_birth}
use Rattle.kom_lang.specs.Declarations.{Declarations, kind_of, handler_of, height_of, is_init, is_on, first_subs}
use Rattle.kom_lang.specs.Steps.{child_in, end_of, no_wire}
use Rattle.kom_lang.specs.declared.kind.Kind.{Kind}
use Rattle.kom_lang.specs.declared.kind.Child.{Child}
use Rattle.kom_lang.specs.declared.kind.SlotDecl.{SlotDecl}
use Rattle.kom_lang.specs.declared.kind.ChannelDecl.{ChannelDecl}
use Rattle.kom_lang.specs.declared.kind.Place.{Place}
use Rattle.kom_lang.specs.declared.stmt.Handler.{Handler}
use Rattle.kom_lang.specs.declared.body.Birth.{Birth}
use Rattle.kom_lang.specs.declared.body.Birth.TheVariants.{Args, State}
use Rattle.kom_lang.specs.declared.body.Effect.TheVariants as effect
use Rattle.kom_system.specs.Fitting.{channel_fits, child_fits, end_fits, place_fits, slot_fits, takes_at}
use Rattle.kom_system.specs.WellFormed.{IsDeclared}
use Rattle.kom_record.specs.Model.{model}
use Rattle.kom_record.specs.declared.item.Item.{Item}
use Rattle.kom_record.specs.Entries.{Act}
use Rattle.kom_record.specs.Instances.{Instance, depth_limit, root_tree, born, created, child_among, ancestry_of}
use Rattle.kom_record.specs.Channels.{declared_end, declared_held, declared_place, decl_of, half_of, wire_end, wire_held}
use Rattle.kom_record.specs.Plans.{is_place_in, is_wire_in}
use Rattle.kom_laws.proofs.Members.{Some-injective}
use Rattle.kom_laws.proofs.ListFacts.{get_right, got_at}
use Rattle.kom_laws.proofs.InstanceLaws.{ActsByBorn, does, occupant_unborn}
use Rattle.kom_agree.specs.Agrees.{Agrees, kind_in}
use Rattle.kom_agree.specs.Bodies.{BodyFits, InstanceFits, birth_fits}
use Rattle.kom_agree.proofs.Trees.{AllAre, GoesDown, Holds, all_tree, declared_child, fills}

-- ---- lists

pub both : (a b : Bool) → (a && b) ≡ true → (a ≡ true) × (b ≡ true)
both true b e = (refl, e)
both false b e = absurd cc

pub both_of : (a b : Bool) → a ≡ true → b ≡ true → (a && b) ≡ true
both_of true b e f = f
both_of false b e f = absurd cc

pub some_of : {X : Type 0} (f : X → Bool) (o : Option X) → option_map_or f o false ≡ true → (x : X) × (o ≡ Some x) × (f x ≡ true)
some_of f None e = absurd cc
some_of f (Some x) e = (x, refl, e)

pub get_all : {X : Type 0} (f : X → Bool) (xs : List X) (j : ℕ) (x : X) → list_all f xs ≡ true → slice_get xs j ≡ Some x → f x ≡ true
get_all f [] j x h e = absurd cc
get_all f (y ∷ xs) zero x h e = ap f (sym (Some-injective e)) ∙ (both _ _ h).0
get_all f (y ∷ xs) (suc j) x h e = get_all f xs j x (both _ _ h).1 e

mapped_at : {X Y : Type 0} (f : X → Y) (xs : List X) (k : ℕ) (x : X) (d : Y) → slice_get xs k ≡ Some x → slice_index_or (map f xs) k d ≡ f x
mapped_at f [] k x d e = absurd cc
mapped_at f (y ∷ xs) zero x d e = ap f (Some-injective e)
mapped_at f (y ∷ xs) (suc k) x d e = mapped_at f xs k x d e

all_mapped : {X Y : Type 0} (f : X → Y) (g : Y → Bool) (h : X → Bool) (xs : List X) → ((x : X) → h x ≡ true → g (f x) ≡ true) → list_all h xs ≡ true → list_all g (map f xs) ≡ true
all_mapped f g h [] k e = refl
all_mapped f g h (x ∷ xs) k e = both_of _ _ (k x (both _ _ e).0) (all_mapped f g h xs k (both _ _ e).1)

module _ (S : Declarations) where
  -- ---- a first body agrees

  end_is : (d : ChannelDecl) (e : Dir) → end_of (first_wire d) e ≡ declared_place d e
  end_is d Plus = refl
  end_is d Minus = refl

  chosen_child : (o : Option SlotDecl) → option_and_then (λ o. o) (option_map (λ s. option_map (λ child. child.kind) s.child) o) ≡ declared_child S o
  chosen_child None = refl
  chosen_child (Some d) = refl

  pub first_child : (k : ℕ) (birth : Birth) (depth s : ℕ) → child_in (first_body S k birth depth) s ≡ declared_child S (slice_get (kind_of S k).slots s)
  first_child k birth depth s =
      ap (option_and_then (λ o. o)) (slice_get-map (λ s. option_map (λ child. child.kind) s.child) (kind_of S k).slots s)
      ∙ chosen_child (slice_get (kind_of S k).slots s)

  decl_is : (done : List Act) (c k : ℕ) (i : Instance) → slice_get (born S done) c ≡ Some i → decl_of S done c k ≡ slice_get (kind_of S i.kind).channels k
  unfolding model
  decl_is done c k i e = ap (option_and_then (λ i. slice_get (kind_of S i.kind).channels k)) e

  first_agrees : (done : List Act) (c : ℕ) (i : Instance) (depth : ℕ) → slice_get (born S done) c ≡ Some i
      → ((s : ℕ) → kind_in S done c s ≡ declared_child S (slice_get (kind_of S i.kind).slots s))
      → ((k : ℕ) (e : Dir) → wire_end S done c k e ≡ declared_end S done c k e) → ((k : ℕ) → wire_held S done c k ≡ declared_held S done c k)
      → Agrees S done c (first_body S i.kind i.birth depth)
  unfolding model
  first_agrees done c i depth at slots ends held = record {
    slots = λ s. slots s ∙ sym (first_child i.kind i.birth depth s);
    holds = λ k h.
        let d = got_at (kind_of S i.kind).channels k (omega (arith, h, length-map (kind_of S i.kind).channels first_wire)) in
        held k
        ∙ ap (λ o. option_map_or (λ d. is_none d.plus || is_none d.minus) o false) (decl_is done c k i at ∙ d.1)
        ∙ ap (λ w. w.held) (sym (mapped_at first_wire (kind_of S i.kind).channels k d.0 no_wire d.1));
    ends = λ k e h.
        let d = got_at (kind_of S i.kind).channels k (omega (arith, h, length-map (kind_of S i.kind).channels first_wire)) in
        ends k e
        ∙ ap (option_and_then (λ d. option_and_then (half_of S done c) (declared_place d e))) (decl_is done c k i at ∙ d.1)
        ∙ ap (option_and_then (half_of S done c)) (sym (end_is d.0 e))
        ∙ ap (λ w. option_and_then (half_of S done c) (end_of w e)) (sym (mapped_at first_wire (kind_of S i.kind).channels k d.0 no_wire d.1));
  }

  held_kind : (is : List Instance) (n c s : ℕ) (o : Option ℕ) (all : List Instance) → ((m : ℕ) (x : Instance) → slice_get is m ≡ Some x → slice_get all (n + m) ≡ Some x) → Holds S n is c s o
      → option_map (λ i. i.kind) (option_and_then (slice_get all) (child_among S c s n is)) ≡ o
  held_kind is n c s None all g h = ap (λ o. option_map (λ i. i.kind) (option_and_then (slice_get all) o)) h
  held_kind is n c s (Some k) all g h =
      ap (λ o. option_map (λ i. i.kind) (option_and_then (slice_get all) o)) h.2 ∙ ap (option_map (λ i. i.kind)) (g h.0 h.1 h.3) ∙ ap Some h.4

  -- at the opening
  pub root_agrees : IsDeclared S → (c : ℕ) (i : Instance) (depth : ℕ) → slice_get (born S []) c ≡ Some i → Agrees S [] c (first_body S i.kind i.birth depth)
  unfolding model
  root_agrees D c i depth e =
      first_agrees [] c i depth e
      (λ s. held_kind (root_tree S) 0 c s (declared_child S (slice_get (kind_of S i.kind).slots s)) (root_tree S)
      (λ m x g. ap (slice_get (root_tree S)) (let f : 0 + m ≡ m = omega arith in f) ∙ g)
      (subst (λ m. Holds S 0 (root_tree S) m s (declared_child S (slice_get (kind_of S i.kind).slots s))) (let f : 0 + c ≡ c = omega arith in f)
      (fills S D depth_limit 0 (record { kind = S.root.kind; birth = Args S.root.args; ancestry = [] }) (λ q g. absurd cc) (low D) c i s e)))
      (λ k f. refl) (λ k. refl)
    where
      low : IsDeclared S → height_of S S.root.kind ≤ 16
      low D = (D.kinds S.root.kind (ltb-true S.root.kind (length S.kinds) (both _ _ D.root).0)).tree.height

  -- after a Create
  pub created_agrees : IsDeclared S → (done : List Act) (p : ℕ) (item : Item) (slot kind : ℕ) (birth : Birth) → ActsByBorn S done → p < length (born S done) → kind < length S.kinds
      → (j : ℕ) (i : Instance) (depth : ℕ) → slice_get (created S (born S done) p slot kind birth) j ≡ Some i
      → Agrees S (does p item (effect.Create slot kind birth) ∷ done) (length (born S done) + j) (first_body S i.kind i.birth depth)
  unfolding model
  created_agrees D done p item slot kind birth by lt k j i depth e =
      let n = length (born S done) in
      let news = created S (born S done) p slot kind birth in
      first_agrees (does p item (effect.Create slot kind birth) ∷ done) (n + j) i depth (get_right (born S done) news j ∙ e)
      (λ s.
      ap (λ o. option_map (λ i. i.kind) (option_and_then (slice_get (born S done ++ news)) (either (child_among S (n + j) s n news) o))) (occupant_unborn S done (n + j) s by (omega arith))
      ∙ ap (λ o. option_map (λ i. i.kind) (option_and_then (slice_get (born S done ++ news)) o)) (or_none (child_among S (n + j) s n news))
      ∙ held_kind news n (n + j) s (declared_child S (slice_get (kind_of S i.kind).slots s)) (born S done ++ news) (λ m x g. get_right (born S done) news m ∙ g)
      (fills S D depth_limit n (record { kind = kind; birth = birth; ancestry = (p, slot) ∷ ancestry_of S (born S done) p }) (λ q g. let f : p ≡ q.0 = ap (λ z. z.0) (Some-injective g) in omega (arith, f, lt)) (D.kinds kind k).tree.height j i s e))
      (λ m f. ap (λ b. if b then wire_end S done (n + j) m f else declared_end S (does p item (effect.Create slot kind birth) ∷ done) (n + j) m f) (not_below n j))
      (λ m. ap (λ b. if b then wire_held S done (n + j) m else declared_held S (does p item (effect.Create slot kind birth) ∷ done) (n + j) m) (not_below n j))
    where
      or_none : (o : Option ℕ) → either o None ≡ o
      or_none None = refl
      or_none (Some x) = refl

      not_below : (n j : ℕ) → nat_lt (n + j) n ≡ false
      not_below n j = le-ltb (n + j) n (omega arith)

  -- ---- instances fit

  goes_down : IsDeclared S → GoesDown S (InstanceFits S)
  goes_down D n i h a d child e f =
      let K = D.kinds i.kind h.kind in
      let slots = (both _ _ (both _ _ (both _ _ K.parts).1).0).1 in
      let fit : child_fits S child ≡ true = sym (ap (λ o. option_map_or (child_fits S) o true) f) ∙ get_all (slot_fits S) (kind_of S i.kind).slots a d slots e in
      let low = sym (ap (λ o. option_map_or (λ child. nat_lt (height_of S child.kind) (height_of S i.kind)) o true) f) ∙ get_all (λ s. option_map_or (λ child. nat_lt (height_of S child.kind) (height_of S i.kind)) s.child true) (kind_of S i.kind).slots a d K.tree.children e in
      let l = ltb-true (height_of S child.kind) (height_of S i.kind) low in
      let depth = h.depth in
      let deep : 1 + suc (length i.ancestry) + height_of S child.kind ≤ 17 = omega (arith, l, depth) in
      record { kind = ltb-true child.kind (length S.kinds) (both _ _ fit).0; birth = (both _ _ fit).1; depth = deep }

  pub root_fits : IsDeclared S → AllAre S (InstanceFits S) (root_tree S)
  unfolding model
  root_fits D =
      let lt = ltb-true S.root.kind (length S.kinds) (both _ _ D.root).0 in
      let low = (D.kinds S.root.kind lt).tree.height in
      all_tree S (InstanceFits S) (goes_down D) depth_limit 0 (record { kind = S.root.kind; birth = Args S.root.args; ancestry = [] })
      (record { kind = lt; birth = (both _ _ D.root).1; depth = omega (arith, low) })

  pub created_fits : IsDeclared S → (instances : List Instance) (p slot kind : ℕ) (birth : Birth) → kind < length S.kinds → birth_fits S kind birth ≡ true → 1 + length (ancestry_of S instances p) + height_of S kind ≤ 16
      → AllAre S (InstanceFits S) (created S instances p slot kind birth)
  unfolding created
  created_fits D instances p slot kind birth k b low =
      all_tree S (InstanceFits S) (goes_down D) depth_limit (length instances) (record { kind = kind; birth = birth; ancestry = (p, slot) ∷ ancestry_of S instances p })
      (record { kind = k; birth = b; depth = omega (arith, low) })

  -- ---- a first body fits

  port_below : (kind : Kind) (type port : ℕ) (e : Dir) (outside : Bool) → option_map_or (takes_at type e outside) (slice_get kind.ports port) false ≡ true → nat_lt port (length kind.ports) ≡ true
  port_below kind type port e outside h = let r = some_of (takes_at type e outside) (slice_get kind.ports port) h in lt-ltb port (length kind.ports) (slice_get_within kind.ports port r.0 r.1)

  place_in : (k : ℕ) (birth : Birth) (depth type : ℕ) (e : Dir) (port : ℕ) (sl : Option ℕ) → place_fits S (kind_of S k) type e port sl ≡ true → is_place_in S (first_body S k birth depth) (record { slot = sl; port = port }) ≡ true
  place_in k birth depth type e port None h = port_below (kind_of S k) type port e false h
  place_in k birth depth type e port (Some s) h =
      let r = some_of (λ child. option_map_or (takes_at type e true) (slice_get (kind_of S child.kind).ports port) false) (option_and_then (λ s. s.child) (slice_get (kind_of S k).slots s)) h in
      ap (λ o. option_map_or (λ k. nat_lt port (length (kind_of S k).ports)) o false) (first_child k birth depth s ∙ ap (option_map (λ child. child.kind)) r.1)
      ∙ port_below (kind_of S r.0.kind) type port e true r.2

  end_in : (k : ℕ) (birth : Birth) (depth type : ℕ) (e : Dir) (o : Option Place) → end_fits S (kind_of S k) type e o ≡ true → option_map_or (is_place_in S (first_body S k birth depth)) o true ≡ true
  end_in k birth depth type e None h = refl
  end_in k birth depth type e (Some p) h = place_in k birth depth type e p.port p.slot h

  wire_in : (k : ℕ) (birth : Birth) (depth : ℕ) (d : ChannelDecl) → channel_fits S (kind_of S k) d ≡ true → is_wire_in S (first_body S k birth depth) (first_wire d) ≡ true
  wire_in k birth depth d h =
      let ends = both _ _ (both _ _ (both _ _ h).1).0 in
      both_of _ _ (end_in k birth depth d.port Plus d.plus ends.0) (end_in k birth depth d.port Minus d.minus ends.1)

  child_known : (s : SlotDecl) (o : Option Child) → option_map_or (child_fits S) o true ≡ true → option_map_or (λ k. nat_lt k (length S.kinds)) (option_map (λ child. child.kind) o) true ≡ true
  child_known s None h = refl
  child_known s (Some child) h = (both _ _ h).0

  -- the handlers that are subscribed first are no init handlers
  subs_at : (all hs : List Handler) (n : ℕ) (x : Handler) (b : Bool) → is_on x ≡ b → slice_get all n ≡ Some x
      → list_all (λ h. option_map_or (λ x. not (is_init x.on)) (slice_get all h) false) (filter_map (λ p. if is_on p.1 then Some p.0 else None) (enumerate_from (n + 1) hs)) ≡ true
      → list_all (λ h. option_map_or (λ x. not (is_init x.on)) (slice_get all h) false) (cons_option (if b then Some n else None) (filter_map (λ p. if is_on p.1 then Some p.0 else None) (enumerate_from (n + 1) hs))) ≡ true
  subs_at all hs n x true e g rest = both_of _ _ (ap (λ o. option_map_or (λ x. not (is_init x.on)) o false) g ∙ (both _ _ e).1) rest
  subs_at all hs n x false e g rest = rest

  subs_from : (all hs : List Handler) (n : ℕ) → ((j : ℕ) (x : Handler) → slice_get hs j ≡ Some x → slice_get all (n + j) ≡ Some x)
      → list_all (λ h. option_map_or (λ x. not (is_init x.on)) (slice_get all h) false) (filter_map (λ p. if is_on p.1 then Some p.0 else None) (enumerate_from n hs)) ≡ true
  subs_from all [] n g = refl
  subs_from all (x ∷ hs) n g =
      subs_at all hs n x (is_on x) refl (ap (slice_get all) (let f : n ≡ n + 0 = omega arith in f) ∙ g 0 x refl)
      (subs_from all hs (n + 1) (λ j y e. ap (slice_get all) (let f : (n + 1) + j ≡ n + suc j = omega arith in f) ∙ g (suc j) y e))

  pub first_subs_fit : (kind : Kind) → list_all (λ h. option_map_or (λ x. not (is_init x.on)) (handler_of kind h) false) (first_subs kind) ≡ true
  first_subs_fit kind = subs_from kind.handlers kind.handlers 0 (λ j x e. ap (slice_get kind.handlers) (let f : 0 + j ≡ j = omega arith in f) ∙ e)

  subs_or_none : (kind : Kind) (b : Bool) → list_all (λ h. option_map_or (λ x. not (is_init x.on)) (handler_of kind h) false) (if b then first_subs kind else []) ≡ true
  subs_or_none kind true = first_subs_fit kind
  subs_or_none kind false = refl

  vars_are : (k : ℕ) (birth : Birth) → birth_fits S k birth ≡ true → length (first_vars (kind_of S k) birth) ≡ length (kind_of S k).vars
  vars_are k (Args vs) e = length-map (kind_of S k).vars (λ v. v.first)
  vars_are k (State vs) e = eqb-true (length vs) (length (kind_of S k).vars) e

  pub first_fits : IsDeclared S → (i : Instance) → InstanceFits S i → BodyFits S (first_body S i.kind i.birth (1 + length i.ancestry))
  first_fits D i h =
      let K = D.kinds i.kind h.kind in
      let parts = both _ _ (both _ _ K.parts).1 in
      record {
        kind = h.kind;
        vars = vars_are i.kind i.birth h.birth;
        slots = length-map (kind_of S i.kind).slots (λ s. option_map (λ child. child.kind) s.child);
        wires = length-map (kind_of S i.kind).channels first_wire;
        subs = subs_or_none (kind_of S i.kind) (is_initialised_at_birth (kind_of S i.kind) i.birth);
        children = all_mapped (λ s. option_map (λ child. child.kind) s.child) (λ s. option_map_or (λ k. nat_lt k (length S.kinds)) s true) (slot_fits S) (kind_of S i.kind).slots (λ s e. child_known s s.child e) (both _ _ parts.0).1;
        places = all_mapped first_wire (is_wire_in S (first_body S i.kind i.birth (1 + length i.ancestry))) (channel_fits S (kind_of S i.kind)) (kind_of S i.kind).channels (λ d e. wire_in i.kind i.birth (1 + length i.ancestry) d e) (both _ _ (both _ _ parts.1).0).0;
        some_depth = omega arith;
        depth = h.depth;
      }
