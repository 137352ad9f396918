-- The component types of a syntax tree that breaks no rule, but for the statements of their handlers.
use Rattle.std.proofs.Common.{◌≡◌, ℕ, suc, ◌≤◌, Bool, true, false, not, ◌==◌, cond, List, [], ◌∷◌, ◌++◌, map, filter, length, Option, Some, None, slice_get, unwrap_or, nat_le, nat_lt, count_by, refl, sym, ap, ◌∙◌, arith, eq-eqb}
use Rattle.std.specs.List.{flat_map}
use Rattle.std.specs.Option.{option_map, option_map_or, option_and_then}
use Rattle.std.proofs.lemmas.Bool.{le-leb, lt-ltb}
use Rattle.std.proofs.lemmas.List.{length-map}
use Rattle.std.proofs.lemmas.List.Sums.{length-filter}
use Rattle.std.proofs.lemmas.Option.{get_or_from_slice_get, slice_get_within}
use Rattle.kom_base.specs.declared.numbers.Dir.{Dir}
use Rattle.kom_base.specs.declared.numbers.Dir.TheVariants.{Plus, Minus}
use Rattle.kom_base.specs.Numbers.{is_plus, agree}
use Rattle.kom_base.specs.Lists.{either, find_map}
use Rattle.kom_lang.specs.Declarations.{Declarations, kind_of, no_kind}
use Rattle.kom_lang.specs.Declarations as lang
use Rattle.kom_system.specs.Fitting.{port_fits, slot_fits, child_fits, arity, takes_at, end_fits, place_fits, test_fits, selector_fits, channel_fits, handles_fits, has_at_most, numbers_fit, kind_fits}
use Rattle.kom_system.specs.Fitting as fits
use Rattle.kom_system.specs.declared.parts.Spot.{Spot}
use Rattle.kom_system.specs.declared.parts.ChildPart.{ChildPart}
use Rattle.kom_system.specs.declared.parts.PortPart.{PortPart}
use Rattle.kom_system.specs.declared.parts.SlotPart.{SlotPart}
use Rattle.kom_system.specs.declared.parts.TestPart.{TestPart}
use Rattle.kom_system.specs.declared.parts.EndPart.{EndPart}
use Rattle.kom_system.specs.declared.parts.EndPart.TheVariants as end
use Rattle.kom_system.specs.declared.parts.OnPart.{OnPart}
use Rattle.kom_system.specs.declared.parts.OnPart.TheVariants as on
use Rattle.kom_system.specs.declared.parts.ChannelPart.{ChannelPart}
use Rattle.kom_system.specs.declared.parts.HandlerPart.{HandlerPart}
use Rattle.kom_system.specs.declared.parts.ComponentPart.{ComponentPart}
use Rattle.kom_system.specs.declared.parts.Parts.{Parts}
use Rattle.kom_rules.specs.Names.{names_of, number_in, is_among, unknown, at_if}
use Rattle.kom_rules.specs.Spaces as spaces
use Rattle.kom_rules.specs.Spaces.{event_number, port_type_number, component_number, event_rows, port_rows, port_type_names, component_names, port_spots, slot_spots, component_named, port_named, slot_named, type_in, attribute_names}
use Rattle.kom_rules.specs.Declaring.{unknown_event, unknown_port_type, unknown_component, unknown_port, unknown_slot, unknown_end, unknown_in_channel, unknown_in_on, unknown_types, unknown_inside, unknown_in_component, unknown_in_types, unknown_in_components, unknown_in_handler, init_parameters_of}
use Rattle.kom_rules.specs.Fitting.{wrong_child, wrong_count, wrong_slots, untyped_end, untyped_in, of_end, wrong_type, wrong_types_in, wrong_sign, wrong_signs_in, is_of_type, takes_end, ninth_test, more_inits}
use Rattle.kom_resolve.specs.Resolved.{resolved, kind_value, child_value, port_value, var_value, slot_value, end_value, test_value, channel_value, handler_value, on_value, port_number, slot_number, port_number_at}
use Rattle.std.proofs.lemmas.Slice.Eq.{bytes_eq-Decides}
use Rattle.kom_events.specs.Kin.{attributes}
use Rattle.kom_rules.specs.Handling.{lacks, lacked_by_it, lacked_by_tests}
use Rattle.kom_rules.specs.Walks.{of_statements}
use Rattle.kom_tables.proofs.Attributed.{names_count}
use Rattle.kom_accept.proofs.Lists.{says_at, none_over, first_empty, second_empty, none_at, not_at, not_true, both, known_number, number_known, all_mapped, mapped_at, member}
use Rattle.kom_accept.proofs.Kept.{Keeps}
use Rattle.kom_accept.proofs.Events.{number_known_event}
use Rattle.kom_accept.proofs.Counts.{port_names_long, few_inside}

-- ---- what is declared by name

pub there : {X : Type 0} (name : X → Spot) (xs : List X) (s : Spot) → unknown (names_of (map name xs)) s ≡ [] → (x : X) × (slice_get xs (number_in (names_of (map name xs)) s.name) ≡ Some x)
there name xs s e =
    let less = known_number (names_of (map name xs)) s e in
    let long = length-map (map name xs) (λ t. t.name) in
    let long_too = length-map xs name in
    member xs (number_in (names_of (map name xs)) s.name) (omega (arith, less, long, long_too))

abbrev pub declared : Parts → Declarations
declared P = (resolved P).declarations

pub kind_is : (P : Parts) (k : ℕ) (c : ComponentPart) → slice_get P.components k ≡ Some c → kind_of (declared P) k ≡ kind_value P c
kind_is P k c h = get_or_from_slice_get (map (kind_value P) P.components) k (kind_value P c) no_kind (mapped_at (kind_value P) P.components k c h)

-- ---- arguments

parameters_same : (P : Parts) (c : ComponentPart) (o : OnPart) → fits.init_parameters (on_value P c o) ≡ spaces.init_parameters o
parameters_same P c (on.Event kind port) = refl
parameters_same P c (on.Init spots) = ap Some (length-map spots (λ s. s.name))
parameters_same P c on.Start = refl
parameters_same P c on.Stop = refl
parameters_same P c (on.Fault slot number) = refl
parameters_same P c (on.Dumped slot) = refl

found_same : {X Y Z : Type 0} (f : Y → Option Z) (g : X → Option Z) (v : X → Y) (xs : List X) → ((x : X) → f (v x) ≡ g x) → find_map f (map v xs) ≡ find_map g xs
found_same f g v [] h = refl
found_same f g v (x ∷ xs) h = ap (λ o. either o (find_map f (map v xs))) (h x) ∙ ap (either (g x)) (found_same f g v xs h)

arity_same : (P : Parts) (c : ComponentPart) → arity (kind_value P c) ≡ spaces.arity c
arity_same P c = ap (λ o. unwrap_or o 0) (found_same (λ h. fits.init_parameters h.on) (λ h. spaces.init_parameters h.on) (handler_value P c) c.handlers (λ h. parameters_same P c h.on))

-- ---- ends, tests and init handlers

typed : (a : ℕ) (o : Option ChildPart) → option_map_or {U = List ℕ} (λ child. []) o (a ∷ []) ≡ [] → (child : ChildPart) × (o ≡ Some child)
typed a None e = absurd cc
typed a (Some child) e = (child, refl)

pub inits_same : (P : Parts) (c : ComponentPart) (o : OnPart) → lang.is_init (on_value P c o) ≡ spaces.is_init o
inits_same P c (on.Event kind port) = refl
inits_same P c (on.Init spots) = refl
inits_same P c on.Start = refl
inits_same P c on.Stop = refl
inits_same P c (on.Fault slot number) = refl
inits_same P c (on.Dumped slot) = refl

inits_among : (P : Parts) (c : ComponentPart) (hs : List HandlerPart) → length (filter (λ h. lang.is_init h.on) (map (handler_value P c) hs)) ≡ length (filter (λ h. spaces.is_init h.on) hs)
inits_among P c [] = refl
inits_among P c (h ∷ hs) = by (lang.is_init (on_value P c h.on)) (spaces.is_init h.on) (inits_same P c h.on) (inits_among P c hs) where
  by : (a b : Bool) → a ≡ b → length (filter (λ x. lang.is_init x.on) (map (handler_value P c) hs)) ≡ length (filter (λ x. spaces.is_init x.on) hs)
      → length (cond a (handler_value P c h ∷ filter (λ x. lang.is_init x.on) (map (handler_value P c) hs)) (filter (λ x. lang.is_init x.on) (map (handler_value P c) hs))) ≡ length (cond b (h ∷ filter (λ x. spaces.is_init x.on) hs) (filter (λ x. spaces.is_init x.on) hs))
  by true true e more = ap suc more
  by false false e more = more
  by true false e more = absurd cc
  by false true e more = absurd cc

inits_counted : (P : Parts) (c : ComponentPart) (hs : List HandlerPart) → count_by (λ h. lang.is_init h.on) (map (handler_value P c) hs) ≡ length (filter (λ h. spaces.is_init h.on) hs)
inits_counted P c hs = sym (length-filter (λ h. lang.is_init h.on) (map (handler_value P c) hs)) ∙ inits_among P c hs

pub takes_ok_in : (P : Parts) (x : ChannelPart) (p : PortPart) (e : Dir) (outside : Bool) → is_of_type x p ≡ true → takes_end e p outside ≡ true → takes_at (port_type_number P x.port) e outside (port_value P p) ≡ true
takes_ok_in P x p e outside t s =
    let same : p.port.name ≡ x.port.name = (bytes_eq-Decides p.port.name x.port.name).0 t in
    both (port_type_number P p.port == port_type_number P x.port) (agree (agree p.provided outside) (is_plus e)) (eq-eqb (port_type_number P p.port) (port_type_number P x.port) (ap (number_in (port_type_names P)) same)) s

module _ (P : Parts) (K : Keeps P) where
  takes_ok : (x : ChannelPart) (p : PortPart) (e : Dir) (outside : Bool) → is_of_type x p ≡ true → takes_end e p outside ≡ true → takes_at (port_type_number P x.port) e outside (port_value P p) ≡ true
  takes_ok = takes_ok_in P

  test_ok : (t : TestPart) → unknown_event P t.kind ≡ [] → lacks P t.kind t.attr ≡ [] → test_fits (declared P) (test_value P t) ≡ true
  test_ok t u l =
      let names = attribute_names P (event_number P t.kind) in
      let among : is_among names t.attr.name ≡ true = not_true (is_among names t.attr.name) (not_at (not (is_among names t.attr.name)) t.attr.at l) in
      both (nat_lt (event_number P t.kind) (length (event_rows P))) _
      (lt-ltb (event_number P t.kind) (length (event_rows P)) (number_known_event P K t.kind u))
      (lt-ltb (number_in names t.attr.name) (attributes (event_rows P) (event_number P t.kind)) (omega (arith, number_known names t.attr.name among, names_count P (event_number P t.kind))))

  selector_ok : (tests : List TestPart) → ninth_test tests ≡ [] → flat_map (λ t. unknown_event P t.kind) tests ≡ [] → flat_map (λ t. lacks P t.kind t.attr) tests ≡ [] → selector_fits (declared P) (map (test_value P) tests) ≡ true
  selector_ok tests many u l =
      both (nat_le (length (map (test_value P) tests)) 8) _
      (le-leb (length (map (test_value P) tests)) 8 (omega (arith, none_over (λ t. t.kind.at) 8 tests many, length-map tests (test_value P))))
      (all_mapped (test_fits (declared P)) (test_value P) tests (λ k t h. test_ok t (none_at (λ x. unknown_event P x.kind) tests k t u h) (none_at (λ x. lacks P x.kind x.attr) tests k t l h)))

  pub components_known : unknown_in_components P ≡ []
  components_known = second_empty (unknown_in_types P) (unknown_in_components P) K.declared

  pub component_known : (s : Spot) → unknown_component P s ≡ [] → (t : ComponentPart) × (component_named P s ≡ Some t)
  component_known s e = there (λ c. c.name) P.components s e

  pub kinds_long : length (declared P).kinds ≡ length P.components
  kinds_long = length-map P.components (kind_value P)

  pub kind_known : (s : Spot) → unknown_component P s ≡ [] → nat_lt (component_number P s) (length (declared P).kinds) ≡ true
  kind_known s e =
      let less = known_number (component_names P) s e in
      let long = length-map P.components (λ c. c.name) in
      let names = length-map (map (λ c. c.name) P.components) (λ t. t.name) in
      lt-ltb (component_number P s) (length (declared P).kinds) (omega (arith, less, long, names, kinds_long))

  -- as many arguments as the component type takes
  pub counts_fit : (s : Spot) (count : ℕ) → unknown_component P s ≡ [] → wrong_count P s count ≡ [] → (count == arity (kind_of (declared P) (component_number P s))) ≡ true
  counts_fit s count e w =
      let t = component_known s e in
      let same : (count == spaces.arity t.0) ≡ true = not_true (count == spaces.arity t.0) (not_at (not (count == spaces.arity t.0)) s.at (sym (ap (λ o. option_map_or (λ x. at_if (not (count == spaces.arity x)) s.at) o []) t.1) ∙ w)) in
      ap (λ k. count == arity k) (kind_is P (component_number P s) t.0 t.1) ∙ ap (λ n. count == n) (arity_same P t.0) ∙ same

  pub child_ok : (child : ChildPart) → unknown_component P child.kind ≡ [] → wrong_child P child ≡ [] → child_fits (declared P) (child_value P child) ≡ true
  child_ok child e w = both (nat_lt (component_number P child.kind) (length (declared P).kinds)) _ (kind_known child.kind e) (counts_fit child.kind (length child.args) e w)

  -- ---- of one component type

  module _ (n : ℕ) (c : ComponentPart) (at : slice_get P.components n ≡ Some c) where
    inside_known : unknown_in_component P c ≡ []
    inside_known = none_at (unknown_in_component P) P.components n c (first_empty (flat_map (unknown_in_component P) P.components) _ components_known) at

    types_known : unknown_types P c ≡ []
    types_known = first_empty (unknown_types P c) (unknown_inside P c) inside_known

    pub port_type_known : (k : ℕ) (p : PortPart) → slice_get c.ports k ≡ Some p → unknown_port_type P p.port ≡ []
    port_type_known k p h = none_at (λ x. unknown_port_type P x.port) c.ports k p (first_empty (flat_map (λ x. unknown_port_type P x.port) c.ports) _ types_known) h

    pub slot_type_known : (k : ℕ) (s : SlotPart) → slice_get c.slots k ≡ Some s → option_map_or (λ child. unknown_component P child.kind) s.child [] ≡ []
    slot_type_known k s h =
        none_at (λ x. option_map_or (λ child. unknown_component P child.kind) x.child []) c.slots k s
        (second_empty (flat_map (λ x. unknown_port_type P x.port) c.ports) (flat_map (λ x. option_map_or (λ child. unknown_component P child.kind) x.child []) c.slots) types_known) h

    port_ok : (k : ℕ) (p : PortPart) → slice_get c.ports k ≡ Some p → port_fits (declared P) (port_value P p) ≡ true
    port_ok k p h = lt-ltb (port_type_number P p.port) (length (port_rows P)) (omega (arith, known_number (port_type_names P) p.port (port_type_known k p h), port_names_long P K))

    slot_counts : (k : ℕ) (s : SlotPart) → slice_get c.slots k ≡ Some s → option_map_or (wrong_child P) s.child [] ≡ []
    slot_counts k s h =
        none_at (λ x. option_map_or (wrong_child P) x.child []) c.slots k s
        (none_at (λ x. flat_map (λ y. option_map_or (wrong_child P) y.child []) x.slots) P.components n c (first_empty (wrong_slots P) _ K.counts) at) h

    child_of : (o : Option ChildPart) → option_map_or (λ child. unknown_component P child.kind) o [] ≡ [] → option_map_or (wrong_child P) o [] ≡ [] → option_map_or (child_fits (declared P)) (option_map (child_value P) o) true ≡ true
    child_of None e w = refl
    child_of (Some child) e w = child_ok child e w

    slot_ok : (k : ℕ) (s : SlotPart) → slice_get c.slots k ≡ Some s → slot_fits (declared P) (slot_value P s) ≡ true
    slot_ok k s h = child_of s.child (slot_type_known k s h) (slot_counts k s h)

    -- ---- channels

    pub inside_unknown : unknown_inside P c ≡ []
    inside_unknown = second_empty (unknown_types P c) (unknown_inside P c) inside_known

    channel_known : (k : ℕ) (x : ChannelPart) → slice_get c.channels k ≡ Some x → unknown_in_channel P c x ≡ []
    channel_known k x h = none_at (unknown_in_channel P c) c.channels k x (first_empty (flat_map (unknown_in_channel P c) c.channels) (flat_map (unknown_in_handler P c) c.handlers) inside_unknown) h

    pub own_port : (port : Spot) → unknown_port c port ≡ [] → (p : PortPart) × (port_named c port ≡ Some p)
    own_port port e = there (λ p. p.name) c.ports port e

    end_own : (x : ChannelPart) (e : Dir) (port : Spot) → unknown_port c port ≡ [] → of_end (wrong_type x) P c (end.Own port) ≡ [] → of_end (wrong_sign e) P c (end.Own port) ≡ []
        → end_fits (declared P) (kind_value P c) (port_type_number P x.port) e (end_value P c (end.Own port)) ≡ true
    end_own x e port u t s =
        let p = own_port port u in
        ap (λ o. option_map_or (takes_at (port_type_number P x.port) e false) o false) (mapped_at (port_value P) c.ports (port_number c port) p.0 p.1)
        ∙ takes_ok x p.0 e false
        (not_true (is_of_type x p.0) (not_at (not (is_of_type x p.0)) port.at (says_at (λ q. wrong_type x q false port.at) (port_named c port) p.0 t p.1)))
        (not_true (takes_end e p.0 false) (not_at (not (takes_end e p.0 false)) port.at (says_at (λ q. wrong_sign e q false port.at) (port_named c port) p.0 s p.1)))

    end_child : (x : ChannelPart) (e : Dir) (slot port : Spot) → unknown_end P c (end.Child slot port) ≡ [] → untyped_end c (end.Child slot port) ≡ []
        → of_end (wrong_type x) P c (end.Child slot port) ≡ [] → of_end (wrong_sign e) P c (end.Child slot port) ≡ []
        → end_fits (declared P) (kind_value P c) (port_type_number P x.port) e (end_value P c (end.Child slot port)) ≡ true
    end_child x e slot port u v t s =
        let type = port_type_number P x.port in
        let at_slot = there (λ q. q.name) c.slots slot (first_empty (unknown_slot c slot) _ u) in
        let child = typed slot.at at_slot.0.child (says_at (λ q. option_map_or (λ d. []) q.child (slot.at ∷ [])) (slot_named c slot) at_slot.0 v at_slot.1) in
        let kind_there = says_at (λ d. unknown_component P d.kind) at_slot.0.child child.0 (slot_type_known (slot_number c slot) at_slot.0 at_slot.1) child.1 in
        let kind = component_known child.0.kind kind_there in
        let type_there : type_in P at_slot.0 ≡ Some kind.0 = ap (option_and_then (λ d. component_named P d.kind)) child.1 ∙ kind.1 in
        let port_unknown = says_at (λ d. unknown_port d port) (type_in P at_slot.0) kind.0 (says_at (λ q. option_map_or (λ d. unknown_port d port) (type_in P q) []) (slot_named c slot) at_slot.0 (second_empty (unknown_slot c slot) _ u) at_slot.1) type_there in
        let p = there (λ q. q.name) kind.0.ports port port_unknown in
        let chain : option_and_then (λ q. option_and_then (λ d. port_named d port) (type_in P q)) (slot_named c slot) ≡ Some p.0 =
        ap (option_and_then (λ q. option_and_then (λ d. port_named d port) (type_in P q))) at_slot.1 ∙ ap (option_and_then (λ d. port_named d port)) type_there ∙ p.1 in
        let numbered : port_number_at P c slot port ≡ port_number kind.0 port =
        ap (λ o. option_map_or (λ d. port_number d port) (option_and_then (type_in P) o) 0) at_slot.1 ∙ ap (λ o. option_map_or (λ d. port_number d port) o 0) type_there in
        let slot_there : option_and_then (λ q. q.child) (slice_get (map (slot_value P) c.slots) (slot_number c slot)) ≡ Some (child_value P child.0) =
        ap (option_and_then (λ q. q.child)) (mapped_at (slot_value P) c.slots (slot_number c slot) at_slot.0 at_slot.1) ∙ ap (option_map (child_value P)) child.1 in
        ap (λ o. option_map_or (λ d. option_map_or (takes_at type e true) (slice_get (kind_of (declared P) d.kind).ports (port_number_at P c slot port)) false) o false) slot_there
        ∙ ap (λ d. option_map_or (takes_at type e true) (slice_get d.ports (port_number_at P c slot port)) false) (kind_is P (component_number P child.0.kind) kind.0 kind.1)
        ∙ ap (λ n. option_map_or (takes_at type e true) (slice_get (map (port_value P) kind.0.ports) n) false) numbered
        ∙ ap (λ o. option_map_or (takes_at type e true) o false) (mapped_at (port_value P) kind.0.ports (port_number kind.0 port) p.0 p.1)
        ∙ takes_ok x p.0 e true
        (not_true (is_of_type x p.0) (not_at (not (is_of_type x p.0)) port.at (says_at (λ q. wrong_type x q true port.at) _ p.0 t chain)))
        (not_true (takes_end e p.0 true) (not_at (not (takes_end e p.0 true)) port.at (says_at (λ q. wrong_sign e q true port.at) _ p.0 s chain)))

    end_ok : (x : ChannelPart) (e : Dir) (d : EndPart) → unknown_end P c d ≡ [] → untyped_end c d ≡ [] → of_end (wrong_type x) P c d ≡ [] → of_end (wrong_sign e) P c d ≡ []
        → end_fits (declared P) (kind_value P c) (port_type_number P x.port) e (end_value P c d) ≡ true
    end_ok x e end.Free u v t s = refl
    end_ok x e (end.Own port) u v t s = end_own x e port u t s
    end_ok x e (end.Child slot port) u v t s = end_child x e slot port u v t s

    channel_ok : (k : ℕ) (x : ChannelPart) → slice_get c.channels k ≡ Some x → channel_fits (declared P) (kind_value P c) (channel_value P c x) ≡ true
    channel_ok k x h =
        let type = port_type_number P x.port in
        let u = channel_known k x h in
        let u_ends = first_empty (unknown_end P c x.plus ++ unknown_end P c x.minus) _ (second_empty (unknown_port_type P x.port) _ u) in
        let u_tests = second_empty (unknown_end P c x.plus ++ unknown_end P c x.minus) _ (second_empty (unknown_port_type P x.port) _ u) in
        let v = none_at (λ y. untyped_end c y.plus ++ untyped_end c y.minus) c.channels k x (none_at untyped_in P.components n c K.typed at) h in
        let t = none_at (λ y. of_end (wrong_type y) P c y.plus ++ of_end (wrong_type y) P c y.minus) c.channels k x (none_at (wrong_types_in P) P.components n c K.types at) h in
        let s = none_at (λ y. of_end (wrong_sign Plus) P c y.plus ++ of_end (wrong_sign Minus) P c y.minus) c.channels k x (none_at (wrong_signs_in P) P.components n c K.signs at) h in
        let many = none_at (λ y. ninth_test y.plus_when ++ ninth_test y.minus_when) c.channels k x (none_at (λ y. flat_map (λ z. ninth_test z.plus_when ++ ninth_test z.minus_when) y.channels) P.components n c K.short at) h in
        let had = none_at (λ y. flat_map (λ z. lacks P z.kind z.attr) y.plus_when ++ flat_map (λ z. lacks P z.kind z.attr) y.minus_when) c.channels k x
        (none_at (λ y. flat_map (λ z. flat_map (λ w. lacks P w.kind w.attr) z.plus_when ++ flat_map (λ w. lacks P w.kind w.attr) z.minus_when) y.channels) P.components n c (second_empty (of_statements lacked_by_it P) (lacked_by_tests P) K.had) at) h in
        both (nat_lt type (length (port_rows P))) _
        (lt-ltb type (length (port_rows P)) (omega (arith, known_number (port_type_names P) x.port (first_empty (unknown_port_type P x.port) _ u), port_names_long P K)))
        (both _ _
        (both _ _
        (end_ok x Plus x.plus (first_empty (unknown_end P c x.plus) _ u_ends) (first_empty (untyped_end c x.plus) _ v) (first_empty (of_end (wrong_type x) P c x.plus) _ t) (first_empty (of_end (wrong_sign Plus) P c x.plus) _ s))
        (end_ok x Minus x.minus (second_empty (unknown_end P c x.plus) _ u_ends) (second_empty (untyped_end c x.plus) _ v) (second_empty (of_end (wrong_type x) P c x.plus) _ t) (second_empty (of_end (wrong_sign Plus) P c x.plus) _ s)))
        (both _ _
        (selector_ok x.plus_when (first_empty (ninth_test x.plus_when) _ many) (first_empty (flat_map (λ y. unknown_event P y.kind) x.plus_when) _ u_tests) (first_empty (flat_map (λ z. lacks P z.kind z.attr) x.plus_when) _ had))
        (selector_ok x.minus_when (second_empty (ninth_test x.plus_when) _ many) (second_empty (flat_map (λ y. unknown_event P y.kind) x.plus_when) _ u_tests) (second_empty (flat_map (λ z. lacks P z.kind z.attr) x.plus_when) _ had))))

    -- ---- handlers

    handles_ok : (o : OnPart) → unknown_in_on P c o ≡ [] → length (init_parameters_of o) ≤ 8 → handles_fits (declared P) (kind_value P c) (on_value P c o) ≡ true
    handles_ok (on.Event kind port) u few =
        both (nat_lt (event_number P kind) (length (event_rows P))) _
        (lt-ltb (event_number P kind) (length (event_rows P)) (number_known_event P K kind (first_empty (unknown_event P kind) (unknown_port c port) u)))
        (let p = own_port port (second_empty (unknown_event P kind) (unknown_port c port) u) in
        let long = length-map c.ports (port_value P) in
        lt-ltb (port_number c port) (length (map (port_value P) c.ports)) (omega (arith, slice_get_within c.ports (port_number c port) p.0 p.1, long)))
    handles_ok (on.Init spots) u few = le-leb (length (names_of spots)) 8 (omega (arith, length-map spots (λ s. s.name)))
    handles_ok on.Start u few = refl
    handles_ok on.Stop u few = refl
    handles_ok (on.Fault slot number) u few = refl
    handles_ok (on.Dumped slot) u few = refl

    pub handler_known : (k : ℕ) (h : HandlerPart) → slice_get c.handlers k ≡ Some h → unknown_in_handler P c h ≡ []
    handler_known k h e = none_at (unknown_in_handler P c) c.handlers k h (second_empty (flat_map (unknown_in_channel P c) c.channels) (flat_map (unknown_in_handler P c) c.handlers) inside_unknown) e

    handler_ok : (k : ℕ) (h : HandlerPart) → slice_get c.handlers k ≡ Some h → handles_fits (declared P) (kind_value P c) (on_value P c h.on) ≡ true
    handler_ok k h e = handles_ok h.on (first_empty (unknown_in_on P c h.on) _ (handler_known k h e)) ((few_inside P K n c at).parameters k h e)

    one_init : nat_le (count_by (λ h. lang.is_init h.on) (map (handler_value P c) c.handlers)) 1 ≡ true
    one_init =
        let few = none_over (λ h. h.name.at) 1 (filter (λ h. spaces.is_init h.on) c.handlers) (none_at more_inits P.components n c K.inits at) in
        le-leb (count_by (λ h. lang.is_init h.on) (map (handler_value P c) c.handlers)) 1 (omega (arith, few, inits_counted P c c.handlers))

    pub parts_fit : kind_fits (declared P) (kind_value P c) ≡ true
    parts_fit =
        let few = few_inside P K n c at in
        both (has_at_most 16 64 32 64 64 (kind_value P c)) (numbers_fit (declared P) (kind_value P c))
        (both _ _ (le-leb (length (map (port_value P) c.ports)) 16 (omega (arith, few.ports, length-map c.ports (port_value P))))
        (both _ _ (le-leb (length (map var_value c.vars)) 64 (omega (arith, few.vars, length-map c.vars var_value)))
        (both _ _ (le-leb (length (map (slot_value P) c.slots)) 32 (omega (arith, few.slots, length-map c.slots (slot_value P))))
        (both _ _ (le-leb (length (map (channel_value P c) c.channels)) 64 (omega (arith, few.channels, length-map c.channels (channel_value P c))))
        (le-leb (length (map (handler_value P c) c.handlers)) 64 (omega (arith, few.handlers, length-map c.handlers (handler_value P c))))))))
        (both _ _
        (both _ _ (all_mapped (port_fits (declared P)) (port_value P) c.ports port_ok) (all_mapped (slot_fits (declared P)) (slot_value P) c.slots slot_ok))
        (both _ _
        (both _ _ (all_mapped (channel_fits (declared P) (kind_value P c)) (channel_value P c) c.channels channel_ok) (all_mapped (λ h. handles_fits (declared P) (kind_value P c) h.on) (handler_value P c) c.handlers handler_ok))
        one_init))
