-- The rules on declarations, without places.
use Rattle.std.proofs.Common.{◌≡◌, ℕ, zero, suc, ◌+◌, ◌-◌, min, ◌==◌, Bool, true, false, not, ◌||◌, cond, List, [], ◌∷◌, map, length, take, drop, filter, Option, Some, None, slice_get, refl, sym, ap, ◌∙◌, length-take, length-drop}
use Rattle.std.specs.Prelude.{nat_lt, sum_by}
use Rattle.std.specs.List.{filter_map, cons_option, list_any, fold}
use Rattle.std.specs.Option.{option_map, option_map_or, option_and_then}
use Rattle.std.proofs.lemmas.List.{length-map}
use Rattle.kom_base.specs.declared.numbers.Dir.{Dir}
use Rattle.kom_base.specs.declared.numbers.Dir.TheVariants.{Plus, Minus}
use Rattle.kom_system.specs.declared.parts.Spot.{Spot}
use Rattle.kom_system.specs.declared.parts.StmtPart.{StmtPart}
use Rattle.kom_system.specs.declared.parts.StmtPart.TheOpen.{Create}
use Rattle.kom_system.specs.declared.parts.EndPart.{EndPart}
use Rattle.kom_system.specs.declared.parts.EndPart.TheVariants as end
use Rattle.kom_system.specs.declared.parts.OnPart.{OnPart}
use Rattle.kom_system.specs.declared.parts.OnPart.TheVariants as on
use Rattle.kom_system.specs.declared.parts.ChildPart.{ChildPart}
use Rattle.kom_system.specs.declared.parts.PortPart.{PortPart}
use Rattle.kom_system.specs.declared.parts.SlotPart.{SlotPart}
use Rattle.kom_system.specs.declared.parts.TestPart.{TestPart}
use Rattle.kom_system.specs.declared.parts.HandlerPart.{HandlerPart}
use Rattle.kom_system.specs.declared.parts.ComponentPart.{ComponentPart}
use Rattle.kom_system.specs.declared.parts.RootPart.{RootPart}
use Rattle.kom_system.specs.declared.parts.Parts.{Parts}
use Rattle.kom_rules.specs.Walks.{One, of_statements, max_levels}
use Rattle.kom_written.specs.Unplaced.{spot, expr_part, on_part, handler_part, child_part, port_part, slot_part, var_part, end_part, test_part, channel_part, component_part, event_part, port_type_part, root_part, unplaced}
use Rattle.kom_unplaced.proofs.Lists.{AsMany, nothing, one, both, each, each_numbered, maybe, got, map_same, option_same}
use Rattle.kom_unplaced.proofs.Exprs.{one_part, statements_same}
use Rattle.kom_events.specs.Kin.{is_on_cycle}
use Rattle.kom_events.specs.Ports.{listed}
use Rattle.kom_lang.specs.Declarations.{greatest}
use Rattle.kom_rules.specs.Spaces.{event_number, port_type_number, component_number, event_rows, port_rows, port_named, slot_named, type_in, is_init, arity}
use Rattle.kom_rules.specs.Declaring.{wrong_parents, own_ancestors, has_wrong_attributes, wrong_attributes, over, init_parameters_of, over_in_component, too_many, wrong_roots}
use Rattle.kom_rules.specs.Fitting.{wrong_count, wrong_child, wrong_create, wrong_counts, child_number, children_of, is_below, tree_height, tree_total, own_containers, is_too_large, too_large, untyped_end, untyped_ends, of_end, wrong_type, wrong_types, wrong_sign, wrong_signs, is_related, listed_for, unrelated, wrong_tests, inwards, wrong_handled, wrong_handlers, more_inits, second_inits, ninth_test, many_tests}
use Rattle.kom_unplaced.proofs.Names.{port_named_same, slot_named_same, event_rows_same, port_rows_same, event_number_same, port_type_number_same, component_number_same, attribute_names_same, component_named_same, type_in_same, is_init_same, arity_same}

-- ---- cuts of lists

cut_same : {X Y : Type 0} (f : X → ℕ) (g : Y → ℕ) (n m : ℕ) (xs : List X) (ys : List Y) → length xs ≡ length ys → AsMany (map f (take n (drop m xs))) (map g (take n (drop m ys)))
cut_same f g n m xs ys e = record {
  same = length-map (take n (drop m xs)) f ∙ length-take n (drop m xs) ∙ ap (min n) (length-drop m xs ∙ ap (λ k. k - m) e ∙ sym (length-drop m ys)) ∙ sym (length-take n (drop m ys)) ∙ sym (length-map (take n (drop m ys)) g);
}

pub over_same : (n : ℕ) (xs ys : List Spot) → length xs ≡ length ys → AsMany (over n xs) (over n ys)
over_same n xs ys e = cut_same (λ s. s.at) (λ s. s.at) 1 n xs ys e

named_length : {X Y : Type 0} (f : Y → Spot) (g : X → Spot) (part : X → Y) (xs : List X) → length (map f (map part xs)) ≡ length (map g xs)
named_length f g part xs = length-map (map part xs) f ∙ length-map xs part ∙ sym (length-map xs g)

pub filter_length : {X Y : Type 0} (f : Y → Bool) (g : X → Bool) (part : X → Y) (xs : List X) → ((x : X) → f (part x) ≡ g x) → length (filter f (map part xs)) ≡ length (filter g xs)
filter_length f g part [] h = refl
filter_length {X = X} {Y = Y} f g part (x ∷ xs) h = by (f (part x)) (g x) (h x) (filter_length f g part xs h) where
  by : (a b : Bool) → a ≡ b → length (filter f (map part xs)) ≡ length (filter g xs) → length (cond a (part x ∷ filter f (map part xs)) (filter f (map part xs))) ≡ length (cond b (x ∷ filter g xs) (filter g xs))
  by true true e rest = ap suc rest
  by false false e rest = rest
  by true false e rest = absurd cc
  by false true e rest = absurd cc

any_same : {X : Type 0} (f g : X → Bool) (xs : List X) → ((x : X) → f x ≡ g x) → list_any f xs ≡ list_any g xs
any_same f g [] h = refl
any_same f g (x ∷ xs) h = ap (λ b. b || list_any f xs) (h x) ∙ ap (λ b. g x || b) (any_same f g xs h)

filtered_same : {X Y Z : Type 0} (f : Y → Option Z) (g : X → Option Z) (part : X → Y) (xs : List X) → ((x : X) → f (part x) ≡ g x) → filter_map f (map part xs) ≡ filter_map g xs
filtered_same f g part [] h = refl
filtered_same f g part (x ∷ xs) h = ap (λ o. cons_option o (filter_map f (map part xs))) (h x) ∙ ap (cons_option (g x)) (filtered_same f g part xs h)

fold_same : {X : Type 0} (f g : X → ℕ) (n : ℕ) (xs : List X) → ((x : X) → f x ≡ g x) → fold (λ a x. a + f x) n xs ≡ fold (λ a x. a + g x) n xs
fold_same f g n [] h = refl
fold_same f g n (x ∷ xs) h = ap (λ m. fold (λ a y. a + f y) (n + m) xs) (h x) ∙ fold_same f g (n + g x) xs h

init_length : (o : OnPart) → length (init_parameters_of (on_part o)) ≡ length (init_parameters_of o)
init_length (on.Event kind port) = refl
init_length (on.Init ns) = length-map ns spot
init_length on.Start = refl
init_length on.Stop = refl
init_length (on.Fault slot n) = refl
init_length (on.Dumped slot) = refl

over_inside : (c : ComponentPart) → AsMany (over_in_component (component_part c)) (over_in_component c)
over_inside c =
    both (over_same 16 _ _ (named_length _ _ port_part c.ports)) (both (over_same 64 _ _ (named_length _ _ var_part c.vars)) (both (over_same 32 _ _ (named_length _ _ slot_part c.slots)) (both (over_same 64 _ _ (named_length _ _ channel_part c.channels))
    (both (over_same 64 _ _ (named_length _ _ handler_part c.handlers)) (each _ _ handler_part c.handlers (λ h. over_same 8 _ _ (init_length h.on)))))))

ends_none : (a b : ℕ) (o : Option ChildPart) → AsMany (option_map_or {U = List ℕ} (λ x. []) (option_map child_part o) (a ∷ [])) (option_map_or {U = List ℕ} (λ x. []) o (b ∷ []))
ends_none a b None = record { same = refl }
ends_none a b (Some x) = nothing

module _ (P : Parts) where
  -- ---- what is said of statements
  pub of_statements_same : (says : Parts → ComponentPart → OnPart → One → List ℕ)
      → ((c : ComponentPart) (o : OnPart) (below : List StmtPart → List StmtPart) (s : One) → AsMany (says (unplaced P) (component_part c) (on_part o) (one_part below s)) (says P c o s))
      → AsMany (of_statements says (unplaced P)) (of_statements says P)
  of_statements_same says h =
      each _ _ component_part P.components (λ c. each _ _ handler_part c.handlers (λ x.
      statements_same (λ y. says (unplaced P) (component_part c) (on_part x.on) y.stmt) (λ y. says P c x.on y.stmt) (λ scope below s. h c x.on below s) max_levels x))

  -- ---- rules 8 to 12

  pub parents_same : AsMany (wrong_parents (unplaced P)) (wrong_parents P)
  parents_same = each _ _ event_part P.events (λ e. maybe _ _ spot _ e.parent refl (λ s. one _ _ refl))

  pub ancestors_same : AsMany (own_ancestors (unplaced P)) (own_ancestors P)
  ancestors_same = each_numbered _ _ event_part 4 P.events (λ k e. one _ _ (ap (λ rs. is_on_cycle rs k) (event_rows_same P)))

  pub attributes_same : AsMany (wrong_attributes (unplaced P)) (wrong_attributes P)
  attributes_same = each_numbered _ _ event_part 4 P.events (λ k e. one _ _ (ap has_wrong_attributes (attribute_names_same P k)))

  pub many_same : AsMany (too_many (unplaced P)) (too_many P)
  many_same =
      both (over_same 256 _ _ (named_length _ _ event_part P.events)) (both (over_same 128 _ _ (named_length _ _ port_type_part P.ports)) (both (over_same 128 _ _ (named_length _ _ component_part P.components))
      (both (each _ _ port_type_part P.ports (λ t. both (over_same 64 _ _ (length-map t.plus spot)) (over_same 64 _ _ (length-map t.minus spot)))) (each _ _ component_part P.components over_inside))))

  pub roots_same : AsMany (wrong_roots (unplaced P)) (wrong_roots P)
  roots_same = both (one _ _ (ap (λ n. n == 0) (length-map P.roots root_part))) (cut_same (λ (r : RootPart). r.at) (λ (r : RootPart). r.at) 1 1 (map root_part P.roots) P.roots (length-map P.roots root_part))

  -- ---- rules 13 to 15

  count_same : (s : Spot) (n m : ℕ) → n ≡ m → AsMany (wrong_count (unplaced P) (spot s) n) (wrong_count P s m)
  count_same s n m e = maybe _ _ component_part _ _ (component_named_same P s) (λ t. one _ _ (ap (λ k. not (k == arity (component_part t))) e ∙ ap (λ k. not (m == k)) (arity_same t)))

  create_same : (c : ComponentPart) (o : OnPart) (below : List StmtPart → List StmtPart) (s : One) → AsMany (wrong_create (unplaced P) (component_part c) (on_part o) (one_part below s)) (wrong_create P c o s)
  create_same c o below (Create slot kind es) = count_same kind (length (map expr_part es)) (length es) (length-map es expr_part)
  create_same c o below _ = nothing

  child_same : (x : ChildPart) → AsMany (wrong_child (unplaced P) (child_part x)) (wrong_child P x)
  child_same x = count_same x.kind (length x.args) (length x.args) refl

  pub counts_same : AsMany (wrong_counts (unplaced P)) (wrong_counts P)
  counts_same =
      both (each _ _ component_part P.components (λ c. each _ _ slot_part c.slots (λ s. maybe _ _ child_part _ s.child refl child_same)))
      (both (of_statements_same wrong_create create_same) (each _ _ root_part P.roots (λ r. child_same r.child)))

  number_same : (s : SlotPart) → child_number (unplaced P) (slot_part s) ≡ child_number P s
  number_same s = option_same (λ (x : ChildPart). component_number (unplaced P) x.kind) (λ (x : ChildPart). component_number P x.kind) child_part s.child (λ x. component_number_same P x.kind)

  children_same : (k : ℕ) → children_of (unplaced P) k ≡ children_of P k
  children_same k = ap (λ o. option_map_or (λ (c : ComponentPart). filter_map (child_number (unplaced P)) c.slots) o []) (got component_part P.components k) ∙ by (slice_get P.components k) where
    by : (o : Option ComponentPart) → option_map_or (λ (c : ComponentPart). filter_map (child_number (unplaced P)) c.slots) (option_map component_part o) [] ≡ option_map_or (λ (c : ComponentPart). filter_map (child_number P) c.slots) o []
    by None = refl
    by (Some c) = filtered_same (child_number (unplaced P)) (child_number P) slot_part c.slots number_same

  below_same : (levels a b : ℕ) → is_below levels (unplaced P) a b ≡ is_below levels P a b
  below_same zero a b = refl
  below_same (suc levels) a b =
      ap (list_any (λ c. c == b || is_below levels (unplaced P) c b)) (children_same a)
      ∙ any_same (λ c. c == b || is_below levels (unplaced P) c b) (λ c. c == b || is_below levels P c b) (children_of P a) (λ c. ap (λ t. c == b || t) (below_same levels c b))

  height_same : (levels k : ℕ) → tree_height levels (unplaced P) k ≡ tree_height levels P k
  height_same zero k = refl
  height_same (suc levels) k =
      ap (λ ks. 1 + greatest (map (tree_height levels (unplaced P)) ks)) (children_same k)
      ∙ ap (λ hs. 1 + greatest hs) (map_same (tree_height levels (unplaced P)) (tree_height levels P) (children_of P k) (height_same levels))

  adds_same : (adds : ComponentPart → ℕ) → ((c : ComponentPart) → adds (component_part c) ≡ adds c) → (k : ℕ) → option_map_or adds (slice_get (map component_part P.components) k) 0 ≡ option_map_or adds (slice_get P.components k) 0
  adds_same adds h k = ap (λ o. option_map_or adds o 0) (got component_part P.components k) ∙ by (slice_get P.components k) where
    by : (o : Option ComponentPart) → option_map_or adds (option_map component_part o) 0 ≡ option_map_or adds o 0
    by None = refl
    by (Some c) = h c

  total_same : (adds : ComponentPart → ℕ) → ((c : ComponentPart) → adds (component_part c) ≡ adds c) → (levels k : ℕ) → tree_total adds levels (unplaced P) k ≡ tree_total adds levels P k
  total_same adds h zero k = refl
  total_same adds h (suc levels) k =
      ap (λ n. n + sum_by (tree_total adds levels (unplaced P)) (children_of (unplaced P) k)) (adds_same adds h k)
      ∙ ap (λ ks. option_map_or adds (slice_get P.components k) 0 + sum_by (tree_total adds levels (unplaced P)) ks) (children_same k)
      ∙ ap (λ n. option_map_or adds (slice_get P.components k) 0 + n) (fold_same (tree_total adds levels (unplaced P)) (tree_total adds levels P) 0 (children_of P k) (total_same adds h levels))

  pub containers_same : AsMany (own_containers (unplaced P)) (own_containers P)
  containers_same = each_numbered _ _ component_part 0 P.components (λ k c. one _ _ (ap (λ n. is_below n (unplaced P) k k) (length-map P.components component_part) ∙ below_same (length P.components) k k))

  size_same : (k : ℕ) → is_too_large (unplaced P) k ≡ is_too_large P k
  size_same k =
      ap (λ n. nat_lt 16 n || (nat_lt 1000 (tree_total (λ c. 1) 16 (unplaced P) k) || nat_lt 1000 (tree_total (λ c. length c.channels) 16 (unplaced P) k))) (height_same 17 k)
      ∙ ap (λ n. nat_lt 16 (tree_height 17 P k) || (nat_lt 1000 n || nat_lt 1000 (tree_total (λ c. length c.channels) 16 (unplaced P) k))) (total_same (λ c. 1) (λ c. refl) 16 k)
      ∙ ap (λ n. nat_lt 16 (tree_height 17 P k) || (nat_lt 1000 (tree_total (λ c. 1) 16 P k) || nat_lt 1000 n)) (total_same (λ c. length c.channels) (λ c. length-map c.channels channel_part) 16 k)

  pub sizes_same : AsMany (too_large (unplaced P)) (too_large P)
  sizes_same = each_numbered _ _ component_part 0 P.components (λ k c. one _ _ (size_same k))

  -- ---- rules 16 to 18

  untyped_same : (c : ComponentPart) (p : EndPart) → AsMany (untyped_end (component_part c) (end_part p)) (untyped_end c p)
  untyped_same c end.Free = nothing
  untyped_same c (end.Own port) = nothing
  untyped_same c (end.Child slot port) = maybe _ _ slot_part _ _ (slot_named_same c slot) (λ s. ends_none 0 slot.at s.child)

  pub untyped_all : AsMany (untyped_ends (unplaced P)) (untyped_ends P)
  untyped_all = each _ _ component_part P.components (λ c. each _ _ channel_part c.channels (λ k. both (untyped_same c k.plus) (untyped_same c k.minus)))

  -- the port of the component type in a slot
  inner_same : (c : ComponentPart) (slot port : Spot)
      → option_and_then (λ s. option_and_then (λ t. port_named t (spot port)) (type_in (unplaced P) s)) (slot_named (component_part c) (spot slot)) ≡ option_map port_part (option_and_then (λ s. option_and_then (λ t. port_named t port) (type_in P s)) (slot_named c slot))
  inner_same c slot port =
      ap (option_and_then (λ s. option_and_then (λ t. port_named t (spot port)) (type_in (unplaced P) s))) (slot_named_same c slot) ∙ by (slot_named c slot)
    where
      typed : (o : Option ComponentPart) → option_and_then (λ t. port_named t (spot port)) (option_map component_part o) ≡ option_map port_part (option_and_then (λ t. port_named t port) o)
      typed None = refl
      typed (Some t) = port_named_same t port

      by : (o : Option SlotPart) → option_and_then (λ s. option_and_then (λ t. port_named t (spot port)) (type_in (unplaced P) s)) (option_map slot_part o) ≡ option_map port_part (option_and_then (λ s. option_and_then (λ t. port_named t port) (type_in P s)) o)
      by None = refl
      by (Some s) = ap (option_and_then (λ t. port_named t (spot port))) (type_in_same P s) ∙ typed (type_in P s)

  end_same : (says' says : PortPart → Bool → ℕ → List ℕ) → ((p : PortPart) (b : Bool) (a' a : ℕ) → AsMany (says' (port_part p) b a') (says p b a)) → (c : ComponentPart) (p : EndPart)
      → AsMany (of_end says' (unplaced P) (component_part c) (end_part p)) (of_end says P c p)
  end_same says' says h c end.Free = nothing
  end_same says' says h c (end.Own port) = maybe _ _ port_part _ _ (port_named_same c port) (λ p. h p false 0 port.at)
  end_same says' says h c (end.Child slot port) = maybe _ _ port_part _ _ (inner_same c slot port) (λ p. h p true 0 port.at)

  pub types_same : AsMany (wrong_types (unplaced P)) (wrong_types P)
  types_same =
      each _ _ component_part P.components (λ c. each _ _ channel_part c.channels (λ k.
      both (end_same (wrong_type (channel_part k)) (wrong_type k) (λ p b a' a. one _ _ refl) c k.plus) (end_same (wrong_type (channel_part k)) (wrong_type k) (λ p b a' a. one _ _ refl) c k.minus)))

  pub signs_same : AsMany (wrong_signs (unplaced P)) (wrong_signs P)
  signs_same =
      each _ _ component_part P.components (λ c. each _ _ channel_part c.channels (λ k.
      both (end_same (wrong_sign Plus) (wrong_sign Plus) (λ p b a' a. one _ _ refl) c k.plus) (end_same (wrong_sign Minus) (wrong_sign Minus) (λ p b a' a. one _ _ refl) c k.minus)))

  -- ---- rules 19 to 21, and 31

  listed_same : (port : Spot) (d : Dir) → listed_for (unplaced P) (spot port) d ≡ listed_for P port d
  listed_same port d =
      ap (λ rs. option_map_or (λ row. listed row d) (slice_get rs (port_type_number (unplaced P) (spot port))) []) (port_rows_same P)
      ∙ ap (λ n. option_map_or (λ row. listed row d) (slice_get (port_rows P) n) []) (port_type_number_same P port)

  unrelated_same : (port : Spot) (d : Dir) (kind : Spot) → AsMany (unrelated (unplaced P) (spot port) d (spot kind)) (unrelated P port d kind)
  unrelated_same port d kind =
      one _ _ (ap (λ rs. not (is_related rs (event_number (unplaced P) (spot kind)) (listed_for (unplaced P) (spot port) d))) (event_rows_same P)
      ∙ ap (λ n. not (is_related (event_rows P) n (listed_for (unplaced P) (spot port) d))) (event_number_same P kind)
      ∙ ap (λ ks. not (is_related (event_rows P) (event_number P kind) ks)) (listed_same port d))

  pub tests_same : AsMany (wrong_tests (unplaced P)) (wrong_tests P)
  tests_same =
      each _ _ component_part P.components (λ c. each _ _ channel_part c.channels (λ k.
      both (each _ _ test_part k.plus_when (λ t. unrelated_same k.port Plus t.kind)) (each _ _ test_part k.minus_when (λ t. unrelated_same k.port Minus t.kind))))

  handled_same : (c : ComponentPart) (o : OnPart) → AsMany (wrong_handled (unplaced P) (component_part c) (on_part o)) (wrong_handled P c o)
  handled_same c (on.Event kind port) = maybe _ _ port_part _ _ (port_named_same c port) (λ p. unrelated_same p.port (inwards p.provided) kind)
  handled_same c (on.Init ns) = nothing
  handled_same c on.Start = nothing
  handled_same c on.Stop = nothing
  handled_same c (on.Fault slot n) = nothing
  handled_same c (on.Dumped slot) = nothing

  pub handlers_same : AsMany (wrong_handlers (unplaced P)) (wrong_handlers P)
  handlers_same = each _ _ component_part P.components (λ c. each _ _ handler_part c.handlers (λ h. handled_same c h.on))

  inits_of : (c : ComponentPart) → AsMany (more_inits (component_part c)) (more_inits c)
  inits_of c =
      cut_same (λ (h : HandlerPart). h.name.at) (λ (h : HandlerPart). h.name.at) 1 1 (filter (λ h. is_init h.on) (map handler_part c.handlers)) (filter (λ h. is_init h.on) c.handlers)
      (filter_length (λ (h : HandlerPart). is_init h.on) (λ (h : HandlerPart). is_init h.on) handler_part c.handlers (λ h. is_init_same h.on))

  pub inits_same : AsMany (second_inits (unplaced P)) (second_inits P)
  inits_same = each _ _ component_part P.components inits_of

  ninth_same : (ts : List TestPart) → AsMany (ninth_test (map test_part ts)) (ninth_test ts)
  ninth_same ts = cut_same (λ (t : TestPart). t.kind.at) (λ (t : TestPart). t.kind.at) 1 8 (map test_part ts) ts (length-map ts test_part)

  pub ninths_same : AsMany (many_tests (unplaced P)) (many_tests P)
  ninths_same = each _ _ component_part P.components (λ c. each _ _ channel_part c.channels (λ k. both (ninth_same k.plus_when) (ninth_same k.minus_when)))
