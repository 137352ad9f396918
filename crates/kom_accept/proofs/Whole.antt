-- A syntax tree that breaks no rule stands for a well-formed system.
use Rattle.std.proofs.Common.{◌≡◌, ℕ, ◌<◌, ◌≤◌, ◌==◌, true, List, [], ◌∷◌, map, length, Some, slice_get, refl, sym, ap, ◌∙◌, arith, subst}
use Rattle.std.specs.Prelude.{Contains}
use Rattle.std.specs.List.{flat_map}
use Rattle.std.specs.Option.{option_map_or}
use Rattle.std.proofs.lemmas.List.{length-map}
use Rattle.std.proofs.lemmas.List.FromFn.{get_or-map-range_with_len, length-map-range_with_len}
use Rattle.std.proofs.lemmas.Option.{slice_get-get_or}
use Rattle.kom_lang.specs.declared.stmt.Handler.{Handler}
use Rattle.kom_lang.specs.declared.stmt.Stmt.{Stmt}
use Rattle.kom_system.specs.Fitting.{kind_fits, child_fits}
use Rattle.kom_system.specs.Statements.{Within, StatementFits}
use Rattle.kom_system.specs.WellFormed.{IsWellFormed, IsDeclared, KindFits}
use Rattle.kom_system.specs.declared.parts.OnPart.{OnPart}
use Rattle.kom_system.specs.declared.parts.RootPart.{RootPart}
use Rattle.kom_system.specs.declared.parts.HandlerPart.{HandlerPart}
use Rattle.kom_system.specs.declared.parts.ComponentPart.{ComponentPart}
use Rattle.kom_system.specs.declared.parts.Parts.{Parts}
use Rattle.kom_rules.specs.Names.{names_of, each_once, at_if}
use Rattle.kom_rules.specs.Spaces.{event_rows, attribute_names, parameters}
use Rattle.kom_rules.specs.Walks.{One, statements, of_statements, in_expressions, max_levels}
use Rattle.kom_rules.specs.Declaring.{unknown_at, unknown_in_on, unknown_in_one, unknown_in_component, unknown_component, unknown_value}
use Rattle.kom_rules.specs.Fitting.{wrong_slots, wrong_create, wrong_child}
use Rattle.kom_rules.specs.Handling.{subscribed_init, kept_inside, miscounted, no_state, no_question, no_fault, misplugged}
use Rattle.kom_resolve.specs.Resolved.{resolved, kind_value, handler_value, root_value, child_value}
use Rattle.kom_tables.proofs.Attributed.{names_count}
use Rattle.kom_accept.proofs.Lists.{first_empty, second_empty, none_at, mapped_at, member}
use Rattle.kom_accept.proofs.Kept.{Keeps}
use Rattle.kom_accept.proofs.Events.{names_long, rows_long, few_events, events_fit}
use Rattle.kom_accept.proofs.Counts.{few_port_types, few_components, port_rows_long, port_names_long}
use Rattle.kom_accept.proofs.PortTypes.{ports_fit}
use Rattle.kom_accept.proofs.Components.{declared, kind_is, kinds_long, handler_known, components_known, child_ok, parts_fit}
use Rattle.kom_accept.proofs.Trees.{tree_fits}
use Rattle.kom_accept.proofs.Statements.{Each, Sound, each_none, each_and, each_more, in_block}

some_same : {X : Type 0} {x y : X} → Some x ≡ Some y → x ≡ y
some_same e = cc

module _ (P : Parts) (K : Keeps P) where
  -- ---- statements

  said : (says : Parts → ComponentPart → OnPart → One → List ℕ) → of_statements says P ≡ [] → (n : ℕ) (c : ComponentPart) → slice_get P.components n ≡ Some c → (k : ℕ) (h : HandlerPart) → slice_get c.handlers k ≡ Some h → Each (λ x. says P c h.on x.stmt ≡ []) (statements h)
  said says none n c at k h there =
      each_none (λ x. says P c h.on x.stmt) (statements h)
      (none_at (λ g. flat_map (λ x. says P c g.on x.stmt) (statements g)) c.handlers k h (none_at (λ d. flat_map (λ g. flat_map (λ x. says P d g.on x.stmt) (statements g)) d.handlers) P.components n c none at) there)

  sound : (n : ℕ) (c : ComponentPart) → slice_get P.components n ≡ Some c → (k : ℕ) (h : HandlerPart) → slice_get c.handlers k ≡ Some h → Each (Sound P c h.on) (statements h)
  sound n c at k h there =
      let xs = statements h in
      let named = each_more (λ x. unknown_at P c x ≡ []) (λ x. unknown_in_one P c x.scope x.stmt ≡ []) xs (λ x e. first_empty (unknown_in_one P c x.scope x.stmt) (in_expressions (unknown_value c x.scope) (λ a s. []) x.stmt) e)
      (each_none (unknown_at P c) xs (second_empty (unknown_in_on P c h.on) (flat_map (unknown_at P c) xs) (handler_known P K n c at k h there))) in
      let counted = said wrong_create (first_empty (of_statements wrong_create P) _ (second_empty (wrong_slots P) _ K.counts)) n c at k h there in
      let subscribed = said subscribed_init K.subscriptions n c at k h there in
      let leaves = said kept_inside K.outwards n c at k h there in
      let values = said miscounted K.values n c at k h there in
      let state = said no_state K.states n c at k h there in
      let plugged = said misplugged K.plugs n c at k h there in
      let question = said no_question K.answers n c at k h there in
      let fault = said no_fault K.escalations n c at k h there in
      each_more _ (Sound P c h.on) xs (λ x e. record { named = e.0; counted = e.1.0; subscribed = e.1.1.0; leaves = e.1.1.1.0; values = e.1.1.1.1.0; state = e.1.1.1.1.1.0; plugged = e.1.1.1.1.1.1.0; question = e.1.1.1.1.1.1.1.0; fault = e.1.1.1.1.1.1.1.1 })
      (each_and _ _ xs named (each_and _ _ xs counted (each_and _ _ xs subscribed (each_and _ _ xs leaves (each_and _ _ xs values (each_and _ _ xs state (each_and _ _ xs plugged (each_and _ _ xs question fault))))))))

  handler_fits : (n : ℕ) (c : ComponentPart) → slice_get P.components n ≡ Some c → (k : ℕ) (h : HandlerPart) → slice_get c.handlers k ≡ Some h → (s : Stmt) → Within s (handler_value P c h).block → StatementFits (declared P) (kind_value P c) (handler_value P c h).on s
  handler_fits n c at k h there s w =
      in_block P K n c at h.on (first_empty (unknown_in_on P c h.on) _ (handler_known P K n c at k h there)) max_levels (each_once (names_of (parameters h.on))) h.block s (sound n c at k h there) w

  handlers_fit : (n : ℕ) (c : ComponentPart) → slice_get P.components n ≡ Some c → (h : Handler) (s : Stmt) → Contains (kind_value P c).handlers h → Within s h.block → StatementFits (declared P) (kind_value P c) h.on s
  handlers_fit n c at h s in_kind w =
      let long = length-map c.handlers (handler_value P c) in
      let part = member c.handlers in_kind.0 (omega (arith, in_kind.1, long)) in
      let found = slice_get-get_or (map (handler_value P c) c.handlers) in_kind.0 h in_kind.1 ∙ ap Some in_kind.2 in
      let same : handler_value P c part.0 ≡ h = some_same (sym (mapped_at (handler_value P c) c.handlers in_kind.0 part.0 part.1) ∙ found) in
      subst (λ g. Within s g.block → StatementFits (declared P) (kind_value P c) g.on s) same (handler_fits n c at in_kind.0 part.0 part.1 s) w

  kind_ok : (k : ℕ) → k < length (declared P).kinds → KindFits (declared P) k
  kind_ok k less =
      let c = member P.components k (let long = kinds_long P K in omega arith) in
      record {
        parts = ap (kind_fits (declared P)) (kind_is P k c.0 c.1) ∙ parts_fit P K k c.0 c.1;
        tree = tree_fits P K k c.0 c.1;
        statements = subst (λ d. (h : Handler) (s : Stmt) → Contains d.handlers h → Within s h.block → StatementFits (declared P) d h.on s) (sym (kind_is P k c.0 c.1)) (handlers_fit k c.0 c.1);
      }

  -- ---- the root

  root_of : (roots : List RootPart) (a : ℕ) → at_if (length roots == 0) a ≡ [] → (r : RootPart) × (slice_get roots 0 ≡ Some r)
  root_of [] a e = absurd cc
  root_of (r ∷ roots) a e = (r, refl)

  root_ok : child_fits (declared P) (root_value P) ≡ true
  root_ok =
      let r = root_of P.roots P.end (first_empty (at_if (length P.roots == 0) P.end) _ K.roots) in
      let there = none_at (λ x. unknown_component P x.child.kind) P.roots 0 r.0 (second_empty (flat_map (unknown_in_component P) P.components) (flat_map (λ x. unknown_component P x.child.kind) P.roots) (components_known P K)) r.1 in
      let counts = none_at (λ x. wrong_child P x.child) P.roots 0 r.0 (second_empty (of_statements wrong_create P) (flat_map (λ x. wrong_child P x.child) P.roots) (second_empty (wrong_slots P) _ K.counts)) r.1 in
      ap (λ o. child_fits (declared P) (option_map_or (λ x. child_value P x.child) o (record { kind = 0; args = [] }))) r.1 ∙ child_ok P K r.0.child there counts

  -- ---- the whole

  declared_ok : IsDeclared (declared P)
  declared_ok = record {
    built_in_events_first = refl;
    built_in_ports_first = refl;
    event_count = omega (arith, rows_long P, few_events P K);
    port_count = omega (arith, port_rows_long P K, few_port_types P K);
    kind_count = omega (arith, kinds_long P K, few_components P K);
    events = events_fit P K;
    ports = ports_fit P K;
    kinds = kind_ok;
    root = root_ok;
  }

  pub well_formed : 1 ≤ P.version → P.version ≤ 2 → IsWellFormed (resolved P)
  well_formed low high = record {
    declared = declared_ok;
    event_names = names_long P;
    attr_names = length-map-range_with_len (attribute_names P) 0 (length (event_rows P));
    attr_counts = λ k less. ap length (get_or-map-range_with_len (attribute_names P) 0 (length (event_rows P)) k k [] less (omega arith)) ∙ names_count P k;
    port_names = port_names_long P K;
    version_low = low;
    version_high = high;
  }
