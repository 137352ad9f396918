-- What a tree stands for, without its places.
use Rattle.std.proofs.Common.{◌≡◌, ℕ, ℤ, zero, suc, Bool, List, [], ◌∷◌, map, length, Option, Some, None, slice_get, refl, ap, ◌∙◌}
use Rattle.std.specs.Prelude.{if◌then◌else◌}
use Rattle.std.specs.Option.{option_map, option_map_or, option_and_then}
use Rattle.kom_system.specs.declared.parts.Spot.{Spot}
use Rattle.kom_system.specs.declared.parts.ExprPart.{ExprPart}
use Rattle.kom_system.specs.declared.parts.StmtPart.{StmtPart}
use Rattle.kom_system.specs.declared.parts.StmtPart.TheOpen.{Let, Set, If, While, Trigger, Answer, Create, CreateFromState, Start, Stop, Destroy, Dump, Hold, Resume, Unplug, Plug, Subscribe, Unsubscribe, Fail, Escalate}
use Rattle.kom_system.specs.declared.parts.TargetPart.{TargetPart}
use Rattle.kom_system.specs.declared.parts.TargetPart.TheVariants as to
use Rattle.kom_system.specs.declared.parts.EndPart.{EndPart}
use Rattle.kom_system.specs.declared.parts.EndPart.TheVariants as end
use Rattle.kom_system.specs.declared.parts.OnPart.{OnPart}
use Rattle.kom_system.specs.declared.parts.OnPart.TheVariants as on
use Rattle.kom_system.specs.declared.parts.ChildPart.{ChildPart}
use Rattle.kom_system.specs.declared.parts.PortPart.{PortPart}
use Rattle.kom_system.specs.declared.parts.SlotPart.{SlotPart}
use Rattle.kom_system.specs.declared.parts.TestPart.{TestPart}
use Rattle.kom_system.specs.declared.parts.ChannelPart.{ChannelPart}
use Rattle.kom_system.specs.declared.parts.HandlerPart.{HandlerPart}
use Rattle.kom_system.specs.declared.parts.ComponentPart.{ComponentPart}
use Rattle.kom_system.specs.declared.parts.RootPart.{RootPart}
use Rattle.kom_system.specs.declared.parts.Parts.{Parts}
use Rattle.std.specs.List.{range_with_len}
use Rattle.kom_events.specs.declared.event_types.EventRow.{EventRow}
use Rattle.kom_events.specs.declared.port_types.PortRow.{PortRow}
use Rattle.kom_events.specs.declared.selector.Test.{Test}
use Rattle.kom_events.specs.declared.selector.Op.{Op}
use Rattle.kom_lang.specs.declared.expr.Binary.{Binary}
use Rattle.kom_lang.specs.declared.expr.Expr.{Expr}
use Rattle.kom_lang.specs.declared.expr.Expr.TheVariants as expr
use Rattle.kom_lang.specs.declared.kind.Kind.{Kind}
use Rattle.kom_lang.specs.declared.kind.Child.{Child}
use Rattle.kom_lang.specs.declared.kind.Place.{Place}
use Rattle.kom_lang.specs.declared.kind.PortDecl.{PortDecl}
use Rattle.kom_lang.specs.declared.kind.VarDecl.{VarDecl}
use Rattle.kom_lang.specs.declared.kind.SlotDecl.{SlotDecl}
use Rattle.kom_lang.specs.declared.kind.ChannelDecl.{ChannelDecl}
use Rattle.kom_lang.specs.declared.stmt.Handler.{Handler}
use Rattle.kom_lang.specs.declared.stmt.On.{On}
use Rattle.kom_lang.specs.declared.stmt.On.TheVariants as handles
use Rattle.kom_lang.specs.declared.stmt.Stmt.{Stmt}
use Rattle.kom_lang.specs.declared.stmt.Stmt.TheVariants as stmt
use Rattle.kom_lang.specs.declared.stmt.Target.TheVariants as target
use Rattle.kom_system.specs.declared.parts.ExprPart.{Number, Name, It, Neg', Not', Pair', more_of-ExprPart}
use Rattle.kom_system.specs.declared.parts.ExprPart.TheVariants as e
use Rattle.kom_system.specs.declared.parts.StmtPart.{out-StmtPart}
use Rattle.kom_system.specs.Contents.{Contents}
use Rattle.kom_rules.specs.Compute.{computing}
use Rattle.kom_rules.specs.Names as names
use Rattle.kom_rules.specs.Names.{names_of, number_in, is_among, each_once}
use Rattle.kom_rules.specs.Spaces.{event_names, port_type_names, event_number, port_type_number, component_number, event_rows, port_rows, attribute_names, var_spots, slot_named, type_in, parameters}
use Rattle.kom_rules.specs.Walks.{One, after, max_levels}
use Rattle.kom_resolve.specs.Resolved.{resolved, kind_value, root_value, child_value, port_value, var_value, slot_value, end_value, test_value, channel_value, handler_value, on_value, block_value, row_value, stmt_value, set_value, expr_in, expr_value, attributes_of_it, target_value, port_number, slot_number, channel_number, handler_number, port_number_at}
use Rattle.kom_written.specs.Unplaced.{spot, expr_part, target_part, block_part, on_part, handler_part, child_part, port_part, slot_part, var_part, end_part, test_part, channel_part, component_part, root_part, unplaced}
use Rattle.kom_unplaced.proofs.Lists.{got, mapped_same, map_same, option_same, spots_same}
use Rattle.kom_unplaced.proofs.Names.{port_names_same, var_names_same, slot_names_same, channel_names_same, handler_names_same, slot_named_same, parameters_same, event_names_same, port_type_names_same, event_number_same, port_type_number_same, component_number_same, event_rows_same, port_rows_same, attribute_names_same, type_in_same}
use Rattle.kom_unplaced.proofs.Exprs.{one_part, opened, after_same}

-- ---- expressions

module _ (vars attrs scope : List names.Name) where
  of_neg : (x : ExprPart) → expr_value vars attrs scope (e.Neg x) ≡ expr.Neg (expr_value vars attrs scope x)
  unfolding computing
  of_neg x = refl

  of_not : (x : ExprPart) → expr_value vars attrs scope (e.Not x) ≡ expr.Not (expr_value vars attrs scope x)
  unfolding computing
  of_not x = refl

  of_pair : (b : Binary) (x y : ExprPart) → expr_value vars attrs scope (e.Pair b x y) ≡ expr.Pair b (expr_value vars attrs scope x) (expr_value vars attrs scope y)
  unfolding computing
  of_pair b x y = refl

  value_kept : (x : ExprPart) → expr_value vars attrs scope (expr_part x) ≡ expr_value vars attrs scope x
  value_kept (Number n) = refl
  value_kept (Name s) = refl
  value_kept (It a s) = refl
  value_kept (Neg' p (more_of-ExprPart x r)) = of_neg (expr_part x) ∙ ap expr.Neg (value_kept x)
  value_kept (Not' p (more_of-ExprPart x r)) = of_not (expr_part x) ∙ ap expr.Not (value_kept x)
  value_kept (Pair' b p (more_of-ExprPart x r) q (more_of-ExprPart y r')) =
      of_pair b (expr_part x) (expr_part y) ∙ ap (λ z. expr.Pair b z (expr_value vars attrs scope (expr_part y))) (value_kept x) ∙ ap (λ z. expr.Pair b (expr_value vars attrs scope x) z) (value_kept y)

-- ---- numbers of what a component type declares

module _ (c : ComponentPart) where
  port_same : (s : Spot) → port_number (component_part c) (spot s) ≡ port_number c s
  port_same s = ap (λ ns. number_in ns s.name) (port_names_same c)

  slot_same : (s : Spot) → slot_number (component_part c) (spot s) ≡ slot_number c s
  slot_same s = ap (λ ns. number_in ns s.name) (slot_names_same c)

  channel_same : (s : Spot) → channel_number (component_part c) (spot s) ≡ channel_number c s
  channel_same s = ap (λ ns. number_in ns s.name) (channel_names_same c)

  handler_same : (s : Spot) → handler_number (component_part c) (spot s) ≡ handler_number c s
  handler_same s = ap (λ ns. number_in ns s.name) (handler_names_same c)

  target_same : (t : TargetPart) → target_value (component_part c) (target_part t) ≡ target_value c t
  target_same (to.Own port) = ap target.Own (port_same port)
  target_same (to.Child slot port) = ap (λ n. target.Child n port.name) (slot_same slot)

module _ (P : Parts) where
  abbrev Q : Parts
  Q = unplaced P

  attributes_same : (o : OnPart) → attributes_of_it Q (on_part o) ≡ attributes_of_it P o
  attributes_same (on.Event kind port) = ap (attribute_names Q) (event_number_same P kind) ∙ attribute_names_same P (event_number P kind)
  attributes_same (on.Init ns) = refl
  attributes_same on.Start = refl
  attributes_same on.Stop = refl
  attributes_same (on.Fault slot n) = refl
  attributes_same (on.Dumped slot) = refl

  -- ---- statements

  module _ (c : ComponentPart) (o : OnPart) where
    abbrev d : ComponentPart
    d = component_part c

    abbrev q : OnPart
    q = on_part o

    expr_same : (scope : List names.Name) (x : ExprPart) → expr_in Q d q scope (expr_part x) ≡ expr_in P c o scope x
    expr_same scope x =
        ap (λ vs. expr_value vs (attributes_of_it Q q) scope (expr_part x)) (var_names_same c) ∙ ap (λ ns. expr_value (names_of (var_spots c)) ns scope (expr_part x)) (attributes_same o)
        ∙ value_kept (names_of (var_spots c)) (attributes_of_it P o) scope x

    exprs_same : (scope : List names.Name) (xs : List ExprPart) → map (expr_in Q d q scope) (map expr_part xs) ≡ map (expr_in P c o scope) xs
    exprs_same scope xs = mapped_same (expr_in Q d q scope) (expr_in P c o scope) expr_part xs (expr_same scope)

    set_same : (scope : List names.Name) (n : names.Name) (v w : Expr) → v ≡ w → set_value Q d q scope n v ≡ set_value P c o scope n w
    set_same scope n v w h =
        ap (λ vs. if is_among vs n then stmt.SetVar (number_in vs n) v else stmt.SetLocal (number_in scope n) v) (var_names_same c) ∙ ap (set_value P c o scope n) h

    module _ (levels : ℕ) (below_same : (scope : List names.Name) (block : List StmtPart) → block_value Q d q levels scope (block_part levels block) ≡ block_value P c o levels scope block) where
      abbrev new : List names.Name → One → Stmt
      new scope s = stmt_value Q d q (block_value Q d q levels) scope s

      abbrev old : List names.Name → One → Stmt
      old scope s = stmt_value P c o (block_value P c o levels) scope s

      other_same : (scope : List names.Name) (other : Option (List StmtPart)) → option_map (block_value Q d q levels scope) (option_map (block_part levels) other) ≡ option_map (block_value P c o levels scope) other
      other_same scope other = option_same (block_value Q d q levels scope) (block_value P c o levels scope) (block_part levels) other (below_same scope)

      stmt_same : (scope : List names.Name) (s : One) → new scope (one_part (block_part levels) s) ≡ old scope s
      stmt_same scope (Let n x) = ap (stmt.Let n.name) (expr_same scope x)
      stmt_same scope (Set n x) = set_same scope n.name (expr_in Q d q scope (expr_part x)) (expr_in P c o scope x) (expr_same scope x)
      stmt_same scope (If x block other) =
          ap (λ z. stmt.If z (block_value Q d q levels scope (block_part levels block)) (option_map (block_value Q d q levels scope) (option_map (block_part levels) other))) (expr_same scope x)
          ∙ ap (λ z. stmt.If (expr_in P c o scope x) z (option_map (block_value Q d q levels scope) (option_map (block_part levels) other))) (below_same scope block)
          ∙ ap (λ z. stmt.If (expr_in P c o scope x) (block_value P c o levels scope block) z) (other_same scope other)
      stmt_same scope (While x block) = ap (λ z. stmt.While z (block_value Q d q levels scope (block_part levels block))) (expr_same scope x) ∙ ap (λ z. stmt.While (expr_in P c o scope x) z) (below_same scope block)
      stmt_same scope (Trigger kind xs port) =
          ap (λ z. stmt.Trigger z (map (expr_in Q d q scope) (map expr_part xs)) (port_number d (spot port))) (event_number_same P kind)
          ∙ ap (λ z. stmt.Trigger (event_number P kind) z (port_number d (spot port))) (exprs_same scope xs) ∙ ap (λ z. stmt.Trigger (event_number P kind) (map (expr_in P c o scope) xs) z) (port_same c port)
      stmt_same scope (Answer a kind xs) = ap (λ z. stmt.Answer z (map (expr_in Q d q scope) (map expr_part xs))) (event_number_same P kind) ∙ ap (λ z. stmt.Answer (event_number P kind) z) (exprs_same scope xs)
      stmt_same scope (Create slot kind xs) =
          ap (λ z. stmt.Create z (component_number Q (spot kind)) (map (expr_in Q d q scope) (map expr_part xs))) (slot_same c slot)
          ∙ ap (λ z. stmt.Create (slot_number c slot) z (map (expr_in Q d q scope) (map expr_part xs))) (component_number_same P kind) ∙ ap (λ z. stmt.Create (slot_number c slot) (component_number P kind) z) (exprs_same scope xs)
      stmt_same scope (CreateFromState slot kind a) = ap (λ z. stmt.CreateFromState z (component_number Q (spot kind))) (slot_same c slot) ∙ ap (λ z. stmt.CreateFromState (slot_number c slot) z) (component_number_same P kind)
      stmt_same scope (Start s) = ap stmt.Start (slot_same c s)
      stmt_same scope (Stop s) = ap stmt.Stop (slot_same c s)
      stmt_same scope (Destroy s) = ap stmt.Destroy (slot_same c s)
      stmt_same scope (Dump s) = ap stmt.Dump (slot_same c s)
      stmt_same scope (Hold s) = ap stmt.Hold (channel_same c s)
      stmt_same scope (Resume s) = ap stmt.Resume (channel_same c s)
      stmt_same scope (Subscribe s) = ap stmt.Subscribe (handler_same c s)
      stmt_same scope (Unsubscribe s) = ap stmt.Unsubscribe (handler_same c s)
      stmt_same scope (Unplug wire side) = ap (λ z. stmt.Unplug z side) (channel_same c wire)
      stmt_same scope (Plug wire side t) = ap (λ z. stmt.Plug z side (target_value d (target_part t))) (channel_same c wire) ∙ ap (λ z. stmt.Plug (channel_number c wire) side z) (target_same c t)
      stmt_same scope (Fail n a) = refl
      stmt_same scope (Escalate a) = refl

      row_same : (scope : List names.Name) (block : List StmtPart) → row_value Q d q (block_value Q d q levels) scope (block_part (suc levels) block) ≡ row_value P c o (block_value P c o levels) scope block
      row_same scope [] = refl
      row_same scope (s ∷ rest) =
          let one : One = out-StmtPart s in
          ap (λ x. new scope x ∷ row_value Q d q (block_value Q d q levels) (after scope x) (block_part (suc levels) rest)) (opened (block_part levels) one)
          ∙ ap (λ x. x ∷ row_value Q d q (block_value Q d q levels) (after scope (one_part (block_part levels) one)) (block_part (suc levels) rest)) (stmt_same scope one)
          ∙ ap (λ ns. old scope one ∷ row_value Q d q (block_value Q d q levels) ns (block_part (suc levels) rest)) (after_same (block_part levels) scope one)
          ∙ ap (λ ys. old scope one ∷ ys) (row_same (after scope one) rest)

    block_same : (levels : ℕ) (scope : List names.Name) (block : List StmtPart) → block_value Q d q levels scope (block_part levels block) ≡ block_value P c o levels scope block
    block_same zero scope block = refl
    block_same (suc levels) scope block = row_same levels (λ ns b. block_same levels ns b) scope block

  -- ---- component types

  child_same : (x : ChildPart) → child_value Q (child_part x) ≡ child_value P x
  child_same x = ap (λ n. made x.args n) (component_number_same P x.kind) where
    made : List ℤ → ℕ → Child
    made args n = record { kind = n; args = args }

  module _ (c : ComponentPart) where
    on_same : (o : OnPart) → on_value Q (component_part c) (on_part o) ≡ on_value P c o
    on_same (on.Event kind port) = ap (λ n. handles.Event n (port_number (component_part c) (spot port))) (event_number_same P kind) ∙ ap (λ n. handles.Event (event_number P kind) n) (port_same c port)
    on_same (on.Init ns) = ap handles.Init (spots_same ns)
    on_same on.Start = refl
    on_same on.Stop = refl
    on_same (on.Fault slot n) = refl
    on_same (on.Dumped slot) = refl

    abbrev made_handler : names.Name → Bool → On → List Stmt → Handler
    made_handler n is_off o block = record { name = n; on = o; off = is_off; block = block }

    handler_of : (levels : ℕ) (h : HandlerPart)
        → made_handler h.name.name h.off (on_value Q (component_part c) (on_part h.on)) (block_value Q (component_part c) (on_part h.on) levels (each_once (names_of (parameters (on_part h.on)))) (block_part levels h.block))
        ≡ made_handler h.name.name h.off (on_value P c h.on) (block_value P c h.on levels (each_once (names_of (parameters h.on))) h.block)
    handler_of levels h =
        ap (λ o. made_handler h.name.name h.off o (block_value Q (component_part c) (on_part h.on) levels (each_once (names_of (parameters (on_part h.on)))) (block_part levels h.block))) (on_same h.on)
        ∙ ap (λ ns. made_handler h.name.name h.off (on_value P c h.on) (block_value Q (component_part c) (on_part h.on) levels (each_once ns) (block_part levels h.block))) (parameters_same h.on)
        ∙ ap (made_handler h.name.name h.off (on_value P c h.on)) (block_same c h.on levels (each_once (names_of (parameters h.on))) h.block)

    abbrev made_place : Option ℕ → ℕ → Option Place
    made_place s n = Some (record { slot = s; port = n })

    port_at_same : (slot port : Spot) → port_number_at Q (component_part c) (spot slot) (spot port) ≡ port_number_at P c slot port
    port_at_same slot port = ap (λ s. option_map_or (λ t. port_number t (spot port)) (option_and_then (type_in Q) s) 0) (slot_named_same c slot) ∙ by (slot_named c slot) where
      typed : (o : Option ComponentPart) → option_map_or (λ t. port_number t (spot port)) (option_map component_part o) 0 ≡ option_map_or (λ t. port_number t port) o 0
      typed None = refl
      typed (Some t) = port_same t port

      by : (s : Option SlotPart) → option_map_or (λ t. port_number t (spot port)) (option_and_then (type_in Q) (option_map slot_part s)) 0 ≡ option_map_or (λ t. port_number t port) (option_and_then (type_in P) s) 0
      by None = refl
      by (Some s) = ap (λ t. option_map_or (λ x. port_number x (spot port)) t 0) (type_in_same P s) ∙ typed (type_in P s)

    end_same : (p : EndPart) → end_value Q (component_part c) (end_part p) ≡ end_value P c p
    end_same end.Free = refl
    end_same (end.Own port) = ap (made_place None) (port_same c port)
    end_same (end.Child slot port) = ap (λ n. made_place (Some n) (port_number_at Q (component_part c) (spot slot) (spot port))) (slot_same c slot) ∙ ap (made_place (Some (slot_number c slot))) (port_at_same slot port)

    abbrev made_test : Op → ℤ → ℕ → ℕ → Test
    made_test op i k a = record { kind = k; attr = a; op = op; number = i }

    test_same : (t : TestPart) → test_value Q (test_part t) ≡ test_value P t
    test_same t =
        ap (λ k. made_test t.op t.number k (number_in (attribute_names Q k) t.attr.name)) (event_number_same P t.kind)
        ∙ ap (λ ns. made_test t.op t.number (event_number P t.kind) (number_in ns t.attr.name)) (attribute_names_same P (event_number P t.kind))

    tests_same : (ts : List TestPart) → map (test_value Q) (map test_part ts) ≡ map (test_value P) ts
    tests_same ts = mapped_same (test_value Q) (test_value P) test_part ts test_same

    abbrev made_channel : names.Name → ℕ → Option Place → Option Place → List Test → List Test → ChannelDecl
    made_channel n t p m ps ms = record { name = n; port = t; plus = p; minus = m; plus_when = ps; minus_when = ms }

    channel_value_same : (k : ChannelPart) → channel_value Q (component_part c) (channel_part k) ≡ channel_value P c k
    channel_value_same k =
        ap (λ z. made_channel k.name.name z (end_value Q (component_part c) (end_part k.plus)) (end_value Q (component_part c) (end_part k.minus)) (map (test_value Q) (map test_part k.plus_when)) (map (test_value Q) (map test_part k.minus_when))) (port_type_number_same P k.port)
        ∙ ap (λ z. made_channel k.name.name (port_type_number P k.port) z (end_value Q (component_part c) (end_part k.minus)) (map (test_value Q) (map test_part k.plus_when)) (map (test_value Q) (map test_part k.minus_when))) (end_same k.plus)
        ∙ ap (λ z. made_channel k.name.name (port_type_number P k.port) (end_value P c k.plus) z (map (test_value Q) (map test_part k.plus_when)) (map (test_value Q) (map test_part k.minus_when))) (end_same k.minus)
        ∙ ap (λ z. made_channel k.name.name (port_type_number P k.port) (end_value P c k.plus) (end_value P c k.minus) z (map (test_value Q) (map test_part k.minus_when))) (tests_same k.plus_when)
        ∙ ap (λ z. made_channel k.name.name (port_type_number P k.port) (end_value P c k.plus) (end_value P c k.minus) (map (test_value P) k.plus_when) z) (tests_same k.minus_when)

    abbrev made_port : PortPart → ℕ → PortDecl
    made_port p n = record { name = p.name.name; port = n; provided = p.provided }

    abbrev made_slot : SlotPart → Option Child → SlotDecl
    made_slot s o = record { name = s.name.name; child = o }

    abbrev made_kind : List PortDecl → List VarDecl → List SlotDecl → List ChannelDecl → List Handler → Kind
    made_kind ps vs ss ks hs = record { name = c.name.name; ports = ps; vars = vs; slots = ss; channels = ks; handlers = hs }

    kind_same : kind_value Q (component_part c) ≡ kind_value P c
    kind_same =
        ap (λ z. made_kind z (map var_value (map var_part c.vars)) (map (slot_value Q) (map slot_part c.slots)) (map (channel_value Q (component_part c)) (map channel_part c.channels)) (map (handler_value Q (component_part c)) (map handler_part c.handlers)))
        (mapped_same (port_value Q) (port_value P) port_part c.ports (λ p. ap (made_port p) (port_type_number_same P p.port)))
        ∙ ap (λ z. made_kind (map (port_value P) c.ports) z (map (slot_value Q) (map slot_part c.slots)) (map (channel_value Q (component_part c)) (map channel_part c.channels)) (map (handler_value Q (component_part c)) (map handler_part c.handlers)))
        (mapped_same var_value var_value var_part c.vars (λ v. refl))
        ∙ ap (λ z. made_kind (map (port_value P) c.ports) (map var_value c.vars) z (map (channel_value Q (component_part c)) (map channel_part c.channels)) (map (handler_value Q (component_part c)) (map handler_part c.handlers)))
        (mapped_same (slot_value Q) (slot_value P) slot_part c.slots (λ s. ap (made_slot s) (option_same (child_value Q) (child_value P) child_part s.child child_same)))
        ∙ ap (λ z. made_kind (map (port_value P) c.ports) (map var_value c.vars) (map (slot_value P) c.slots) z (map (handler_value Q (component_part c)) (map handler_part c.handlers)))
        (mapped_same (channel_value Q (component_part c)) (channel_value P c) channel_part c.channels channel_value_same)
        ∙ ap (λ z. made_kind (map (port_value P) c.ports) (map var_value c.vars) (map (slot_value P) c.slots) (map (channel_value P c) c.channels) z)
        (mapped_same (handler_value Q (component_part c)) (handler_value P c) handler_part c.handlers (handler_of max_levels))

  -- ---- the system

  abbrev no_root : Child
  no_root = record { kind = 0; args = [] }

  root_same : root_value Q ≡ root_value P
  root_same = ap (λ o. option_map_or (λ (r : RootPart). child_value Q r.child) o no_root) (got root_part P.roots 0) ∙ by (slice_get P.roots 0) where
    by : (o : Option RootPart) → option_map_or (λ (r : RootPart). child_value Q r.child) (option_map root_part o) no_root ≡ option_map_or (λ (r : RootPart). child_value P r.child) o no_root
    by None = refl
    by (Some r) = child_same r.child

  abbrev made : List EventRow → List PortRow → List Kind → Child → List names.Name → List (List names.Name) → List names.Name → Contents
  made es ps ks r ens ans pns = record { declarations = record { events = es; ports = ps; kinds = ks; root = r }; event_names = ens; attr_names = ans; port_names = pns; version = P.version }

  abbrev lists_of : Parts → ℕ → List (List names.Name)
  lists_of R n = map (attribute_names R) (range_with_len 0 n)

  pub value_same : resolved Q ≡ resolved P
  value_same =
      ap (λ z. made z (port_rows Q) (map (kind_value Q) Q.components) (root_value Q) (event_names Q) (lists_of Q (length z)) (port_type_names Q)) (event_rows_same P)
      ∙ ap (λ z. made (event_rows P) z (map (kind_value Q) Q.components) (root_value Q) (event_names Q) (lists_of Q (length (event_rows P))) (port_type_names Q)) (port_rows_same P)
      ∙ ap (λ z. made (event_rows P) (port_rows P) z (root_value Q) (event_names Q) (lists_of Q (length (event_rows P))) (port_type_names Q)) (mapped_same (kind_value Q) (kind_value P) component_part P.components kind_same)
      ∙ ap (λ z. made (event_rows P) (port_rows P) (map (kind_value P) P.components) z (event_names Q) (lists_of Q (length (event_rows P))) (port_type_names Q)) root_same
      ∙ ap (λ z. made (event_rows P) (port_rows P) (map (kind_value P) P.components) (root_value P) z (lists_of Q (length (event_rows P))) (port_type_names Q)) (event_names_same P)
      ∙ ap (λ z. made (event_rows P) (port_rows P) (map (kind_value P) P.components) (root_value P) (event_names P) z (port_type_names Q)) (map_same (attribute_names Q) (attribute_names P) (range_with_len 0 (length (event_rows P))) (attribute_names_same P))
      ∙ ap (λ z. made (event_rows P) (port_rows P) (map (kind_value P) P.components) (root_value P) (event_names P) (lists_of P (length (event_rows P))) z) (port_type_names_same P)
