-- The statements of a handler in a syntax tree that breaks no rule.
use Rattle.std.proofs.Common.{◌≡◌, ℕ, zero, suc, ◌==◌, Bool, true, false, not, ◌&&◌, if◌then◌else◌, List, [], ◌∷◌, ◌++◌, map, length, Some, None, slice_get, ℤ, pos, negsuc, min, nat_le, nat_lt, refl, sym, ap, ◌∙◌, arith, subst}
use Rattle.std.specs.Prelude.{Contains}
use Rattle.std.specs.List.{flat_map}
use Rattle.std.specs.Option.{option_map, option_map_or}
use Rattle.std.proofs.lemmas.Bool.{le-leb, lt-ltb}
use Rattle.std.proofs.lemmas.List.{length-map}
use Rattle.std.proofs.lemmas.Option.{slice_get-get_or, slice_get_within}
use Rattle.kom_base.specs.declared.numbers.Dir.{Dir}
use Rattle.kom_events.specs.Kin.{attributes}
use Rattle.kom_events.specs.Ports.{passes}
use Rattle.kom_lang.specs.declared.expr.Expr.{Expr}
use Rattle.kom_lang.specs.declared.stmt.Stmt.{Stmt, Stmt-F, out-Stmt}
use Rattle.kom_lang.specs.declared.stmt.Stmt.TheVariants as stmt
use Rattle.kom_lang.specs.declared.stmt.Stmt.TheOpen as open_stmt
use Rattle.kom_lang.specs.Declarations.{kind_of}
use Rattle.kom_lang.specs.Declarations as lang
use Rattle.kom_system.specs.Fitting.{arity, takes_at}
use Rattle.kom_system.specs.Statements.{Within, Here, InIf, InElse, InWhile, StatementFits, statement_fits, event_leaves, answer_fits, target_fits, subscribes_to, outwards}
use Rattle.kom_system.specs.Statements as system
use Rattle.kom_system.specs.declared.parts.Spot.{Spot}
use Rattle.kom_system.specs.declared.parts.StmtPart.{StmtPart, out-StmtPart}
use Rattle.kom_system.specs.declared.parts.StmtPart.TheOpen.{Let, Set, If, While, Trigger, Answer, Create, CreateFromState, Start, Stop, Destroy, Dump, Hold, Resume, Unplug, Plug, Subscribe, Unsubscribe, Fail, Escalate}
use Rattle.kom_system.specs.declared.parts.TargetPart.{TargetPart}
use Rattle.kom_system.specs.declared.parts.TargetPart.TheVariants as to
use Rattle.kom_system.specs.declared.parts.OnPart.{OnPart}
use Rattle.kom_system.specs.declared.parts.OnPart.TheVariants as on
use Rattle.kom_system.specs.declared.parts.ChannelPart.{ChannelPart}
use Rattle.kom_system.specs.declared.parts.ComponentPart.{ComponentPart}
use Rattle.kom_system.specs.declared.parts.Parts.{Parts}
use Rattle.kom_rules.specs.Names.{Name, names_of, number_in, is_among, at_if}
use Rattle.kom_rules.specs.Spaces as spaces
use Rattle.kom_rules.specs.Spaces.{event_number, port_type_number, component_number, event_rows, port_rows, port_spots, var_spots, slot_spots, channel_spots, handler_spots, port_named, channel_named, handler_named}
use Rattle.kom_rules.specs.Walks.{One, Standing, after, standing, with_inside, in_row}
use Rattle.kom_rules.specs.Declaring.{unknown_in_one, unknown_in_on, unknown_event, unknown_port, unknown_slot, unknown_channel, unknown_handler, unknown_component, unknown_target}
use Rattle.kom_rules.specs.Fitting.{wrong_create, wrong_count, is_of_type, takes_end}
use Rattle.kom_rules.specs.Handling.{subscribed_init, init_named, kept_inside, stays, answer_stays, miscounted, wrong_values, no_state, no_question, no_fault, misplugged, is_event, is_dumped, is_fault}
use Rattle.kom_resolve.specs.Resolved.{kind_value, port_value, var_value, slot_value, channel_value, handler_value, on_value, stmt_value, row_value, block_value, target_value, fault_number, expr_in, port_number, slot_number, channel_number, handler_number}
use Rattle.kom_accept.proofs.Lists.{first, second, first_empty, second_empty, not_at, not_true, both, number_known, mapped_at, says_at}
use Rattle.kom_accept.proofs.Kept.{Keeps}
use Rattle.kom_accept.proofs.Components.{declared, there, kind_known, counts_fit, own_port, takes_ok_in, inits_same}

-- ---- what holds of each standing statement

abbrev pub Each : (Standing → Type 0) → List Standing → Type 0
Each Q [] = Unit {0}
Each Q (x ∷ xs) = Q x × Each Q xs

each_first : (Q : Standing → Type 0) (xs ys : List Standing) → Each Q (xs ++ ys) → Each Q xs
each_first Q [] ys all = tt
each_first Q (x ∷ xs) ys all = (all.0, each_first Q xs ys all.1)

each_second : (Q : Standing → Type 0) (xs ys : List Standing) → Each Q (xs ++ ys) → Each Q ys
each_second Q [] ys all = all
each_second Q (x ∷ xs) ys all = each_second Q xs ys all.1

pub each_none : (f : Standing → List ℕ) (xs : List Standing) → flat_map f xs ≡ [] → Each (λ x. f x ≡ []) xs
each_none f [] e = tt
each_none f (x ∷ xs) e = (first_empty (f x) (flat_map f xs) e, each_none f xs (second_empty (f x) (flat_map f xs) e))

pub each_and : (Q R : Standing → Type 0) (xs : List Standing) → Each Q xs → Each R xs → Each (λ x. Q x × R x) xs
each_and Q R [] q r = tt
each_and Q R (x ∷ xs) q r = ((q.0, r.0), each_and Q R xs q.1 r.1)

pub each_more : (Q R : Standing → Type 0) (xs : List Standing) → ((x : Standing) → Q x → R x) → Each Q xs → Each R xs
each_more Q R [] h q = tt
each_more Q R (x ∷ xs) h q = (h x q.0, each_more Q R xs h q.1)

-- a statement that breaks none of the rules
pub record Sound (P : Parts) (c : ComponentPart) (o : OnPart) (x : Standing) : Type 0 where
  pub named : unknown_in_one P c x.scope x.stmt ≡ []
  pub counted : wrong_create P c o x.stmt ≡ []
  pub subscribed : subscribed_init P c o x.stmt ≡ []
  pub leaves : kept_inside P c o x.stmt ≡ []
  pub values : miscounted P c o x.stmt ≡ []
  pub state : no_state P c o x.stmt ≡ []
  pub plugged : misplugged P c o x.stmt ≡ []
  pub question : no_question P c o x.stmt ≡ []
  pub fault : no_fault P c o x.stmt ≡ []

fault_small : (n : ℤ) → nat_le (fault_number n) 899 ≡ true
fault_small (pos n) = le-leb (min n 899) 899 (omega arith)
fault_small (negsuc n) = refl

-- ---- what a handler handles, by the tree and by the system

dumped_same : (P : Parts) (c : ComponentPart) (o : OnPart) → system.is_dumped (on_value P c o) ≡ is_dumped o
dumped_same P c (on.Event kind port) = refl
dumped_same P c (on.Init spots) = refl
dumped_same P c on.Start = refl
dumped_same P c on.Stop = refl
dumped_same P c (on.Fault slot number) = refl
dumped_same P c (on.Dumped slot) = refl

fault_same : (P : Parts) (c : ComponentPart) (o : OnPart) → lang.is_fault (on_value P c o) ≡ is_fault o
fault_same P c (on.Event kind port) = refl
fault_same P c (on.Init spots) = refl
fault_same P c on.Start = refl
fault_same P c on.Stop = refl
fault_same P c (on.Fault slot number) = refl
fault_same P c (on.Dumped slot) = refl

-- the blocks in a statement
abbrev then_of : Stmt-F Stmt → List Stmt
then_of (open_stmt.If e block other) = block
then_of (open_stmt.While e block) = block
then_of _ = []

abbrev else_of : Stmt-F Stmt → List Stmt
else_of (open_stmt.If e block (Some other)) = other
else_of _ = []

abbrev then_part : (List Name → List StmtPart → List Stmt) → List Name → One → List Stmt
then_part below scope (If e block other) = below scope block
then_part below scope (While e block) = below scope block
then_part below scope _ = []

abbrev else_part : (List Name → List StmtPart → List Stmt) → List Name → One → List Stmt
else_part below scope (If e block (Some other)) = below scope other
else_part below scope _ = []

-- nothing stands in an empty block
nowhere : (x : Stmt) → Within x [] → ⊥
nowhere x (Here block h) = omega (arith, h.1)
nowhere x (InIf block e inner other h w) = omega (arith, h.1)
nowhere x (InElse block e inner other h w) = omega (arith, h.1)
nowhere x (InWhile block e inner h w) = omega (arith, h.1)

module _ (P : Parts) (K : Keeps P) (n : ℕ) (c : ComponentPart) (at : slice_get P.components n ≡ Some c) (o : OnPart) (u_on : unknown_in_on P c o ≡ []) where
  abbrev fits_now : Stmt → Bool
  fits_now s = statement_fits (declared P) (kind_value P c) (on_value P c o) (out-Stmt s)

  abbrev test : Stmt-F Stmt → Bool
  test = statement_fits (declared P) (kind_value P c) (on_value P c o)

  slot_there : (slot : Spot) → unknown_slot c slot ≡ [] → nat_lt (slot_number c slot) (length (map (slot_value P) c.slots)) ≡ true
  slot_there slot u =
      let s = there (λ x. x.name) c.slots slot u in
      lt-ltb (slot_number c slot) (length (map (slot_value P) c.slots)) (omega (arith, slice_get_within c.slots (slot_number c slot) s.0 s.1, length-map c.slots (slot_value P)))

  channel_there : (wire : Spot) → unknown_channel c wire ≡ [] → nat_lt (channel_number c wire) (length (map (channel_value P c) c.channels)) ≡ true
  channel_there wire u =
      let s = there (λ x. x.name) c.channels wire u in
      lt-ltb (channel_number c wire) (length (map (channel_value P c) c.channels)) (omega (arith, slice_get_within c.channels (channel_number c wire) s.0 s.1, length-map c.channels (channel_value P c)))

  leaves_ok : (kind port : Spot) (count : ℕ) → unknown_port c port ≡ [] → stays P c port kind ≡ [] → wrong_values P kind count ≡ []
      → option_map_or (event_leaves (declared P) (event_number P kind) count) (slice_get (map (port_value P) c.ports) (port_number c port)) false ≡ true
  leaves_ok kind port count u s w =
      let p = own_port P K n c at port u in
      let k = event_number P kind in
      let out = passes (event_rows P) (port_rows P) (port_type_number P p.0.port) (outwards p.0.provided) k in
      ap (λ q. option_map_or (event_leaves (declared P) k count) q false) (mapped_at (port_value P) c.ports (port_number c port) p.0 p.1)
      ∙ both out (count == attributes (event_rows P) k)
      (not_true out (not_at (not out) kind.at (says_at (λ q. at_if (not (passes (event_rows P) (port_rows P) (port_type_number P q.port) (outwards q.provided) k)) kind.at) (port_named c port) p.0 s p.1)))
      (not_true (count == attributes (event_rows P) k) (not_at (not (count == attributes (event_rows P) k)) kind.at w))

  answer_ok : (q : OnPart) (a : ℕ) (kind : Spot) (count : ℕ) → unknown_in_on P c q ≡ [] → at_if (not (is_event q)) a ≡ [] → answer_stays P c q kind ≡ [] → wrong_values P kind count ≡ []
      → answer_fits (declared P) (kind_value P c) (event_number P kind) count (on_value P c q) ≡ true
  answer_ok (on.Event handled port) a kind count u e s w = leaves_ok kind port count (second_empty (unknown_event P handled) (unknown_port c port) u) s w
  answer_ok (on.Init spots) a kind count u e s w = absurd cc
  answer_ok on.Start a kind count u e s w = absurd cc
  answer_ok on.Stop a kind count u e s w = absurd cc
  answer_ok (on.Fault slot number) a kind count u e s w = absurd cc
  answer_ok (on.Dumped slot) a kind count u e s w = absurd cc

  created : (slot kind : Spot) (count : ℕ) → unknown_slot c slot ++ unknown_component P kind ≡ [] → wrong_count P kind count ≡ []
      → nat_lt (slot_number c slot) (length (map (slot_value P) c.slots)) && (nat_lt (component_number P kind) (length (declared P).kinds) && count == arity (kind_of (declared P) (component_number P kind))) ≡ true
  created slot kind count u w =
      both (nat_lt (slot_number c slot) (length (map (slot_value P) c.slots))) _ (slot_there slot (first_empty (unknown_slot c slot) (unknown_component P kind) u))
      (both (nat_lt (component_number P kind) (length (declared P).kinds)) _ (kind_known P K kind (second_empty (unknown_slot c slot) (unknown_component P kind) u))
      (counts_fit P K kind count (second_empty (unknown_slot c slot) (unknown_component P kind) u) w))

  target_ok : (x : ChannelPart) (wire : Spot) (e : Dir) (t : TargetPart) → channel_named c wire ≡ Some x → unknown_target c t ≡ [] → misplugged P c o (Plug wire e t) ≡ []
      → target_fits (kind_value P c) (port_type_number P x.port) e (target_value c t) ≡ true
  target_ok x wire e (to.Own port) h u m =
      let p = own_port P K n c at port u in
      let said = says_at (λ q. at_if (not (is_of_type x q && takes_end e q false)) port.at) (port_named c port) p.0
      (says_at (λ k. option_map_or (λ q. at_if (not (is_of_type k q && takes_end e q false)) port.at) (port_named c port) []) (channel_named c wire) x m h) p.1 in
      let good = not_true (is_of_type x p.0 && takes_end e p.0 false) (not_at (not (is_of_type x p.0 && takes_end e p.0 false)) port.at said) in
      ap (λ q. option_map_or (takes_at (port_type_number P x.port) e false) q false) (mapped_at (port_value P) c.ports (port_number c port) p.0 p.1)
      ∙ takes_ok_in P x p.0 e false (first (is_of_type x p.0) (takes_end e p.0 false) good) (second (is_of_type x p.0) (takes_end e p.0 false) good)
  target_ok x wire e (to.Child slot port) h u m = slot_there slot u

  plugged_ok : (wire : Spot) (e : Dir) (t : TargetPart) → unknown_channel c wire ++ unknown_target c t ≡ [] → misplugged P c o (Plug wire e t) ≡ []
      → option_map_or (λ k. target_fits (kind_value P c) k.port e (target_value c t)) (slice_get (map (channel_value P c) c.channels) (channel_number c wire)) false ≡ true
  plugged_ok wire e t u m =
      let x = there (λ k. k.name) c.channels wire (first_empty (unknown_channel c wire) (unknown_target c t) u) in
      ap (λ q. option_map_or (λ k. target_fits (kind_value P c) k.port e (target_value c t)) q false) (mapped_at (channel_value P c) c.channels (channel_number c wire) x.0 x.1)
      ∙ target_ok x.0 wire e t x.1 (second_empty (unknown_channel c wire) (unknown_target c t) u) m

  subscribed_ok : (h : Spot) → unknown_handler c h ≡ [] → init_named c h ≡ [] → subscribes_to (kind_value P c) (handler_number c h) ≡ true
  subscribed_ok h u i =
      let x = there (λ y. y.name) c.handlers h u in
      let other : spaces.is_init x.0.on ≡ false = sym (ap (λ q. option_map_or (λ y. spaces.is_init y.on) q false) x.1) ∙ not_at (option_map_or (λ y. spaces.is_init y.on) (handler_named c h) false) h.at i in
      ap (λ q. option_map_or (λ y. not (lang.is_init y.on)) q false) (mapped_at (handler_value P c) c.handlers (handler_number c h) x.0 x.1)
      ∙ ap not (inits_same P c x.0.on ∙ other)

  set_ok : (scope : List Name) (q : Name) (e : Expr) (b : Bool) → is_among (names_of (var_spots c)) q ≡ b
      → fits_now (if b then stmt.SetVar (number_in (names_of (var_spots c)) q) e else stmt.SetLocal (number_in scope q) e) ≡ true
  set_ok scope q e true h =
      ap test (stmt.outs-SetVar (number_in (names_of (var_spots c)) q) e)
      ∙ lt-ltb (number_in (names_of (var_spots c)) q) (length (kind_value P c).vars)
      (omega (arith, number_known (names_of (var_spots c)) q h, length-map (var_spots c) (λ s. s.name), length-map c.vars (λ v. v.name), length-map c.vars var_value))
  set_ok scope q e false h = ap test (stmt.outs-SetLocal (number_in scope q) e)

  fits_one : (below : List Name → List StmtPart → List Stmt) (scope : List Name) (s : One) → Sound P c o (record { scope = scope; stmt = s }) → fits_now (stmt_value P c o below scope s) ≡ true
  fits_one below scope (Let q e) h = ap test (stmt.outs-Let q.name (expr_in P c o scope e))
  fits_one below scope (Set q e) h = set_ok scope q.name (expr_in P c o scope e) (is_among (names_of (var_spots c)) q.name) refl
  fits_one below scope (If e block other) h = ap test (stmt.outs-If (expr_in P c o scope e) (below scope block) (option_map (below scope) other))
  fits_one below scope (While e block) h = ap test (stmt.outs-While (expr_in P c o scope e) (below scope block))
  fits_one below scope (Trigger kind es port) h =
      ap test (stmt.outs-Trigger (event_number P kind) (map (expr_in P c o scope) es) (port_number c port))
      ∙ ap (λ m. option_map_or (event_leaves (declared P) (event_number P kind) m) (slice_get (map (port_value P) c.ports) (port_number c port)) false) (length-map es (expr_in P c o scope))
      ∙ leaves_ok kind port (length es) (second_empty (unknown_event P kind) (unknown_port c port) h.named) h.leaves h.values
  fits_one below scope (Answer a kind es) h =
      ap test (stmt.outs-Answer (event_number P kind) (map (expr_in P c o scope) es))
      ∙ ap (λ m. answer_fits (declared P) (kind_value P c) (event_number P kind) m (on_value P c o)) (length-map es (expr_in P c o scope))
      ∙ answer_ok o a kind (length es) u_on h.question h.leaves h.values
  fits_one below scope (Create slot kind es) h =
      ap test (stmt.outs-Create (slot_number c slot) (component_number P kind) (map (expr_in P c o scope) es))
      ∙ ap (λ m. nat_lt (slot_number c slot) (length (map (slot_value P) c.slots)) && (nat_lt (component_number P kind) (length (declared P).kinds) && m == arity (kind_of (declared P) (component_number P kind)))) (length-map es (expr_in P c o scope))
      ∙ created slot kind (length es) h.named h.counted
  fits_one below scope (CreateFromState slot kind a) h =
      ap test (stmt.outs-CreateFromState (slot_number c slot) (component_number P kind))
      ∙ both (nat_lt (slot_number c slot) (length (map (slot_value P) c.slots))) _ (slot_there slot (first_empty (unknown_slot c slot) (unknown_component P kind) h.named))
      (both (nat_lt (component_number P kind) (length (declared P).kinds)) _ (kind_known P K kind (second_empty (unknown_slot c slot) (unknown_component P kind) h.named))
      (dumped_same P c o ∙ not_true (is_dumped o) (not_at (not (is_dumped o)) a h.state)))
  fits_one below scope (Start slot) h = ap test (stmt.outs-Start (slot_number c slot)) ∙ slot_there slot h.named
  fits_one below scope (Stop slot) h = ap test (stmt.outs-Stop (slot_number c slot)) ∙ slot_there slot h.named
  fits_one below scope (Destroy slot) h = ap test (stmt.outs-Destroy (slot_number c slot)) ∙ slot_there slot h.named
  fits_one below scope (Dump slot) h = ap test (stmt.outs-Dump (slot_number c slot)) ∙ slot_there slot h.named
  fits_one below scope (Hold wire) h = ap test (stmt.outs-Hold (channel_number c wire)) ∙ channel_there wire h.named
  fits_one below scope (Resume wire) h = ap test (stmt.outs-Resume (channel_number c wire)) ∙ channel_there wire h.named
  fits_one below scope (Unplug wire e) h = ap test (stmt.outs-Unplug (channel_number c wire) e) ∙ channel_there wire h.named
  fits_one below scope (Plug wire e t) h = ap test (stmt.outs-Plug (channel_number c wire) e (target_value c t)) ∙ plugged_ok wire e t h.named h.plugged
  fits_one below scope (Subscribe x) h = ap test (stmt.outs-Subscribe (handler_number c x)) ∙ subscribed_ok x h.named h.subscribed
  fits_one below scope (Unsubscribe x) h = ap test (stmt.outs-Unsubscribe (handler_number c x)) ∙ subscribed_ok x h.named h.subscribed
  fits_one below scope (Fail number a) h = ap test (stmt.outs-Fail (fault_number number)) ∙ fault_small number
  fits_one below scope (Escalate a) h = ap test stmt.outs-Escalate ∙ (fault_same P c o ∙ not_true (is_fault o) (not_at (not (is_fault o)) a h.fault))

  -- ---- statements in blocks

  abbrev pub IsSound : Standing → Type 0
  IsSound = Sound P c o

  then_now : (below : List Name → List StmtPart → List Stmt) (scope : List Name) (s : One) → then_of (out-Stmt (stmt_value P c o below scope s)) ≡ then_part below scope s
  then_now below scope (Let q e) = ap then_of (stmt.outs-Let q.name (expr_in P c o scope e))
  then_now below scope (Set q e) = by (is_among (names_of (var_spots c)) q.name) where
    by : (b : Bool) → then_of (out-Stmt (if b then stmt.SetVar (number_in (names_of (var_spots c)) q.name) (expr_in P c o scope e) else stmt.SetLocal (number_in scope q.name) (expr_in P c o scope e))) ≡ []
    by true = ap then_of (stmt.outs-SetVar (number_in (names_of (var_spots c)) q.name) (expr_in P c o scope e))
    by false = ap then_of (stmt.outs-SetLocal (number_in scope q.name) (expr_in P c o scope e))
  then_now below scope (If e block other) = ap then_of (stmt.outs-If (expr_in P c o scope e) (below scope block) (option_map (below scope) other))
  then_now below scope (While e block) = ap then_of (stmt.outs-While (expr_in P c o scope e) (below scope block))
  then_now below scope (Trigger kind es port) = ap then_of (stmt.outs-Trigger (event_number P kind) (map (expr_in P c o scope) es) (port_number c port))
  then_now below scope (Answer a kind es) = ap then_of (stmt.outs-Answer (event_number P kind) (map (expr_in P c o scope) es))
  then_now below scope (Create slot kind es) = ap then_of (stmt.outs-Create (slot_number c slot) (component_number P kind) (map (expr_in P c o scope) es))
  then_now below scope (CreateFromState slot kind a) = ap then_of (stmt.outs-CreateFromState (slot_number c slot) (component_number P kind))
  then_now below scope (Start slot) = ap then_of (stmt.outs-Start (slot_number c slot))
  then_now below scope (Stop slot) = ap then_of (stmt.outs-Stop (slot_number c slot))
  then_now below scope (Destroy slot) = ap then_of (stmt.outs-Destroy (slot_number c slot))
  then_now below scope (Dump slot) = ap then_of (stmt.outs-Dump (slot_number c slot))
  then_now below scope (Hold wire) = ap then_of (stmt.outs-Hold (channel_number c wire))
  then_now below scope (Resume wire) = ap then_of (stmt.outs-Resume (channel_number c wire))
  then_now below scope (Unplug wire e) = ap then_of (stmt.outs-Unplug (channel_number c wire) e)
  then_now below scope (Plug wire e t) = ap then_of (stmt.outs-Plug (channel_number c wire) e (target_value c t))
  then_now below scope (Subscribe x) = ap then_of (stmt.outs-Subscribe (handler_number c x))
  then_now below scope (Unsubscribe x) = ap then_of (stmt.outs-Unsubscribe (handler_number c x))
  then_now below scope (Fail number a) = ap then_of (stmt.outs-Fail (fault_number number))
  then_now below scope (Escalate a) = ap then_of stmt.outs-Escalate

  else_now : (below : List Name → List StmtPart → List Stmt) (scope : List Name) (s : One) → else_of (out-Stmt (stmt_value P c o below scope s)) ≡ else_part below scope s
  else_now below scope (Let q e) = ap else_of (stmt.outs-Let q.name (expr_in P c o scope e))
  else_now below scope (Set q e) = by (is_among (names_of (var_spots c)) q.name) where
    by : (b : Bool) → else_of (out-Stmt (if b then stmt.SetVar (number_in (names_of (var_spots c)) q.name) (expr_in P c o scope e) else stmt.SetLocal (number_in scope q.name) (expr_in P c o scope e))) ≡ []
    by true = ap else_of (stmt.outs-SetVar (number_in (names_of (var_spots c)) q.name) (expr_in P c o scope e))
    by false = ap else_of (stmt.outs-SetLocal (number_in scope q.name) (expr_in P c o scope e))
  else_now below scope (If e block None) = ap else_of (stmt.outs-If (expr_in P c o scope e) (below scope block) None)
  else_now below scope (If e block (Some other)) = ap else_of (stmt.outs-If (expr_in P c o scope e) (below scope block) (Some (below scope other)))
  else_now below scope (While e block) = ap else_of (stmt.outs-While (expr_in P c o scope e) (below scope block))
  else_now below scope (Trigger kind es port) = ap else_of (stmt.outs-Trigger (event_number P kind) (map (expr_in P c o scope) es) (port_number c port))
  else_now below scope (Answer a kind es) = ap else_of (stmt.outs-Answer (event_number P kind) (map (expr_in P c o scope) es))
  else_now below scope (Create slot kind es) = ap else_of (stmt.outs-Create (slot_number c slot) (component_number P kind) (map (expr_in P c o scope) es))
  else_now below scope (CreateFromState slot kind a) = ap else_of (stmt.outs-CreateFromState (slot_number c slot) (component_number P kind))
  else_now below scope (Start slot) = ap else_of (stmt.outs-Start (slot_number c slot))
  else_now below scope (Stop slot) = ap else_of (stmt.outs-Stop (slot_number c slot))
  else_now below scope (Destroy slot) = ap else_of (stmt.outs-Destroy (slot_number c slot))
  else_now below scope (Dump slot) = ap else_of (stmt.outs-Dump (slot_number c slot))
  else_now below scope (Hold wire) = ap else_of (stmt.outs-Hold (channel_number c wire))
  else_now below scope (Resume wire) = ap else_of (stmt.outs-Resume (channel_number c wire))
  else_now below scope (Unplug wire e) = ap else_of (stmt.outs-Unplug (channel_number c wire) e)
  else_now below scope (Plug wire e t) = ap else_of (stmt.outs-Plug (channel_number c wire) e (target_value c t))
  else_now below scope (Subscribe x) = ap else_of (stmt.outs-Subscribe (handler_number c x))
  else_now below scope (Unsubscribe x) = ap else_of (stmt.outs-Unsubscribe (handler_number c x))
  else_now below scope (Fail number a) = ap else_of (stmt.outs-Fail (fault_number number))
  else_now below scope (Escalate a) = ap else_of stmt.outs-Escalate

  -- the statement of a row at a number, with what is sound in it
  pub record StandsIn (levels : ℕ) (y : Stmt) : Type 0 where
    pub scope : List Name
    pub one : One
    pub is : y ≡ stmt_value P c o (block_value P c o levels) scope one
    pub sound : Each IsSound (with_inside (standing levels) scope one)

  in_the_row : (levels : ℕ) (scope : List Name) (parts : List StmtPart) (k : ℕ) (y : Stmt) → Each IsSound (in_row (standing levels) scope parts) → slice_get (row_value P c o (block_value P c o levels) scope parts) k ≡ Some y → StandsIn levels y
  in_the_row levels scope [] k y all e = absurd cc
  in_the_row levels scope (s ∷ rest) zero y all e =
      let same : stmt_value P c o (block_value P c o levels) scope (out-StmtPart s) ≡ y = cc in
      record { scope = scope; one = out-StmtPart s; is = sym same; sound = each_first IsSound (with_inside (standing levels) scope (out-StmtPart s)) (in_row (standing levels) (after scope (out-StmtPart s)) rest) all }
  in_the_row levels scope (s ∷ rest) (suc k) y all e =
      in_the_row levels (after scope (out-StmtPart s)) rest k y (each_second IsSound (with_inside (standing levels) scope (out-StmtPart s)) (in_row (standing levels) (after scope (out-StmtPart s)) rest) all) e

  contained : (xs : List Stmt) (y : Stmt) (h : Contains xs y) → slice_get xs h.0 ≡ Some y
  contained xs y h = slice_get-get_or xs h.0 y h.1 ∙ ap Some h.2

  then_sound : (levels : ℕ) (scope : List Name) (s : One) (x : Stmt) → Each IsSound (with_inside (standing levels) scope s)
      → ((q : List Name) (block : List StmtPart) → Each IsSound (standing levels q block) → Within x (block_value P c o levels q block) → fits_now x ≡ true)
      → Within x (then_part (block_value P c o levels) scope s) → fits_now x ≡ true
  then_sound levels scope (If e block None) x all go w = go scope block all.1 w
  then_sound levels scope (If e block (Some other)) x all go w = go scope block (each_first IsSound (standing levels scope block) (standing levels scope other) all.1) w
  then_sound levels scope (While e block) x all go w = go scope block all.1 w
  then_sound levels scope _ x all go w = absurd (nowhere x w)

  else_sound : (levels : ℕ) (scope : List Name) (s : One) (x : Stmt) → Each IsSound (with_inside (standing levels) scope s)
      → ((q : List Name) (block : List StmtPart) → Each IsSound (standing levels q block) → Within x (block_value P c o levels q block) → fits_now x ≡ true)
      → Within x (else_part (block_value P c o levels) scope s) → fits_now x ≡ true
  else_sound levels scope (If e block (Some other)) x all go w = go scope other (each_second IsSound (standing levels scope block) (standing levels scope other) all.1) w
  else_sound levels scope _ x all go w = absurd (nowhere x w)

  pub in_block : (levels : ℕ) (scope : List Name) (parts : List StmtPart) (x : Stmt) → Each IsSound (standing levels scope parts) → Within x (block_value P c o levels scope parts) → fits_now x ≡ true
  in_block zero scope parts x all w = absurd (nowhere x w)
  in_block (suc levels) scope parts x all (Here block h) =
      let q = in_the_row levels scope parts h.0 x all (contained _ x h) in
      ap fits_now q.is ∙ fits_one (block_value P c o levels) q.scope q.one q.sound.0
  in_block (suc levels) scope parts x all (InIf block e inner other h w) =
      let q = in_the_row levels scope parts h.0 (stmt.If e inner other) all (contained _ (stmt.If e inner other) h) in
      let same : inner ≡ then_part (block_value P c o levels) q.scope q.one = sym (ap then_of (stmt.outs-If e inner other)) ∙ ap (λ y. then_of (out-Stmt y)) q.is ∙ then_now (block_value P c o levels) q.scope q.one in
      then_sound levels q.scope q.one x q.sound (λ r b good v. in_block levels r b x good v) (subst (Within x) same w)
  in_block (suc levels) scope parts x all (InElse block e inner other h w) =
      let q = in_the_row levels scope parts h.0 (stmt.If e inner (Some other)) all (contained _ (stmt.If e inner (Some other)) h) in
      let same : other ≡ else_part (block_value P c o levels) q.scope q.one = sym (ap else_of (stmt.outs-If e inner (Some other))) ∙ ap (λ y. else_of (out-Stmt y)) q.is ∙ else_now (block_value P c o levels) q.scope q.one in
      else_sound levels q.scope q.one x q.sound (λ r b good v. in_block levels r b x good v) (subst (Within x) same w)
  in_block (suc levels) scope parts x all (InWhile block e inner h w) =
      let q = in_the_row levels scope parts h.0 (stmt.While e inner) all (contained _ (stmt.While e inner) h) in
      let same : inner ≡ then_part (block_value P c o levels) q.scope q.one = sym (ap then_of (stmt.outs-While e inner)) ∙ ap (λ y. then_of (out-Stmt y)) q.is ∙ then_now (block_value P c o levels) q.scope q.one in
      then_sound levels q.scope q.one x q.sound (λ r b good v. in_block levels r b x good v) (subst (Within x) same w)
