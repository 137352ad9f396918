-- Statements of a tree as they are written.
use Rattle.std.proofs.Common.{◌≡◌, ℕ, ℤ, pos, negsuc, zero, suc, min, ◌≤◌, Bool, true, false, not, List, [], ◌∷◌, ◌++◌, map, Option, Some, None, refl, sym, ap, ◌∙◌, arith, subst}
use Rattle.std.specs.Prelude.{codes, if◌then◌else◌, int_lt}
use Rattle.std.specs.List.{flat_map}
use Rattle.std.specs.Option.{option_map}
use Rattle.std.proofs.lemmas.Grind.{common_steps}
use Rattle.kom_base.specs.declared.numbers.Dir.{Dir}
use Rattle.kom_base.specs.declared.numbers.Dir.TheVariants.{Plus, Minus}
use Rattle.kom_lang.specs.declared.expr.Expr.{Expr}
use Rattle.kom_lang.specs.declared.stmt.Stmt.{Stmt, Stmt-F, out-Stmt}
use Rattle.kom_lang.specs.declared.stmt.Stmt.TheVariants as stmt
use Rattle.kom_system.specs.declared.parts.Spot.{Spot}
use Rattle.kom_system.specs.declared.parts.ExprPart.{ExprPart}
use Rattle.kom_system.specs.declared.parts.StmtPart.{StmtPart, out-StmtPart}
use Rattle.kom_system.specs.declared.parts.StmtPart.TheOpen.{Let, Set, If, While, Trigger, Answer, Create, CreateFromState, Start, Stop, Destroy, Dump, Hold, Resume, Unplug, Plug, Subscribe, Unsubscribe, Fail, Escalate}
use Rattle.kom_system.specs.declared.parts.TargetPart.{TargetPart}
use Rattle.kom_system.specs.declared.parts.TargetPart.TheVariants as to
use Rattle.kom_system.specs.declared.parts.OnPart.{OnPart}
use Rattle.kom_system.specs.declared.parts.ComponentPart.{ComponentPart}
use Rattle.kom_system.specs.declared.parts.Parts.{Parts}
use Rattle.kom_record.specs.Trace.{Text, direction}
use Rattle.kom_grammar.specs.Words.{end_word}
use Rattle.kom_rules.specs.Names as names
use Rattle.kom_rules.specs.Names.{names_of, number_in, is_among, at_if, with_name, same}
use Rattle.kom_rules.specs.Spaces.{var_spots, item_spots, event_number, component_number}
use Rattle.kom_rules.specs.Walks.{One, Standing, after, inside, with_inside, in_row, standing, in_expr, in_expressions}
use Rattle.kom_rules.specs.Declaring.{unknown_in_on, unknown_in_one, unknown_value, unknown_event, unknown_component, unknown_port, unknown_slot, unknown_channel, unknown_handler, unknown_target, let_clashes, clashes}
use Rattle.kom_rules.specs.Handling.{is_event, it_lacks, no_event, lacked_by_it, large_fault}
use Rattle.kom_resolve.specs.Resolved.{resolved, kind_value, on_value, expr_in, stmt_value, row_value, block_value, target_value, fault_number, port_number, slot_number, channel_number, handler_number}
use Rattle.kom_sysprint.specs.Canonical as text
use Rattle.kom_sysprint.specs.Canonical.{statement_text, statements_text, row_text, target_text}
use Rattle.kom_accept.proofs.Lists.{known, not_at, first_empty, second_empty}
use Rattle.kom_accept.proofs.Kept.{Keeps}
use Rattle.kom_spaced.specs.Spaced.{Written, text_of}
use Rattle.kom_written.specs.Tokens.{word, natural, called, expr_tokens, with_commas, target_tokens, stmt_tokens, stmts_tokens}
use Rattle.kom_written.proofs.Rows.{Each, each_first, each_second}
use Rattle.kom_spelling.proofs.Names.{name_found, var_found, port_found, slot_found, channel_found, handler_found, event_found, kind_found, among_either}
use Rattle.kom_spelling.proofs.Texts.{text-append, list_spelled}
use Rattle.kom_spelling.proofs.Lines.{set_line, if_line, if_else_line, while_line, trigger_line, answer_line, create_line, from_state_line, command_line, unplug_line, plug_line, inside_line, fail_line}
use Rattle.kom_spelling.proofs.Exprs.{spelled, expr_spelled, exprs_spelled}

direction_is : (d : Dir) → direction d ≡ end_word d
direction_is Plus = refl
direction_is Minus = refl

-- a number of a fault that is not too large
fault_is : (n : ℤ) → int_lt (pos 899) n ≡ false → fault_number n ≡ natural n
fault_is (pos n) h = let small : n ≤ 899 = grind (arith, common_steps) in omega arith
fault_is (negsuc n) h = refl

-- what the rules say of a statement
pub record Spellable (P : Parts) (c : ComponentPart) (o : OnPart) (x : Standing) : Type 0 where
  pub named : unknown_in_one P c x.scope x.stmt ≡ []
  pub values : in_expressions (unknown_value c x.scope) (λ a s. []) x.stmt ≡ []
  pub events : no_event P c o x.stmt ≡ []
  pub had : lacked_by_it P c o x.stmt ≡ []
  pub small : large_fault P c o x.stmt ≡ []
  pub new : let_clashes c x.scope x.stmt ≡ []

module _ (P : Parts) (K : Keeps P) (c : ComponentPart) (o : OnPart) (u_on : unknown_in_on P c o ≡ []) where
  abbrev Ok : Standing → Type 0
  Ok = Spellable P c o

  abbrev here : List names.Name → One → Standing
  here scope s = record { scope = scope; stmt = s }

  abbrev value : List names.Name → ExprPart → Expr
  value scope e = expr_in P c o scope e

  -- the only expression of a statement
  single : (scope : List names.Name) (e : ExprPart) → in_expr (unknown_value c scope) (λ a s. []) e ++ [] ≡ [] → in_expr (λ s. []) (λ a s. at_if (not (is_event o)) a) e ++ [] ≡ [] → in_expr (λ s. []) (λ a s. it_lacks P o s) e ++ [] ≡ []
      → spelled P c o scope e ≡ text_of (expr_tokens e)
  single scope e u v w = expr_spelled P K c o u_on scope e (first_empty (in_expr (unknown_value c scope) (λ a s. []) e) [] u) (first_empty (in_expr (λ s. []) (λ a s. at_if (not (is_event o)) a) e) [] v) (first_empty (in_expr (λ s. []) (λ a s. it_lacks P o s) e) [] w)

  -- the values of an event, or the arguments of a component
  several : (scope : List names.Name) (es : List ExprPart) → flat_map (in_expr (unknown_value c scope) (λ a s. [])) es ≡ [] → flat_map (in_expr (λ s. []) (λ a s. at_if (not (is_event o)) a)) es ≡ [] → flat_map (in_expr (λ s. []) (λ a s. it_lacks P o s)) es ≡ []
      → text.separated (codes ", ") (text.expr_text (resolved P) (kind_value P c) (on_value P c o) scope) (map (value scope) es) ≡ text_of (with_commas expr_tokens es)
  several scope es u v w = list_spelled (value scope) (text.expr_text (resolved P) (kind_value P c) (on_value P c o) scope) expr_tokens es (exprs_spelled P K c o u_on scope es u v w)

  target_spelled : (t : TargetPart) → unknown_target c t ≡ [] → target_text (kind_value P c) (target_value c t) ≡ text_of (target_tokens t)
  target_spelled (to.Own port) u = inside_line {a = codes "self"} {n = codes "self"} refl (port_found P c port u)
  target_spelled (to.Child slot port) u = inside_line {b = port.name} {m = port.name} (slot_found P c slot u) refl

  module _ (levels : ℕ)
      (below_spelled : (scope : List names.Name) (block : List StmtPart) → Each Ok (standing levels scope block)
      → statements_text (resolved P) (kind_value P c) (on_value P c o) levels scope (block_value P c o levels scope block) ≡ text_of (stmts_tokens levels block)) where
    abbrev below : List Text → List Stmt → Text
    below = statements_text (resolved P) (kind_value P c) (on_value P c o) levels

    abbrev valued : List names.Name → List StmtPart → List Stmt
    valued = block_value P c o levels

    abbrev printed : List names.Name → Stmt-F Stmt → Text
    printed scope s = statement_text (resolved P) (kind_value P c) (on_value P c o) below scope s

    abbrev Spelled : List names.Name → One → Type 0
    Spelled scope s = printed scope (out-Stmt (stmt_value P c o valued scope s)) ≡ text_of (stmt_tokens (stmts_tokens levels) s)

    set_spelled : (scope : List names.Name) (n : Spot) (e : ExprPart) (b : Bool) → is_among (names_of (var_spots c)) n.name ≡ b → is_among (names_of (var_spots c) ++ scope) n.name ≡ true → spelled P c o scope e ≡ text_of (expr_tokens e)
        → printed scope (out-Stmt (if b then stmt.SetVar (number_in (names_of (var_spots c)) n.name) (value scope e) else stmt.SetLocal (number_in scope n.name) (value scope e))) ≡ text_of (stmt_tokens (stmts_tokens levels) (Set n e))
    set_spelled scope n e true h k l = ap (printed scope) (stmt.outs-SetVar (number_in (names_of (var_spots c)) n.name) (value scope e)) ∙ set_line (expr_tokens e) (var_found P c n.name h) l
    set_spelled scope n e false h k l = ap (printed scope) (stmt.outs-SetLocal (number_in scope n.name) (value scope e)) ∙ set_line (expr_tokens e) (name_found scope n.name (among_either (names_of (var_spots c)) scope n.name k h)) l

    one_spelled : (scope : List names.Name) (s : One) → Ok (here scope s) → Each Ok (inside (standing levels scope) s) → Spelled scope s
    one_spelled scope (Let n e) h all =
        ap (printed scope) (stmt.outs-Let n.name (value scope e)) ∙ ap (λ t. codes "let " ++ t) (set_line (expr_tokens e) refl (single scope e h.values h.events h.had))
    one_spelled scope (Set n e) h all =
        set_spelled scope n e (is_among (names_of (var_spots c)) n.name) refl (known (names_of (var_spots c) ++ scope) n h.named) (single scope e h.values h.events h.had)
    one_spelled scope (If e block None) h all =
        ap (printed scope) (stmt.outs-If (value scope e) (valued scope block) None) ∙ if_line (expr_tokens e) (stmts_tokens levels block) (single scope e h.values h.events h.had) (below_spelled scope block all)
    one_spelled scope (If e block (Some other)) h all =
        ap (printed scope) (stmt.outs-If (value scope e) (valued scope block) (Some (valued scope other)))
        ∙ if_else_line (expr_tokens e) (stmts_tokens levels block) (stmts_tokens levels other) (single scope e h.values h.events h.had) (below_spelled scope block (each_first Ok (standing levels scope block) (standing levels scope other) all))
        (below_spelled scope other (each_second Ok (standing levels scope block) (standing levels scope other) all))
    one_spelled scope (While e block) h all =
        ap (printed scope) (stmt.outs-While (value scope e) (valued scope block)) ∙ while_line (expr_tokens e) (stmts_tokens levels block) (single scope e h.values h.events h.had) (below_spelled scope block all)
    one_spelled scope (Trigger kind es port) h all =
        ap (printed scope) (stmt.outs-Trigger (event_number P kind) (map (value scope) es) (port_number c port))
        ∙ trigger_line (with_commas expr_tokens es) (event_found P K kind (first_empty (unknown_event P kind) (unknown_port c port) h.named)) (port_found P c port (second_empty (unknown_event P kind) (unknown_port c port) h.named)) (several scope es h.values h.events h.had)
    one_spelled scope (Answer a kind es) h all =
        ap (printed scope) (stmt.outs-Answer (event_number P kind) (map (value scope) es)) ∙ answer_line (with_commas expr_tokens es) (event_found P K kind h.named) (several scope es h.values h.events h.had)
    one_spelled scope (Create slot kind es) h all =
        ap (printed scope) (stmt.outs-Create (slot_number c slot) (component_number P kind) (map (value scope) es))
        ∙ create_line (with_commas expr_tokens es) (slot_found P c slot (first_empty (unknown_slot c slot) (unknown_component P kind) h.named)) (kind_found P K kind (second_empty (unknown_slot c slot) (unknown_component P kind) h.named)) (several scope es h.values h.events h.had)
    one_spelled scope (CreateFromState slot kind a) h all =
        ap (printed scope) (stmt.outs-CreateFromState (slot_number c slot) (component_number P kind))
        ∙ from_state_line (slot_found P c slot (first_empty (unknown_slot c slot) (unknown_component P kind) h.named)) (kind_found P K kind (second_empty (unknown_slot c slot) (unknown_component P kind) h.named))
    one_spelled scope (Start x) h all = ap (printed scope) (stmt.outs-Start (slot_number c x)) ∙ command_line (codes "start") (slot_found P c x h.named)
    one_spelled scope (Stop x) h all = ap (printed scope) (stmt.outs-Stop (slot_number c x)) ∙ command_line (codes "stop") (slot_found P c x h.named)
    one_spelled scope (Destroy x) h all = ap (printed scope) (stmt.outs-Destroy (slot_number c x)) ∙ command_line (codes "destroy") (slot_found P c x h.named)
    one_spelled scope (Dump x) h all = ap (printed scope) (stmt.outs-Dump (slot_number c x)) ∙ command_line (codes "dump") (slot_found P c x h.named)
    one_spelled scope (Hold x) h all = ap (printed scope) (stmt.outs-Hold (channel_number c x)) ∙ command_line (codes "hold") (channel_found P c x h.named)
    one_spelled scope (Resume x) h all = ap (printed scope) (stmt.outs-Resume (channel_number c x)) ∙ command_line (codes "resume") (channel_found P c x h.named)
    one_spelled scope (Subscribe x) h all = ap (printed scope) (stmt.outs-Subscribe (handler_number c x)) ∙ command_line (codes "subscribe") (handler_found P c x h.named)
    one_spelled scope (Unsubscribe x) h all = ap (printed scope) (stmt.outs-Unsubscribe (handler_number c x)) ∙ command_line (codes "unsubscribe") (handler_found P c x h.named)
    one_spelled scope (Unplug wire end) h all = ap (printed scope) (stmt.outs-Unplug (channel_number c wire) end) ∙ unplug_line (channel_found P c wire h.named) (direction_is end)
    one_spelled scope (Plug wire end t) h all =
        ap (printed scope) (stmt.outs-Plug (channel_number c wire) end (target_value c t))
        ∙ plug_line (target_tokens t) (channel_found P c wire (first_empty (unknown_channel c wire) (unknown_target c t) h.named)) (direction_is end) (target_spelled t (second_empty (unknown_channel c wire) (unknown_target c t) h.named))
    one_spelled scope (Fail n a) h all = ap (printed scope) (stmt.outs-Fail (fault_number n)) ∙ fail_line (fault_is n (not_at (int_lt (pos 899) n) a h.small))
    one_spelled scope (Escalate a) h all = ap (printed scope) stmt.outs-Escalate

    -- ---- the names in scope behind a statement

    let_new : (scope : List names.Name) (n : Spot) → clashes c scope n ≡ [] → scope ++ n.name ∷ [] ≡ with_name scope n.name
    let_new scope n h = by (is_among scope n.name) (not_at (is_among scope n.name) n.at (first_empty (at_if (is_among scope n.name) n.at) _ h)) where
      by : (b : Bool) → b ≡ false → scope ++ n.name ∷ [] ≡ (if b then scope else scope ++ n.name ∷ [])
      by true h = absurd cc
      by false h = refl

    abbrev next : List names.Name → Stmt-F Stmt → List names.Name
    next scope s = text.after scope s

    after_same : (scope : List names.Name) (s : One) → let_clashes c scope s ≡ [] → next scope (out-Stmt (stmt_value P c o valued scope s)) ≡ after scope s
    after_same scope (Let n e) h = ap (next scope) (stmt.outs-Let n.name (value scope e)) ∙ let_new scope n h
    after_same scope (Set n e) h = by (is_among (names_of (var_spots c)) n.name) where
      by : (b : Bool) → next scope (out-Stmt (if b then stmt.SetVar (number_in (names_of (var_spots c)) n.name) (value scope e) else stmt.SetLocal (number_in scope n.name) (value scope e))) ≡ scope
      by true = ap (next scope) (stmt.outs-SetVar (number_in (names_of (var_spots c)) n.name) (value scope e))
      by false = ap (next scope) (stmt.outs-SetLocal (number_in scope n.name) (value scope e))
    after_same scope (If e block other) h = ap (next scope) (stmt.outs-If (value scope e) (valued scope block) (option_map (valued scope) other))
    after_same scope (While e block) h = ap (next scope) (stmt.outs-While (value scope e) (valued scope block))
    after_same scope (Trigger kind es port) h = ap (next scope) (stmt.outs-Trigger (event_number P kind) (map (value scope) es) (port_number c port))
    after_same scope (Answer a kind es) h = ap (next scope) (stmt.outs-Answer (event_number P kind) (map (value scope) es))
    after_same scope (Create slot kind es) h = ap (next scope) (stmt.outs-Create (slot_number c slot) (component_number P kind) (map (value scope) es))
    after_same scope (CreateFromState slot kind a) h = ap (next scope) (stmt.outs-CreateFromState (slot_number c slot) (component_number P kind))
    after_same scope (Start x) h = ap (next scope) (stmt.outs-Start (slot_number c x))
    after_same scope (Stop x) h = ap (next scope) (stmt.outs-Stop (slot_number c x))
    after_same scope (Destroy x) h = ap (next scope) (stmt.outs-Destroy (slot_number c x))
    after_same scope (Dump x) h = ap (next scope) (stmt.outs-Dump (slot_number c x))
    after_same scope (Hold x) h = ap (next scope) (stmt.outs-Hold (channel_number c x))
    after_same scope (Resume x) h = ap (next scope) (stmt.outs-Resume (channel_number c x))
    after_same scope (Subscribe x) h = ap (next scope) (stmt.outs-Subscribe (handler_number c x))
    after_same scope (Unsubscribe x) h = ap (next scope) (stmt.outs-Unsubscribe (handler_number c x))
    after_same scope (Unplug wire end) h = ap (next scope) (stmt.outs-Unplug (channel_number c wire) end)
    after_same scope (Plug wire end t) h = ap (next scope) (stmt.outs-Plug (channel_number c wire) end (target_value c t))
    after_same scope (Fail n a) h = ap (next scope) (stmt.outs-Fail (fault_number n))
    after_same scope (Escalate a) h = ap (next scope) stmt.outs-Escalate

    -- ---- rows

    row_spelled : (scope : List names.Name) (block : List StmtPart) → Each Ok (in_row (standing levels) scope block)
        → row_text (resolved P) (kind_value P c) (on_value P c o) below scope (row_value P c o valued scope block) ≡ text_of (stmts_tokens (suc levels) block)
    row_spelled scope [] all = refl
    row_spelled scope (s ∷ rest) all =
        let one : One = out-StmtPart s in
        let mine = each_first Ok (with_inside (standing levels) scope one) (in_row (standing levels) (after scope one) rest) all in
        let others = each_second Ok (with_inside (standing levels) scope one) (in_row (standing levels) (after scope one) rest) all in
        let V : Stmt-F Stmt = out-Stmt (stmt_value P c o valued scope one) in
        let R : List Stmt = row_value P c o valued (after scope one) rest in
        let S : List Written = stmt_tokens (stmts_tokens levels) one in
        ap (λ t. t ++ row_text (resolved P) (kind_value P c) (on_value P c o) below (next scope V) R) (one_spelled scope one mine.0 mine.1)
        ∙ ap (λ q. text_of S ++ row_text (resolved P) (kind_value P c) (on_value P c o) below q R) (after_same scope one mine.0.new)
        ∙ ap (λ t. text_of S ++ t) (row_spelled (after scope one) rest others)
        ∙ sym (text-append S (stmts_tokens (suc levels) rest))

  pub block_spelled : (levels : ℕ) (scope : List names.Name) (block : List StmtPart) → Each Ok (standing levels scope block)
      → statements_text (resolved P) (kind_value P c) (on_value P c o) levels scope (block_value P c o levels scope block) ≡ text_of (stmts_tokens levels block)
  block_spelled zero scope block all = refl
  block_spelled (suc levels) scope block all = row_spelled levels (λ q b good. block_spelled levels q b good) scope block all
