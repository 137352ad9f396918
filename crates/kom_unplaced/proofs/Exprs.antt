-- Expressions and statements without their places.
use Rattle.std.proofs.Common.{◌≡◌, ℕ, zero, suc, List, [], ◌∷◌, ◌++◌, map, length, Some, None, refl, ap, ◌∙◌}
use Rattle.std.specs.List.{flat_map}
use Rattle.std.specs.Option.{option_map}
use Rattle.kom_lang.specs.declared.expr.Binary.{Binary}
use Rattle.kom_system.specs.declared.parts.Spot.{Spot}
use Rattle.kom_system.specs.declared.parts.ExprPart.{ExprPart, Number, Name, It, Neg', Not', Pair', more_of-ExprPart}
use Rattle.kom_system.specs.declared.parts.ExprPart.TheVariants as e
use Rattle.kom_system.specs.declared.parts.StmtPart.{StmtPart, out-StmtPart}
use Rattle.kom_system.specs.declared.parts.StmtPart.TheVariants as st
use Rattle.kom_system.specs.declared.parts.StmtPart.TheOpen.{Let, Set, If, While, Trigger, Answer, Create, CreateFromState, Start, Stop, Destroy, Dump, Hold, Resume, Unplug, Plug, Subscribe, Unsubscribe, Fail, Escalate}
use Rattle.kom_system.specs.declared.parts.HandlerPart.{HandlerPart}
use Rattle.kom_rules.specs.Compute.{computing}
use Rattle.kom_rules.specs.Names as names
use Rattle.kom_rules.specs.Names.{names_of, each_once}
use Rattle.kom_rules.specs.Spaces.{parameters}
use Rattle.kom_rules.specs.Walks.{One, Standing, in_expr, in_expressions, after, inside, with_inside, in_row, standing}
use Rattle.kom_written.specs.Unplaced.{spot, expr_part, target_part, stmt_part, block_part, handler_part}
use Rattle.kom_unplaced.proofs.Lists.{AsMany, nothing, both, each, rows}
use Rattle.kom_unplaced.proofs.Names.{parameters_same}

-- ---- expressions

module _ (name name' : Spot → List ℕ) (it it' : ℕ → Spot → List ℕ) (same_name : (s : Spot) → AsMany (name' (spot s)) (name s)) (same_it : (a : ℕ) (s : Spot) → AsMany (it' 0 (spot s)) (it a s)) where
  of_neg : (x : ExprPart) → in_expr name' it' (e.Neg x) ≡ in_expr name' it' x
  unfolding computing
  of_neg x = refl

  of_not : (x : ExprPart) → in_expr name' it' (e.Not x) ≡ in_expr name' it' x
  unfolding computing
  of_not x = refl

  of_pair : (b : Binary) (x y : ExprPart) → in_expr name' it' (e.Pair b x y) ≡ in_expr name' it' x ++ in_expr name' it' y
  unfolding computing
  of_pair b x y = refl

  moved : {a b c : List ℕ} → a ≡ b → AsMany b c → AsMany a c
  moved {a = a} {b = b} {c = c} e h = record { same = ap length e ∙ h.same }

  pub in_expr_same : (x : ExprPart) → AsMany (in_expr name' it' (expr_part x)) (in_expr name it x)
  in_expr_same (Number n) = nothing
  in_expr_same (Name s) = same_name s
  in_expr_same (It a s) = same_it a s
  in_expr_same (Neg' p (more_of-ExprPart x r)) = moved (of_neg (expr_part x)) (in_expr_same x)
  in_expr_same (Not' p (more_of-ExprPart x r)) = moved (of_not (expr_part x)) (in_expr_same x)
  in_expr_same (Pair' b p (more_of-ExprPart x r) q (more_of-ExprPart y r')) = moved (of_pair b (expr_part x) (expr_part y)) (both (in_expr_same x) (in_expr_same y))

-- ---- statements, opened

abbrev pub one_part : (List StmtPart → List StmtPart) → One → One
one_part below (Let n x) = Let (spot n) (expr_part x)
one_part below (Set n x) = Set (spot n) (expr_part x)
one_part below (If x block other) = If (expr_part x) (below block) (option_map below other)
one_part below (While x block) = While (expr_part x) (below block)
one_part below (Trigger kind es port) = Trigger (spot kind) (map expr_part es) (spot port)
one_part below (Answer a kind es) = Answer 0 (spot kind) (map expr_part es)
one_part below (Create slot kind es) = Create (spot slot) (spot kind) (map expr_part es)
one_part below (CreateFromState slot kind a) = CreateFromState (spot slot) (spot kind) 0
one_part below (Start s) = Start (spot s)
one_part below (Stop s) = Stop (spot s)
one_part below (Destroy s) = Destroy (spot s)
one_part below (Dump s) = Dump (spot s)
one_part below (Hold s) = Hold (spot s)
one_part below (Resume s) = Resume (spot s)
one_part below (Subscribe s) = Subscribe (spot s)
one_part below (Unsubscribe s) = Unsubscribe (spot s)
one_part below (Unplug wire d) = Unplug (spot wire) d
one_part below (Plug wire d t) = Plug (spot wire) d (target_part t)
one_part below (Fail n a) = Fail n 0
one_part below (Escalate a) = Escalate 0

pub opened : (below : List StmtPart → List StmtPart) (s : One) → out-StmtPart (stmt_part below s) ≡ one_part below s
opened below (Let n x) = st.outs-Let (spot n) (expr_part x)
opened below (Set n x) = st.outs-Set (spot n) (expr_part x)
opened below (If x block other) = st.outs-If (expr_part x) (below block) (option_map below other)
opened below (While x block) = st.outs-While (expr_part x) (below block)
opened below (Trigger kind es port) = st.outs-Trigger (spot kind) (map expr_part es) (spot port)
opened below (Answer a kind es) = st.outs-Answer 0 (spot kind) (map expr_part es)
opened below (Create slot kind es) = st.outs-Create (spot slot) (spot kind) (map expr_part es)
opened below (CreateFromState slot kind a) = st.outs-CreateFromState (spot slot) (spot kind) 0
opened below (Start s) = st.outs-Start (spot s)
opened below (Stop s) = st.outs-Stop (spot s)
opened below (Destroy s) = st.outs-Destroy (spot s)
opened below (Dump s) = st.outs-Dump (spot s)
opened below (Hold s) = st.outs-Hold (spot s)
opened below (Resume s) = st.outs-Resume (spot s)
opened below (Subscribe s) = st.outs-Subscribe (spot s)
opened below (Unsubscribe s) = st.outs-Unsubscribe (spot s)
opened below (Unplug wire d) = st.outs-Unplug (spot wire) d
opened below (Plug wire d t) = st.outs-Plug (spot wire) d (target_part t)
opened below (Fail n a) = st.outs-Fail n 0
opened below (Escalate a) = st.outs-Escalate 0

pub after_same : (below : List StmtPart → List StmtPart) (scope : List names.Name) (s : One) → after scope (one_part below s) ≡ after scope s
after_same below scope (Let n x) = refl
after_same below scope _ = refl

-- ---- what is said of the expressions of a statement

pub in_expressions_same : (name name' : Spot → List ℕ) (it it' : ℕ → Spot → List ℕ) → ((s : Spot) → AsMany (name' (spot s)) (name s)) → ((a : ℕ) (s : Spot) → AsMany (it' 0 (spot s)) (it a s))
    → (below : List StmtPart → List StmtPart) (s : One) → AsMany (in_expressions name' it' (one_part below s)) (in_expressions name it s)
in_expressions_same name name' it it' h k below s = several s where
  item : (x : ExprPart) → AsMany (in_expr name' it' (expr_part x)) (in_expr name it x)
  item x = in_expr_same name name' it it' h k x

  several : (s : One) → AsMany (in_expressions name' it' (one_part below s)) (in_expressions name it s)
  several (Let n x) = both (item x) nothing
  several (Set n x) = both (item x) nothing
  several (If x block other) = both (item x) nothing
  several (While x block) = both (item x) nothing
  several (Trigger kind es port) = each (in_expr name' it') (in_expr name it) expr_part es item
  several (Answer a kind es) = each (in_expr name' it') (in_expr name it) expr_part es item
  several (Create slot kind es) = each (in_expr name' it') (in_expr name it) expr_part es item
  several _ = nothing

-- ---- standing statements

abbrev here : List names.Name → One → Standing
here scope s = record { scope = scope; stmt = s }

module _ (f g : Standing → List ℕ) (same : (scope : List names.Name) (below : List StmtPart → List StmtPart) (s : One) → AsMany (f (here scope (one_part below s))) (g (here scope s))) where
  abbrev Same : List Standing → List Standing → Type 0
  Same xs ys = AsMany (flat_map f xs) (flat_map g ys)

  module _ (levels : ℕ) (below_same : (scope : List names.Name) (block : List StmtPart) → Same (standing levels scope (block_part levels block)) (standing levels scope block)) where
    inside_same : (scope : List names.Name) (s : One) → Same (inside (standing levels scope) (one_part (block_part levels) s)) (inside (standing levels scope) s)
    inside_same scope (If x block None) = below_same scope block
    inside_same scope (If x block (Some other)) =
        rows f g (standing levels scope (block_part levels block)) (standing levels scope (block_part levels other)) (standing levels scope block) (standing levels scope other) (below_same scope block) (below_same scope other)
    inside_same scope (While x block) = below_same scope block
    inside_same scope _ = nothing

    with_same : (scope : List names.Name) (s : One) → Same (with_inside (standing levels) scope (one_part (block_part levels) s)) (with_inside (standing levels) scope s)
    with_same scope s = both (same scope (block_part levels) s) (inside_same scope s)

    row_same : (scope : List names.Name) (block : List StmtPart) → Same (in_row (standing levels) scope (block_part (suc levels) block)) (in_row (standing levels) scope block)
    row_same scope [] = nothing
    row_same scope (s ∷ rest) =
        let one : One = out-StmtPart s in
        let part : List StmtPart → List StmtPart = block_part levels in
        let r = rows f g (with_inside (standing levels) scope (one_part part one)) (in_row (standing levels) (after scope one) (block_part (suc levels) rest)) (with_inside (standing levels) scope one) (in_row (standing levels) (after scope one) rest)
        (with_same scope one) (row_same (after scope one) rest) in
        record {
          same = ap (λ o. length (flat_map f (with_inside (standing levels) scope o ++ in_row (standing levels) (after scope o) (block_part (suc levels) rest)))) (opened part one)
              ∙ ap (λ q. length (flat_map f (with_inside (standing levels) scope (one_part part one) ++ in_row (standing levels) q (block_part (suc levels) rest)))) (after_same part scope one)
              ∙ r.same;
        }

  pub block_same : (levels : ℕ) (scope : List names.Name) (block : List StmtPart) → Same (standing levels scope (block_part levels block)) (standing levels scope block)
  block_same zero scope block = nothing
  block_same (suc levels) scope block = row_same levels (λ q b. block_same levels q b) scope block

  pub statements_same : (levels : ℕ) (h : HandlerPart) → Same (standing levels (each_once (names_of (parameters (handler_part h).on))) (block_part levels h.block)) (standing levels (each_once (names_of (parameters h.on))) h.block)
  statements_same levels h =
      let b = block_same levels (each_once (names_of (parameters h.on))) h.block in
      record { same = ap (λ ns. length (flat_map f (standing levels (each_once ns) (block_part levels h.block)))) (parameters_same h.on) ∙ b.same }
