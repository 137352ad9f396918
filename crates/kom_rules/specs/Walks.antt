-- What stands in a handler: its statements with the names in scope, and what its expressions name.
use Rattle.std.specs.Prelude.{ℕ, zero, suc, List, [], ◌∷◌, ◌++◌, Some, None}
use Rattle.std.specs.List.{flat_map}
use Rattle.kom_system.specs.declared.parts.Spot.{Spot}
use Rattle.kom_system.specs.declared.parts.ExprPart.{ExprPart, Number, Name, It, Neg', Not', Pair', more_of-ExprPart}
use Rattle.kom_system.specs.declared.parts.StmtPart.{StmtPart, StmtPart-F, out-StmtPart}
use Rattle.kom_system.specs.declared.parts.StmtPart.TheOpen.{Let, Set, If, While, Trigger, Answer, Create}
use Rattle.kom_system.specs.declared.parts.HandlerPart.{HandlerPart}
use Rattle.kom_system.specs.declared.parts.OnPart.{OnPart}
use Rattle.kom_system.specs.declared.parts.ComponentPart.{ComponentPart}
use Rattle.kom_system.specs.declared.parts.Parts.{Parts}
use Rattle.kom_rules.specs.Names as names
use Rattle.kom_rules.specs.Names.{names_of, with_name, each_once}
use Rattle.kom_rules.specs.Spaces.{parameters}

-- ---- expressions

-- what is said of each name and of each attribute of `it` in an expression, from left to right
abbrev pub in_expr : (Spot → List ℕ) → (ℕ → Spot → List ℕ) → ExprPart → List ℕ
in_expr name it (Number n) = []
in_expr name it (Name s) = name s
in_expr name it (It a s) = it a s
in_expr name it (Neg' p (more_of-ExprPart e r)) = in_expr name it e
in_expr name it (Not' p (more_of-ExprPart e r)) = in_expr name it e
in_expr name it (Pair' op p (more_of-ExprPart left r) q (more_of-ExprPart right r')) = in_expr name it left ++ in_expr name it right

abbrev pub One : Type 0
One = StmtPart-F StmtPart

-- the expressions of a statement itself, without those in its blocks
abbrev pub expressions : One → List ExprPart
expressions (Let n e) = e ∷ []
expressions (Set n e) = e ∷ []
expressions (If e block other) = e ∷ []
expressions (While e block) = e ∷ []
expressions (Trigger k es port) = es
expressions (Answer a k es) = es
expressions (Create slot k es) = es
expressions _ = []

abbrev pub in_expressions : (Spot → List ℕ) → (ℕ → Spot → List ℕ) → One → List ℕ
in_expressions name it o = flat_map (in_expr name it) (expressions o)

-- ---- statements

-- a statement with the names in scope where it stands, each once: the parameters first, then those of `let`
pub record Standing : Type 0 where
  pub scope : List names.Name
  pub stmt : One

-- the names in scope behind a statement: one of `let` is in scope to the end of its block
abbrev pub after : List names.Name → One → List names.Name
after scope (Let n e) = with_name scope n.name
after scope _ = scope

-- the statements in the blocks of a statement, where `below` gives those of a block
abbrev pub inside : (List StmtPart → List Standing) → One → List Standing
inside below (If e block None) = below block
inside below (If e block (Some other)) = below block ++ below other
inside below (While e block) = below block
inside below _ = []

-- a statement, and those in its blocks
abbrev pub with_inside : (List names.Name → List StmtPart → List Standing) → List names.Name → One → List Standing
with_inside below scope o = record { scope = scope; stmt = o } ∷ inside (below scope) o

abbrev pub in_row : (List names.Name → List StmtPart → List Standing) → List names.Name → List StmtPart → List Standing
in_row below scope [] = []
in_row below scope (s ∷ rest) = with_inside below scope (out-StmtPart s) ++ in_row below (after scope (out-StmtPart s)) rest

-- the statements of a block and of the blocks inside it, in the order of the text, as deep as so many levels
abbrev pub standing : ℕ → List names.Name → List StmtPart → List Standing
standing zero scope block = []
standing (suc levels) scope block = in_row (standing levels) scope block

-- blocks are nested no deeper in a file
abbrev pub max_levels : ℕ
max_levels = 16

-- the statements of a handler
abbrev pub statements : HandlerPart → List Standing
statements h = standing max_levels (each_once (names_of (parameters h.on))) h.block

-- what is said of each statement of a file, given what its handler handles
abbrev pub of_statements : (Parts → ComponentPart → OnPart → One → List ℕ) → Parts → List ℕ
of_statements says P = flat_map (λ c. flat_map (λ h. flat_map (λ x. says P c h.on x.stmt) (statements h)) c.handlers) P.components
