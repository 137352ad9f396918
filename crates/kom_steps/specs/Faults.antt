-- The numbers of the faults that statements give.
use Rattle.std.specs.Prelude.{◌≡◌, Bool, true, nat_le, List}
use Rattle.kom_lang.specs.declared.stmt.Stmt.{Stmt, Stmt-F, out-Stmt}
use Rattle.kom_lang.specs.declared.stmt.Stmt.TheOpen.{Fail}
use Rattle.kom_system.specs.Statements.{Within}

-- one level of a statement: the number of a `fail` is at most 899
abbrev pub fails_within : Stmt-F Stmt → Bool
fails_within (Fail n) = nat_le n 899
fails_within o = true

-- each `fail` in the statements, and in blocks inside them, has such a number
abbrev pub FailsFit : List Stmt → Type 0
FailsFit block = (s : Stmt) → Within s block → fails_within (out-Stmt s) ≡ true
