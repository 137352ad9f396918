-- The statements behind `else`.
use Rattle.std.specs.Prelude.{ℕ, List, [], Option, Some, None}
use Rattle.kom_system.specs.declared.parts.StmtPart.{StmtPart}
use Rattle.kom_rules.specs.Names.{Name}
use Rattle.kom_rules.specs.Walks.{Standing, standing}

abbrev pub else_of : ℕ → List Name → Option (List StmtPart) → List Standing
else_of levels scope None = []
else_of levels scope (Some block) = standing levels scope block
