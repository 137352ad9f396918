-- The statements without blocks.
use Rattle.std.specs.Prelude.{Bool, true, false}
use Rattle.kom_system.specs.declared.parts.StmtPart.TheOpen.{If, While}
use Rattle.kom_rules.specs.Walks.{One}

abbrev pub is_flat : One → Bool
is_flat (If e block other) = false
is_flat (While e block) = false
is_flat _ = true
