use Rattle.std.proofs.Common.{◌≡◌, ◌++◌, map, take}
use Rattle.kom_rules.specs.Names.{names_of}
use Rattle.kom_rules.specs.Spaces.{built_in_attributes}
use Rattle.kom_tables.proofs.attributes.own_attributes.Given as goal

abbrev pub invariant-loop-part : goal.invariant-loop-part
invariant-loop-part l = l.own ≡ built_in_attributes ++ map (λ e. names_of e.attrs) (take l.part-index l.part-items)
