use Rattle.std.proofs.Common.{◌≡◌, ◌++◌, take}
use Rattle.std.specs.List.{flat_map}
use Rattle.kom_sysprint.proofs.lists.add_each.Given as goal

abbrev pub invariant-loop-item : goal.invariant-loop-item
invariant-loop-item g l = l.text ≡ l.initial.text ++ flat_map (g.P.Prints.printed l.prints) (take l.item-index l.items)
