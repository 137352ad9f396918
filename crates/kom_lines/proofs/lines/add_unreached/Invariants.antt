use Rattle.std.proofs.Common.{◌≡◌, ◌∷◌, [], ◌++◌, codes, take}
use Rattle.std.specs.List.{flat_map}
use Rattle.kom_record.specs.Trace.{number, indented}
use Rattle.kom_lines.proofs.lines.add_unreached.Given as goal

abbrev pub invariant-loop-i : goal.invariant-loop-i
invariant-loop-i l = l.text ≡ l.fn.text ++ flat_map (λ q. indented (codes "unreached" ++ number q) ++ 10 ∷ []) (take l.i l.places)
