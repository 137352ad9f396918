use Rattle.std.proofs.Common.{◌≡◌, ◌∷◌, [], ◌++◌, take}
use Rattle.std.specs.List.{flat_map, enumerate_from}
use Rattle.kom_record.specs.Trace.{release_line}
use Rattle.kom_lines.proofs.lines.add_releases.Given as goal

abbrev pub invariant-loop-i : goal.invariant-loop-i
invariant-loop-i l = l.text ≡ l.fn.text ++ flat_map (λ r. release_line l.names.event_names l.names.declarations r ++ 10 ∷ []) (take l.i (enumerate_from 0 l.released))
