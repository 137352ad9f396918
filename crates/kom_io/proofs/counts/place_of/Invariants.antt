use Rattle.std.proofs.Common.{◌≡◌, drop}
use Rattle.std.specs.List.{position_from}
use Rattle.std.specs.Str.{bytes_eq}
use Rattle.kom_io.specs.Names.{place_of}
use Rattle.kom_io.proofs.counts.place_of.Given as goal

-- the search goes on from here
abbrev pub invariant-loop-i : goal.invariant-loop-i
invariant-loop-i l = position_from (λ n. bytes_eq n l.name) l.i (drop l.i l.names) ≡ place_of l.names l.name
