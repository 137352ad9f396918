use Rattle.std.proofs.Common.{◌≡◌, length}
use Rattle.kom_sysread.specs.Reading as spec
use Rattle.kom_sysread.proofs.decls.lines.Given as goal

abbrev pub invariant-loop-reader : goal.invariant-loop-reader
invariant-loop-reader l = spec.lines (spec.no_lines l.fn.name) l.fn.reader ≡ spec.lines l.port l.reader

abbrev pub decreases-loop-reader : goal.decreases-loop-reader
decreases-loop-reader l = length l.reader
