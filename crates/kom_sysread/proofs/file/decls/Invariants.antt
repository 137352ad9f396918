use Rattle.std.proofs.Common.{◌≡◌, length}
use Rattle.kom_sysread.specs.Reading as spec
use Rattle.kom_sysread.proofs.file.decls.Given as goal

abbrev pub invariant-loop-reader : goal.invariant-loop-reader
invariant-loop-reader l = spec.decls l.two (spec.no_decls l.two l.end) l.fn.reader ≡ spec.decls l.two l.parts l.reader

abbrev pub decreases-loop-reader : goal.decreases-loop-reader
decreases-loop-reader l = length l.reader
