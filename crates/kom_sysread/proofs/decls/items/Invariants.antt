use Rattle.std.proofs.Common.{◌≡◌, length}
use Rattle.kom_sysread.specs.Reading as spec
use Rattle.kom_sysread.proofs.decls.items.Given as goal

abbrev pub invariant-loop-reader : goal.invariant-loop-reader
invariant-loop-reader l = spec.items l.two (spec.no_items l.fn.name) l.fn.reader ≡ spec.items l.two l.component l.reader

abbrev pub decreases-loop-reader : goal.decreases-loop-reader
decreases-loop-reader l = length l.reader
