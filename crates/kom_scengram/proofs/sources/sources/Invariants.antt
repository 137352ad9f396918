use Rattle.std.proofs.Common.{◌≡◌, [], length}
use Rattle.kom_scengram.specs.Reading as spec
use Rattle.kom_scengram.proofs.sources.sources.Given as goal

abbrev pub invariant-loop-reader : goal.invariant-loop-reader
invariant-loop-reader l = spec.sources [] l.fn.reader ≡ spec.sources l.parts l.reader

abbrev pub decreases-loop-reader : goal.decreases-loop-reader
decreases-loop-reader l = length l.reader
