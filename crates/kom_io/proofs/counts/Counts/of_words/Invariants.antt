use Rattle.std.proofs.Common.{◌≡◌, take, map}
use Rattle.kom_io.proofs.counts.Counts.of_words.Given as goal

-- the names so far, without faults
abbrev pub invariant-loop-i : goal.invariant-loop-i
invariant-loop-i l = record {
  names : l.counts.names ≡ take l.i l.words;
  faults : l.counts.faults.items ≡ map (λ _. 0) (take l.i l.words);
}
