use Rattle.std.proofs.Common.{◌≡◌, take, map}
use Rattle.std.specs.String.{string_bytes}
use Rattle.kom_io.proofs.memory.names_of.Given as goal

-- the names so far, without faults
abbrev pub invariant-loop-file : goal.invariant-loop-file
invariant-loop-file l = record {
  names : l.counts.names ≡ map (λ f. string_bytes f.0) (take l.file-index l.files);
  faults : l.counts.faults.items ≡ map (λ _. 0) (take l.file-index l.files);
}
