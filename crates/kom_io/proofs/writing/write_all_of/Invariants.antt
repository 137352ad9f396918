use Rattle.std.proofs.Common.{length, take, ◌-◌, ◌≡◌, ◌≤◌, ◌++◌}
use Rattle.std.specs.Option.{option_map}
use Rattle.kom_io.proofs.writing.write_all_of.Given as goal

-- the front of the bytes was added
abbrev pub invariant-loop-done : goal.invariant-loop-done
invariant-loop-done g l = record {
  within : l.done ≤ length l.bytes;
  added : g.K.Sink.written l.sink ≡ option_map (λ w. w ++ take l.done l.bytes) (g.K.Sink.written l.fn.sink);
  counts : g.K.Sink.count l.fn.sink ≤ g.K.Sink.count l.sink;
}

abbrev pub decreases-loop-done : goal.decreases-loop-done
decreases-loop-done g l = length l.bytes - l.done
