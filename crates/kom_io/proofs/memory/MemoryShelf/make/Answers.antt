use Rattle.std.proofs.Common.{ap}
use Rattle.std.specs.Option.{option_map}
use Rattle.kom_io.proofs.Files.{at_file, first_counts}
use Rattle.kom_io.proofs.memory.MemoryShelf.make.Goals as goal

pub returns-clause-files : goal.returns-clause-files
returns-clause-files c n = rw (c.in_ok-counts.ensures.names, c.as_slice.ensures.value) (ap (option_map (λ f. f.1.items)) (at_file c.args.files.items n))

pub returns-clause-counts : goal.returns-clause-counts
returns-clause-counts c n = rw (c.in_ok-counts.ensures.names, c.in_ok-counts.ensures.faults, c.as_slice.ensures.value) (first_counts c.args.files.items n)
