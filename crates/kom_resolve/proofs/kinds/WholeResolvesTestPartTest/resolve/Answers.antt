use Rattle.std.proofs.Common.{ap, length, arith}
use Rattle.kom_rules.specs.Spaces.{event_number}
use Rattle.kom_resolve.proofs.kinds.WholeResolvesTestPartTest.resolve.Goals as goal

pub number_among-requires : goal.number_among-requires
number_among-requires c = let s = c.args.self.now in omega (arith, ap length c.attributes.ensures, s.counted.attributes (event_number s.parts.now c.args.part.now.kind))
