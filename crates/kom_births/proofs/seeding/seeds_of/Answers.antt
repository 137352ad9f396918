use Rattle.kom_births.proofs.Numbered.{seeds_all, seeds_more}
use Rattle.std.proofs.Common.{arith}
use Rattle.kom_births.proofs.seeding.seeds_of.Goals as goal

pub loop-k-preserved : goal.loop-k-preserved
loop-k-preserved c = seeds_more c.args.system.now.declarations c.args.number c.args.sprouts.now c.loop-k.k c.loop-k.seeds.items c.push.new.self.items c.in_ok-seed_of.field-0 c.loop-k-test.true c.in_ok-push.ensures.items c.in_ok-seed_of.ensures c.loop-k.invariant

pub returns : goal.returns
returns c = seeds_all c.args.system.now.declarations c.args.number c.args.sprouts.now c.loop-k.k c.loop-k.seeds.items (omega (arith, c.loop-k-test.false)) c.loop-k.invariant
