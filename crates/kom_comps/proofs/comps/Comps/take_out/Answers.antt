use Rattle.std.proofs.Common.{None, sym, ◌∙◌, arith}
use Rattle.kom_comps.proofs.Counting.{has_in, some_is, within_less, changed}
use Rattle.kom_comps.proofs.comps.Comps.take_out.Goals as goal

pub remove-requires : goal.remove-requires
remove-requires c = some_is _ (sym (has_in c.self.inside.members.0 c.self.inside.bound c.args.c _ c.self.view_is) ∙ sym c.contains.ensures ∙ c.if-contains.true)

pub invariant_of-self : goal.invariant_of-self
invariant_of-self c = record {
  counted = omega (arith, c.remove.ensures.len, c.self.invariant.counted);
  rises = c.remove.ensures.rises;
  within = within_less c.self.inside.members.0 c.remove.new.self.0 c.self.inside.bound c.args.c c.remove.ensures.values c.self.invariant.within;
  small = c.self.invariant.small;
  fits = omega (arith, c.remove.ensures.len, c.remove.ensures.spare, c.self.invariant.fits);
}

pub returns-then-contains-clause-each : goal.returns-then-contains-clause-each
returns-then-contains-clause-each c = changed c.self.inside.members.0 c.remove.new.self.0 c.self.inside.bound c.args.c None _ c.self.view_is c.remove.ensures.values
