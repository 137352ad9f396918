use Rattle.kom_ancestors.proofs.Passing.{own_are_enough, all_passed}
use Rattle.kom_ancestors.proofs.attributes.steps_of.Goals as goal

pub all-requires : goal.all-requires
all-requires c = rw (c.as_slice-2.ensures, c.as_slice-3.ensures) (own_are_enough c.args.parts.now c.in_ok-parents.parents c.in_ok-own.own c.in_ok-parents.ensures c.in_ok-own.ensures)

pub returns : goal.returns
returns c k = all_passed c.args.parts.now c.in_ok-parents.parents c.in_ok-own.own c.in_ok-steps.steps c.in_ok-parents.ensures c.in_ok-own.ensures (rw (c.as_slice-2.ensures, c.as_slice-3.ensures) at c.in_ok-steps.ensures) k
