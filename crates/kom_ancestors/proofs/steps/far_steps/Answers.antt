use Rattle.std.proofs.Common.{◌≤◌, ◌∙◌, ap, length, arith}
use Rattle.kom_ancestors.proofs.Leading.{one_leads, twice_leads, twice_count}
use Rattle.kom_ancestors.proofs.steps.far_steps.Goals as goal

pub far-init : goal.far-init
far-init c = record {
  count = ap length c.in_ok-table.ensures;
  some = omega arith;
  leads = one_leads c.args.parents.now c.in_ok-table.table c.in_ok-table.ensures;
}

pub far-preserved : goal.far-preserved
far-preserved c = record {
  count = twice_count c.far.table c.in_ok-table-2.table (rw (c.as_slice.ensures, c.as_slice-in-far.ensures) at c.in_ok-table-2.ensures) ∙ c.far.invariant.count;
  some = let h : 1 ≤ c.far.steps = c.far.invariant.some in omega arith;
  leads = twice_leads c.args.parents.now c.far.table c.in_ok-table-2.table c.far.steps c.far.invariant.leads (rw (c.as_slice.ensures, c.as_slice-in-far.ensures) at c.in_ok-table-2.ensures);
}

pub returns : goal.returns
returns c = record { steps = c.far.steps; enough = omega arith; count = c.far.invariant.count; leads = c.far.invariant.leads }
