use Rattle.std.proofs.Common.{subst}
use Rattle.std.specs.Arc.{arc_value}
use Rattle.kom_begins.specs.Begun.{IsOpening}
use Rattle.kom_begins.proofs.Begun.{run_begun}
use Rattle.kom_begins.proofs.begins.begin.Goals as goal

pub returns-clause-run : goal.returns-clause-run
returns-clause-run c =
    let o = c.in_ok-opening.opening in
    run_begun c.args.plan (arc_value c.args.system) o.state o.env o.sets.busy o.sets.runnable o.sets.marks o.counts c.join.result c.requires
    (subst (λ s. IsOpening s.declarations c.args.plan o.state o.env o.sets.busy o.sets.runnable o.sets.marks o.counts) c.deref.ensures c.in_ok-opening.ensures) c.join.ensures
