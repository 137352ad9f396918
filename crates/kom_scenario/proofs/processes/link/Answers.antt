use Rattle.std.proofs.Common.{◌<◌, length, ◌∙◌, refl, arith}
use Rattle.kom_scenario.specs.Named.{process_number}
use Rattle.kom_scenario.specs.Rules.{named_twice, process_unknown}
use Rattle.kom_scenario.proofs.Least.{along_onto}
use Rattle.kom_scenario.proofs.Fitting.{process_more}
use Rattle.kom_scenario.proofs.processes.link.Goals as goal

pub loop-k-init : goal.loop-k-init
unfolding process_number
loop-k-init c = record { names = λ q. rw c.new-names.ensures refl; twice = refl; unknown = refl }

pub loop-k-preserved : goal.loop-k-preserved
loop-k-preserved c =
    let xs = c.args.sources.now in
    let less : c.loop-k.k < length xs = omega arith in
    let p = c.index-sources-k.result in
    let is = c.index-sources-k.is in
    record {
      names = λ q. c.in_ok-note.ensures q ∙ rw (c.loop-k.invariant.names q, process_more xs c.loop-k.k p q less is) refl;
      twice = rw (along_onto named_twice xs c.loop-k.k p less is) (c.earlier-twice.ensures _ _ c.loop-k.invariant.twice (c.named_twice.ensures _ c.loop-k.invariant.names));
      unknown = rw (along_onto process_unknown xs c.loop-k.k p less is) (c.earlier-unknown.ensures _ _ c.loop-k.invariant.unknown (c.process_unknown.ensures _ c.loop-k.invariant.names));
    }
