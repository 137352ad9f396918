use Rattle.std.proofs.Common.{◌≤◌, length, refl, ◌∙◌, ap, arith}
use Rattle.std.specs.Prelude.{bytes_eq}
use Rattle.kom_scenario.specs.Named.{kind_number, number_from}
use Rattle.kom_scenario.proofs.Fitting.{number_more_at, take_all}
use Rattle.kom_scenario.proofs.known.kind_names.Goals as goal

pub loop-k-preserved : goal.loop-k-preserved
loop-k-preserved c = λ q.
    c.in_ok-add.ensures q ∙ rw (c.loop-k.invariant q, c.bytes.ensures, number_more_at (bytes_eq q) c.args.system.now.event_names c.loop-k.k c.event_name.result.now c.event_name.ensures) refl

pub returns : goal.returns
unfolding kind_number
returns c = λ q.
    let all : length c.args.system.now.event_names ≤ c.loop-k.k = omega (arith, c.well_formed-2.ensures.event_names, ap length c.event_types.ensures) in
    c.loop-k.invariant q ∙ ap (λ xs. number_from (bytes_eq q) 0 xs) (take_all c.args.system.now.event_names c.loop-k.k all)
