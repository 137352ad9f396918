use Rattle.std.proofs.Common.{sym, ◌∙◌, ap}
use Rattle.kom_scenario.specs.Rules.{broken}
use Rattle.kom_scenario.proofs.Soundness.{broken_first}
use Rattle.kom_scenario.proofs.judge.judge.Goals as goal

pub returns-in-Some : goal.returns-in-Some
returns-in-Some c = ap (λ s. broken s c.args.tree.now) (sym c.in_ok-known.ensures) ∙ broken_first _ _ (c.in-Some.rule, c.in-Some.at) (sym c.in-Some.ensures)
