use Rattle.std.proofs.Common.{[], ◌∙◌, ap}
use Rattle.kom_scenario.specs.Rules.{twice, along, set_twice, named_twice, first_place}
use Rattle.kom_scenario.proofs.judge.twice.Goals as goal

pub returns : goal.returns
unfolding twice
returns c = c.earlier.ensures (along set_twice [] c.args.tree.now.settings) (along named_twice [] c.args.tree.now.sources)
    (c.set_twice.ensures ∙ ap (λ xs. first_place (along set_twice [] xs)) c.as_slice.ensures) c.requires
