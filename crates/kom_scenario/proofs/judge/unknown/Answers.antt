use Rattle.std.proofs.Common.{[], ◌∙◌, ap}
use Rattle.std.specs.List.{flat_map}
use Rattle.kom_scenario.specs.Rules.{unknown, along, raise_unknown, raise_of, process_unknown, first_place}
use Rattle.kom_scenario.proofs.judge.unknown.Goals as goal

pub returns : goal.returns
unfolding unknown
returns c = c.earlier.ensures (flat_map (λ x. raise_unknown c.args.known.now.system.now (raise_of x)) c.args.tree.now.sources) (along process_unknown [] c.args.tree.now.sources)
    (c.first_in.ensures ∙ ap (λ xs. first_place (flat_map (λ x. raise_unknown c.args.known.now.system.now (raise_of x)) xs)) c.as_slice.ensures) c.requires
