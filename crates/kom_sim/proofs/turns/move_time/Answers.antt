use Rattle.std.proofs.Common.{ap, ◌∙◌}
use Rattle.kom_sim.specs.Line.{all_at_end}
use Rattle.kom_sim.proofs.Handled.{its_legal, moved, rest_ends, no_other_rest}
use Rattle.kom_sim.proofs.turns.move_time.Goals as goal

pub returns-in-Ok-clause-turn : goal.returns-in-Ok-clause-turn
returns-in-Ok-clause-turn g c =
    moved (g.T.StandsFor.system c.args.station.now).declarations (g.T.StandsFor.plan c.args.station.now) (g.T.StandsFor.history c.args.station.now) _ (g.T.StandsFor.history c.rest.new.self) c.push_all.new.self c.requires.between c.in-Moved.ensures.answer (c.in-Ok.ensures ∙ ap (λ l. all_at_end l c.in-Moved.wakes) c.requires.empty)

pub returns-in-End-clause-turn : goal.returns-in-End-clause-turn
returns-in-End-clause-turn g c =
    rest_ends (g.T.StandsFor.system c.args.station.now).declarations (g.T.StandsFor.plan c.args.station.now) (g.T.StandsFor.history c.args.station.now) (g.T.StandsFor.history c.rest.new.self) c.rest.result c.in-End.is c.rest.ensures.answer c.requires.between
    (its_legal g.T.StandsFor.system g.T.StandsFor.plan g.T.StandsFor.history g.met.T.Station.legal c.args.station.now c.rest.new.self (c.rest.ensures.system, c.rest.ensures.plan))

pub unreachable-requires : goal.unreachable-requires
unreachable-requires g c =
    no_other_rest (g.T.StandsFor.system c.args.station.now).declarations (g.T.StandsFor.plan c.args.station.now) (g.T.StandsFor.history c.args.station.now) (g.T.StandsFor.history c.rest.new.self) c.rest.result c.in-Ready.is c.rest.ensures.answer c.requires.between
