use Rattle.std.proofs.Common.{refl, ap, ◌∙◌}
use Rattle.kom_sim.specs.Line.{all_at_end}
use Rattle.kom_sim.proofs.Handled.{begins}
use Rattle.kom_sim.proofs.simulation.simulate.Goals as goal

pub loop-station-init : goal.loop-station-init
loop-station-init g c = ((refl, refl), begins (g.T.StandsFor.system c.args.station).declarations (g.T.StandsFor.plan c.args.station) (g.T.StandsFor.history c.args.station) c.args.wakes c.push_all.new.self c.requires.empty c.requires.ready (c.in-Ok.ensures ∙ ap (λ l. all_at_end l c.args.wakes) c.new-line.ensures))
