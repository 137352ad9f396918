use Rattle.std.proofs.Common.{refl, ap, ◌∙◌, ◌+◌}
use Rattle.std.specs.Prelude.{min}
use mir.Val.{bool_byte}
use Rattle.kom_ready.specs.Counts.{last_count}
use Rattle.kom_ready.specs.Lots.{given_of}
use Rattle.kom_crew.proofs.Places.{one_counted, same_idle}
use Rattle.kom_crew.proofs.worker.Worker.next.Goals as goal

pub next-found-requires : goal.next-found-requires
next-found-requires g c = c.requires.0.lot

pub returns-clause-idle : goal.returns-clause-idle
returns-clause-idle g c = same_idle g.T.StandsFor.system g.T.StandsFor.plan g.T.StandsFor.history c.args.crew.now c.args.self.now _ refl refl c.next-found.ensures.same (one_counted _ c.next-found.result c.args.self.now.given c.saturating_add-self.result (given_of c.args.self.now.lot) (given_of c.next-found.new.self)
    (c.saturating_add-self.ensures ∙ ap (λ n. min (c.args.self.now.given + n) last_count) (c.from.ensures ∙ ap bool_byte c.is_some.ensures)) c.next-found.ensures.given) c.requires
