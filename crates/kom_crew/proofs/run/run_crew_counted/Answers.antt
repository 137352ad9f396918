use Rattle.std.proofs.Common.{◌≡◌, ℕ, sym, ◌∙◌, subst, length}
use Rattle.kom_exchange.specs.Later.{about_of}
use Rattle.kom_exchange.specs.Seats.{AreFresh}
use Rattle.kom_crew.specs.Crews.{IsCrewed}
use Rattle.kom_ready.specs.Lots.{deques_of}
use Rattle.kom_crew.proofs.run.run_crew_counted.Goals as goal

pub returns-in-Memory : goal.returns-in-Memory
returns-in-Memory g c = subst (λ x. IsCrewed g.T.StandsFor.system g.T.StandsFor.plan g.T.StandsFor.history x c.args.workers c.no_memory-in-Memory.result.crewed) c.in-Memory.ensures c.no_memory-in-Memory.ensures

pub drive-requires-clause-seats : goal.drive-requires-clause-seats
drive-requires-clause-seats g c κs within =
    let id = c.in-Made.exchange.table.shared.table_id in
    let seats = c.in-Made.seats.items in
    let made = c.in-Made.ensures in
    let count : c.args.workers ≡ length (deques_of c.in-Ok.set) = sym c.in-Ok.ensures.count ∙ c.in-Ok.ensures.lots.count in
    subst (λ x. AreFresh id (g.T.StandsFor.history x) (about_of g.T.StandsFor.system g.T.StandsFor.plan x) (length (deques_of c.in-Ok.set)) seats) (sym made.0)
    (subst (λ (n : ℕ). AreFresh id (g.T.StandsFor.history c.args.station) (about_of g.T.StandsFor.system g.T.StandsFor.plan c.args.station) n seats) count made.2)
