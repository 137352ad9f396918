use Rattle.std.proofs.Common.{◌≡◌, [], subst, sym}
use Rattle.kom_record.specs.Entries.{in_hand}
use Rattle.kom_sim.proofs.Handled.{free_when_idle, found_job}
use Rattle.kom_sim.proofs.turns.find_job.Goals as goal

pub take-requires : goal.take-requires
take-requires g c = free_when_idle (g.T.StandsFor.history c.loop-c.station) 0 (subst (λ P. in_hand P ≡ []) (sym c.loop-c.invariant.1) c.loop-c.invariant.2.idle)

pub returns-in-Job-clause-found : goal.returns-in-Job-clause-found
returns-in-Job-clause-found g c =
    found_job g.T.StandsFor.system g.T.StandsFor.plan g.T.StandsFor.history c.args.station.now c.loop-c.station c.in-Some.c c.pop.new.self c.loop-c.line c.in-Job.job (g.T.StandsFor.history c.take.new.self)
    c.loop-c.invariant.0 c.loop-c.invariant.1 c.loop-c.invariant.2 c.in-Some.ensures.first c.in-Job.ensures.answer
