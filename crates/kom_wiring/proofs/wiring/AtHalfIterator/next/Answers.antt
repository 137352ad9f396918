use Rattle.std.proofs.Common.{refl, sym, ap, ◌∙◌}
use Rattle.kom_wiring.specs.Wires.{plugged_at, from_number}
use Rattle.kom_wiring.proofs.Firsts.{yields, progresses}
use Rattle.kom_wiring.proofs.wiring.AtHalfIterator.next.Goals as goal
use Rattle.kom_wiring.proofs.wiring.AtHalfIterator.next.Goals.{in-None, in-Some}

pub returns-clause-steps : goal.returns-clause-steps
returns-clause-steps c =
    elim c.match-self.branch [
      | in-None w ↦ rw (w.found-is, w.self-inside-is, c.after-self-inside.ensures, w.found-is) (sym c.self.view_is ∙ ap (λ low. from_number low (plugged_at c.self.inside.half c.self.inside.wiring.now.links)) w.in-None.is, refl)
      | in-Some w ↦ rw (w.self-inside-is, c.after-self-inside.ensures, w.found-is)
          (yields (plugged_at c.self.inside.half c.self.inside.wiring.now.links) c.args.self.now w.in-Some.low w.first_plugged-found.result (ap (λ low. from_number low (plugged_at c.self.inside.half c.self.inside.wiring.now.links)) (sym w.in-Some.is) ∙ c.self.view_is) w.first_plugged-found.ensures)
    ]

pub returns-clause-goes : goal.returns-clause-goes
returns-clause-goes c = progresses c.args.self.now _ c.match-self.found (returns-clause-steps c)
