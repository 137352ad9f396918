use Rattle.std.proofs.Common.{ap, ◌∙◌, ◌++◌, length}
use Rattle.kom_scribe.specs.Drafts.{occupant_in, known_occupant}
use Rattle.kom_scribe.proofs.Changes.{absorbed, on_err}
use Rattle.kom_scribe.proofs.known.Known.absorb.Goals as goal

pub returns-clause-knows : goal.returns-clause-knows
returns-clause-knows c S done h =
    let d = c.args.draft.now in
    let k = c.args.self.now in
    absorbed S k c.note.new.self d done h
    (c.note.ensures.kinds ∙ ap (λ ks. ks ++ d.kinds.items) c.reserve.ensures.kinds)
    (λ p s.
    c.note.ensures.occupants p s
    ∙ ap (λ ks. occupant_in p s (length ks) (known_occupant c.reserve.new.self p s) d.changes.items) c.reserve.ensures.kinds
    ∙ ap (λ o. occupant_in p s (length k.kinds.items) o d.changes.items) (c.reserve.ensures.occupants p s))

pub returns-in_err-reserve-clause-same : goal.returns-in_err-reserve-clause-same
returns-in_err-reserve-clause-same c = on_err c.from_residual.result (λ S done h. record { kinds = c.reserve.ensures.kinds ∙ h.kinds; occupants = λ p s. c.reserve.ensures.occupants p s ∙ h.occupants p s })
