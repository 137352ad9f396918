use Rattle.std.proofs.Common.{if◌then◌else◌, None, ap, ◌∙◌}
use Rattle.kom_scribe.specs.Drafts.{known_occupant}
use Rattle.kom_scribe.proofs.Slots.{slot_tied}
use Rattle.kom_scribe.proofs.known.Known.clear.Goals as goal

pub returns-then-is_some-clause-occupants : goal.returns-then-is_some-clause-occupants
returns-then-is_some-clause-occupants c p s = c.remove.ensures.values (record { comp = p; slot = s }) ∙ ap (λ b. if b then None else known_occupant c.args.self.now p s) (slot_tied p s c.args.at)
