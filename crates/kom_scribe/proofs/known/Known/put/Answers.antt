use Rattle.std.proofs.Common.{if◌then◌else◌, Some, ap, ◌∙◌}
use Rattle.kom_scribe.specs.Drafts.{known_occupant}
use Rattle.kom_scribe.proofs.Slots.{slot_tied}
use Rattle.kom_scribe.proofs.known.Known.put.Goals as goal

pub returns-then-is_some-clause-occupants : goal.returns-then-is_some-clause-occupants
returns-then-is_some-clause-occupants c p s = c.swap.ensures.values (record { comp = p; slot = s }) ∙ ap (λ b. if b then Some c.args.number else known_occupant c.args.self.now p s) (slot_tied p s c.args.at)

pub returns-else-is_some-clause-occupants : goal.returns-else-is_some-clause-occupants
returns-else-is_some-clause-occupants c p s = c.insert.ensures.values (record { comp = p; slot = s }) ∙ ap (λ b. if b then Some c.args.number else known_occupant c.args.self.now p s) (slot_tied p s c.args.at)
