use Rattle.kom_extents.proofs.Slots.{children_are_in_slots}
use Rattle.kom_extents.proofs.laws.children_are_in_slots.Goals as goal

pub returns : goal.returns
returns c = children_are_in_slots
