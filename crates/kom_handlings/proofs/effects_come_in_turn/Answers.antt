use Rattle.kom_handlings.proofs.Turns.{effects_come_in_turn}
use Rattle.kom_handlings.proofs.effects_come_in_turn.Goals as goal

pub returns : goal.returns
returns c = effects_come_in_turn
