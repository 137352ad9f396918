use Rattle.kom_handlings.proofs.Turns.{bodies_know_their_place}
use Rattle.kom_handlings.proofs.bodies_know_their_place.Goals as goal

pub returns : goal.returns
returns c = bodies_know_their_place
