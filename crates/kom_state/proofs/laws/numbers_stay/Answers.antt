use Rattle.kom_state.proofs.Numbered.{numbers_stay}
use Rattle.kom_state.proofs.laws.numbers_stay.Goals as goal

pub returns : goal.returns
returns c = numbers_stay
