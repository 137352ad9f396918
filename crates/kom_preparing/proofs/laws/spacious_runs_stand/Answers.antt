use Rattle.kom_preparing.proofs.Roomy.{spacious_stands}
use Rattle.kom_preparing.proofs.laws.spacious_runs_stand.Goals as goal

pub returns : goal.returns
returns c = spacious_stands c.same_states_follow.ensures c.numbers_stay.ensures
