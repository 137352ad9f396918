-- In the empty record nobody has a job in hand.
use Rattle.std.proofs.Common.{ℕ, [], refl}
use Rattle.kom_record.specs.Entries.{in_hand}
use Rattle.kom_record.specs.Answers.{IsFree, job_of}

pub free_first : (w : ℕ) → IsFree [] w
unfolding job_of in_hand
free_first w = refl
