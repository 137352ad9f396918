use Rattle.std.proofs.Common.{sym, subst}
use Rattle.kom_record.specs.Answers.{IsFree, IsInHand}
use Rattle.kom_record.proofs.Hands.{taken_in_hand}
use Rattle.kom_core.specs.Cores.{history_in}
use Rattle.kom_core.proofs.Idle.{free_first}
use Rattle.kom_core.proofs.tests.takes_and_ends_the_first_item.Goals as goal

pub take-requires : goal.take-requires
take-requires g c = subst (λ R. IsFree R 3) (sym c.in_ok-core.ensures.history) (free_first 3)

pub handle-requires : goal.handle-requires
handle-requires g c =
    subst (λ S. IsInHand S (history_in c.take.new.self) c.in-Job.job) (sym c.take.ensures.system)
    (taken_in_hand _ _ _ 3 0 c.in-Job.job (history_in c.take.new.self) c.in-Job.ensures.answer)
