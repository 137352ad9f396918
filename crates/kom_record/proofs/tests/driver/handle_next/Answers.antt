use Rattle.kom_record.proofs.Hands.{taken_in_hand, handled}
use Rattle.kom_record.proofs.tests.driver.handle_next.Goals as goal

pub commit-requires : goal.commit-requires
commit-requires g c = rw (c.in-Job.ensures.system, c.react-ran.ensures) (taken_in_hand _ _ _ _ _ _ _ c.in-Job.ensures.answer)

pub returns-in-Wakes : goal.returns-in-Wakes
returns-in-Wakes g c =
    handled _ _ _ _ _ _ _ _ _ _ c.in-Job.ensures.answer c.react-ran.ensures
    (rw (c.in-Job.ensures.system, c.in-Job.ensures.plan) at c.in-Wakes.ensures.answer)
