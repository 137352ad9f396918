-- A run with two workers.
use Rattle.std.specs.Prelude.{◌≡◌}
use Rattle.kom_system.specs.declared.system.System.{System}
use Rattle.kom_record.specs.declared.plan.Plan.{Plan}
use Rattle.kom_core.specs.declared.machine.Core.{Core}
use Rattle.kom_core.specs.Cores.{system_in, plan_in, history_in}
use Rattle.kom_drives.specs.declared.calls.Hand.{Hand}
use Rattle.kom_drives.specs.Hands.{Holds}

-- the station is one of the system and the plan, and the workers 0 and 1 have these jobs in hand
pub record IsPair (core : Core) (system : System) (plan : Plan) (zero one : Hand) : Type 0 where
  pub system_is : system_in core ≡ system
  pub plan_is : plan_in core ≡ plan
  pub first : zero.w ≡ 0
  pub second : one.w ≡ 1
  pub zero_holds : Holds system (history_in core) zero
  pub one_holds : Holds system (history_in core) one
