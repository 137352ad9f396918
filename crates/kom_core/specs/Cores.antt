-- What a station over a kept run stands for.
use Rattle.std.specs.Arc.{arc_value}
use Rattle.kom_system.specs.declared.system.System.{System}
use Rattle.kom_record.specs.declared.plan.Plan.{Plan}
use Rattle.kom_record.specs.Entries.{History}
use Rattle.kom_turns.specs.Runs.{history_of}
use Rattle.kom_core.specs.declared.machine.Core.{Core}

-- the system, the plan and the record of its run
abbrev pub system_in : Core → System
system_in v = arc_value v.run.system

abbrev pub plan_in : Core → Plan
plan_in v = v.run.env.plan

abbrev pub history_in : Core → History
history_in v = history_of v.run
