-- What a system and the upgraded system have in common.
use Rattle.std.specs.Prelude.{◌≡◌, ◌↔◌}
use Rattle.kom_record.specs.declared.plan.Plan.{Plan}
use Rattle.kom_record.specs.Entries.{History}
use Rattle.kom_record.specs.Legal.{IsLegal}
use Rattle.kom_record.specs.Plans.{PlanFits}
use Rattle.kom_record.specs.Trace.{trace_text}
use Rattle.kom_system.specs.Contents.{Contents, upgraded}

-- the same records are legal
abbrev pub SameRecords : Type 0
SameRecords = (c : Contents) (Z : Plan) (R : History) → IsLegal c.declarations Z R ↔ IsLegal (upgraded c).declarations Z R

-- the same plans fit
abbrev pub SamePlans : Type 0
SamePlans = (c : Contents) (Z : Plan) → PlanFits c.declarations Z ↔ PlanFits (upgraded c).declarations Z

-- a record has the same text
abbrev pub SameTexts : Type 0
SameTexts = (c : Contents) (Z : Plan) (R : History) → trace_text c.event_names c.declarations Z R ≡ trace_text (upgraded c).event_names (upgraded c).declarations Z R
