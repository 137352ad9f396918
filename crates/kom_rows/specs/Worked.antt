-- What an example shows of a record.
use Rattle.std.specs.Prelude.{◌≡◌, true, List}
use Rattle.kom_lang.specs.Declarations.{Declarations}
use Rattle.kom_record.specs.declared.plan.Plan.{Plan}
use Rattle.kom_record.specs.Entries.{History}
use Rattle.kom_record.specs.Ready.{is_finished}
use Rattle.kom_record.specs.Legal.{IsLegal}
use Rattle.kom_record.specs.Simulated.{IsInOrder}
use Rattle.kom_record.specs.Trace.{Text, trace_lines}

-- the record is legal and finished, and these are the lines of its text; `names` are those of the
-- event types
pub record IsRecord (names : List Text) (S : Declarations) (Z : Plan) (R : History) (lines : List Text) : Type 0 where
  pub legal : IsLegal S Z R
  pub finished : is_finished S Z R ≡ true
  pub text : trace_lines names S Z R ≡ lines

-- and besides it is the record of the simulation
pub record IsSimulation (names : List Text) (S : Declarations) (Z : Plan) (R : History) (lines : List Text) : Type 0 where
  pub legal : IsLegal S Z R
  pub finished : is_finished S Z R ≡ true
  pub text : trace_lines names S Z R ≡ lines
  pub in_order : IsInOrder S Z R
