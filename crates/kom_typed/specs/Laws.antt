-- The laws by which what is on its way is of its type, and each job in hand is well formed.
use Rattle.std.specs.Prelude.{◌≡◌, ℕ, true, Some, Contains}
use Rattle.kom_base.specs.declared.numbers.Dir.{Dir}
use Rattle.kom_lang.specs.Declarations.{Declarations}
use Rattle.kom_lang.specs.declared.body.Body.{Body}
use Rattle.kom_system.specs.WellFormed.{IsDeclared}
use Rattle.kom_record.specs.declared.plan.Plan.{Plan}
use Rattle.kom_record.specs.Entries.{History, TakenJob, acts, in_hand}
use Rattle.kom_record.specs.Bodies.{body_at}
use Rattle.kom_record.specs.Plans.{PlanFits, IsWellFormedJob, is_of_its_type}
use Rattle.kom_record.specs.Queues.{Envelope, entered}
use Rattle.kom_record.specs.Time.{Outgoing, outgoing}
use Rattle.kom_record.specs.Legal.{IsLegal}
use Rattle.kom_typed.specs.Types.{PassesChannel}

-- in a legal record of a well-formed system and a plan that fits it, each event that entered a channel is
-- of a declared type and has as many values as that type has attributes
abbrev pub EventsAreTyped : Type 0
EventsAreTyped = (S : Declarations) (Z : Plan) (P : History) (x : ℕ) (d : Dir) (q : Envelope)
    → IsDeclared S → PlanFits S Z → IsLegal S Z P → Contains (entered S P x d) q → is_of_its_type S q.event ≡ true

-- and is of a type that passes the port type of that channel in the direction in which it entered
abbrev pub EventsPass : Type 0
EventsPass = (S : Declarations) (Z : Plan) (P : History) (x : ℕ) (d : Dir) (q : Envelope)
    → IsDeclared S → PlanFits S Z → IsLegal S Z P → Contains (entered S P x d) q → PassesChannel S (acts P) x d q.event.kind

-- and so has each that went out to the environment
abbrev pub OutgoingAreTyped : Type 0
OutgoingAreTyped = (S : Declarations) (Z : Plan) (P : History) (o : Outgoing)
    → IsDeclared S → PlanFits S Z → IsLegal S Z P → Contains (outgoing S P) o → is_of_its_type S o.event ≡ true

-- each job in hand is well formed
abbrev pub JobsAreWellFormed : Type 0
JobsAreWellFormed = (S : Declarations) (Z : Plan) (P : History) (job : TakenJob) (b : Body)
    → IsDeclared S → PlanFits S Z → IsLegal S Z P → Contains (in_hand P) job → body_at S P job.c ≡ Some b → IsWellFormedJob S b job.item
