-- What a record leaves to do.
use Rattle.std.specs.Prelude.{◌≡◌, true, false, [], Some, is_some}
use Rattle.kom_base.specs.Lists.{first}
use Rattle.kom_lang.specs.Declarations.{Declarations}
use Rattle.kom_record.specs.declared.plan.Plan.{Plan}
use Rattle.kom_record.specs.Entries.{History, in_hand}
use Rattle.kom_record.specs.Ready.{is_closed, ready_list}
use Rattle.kom_record.specs.Time.{due, pending}
use Rattle.kom_turns.specs.declared.lefts.Left.{Left}
use Rattle.kom_turns.specs.declared.lefts.Left.TheVariants.{Ready, Waiting, Pending, Nothing, Closed}

abbrev pub AnswersLeft : Declarations → Plan → History → Left → Type 0
AnswersLeft S Z R (Ready c) = (is_closed S Z R ≡ false) × (first (ready_list S Z R) ≡ Some c)
AnswersLeft S Z R Waiting = (is_closed S Z R ≡ false) × (ready_list S Z R ≡ []) × (in_hand R ≡ [] → ⊥)
AnswersLeft S Z R Pending = (is_closed S Z R ≡ false) × (ready_list S Z R ≡ []) × (in_hand R ≡ []) × (is_some (due S Z R) ≡ true)
AnswersLeft S Z R Nothing = (is_closed S Z R ≡ false) × (ready_list S Z R ≡ []) × (in_hand R ≡ []) × (pending S Z R ≡ [])
AnswersLeft S Z R Closed = is_closed S Z R ≡ true
