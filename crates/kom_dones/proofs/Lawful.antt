-- The entry that ends a job, and the record with it.
use Rattle.std.proofs.Common.{◌≡◌, ℕ, true, ◌==◌, refl, sym, ◌∙◌, subst, List, [], ◌∷◌, Option, Some, None}
use Rattle.std.proofs.lemmas.Bool.{eqb-true}
use Rattle.kom_lang.specs.declared.body.Body.{Body}
use Rattle.kom_lang.specs.declared.body.Effect.{Effect}
use Rattle.kom_record.specs.Offers.{offers}
use Rattle.kom_record.specs.Queues.{unreached}
use Rattle.kom_record.specs.declared.entry.Outcome.TheVariants as outcome
use Rattle.kom_record.specs.Answers.{job_of}
use Rattle.kom_record.specs.Entries.{TakenJob, in_hand, item_at}
use Rattle.kom_record.specs.Legal.{IsLegal, MayDo, MayEnd}
use Rattle.kom_laws.proofs.ActLaws.{job_item}
use Rattle.kom_laws.proofs.Handlings.{found_in}
use Rattle.kom_laws.proofs.Members.{IsIn}
use Rattle.kom_raised.specs.Raised.{DonesAreTold}
use Rattle.kom_turns.specs.declared.run.Run.{Run}
use Rattle.kom_turns.specs.Runs.{Stands, history_of, system_of}
use Rattle.kom_endings.proofs.Hands.{by_took}
use Rattle.kom_dones.specs.Dones.{IsDue, done_by}

module _ (told_is : DonesAreTold) (w c : ℕ) (hand : TakenJob) (old body : Body) (effects : List Effect) (near : Option (ℕ × ℕ)) (to : Option ℕ) (places : List ℕ) (v : Run)
    (due : IsDue w c hand old body effects near to places v) where
  pub held : IsIn hand (in_hand (history_of v)) × (hand.w == w) ≡ true
  unfolding job_of
  held = found_in (λ j. j.w == w) (in_hand (history_of v)) hand due.found

  pub item_is : item_at (history_of v) hand.took ≡ Some hand.item
  item_is = job_item (history_of v) hand held.0

  -- what is unreached does not depend on who is told
  same_places : unreached (system_of v) (history_of v) (done_by w c hand body effects None []) ≡ unreached (system_of v) (history_of v) (done_by w c hand body effects to places)
  unfolding unreached offers
  same_places = refl

  may : MayDo (system_of v) v.env.plan (history_of v) w c hand.took (outcome.Done body effects) to places
  unfolding MayEnd
  may = record {
    job = hand;
    body = old;
    in_hand = by_took (history_of v) w hand due.found;
    worker = eqb-true hand.w w held.1;
    component = due.component;
    body_is = due.body_is;
    outcome = subst (λ t. MayEnd (system_of v) v.env.plan t old hand.item (outcome.Done body effects)) (sym due.lives) due.reacts;
    told = due.told ∙ sym (told_is (system_of v) (history_of v) w c hand.took hand.item body effects to places near item_is due.near_is).told_is;
    unreached = due.unreached_are ∙ same_places;
  }

  pub legal : Stands v → IsLegal (system_of v) v.env.plan (done_by w c hand body effects to places ∷ history_of v)
  unfolding IsLegal
  legal s = (s.legal, may)
