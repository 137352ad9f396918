-- What holds of the record of a run, for each component, channel and fault.
use Rattle.std.specs.Prelude.{◌≡◌, ◌<◌, ℕ, true, false, List, [], ◌∷◌, ◌++◌, length, Option, Some, None}
use Rattle.kom_base.specs.declared.numbers.Dir.{Dir}
use Rattle.kom_lang.specs.Declarations.{Declarations}
use Rattle.kom_lang.specs.declared.body.Body.{Body}
use Rattle.kom_lang.specs.declared.body.Effect.{Effect}
use Rattle.kom_record.specs.declared.item.Control.TheVariants.{Fault}
use Rattle.kom_record.specs.declared.entry.Outcome.{Outcome}
use Rattle.kom_record.specs.declared.entry.Outcome.TheVariants as outcome
use Rattle.kom_record.specs.declared.entry.Entry.TheVariants.{Did}
use Rattle.kom_record.specs.Entries.{History, acts}
use Rattle.kom_record.specs.Bodies.{nearest}
use Rattle.kom_record.specs.Channels.{channels, is_living, goes_out}
use Rattle.kom_record.specs.Controls.{control_put, raised}
use Rattle.kom_record.specs.Queues.{entered, received, waiting, taken_from}
use Rattle.kom_record.specs.Handed.{IsBefore, HandsOverReceipts, HandsOverState}
use Rattle.kom_record.specs.Ready.{has_unhandled}
use Rattle.kom_laws.specs.Laws.{Alternates, turns_of, IsReaction, Rises, IsTold}

pub record Promises (S : Declarations) (R : History) : Type 0 where
  -- each component handles one item at a time: its Took and Did entries alternate, beginning with a Took
  pub one_at_a_time : (c : ℕ) → Alternates (turns_of c R)
  -- what a Did records is the reaction of the body before it to the item that was taken, and Void
  -- exactly where the component was destroyed meanwhile
  pub replay : (P : History) (w c took : ℕ) (o : Outcome) (to : Option ℕ) (places : List ℕ)
      → IsBefore (Did w c took o to places ∷ P) R → IsReaction S P c took o
  -- what entered a direction of a channel is what was received from it and then what waits in it
  pub in_order : (x : ℕ) (d : Dir) → goes_out S x d ≡ false → entered S R x d ≡ received S R x d ++ waiting S R x d
  pub numbers_rise : (x : ℕ) (d : Dir) → Rises (entered S R x d)
  -- once a channel is dead nothing enters it and nothing is taken from it
  pub dead_channels_rest : (P : History) (x : ℕ) (d : Dir) → IsBefore P R → x < length (channels S (acts P)) → is_living S (acts P) x ≡ false
      → (entered S R x d ≡ entered S P x d) × (taken_from S R x d ≡ taken_from S P x d)
  -- a fault is put to the nearest ancestor that has a fault handler subscribed, and to no one else
  pub faults_reach : (P : History) (w c took n : ℕ) (to : Option ℕ) (places : List ℕ)
      → IsBefore (Did w c took (outcome.Fault n) to places ∷ P) R → IsTold S P (Did w c took (outcome.Fault n) to places) c n
  -- a fault that a handling escalates is put to that ancestor of its component, once and nothing else
  pub escalations_reach : (P : History) (w c took : ℕ) (body : Body) (effects : List Effect) (to : Option ℕ) (places : List ℕ) (n a s : ℕ)
      → IsBefore (Did w c took (outcome.Done body effects) to places ∷ P) R
      → raised P (Did w c took (outcome.Done body effects) to places) ≡ Some n → nearest S P c ≡ Some (a, s)
      → control_put S (Did w c took (outcome.Done body effects) to places ∷ P) a ≡ control_put S P a ++ Fault s n ∷ []
  -- where there is no such ancestor, either is a fault of which nobody was told
  pub unhandled : (P : History) (w c took : ℕ) (o : Outcome) (to : Option ℕ) (places : List ℕ) (n : ℕ)
      → IsBefore (Did w c took o to places ∷ P) R → raised P (Did w c took o to places) ≡ Some n → nearest S P c ≡ None → has_unhandled S R ≡ true
  -- a component that replaces another goes on with its state, and with the next event of each direction
  pub states_go_over : HandsOverState S R
  pub receipts_go_over : HandsOverReceipts S R
