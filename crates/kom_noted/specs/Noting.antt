-- What is known where the end of a handling is noted.
use Rattle.std.specs.Prelude.{◌≡◌, ℕ, List, ◌∷◌, Option}
use Rattle.kom_lang.specs.declared.body.Body.{Body}
use Rattle.kom_lang.specs.declared.body.Effect.{Effect}
use Rattle.kom_record.specs.declared.item.Item.{Item}
use Rattle.kom_record.specs.declared.entry.Entry.{Entry}
use Rattle.kom_record.specs.Entries.{TakenJob, acts}
use Rattle.kom_record.specs.Legal.{IsLegal}
use Rattle.kom_entering.specs.declared.lists.Entering.{Entering}
use Rattle.kom_entering.specs.Lists.{IsEntering}
use Rattle.kom_births.specs.declared.seed.Seed.{Seed}
use Rattle.kom_nursery.specs.Nurseries.{broods_of}
use Rattle.kom_turns.specs.declared.run.Run.{Run}
use Rattle.kom_turns.specs.Runs.{Stands, history_of, system_of}
use Rattle.kom_dones.specs.Dones.{IsDue, done_by}

-- The run stands for its record, and the job of w is due. The entry ends it, what it brings and creates was worked
-- out, and `told` is told of a fault of c.
pub record IsToNote (w c : ℕ) (item : Item) (told : Option (ℕ × ℕ)) (body : Body) (es : List Effect) (entering : Entering) (broods : List (List Seed)) (did : Entry) (hand : TakenJob) (old : Body) (to : Option ℕ) (places : List ℕ) (v : Run) : Type 0 where
  pub stands : Stands v
  pub due : IsDue w c hand old body es told to places v
  pub item_is : hand.item ≡ item
  pub did_is : did ≡ done_by w c hand body es to places
  pub legal : IsLegal (system_of v) v.env.plan (done_by w c hand body es to places ∷ history_of v)
  pub entering_is : IsEntering (system_of v) (history_of v) (done_by w c hand body es to places) entering
  pub broods_are : broods ≡ broods_of (system_of v) (acts (history_of v)) c item es

-- so it is with some job
pub record ToNote (w c : ℕ) (item : Item) (told : Option (ℕ × ℕ)) (body : Body) (es : List Effect) (entering : Entering) (broods : List (List Seed)) (did : Entry) (v : Run) : Type 0 where
  pub hand : TakenJob
  pub old : Body
  pub to : Option ℕ
  pub places : List ℕ
  pub note : IsToNote w c item told body es entering broods did hand old to places v
