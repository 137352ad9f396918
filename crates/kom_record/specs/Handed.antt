-- What a replacement hands over: the state of the old component, and the place in each queue.
use Rattle.std.specs.Prelude.{◌≡◌, ◌≤◌, ◌<◌, ℕ, ℤ, List, ◌∷◌, ◌++◌, length, slice_get, Option, Some, None, Contains}
use Rattle.std.specs.Option.{option_map}
use Rattle.kom_base.specs.declared.numbers.Dir.{Dir}
use Rattle.kom_base.specs.declared.numbers.Side.{Side}
use Rattle.kom_base.specs.declared.numbers.EntryNo.{EntryNo}
use Rattle.kom_base.specs.declared.values.Event.{Event}
use Rattle.kom_lang.specs.Declarations.{Declarations}
use Rattle.kom_lang.specs.declared.body.Body.{Body}
use Rattle.kom_lang.specs.declared.body.Birth.TheVariants.{State}
use Rattle.kom_lang.specs.declared.body.Effect.{Effect}
use Rattle.kom_lang.specs.declared.body.Effect.TheVariants as effect
use Rattle.kom_record.specs.declared.item.Back.{Back}
use Rattle.kom_record.specs.declared.item.Control.TheVariants.{Dump, Dumped}
use Rattle.kom_record.specs.declared.item.Item.TheVariants.{Control, Arrival}
use Rattle.kom_record.specs.declared.entry.Outcome.TheVariants as outcome
use Rattle.kom_record.specs.declared.entry.Entry.{Entry}
use Rattle.kom_record.specs.declared.entry.Entry.TheVariants.{Took, Did}
use Rattle.kom_record.specs.Entries.{History, acts, item_at}
use Rattle.kom_record.specs.Bodies.{body_at, outcome_of}
use Rattle.kom_record.specs.Controls.{control_put, control_got}
use Rattle.kom_record.specs.Queues.{entered, taken_from}
use Rattle.kom_record.specs.Channels.{destination}

-- P is what the record R was at an earlier moment, or R itself
abbrev pub IsBefore : History → History → Type 0
IsBefore P R = (more : List Entry) × (R ≡ more ++ P)

-- c ended no handling in R after P
abbrev pub HasDoneNothing : ℕ → History → History → Type 0
HasDoneNothing c P R = (e : Entry) (Q : History) → IsBefore (e ∷ Q) R → length P < length (e ∷ Q) → outcome_of c e ≡ None

module _ (S : Declarations) where
  -- The i-th control item that was put to p is the state of a component c: a Did of c, which handled
  -- a Dump, put Dumped with the values v to p, and v are the variables that c then had, and still
  -- has in R if it has done nothing since.
  pub record IsStateDumpedTo (R : History) (p i : ℕ) (v : List ℤ) : Type 0 where
    pub c : ℕ
    pub slot : ℕ
    pub w : ℕ
    pub took : ℕ
    pub body : Body
    pub effects : List Effect
    pub to : Option ℕ
    pub places : List ℕ
    pub moment : History
    pub earlier : IsBefore (Did w c took (outcome.Done body effects) to places ∷ moment) R
    pub dump : item_at moment took ≡ Some (Control Dump)
    pub not_yet : length (control_put S moment p) ≤ i
    pub put : slice_get (control_put S (Did w c took (outcome.Done body effects) to places ∷ moment) p) i ≡ Some (Dumped slot v)
    pub variables : body.vars ≡ v
    pub since : HasDoneNothing c (Did w c took (outcome.Done body effects) to places ∷ moment) R → option_map (λ b. b.vars) (body_at S R c) ≡ Some v

  -- each creation from a state, by a Did of p, is from a state that was dumped to p: the item that p
  -- handled is the i-th that it got, and the i-th that was put to it
  abbrev pub HandsOverState : History → Type 0
  HandsOverState R = (P : History) (w p took s k : ℕ) (body : Body) (effects : List Effect) (to : Option ℕ) (places : List ℕ) (v : List ℤ)
      → IsBefore (Did w p took (outcome.Done body effects) to places ∷ P) R → Contains effects (effect.Create s k (State v))
      → (i : ℕ) × IsStateDumpedTo R p i v × (slice_get (control_got S R p) i ≡ slice_get (control_put S R p) i)

  -- Each receipt is by the component at which the direction then ends, and is of the event that
  -- follows, among those that ever entered, on as many as were received before. So it does not
  -- matter which component received those.
  abbrev pub HandsOverReceipts : History → Type 0
  HandsOverReceipts R = (P : History) (w c x : ℕ) (d : Dir) (n : EntryNo) (port : ℕ) (side : Side) (event : Event) (back : Back)
      → IsBefore (Took w c (Arrival x d n port side event back) ∷ P) R
      → (destination S (acts P) x d ≡ Some (record { comp = c; port = port; side = side }))
      × (slice_get (entered S R x d) (length (taken_from S P x d)) ≡ Some (record { no = n; event = event; back = back }))
