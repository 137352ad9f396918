-- The laws of legal records.
use Rattle.std.specs.Prelude.{◌≡◌, ◌<◌, ◌≤◌, ℕ, ℤ, Bool, true, false, not, if◌then◌else◌, ◌==◌, List, [], ◌∷◌, ◌++◌, length, Option, Some, None, Contains}
use Rattle.std.specs.List.{count_by}
use Rattle.kom_base.specs.declared.numbers.Dir.{Dir}
use Rattle.kom_base.specs.Numbers.{is_earlier}
use Rattle.kom_lang.specs.Declarations.{Declarations}
use Rattle.kom_lang.specs.declared.body.Body.{Body}
use Rattle.kom_lang.specs.declared.body.Birth.TheVariants.{State}
use Rattle.kom_lang.specs.declared.body.Effect.{Effect}
use Rattle.kom_lang.specs.declared.body.Effect.TheVariants as effect
use Rattle.kom_lang.specs.Steps.{is_escalate}
use Rattle.kom_system.specs.declared.system.System.{System}
use Rattle.kom_system.specs.WellFormed.{IsDeclared}
use Rattle.kom_record.specs.declared.plan.Plan.{Plan}
use Rattle.kom_record.specs.declared.job.Job.{Job}
use Rattle.kom_record.specs.declared.item.Item.{Item}
use Rattle.kom_record.specs.declared.item.Control.TheVariants.{Fault, Dumped}
use Rattle.kom_record.specs.declared.item.Item.TheVariants.{Control}
use Rattle.kom_record.specs.declared.entry.Outcome.{Outcome}
use Rattle.kom_record.specs.declared.entry.Outcome.TheVariants as outcome
use Rattle.kom_record.specs.declared.entry.Entry.{Entry}
use Rattle.kom_record.specs.declared.entry.Entry.TheVariants.{Took, Did, Moved}
use Rattle.kom_record.specs.Entries.{History, acts, item_at}
use Rattle.kom_record.specs.Instances.{alive}
use Rattle.kom_record.specs.Channels.{channels, is_living, goes_out}
use Rattle.kom_record.specs.Reaction.{Reacts, state_of}
use Rattle.kom_record.specs.Bodies.{body_at, nearest}
use Rattle.kom_record.specs.Queues.{Envelope, entered, received, waiting, taken_from}
use Rattle.kom_record.specs.Controls.{control_put, raised}
use Rattle.kom_record.specs.Handed.{IsBefore, HandsOverReceipts, HandsOverState}
use Rattle.kom_record.specs.Ready.{is_closed}
use Rattle.kom_record.specs.Views.{worker_of}
use Rattle.kom_record.specs.Answers.{IsInHand}
use Rattle.kom_record.specs.Legal.{IsLegal}
use Rattle.kom_record.specs.Simulated.{IsSimulated}

-- a simulation has one record at most
abbrev pub OneSimulation : Type 0
OneSimulation = (S : Declarations) (Z : Plan) (R Q : History) → IsSimulated S Z R → IsSimulated S Z Q → R ≡ Q

-- ---- channels

-- what entered a direction is what was received from it, followed by what waits in it
abbrev pub EachInOrder : Type 0
EachInOrder = (S : Declarations) (Z : Plan) (R : History) (x : ℕ) (d : Dir)
    → IsLegal S Z R → goes_out S x d ≡ false → entered S R x d ≡ received S R x d ++ waiting S R x d

-- each number in the list is earlier than the next
abbrev pub Rises : List Envelope → Type 0
Rises [] = Unit {0}
Rises (p ∷ []) = Unit {0}
Rises (p ∷ q ∷ ps) = (is_earlier p.no q.no ≡ true) × Rises (q ∷ ps)

-- what entered a direction has strictly rising numbers
abbrev pub NumbersRise : Type 0
NumbersRise = (S : Declarations) (R : History) (x : ℕ) (d : Dir) → Rises (entered S R x d)

-- after a channel is dead nothing enters it and nothing is taken from it
abbrev pub DeadChannelsRest : Type 0
DeadChannelsRest = (S : Declarations) (Z : Plan) (R P : History) (x : ℕ) (d : Dir)
    → IsLegal S Z R → IsBefore P R → x < length (channels S (acts P)) → is_living S (acts P) x ≡ false
    → (entered S R x d ≡ entered S P x d) × (taken_from S R x d ≡ taken_from S P x d)

-- each receipt is by the component at which the direction then ends, and of the event that follows
-- on those that were received before, whoever received them
abbrev pub ReceiptsAreHandedOver : Type 0
ReceiptsAreHandedOver = (S : Declarations) (Z : Plan) (R : History) → IsLegal S Z R → HandsOverReceipts S R

-- a handling creates a component from a state only where it handles a Dumped, and from its state
abbrev pub CreatesFromDumpsAlone : Declarations → Type 0
CreatesFromDumpsAlone S = (b : Body) (item : Item) (body : Body) (effects : List Effect) (slot kind : ℕ) (v : List ℤ)
    → Reacts S b item (outcome.Done body effects) → Contains effects (effect.Create slot kind (State v))
    → (from : ℕ) × (item ≡ Control (Dumped from v))

-- in a well-formed system every handling is so
abbrev pub StatesComeFromDumps : Type 0
StatesComeFromDumps = (S : Declarations) → IsDeclared S → CreatesFromDumpsAlone S

-- each creation from a state is from the state that a predecessor dumped
abbrev pub StatesAreHandedOver : Type 0
StatesAreHandedOver = (S : Declarations) (Z : Plan) (R : History) → IsDeclared S → IsLegal S Z R → HandsOverState S R

-- ---- handlings

-- the entries of a component, the latest first: true for a Took, false for a Did
abbrev pub turn_of : ℕ → Entry → List Bool
turn_of c (Took w d item) = if d == c then true ∷ [] else []
turn_of c (Did w d took o to places) = if d == c then false ∷ [] else []
turn_of c (Moved w t released) = []

abbrev pub turns_of : ℕ → History → List Bool
turns_of c [] = []
turns_of c (e ∷ P) = turn_of c e ++ turns_of c P

-- they alternate, and the oldest, which is the last of the list, is a Took
abbrev pub Alternates : List Bool → Type 0
Alternates [] = Unit {0}
Alternates (b ∷ []) = b ≡ true
Alternates (a ∷ b ∷ bs) = (a ≡ not b) × Alternates (b ∷ bs)

-- a component handles one item at a time
abbrev pub HandlingsAlternate : Type 0
HandlingsAlternate = (S : Declarations) (Z : Plan) (R : History) (c : ℕ) → IsLegal S Z R → Alternates (turns_of c R)

-- what a Did of a living component records is the reaction of the body before it to the item that
-- was taken, and it records Void where the component was destroyed
pub record IsReaction (S : Declarations) (P : History) (c took : ℕ) (o : Outcome) : Type 0 where
  pub item : Item
  pub body : Body
  pub taken : item_at P took ≡ Some item
  pub body_is : body_at S P c ≡ Some body
  pub living : alive S (acts P) c ≡ true → Reacts S body item o
  pub destroyed : alive S (acts P) c ≡ false → o ≡ outcome.Void

abbrev pub OutcomesAreReactions : Type 0
OutcomesAreReactions = (S : Declarations) (Z : Plan) (R P : History) (w c took : ℕ) (o : Outcome) (to : Option ℕ) (places : List ℕ)
    → IsLegal S Z R → IsBefore (Did w c took o to places ∷ P) R → IsReaction S P c took o

-- a job in hand stays in hand, with the same body, while other workers add entries
abbrev pub JobsStayInHand : Type 0
JobsStayInHand = (S : System) (Z : Plan) (P : History) (e : Entry) (job : Job)
    → IsLegal S.declarations Z (e ∷ P) → IsInHand S P job → (worker_of e ≡ job.w → ⊥) → IsInHand S (e ∷ P) job

-- ---- effects

-- the state of a creation from a state is this one
abbrev pub HasState : List ℤ → Effect → Type 0
HasState v (effect.Create slot kind (State w)) = w ≡ v
HasState v e = Unit {0}

abbrev pub HaveState : List ℤ → List Effect → Type 0
HaveState v [] = Unit {0}
HaveState v (e ∷ es) = HasState v e × HaveState v es

-- what a handling can do: at most 32 effects, one escalation at most, and creations from this state
-- alone
pub record IsBounded (v : List ℤ) (es : List Effect) : Type 0 where
  pub few : length es ≤ 32
  pub once : count_by is_escalate es ≤ 1
  pub states : HaveState v es

-- the state is the one that the item carries
abbrev pub EffectsAreBounded : Type 0
EffectsAreBounded = (S : Declarations) (b : Body) (item : Item) (body : Body) (effects : List Effect)
    → Reacts S b item (outcome.Done body effects) → IsBounded (state_of item) effects

-- ---- faults

-- a Did with a fault adds its Fault to the control list of the nearest ancestor that has a fault
-- handler subscribed, and to no other list anything
pub record IsTold (S : Declarations) (P : History) (e : Entry) (c n : ℕ) : Type 0 where
  pub to_nearest : (a s : ℕ) → nearest S P c ≡ Some (a, s) → control_put S (e ∷ P) a ≡ control_put S P a ++ Fault s n ∷ []
  pub others : (b : ℕ) → ((s : ℕ) → nearest S P c ≡ Some (b, s) → ⊥) → control_put S (e ∷ P) b ≡ control_put S P b

abbrev pub FaultsReachTheNearest : Type 0
FaultsReachTheNearest = (S : Declarations) (P : History) (w c took n : ℕ) (to : Option ℕ) (places : List ℕ)
    → IsTold S P (Did w c took (outcome.Fault n) to places) c n

-- a Did that escalates the fault n adds its Fault, once and nothing else, to the control list of the
-- nearest ancestor that has a fault handler subscribed
abbrev pub EscalationsReachTheNearest : Type 0
EscalationsReachTheNearest = (S : Declarations) (Z : Plan) (P : History) (w c took : ℕ) (body : Body) (effects : List Effect) (to : Option ℕ) (places : List ℕ) (n a s : ℕ)
    → IsLegal S Z (Did w c took (outcome.Done body effects) to places ∷ P)
    → raised P (Did w c took (outcome.Done body effects) to places) ≡ Some n → nearest S P c ≡ Some (a, s)
    → control_put S (Did w c took (outcome.Done body effects) to places ∷ P) a ≡ control_put S P a ++ Fault s n ∷ []

-- a fault of which no ancestor is told closes the record
abbrev pub UnhandledFaultsClose : Type 0
UnhandledFaultsClose = (S : Declarations) (Z : Plan) (P : History) (w c took n : ℕ) (to : Option ℕ) (places : List ℕ)
    → nearest S P c ≡ None → is_closed S Z (Did w c took (outcome.Fault n) to places ∷ P) ≡ true
