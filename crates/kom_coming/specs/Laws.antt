-- The laws of what comes into channels by an entry.
use Rattle.std.specs.Prelude.{◌≡◌, ◌≤◌, ◌<◌, ℕ, ◌+◌, ◌^◌, List, ◌∷◌, length, map, Option, Some}
use Rattle.std.specs.List.{sum_by}
use Rattle.kom_base.specs.declared.numbers.Dir.{Dir}
use Rattle.kom_lang.specs.Declarations.{Declarations}
use Rattle.kom_lang.specs.declared.body.Body.{Body}
use Rattle.kom_lang.specs.declared.body.Effect.{Effect}
use Rattle.kom_record.specs.declared.item.Item.{Item}
use Rattle.kom_record.specs.declared.plan.Plan.{Plan}
use Rattle.kom_record.specs.declared.entry.Entry.{Entry}
use Rattle.kom_record.specs.declared.entry.Entry.TheVariants.{Did}
use Rattle.kom_record.specs.declared.entry.Outcome.{Outcome}
use Rattle.kom_record.specs.declared.entry.Outcome.TheVariants.{Done}
use Rattle.kom_record.specs.Entries.{History, item_at}
use Rattle.kom_record.specs.Legal.{IsLegal}
use Rattle.kom_record.specs.Plans.{PlanFits}
use Rattle.kom_record.specs.Queues.{entering}
use Rattle.kom_record.specs.Ready.{directions, out, queued}
use Rattle.kom_entering.specs.declared.lists.Coming.{Coming}
use Rattle.kom_entering.specs.declared.lists.Entering.{Entering}
use Rattle.kom_entering.specs.Lists.{IsEntering, numbers_into}
use Rattle.kom_entering.specs.Standing.{StandsAfter}
use Rattle.kom_refine.specs.Points.{StandsAt, start_of}
use Rattle.kom_refine.specs.States.{State}
use Rattle.kom_refine.specs.Steps.{HaveCome, SameQueues}
use Rattle.kom_state.specs.Parts.{Parts, state_of}
use Rattle.kom_wakes.specs.Laws.{queue_length}
use Rattle.kom_coming.specs.Directions.{AreThere, AreBelow}

-- what comes in by an entry comes into directions that are there, also where control items were put
-- before
abbrev pub ComingsAreThere : Type 0
ComingsAreThere = (S : Declarations) (P : History) (e : Entry) (v : Entering) (m put : State)
    → StandsAt S (start_of P) m → SameQueues m put → IsEntering S P e v → AreThere v.comings put

-- once these have come in, what enters by the entry has come
abbrev pub EnteringHasCome : Type 0
EnteringHasCome = (S : Declarations) (P : History) (e : Entry) (v : Entering) (m put n : State)
    → StandsAt S (start_of P) m → SameQueues m put → IsEntering S P e v → HaveCome (numbers_into v.comings) put n
    → HaveCome (λ x d. map (λ q. q.no) (entering S P e x d)) put n

-- each offer comes into a direction once at most
abbrev pub ComingsFit : Type 0
ComingsFit = (S : Declarations) (P : History) (e : Entry) (v : Entering) (x : ℕ) (d : Dir) → IsEntering S P e v → length (numbers_into v.comings x d) ≤ v.offers

-- whoever is at an end of a living channel was created
abbrev pub ReceiversAreMade : Type 0
ReceiversAreMade = (S : Declarations) (P : History) (v : Parts) → StandsAfter S P v → AreBelow (length (state_of v).nodes) (state_of v)

-- as many more wait in the channels of the record as came in
abbrev pub QueuedRises : Type 0
QueuedRises = (S : Declarations) (P : History) (comings : List Coming) (m n : State) → StandsAt S (start_of P) m → AreThere comings m → HaveCome (numbers_into comings) m n
    → sum_by (λ x. queue_length (n.queues x.0 x.1)) (directions S P) ≡ queued S P + length comings

-- as many more went out as the entry of a handling has goings
abbrev pub OutRises : Type 0
OutRises = (S : Declarations) (P : History) (w c took : ℕ) (o : Outcome) (to : Option ℕ) (places : List ℕ) (v : Entering)
    → IsEntering S P (Did w c took o to places) v → out S (Did w c took o to places ∷ P) ≡ out S P + length v.goings

-- the places of the offers of a handling, and the position of its entry, are numbers of 32 bits
abbrev pub PlacesFit : Type 0
PlacesFit = (S : Declarations) (Z : Plan) (P : History) (w c took : ℕ) (item : Item) (body : Body) (effects : List Effect) (to : Option ℕ) (places : List ℕ)
    → PlanFits S Z → IsLegal S Z (Did w c took (Done body effects) to places ∷ P) → item_at P took ≡ Some item → (length effects + 2 < 2 ^ 32) × (length P < 2 ^ 32)
