-- The laws by which the state of a run follows its record, entry by entry.
use Rattle.std.specs.Prelude.{◌≡◌, ◌<◌, ℕ, List, ◌∷◌, length, map, Option, Some, None}
use Rattle.kom_base.specs.Lists.{first}
use Rattle.kom_lang.specs.Declarations.{Declarations}
use Rattle.kom_lang.specs.declared.body.Body.{Body}
use Rattle.kom_lang.specs.declared.body.Effect.{Effect}
use Rattle.kom_record.specs.declared.plan.Plan.{Plan}
use Rattle.kom_record.specs.declared.item.Item.{Item}
use Rattle.kom_record.specs.declared.entry.Outcome.TheVariants as outcome
use Rattle.kom_record.specs.declared.entry.Release.{Release}
use Rattle.kom_record.specs.declared.entry.Entry.TheVariants.{Took, Did, Moved}
use Rattle.kom_record.specs.Entries.{History, acts, item_at}
use Rattle.kom_record.specs.Instances.{born}
use Rattle.kom_record.specs.Queues.{entering}
use Rattle.kom_record.specs.Controls.{control_waiting, putting, put_by_item}
use Rattle.kom_record.specs.Bodies.{catches}
use Rattle.kom_record.specs.Legal.{IsLegal}
use Rattle.kom_refine.specs.Firsts.{Front, IsFirst, TakesNext}
use Rattle.kom_refine.specs.States.{State}
use Rattle.kom_refine.specs.Points.{Point, acts_at, act_of, start_of, with_act, before_effects_of, StandsAt, IsFresh, AreByCreated}
use Rattle.kom_refine.specs.Steps.{IsTaken, ArePut, HaveCome, IsEnded, IsEffect, AreEffects}

-- a Took takes the first item out of where it waits
abbrev pub TookFollows : Type 0
TookFollows = (S : Declarations) (Z : Plan) (P : History) (w c : ℕ) (item : Item) (m n : State)
    → IsLegal S Z (Took w c item ∷ P) → IsTaken c item m n → StandsAt S (start_of P) m → StandsAt S (start_of (Took w c item ∷ P)) n

-- a Moved brings what it releases into the channels
abbrev pub MovedFollows : Type 0
MovedFollows = (S : Declarations) (Z : Plan) (P : History) (w t : ℕ) (released : List Release) (m n : State)
    → IsLegal S Z (Moved w t released ∷ P) → HaveCome (λ x d. map (λ q. q.no) (entering S P (Moved w t released) x d)) m n
    → StandsAt S (start_of P) m → StandsAt S (start_of (Moved w t released ∷ P)) n

-- a Void changes nothing
abbrev pub VoidFollows : Type 0
VoidFollows = (S : Declarations) (Z : Plan) (P : History) (w c took : ℕ) (to : Option ℕ) (places : List ℕ) (m : State)
    → IsLegal S Z (Did w c took outcome.Void to places ∷ P) → StandsAt S (start_of P) m → StandsAt S (start_of (Did w c took outcome.Void to places ∷ P)) m

-- a fault is put to whom it reaches, and leaves the body passive
abbrev pub FaultFollows : Type 0
FaultFollows = (S : Declarations) (Z : Plan) (P : History) (w c took number : ℕ) (to : Option ℕ) (places : List ℕ) (m k n : State)
    → IsLegal S Z (Did w c took (outcome.Fault number) to places ∷ P)
    → ArePut (putting S P (Did w c took (outcome.Fault number) to places)) m k → IsEnded (catches S) c (outcome.Fault number) k n
    → StandsAt S (start_of P) m → StandsAt S (start_of (Did w c took (outcome.Fault number) to places ∷ P)) n

-- one effect, at a point to which nothing has come that it creates
abbrev pub EffectFollows : Type 0
EffectFollows = (S : Declarations) (p : Point) (c : ℕ) (item : Item) (e : Effect) (m n : State)
    → IsFresh S p → IsEffect S p c item e m n → StandsAt S p m → StandsAt S (with_act S p (act_of c item e)) n

-- after an effect, nothing has come to what is created later
abbrev pub EffectsStayFresh : Type 0
EffectsStayFresh = (S : Declarations) (p : Point) (c : ℕ) (item : Item) (e : Effect)
    → AreByCreated S (acts p.before) → c < length (born S (acts_at p)) → IsFresh S p → IsFresh S (with_act S p (act_of c item e))

-- a handling: what follows from its item is put, what it offers comes into the channels, its effects
-- come one after another, and its body is in force
abbrev pub DoneFollows : Type 0
DoneFollows = (S : Declarations) (Z : Plan) (P : History) (w c took : ℕ) (item : Item) (body : Body) (effects : List Effect) (to : Option ℕ) (places : List ℕ) (m put come acted n : State)
    → IsLegal S Z (Did w c took (outcome.Done body effects) to places ∷ P) → item_at P took ≡ Some item
    → ArePut (λ d. put_by_item S P d c body item) m put
    → HaveCome (λ x d. map (λ q. q.no) (entering S P (Did w c took (outcome.Done body effects) to places) x d)) put come
    → AreEffects S (before_effects_of S P w c took body effects to places) c item effects come acted
    → IsEnded (catches S) c (outcome.Done body effects) acted n
    → StandsAt S (start_of P) m → StandsAt S (start_of (Did w c took (outcome.Done body effects) to places ∷ P)) n

-- a component for which no control item waits takes the event at the first of the fronts for it, and nothing
-- where there is none
abbrev pub NextIsFirst : Type 0
NextIsFirst = (S : Declarations) (P : History) (m : State) (c : ℕ) (f : Option Front)
    → StandsAt S (start_of P) m → IsFirst m c f → first (control_waiting S P c) ≡ None → TakesNext S P c f
