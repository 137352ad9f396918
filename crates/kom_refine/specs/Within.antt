-- The laws of a state within an entry: what is put and what comes, little by little, and the effects
-- of a handling, one after another.
use Rattle.std.specs.Prelude.{◌≡◌, ◌<◌, ℕ, List, [], ◌∷◌, ◌++◌, length, map, Option, Some}
use Rattle.kom_base.specs.declared.numbers.Dir.{Dir}
use Rattle.kom_base.specs.declared.numbers.EntryNo.{EntryNo}
use Rattle.kom_lang.specs.Declarations.{Declarations}
use Rattle.kom_lang.specs.declared.body.Body.{Body}
use Rattle.kom_lang.specs.declared.body.Effect.{Effect}
use Rattle.kom_record.specs.declared.plan.Plan.{Plan}
use Rattle.kom_record.specs.declared.item.Control.{Control as ControlItem}
use Rattle.kom_record.specs.declared.item.Item.{Item}
use Rattle.kom_record.specs.declared.entry.Outcome.{Outcome}
use Rattle.kom_record.specs.declared.entry.Outcome.TheVariants as outcome
use Rattle.kom_record.specs.declared.entry.Entry.TheVariants.{Did}
use Rattle.kom_record.specs.Entries.{History, acts, acts_for, item_at}
use Rattle.kom_record.specs.Instances.{born}
use Rattle.kom_record.specs.Queues.{Envelope, entering}
use Rattle.kom_record.specs.Controls.{put_by_item}
use Rattle.kom_record.specs.Bodies.{catches}
use Rattle.kom_record.specs.Legal.{IsLegal}
use Rattle.kom_refine.specs.States.{State}
use Rattle.kom_refine.specs.Points.{Point, acts_at, start_of, with_put, with_came, with_entry, with_effects, before_effects_of, StandsAt, IsFresh, AreByCreated}
use Rattle.kom_refine.specs.Steps.{ArePut, HaveCome, IsEnded, IsEffect}

-- ---- little by little

-- nothing is put, and nothing comes
pub record NothingAdded (m : State) : Type 0 where
  pub put : ArePut (λ c. []) m m
  pub come : HaveCome (λ x d. []) m m

abbrev pub NothingIsAdded : Type 0
NothingIsAdded = (m : State) → NothingAdded m

-- what is put after more was put
abbrev pub PutsAddUp : Type 0
PutsAddUp = (before more all : ℕ → List ControlItem) (m k n : State) → ((c : ℕ) → all c ≡ before c ++ more c) → ArePut before m k → ArePut more k n → ArePut all m n

abbrev pub ComesAddUp : Type 0
ComesAddUp = (before more all : ℕ → Dir → List EntryNo) (m k n : State) → ((x : ℕ) (d : Dir) → all x d ≡ before x d ++ more x d) → HaveCome before m k → HaveCome more k n → HaveCome all m n

-- ---- at a point

abbrev pub PutsFollow : Type 0
PutsFollow = (S : Declarations) (p : Point) (more : ℕ → List ControlItem) (m n : State) → ArePut more m n → StandsAt S p m → StandsAt S (with_put p more) n

abbrev pub ComesFollow : Type 0
ComesFollow = (S : Declarations) (p : Point) (more : ℕ → Dir → List Envelope) (m n : State) → HaveCome (λ x d. map (λ q. q.no) (more x d)) m n → StandsAt S p m → StandsAt S (with_came p more) n

-- the body of the handling is in force
abbrev pub EndsFollow : Type 0
EndsFollow = (S : Declarations) (p : Point) (w c took : ℕ) (o : Outcome) (to : Option ℕ) (places : List ℕ) (m n : State)
    → IsEnded (catches S) c o m n → StandsAt S p m → StandsAt S (with_entry p (Did w c took o to places)) n

-- the points are of the same record, effects and bodies, and the same was put and came
pub record IsSamePoint (p q : Point) : Type 0 where
  pub before : p.before ≡ q.before
  pub mine : p.mine ≡ q.mine
  pub put : (c : ℕ) → p.put c ≡ q.put c
  pub came : (x : ℕ) (d : Dir) → p.came x d ≡ q.came x d
  pub ended : p.ended ≡ q.ended

abbrev pub SamePointsFollow : Type 0
SamePointsFollow = (S : Declarations) (p q : Point) (m : State) → IsSamePoint p q → StandsAt S p m → StandsAt S q m

-- ---- a handling, effect by effect

-- nothing has come to what a handling creates
abbrev pub HandlingsBeginFresh : Type 0
HandlingsBeginFresh = (S : Declarations) (Z : Plan) (P : History) (w c took : ℕ) (body : Body) (effects : List Effect) (to : Option ℕ) (places : List ℕ)
    → IsLegal S Z P → IsFresh S (before_effects_of S P w c took body effects to places)

-- what follows from the item is put, and then what the entry offers comes into the channels
abbrev pub HandlingsBegin : Type 0
HandlingsBegin = (S : Declarations) (P : History) (w c took : ℕ) (item : Item) (body : Body) (effects : List Effect) (to : Option ℕ) (places : List ℕ) (m put come : State)
    → item_at P took ≡ Some item → ArePut (λ d. put_by_item S P d c body item) m put
    → HaveCome (λ x d. map (λ q. q.no) (entering S P (Did w c took (outcome.Done body effects) to places) x d)) put come
    → StandsAt S (start_of P) m → StandsAt S (before_effects_of S P w c took body effects to places) come

-- the effects up to a point of the handling are those before it in the record and its own so far
pub record IsWithin (S : Declarations) (P : History) (c : ℕ) (item : Item) (before : List Effect) (p : Point) : Type 0 where
  pub record_is : p.before ≡ P
  pub acts_are : acts_at p ≡ acts_for c (Some item) before ++ acts P
  pub fresh : IsFresh S p

abbrev pub HandlingsAreWithin : Type 0
HandlingsAreWithin = (S : Declarations) (Z : Plan) (P : History) (w c took : ℕ) (item : Item) (body : Body) (effects : List Effect) (to : Option ℕ) (places : List ℕ) (before : List Effect)
    → IsLegal S Z P → c < length (born S (acts P)) → IsWithin S P c item before (with_effects S (before_effects_of S P w c took body effects to places) c item before)

-- one effect more
abbrev pub HandlingsGoOn : Type 0
HandlingsGoOn = (S : Declarations) (Z : Plan) (P : History) (w c took : ℕ) (item : Item) (body : Body) (effects : List Effect) (to : Option ℕ) (places : List ℕ) (before : List Effect) (e : Effect) (m n : State)
    → IsLegal S Z P → c < length (born S (acts P))
    → IsEffect S (with_effects S (before_effects_of S P w c took body effects to places) c item before) c item e m n
    → StandsAt S (with_effects S (before_effects_of S P w c took body effects to places) c item before) m
    → StandsAt S (with_effects S (before_effects_of S P w c took body effects to places) c item (before ++ e ∷ [])) n

-- after all its effects the body is in force, and the entry is in the record
abbrev pub HandlingsEnd : Type 0
HandlingsEnd = (S : Declarations) (Z : Plan) (P : History) (w c took : ℕ) (item : Item) (body : Body) (effects : List Effect) (to : Option ℕ) (places : List ℕ) (m n : State)
    → IsLegal S Z (Did w c took (outcome.Done body effects) to places ∷ P) → item_at P took ≡ Some item → IsEnded (catches S) c (outcome.Done body effects) m n
    → StandsAt S (with_effects S (before_effects_of S P w c took body effects to places) c item effects) m → StandsAt S (start_of (Did w c took (outcome.Done body effects) to places ∷ P)) n

-- in a legal record each effect is by a component that was created before
abbrev pub EffectsAreByCreated : Type 0
EffectsAreByCreated = (S : Declarations) (Z : Plan) (P : History) → IsLegal S Z P → AreByCreated S (acts P)
