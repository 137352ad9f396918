-- Which records are legal: each entry is allowed after those before it.
use Rattle.std.specs.Prelude.{◌≡◌, ℕ, Bool, true, false, not, ◌==◌, IsTrue, List, [], ◌∷◌, Option, Some}
use Rattle.std.specs.List.{list_any, find}
use Rattle.kom_lang.specs.Declarations.{Declarations}
use Rattle.kom_lang.specs.declared.body.Body.{Body}
use Rattle.kom_record.specs.declared.plan.Plan.{Plan}
use Rattle.kom_record.specs.declared.item.Item.{Item}
use Rattle.kom_record.specs.declared.entry.Outcome.{Outcome}
use Rattle.kom_record.specs.declared.entry.Outcome.TheVariants as outcome
use Rattle.kom_record.specs.declared.entry.Release.{Release}
use Rattle.kom_record.specs.declared.entry.Entry.{Entry}
use Rattle.kom_record.specs.declared.entry.Entry.TheVariants.{Took, Did, Moved}
use Rattle.kom_record.specs.Entries.{History, TakenJob, acts, in_hand}
use Rattle.kom_record.specs.Reaction.{Reacts}
use Rattle.kom_record.specs.Instances.{alive}
use Rattle.kom_record.specs.Bodies.{body_at}
use Rattle.kom_record.specs.Queues.{unreached}
use Rattle.kom_record.specs.Controls.{told}
use Rattle.kom_record.specs.Time.{due, batch}
use Rattle.kom_record.specs.Ready.{ready, next, ready_list, is_closed}

module _ (S : Declarations) (Z : Plan) where
  -- worker w may take this item for c: it has no job in hand, c is ready, and the item is c's next
  pub record MayTake (P : History) (w c : ℕ) (item : Item) : Type 0 where
    pub free : IsTrue (not (list_any (λ job. job.w == w) (in_hand P)))
    pub ready : IsTrue (ready S Z P c)
    pub next : next S P c ≡ Some item

  -- what may come of a job: Void exactly where its component is no longer alive, else the reaction
  -- of the component's body to the item
  unfoldable pub MayEnd : Bool → Body → Item → Outcome → Type 0
  MayEnd false b item o = o ≡ outcome.Void
  MayEnd true b item o = Reacts S b item o

  -- worker w may end the job of the Took at a position so: the job is in hand and is one of w for c;
  -- `to` is who is told of the fault that is raised, and `places` are the answers that reach nothing
  pub record MayDo (P : History) (w c took : ℕ) (o : Outcome) (to : Option ℕ) (places : List ℕ) : Type 0 where
    pub job : TakenJob
    pub body : Body
    pub in_hand : find (λ j. j.took == took) (in_hand P) ≡ Some job
    pub worker : job.w ≡ w
    pub component : job.c ≡ c
    pub body_is : body_at S P c ≡ Some body
    pub outcome : MayEnd (alive S (acts P) c) body job.item o
    pub told : to ≡ told S P (Did w c took o to places) c
    pub unreached : places ≡ unreached S P (Did w c took o to places)

  -- the time may move to t and all that is due then is released: the record is not closed, no job is
  -- in hand, no component is ready, and t is the least due time
  pub record MayMove (P : History) (t : ℕ) (released : List Release) : Type 0 where
    pub not_closed : IsTrue (not (is_closed S Z P))
    pub no_job : in_hand P ≡ []
    pub none_ready : ready_list S Z P ≡ []
    pub due : due S Z P ≡ Some t
    pub all_released : released ≡ batch S Z P t

  abbrev pub IsAllowed : History → Entry → Type 0
  IsAllowed P (Took w c item) = MayTake P w c item
  IsAllowed P (Did w c took o to places) = MayDo P w c took o to places
  IsAllowed P (Moved w t released) = MayMove P t released

  unfoldable pub IsLegal : History → Type 0
  IsLegal [] = Unit {0}
  IsLegal (e ∷ P) = IsLegal P × IsAllowed P e
