-- The laws by which the environment stands for a record.
use Rattle.std.specs.Prelude.{◌≡◌, ◌≤◌, ℕ, true, false, filter, List, [], ◌∷◌, ◌++◌, length, slice_get, Option, Some}
use Rattle.kom_lang.specs.Declarations.{Declarations, kind_of}
use Rattle.kom_lang.specs.declared.kind.PortDecl.{PortDecl}
use Rattle.kom_record.specs.declared.plan.Plan.{Plan}
use Rattle.kom_record.specs.declared.item.Item.{Item}
use Rattle.kom_record.specs.declared.entry.Outcome.{Outcome}
use Rattle.kom_record.specs.declared.entry.Release.{Release}
use Rattle.kom_record.specs.declared.entry.Entry.{Entry}
use Rattle.kom_record.specs.declared.entry.Entry.TheVariants.{Took, Did, Moved}
use Rattle.kom_record.specs.Entries.{History}
use Rattle.kom_record.specs.Offers.{Offer}
use Rattle.kom_record.specs.Plans.{PlanFits}
use Rattle.kom_record.specs.Queues.{enters}
use Rattle.kom_record.specs.Time.{Outgoing, clock, outgoing, outgoing_by, outgoing_of, outward, scheduled, is_still_due, pending, due, batch}
use Rattle.kom_record.specs.Legal.{IsLegal}
use Rattle.kom_env.specs.Outside.{Outside, opened, absorbed, moved_on, clock_of, pending_of, due_of, batch_of, next_time, is_later}
use Rattle.kom_times.specs.Following.{IsButForRoom, Follows, FollowsWith}

-- What the environment tells is what the record says: its clock, what is pending and when the next of
-- it is due, and what is released at a time. The timers and messages to come are those that the
-- events which went out have scheduled, without the timers that a later event cancelled, each message
-- with the delay of its number, and without what was released.
pub record Tells (S : Declarations) (Z : Plan) (P : History) (v : Outside) : Type 0 where
  pub clock : clock_of v ≡ clock P
  pub waits : v.waits ≡ filter (is_still_due S P) (scheduled S Z (outgoing S P) 0 (outgoing S P))
  pub pending : pending_of v ≡ pending S Z P
  pub due : due_of v ≡ due S Z P
  pub batch : (t : ℕ) → batch_of v t ≡ batch S Z P t

abbrev pub TellsWhatIsPending : Type 0
TellsWhatIsPending = (S : Declarations) (Z : Plan) (P : History) (v : Outside) → IsLegal S Z P → Follows S Z P v → Tells S Z P v

-- the environment of a run that begins stands for the empty record
abbrev pub BeginsBeforeAll : Type 0
BeginsBeforeAll = (S : Declarations) (Z : Plan) (spare : ℕ) → Follows S Z [] (opened (kind_of S S.root.kind).ports Z spare)

-- a Took leaves the environment
abbrev pub StaysAtTook : Type 0
StaysAtTook = (S : Declarations) (Z : Plan) (P : History) (w c : ℕ) (item : Item) (v : Outside) → Follows S Z P v → Follows S Z (Took w c item ∷ P) v

-- before the events of a Did, as each of them goes out, and after all of them
abbrev pub FollowsADid : Type 0
FollowsADid = (S : Declarations) (Z : Plan) (P : History)
    → ((v : Outside) → Follows S Z P v → FollowsWith S Z P [] v)
    × ((gone : List Outgoing) (o : Outgoing) (v u : Outside) → FollowsWith S Z P gone v → IsButForRoom (absorbed v o.chan o.no o.event) u → FollowsWith S Z P (gone ++ o ∷ []) u)
    × ((w c took : ℕ) (outcome : Outcome) (to : Option ℕ) (places : List ℕ) (v : Outside)
    → FollowsWith S Z P (outgoing_of S P (Did w c took outcome to places)) v → Follows S Z (Did w c took outcome to places ∷ P) v)

-- the next release is the batch of a Moved and goes to its time, and the environment then stands for
-- the record with the Moved
pub record Releases (S : Declarations) (Z : Plan) (P : History) (w t : ℕ) (released : List Release) (v u : Outside) : Type 0 where
  pub time : next_time v ≡ t
  pub all : batch_of v (next_time v) ≡ released
  pub follows : Follows S Z (Moved w t released ∷ P) u

abbrev pub FollowsAMoved : Type 0
FollowsAMoved = (S : Declarations) (Z : Plan) (P : History) (w t : ℕ) (released : List Release) (v u : Outside)
    → IsLegal S Z (Moved w t released ∷ P) → Follows S Z P v → IsButForRoom (moved_on v) u → Releases S Z P w t released v u

-- ---- what the calls ask for

-- events go out in order of number
abbrev pub GoOutInOrder : Type 0
GoOutInOrder = (S : Declarations) (Z : Plan) (P : History) (e : Entry) (gone rest : List Outgoing) (o : Outgoing) (v : Outside)
    → outgoing_of S P e ≡ gone ++ o ∷ rest → FollowsWith S Z P gone v → is_later v.latest o.no ≡ true

-- a legal record has at most 100,000 releases
abbrev pub ReleasesAreFew : Type 0
ReleasesAreFew = (S : Declarations) (Z : Plan) (P : History) (gone : List Outgoing) (v : Outside)
    → PlanFits S Z → IsLegal S Z P → FollowsWith S Z P gone v → v.releases ≤ 100000

-- an offer that enters the channel of a port of the root, towards the environment, goes out by that
-- one alone; an offer that enters none does not go out
abbrev pub goes_out_by : History → ℕ × Offer → ℕ → Outgoing
goes_out_by P q x = record { no = record { position = length P; place = q.0 }; chan = x; event = q.1.event; at = clock P }

abbrev pub GoesOutOnce : Type 0
GoesOutOnce = (S : Declarations) (P : History) (q : ℕ × Offer)
    → ((x : ℕ) (port : PortDecl) → slice_get (kind_of S S.root.kind).ports x ≡ Some port → enters S P x (outward port) q.1 ≡ true → outgoing_by S P q ≡ goes_out_by P q x ∷ [])
    × (((x : ℕ) (port : PortDecl) → slice_get (kind_of S S.root.kind).ports x ≡ Some port → enters S P x (outward port) q.1 ≡ false) → outgoing_by S P q ≡ [])
