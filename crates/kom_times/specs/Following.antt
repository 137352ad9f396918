-- What the environment has come to after a record, as its calls change it.
use Rattle.std.specs.Prelude.{◌≡◌, List, [], ◌∷◌}
use Rattle.kom_lang.specs.Declarations.{Declarations, kind_of}
use Rattle.kom_record.specs.declared.plan.Plan.{Plan}
use Rattle.kom_record.specs.declared.entry.Entry.TheVariants.{Took, Did, Moved}
use Rattle.kom_record.specs.Entries.{History}
use Rattle.kom_record.specs.Time.{Outgoing, outgoing_of}
use Rattle.kom_env.specs.Outside.{Outside, opened, absorbed, moved_on}

-- one event after another is absorbed
abbrev pub with_all : Outside → List Outgoing → Outside
with_all v [] = v
with_all v (o ∷ os) = with_all (absorbed v o.chan o.no o.event) os

-- The environment begins with the plan. A Did gives it each event that goes out, in order of number,
-- and a Moved is its release of all that is due next.
unfoldable pub come_to : Declarations → Plan → History → Outside
come_to S Z [] = opened (kind_of S S.root.kind).ports Z 0
come_to S Z (Took w c item ∷ P) = come_to S Z P
come_to S Z (Did w c took outcome to places ∷ P) = with_all (come_to S Z P) (outgoing_of S P (Did w c took outcome to places))
come_to S Z (Moved w t released ∷ P) = moved_on (come_to S Z P)

-- the two are the same but for the room that was reserved
abbrev pub IsButForRoom : Outside → Outside → Type 0
IsButForRoom u v = v ≡ record u { spare = v.spare }

-- the environment stands for the record
abbrev pub Follows : Declarations → Plan → History → Outside → Type 0
Follows S Z P v = IsButForRoom (come_to S Z P) v

-- the environment stands for the record and for these events of the next entry, which went out so far
abbrev pub FollowsWith : Declarations → Plan → History → List Outgoing → Outside → Type 0
FollowsWith S Z P gone v = IsButForRoom (with_all (come_to S Z P) gone) v
