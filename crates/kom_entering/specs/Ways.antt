-- Which directions a plain event enters that is offered at a half, read off the state.
use Rattle.std.specs.Prelude.{◌≡◌, ℕ, Bool, true, false, not, if◌then◌else◌, ◌&&◌, ◌||◌, ◌==◌, ◌++◌, ◌∷◌, [], slice_get, Option, Some, None}
use Rattle.std.specs.Option.{option_and_then, option_map_or}
use Rattle.kom_base.specs.declared.numbers.Dir.{Dir}
use Rattle.kom_base.specs.declared.numbers.Dir.TheVariants.{Plus, Minus}
use Rattle.kom_base.specs.declared.numbers.Half.{Half}
use Rattle.kom_base.specs.declared.values.Event.{Event}
use Rattle.kom_base.specs.Lists.{if_so}
use Rattle.kom_base.specs.Numbers.{opposite, same_dir, same_half}
use Rattle.kom_events.specs.Selectors.{matches}
use Rattle.kom_lang.specs.Declarations.{Declarations, kind_of}
use Rattle.kom_lang.specs.declared.kind.ChannelDecl.{ChannelDecl}
use Rattle.kom_numbers.specs.Numbering.{Numbering, leads_out, wire_at}
use Rattle.kom_record.specs.declared.item.Item.{Item}
use Rattle.kom_record.specs.declared.item.Item.TheVariants.{Control, Arrival}
use Rattle.kom_record.specs.Channels.{declared_selector}
use Rattle.kom_record.specs.Entries.{History, item_at}
use Rattle.kom_offered.specs.Laws.{begins_at}
use Rattle.kom_state.specs.Parts.{Parts, state_of}
use Rattle.kom_entering.specs.declared.lists.Entering.{Entering}
use Rattle.kom_entering.specs.Lists.{next_number, numbers_into}

-- one direction of the channel leads out
abbrev pub is_of_port : Numbering → ℕ → Bool
is_of_port n x = leads_out n x Plus || leads_out n x Minus

abbrev pub is_at : Half → Option Half → Bool
is_at h p = option_map_or (same_half h) p false

-- the declaration of a channel of a living instance; none for the channel of a port of the root
abbrev pub decl_by : Declarations → Parts → ℕ → Option ChannelDecl
decl_by S v x = option_and_then (λ q. option_and_then (λ b. slice_get (kind_of S b.kind).channels q.1) ((state_of v).bodies q.0)) (wire_at v.numbers x)

-- the selector of the direction lets the event pass, by the declaration of the channel
abbrev pub passes_in : Declarations → Dir → Event → Option ChannelDecl → Bool
passes_in S d event decl = option_map_or (λ decl. matches S.events (declared_selector decl d) event) decl true

-- the selector of the channel lets the event pass
abbrev pub passes_by : Declarations → Parts → ℕ → Dir → Event → Bool
passes_by S v x d event = passes_in S d event (decl_by S v x)

-- a plain event that is offered at the half enters the direction
abbrev pub enters_by : Declarations → Parts → Half → Event → ℕ → Dir → Bool
enters_by S v h event x d = begins_at h d ((state_of v).links x) && passes_by S v x d event

-- it enters the direction, which does not lead out
abbrev pub comes_into : Declarations → Parts → Half → Event → ℕ → Dir → Bool
comes_into S v h event x d = enters_by S v h event x d && not (leads_out v.numbers x d)

-- it enters the direction, which leads out
abbrev pub leaves_by : Declarations → Parts → Half → Event → ℕ → Dir → Bool
leaves_by S v h event x d = enters_by S v h event x d && leads_out v.numbers x d

-- it leaves by a direction of the channel
abbrev pub leaves_at : Declarations → Parts → Half → Event → ℕ → Bool
leaves_at S v h event x = leaves_by S v h event x Plus || leaves_by S v h event x Minus

-- a channel by which it leaves; none where it leaves by none
abbrev pub IsWayOut : Declarations → Parts → Half → Event → Option ℕ → Type 0
IsWayOut S v h event None = (x : ℕ) → leaves_at S v h event x ≡ false
IsWayOut S v h event (Some x) = leaves_at S v h event x ≡ true

-- the number of the next offer came into those directions of which a test tells, and nothing else changed
pub record HaveBeenNoted (test : ℕ → Dir → Bool) (old new : Entering) : Type 0 where
  pub position : new.position ≡ old.position
  pub offers : new.offers ≡ old.offers
  pub goings : new.goings ≡ old.goings
  pub unreached : new.unreached ≡ old.unreached
  pub comings : (x : ℕ) (d : Dir) → numbers_into new.comings x d ≡ numbers_into old.comings x d ++ if_so (test x d) (next_number old ∷ [])

-- the next offer goes out by the channel, and nothing else changed
abbrev pub HasGone : ℕ → Entering → Entering → Type 0
HasGone x old new = new ≡ record old { goings = old.goings ++ record { chan = x; no = next_number old } ∷ [] }

abbrev pub HasGoneBy : Option ℕ → Entering → Entering → Type 0
HasGoneBy None old new = new ≡ old
HasGoneBy (Some x) old new = HasGone x old new

-- the next offer is an answer that enters nothing, and nothing else changed
abbrev pub HasMissed : Entering → Entering → Type 0
HasMissed old new = new ≡ record old { unreached = old.unreached ++ old.offers ∷ [] }

-- the next offer goes out by direction d of channel x where that leads out, and else comes into it
abbrev pub IsNotedAs : Bool → ℕ → Dir → Entering → Entering → Type 0
IsNotedAs true x d old new = HasGone x old new
IsNotedAs false x d old new = HaveBeenNoted (λ y e. x == y && same_dir d e) old new

abbrev pub IsNotedIn : Numbering → ℕ → Dir → Entering → Entering → Type 0
IsNotedIn n x d old new = IsNotedAs (leads_out n x d) x d old new

abbrev pub IsWayTaken : Numbering → Option (ℕ × Dir) → Entering → Entering → Type 0
IsWayTaken n None old new = HasMissed old new
IsWayTaken n (Some w) old new = IsNotedIn n w.0 w.1 old new

-- the direction that an answer at a half enters, by the item to which it is one
abbrev pub way_against : Parts → Half → Item → Option (ℕ × Dir)
way_against v h (Control k) = None
way_against v h (Arrival x d n port side event back) = if begins_at h (opposite d) ((state_of v).links x) then Some (x, opposite d) else None

abbrev pub way_by : Parts → History → Half → ℕ → Option (ℕ × Dir)
way_by v P h s = option_and_then (way_against v h) (item_at P s)
