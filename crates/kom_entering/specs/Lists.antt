-- What an entry brings into channels, what of it goes out, and which answers reach nothing.
use Rattle.std.specs.Prelude.{◌≡◌, ℕ, ◌+◌, true, false, not, ◌&&◌, ◌==◌, if◌then◌else◌, List, [], ◌∷◌, ◌++◌, length, map, Option, Some, None}
use Rattle.std.specs.List.{filter_map}
use Rattle.kom_base.specs.declared.numbers.Dir.{Dir}
use Rattle.kom_base.specs.declared.numbers.EntryNo.{EntryNo}
use Rattle.kom_base.specs.declared.numbers.Half.{Half}
use Rattle.kom_base.specs.declared.values.Event.{Event}
use Rattle.kom_base.specs.Lists.{if_so}
use Rattle.kom_base.specs.Numbers.{same_dir}
use Rattle.kom_lang.specs.Declarations.{Declarations}
use Rattle.kom_record.specs.declared.item.Back.{Back}
use Rattle.kom_record.specs.declared.entry.Entry.{Entry}
use Rattle.kom_record.specs.Entries.{History}
use Rattle.kom_record.specs.Channels.{goes_out}
use Rattle.kom_record.specs.Offers.{AtHalf, Offer, offers}
use Rattle.kom_record.specs.Queues.{enters, entering, is_answer, reaches_a_channel, unreached}
use Rattle.kom_record.specs.Time.{Outgoing, outgoing_by, outgoing_of}
use Rattle.kom_entering.specs.declared.lists.Coming.{Coming}
use Rattle.kom_entering.specs.declared.lists.Going.{Going}
use Rattle.kom_entering.specs.declared.lists.Entering.{Entering}

abbrev pub number_into : ℕ → Dir → Coming → Option EntryNo
number_into x d q = if q.chan == x && same_dir q.dir d then Some q.no else None

-- the numbers that come into direction d of channel x, in order
abbrev pub numbers_into : List Coming → ℕ → Dir → List EntryNo
numbers_into qs x d = filter_map (number_into x d) qs

-- the number of the next offer
abbrev pub next_number : Entering → EntryNo
next_number v = record { position = v.position; place = v.offers }

abbrev pub going_of : Outgoing → Going
going_of o = record { chan = o.chan; no = o.no }

-- One more offer was noted, after the record P. Its number comes into each direction that it enters
-- and that does not lead out; it goes out where it enters one that does; and its place is noted where
-- it is an answer that enters none.
pub record IsOneMore (S : Declarations) (P : History) (o : Offer) (old new : Entering) : Type 0 where
  pub position : new.position ≡ old.position
  pub offers : new.offers ≡ old.offers + 1
  pub comings : (x : ℕ) (d : Dir) → numbers_into new.comings x d ≡ numbers_into old.comings x d ++ if_so (enters S P x d o && not (goes_out S x d)) (next_number old ∷ [])
  pub goings : new.goings ≡ old.goings ++ map going_of (outgoing_by S P (old.offers, o))
  pub unreached : new.unreached ≡ old.unreached ++ if_so (is_answer S o.back && not (reaches_a_channel S P o)) (old.offers ∷ [])

-- these offers were noted, one after another
abbrev pub AreNoted : Declarations → History → List Offer → Entering → Entering → Type 0
AreNoted S P [] old new = old ≡ new
AreNoted S P (o ∷ os) old new = (k : Entering) × IsOneMore S P o old k × AreNoted S P os k new

-- the offer of an event at a half
abbrev pub offer_from : Half → Event → Back → Offer
offer_from h event back = record { origin = AtHalf h; event = event; back = back }

abbrev pub listed : Option Offer → List Offer
listed None = []
listed (Some o) = o ∷ []

-- The lists are those of the entry e after the record P: for each direction that does not lead out the
-- numbers of what enters it, in order; what goes out, in order of number; and the places of the
-- answers that enter no channel.
pub record IsEntering (S : Declarations) (P : History) (e : Entry) (v : Entering) : Type 0 where
  pub offers : v.offers ≡ length (offers P e)
  pub comings : (x : ℕ) (d : Dir) → goes_out S x d ≡ false → numbers_into v.comings x d ≡ map (λ q. q.no) (entering S P e x d)
  pub none_out : (x : ℕ) (d : Dir) → goes_out S x d ≡ true → numbers_into v.comings x d ≡ []
  pub goings : v.goings ≡ map going_of (outgoing_of S P e)
  pub unreached : v.unreached ≡ unreached S P e
