-- What a scribe has seen, with one entry more.
use Rattle.std.proofs.Common.{◌≡◌, sym, [], ◌∷◌, length}
use Rattle.kom_lang.specs.Declarations.{Declarations}
use Rattle.kom_record.specs.declared.plan.Plan.{Plan}
use Rattle.kom_record.specs.declared.entry.Entry.{Entry}
use Rattle.kom_record.specs.declared.entry.Entry.TheVariants.{Took, Did, Moved}
use Rattle.kom_record.specs.Entries.{History, acts}
use Rattle.kom_record.specs.Legal.{IsLegal}
use Rattle.kom_scribe.specs.Drafts.{Knows}
use Rattle.kom_scribe.specs.Entries.{EndsTaken}
use Rattle.kom_trace.specs.declared.scribe.Scribe.{Scribe}
use Rattle.kom_trace.specs.Counting.{HasCounted}
use Rattle.kom_trace.specs.Seen.{HasSeen}
use Rattle.kom_trace.proofs.Jobs.{ends_taken}

pub sighted : (s : Scribe) → Knows s.names.declarations s.known [] → HasCounted s.names.declarations s.counts [] → HasSeen s []
unfolding acts
sighted s k n = record { knows = k; counted = n }

-- in a legal record each Did ends the job of an item that was taken
pub taken_in_legal : (S : Declarations) (Z : Plan) (P : History) (e : Entry) → ∥ IsLegal S Z (e ∷ P) ∥₁ → EndsTaken P e
taken_in_legal S Z P (Took w c item) l = tt
taken_in_legal S Z P (Moved w t released) l = tt
taken_in_legal S Z P (Did w c took o to places) l = ends_taken S Z P w c took o to places l

pub position_is : (s : Scribe) (P : History) → HasSeen s P → length P ≡ length s.counts.faults.items
position_is s P h = sym h.counted.positions
