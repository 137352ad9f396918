-- What a scribe has seen, and the texts that are written.
use Rattle.std.specs.Prelude.{◌≡◌, ℕ, Bool, if◌then◌else◌, List, [], ◌++◌, Option}
use Rattle.std.specs.Option.{option_map}
use Rattle.kom_io.specs.Texts.{AddsPrefix}
use Rattle.kom_lang.specs.Declarations.{Declarations}
use Rattle.kom_record.specs.declared.plan.Plan.{Plan}
use Rattle.kom_record.specs.Entries.{History, acts}
use Rattle.kom_record.specs.Ready.{is_finished}
use Rattle.kom_record.specs.Trace.{Text, end_lines, joined, trace_text}
use Rattle.kom_scribe.specs.Drafts.{Knows}
use Rattle.kom_trace.specs.declared.scribe.Scribe.{Scribe}
use Rattle.kom_trace.specs.declared.writing.Traced.{Traced}
use Rattle.kom_trace.specs.declared.writing.Traced.TheVariants.{Whole, WriteFault, Memory}
use Rattle.kom_trace.specs.Counting.{HasCounted}

-- the scribe knows and has counted what these entries come to
pub record HasSeen (s : Scribe) (P : History) : Type 0 where
  pub knows : Knows s.names.declarations s.known (acts P)
  pub counted : HasCounted s.names.declarations s.counts P

-- what the text of a record ends with: its two last lines where it is finished
abbrev pub end_text : Declarations → Plan → History → Text
end_text S Z R = joined (if is_finished S Z R then end_lines S Z R else [])

-- what is written of a record: its text, or where `brief` what the text ends with
abbrev pub written_of : Bool → List Text → Declarations → Plan → History → Text
written_of brief names S Z R = if brief then end_text S Z R else trace_text names S Z R

-- the whole text was added, or by another answer a prefix of it
abbrev pub Traces : Traced → Text → Option (List ℕ) → Option (List ℕ) → Type 0
Traces Whole text before after = after ≡ option_map (λ written. written ++ text) before
Traces WriteFault text before after = AddsPrefix text before after
Traces Memory text before after = AddsPrefix text before after

-- the front of the text was added, and the rest is kept for later; or by another answer a prefix of it
-- was added
abbrev pub Gathers : Traced → Text → Text → Option (List ℕ) → Option (List ℕ) → Type 0
Gathers Whole text kept before after = (out : Text) × (text ≡ out ++ kept) × (after ≡ option_map (λ written. written ++ out) before)
Gathers WriteFault text kept before after = AddsPrefix text before after
Gathers Memory text kept before after = AddsPrefix text before after
