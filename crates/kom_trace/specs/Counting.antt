-- What is counted of a record.
use Rattle.std.specs.Prelude.{◌≡◌, ℕ, Bool, not, ◌&&◌, ◌||◌, ◌==◌, nat_le, if◌then◌else◌, length, take, reverse, slice_get, Option, Some, None, is_some, is_none}
use Rattle.std.specs.List.{list_any, count_by}
use Rattle.std.specs.Option.{option_map, option_and_then}
use Rattle.kom_lang.specs.Declarations.{Declarations}
use Rattle.kom_lang.specs.Steps.{is_escalate}
use Rattle.kom_record.specs.declared.plan.Plan.{Plan}
use Rattle.kom_record.specs.declared.answers.Tally.{Tally}
use Rattle.kom_record.specs.declared.entry.Outcome.{Outcome}
use Rattle.kom_record.specs.declared.entry.Outcome.TheVariants as outcome
use Rattle.kom_record.specs.declared.entry.Entry.{Entry}
use Rattle.kom_record.specs.declared.entry.Entry.TheVariants.{Did}
use Rattle.kom_record.specs.Entries.{History, item_of, item_at}
use Rattle.kom_record.specs.Controls.{fault_in}
use Rattle.kom_record.specs.Ready.{is_took, is_moved, queued, out, has_more}
use Rattle.kom_record.specs.Trace.{is_did, first_unhandled}
use Rattle.kom_trace.specs.declared.counts.Counts.{Counts}

-- the record of the first n entries
abbrev pub first_entries : ℕ → History → History
first_entries n R = reverse (take n (reverse R))

-- the number of the fault that an entry took
abbrev pub fault_taken : Entry → Option ℕ
fault_taken e = option_and_then fault_in (item_of e)

-- the number of the fault that the entry at a position took
abbrev pub fault_at : Counts → ℕ → Option ℕ
fault_at n i = option_and_then (λ f. f) (slice_get n.faults.items i)

-- the number of the fault that an outcome raises; `f` is the one in hand
abbrev pub raised_by : Option ℕ → Outcome → Option ℕ
raised_by f outcome.Void = None
raised_by f (outcome.Fault n) = Some n
raised_by f (outcome.Done body effects) = if list_any is_escalate effects then f else None

-- the fault of which nobody is told, and who raised it
abbrev pub untold : Option ℕ → Option ℕ → ℕ → Option (ℕ × ℕ)
untold raised to c = if is_none to then option_map (λ n. (n, c)) raised else None

abbrev pub unhandled_by : Counts → Entry → Option (ℕ × ℕ)
unhandled_by n (Did w c took o to places) = untold (raised_by (fault_at n took) o) to c
unhandled_by n e = None

pub record HasCounted (S : Declarations) (n : Counts) (P : History) : Type 0 where
  pub positions : length n.faults.items ≡ length P
  pub faults : (i : ℕ) → fault_at n i ≡ option_and_then fault_in (item_at P i)
  pub took : n.took ≡ count_by is_took P
  pub did : n.did ≡ count_by is_did P
  pub moved : n.moved ≡ count_by is_moved P
  pub unhandled : n.unhandled ≡ first_unhandled S P

-- what a record leaves
pub record IsTallyOf (S : Declarations) (Z : Plan) (P : History) (t : Tally) : Type 0 where
  pub queued : t.queued ≡ queued S P
  pub out : t.out ≡ out S P
  pub more : t.more ≡ has_more S Z P

-- the record is closed, and it is finished, by what was counted of it and what it leaves
abbrev pub closed_by : Counts → Plan → Bool
closed_by n Z = is_some n.unhandled || nat_le Z.steps n.took || nat_le Z.instants n.moved

abbrev pub finished_by : Counts → Plan → Tally → Bool
finished_by n Z t = n.took == n.did && (closed_by n Z || not t.more)
