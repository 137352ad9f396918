-- What the program answers: its statuses, its output and the record that it keeps.
use Rattle.std.specs.Prelude.{◌≡◌, ◌⊎◌, ◌++◌, ℕ, Bool, true, false, ◌≤◌, List, Option, Some, None, codes, string_bytes}
use Rattle.std.specs.Option.{option_map}
use Rattle.std.specs.Arc.{arc_value}
use Rattle.kom_io.specs.Faults.{Rose}
use Rattle.kom_io.specs.Texts.{AddsPrefix}
use Rattle.kom_system.specs.Contents.{Contents, upgraded}
use Rattle.kom_sysprint.specs.Canonical.{canonical_text}
use Rattle.kom_make.specs.Texts.{system_text, scenario_text}
use Rattle.kom_record.specs.declared.plan.Plan.{Plan}
use Rattle.kom_record.specs.Kept.{Kept}
use Rattle.kom_trace.specs.Seen.{written_of}
use Rattle.kom_loading.specs.Loading.{Stands, IsRefused, refusal_line}
use Rattle.kom_loading.specs.Scenarios.{IsPlanOf, IsRefusedFor}
use Rattle.kompics.specs.declared.command.Form.{Form}
use Rattle.kompics.specs.declared.command.Form.TheVariants.{AsItIs, Upgraded}
use Rattle.kompics.specs.declared.top.Ended.{Ended}
use Rattle.kompics.specs.declared.answer.Answer.{Answer}
use Rattle.kompics.specs.declared.answer.Answer.TheVariants as answer
use Rattle.kompics.specs.Words.{print, sim, run, make, drill, usage_line, IsNoRun, IsNoCommand}
use Rattle.kompics.specs.Runs.{Drive, simulated, by_workers, IsRecordOf, status_of}

-- the bytes of each name, where a shelf tells them
abbrev pub Files : Type 0
Files = List ℕ → Option (List ℕ)

-- this holds of a text, where it is told
abbrev pub Told : Option (List ℕ) → (List ℕ → Type 0) → Type 0
Told file P = (text : List ℕ) → file ≡ Some text → P text

-- the text of a system in a form
abbrev pub text_in : Form → Contents → List ℕ
text_in AsItIs system = canonical_text system
text_in Upgraded system = canonical_text (upgraded system)

-- this was written
abbrev pub Adds : List ℕ → Option (List ℕ) → Option (List ℕ) → Type 0
Adds output before after = after ≡ option_map (λ written. written ++ output) before

-- this was written, all of it or a prefix, where the call that should end with the status `wanted`
-- ended with the status `status`
abbrev pub IsWritten : (status wanted : ℕ) (output : List ℕ) (before after : Option (List ℕ)) (faults_before faults_after : ℕ) → Type 0
IsWritten status wanted output before after faults_before faults_after =
    ((status ≡ wanted) × Adds output before after)
    ⊎ (((status ≡ 6) × Rose faults_before faults_after × AddsPrefix output before after)
    ⊎ ((status ≡ 7) × AddsPrefix output before after))

-- the status of a call that did what was asked: 0, or, where that was a run, what its record says
abbrev pub IsDone : (runs : Bool) → (status : ℕ) → Type 0
IsDone runs status = (status ≡ 0) ⊎ ((runs ≡ true) × ((status ≡ 3) ⊎ (status ≡ 4)))

-- `has_workers`: whether the call has workers to run with; to one that has none `run` is no command
module _ (has_workers : Bool) (words : List (List ℕ)) where
  -- the words ask for a run of the system of one file under the scenario of another
  pub data AsksFiles : Drive → (s z : List ℕ) → Type 0 where
    to_simulate : (s z : List ℕ) → words ≡ sim s z → AsksFiles simulated s z
    to_work : has_workers ≡ true → (s z : List ℕ) (n : ℕ) → 1 ≤ n → n ≤ 64 → words ≡ run s z n → AsksFiles (by_workers n) s z

  module _ (files : Files) where
    -- a file with a fault: that of the system, or, the system being accepted, that of the scenario
    pub data Stops (before after : List ℕ → ℕ) : Type 0 where
      at_printed : (form : Form) (s : List ℕ) → words ≡ print form s → Rose (before s) (after s) → Stops before after
      at_system : (drive : Drive) (s z : List ℕ) → AsksFiles drive s z → Rose (before s) (after s) → Stops before after
      at_scenario : (drive : Drive) (s z : List ℕ) (S : Contents) → AsksFiles drive s z → Told (files s) (λ text. Stands text S) → Rose (before z) (after z)
          → Stops before after

-- `system` and `scenario` are the templates of the generated texts
module _ (has_workers : Bool) (system scenario : List ℕ) (words : List (List ℕ)) (files : Files) where
  -- the words ask for a run of a system and a scenario with these texts, of which the two last lines
  -- of the trace are written where `brief`
  pub data AsksRun : Drive → (brief : Bool) (st zt : Option (List ℕ)) → Type 0 where
    of_files : (drive : Drive) (s z : List ℕ) → AsksFiles has_workers words drive s z → AsksRun drive false (files s) (files z)
    of_number : (n : ℕ) → 1 ≤ n → n ≤ 30 → words ≡ drill n → AsksRun simulated true (Some (system_text system n)) (Some (scenario_text scenario n))

  -- the words are of a command that reads a system with this text
  pub data AsksSystem : Option (List ℕ) → Type 0 where
    to_print : (form : Form) (s : List ℕ) → words ≡ print form s → AsksSystem (files s)
    to_run : (drive : Drive) (brief : Bool) (st zt : Option (List ℕ)) → AsksRun drive brief st zt → AsksSystem st

  -- how a call ends that meets no fault and no want of memory: the record that it keeps, its status,
  -- and what it writes
  pub data Ends : Option Kept → (status : ℕ) → (output : List ℕ) → Type 0 where
    no_command : IsNoCommand words → (has_workers ≡ true → IsNoRun words) → Ends None 2 usage_line
    made_system : (n : ℕ) → 1 ≤ n → n ≤ 30 → words ≡ make n (codes "system") → Ends None 0 (system_text system n)
    made_scenario : (n : ℕ) → 1 ≤ n → n ≤ 30 → words ≡ make n (codes "scenario") → Ends None 0 (scenario_text scenario n)
    printed : (form : Form) (s : List ℕ) (S : Contents)
        → words ≡ print form s → Told (files s) (λ text. Stands text S)
        → Ends None 0 (text_in form S)
    system_refused : (st : Option (List ℕ)) (rule line column : ℕ)
        → AsksSystem st → Told st (λ text. IsRefused text rule line column)
        → Ends None 1 (refusal_line (codes "system") rule line column)
    scenario_refused : (drive : Drive) (brief : Bool) (st zt : Option (List ℕ)) (S : Contents) (rule line column : ℕ)
        → AsksRun drive brief st zt → Told st (λ text. Stands text S) → Told zt (λ text. IsRefusedFor S text rule line column)
        → Ends None 1 (refusal_line (codes "scenario") rule line column)
    ran : (drive : Drive) (brief : Bool) (st zt : Option (List ℕ)) (S : Contents) (Z : Plan) (kept : Kept)
        → AsksRun drive brief st zt → Told st (λ text. Stands text S) → Told zt (λ text. IsPlanOf S text Z)
        → IsRecordOf drive S.declarations Z kept.history
        → Ends (Some kept) (status_of S.declarations Z kept.history) (written_of brief S.event_names S.declarations Z kept.history)

  -- The words ask for what can be done: a generated text; the text of a system whose file is told and
  -- breaks no rule; or, where `runs`, a run of two texts that are told and break none.
  pub data IsAccepted : (runs : Bool) → Type 0 where
    to_make_system : (n : ℕ) → 1 ≤ n → n ≤ 30 → words ≡ make n (codes "system") → IsAccepted false
    to_make_scenario : (n : ℕ) → 1 ≤ n → n ≤ 30 → words ≡ make n (codes "scenario") → IsAccepted false
    to_write : (form : Form) (s text : List ℕ) (S : Contents) → words ≡ print form s → files s ≡ Some text → Stands text S → IsAccepted false
    to_go : (drive : Drive) (brief : Bool) (st zt : Option (List ℕ)) (text scene : List ℕ) (S : Contents) (Z : Plan)
        → AsksRun drive brief st zt → st ≡ Some text → Stands text S → zt ≡ Some scene → IsPlanOf S scene Z → IsAccepted true

  -- the words ask for a text that is told and breaks a rule: a system, or a scenario for an accepted one
  pub data HasBroken : Type 0 where
    in_system : (st : Option (List ℕ)) (text : List ℕ) (rule line column : ℕ)
        → AsksSystem st → st ≡ Some text → IsRefused text rule line column → HasBroken
    in_scenario : (drive : Drive) (brief : Bool) (st zt : Option (List ℕ)) (text scene : List ℕ) (S : Contents) (rule line column : ℕ)
        → AsksRun drive brief st zt → st ≡ Some text → Stands text S → zt ≡ Some scene → IsRefusedFor S scene rule line column → HasBroken

  -- what is known of a call before anything is written
  abbrev pub IsAnswer : Answer → (before after : List ℕ → ℕ) → Type 0
  IsAnswer answer.NoCommand before after = Ends None 2 usage_line
  IsAnswer (answer.Text text) before after = Ends None 0 text.items
  IsAnswer (answer.Refused line) before after = Ends None 1 (string_bytes line)
  IsAnswer (answer.Run run) before after = Ends (Some run.ran.kept) run.ran.status (written_of run.brief (arc_value run.system).event_names (arc_value run.system).declarations run.plan run.ran.kept.history)
  IsAnswer answer.ShelfFault before after = Stops has_workers words files before after
  IsAnswer answer.Memory before after = Unit {0}

  -- How a call ended: with a status up to 4 as it should, with all that it should write; with 5 by a
  -- fault of the shelf, with nothing written; with 6 by a fault of the sink, and with 7 for want of
  -- memory, with a prefix of what it should write. What is accepted is done, and what breaks a rule is
  -- refused, unless with 5 to 7. `shelf`, `shelf_after`, `sink` and `sink_after` are
  -- the counts of faults, `before` and `after` what was written.
  pub record IsEnd (e : Ended) (shelf shelf_after : List ℕ → ℕ) (sink sink_after : ℕ) (before after : Option (List ℕ)) : Type 0 where
    pub status : e.status ≤ 7
    pub ended : e.status ≤ 4 → (output : List ℕ) × Ends e.kept e.status output × Adds output before after
    pub shelf_fault : e.status ≡ 5 → Stops has_workers words files shelf shelf_after × (e.kept ≡ None) × (after ≡ before)
    pub sink_fault : e.status ≡ 6 → Rose sink sink_after × ((status : ℕ) × (output : List ℕ) × Ends e.kept status output × AddsPrefix output before after)
    pub memory : e.status ≡ 7 → ((e.kept ≡ None) × (after ≡ before)) ⊎ ((status : ℕ) × (output : List ℕ) × Ends e.kept status output × AddsPrefix output before after)
    pub complete : (runs : Bool) → IsAccepted runs → IsDone runs e.status ⊎ (5 ≤ e.status)
    pub refused : HasBroken → (e.status ≡ 1) ⊎ (5 ≤ e.status)
