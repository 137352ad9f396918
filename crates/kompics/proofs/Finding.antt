-- From what is found on the way to the answer.
use Rattle.std.proofs.Common.{◌≡◌, ◌≤◌, ℕ, Bool, true, false, List, Option, Some, None, refl, sym, subst, arith}
use Rattle.std.specs.Prelude.{codes}
use Rattle.kom_io.specs.Faults.{Rose}
use Rattle.kom_system.specs.Contents.{Contents}
use Rattle.kom_record.specs.declared.plan.Plan.{Plan}
use Rattle.kom_record.specs.Plans.{PlanFits}
use Rattle.kom_record.specs.Kept.{Kept}
use Rattle.kom_loading.specs.Loading.{Stands, IsLoaded, IsRead, IsRefused}
use Rattle.kom_loading.specs.Scenarios.{IsPlanOf, IsPlanned, IsReadFor, IsRefusedFor, Fits}
use Rattle.kom_loading.specs.declared.system.Loaded.{Loaded}
use Rattle.kom_loading.specs.declared.system.Loaded.TheVariants as loaded
use Rattle.kom_loading.specs.declared.scenario.Planned.{Planned}
use Rattle.kom_loading.specs.declared.scenario.Planned.TheVariants as planned
use Rattle.kompics.specs.declared.command.Form.{Form}
use Rattle.kompics.specs.declared.answer.Answer.{Answer}
use Rattle.kompics.specs.declared.answer.Answer.TheVariants as answer
use Rattle.kompics.specs.declared.running.Run.{Run}
use Rattle.kom_make.specs.Texts.{system_text, scenario_text}
use Rattle.kom_trace.specs.Seen.{written_of}
use Rattle.kompics.specs.Runs.{Drive, IsRan}
use Rattle.kompics.specs.Words.{print, make, usage_line, IsNoRun, IsNoCommand}
use Rattle.kompics.specs.Found.{Refuses, IsNoSystem, IsNoPlan, IsText, IsOfRun}
use Rattle.kompics.specs.Top.{Files, Told, AsksFiles, to_simulate, to_work, Stops, at_printed, at_system, at_scenario, AsksRun, of_files, of_number, AsksSystem, to_print, to_run, Ends, no_command, made_system, made_scenario, printed, system_refused, scenario_refused, ran, IsAnswer}

-- a count rose after one that had not fallen
pub rose_after : (a b c : ℕ) → a ≤ b → Rose b c → Rose a c
rose_after a b c h r = omega arith

-- a plan that was found fits its system
pub plan_fits : (S : Contents) (found : Planned) (Z : Plan) → found ≡ planned.Plan Z → Fits S found → PlanFits S.declarations Z
plan_fits S found Z e f = subst (λ (p : Planned). Fits S p) e f

-- the system that was found is that of the text
pub stands : (st : Option (List ℕ)) (found : Loaded) (S : Contents) → found ≡ loaded.System S → IsLoaded found st → Told st (λ text. Stands text S)
stands st found S e l = subst (λ (f : Loaded). IsLoaded f st) e l

pub is_plan : (S : Contents) (zt : Option (List ℕ)) (found : Planned) (Z : Plan) → found ≡ planned.Plan Z → IsPlanned S found zt → Told zt (λ text. IsPlanOf S text Z)
is_plan S zt found Z e p = subst (λ (f : Planned). IsPlanned S f zt) e p

-- a text that was read is one that is told
some_is : (t u : List ℕ) → Some t ≡ Some u → t ≡ u
some_is t u e = cc

pub loaded_text : (found : Loaded) (text : List ℕ) → IsRead text found → IsLoaded found (Some text)
loaded_text (loaded.System S) text h = λ t e. subst (λ (x : List ℕ). Stands x S) (some_is text t e) h
loaded_text (loaded.Refused rule line column) text h = λ t e. subst (λ (x : List ℕ). IsRefused x rule line column) (some_is text t e) h
loaded_text loaded.ShelfFault text h = tt
loaded_text loaded.Memory text h = tt

pub planned_text : (S : Contents) (found : Planned) (text : List ℕ) → IsReadFor S text found → IsPlanned S found (Some text)
planned_text S (planned.Plan Z) text h = λ t e. subst (λ (x : List ℕ). IsPlanOf S x Z) (some_is text t e) h
planned_text S (planned.Refused rule line column) text h = λ t e. subst (λ (x : List ℕ). IsRefusedFor S x rule line column) (some_is text t e) h
planned_text S planned.ShelfFault text h = tt
planned_text S planned.Memory text h = tt

-- a text is no fault
pub text_is_no_fault : (found : Loaded) (text : List ℕ) → IsRead text found → found ≡ loaded.ShelfFault → ⊥
text_is_no_fault found text h e = subst (λ (f : Loaded). IsRead text f) e h

pub scenario_is_no_fault : (S : Contents) (found : Planned) (text : List ℕ) → IsReadFor S text found → found ≡ planned.ShelfFault → ⊥
scenario_is_no_fault S found text h e = subst (λ (f : Planned). IsReadFor S text f) e h

module _ (has_workers : Bool) (system scenario : List ℕ) (words : List (List ℕ)) (files : Files) (before after : List ℕ → ℕ) where
  refuses_system : (st : Option (List ℕ)) (rule line column : ℕ) (a : Answer) → AsksSystem has_workers system scenario words files st → Told st (λ text. IsRefused text rule line column)
      → Refuses (codes "system") rule line column a → IsAnswer has_workers system scenario words files a before after
  refuses_system st rule line column answer.NoCommand asks told r = absurd r
  refuses_system st rule line column (answer.Text text) asks told r = absurd r
  refuses_system st rule line column (answer.Refused text) asks told r = subst (λ (x : List ℕ). Ends has_workers system scenario words files None 1 x) (sym r) (system_refused st rule line column asks told)
  refuses_system st rule line column (answer.Run run) asks told r = absurd r
  refuses_system st rule line column answer.ShelfFault asks told r = absurd r
  refuses_system st rule line column answer.Memory asks told r = tt

  pub no_system : (st : Option (List ℕ)) (found : Loaded) (a : Answer) → AsksSystem has_workers system scenario words files st → IsLoaded found st
      → (found ≡ loaded.ShelfFault → Stops has_workers words files before after) → IsNoSystem found a → IsAnswer has_workers system scenario words files a before after
  no_system st (loaded.System S) a asks l stops r = absurd r
  no_system st (loaded.Refused rule line column) a asks l stops r = refuses_system st rule line column a asks l r
  no_system st loaded.ShelfFault a asks l stops r = subst (λ (x : Answer). IsAnswer has_workers system scenario words files x before after) (sym r) (stops refl)
  no_system st loaded.Memory a asks l stops r = subst (λ (x : Answer). IsAnswer has_workers system scenario words files x before after) (sym r) tt

  pub of_text : (form : Form) (s : List ℕ) (S : Contents) (a : Answer) → words ≡ print form s → Told (files s) (λ text. Stands text S)
      → IsText form S a → IsAnswer has_workers system scenario words files a before after
  of_text form s S answer.NoCommand w told r = absurd r
  of_text form s S (answer.Text text) w told r = subst (λ (x : List ℕ). Ends has_workers system scenario words files None 0 x) (sym r) (printed form s S w told)
  of_text form s S (answer.Refused line) w told r = absurd r
  of_text form s S (answer.Run run) w told r = absurd r
  of_text form s S answer.ShelfFault w told r = absurd r
  of_text form s S answer.Memory w told r = tt

  module _ (drive : Drive) (brief : Bool) (st zt : Option (List ℕ)) (S : Contents) (asks : AsksRun has_workers system scenario words files drive brief st zt) (accepted : Told st (λ text. Stands text S)) where
    refuses_scenario : (rule line column : ℕ) (a : Answer) → Told zt (λ text. IsRefusedFor S text rule line column)
        → Refuses (codes "scenario") rule line column a → IsAnswer has_workers system scenario words files a before after
    refuses_scenario rule line column answer.NoCommand told r = absurd r
    refuses_scenario rule line column (answer.Text text) told r = absurd r
    refuses_scenario rule line column (answer.Refused text) told r =
        subst (λ (x : List ℕ). Ends has_workers system scenario words files None 1 x) (sym r) (scenario_refused drive brief st zt S rule line column asks accepted told)
    refuses_scenario rule line column (answer.Run run) told r = absurd r
    refuses_scenario rule line column answer.ShelfFault told r = absurd r
    refuses_scenario rule line column answer.Memory told r = tt

    pub no_plan : (found : Planned) (a : Answer) → IsPlanned S found zt
        → (found ≡ planned.ShelfFault → Stops has_workers words files before after) → IsNoPlan found a → IsAnswer has_workers system scenario words files a before after
    no_plan (planned.Plan Z) a p stops r = absurd r
    no_plan (planned.Refused rule line column) a p stops r = refuses_scenario rule line column a p r
    no_plan planned.ShelfFault a p stops r = subst (λ (x : Answer). IsAnswer has_workers system scenario words files x before after) (sym r) (stops refl)
    no_plan planned.Memory a p stops r = subst (λ (x : Answer). IsAnswer has_workers system scenario words files x before after) (sym r) tt

    -- a run that came to its end
    ends_run : (Z : Plan) (run : Run) → Told zt (λ text. IsPlanOf S text Z) → IsRan drive S.declarations Z run.ran
        → Ends has_workers system scenario words files (Some run.ran.kept) run.ran.status (written_of brief S.event_names S.declarations Z run.ran.kept.history)
    ends_run Z run told r =
        subst (λ (n : ℕ). Ends has_workers system scenario words files (Some run.ran.kept) n (written_of brief S.event_names S.declarations Z run.ran.kept.history)) (sym r.status_is)
        (ran drive brief st zt S Z run.ran.kept asks accepted told r.record_is)

    pub of_run : (Z : Plan) (a : Answer) → Told zt (λ text. IsPlanOf S text Z)
        → IsOfRun drive S Z brief a → IsAnswer has_workers system scenario words files a before after
    of_run Z answer.NoCommand told r = absurd r
    of_run Z (answer.Text text) told r = absurd r
    of_run Z (answer.Refused line) told r = absurd r
    of_run Z (answer.Run run) told r = rw (r.0, r.1, r.2) (ends_run Z run told r.3)
    of_run Z answer.ShelfFault told r = absurd r
    of_run Z answer.Memory told r = tt

-- ---- texts that no file decides

module _ (system scenario : List ℕ) (words : List (List ℕ)) (files : Files) where
  pub unknown : IsNoCommand words → Ends false system scenario words files None 2 usage_line
  unknown w = no_command w (λ h. absurd (cc))

  module _ (has_workers : Bool) where
    pub of_system : (n : ℕ) (text : List ℕ) → 1 ≤ n → n ≤ 30 → words ≡ make n (codes "system") → text ≡ system_text system n
        → Ends has_workers system scenario words files None 0 text
    of_system n text some most w e = subst (λ (x : List ℕ). Ends has_workers system scenario words files None 0 x) (sym e) (made_system n some most w)

    pub of_scenario : (n : ℕ) (text : List ℕ) → 1 ≤ n → n ≤ 30 → words ≡ make n (codes "scenario") → text ≡ scenario_text scenario n
        → Ends has_workers system scenario words files None 0 text
    of_scenario n text some most w e = subst (λ (x : List ℕ). Ends has_workers system scenario words files None 0 x) (sym e) (made_scenario n some most w)

-- ---- a call with workers whose words ask for no run with them

module _ (system scenario : List ℕ) (words : List (List ℕ)) (files : Files) where
  asks_files : (drive : Drive) (s z : List ℕ) → AsksFiles false words drive s z → AsksFiles true words drive s z
  asks_files drive s z (to_simulate t u w) = to_simulate t u w
  asks_files drive s z (to_work h t u n some most w) = to_work refl t u n some most w

  asks_run : (drive : Drive) (brief : Bool) (st zt : Option (List ℕ)) → AsksRun false system scenario words files drive brief st zt → AsksRun true system scenario words files drive brief st zt
  asks_run drive brief st zt (of_files d s z asks) = of_files d s z (asks_files d s z asks)
  asks_run drive brief st zt (of_number n some most w) = of_number n some most w

  asks_system : (st : Option (List ℕ)) → AsksSystem false system scenario words files st → AsksSystem true system scenario words files st
  asks_system st (to_print form s w) = to_print form s w
  asks_system st (to_run drive brief t zt asks) = to_run drive brief t zt (asks_run drive brief t zt asks)

  stops : (before after : List ℕ → ℕ) → Stops false words files before after → Stops true words files before after
  stops before after (at_printed form s w rose) = at_printed form s w rose
  stops before after (at_system drive s z asks rose) = at_system drive s z (asks_files drive s z asks) rose
  stops before after (at_scenario drive s z S asks told rose) = at_scenario drive s z S (asks_files drive s z asks) told rose

  ends : IsNoRun words → (kept : Option Kept) (status : ℕ) (output : List ℕ) → Ends false system scenario words files kept status output → Ends true system scenario words files kept status output
  ends none kept status output (no_command w any) = no_command w (λ h. none)
  ends none kept status output (made_system n some most w) = made_system n some most w
  ends none kept status output (made_scenario n some most w) = made_scenario n some most w
  ends none kept status output (printed form s S w told) = printed form s S w told
  ends none kept status output (system_refused st rule line column asks told) = system_refused st rule line column (asks_system st asks) told
  ends none kept status output (scenario_refused drive brief st zt S rule line column asks told refused) =
      scenario_refused drive brief st zt S rule line column (asks_run drive brief st zt asks) told refused
  ends none kept status output (ran drive brief st zt S Z k asks told plan record_is) = ran drive brief st zt S Z k (asks_run drive brief st zt asks) told plan record_is

  pub not_working : (a : Answer) (before after : List ℕ → ℕ) → IsNoRun words → IsAnswer false system scenario words files a before after → IsAnswer true system scenario words files a before after
  not_working answer.NoCommand before after none is = ends none _ _ _ is
  not_working (answer.Text text) before after none is = ends none _ _ _ is
  not_working (answer.Refused line) before after none is = ends none _ _ _ is
  not_working (answer.Run run) before after none is = ends none _ _ _ is
  not_working answer.ShelfFault before after none is = stops before after is
  not_working answer.Memory before after none is = tt
