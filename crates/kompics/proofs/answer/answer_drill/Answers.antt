use Rattle.std.proofs.Common.{◌∙◌, true, List, ℕ, Some, subst}
use Rattle.kom_loading.specs.Loading.{IsRead}
use Rattle.kom_loading.specs.Scenarios.{IsReadFor}
use Rattle.kom_make.specs.Texts.{system_text, scenario_text}
use Rattle.kom_make.specs.declared.template.TheConstants.{SYSTEM, SCENARIO}
use Rattle.kompics.specs.Runs.{simulated}
use Rattle.kompics.specs.Top.{to_run, of_number}
use Rattle.kompics.proofs.Finding.{stands, is_plan, loaded_text, planned_text, text_is_no_fault, scenario_is_no_fault, no_system, no_plan, of_run}
use Rattle.kompics.proofs.answer.answer_drill.Goals as goal

pub returns-in-Err : goal.returns-in-Err
returns-in-Err c = λ has_workers words files before after is.
    let st = Some (system_text SYSTEM.now c.args.n) in
    let zt = Some (scenario_text SCENARIO.now c.args.n) in
    let read : IsRead (system_text SYSTEM.now c.args.n) c.system_of.result = subst (λ (t : List ℕ). IsRead t c.system_of.result) (c.as_slice.ensures.value ∙ c.in-Ok.ensures) c.system_of.ensures in
    no_system has_workers _ _ words files before after st c.system_of.result c.in-Err.answer
    (to_run simulated true st zt (of_number c.args.n c.requires.some c.requires.most is)) (loaded_text c.system_of.result _ read) (λ e. absurd (text_is_no_fault c.system_of.result _ read e)) c.in-Err.ensures

pub returns-in-Ok-planned : goal.returns-in-Ok-planned
returns-in-Ok-planned c = λ has_workers words files before after is.
    let S = c.in-Ok-accepted.system in
    let st = Some (system_text SYSTEM.now c.args.n) in
    let zt = Some (scenario_text SCENARIO.now c.args.n) in
    let read : IsRead (system_text SYSTEM.now c.args.n) c.system_of.result = subst (λ (t : List ℕ). IsRead t c.system_of.result) (c.as_slice.ensures.value ∙ c.in-Ok.ensures) c.system_of.ensures in
    let found : IsReadFor S (scenario_text SCENARIO.now c.args.n) c.plan_of-found.result = subst (λ (t : List ℕ). IsReadFor S t c.plan_of-found.result) (c.as_slice-2.ensures.value ∙ c.in-Ok-make_scenario.ensures) c.plan_of-found.ensures.read in
    of_run has_workers _ _ words files before after simulated true st zt S (of_number c.args.n c.requires.some c.requires.most is)
    (stands st c.system_of.result S c.in-Ok-accepted.ensures (loaded_text c.system_of.result _ read))
    c.in-Ok-planned.plan c.answer_run.result (is_plan S zt c.plan_of-found.result c.in-Ok-planned.plan c.in-Ok-planned.ensures (planned_text S c.plan_of-found.result _ found)) c.answer_run.ensures

pub returns : goal.returns
returns c = λ has_workers words files before after is.
    let S = c.in-Ok-accepted.system in
    let st = Some (system_text SYSTEM.now c.args.n) in
    let zt = Some (scenario_text SCENARIO.now c.args.n) in
    let read : IsRead (system_text SYSTEM.now c.args.n) c.system_of.result = subst (λ (t : List ℕ). IsRead t c.system_of.result) (c.as_slice.ensures.value ∙ c.in-Ok.ensures) c.system_of.ensures in
    let found : IsReadFor S (scenario_text SCENARIO.now c.args.n) c.plan_of-found.result = subst (λ (t : List ℕ). IsReadFor S t c.plan_of-found.result) (c.as_slice-2.ensures.value ∙ c.in-Ok-make_scenario.ensures) c.plan_of-found.ensures.read in
    no_plan has_workers _ _ words files before after simulated true st zt S (of_number c.args.n c.requires.some c.requires.most is)
    (stands st c.system_of.result S c.in-Ok-accepted.ensures (loaded_text c.system_of.result _ read)) c.plan_of-found.result c.in-Err-planned.answer
    (planned_text S c.plan_of-found.result _ found) (λ e. absurd (scenario_is_no_fault S c.plan_of-found.result _ found e)) c.in-Err-planned.ensures
