use Rattle.std.proofs.Common.{false, List, ℕ, Option, subst}
use Rattle.kom_loading.specs.Scenarios.{IsPlanned}
use Rattle.kompics.specs.Top.{to_run, of_files, at_system, at_scenario}
use Rattle.kompics.proofs.Finding.{rose_after, stands, is_plan, plan_fits, no_system, no_plan}
use Rattle.kompics.proofs.answer.load_both.Goals as goal

pub returns-in-Err-clause-answer : goal.returns-in-Err-clause-answer
returns-in-Err-clause-answer g c = λ has_workers words drive asks.
    let file = g.S.Shelf.file c.args.shelf.now in
    let s = c.args.system_name.now in
    let z = c.args.scenario_name.now in
    no_system has_workers _ _ words file _ _ (file s) c.load_system.result c.in-Err.answer
    (to_run drive false (file s) (file z) (of_files drive s z asks)) c.load_system.ensures.answer (λ e. at_system drive s z asks (c.load_system.ensures.fault e)) c.in-Err.ensures

pub returns-in-Err-planned-clause-answer : goal.returns-in-Err-planned-clause-answer
returns-in-Err-planned-clause-answer g c = λ has_workers words drive asks.
    let file = g.S.Shelf.file c.args.shelf.now in
    let s = c.args.system_name.now in
    let z = c.args.scenario_name.now in
    let S = c.in-Ok.system in
    let accepted = stands (file s) c.load_system.result S c.in-Ok.ensures c.load_system.ensures.answer in
    no_plan has_workers _ _ words file _ _ drive false (file s) (file z) S (of_files drive s z asks) accepted c.load_scenario-found.result c.in-Err-planned.answer
    (subst (λ (f : Option (List ℕ)). IsPlanned S c.load_scenario-found.result f) (c.load_system.ensures.files z) c.load_scenario-found.ensures.answer)
    (λ e. at_scenario drive s z S asks accepted (rose_after _ _ _ (c.load_system.ensures.counts.never_falls z) (c.load_scenario-found.ensures.fault e))) c.in-Err-planned.ensures

pub returns-in-Ok-planned-clause-answer : goal.returns-in-Ok-planned-clause-answer
returns-in-Ok-planned-clause-answer g c =
    let file = g.S.Shelf.file c.args.shelf.now in
    let s = c.args.system_name.now in
    let z = c.args.scenario_name.now in
    let S = c.in-Ok.system in
    let found = c.load_scenario-found.result in
    record {
      system = stands (file s) c.load_system.result S c.in-Ok.ensures c.load_system.ensures.answer;
      plan = is_plan S (file z) found c.in-Ok-planned.plan c.in-Ok-planned.ensures
          (subst (λ (f : Option (List ℕ)). IsPlanned S found f) (c.load_system.ensures.files z) c.load_scenario-found.ensures.answer);
      fits = plan_fits S found c.in-Ok-planned.plan c.in-Ok-planned.ensures c.load_scenario-found.ensures.fits;
    }
