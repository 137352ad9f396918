use Rattle.std.proofs.Common.{◌∙◌, sym, refl, subst}
use Rattle.kom_record.specs.Answers.{IsFree}
use Rattle.kom_drives.proofs.Handing.{free_first}
use Rattle.kom_drives.proofs.tests.pair.begin.Goals as goal

pub returns : goal.returns
returns c = record {
  system_is = c.in_ok-core.ensures.system ∙ c.in_ok-try_clone.ensures;
  plan_is = c.in_ok-core.ensures.plan ∙ c.in_ok-copy.ensures;
  first = refl;
  second = refl;
  zero_holds = subst (λ R. IsFree R 0) (sym c.in_ok-core.ensures.history) (free_first 0);
  one_holds = subst (λ R. IsFree R 1) (sym c.in_ok-core.ensures.history) (free_first 1);
}
