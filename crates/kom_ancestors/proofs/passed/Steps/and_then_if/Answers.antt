use Rattle.std.proofs.Common.{◌+◌, Bool, IfOk, sym, subst, if◌then◌else◌}
use Rattle.kom_ancestors.specs.Passed.{Passes}
use Rattle.kom_ancestors.proofs.passed.Steps.and_then_if.Goals as goal

pub returns-then-test : goal.returns-then-test
returns-then-test c m n parents own are more some =
    subst (λ (b : Bool). IfOk c.and_then.result (λ steps. Passes steps (if b then m + n else m) parents own)) (sym c.if-test.true) (c.and_then.ensures m n parents own are more some)

pub returns-else-test : goal.returns-else-test
returns-else-test c m n parents own are more some =
    subst (λ (b : Bool). Passes c.args.self (if b then m + n else m) parents own) (sym c.if-test.false) are
