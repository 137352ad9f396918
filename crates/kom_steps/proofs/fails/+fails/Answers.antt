use Rattle.std.proofs.Common.{refl, ap, ◌∙◌, arith, Some, ◌∷◌, []}
use Rattle.kom_lang.specs.declared.stmt.Stmt.{out-Stmt}
use Rattle.kom_lang.specs.declared.stmt.Stmt.TheVariants as stmt
use Rattle.kom_lang.specs.declared.stmt.Stmt.TheOpen.{If}
use Rattle.kom_steps.specs.Faults.{FailsFit}
use Rattle.kom_steps.proofs.Fits.{fits_member, fits_then, fits_else, fits_while, fail_test, fits_all, level, refutes}
use Rattle.kom_steps.proofs.fails.+fails.Goals as goal

pub fail_fits-returns-then-not-fails_fit : goal.fail_fits-returns-then-not-fails_fit
fail_fits-returns-then-not-fails_fit t c =
    refutes c.fails_fit.result (FailsFit c.as_slice.result.now) (FailsFit (c.args.statement.now ∷ [])) c.fails_fit.ensures c.if-not-fails_fit.true
    (λ h. rw c.as_slice.ensures (fits_then _ _ _ _ c.in-If.is h))

pub fail_fits-returns-in-Some : goal.fail_fits-returns-in-Some
fail_fits-returns-in-Some t c =
    let is = rw c.in-Some.is at c.in-If.is in
    let first = rw c.as_slice.ensures at (c.fails_fit.ensures.0 c.if-not-fails_fit.false) in (
      (λ e. level _ (If c.in-If.test c.in-If.block (Some c.in-Some.other)) (ap out-Stmt is ∙ stmt.outs-If _ _ _) refl (first, rw c.as_slice-in-Some.ensures at (c.fails_fit-in-Some.ensures.0 e))),
      (λ h. c.fails_fit-in-Some.ensures.1 (rw c.as_slice-in-Some.ensures (fits_else _ _ _ _ is h))),
    )

pub fail_fits-returns-in-While : goal.fail_fits-returns-in-While
fail_fits-returns-in-While t c = (
  (λ e. level _ _ (ap out-Stmt c.in-While.is ∙ stmt.outs-While _ _) refl (rw c.as_slice-in-While.ensures at (c.fails_fit-in-While.ensures.0 e))),
  (λ h. c.fails_fit-in-While.ensures.1 (rw c.as_slice-in-While.ensures (fits_while _ _ _ c.in-While.is h))),
)

pub fail_fits-returns-in-Fail : goal.fail_fits-returns-in-Fail
fail_fits-returns-in-Fail t c = (
  (λ e. level _ _ (ap out-Stmt c.in-Fail.is ∙ stmt.outs-Fail _) e tt),
  (λ h. fail_test _ _ c.in-Fail.is h),
)

pub fails_fit-returns-then-not-fail_fits : goal.fails_fit-returns-then-not-fail_fits
fails_fit-returns-then-not-fail_fits t c =
    refutes c.fail_fits.result (FailsFit (c.statement-item.result ∷ [])) (FailsFit c.args.block.now) c.fail_fits.ensures c.if-not-fail_fits.true
    (fits_member _ _ _ c.loop-statement-test.true c.statement-item.is)

pub fails_fit-returns : goal.fails_fit-returns
fails_fit-returns t c =
    ((λ e. fits_all c.args.block.now (λ k lt. c.loop-statement.invariant k (omega (arith, c.loop-statement-test.false)))), (λ h. refl))
