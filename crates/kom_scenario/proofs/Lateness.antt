-- Latest moments of sources, one after another.
use Rattle.std.proofs.Common.{◌≡◌, ℕ, zero, suc, ◌<◌, ◌≤◌, false, List, [], ◌∷◌, ◌++◌, length, drop, sym, ◌∙◌, ap, arith, get_or}
use Rattle.std.specs.Prelude.{nat_lt}
use Rattle.std.proofs.lemmas.Bool.Decides.{nat_tests}
use Rattle.kom_scengram.specs.declared.parts.Moment.{Moment}
use Rattle.kom_scengram.specs.declared.parts.Moment.TheVariants as moment
use Rattle.kom_scengram.specs.declared.parts.SourcePart.{SourcePart}
use Rattle.kom_scenario.specs.declared.tree.Source.{Source}
use Rattle.kom_scenario.specs.declared.tree.Source.TheVariants as source
use Rattle.kom_scenario.specs.Sound.{longest, Span, moment_of, latest}
use Rattle.kom_scenario.specs.Early.{Early}
use Rattle.kom_scenario.specs.Rules.{late_from}

pub early_none : (bound : ℕ) → Early bound []
early_none bound moment.Start k = omega arith
early_none bound moment.End k = omega arith

moment_small : (bound : ℕ) (x : Span) → x.0 ≤ bound → x.1 ≤ bound → (m : Moment) → moment_of m x ≤ bound
moment_small bound x a b moment.Start = a
moment_small bound x a b moment.End = b

-- one more source, and a bound that may rise
pub early_onto : (bound higher : ℕ) (spans : List Span) (x : Span) → Early bound spans → bound ≤ higher → x.0 ≤ higher → x.1 ≤ higher → Early higher (spans ++ x ∷ [])
early_onto bound higher [] x e up a b m zero = moment_small higher x a b m
early_onto bound higher [] x e up a b m (suc k) = early_none higher m k
early_onto bound higher (y ∷ ys) x e up a b m zero = omega (arith, e m zero, up)
early_onto bound higher (y ∷ ys) x e up a b m (suc k) = early_onto bound higher ys x (λ m k. e m (suc k)) up a b m k

pub in_order : (spans : List Span) (z : Source) → (latest spans z).0 ≤ (latest spans z).1
in_order spans (source.At t r) = omega arith
in_order spans (source.Process p) = omega arith

-- a source that is not too late
pub late_step : (spans : List Span) (parts : List SourcePart) (sources : List Source) (i : ℕ) (z : Source) → length parts ≡ length sources → i < length sources → z ≡ get_or sources i z
    → nat_lt longest (latest spans z).1 ≡ false → late_from spans (drop i parts) (drop i sources) ≡ late_from (spans ++ latest spans z ∷ []) (drop (suc i) parts) (drop (suc i) sources)
unfolding late_from
late_step spans parts [] i z e less is fine = absurd (omega (arith, less))
late_step spans [] (s ∷ ss) i z e less is fine = absurd (omega (arith, e))
late_step spans (p ∷ ps) (s ∷ ss) zero z e less is fine =
    let test : nat_lt longest (latest spans s).1 ≡ false = ap (λ x. nat_lt longest (latest spans x).1) (sym is) ∙ fine in
    rw test (ap (λ x. late_from (spans ++ latest spans x ∷ []) ps ss) (sym is))
late_step spans (p ∷ ps) (s ∷ ss) (suc i) z e less is fine = late_step spans ps ss i z (omega (arith, e)) (omega (arith, less)) is fine

pub not_late : (n : ℕ) → n ≤ longest → nat_lt longest n ≡ false
not_late n less = grind (arith, nat_tests)
