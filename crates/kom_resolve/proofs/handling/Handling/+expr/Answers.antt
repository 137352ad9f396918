use Rattle.std.proofs.Common.{◌∙◌, ap, length, arith}
use Rattle.kom_resolve.proofs.Exprs.{neg_value, not_value, pair_value, it_short}
use Rattle.kom_resolve.proofs.handling.Handling.+expr.Goals as goal

pub number_among-requires : goal.number_among-requires
number_among-requires t c = let s = c.args.self.now in omega (arith, ap length s.of_it, it_short s.parts.now s.on.now s.counted)

pub returns-in_ok-new-in-Neg : goal.returns-in_ok-new-in-Neg
returns-in_ok-new-in-Neg t c = neg_value _ _ _ c.args.part.now c.in-Neg.inner _ c.in-Neg.is (c.in_ok-new-in-Neg.ensures ∙ (rw c.get.ensures at c.in_ok-inner-in-Neg.ensures))

pub returns-in_ok-new-in-Not : goal.returns-in_ok-new-in-Not
returns-in_ok-new-in-Not t c = not_value _ _ _ c.args.part.now c.in-Not.inner _ c.in-Not.is (c.in_ok-new-in-Not.ensures ∙ (rw c.get-in-Not.ensures at c.in_ok-inner-in-Not.ensures))

pub returns-in_ok-new-in-Pair-2 : goal.returns-in_ok-new-in-Pair-2
returns-in_ok-new-in-Pair-2 t c =
    pair_value _ _ _ c.args.part.now c.in-Pair.left c.in-Pair.right c.in-Pair.op _ _ c.in-Pair.is
    (c.in_ok-new-in-Pair.ensures ∙ (rw c.get-in-Pair.ensures at c.in_ok-left-in-Pair.ensures))
    (c.in_ok-new-in-Pair-2.ensures ∙ (rw c.get-in-Pair-2.ensures at c.in_ok-right-in-Pair.ensures))
