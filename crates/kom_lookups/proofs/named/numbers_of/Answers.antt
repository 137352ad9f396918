use Rattle.std.proofs.Common.{◌∙◌, ap, sym, Some, None, Option, ℕ, if◌then◌else◌, bytes_eq}
use Rattle.kom_base.specs.Lists.{either}
use Rattle.kom_lookups.proofs.Counted.{number_more}
use Rattle.kom_lookups.proofs.named.numbers_of.Goals as goal

pub loop-i-preserved : goal.loop-i-preserved
loop-i-preserved g c q =
    (rw (c.bytes.ensures, c.spot.ensures) at (c.in_ok-add.ensures q))
    ∙ ap (λ (o : Option ℕ). either o (if bytes_eq q (g.T.Declares.named c.index-parts-i.result).name then Some c.loop-i.i else None)) (c.loop-i.invariant q)
    ∙ sym (number_more g.T.Declares.named c.args.parts.now c.loop-i.i c.index-parts-i.result q c.loop-i-test.true c.index-parts-i.is)
