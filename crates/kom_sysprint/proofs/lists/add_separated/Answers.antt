use Rattle.std.proofs.Common.{◌++◌, ◌∙◌, ap, arith}
use Rattle.std.proofs.lemmas.List.{append_assoc}
use Rattle.kom_sysprint.specs.Canonical.{between}
use Rattle.kom_sysprint.proofs.Pieces.{one_more_at, all_placed}
use Rattle.kom_sysprint.proofs.lists.add_separated.Goals as goal

pub loop-i-preserved : goal.loop-i-preserved
loop-i-preserved g c =
    one_more_at (λ p. between c.args.separator.now p.0 ++ g.P.Prints.printed c.args.prints.now p.1) c.args.items.now c.loop-i.i c.index-items-i.result c.args.text.now c.loop-i.text c.print.new.text c.loop-i-test.true c.index-items-i.is c.loop-i.invariant
    (c.in_ok-print.ensures ∙ ap (λ t. t ++ g.P.Prints.printed c.args.prints.now c.index-items-i.result) c.in_ok-add_between.ensures ∙ append_assoc c.loop-i.text (between c.args.separator.now c.loop-i.i) (g.P.Prints.printed c.args.prints.now c.index-items-i.result))

pub returns : goal.returns
returns g c = all_placed (λ p. between c.args.separator.now p.0 ++ g.P.Prints.printed c.args.prints.now p.1) c.args.items.now c.loop-i.i c.args.text.now c.loop-i.text (omega arith) c.loop-i.invariant
