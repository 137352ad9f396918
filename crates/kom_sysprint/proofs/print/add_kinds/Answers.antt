use Rattle.std.proofs.Common.{◌++◌, ◌<◌, ◌∙◌, ap, length, arith}
use Rattle.std.specs.List.{flat_map}
use Rattle.std.proofs.lemmas.List.{take_all}
use Rattle.kom_lang.specs.Declarations.{kind_of, no_kind}
use Rattle.kom_system.specs.Contents.{Contents}
use Rattle.kom_sysprint.specs.Canonical.{kind_text}
use Rattle.kom_sysprint.proofs.Pieces.{one_more, got_again}
use Rattle.kom_sysprint.proofs.print.add_kinds.Goals as goal

pub loop-k-preserved : goal.loop-k-preserved
loop-k-preserved c =
    let C = c.args.kinds.now.names.now in
    let l : c.loop-k.k < length C.declarations.kinds = omega (arith, c.kinds-k-end.ensures, ap (λ (D : Contents). length D.declarations.kinds) c.system.ensures) in
    one_more (kind_text C) C.declarations.kinds c.loop-k.k (kind_of C.declarations c.loop-k.k) c.args.text.now c.loop-k.text c.add_kind_at.new.text l (got_again C.declarations.kinds c.loop-k.k no_kind l) c.loop-k.invariant c.in_ok-add_kind_at.ensures

pub returns : goal.returns
returns c =
    let C = c.args.kinds.now.names.now in
    c.loop-k.invariant ∙ ap (λ ks. c.args.text.now ++ flat_map (kind_text C) ks) (take_all c.loop-k.k C.declarations.kinds (omega (arith, c.kinds-k-end.ensures, ap (λ (D : Contents). length D.declarations.kinds) c.system.ensures)))
