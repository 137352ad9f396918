use Rattle.std.proofs.Common.{sym, ◌∙◌, arith}
use Rattle.kom_changes.proofs.relinks.mark_end.Goals as goal

pub mark-requires : goal.mark-requires
mark-requires c =
    let l = c.requires.ends c.args.x c.args.end c.in-Some.half (sym c.end.ensures ∙ c.in-Some.is) in
    let b = c.requires.bound in
    omega (arith, l, b)
