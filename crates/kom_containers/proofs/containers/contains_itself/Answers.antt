use Rattle.std.proofs.Common.{◌∙◌, length}
use Rattle.kom_containers.proofs.Trees.{within_is_below}
use Rattle.kom_containers.proofs.containers.contains_itself.Goals as goal

pub returns : goal.returns
returns c =
    c.is_marked.ensures ∙ (rw (c.len-levels.ensures, c.as_slice.ensures, c.requires) at (c.in_ok-holders.ensures c.args.number))
    ∙ within_is_below (length c.args.parts.now.components) c.args.parts.now c.args.number c.args.number
