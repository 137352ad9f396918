use Rattle.kom_resolve.proofs.kinds.Inner.block.Goals as goal

pub returns : goal.returns
returns c = rw (c.handling.ensures.parts, c.handling.ensures.part, c.handling.ensures.on, c.in_ok-scope.ensures, c.as_slice.ensures) at c.block.ensures.value
