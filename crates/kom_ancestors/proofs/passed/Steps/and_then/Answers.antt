use Rattle.kom_ancestors.proofs.Passing.{joined_passes}
use Rattle.kom_ancestors.proofs.passed.Steps.and_then.Goals as goal

pub returns : goal.returns
returns c m n parents own are more some =
    joined_passes parents own c.args.self.now c.args.more.now _ m n are more some (rw (c.as_slice.ensures, c.as_slice-2.ensures) at c.in_ok-joined.ensures) c.in_ok-names_joined.ensures.count c.in_ok-names_joined.ensures.each
