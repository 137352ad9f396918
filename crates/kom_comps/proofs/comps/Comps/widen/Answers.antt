use Rattle.std.proofs.Common.{sym, ap, ◌∙◌}
use Rattle.std.specs.Option.{is_some}
use Rattle.std.specs.Ordering.{nat_cmp}
use Rattle.kom_index.specs.Entries.{value_of}
use Rattle.kom_comps.proofs.Counting.{has_is, has_in}
use Rattle.kom_comps.proofs.comps.Comps.widen.Goals as goal

pub returns-clause-same : goal.returns-clause-same
returns-clause-same c d =
    has_is c.reserve.new.self.0 c.args.bound d ∙ ap (λ es. is_some (value_of nat_cmp d es)) c.reserve.ensures.same
    ∙ sym (has_in c.self.inside.members.0 c.self.inside.bound d _ c.self.view_is)
