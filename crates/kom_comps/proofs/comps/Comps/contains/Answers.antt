use Rattle.std.proofs.Common.{sym, ap, ◌∙◌}
use Rattle.std.specs.Option.{is_some}
use Rattle.kom_comps.proofs.Counting.{has_in, some_copied}
use Rattle.kom_comps.proofs.comps.Comps.contains.Goals as goal

pub returns : goal.returns
returns c =
    c.is_some.ensures ∙ some_copied c.get.result ∙ ap is_some c.get.ensures.value
    ∙ sym (has_in c.self.inside.members.0 c.self.inside.bound c.args.c _ c.self.view_is)
