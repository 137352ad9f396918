use Rattle.std.proofs.Common.{sym, ap, ◌∙◌}
use Rattle.std.specs.Option.{option_copied}
use Rattle.kom_resolve.proofs.Rows.{index_past}
use Rattle.kom_resolve.proofs.kinds.attributes_in.Goals as goal

pub returns-in-None : goal.returns-in-None
returns-in-None c = index_past c.args.lists.now c.args.kind _ (sym (ap option_copied c.in-None.is) ∙ c.get.ensures.value)
