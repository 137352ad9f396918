use Rattle.std.proofs.Common.{ap, ◌∙◌}
use Rattle.std.specs.Option.{is_some}
use Rattle.std.specs.Ordering.{nat_cmp}
use Rattle.kom_index.specs.Entries.{value_of}
use Rattle.kom_comps.proofs.Counting.{has_is}
use Rattle.kom_comps.proofs.comps.Comps.new.Goals as goal

pub returns-clause-empty : goal.returns-clause-empty
returns-clause-empty c d = has_is c.new.result.0 0 d ∙ ap (λ m. is_some (value_of nat_cmp d m.0)) c.new.ensures
