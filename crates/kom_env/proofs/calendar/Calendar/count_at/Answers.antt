use Rattle.std.proofs.Common.{◌≡◌, length, sym, ap, ◌∙◌}
use Rattle.std.specs.List.{filter}
use Rattle.kom_index.specs.Stock.{items}
use Rattle.kom_record.specs.declared.plan.Raise.{Raise}
use Rattle.kom_env.specs.declared.keys.Place.{Place}
use Rattle.kom_env.specs.Raised.{is_raised_at}
use Rattle.kom_env.proofs.Placing.{at_is, raises_filter, length-raises}
use Rattle.kom_env.proofs.calendar.Calendar.count_at.Goals as goal

pub returns-clause-count : goal.returns-clause-count
returns-clause-count c =
    let i = c.self.inside in
    let v = c.self.invariant in
    let n = rw (c.first_at.ensures, c.last_at.ensures) at c.count_between.ensures.count in
    n ∙ ap length (at_is c.args.time i.count i.raises.0 v.few v.placed) ∙ sym (length-raises (filter (λ (e : Place × Raise). is_raised_at c.args.time e.1) i.raises.0))
    ∙ ap length (raises_filter (is_raised_at c.args.time) i.raises.0) ∙ ap (λ m. length (filter (is_raised_at c.args.time) (items m))) c.self.view_is
