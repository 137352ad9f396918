use Rattle.std.proofs.Common.{◌≡◌, map, length, refl, sym, ap, ◌∙◌}
use Rattle.std.specs.List.{filter}
use Rattle.kom_index.specs.Stock.{entries}
use Rattle.kom_env.specs.Waiting.{is_due}
use Rattle.kom_env.proofs.Listing.{at_time, numbered, bare, same_numbers, length_map}
use Rattle.kom_env.proofs.Finding.{between_is}
use Rattle.kom_env.proofs.agenda.Agenda.count_at.Goals as goal

pub returns-clause-count : goal.returns-clause-count
returns-clause-count c =
    let i = c.self.inside in
    let v = c.self.invariant in
    c.count_between.ensures.count ∙ ap length (between_is i.waits.0 i.dues.0 v.rises v.bounded v.by_due c.args.time)
    ∙ sym (length_map numbered (filter (at_time c.args.time) i.dues.0)) ∙ ap length (same_numbers i.waits.0 i.dues.0 v.rises v.by_due c.args.time)
    ∙ length_map bare (filter (is_due c.args.time) i.waits.0) ∙ ap (λ m. length (filter (is_due c.args.time) (entries m))) c.self.view_is
