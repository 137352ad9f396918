use Rattle.std.proofs.Common.{◌≡◌, ltb, map, Some, None, sym, ap, ◌∙◌}
use Rattle.std.specs.List.{filter}
use Rattle.std.specs.Option.{option_map}
use Rattle.kom_base.specs.Lists.{least}
use Rattle.kom_index.specs.Stock.{items}
use Rattle.kom_record.specs.declared.plan.Raise.{Raise}
use Rattle.kom_env.specs.declared.keys.Place.{Place}
use Rattle.kom_env.specs.Raised.{is_unraised}
use Rattle.kom_env.proofs.Placing.{next_is}
use Rattle.kom_env.proofs.calendar.Calendar.next_time.Goals as goal

pub returns-in-Some : goal.returns-in-Some
returns-in-Some c =
    let i = c.self.inside in
    let v = c.self.invariant in
    ap Some c.time_of.ensures ∙ ap (option_map (λ (p : Place). p.time)) (rw c.after.ensures at c.in-Some.ensures.key) ∙ sym (next_is c.args.last i.count i.raises.0 v.few v.rises v.placed)
    ∙ ap (λ m. least ltb (map (λ (r : Raise). r.time) (filter (is_unraised c.args.last) (items m)))) c.self.view_is

pub returns-in-None : goal.returns-in-None
returns-in-None c =
    let i = c.self.inside in
    let v = c.self.invariant in
    ap (option_map (λ (p : Place). p.time)) (rw c.after.ensures at c.in-None.ensures.key) ∙ sym (next_is c.args.last i.count i.raises.0 v.few v.rises v.placed)
    ∙ ap (λ m. least ltb (map (λ (r : Raise). r.time) (filter (is_unraised c.args.last) (items m)))) c.self.view_is
