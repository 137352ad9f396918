use Rattle.std.proofs.Common.{◌≡◌, ◌++◌, Some, map, take, length, refl, sym, ap, ◌∙◌, subst, arith}
use Rattle.std.specs.List.{filter}
use Rattle.std.specs.Option.{IsSome}
use Rattle.kom_index.specs.Stock.{items, entries}
use Rattle.kom_index.specs.Entries.{value_of, between}
use Rattle.kom_record.specs.declared.plan.Raise.{Raise}
use Rattle.kom_env.specs.declared.keys.Place.{Place}
use Rattle.kom_env.specs.Keys.{place_cmp, place_total}
use Rattle.kom_env.specs.Raised.{is_raised_at, released, first_place}
use Rattle.kom_env.proofs.Listing.{one_more, length_map}
use Rattle.kom_env.proofs.Rising.{found, each_kept}
use Rattle.kom_env.proofs.Ties.{place_tied}
use Rattle.kom_env.proofs.Placing.{at_is, same_keys, map_released, raises_filter}
use Rattle.std.proofs.lemmas.List.{take_all}
use Rattle.kom_env.proofs.calendar.Calendar.release_at.Goals as goal

pub release-requires : goal.release-requires
release-requires c =
    let i = c.self.inside in
    let v = c.self.invariant in
    let p = λ (e : Place × Raise). is_raised_at c.args.time e.1 in
    let keys = rw (c.first_at.ensures, c.last_at.ensures) at c.in_ok-places.ensures in
    let same = c.deref-place-items.ensures.value ∙ keys ∙ ap (map (λ (e : Place × Raise). e.0)) (at_is c.args.time i.count i.raises.0 v.few v.placed) in
    let f = found (λ (e : Place × Raise). value_of place_cmp e.0 i.raises.0 ≡ Some e.1) (λ (q : Place). q) (filter p i.raises.0) c.deref-place-items.result.now (each_kept place_cmp place_total place_tied p i.raises.0 v.rises) (same_keys _ _ same) c.loop-place.place-index c.loop-place-test.true (first_place 0) in
    subst IsSome (sym (ap (λ q. value_of place_cmp q i.raises.0) f.key ∙ f.has)) refl

pub loop-place-preserved : goal.loop-place-preserved
loop-place-preserved c =
    let i = c.self.inside in
    let v = c.self.invariant in
    let p = λ (e : Place × Raise). is_raised_at c.args.time e.1 in
    let keys = rw (c.first_at.ensures, c.last_at.ensures) at c.in_ok-places.ensures in
    let same = c.deref-place-items.ensures.value ∙ keys ∙ ap (map (λ (e : Place × Raise). e.0)) (at_is c.args.time i.count i.raises.0 v.few v.placed) in
    let f = found (λ (e : Place × Raise). value_of place_cmp e.0 i.raises.0 ≡ Some e.1) (λ (q : Place). q) (filter p i.raises.0) c.deref-place-items.result.now (each_kept place_cmp place_total place_tied p i.raises.0 v.rises) (same_keys _ _ same) c.loop-place.place-index c.loop-place-test.true (first_place 0) in
    let here = ap (λ q. value_of place_cmp q i.raises.0) f.key ∙ f.has in
    one_more (λ (e : Place × Raise). released e.1) c.args.out.now.items (filter p i.raises.0) c.loop-place.place-index f.entry _ _ c.loop-place.invariant f.more (rw here at c.in_ok-release.ensures)

pub returns : goal.returns
returns c =
    let i = c.self.inside in
    let v = c.self.invariant in
    let p = λ (e : Place × Raise). is_raised_at c.args.time e.1 in
    let keys = rw (c.first_at.ensures, c.last_at.ensures) at c.in_ok-places.ensures in
    let same = c.deref-place-items.ensures.value ∙ keys ∙ ap (map (λ (e : Place × Raise). e.0)) (at_is c.args.time i.count i.raises.0 v.few v.placed) in
    let long = ap length same ∙ length_map (λ (e : Place × Raise). e.0) (filter p i.raises.0) in
    c.loop-place.invariant ∙ ap (λ l. c.args.out.now.items ++ map (λ (e : Place × Raise). released e.1) l) (take_all c.loop-place.place-index (filter p i.raises.0) (omega (arith, long, c.loop-place-test.false)))
    ∙ ap (λ l. c.args.out.now.items ++ l) (map_released (filter p i.raises.0) ∙ ap (map released) (raises_filter (is_raised_at c.args.time) i.raises.0))
    ∙ ap (λ m. c.args.out.now.items ++ map released (filter (is_raised_at c.args.time) (items m))) c.self.view_is
