use Rattle.std.proofs.Common.{◌≡◌, true, sym, ap, ◌∙◌, subst}
use Rattle.std.specs.Prelude.{IfSome}
use Rattle.std.specs.Option.{option_map_or}
use Rattle.kom_state.specs.Parts.{state_of}
use Rattle.kom_puts.specs.Puts.{dumped_in, following, items_for, to_children_in}
use Rattle.kom_puts.specs.Signals.{item_of}
use Rattle.kom_puts.proofs.BySlots.{unborn_kept}
use Rattle.kom_puts.proofs.Living.{dumped_lives}
use Rattle.kom_puts.proofs.Putting.{by_signal, follows_is, same_puts}
use Rattle.kom_puts.proofs.follow.put_by_item.Goals as goal

pub put_one-requires-clause-living : goal.put_one-requires-clause-living
put_one-requires-clause-living c =
    subst (λ o. IfSome o (λ a. (state_of c.args.state.now).living a.0 ≡ true)) (sym c.requires.dumped)
    (dumped_lives c.args.state.now c.holds_together.ensures c.args.c c.args.body.now c.args.item.now c.requires.living)

pub returns-in-Some-clause-puts : goal.returns-in-Some-clause-puts
returns-in-Some-clause-puts c =
    let m = state_of c.args.state.now in
    let n = state_of c.put_to_children.new.state in
    let at = c.args.c in
    let body = c.args.body.now in
    let item = c.args.item.now in
    same_puts (to_children_in m at body.slots (item_of c.in-Some.signal)) (following m at body item) m n
    (λ d. ap (λ g. option_map_or (λ g. to_children_in m at body.slots (item_of g) d) g (items_for (dumped_in m at body item) d)) c.in-Some.ensures ∙ by_signal m at body item d)
    c.put_to_children.ensures.step

pub returns-in-Some-clause-step : goal.returns-in-Some-clause-step
returns-in-Some-clause-step c S P s =
    let m = state_of c.args.state.now in
    let n = state_of c.put_to_children.new.state in
    let at = c.args.c in
    let body = c.args.body.now in
    let item = c.args.item.now in
    follows_is S P m n s at c.requires.living body item
    (same_puts (to_children_in m at body.slots (item_of c.in-Some.signal)) (following m at body item) m n
    (λ d. ap (λ g. option_map_or (λ g. to_children_in m at body.slots (item_of g) d) g (items_for (dumped_in m at body item) d)) c.in-Some.ensures ∙ by_signal m at body item d)
    c.put_to_children.ensures.step)

pub returns-in-None-clause-step : goal.returns-in-None-clause-step
returns-in-None-clause-step c S P s =
    let m = state_of c.args.state.now in
    let n = state_of c.put_one.new.state in
    let at = c.args.c in
    let body = c.args.body.now in
    let item = c.args.item.now in
    follows_is S P m n s at c.requires.living body item
    (same_puts (items_for c.args.dumped) (following m at body item) m n
    (λ d. ap (λ o. items_for o d) c.requires.dumped
    ∙ ap (λ g. option_map_or (λ g. to_children_in m at body.slots (item_of g) d) g (items_for (dumped_in m at body item) d)) c.in-None.ensures ∙ by_signal m at body item d)
    c.put_one.ensures.step)

pub returns-in-None-clause-unborn : goal.returns-in-None-clause-unborn
returns-in-None-clause-unborn c =
    let v = c.args.state.now in
    unborn_kept v c.put_one.new.state c.holds_together.ensures c.args.dumped
    (subst (λ o. IfSome o (λ a. (state_of v).living a.0 ≡ true)) (sym c.requires.dumped) (dumped_lives v c.holds_together.ensures c.args.c c.args.body.now c.args.item.now c.requires.living))
    c.put_one.ensures.controls
