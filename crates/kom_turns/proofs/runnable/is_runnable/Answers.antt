use Rattle.std.proofs.Common.{◌&&◌, ◌||◌, sym, ap, ◌∙◌}
use Rattle.std.specs.Prelude.{is_some}
use Rattle.std.specs.Option.{option_map}
use Rattle.kom_state.specs.Parts.{state_of}
use Rattle.kom_state.specs.Readings.{front_seen}
use Rattle.kom_comps.proofs.Counting.{some_copied}
use Rattle.kom_turns.proofs.Running.{busy_is_not, dead_is_not, mapped_some, works}
use Rattle.kom_turns.proofs.runnable.is_runnable.Goals as goal

pub returns-then-contains : goal.returns-then-contains
returns-then-contains c = busy_is_not (state_of c.args.state.now) c.args.busy.now c.args.c (sym c.contains.ensures ∙ c.if-contains.true)

pub returns-then-not-alive : goal.returns-then-not-alive
returns-then-not-alive c = dead_is_not (state_of c.args.state.now) c.args.busy.now c.args.c (sym c.alive.ensures ∙ c.if-not-alive.true)

pub returns : goal.returns
returns c =
    works c.runnable_by_state.ensures (state_of c.args.state.now) c.args.busy.now c.args.c (option_map front_seen c.first_for-front.result) c.has_work.result
    (sym c.contains.ensures ∙ c.if-contains.false) c.first_for-front.ensures
    (
    let w = c.is_some-waits.ensures ∙ some_copied c.first_control.result ∙ ap is_some c.first_control.ensures in
    let e = c.is_some.ensures ∙ sym (mapped_some front_seen c.first_for-front.result) in
    c.has_work.ensures ∙ (λ i. w i || (c.active.ensures i && e i))
    )
