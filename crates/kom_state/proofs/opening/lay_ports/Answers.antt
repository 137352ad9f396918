use Rattle.std.proofs.Common.{◌≡◌, ◌+◌, ℕ, Some, false, ap, sym, ◌∙◌, arith, subst, List}
use Rattle.std.specs.Prelude.{slice_get}
use Rattle.kom_wiring.specs.declared.link.Link.{Link}
use Rattle.kom_queues.specs.Slots.{is_there}
use Rattle.kom_state.specs.Openings.{port_links}
use Rattle.kom_state.specs.Plantings.{IsLaid, IsOneLaid}
use Rattle.kom_state.proofs.Channels.{next_there, one_more}
use Rattle.kom_state.proofs.Begun.{long, item_of, take_all}
use Rattle.kom_state.proofs.opening.lay_ports.Goals as goal

pub lay_one-requires-clause-not_there : goal.lay_one-requires-clause-not_there
lay_one-requires-clause-not_there c =
    let e : 0 + c.loop-q.q ≡ c.loop-q.q = omega arith in
    subst (λ (x : ℕ). is_there c.loop-q.queues x ≡ false) e
    (next_there c.args.numbers.now 0 (port_links c.args.outs.now) c.args.wiring.now c.args.queues.now c.loop-q.wiring c.loop-q.queues c.loop-q.q (omega (arith, c.loop-q-test.true, long c.args.outs.now)) c.loop-q.invariant)

pub loop-q-preserved : goal.loop-q-preserved
loop-q-preserved c =
    let n = c.args.numbers.now in
    let k = c.loop-q.q in
    let outs = c.args.outs.now in
    let e : k ≡ 0 + k = omega arith in
    let item : slice_get (port_links outs) k ≡ Some c.link_of_port-link.result = item_of outs k _ c.loop-q-test.true ∙ ap Some (sym c.link_of_port-link.ensures) in
    one_more n 0 (port_links outs) c.args.wiring.now c.args.queues.now c.loop-q.wiring c.loop-q.queues k (omega (arith, c.loop-q-test.true, long outs)) c.loop-q.invariant c.lay_one.new.wiring c.lay_one.new.queues c.link_of_port-link.result item
    (subst (λ (x : ℕ). IsOneLaid n x c.link_of_port-link.result c.loop-q.wiring c.lay_one.new.wiring c.loop-q.queues c.lay_one.new.queues) e c.lay_one.ensures)

pub returns : goal.returns
returns c =
    let outs = c.args.outs.now in
    subst (λ (ls : List Link). IsLaid c.args.numbers.now 0 ls c.args.wiring.now c.loop-q.wiring c.args.queues.now c.loop-q.queues) (take_all (port_links outs) c.loop-q.q (omega (arith, c.loop-q-test.false, long outs))) c.loop-q.invariant
