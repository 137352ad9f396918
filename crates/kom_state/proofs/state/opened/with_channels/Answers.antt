use Rattle.std.proofs.Common.{List, ◌∙◌, subst}
use Rattle.kom_base.specs.declared.numbers.Dir.{Dir}
use Rattle.kom_state.specs.Openings.{port_links}
use Rattle.kom_state.specs.Plantings.{IsLaid}
use Rattle.kom_state.proofs.Begun.{bare_tied, are_opened}
use Rattle.kom_state.proofs.state.opened.with_channels.Goals as goal

pub invariant_of-result : goal.invariant_of-result
invariant_of-result c =
    let laid : IsLaid c.begin-numbers.result 0 (port_links c.args.outs.items) c.args.wiring c.lay_ports.new.wiring c.args.queues c.lay_ports.new.queues =
    subst (λ (os : List Dir). IsLaid c.begin-numbers.result 0 (port_links os) c.args.wiring c.lay_ports.new.wiring c.args.queues c.lay_ports.new.queues) (c.outs.ensures ∙ c.begin-numbers.ensures.outs) c.lay_ports.ensures in
    rw (c.new.ensures, c.new-2.ensures) (bare_tied c.args.outs.items c.begin-numbers.result c.begin-numbers.ensures.outs c.begin-numbers.ensures.counts c.args.wiring c.lay_ports.new.wiring c.args.queues c.lay_ports.new.queues laid c.requires.no_link c.new-3.result c.new-3.ensures)

pub returns-clause-channels : goal.returns-clause-channels
returns-clause-channels c =
    let laid : IsLaid c.begin-numbers.result 0 (port_links c.args.outs.items) c.args.wiring c.lay_ports.new.wiring c.args.queues c.lay_ports.new.queues =
    subst (λ (os : List Dir). IsLaid c.begin-numbers.result 0 (port_links os) c.args.wiring c.lay_ports.new.wiring c.args.queues c.lay_ports.new.queues) (c.outs.ensures ∙ c.begin-numbers.ensures.outs) c.lay_ports.ensures in
    rw (c.new.ensures, c.new-2.ensures) (are_opened c.args.outs.items c.begin-numbers.result c.begin-numbers.ensures.outs c.begin-numbers.ensures.counts c.args.wiring c.lay_ports.new.wiring c.args.queues c.lay_ports.new.queues laid c.requires.no_link c.new-3.result c.new-3.ensures)
