use Rattle.std.proofs.Common.{List, ◌∙◌, ap, subst}
use Rattle.kom_base.specs.declared.numbers.Dir.{Dir}
use Rattle.kom_lang.specs.Declarations.{kind_of}
use Rattle.kom_state.specs.Openings.{port_links, port_outs, AreOpened}
use Rattle.kom_state.proofs.Begun.{is_opened, is_of}
use Rattle.kom_state.proofs.state.RunState.open.Goals as goal

pub returns-clause-state : goal.returns-clause-state
returns-clause-state c =
    let v = c.with_channels.result in
    let e = c.in_ok-outs.ensures ∙ ap port_outs c.root_ports-ports.ensures.ports in
    let channels : AreOpened (port_links (port_outs (kind_of c.args.system.now.declarations c.args.system.now.declarations.root.kind).ports)) v =
    subst (λ (os : List Dir). AreOpened (port_links os) v) e c.with_channels.ensures.channels in
    is_opened c.args.system.now.declarations v c.with_channels.ensures.tree c.with_channels.ensures.rows c.with_channels.ensures.bodies (c.with_channels.ensures.outs ∙ e) c.with_channels.ensures.counts channels

pub returns-clause-numbers : goal.returns-clause-numbers
returns-clause-numbers c =
    let v = c.with_channels.result in
    let e = c.in_ok-outs.ensures ∙ ap port_outs c.root_ports-ports.ensures.ports in
    let channels : AreOpened (port_links (port_outs (kind_of c.args.system.now.declarations c.args.system.now.declarations.root.kind).ports)) v =
    subst (λ (os : List Dir). AreOpened (port_links os) v) e c.with_channels.ensures.channels in
    is_of c.args.system.now.declarations v c.with_channels.ensures.tree c.with_channels.ensures.rows c.with_channels.ensures.bodies (c.with_channels.ensures.outs ∙ e) c.with_channels.ensures.counts channels
