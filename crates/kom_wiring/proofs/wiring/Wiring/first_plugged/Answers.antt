use Rattle.std.proofs.Common.{Some, None, cond, sym, ap, ◌∙◌, subst}
use Rattle.kom_wiring.specs.Wires.{Wires, IsFirstFrom, is_at, plugged_at}
use Rattle.kom_wiring.proofs.Firsts.{kept, none_found, found}
use Rattle.kom_wiring.proofs.wiring.Wiring.first_plugged.Goals as goal

pub returns-in-None : goal.returns-in-None
returns-in-None c =
    let i = c.self.inside in
    ap (λ (w : Wires). kept c.args.half.now c.args.low w.links) (sym c.self.view_is) ∙ none_found i.links.0 i.links.1 i.ends.0 i.ends.1 c.self.invariant c.args.half.now c.args.low c.in-None.ensures.least

pub returns-in-Some : goal.returns-in-Some
returns-in-Some c =
    let i = c.self.inside in
    let least = c.in-Some.ensures.least in
    rw c.channel_at.ensures (subst (λ (w : Wires). IsFirstFrom (plugged_at c.args.half.now w.links) c.args.low (cond (is_at c.args.half.now c.in-Some.socket.now.at) (Some c.in-Some.socket.now.chan) None)) c.self.view_is
    (found i.links.0 i.links.1 i.ends.0 i.ends.1 c.self.invariant c.args.half.now c.args.low c.in-Some.socket.now least.0 least.1 least.2))
