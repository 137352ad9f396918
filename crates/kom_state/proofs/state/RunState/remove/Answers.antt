use Rattle.std.proofs.Common.{◌≡◌, length, sym, ap, ◌∙◌, arith, not, ◌&&◌, subst}
use Rattle.std.specs.Prelude.{◌==◌}
use Rattle.std.proofs.lemmas.List.{length-map}
use Rattle.kom_state.specs.Insides.{parts_of}
use Rattle.kom_state.specs.Parts.{Parts, node_seen}
use Rattle.kom_state.specs.Sound.{IsTied}
use Rattle.kom_state.proofs.Reading.{made}
use Rattle.kom_state.proofs.Keeping.{itself}
use Rattle.kom_state.proofs.Lines.{fewer_live}
use Rattle.kom_state.proofs.Felling.{one_less, is_removed, frees_room}
use Rattle.kom_state.proofs.state.RunState.remove.Goals as goal

pub deepest-next-requires : goal.deepest-next-requires
deepest-next-requires c = made (parts_of c.self.inside) c.args.c (rw (← c.self.view_is) at c.requires)

pub deepest-next-requires-in-Some : goal.deepest-next-requires-in-Some
deepest-next-requires-in-Some c =
    let u = c.args.self.now in
    let v = c.loop-next.self in
    let w = c.end_last.new.self in
    let i = c.self-in-Some.inside in
    let at : length i.tree.instances ≡ length w.tree.instances = ap (λ (z : Parts). length z.tree.instances) c.self-in-Some.view_is in
    let nodes : length w.tree.instances ≡ length u.tree.instances =
    sym (length-map w.tree.instances node_seen) ∙ ap length (c.end_last.ensures.only.nodes ∙ c.loop-next.invariant.cut.only.nodes) ∙ length-map u.tree.instances node_seen in
    omega (arith, made u c.args.c c.requires, at, nodes)

pub loop-next-smaller : goal.loop-next-smaller
loop-next-smaller c =
    let v = c.loop-next.self in
    let w = c.end_last.new.self in
    let deep = rw c.in-Some.is at c.loop-next.invariant.deepest in
    fewer_live v.tree.instances w.tree.instances c.in-Some.d c.end_last.ensures.only.fewer deep.0
    (c.end_last.ensures.living c.in-Some.d ∙ ap (λ b. b && not (c.in-Some.d == c.in-Some.d)) deep.0 ∙ ap not (itself c.in-Some.d))

pub loop-next-preserved : goal.loop-next-preserved
loop-next-preserved c =
    let deep = rw c.in-Some.is at c.loop-next.invariant.deepest in
    record {
      cut = one_less c.args.self.now c.loop-next.self c.end_last.new.self c.args.c c.args.slot c.in-Some.d c.loop-next.invariant.cut c.loop-next.invariant.grown deep c.end_last.ensures;
      deepest = rw (← c.self-in-Some.view_is) c.deepest-next-in-Some.ensures.deepest;
      grown = rw (← c.self-in-Some.view_is) c.deepest-next-in-Some.ensures.grown;
    }

pub returns-clause-step : goal.returns-clause-step
returns-clause-step c =
    is_removed c.args.self.now c.loop-next.self c.args.c c.args.slot (subst IsTied c.self.view_is c.self.invariant) c.loop-next.invariant.cut c.loop-next.invariant.grown (rw c.in_default.is at c.loop-next.invariant.deepest)

pub returns-clause-room : goal.returns-clause-room
returns-clause-room c =
    frees_room c.args.self.now c.loop-next.self c.args.c c.args.slot (subst IsTied c.self.view_is c.self.invariant) c.loop-next.invariant.cut c.loop-next.invariant.grown (rw c.in_default.is at c.loop-next.invariant.deepest)
