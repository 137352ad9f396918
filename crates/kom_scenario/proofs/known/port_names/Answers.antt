use Rattle.std.proofs.Common.{◌≡◌, ◌≤◌, ◌<◌, get_or, length, refl, ◌∙◌, ap, arith}
use Rattle.std.specs.Prelude.{bytes_eq}
use Rattle.kom_lang.specs.declared.kind.PortDecl.{PortDecl}
use Rattle.kom_scenario.specs.Named.{port_number, number_from, root_ports}
use Rattle.kom_scenario.proofs.Fitting.{number_is, take_all}
use Rattle.kom_scenario.proofs.known.port_names.Goals as goal

pub loop-q-preserved : goal.loop-q-preserved
loop-q-preserved c = λ q.
    let ps = root_ports c.args.system.now in
    let same : c.root_ports-port-items.result.now ≡ ps = c.root_ports-port-items.ensures in
    let p = c.port-item.result in
    let is : p ≡ get_or ps c.loop-q.q p = c.port-item.is ∙ ap (λ xs. get_or xs c.loop-q.q p) same in
    let less : c.loop-q.q < length ps = omega (arith, ap length same) in
    c.in_ok-add.ensures q ∙ rw (c.loop-q.invariant q, c.bytes.ensures, number_is (λ (x : PortDecl). bytes_eq q x.name) ps c.loop-q.q p less is) refl

pub returns : goal.returns
unfolding port_number
returns c = λ q.
    let all : length (root_ports c.args.system.now) ≤ c.loop-q.q = omega (arith, ap length c.root_ports-port-items.ensures) in
    c.loop-q.invariant q ∙ ap (λ xs. number_from (λ p. bytes_eq q p.name) 0 xs) (take_all (root_ports c.args.system.now) c.loop-q.q all)
