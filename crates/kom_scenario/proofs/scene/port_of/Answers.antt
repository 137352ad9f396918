use Rattle.std.proofs.Common.{◌<◌, ◌^◌, ◌∙◌, ap, arith}
use Rattle.std.specs.Prelude.{unwrap_or}
use Rattle.kom_scenario.specs.Named.{port_number}
use Rattle.kom_scenario.proofs.Fitting.{number_or_zero, port_small}
use Rattle.kom_scenario.proofs.scene.port_of.Goals as goal

pub overflow_cast-result : goal.overflow_cast-result
overflow_cast-result c =
    let s = c.args.known.now.system.now in
    let q = c.args.raise.now.port.name in
    let is = c.unwrap_or-port.ensures ∙ ap (λ o. unwrap_or o 0) (c.find.ensures ∙ c.args.known.now.ports_are c.bytes.result.now ∙ ap (port_number s) c.bytes.ensures) in
    let small : unwrap_or (port_number s q) 0 < 2 ^ 8 = number_or_zero (port_number s q) (2 ^ 8) (omega arith) (λ k e. port_small s q k c.well_formed-2.ensures e) in
    omega (arith, is, small)
