use Rattle.std.proofs.Common.{◌<◌, ◌^◌, ◌∙◌, ap, arith}
use Rattle.std.specs.Prelude.{unwrap_or}
use Rattle.kom_scenario.specs.Named.{kind_number}
use Rattle.kom_scenario.proofs.Fitting.{number_or_zero, kind_small}
use Rattle.kom_scenario.proofs.scene.kind_of.Goals as goal

pub overflow_cast-result : goal.overflow_cast-result
overflow_cast-result c =
    let s = c.args.known.now.system.now in
    let q = c.args.raise.now.kind.name in
    let is = c.unwrap_or-kind.ensures ∙ ap (λ o. unwrap_or o 0) (c.find.ensures ∙ c.args.known.now.kinds_are c.bytes.result.now ∙ ap (kind_number s) c.bytes.ensures) in
    let small : unwrap_or (kind_number s q) 0 < 2 ^ 16 = number_or_zero (kind_number s q) (2 ^ 16) (omega arith) (λ k e. kind_small s q k c.well_formed-2.ensures e) in
    omega (arith, is, small)
