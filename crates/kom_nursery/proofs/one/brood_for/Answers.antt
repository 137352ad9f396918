use Rattle.std.proofs.Common.{◌∙◌, ap, append-nil, arith, length, sym}
use Rattle.kom_births.specs.Seeds.{links_of}
use Rattle.kom_nursery.specs.Nurseries.{brood_of}
use Rattle.kom_nursery.proofs.Broods.{one_brood}
use Rattle.kom_nursery.proofs.one.brood_for.Goals as goal

pub returns-in_ok-brood-in-Create-clause-brood : goal.returns-in_ok-brood-in-Create-clause-brood
returns-in_ok-brood-in-Create-clause-brood c done n =
    let S = c.args.system.now.declarations in
    one_brood S done c.args.c c.args.depth c.args.number c.in-Create.slot c.in-Create.kind c.in-Create.birth c.in_ok-brood-in-Create.brood n
    (λ i k b f d. c.in_ok-brood-in-Create.ensures.planted i k (b ∙ sym c.in_ok-birth-in-Create.ensures) f d)
    ∙ ap (brood_of S done c.args.c) (sym c.in-Create.is)

pub returns-in_ok-brood-in-Create-clause-few_channels : goal.returns-in_ok-brood-in-Create-clause-few_channels
returns-in_ok-brood-in-Create-clause-few_channels c = omega (arith, ap (λ l. length (links_of l)) (append-nil c.in_ok-brood-in-Create.brood), c.in_ok-brood-in-Create.ensures.few_channels)
