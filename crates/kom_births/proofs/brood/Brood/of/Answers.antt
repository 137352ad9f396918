use Rattle.std.proofs.Common.{refl, ◌∙◌}
use Rattle.kom_record.specs.Instances.{Instance}
use Rattle.kom_births.proofs.Begun.{few_seeds}
use Rattle.kom_births.proofs.Numbered.{line_deep, line_first, line_for, line_under, not_deep, same_sprout, whole_few, whole_fits, whole_seeds}
use Rattle.kom_births.proofs.brood.Brood.of.Goals as goal

pub sprouts_of-requires-clause-depth : goal.sprouts_of-requires-clause-depth
sprouts_of-requires-clause-depth c = not_deep c.args.system.now.declarations c.well_formed-2.ensures.declared c.args.kind c.args.depth c.requires.kind c.requires.depth

pub seeds_of-requires-clause-few : goal.seeds_of-requires-clause-few
seeds_of-requires-clause-few c =
    let i : Instance = record { kind = c.args.kind; birth = c.args.birth; ancestry = line_for c.args.place c.args.depth } in
    whole_few c.args.system.now.declarations c.well_formed-2.ensures.declared c.args.number c.from.result i c.as_slice.result.now c.from.ensures c.requires.kind c.requires.number (line_under c.args.number c.args.place c.args.depth c.requires.place)
    (c.as_slice.ensures.value ∙ c.in_ok-sprouts.ensures i (same_sprout i c.args.kind c.args.birth c.args.place _ c.args.depth refl refl (line_first c.args.number c.args.place c.args.depth c.requires.place) c.seat_of.ensures (line_deep c.args.number c.args.place c.args.depth c.requires.place)))

pub seeds_of-requires-clause-fits : goal.seeds_of-requires-clause-fits
seeds_of-requires-clause-fits c =
    let i : Instance = record { kind = c.args.kind; birth = c.args.birth; ancestry = line_for c.args.place c.args.depth } in
    whole_fits c.args.system.now.declarations c.well_formed-2.ensures.declared c.args.number c.from.result i c.as_slice.result.now c.from.ensures c.requires.kind c.requires.number (line_under c.args.number c.args.place c.args.depth c.requires.place)
    (c.as_slice.ensures.value ∙ c.in_ok-sprouts.ensures i (same_sprout i c.args.kind c.args.birth c.args.place _ c.args.depth refl refl (line_first c.args.number c.args.place c.args.depth c.requires.place) c.seat_of.ensures (line_deep c.args.number c.args.place c.args.depth c.requires.place)))

pub returns-clause-few : goal.returns-clause-few
returns-clause-few c =
    let i : Instance = record { kind = c.args.kind; birth = c.args.birth; ancestry = line_for c.args.place c.args.depth } in
    (few_seeds c.args.system.now.declarations c.well_formed-2.ensures.declared c.args.number i c.in_ok-seeds.seeds.items
    (whole_seeds c.args.system.now.declarations c.args.number c.from.result i c.as_slice.result.now c.in_ok-seeds.seeds.items c.from.ensures
    (c.as_slice.ensures.value ∙ c.in_ok-sprouts.ensures i (same_sprout i c.args.kind c.args.birth c.args.place _ c.args.depth refl refl (line_first c.args.number c.args.place c.args.depth c.requires.place) c.seat_of.ensures (line_deep c.args.number c.args.place c.args.depth c.requires.place)))
    c.in_ok-seeds.ensures)).0

pub returns-clause-few_channels : goal.returns-clause-few_channels
returns-clause-few_channels c =
    let i : Instance = record { kind = c.args.kind; birth = c.args.birth; ancestry = line_for c.args.place c.args.depth } in
    (few_seeds c.args.system.now.declarations c.well_formed-2.ensures.declared c.args.number i c.in_ok-seeds.seeds.items
    (whole_seeds c.args.system.now.declarations c.args.number c.from.result i c.as_slice.result.now c.in_ok-seeds.seeds.items c.from.ensures
    (c.as_slice.ensures.value ∙ c.in_ok-sprouts.ensures i (same_sprout i c.args.kind c.args.birth c.args.place _ c.args.depth refl refl (line_first c.args.number c.args.place c.args.depth c.requires.place) c.seat_of.ensures (line_deep c.args.number c.args.place c.args.depth c.requires.place)))
    c.in_ok-seeds.ensures)).1

pub returns-clause-planted : goal.returns-clause-planted
returns-clause-planted c i k b f d =
    whole_seeds c.args.system.now.declarations c.args.number c.from.result i c.as_slice.result.now c.in_ok-seeds.seeds.items c.from.ensures
    (c.as_slice.ensures.value ∙ c.in_ok-sprouts.ensures i (same_sprout i c.args.kind c.args.birth c.args.place _ c.args.depth k b f c.seat_of.ensures d))
    c.in_ok-seeds.ensures
