use Rattle.std.proofs.Common.{length, ap, arith}
use Rattle.kom_state.specs.Parts.{state_of}
use Rattle.kom_state.proofs.Numbered.{numbers_stay}
use Rattle.kom_births.proofs.Begun.{IsReady, few_links_ready, few_ready, items_least, may_begin, sown_to_begin, still_ready, took_to_begin}
use Rattle.kom_births.proofs.Rooted.{openings_are_sown}
use Rattle.kom_births.proofs.beginning.begin.Goals as goal

pub make_room-requires-clause-few : goal.make_room-requires-clause-few
make_room-requires-clause-few c =
    few_ready c.args.system.now.declarations c.in_ok-state.state c.in_ok-brood.brood c.well_formed-2.ensures.declared (record { opened = c.in_ok-state.ensures.state; numbers = c.in_ok-state.ensures.numbers }) c.in_ok-brood.ensures

pub make_room-requires-clause-few_channels : goal.make_room-requires-clause-few_channels
make_room-requires-clause-few_channels c =
    few_links_ready c.args.system.now.declarations c.in_ok-state.state c.in_ok-brood.brood c.well_formed-2.ensures.declared (record { opened = c.in_ok-state.ensures.state; numbers = c.in_ok-state.ensures.numbers }) c.in_ok-brood.ensures

pub sow-requires-clause-may : goal.sow-requires-clause-may
sow-requires-clause-may c =
    let S = c.args.system.now.declarations in
    let first : IsReady S c.in_ok-state.state = record { opened = c.in_ok-state.ensures.state; numbers = c.in_ok-state.ensures.numbers } in
    let next = still_ready S c.in_ok-state.state c.make_room.new.state first c.in_ok-make_room.ensures.same c.in_ok-make_room.ensures.not_less in
    let v = c.reserve_controls.new.self in
    let r = still_ready S c.make_room.new.state v next c.in_ok-reserve_controls.ensures.same c.in_ok-reserve_controls.ensures.not_less in
    may_begin S v r.opened r.numbers (openings_are_sown S v r.opened) c.in_ok-brood.brood c.in_ok-brood.ensures

pub sow-requires-clause-few : goal.sow-requires-clause-few
sow-requires-clause-few c =
    let S = c.args.system.now.declarations in
    let first : IsReady S c.in_ok-state.state = record { opened = c.in_ok-state.ensures.state; numbers = c.in_ok-state.ensures.numbers } in
    let next = still_ready S c.in_ok-state.state c.make_room.new.state first c.in_ok-make_room.ensures.same c.in_ok-make_room.ensures.not_less in
    let v = c.reserve_controls.new.self in
    let r = still_ready S c.make_room.new.state v next c.in_ok-reserve_controls.ensures.same c.in_ok-reserve_controls.ensures.not_less in
    few_ready S v c.in_ok-brood.brood c.well_formed-2.ensures.declared r c.in_ok-brood.ensures

pub sow-requires-clause-few_channels : goal.sow-requires-clause-few_channels
sow-requires-clause-few_channels c =
    let S = c.args.system.now.declarations in
    let first : IsReady S c.in_ok-state.state = record { opened = c.in_ok-state.ensures.state; numbers = c.in_ok-state.ensures.numbers } in
    let next = still_ready S c.in_ok-state.state c.make_room.new.state first c.in_ok-make_room.ensures.same c.in_ok-make_room.ensures.not_less in
    let v = c.reserve_controls.new.self in
    let r = still_ready S c.make_room.new.state v next c.in_ok-reserve_controls.ensures.same c.in_ok-reserve_controls.ensures.not_less in
    few_links_ready S v c.in_ok-brood.brood c.well_formed-2.ensures.declared r c.in_ok-brood.ensures

pub put-requires-clause-living : goal.put-requires-clause-living
put-requires-clause-living c =
    let S = c.args.system.now.declarations in
    let first : IsReady S c.in_ok-state.state = record { opened = c.in_ok-state.ensures.state; numbers = c.in_ok-state.ensures.numbers } in
    let next = still_ready S c.in_ok-state.state c.make_room.new.state first c.in_ok-make_room.ensures.same c.in_ok-make_room.ensures.not_less in
    let v = c.reserve_controls.new.self in
    let r = still_ready S c.make_room.new.state v next c.in_ok-reserve_controls.ensures.same c.in_ok-reserve_controls.ensures.not_less in
    (openings_are_sown S v r.opened).root_lives c.sow.new.state (sown_to_begin S v c.sow.new.state r.opened r.numbers c.in_ok-brood.brood c.in_ok-brood.ensures c.sow.ensures.step)

pub put-requires-clause-spare : goal.put-requires-clause-spare
put-requires-clause-spare c =
    let a = c.sow.ensures.room.controls 0 in
    let b = items_least 0 (length (state_of c.reserve_controls.new.self).nodes) c.in_ok-brood.brood in
    let d = c.in_ok-reserve_controls.ensures.ok in
    omega (arith, a, b, d)

pub returns-clause-stands : goal.returns-clause-stands
returns-clause-stands c =
    let S = c.args.system.now.declarations in
    let first : IsReady S c.in_ok-state.state = record { opened = c.in_ok-state.ensures.state; numbers = c.in_ok-state.ensures.numbers } in
    let next = still_ready S c.in_ok-state.state c.make_room.new.state first c.in_ok-make_room.ensures.same c.in_ok-make_room.ensures.not_less in
    let v = c.reserve_controls.new.self in
    let r = still_ready S c.make_room.new.state v next c.in_ok-reserve_controls.ensures.same c.in_ok-reserve_controls.ensures.not_less in
    (openings_are_sown S v r.opened).stands c.sow.new.state (state_of c.put.new.self) (sown_to_begin S v c.sow.new.state r.opened r.numbers c.in_ok-brood.brood c.in_ok-brood.ensures c.sow.ensures.step) c.put.ensures.step

pub returns-clause-numbers : goal.returns-clause-numbers
returns-clause-numbers c =
    let S = c.args.system.now.declarations in
    let first : IsReady S c.in_ok-state.state = record { opened = c.in_ok-state.ensures.state; numbers = c.in_ok-state.ensures.numbers } in
    let next = still_ready S c.in_ok-state.state c.make_room.new.state first c.in_ok-make_room.ensures.same c.in_ok-make_room.ensures.not_less in
    let v = c.reserve_controls.new.self in
    let w = c.sow.new.state in
    let r = still_ready S c.make_room.new.state v next c.in_ok-reserve_controls.ensures.same c.in_ok-reserve_controls.ensures.not_less in
    let sown = sown_to_begin S v w r.opened r.numbers c.in_ok-brood.brood c.in_ok-brood.ensures c.sow.ensures.step in
    let took = took_to_begin S v w r.opened c.in_ok-brood.brood c.in_ok-brood.ensures c.sow.ensures.room in
    numbers_stay S w c.put.new.self ((openings_are_sown S v r.opened).numbers w r.numbers sown took) c.put.ensures.step.tree.nodes (ap (λ n. n.outs) c.put.ensures.room.numbers) (ap (λ n. n.counts) c.put.ensures.room.numbers)
