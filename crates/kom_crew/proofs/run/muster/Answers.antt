use Rattle.std.proofs.Common.{◌<◌, sym, ap, ◌∙◌, length, arith}
use Rattle.kom_exchange.specs.declared.exchange.Seat.{Seat}
use Rattle.kom_exchange.specs.Seats.{given_to}
use Rattle.kom_crew.specs.Workers.{IsIdle, size_of}
use Rattle.kom_crew.proofs.Crowds.{at_each, each_set}
use Rattle.kom_crew.proofs.Ending.{seated}
use Rattle.kom_crew.proofs.Places.{same_idle, still_counted}
use Rattle.kom_crew.proofs.run.muster.Goals as goal

pub seat_all-workers-requires-clause-pairs : goal.seat_all-workers-requires-clause-pairs
seat_all-workers-requires-clause-pairs g c = c.requires.lots.count ∙ sym c.requires.seats.0

pub seat_all-workers-requires-clause-room : goal.seat_all-workers-requires-clause-room
seat_all-workers-requires-clause-room g c = let n = c.requires.seats.0 in let room = c.requires.room.1 in (c.requires.room.0, omega (arith, n, room))

pub index_mut-requires : goal.index_mut-requires
index_mut-requires g c =
    let crew = c.args.crew.now in
    let ws = c.seat_all-workers.result in
    let each = seated g.T.StandsFor.system g.T.StandsFor.plan g.T.StandsFor.history crew (g.met.T.Station.legal (given_to crew.exchange)) c.args.seats.now.items c.args.lots.now.items ws.items c.requires.idle c.requires.seats c.requires.lots c.requires.fresh c.seat_all-workers.ensures.seated in
    let n = each.0 in
    let ok = ws.ok.0 in
    let some = c.requires.count.0 in
    omega (arith, n, ok, some)

pub returns-clause-idle : goal.returns-clause-idle
returns-clause-idle g c =
    let crew = c.args.crew.now in
    let ws = c.seat_all-workers.result.items in
    let each = seated g.T.StandsFor.system g.T.StandsFor.plan g.T.StandsFor.history crew (g.met.T.Station.legal (given_to crew.exchange)) c.args.seats.now.items c.args.lots.now.items ws c.requires.idle c.requires.seats c.requires.lots c.requires.fresh c.seat_all-workers.ensures.seated in
    let n = each.0 in
    let some = c.requires.count.0 in
    let first = c.index_mut.result.now in
    let lt : 0 < length ws = omega (arith, n, some) in
    let P = IsIdle g.T.StandsFor.system g.T.StandsFor.plan g.T.StandsFor.history crew in
    each_set (size_of crew) P ws 0 first c.push_all.new.self each lt c.index_mut.ensures.value (ap (λ (s : Seat). s.number) c.push_all.ensures.rest.0)
    (same_idle g.T.StandsFor.system g.T.StandsFor.plan g.T.StandsFor.history crew first c.push_all.new.self c.push_all.ensures.rest.0 c.push_all.ensures.rest.1 c.push_all.ensures.lot (still_counted first c.push_all.new.self c.push_all.ensures.given)
    (at_each (size_of crew) P ws 0 first each lt c.index_mut.ensures.value))
