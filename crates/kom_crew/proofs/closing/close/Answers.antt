use Rattle.std.proofs.Common.{subst, sym}
use Rattle.kom_exchange.specs.Seats.{given_to}
use Rattle.kom_crew.specs.Crews.{IsDriven}
use Rattle.kom_crew.specs.Workers.{size_of}
use Rattle.kom_crew.proofs.Ending.{all_lots, all_seats, driven, ended}
use Rattle.kom_crew.proofs.closing.close.Goals as goal

pub is_gathered-gathered-requires : goal.is_gathered-gathered-requires
is_gathered-gathered-requires g c = all_lots g.T.StandsFor.system g.T.StandsFor.plan g.T.StandsFor.history c.args.crew c.args.workers.items c.unseat_all.new.lots.items c.requires.workers c.unseat_all.ensures.1

pub close-shut-requires : goal.close-shut-requires
close-shut-requires g c = all_seats g.T.StandsFor.system g.T.StandsFor.plan g.T.StandsFor.history c.args.crew c.args.workers.items c.unseat_all.new.seats.items c.requires.size c.requires.workers c.unseat_all.ensures.0

pub returns-then-gathered : goal.returns-then-gathered
returns-then-gathered g c =
    let s = c.close-shut.ensures in
    ended g.T.StandsFor.system g.T.StandsFor.plan g.T.StandsFor.history c.args.crew c.args.workers.items c.unseat_all.new.seats.items c.close-shut.result c.requires.workers c.unseat_all.ensures.0 s.station s.legal s.start s.others c.requires.size s.seen s.mine s.hands s.free (c.requires.done c.if-ended.true)

pub returns-else-ended : goal.returns-else-ended
returns-else-ended g c =
    let s = c.close-shut.ensures in
    subst (IsDriven g.T.StandsFor.system g.T.StandsFor.plan g.T.StandsFor.history (given_to c.args.crew.exchange) (size_of c.args.crew)) (sym c.into_station.ensures)
    (driven g.T.StandsFor.system g.T.StandsFor.plan g.T.StandsFor.history c.args.crew c.args.workers.items c.unseat_all.new.seats.items c.close-shut.result c.requires.workers c.unseat_all.ensures.0 s.station s.legal s.start s.others)
