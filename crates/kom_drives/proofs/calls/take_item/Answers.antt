use Rattle.kom_drives.proofs.Handing.{take_own, take_others}
use Rattle.kom_drives.proofs.calls.take_item.Goals as goal

pub returns-in-Job-clause-held : goal.returns-in-Job-clause-held
returns-in-Job-clause-held g c =
    let station = g.T.StandsFor in
    take_own (station.system c.args.station.now) (station.plan c.args.station.now) (station.history c.args.station.now) (station.history c.take.new.self) c.args.hand.now.w c.args.c c.in-Job.job c.in-Job.ensures.answer

pub returns-in-Job-clause-others : goal.returns-in-Job-clause-others
returns-in-Job-clause-others g c =
    let station = g.T.StandsFor in
    take_others (station.system c.args.station.now) (station.plan c.args.station.now) (station.history c.args.station.now) (station.history c.take.new.self) c.args.hand.now.w c.args.c c.take.result c.take.ensures.answer
