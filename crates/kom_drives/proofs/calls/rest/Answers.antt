use Rattle.kom_drives.proofs.Handing.{rest_all}
use Rattle.kom_drives.proofs.calls.rest.Goals as goal

pub returns-in-Moved-clause-held : goal.returns-in-Moved-clause-held
returns-in-Moved-clause-held g c =
    let station = g.T.StandsFor in
    rest_all (station.system c.args.station.now) (station.plan c.args.station.now) (station.history c.args.station.now) (station.history c.rest.new.self) c.args.w c.rest.result c.rest.ensures.answer
