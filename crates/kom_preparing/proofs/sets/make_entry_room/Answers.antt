use Rattle.std.proofs.Common.{refl}
use Rattle.kom_preparing.proofs.Roomy.{entry_roomier}
use Rattle.kom_preparing.proofs.sets.make_entry_room.Goals as goal

pub returns-in_err-reserve-clause-same : goal.returns-in_err-reserve-clause-same
returns-in_err-reserve-clause-same c = let v = c.args.run.now in entry_roomier v c.reserve.new.self v.env c.reserve.ensures.entries refl

pub returns-in_err-reserve-2-clause-same : goal.returns-in_err-reserve-2-clause-same
returns-in_err-reserve-2-clause-same c = entry_roomier c.args.run.now c.reserve.new.self c.reserve-2.new.self c.reserve.ensures.entries c.reserve-2.ensures.same

pub returns-clause-same : goal.returns-clause-same
returns-clause-same c = entry_roomier c.args.run.now c.reserve.new.self c.reserve-2.new.self c.reserve.ensures.entries c.reserve-2.ensures.same
