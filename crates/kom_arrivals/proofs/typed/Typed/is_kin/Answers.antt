use Rattle.kom_arrivals.proofs.typed.Typed.is_kin.Goals as goal

pub returns : goal.returns
returns c = c.is_kin.ensures c.args.self.now.parts.now c.args.self.now.tabled.events
