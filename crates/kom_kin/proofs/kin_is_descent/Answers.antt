use Rattle.kom_kin.proofs.Descents.{kin-descends}
use Rattle.kom_kin.proofs.kin_is_descent.Goals as goal

pub returns : goal.returns
returns c = kin-descends c.args.rows.now c.args.a c.args.b
