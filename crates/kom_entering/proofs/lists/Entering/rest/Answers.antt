use Rattle.std.proofs.Common.{sym, subst}
use Rattle.kom_record.specs.declared.item.Back.TheVariants.{Home}
use Rattle.kom_entering.specs.Lists.{IsOneMore, offer_from}
use Rattle.kom_entering.proofs.OneMore.{home_more}
use Rattle.kom_entering.proofs.lists.Entering.rest.Goals as goal

pub returns-clause-one : goal.returns-clause-one
returns-clause-one c S P at happened p = subst (λ z. IsOneMore S P (offer_from at happened Home) c.args.self.now z) (sym c.count.ensures) (home_more c.goes_out_once.ensures S P at happened c.args.self.now)
