use Rattle.kom_laws.proofs.InOrder.{in_order}
use Rattle.kom_laws.proofs.each_in_order.Goals as goal

pub returns : goal.returns
returns c S Z R x d l h = in_order S x d Z R l h
