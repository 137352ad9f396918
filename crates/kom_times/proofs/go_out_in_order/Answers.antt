use Rattle.kom_times.proofs.Asked.{later}
use Rattle.kom_times.proofs.go_out_in_order.Goals as goal

pub returns : goal.returns
returns c S Z P e gone rest o v q h = later S Z P e gone rest o v q h
