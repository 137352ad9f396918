use Rattle.kom_wakes.proofs.Counting.{wakes_by}
use Rattle.kom_wakes.proofs.wakes_are_marked.Goals as goal

pub returns : goal.returns
returns c S Z P e mark h = wakes_by S Z P e mark h
