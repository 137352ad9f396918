use Rattle.kom_coming.proofs.Counted.{out_more}
use Rattle.kom_coming.proofs.laws.out_rises.Goals as goal

pub returns : goal.returns
returns c S P w k took o to places v i = out_more S P w k took o to places v c.out_is_counted.ensures i
