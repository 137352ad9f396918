use Rattle.kom_wakes.proofs.Working.{runnable_by}
use Rattle.kom_wakes.proofs.runnable_by_state.Goals as goal

pub returns : goal.returns
returns c S P m k f s i = runnable_by S P m k f s i
