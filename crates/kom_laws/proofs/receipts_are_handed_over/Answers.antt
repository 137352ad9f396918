use Rattle.kom_laws.proofs.Receipts.{handed_over}
use Rattle.kom_laws.proofs.receipts_are_handed_over.Goals as goal

pub returns : goal.returns
returns c S Z R l = handed_over S Z R l
