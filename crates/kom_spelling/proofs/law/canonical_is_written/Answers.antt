use Rattle.kom_accept.proofs.Kept.{keeps}
use Rattle.kom_spelling.proofs.Files.{file_spelled}
use Rattle.kom_spelling.proofs.law.canonical_is_written.Goals as goal

pub returns : goal.returns
returns c P e = file_spelled P (keeps P e)
