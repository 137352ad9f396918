use Rattle.kom_written.proofs.Files.{file_again}
use Rattle.kom_written.proofs.law.files_again.Goals as goal

pub returns : goal.returns
returns c end t P d sound = file_again end t P d sound
