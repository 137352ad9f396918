use Rattle.kom_parse.proofs.Covered.{all-covered}
use Rattle.kom_parse.proofs.reader.Reader.new.Goals as goal

pub invariant_of-result : goal.invariant_of-result
invariant_of-result c = all-covered _ _ c.requires
