use Rattle.kom_laws.proofs.DumpsAlone.{contains_in}
use Rattle.kom_record.specs.Instances.{ancestry_of, born}
use Rattle.kom_lives.proofs.Lives.{ancestors}
use Rattle.kom_lives.proofs.ancestors_live.Goals as goal

pub returns : goal.returns
returns c S done k q by h m = ancestors S done by k q h (contains_in q (ancestry_of S (born S done) k) m)
