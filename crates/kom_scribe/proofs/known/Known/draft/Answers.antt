use Rattle.kom_scribe.proofs.Changes.{with_nothing}
use Rattle.kom_scribe.proofs.known.Known.draft.Goals as goal

pub returns : goal.returns
returns c S done h = with_nothing S c.args.self.now c.new.result done h c.new.ensures.kinds c.new.ensures.changes
