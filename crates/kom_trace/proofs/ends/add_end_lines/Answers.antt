use Rattle.kom_trace.proofs.Ended.{two_lines}
use Rattle.kom_trace.proofs.ends.add_end_lines.Goals as goal

pub returns : goal.returns
returns c S Z P h m =
    two_lines S Z P c.args.counts.now c.args.tally.now h m c.args.text.now c.add_ending.new.text c.add.new.self c.add_entries.new.text c.add_left.new.text c.add-2.new.self
    c.in_ok-add_ending.ensures c.in_ok-add.ensures c.in_ok-add_entries.ensures c.in_ok-add_left.ensures c.in_ok-add-2.ensures
