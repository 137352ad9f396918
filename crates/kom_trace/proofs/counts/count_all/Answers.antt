use Rattle.kom_trace.proofs.counts.count_all.Goals as goal

pub loop-i-init : goal.loop-i-init
loop-i-init c S Z l = c.new-counts.ensures S
