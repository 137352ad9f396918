use Rattle.std.proofs.Common.{sym, ◌∙◌}
use Rattle.kom_state.specs.Parts.{state_of}
use Rattle.kom_state.specs.Readings.{ancestry_at, is_catching}
use Rattle.kom_puts.proofs.Living.{found_above}
use Rattle.kom_puts.proofs.told.told_of.Goals as goal

pub returns-clause-told : goal.returns-clause-told
returns-clause-told c S Z P l s h = c.nearest.ensures ∙ sym (c.nearest_by_state.ensures S Z P (state_of c.args.state.now) c.args.c l s h)

pub returns-clause-above : goal.returns-clause-above
returns-clause-above c = found_above (λ q. is_catching (state_of c.args.state.now) q.0) (ancestry_at (state_of c.args.state.now) c.args.c) c.nearest.result c.nearest.ensures
