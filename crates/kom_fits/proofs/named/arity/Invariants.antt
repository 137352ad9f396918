use Rattle.std.proofs.Common.{◌≡◌, drop}
use Rattle.kom_base.specs.Lists.{find_map}
use Rattle.kom_rules.specs.Spaces.{init_parameters}
use Rattle.kom_fits.proofs.named.arity.Given as goal

abbrev pub invariant-loop-handler : goal.invariant-loop-handler
invariant-loop-handler l = find_map (λ h. init_parameters h.on) l.handler-items ≡ find_map (λ h. init_parameters h.on) (drop l.handler-index l.handler-items)
