use Rattle.std.proofs.Common.{◌≡◌, take, drop, filter}
use Rattle.kom_rules.specs.Spaces.{is_init}
use Rattle.kom_plain.proofs.Over.{second_of}
use Rattle.kom_plain.proofs.many.second_init.Given as goal

abbrev pub invariant-loop-handler : goal.invariant-loop-handler
invariant-loop-handler l = take 1 (drop 1 (filter (λ h. is_init h.on) l.handlers)) ≡ second_of l.seen (drop l.handler-index l.handlers)
