use Rattle.std.proofs.Common.{◌≡◌, filter, take, false}
use Rattle.std.specs.Option.{option_map_or}
use Rattle.kom_lang.specs.Declarations.{handler_of}
use Rattle.kom_record.specs.Reaction as reaction
use Rattle.kom_eval.proofs.handlers.subscribed.Given as goal

abbrev pub invariant-loop-h : goal.invariant-loop-h
invariant-loop-h l = l.numbers ≡ filter (λ h. option_map_or (λ x. reaction.handles l.system.declarations l.item x.on) (handler_of l.kind h) false) (take l.h-index l.h-items)
