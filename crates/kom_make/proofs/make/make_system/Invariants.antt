use Rattle.std.proofs.Common.{◌≡◌, ◌++◌, length}
use Rattle.std.specs.List.{flat_map}
use Rattle.kom_make.specs.Texts.{system_line, system_text, lines}
use Rattle.kom_make.specs.declared.template.TheConstants.{SYSTEM}
use Rattle.kom_make.proofs.make.make_system.Given as goal

abbrev pub invariant-loop-rest : goal.invariant-loop-rest
invariant-loop-rest l = l.out.items ++ flat_map (system_line l.n) (lines l.rest) ≡ system_text SYSTEM.now l.n

abbrev pub decreases-loop-rest : goal.decreases-loop-rest
decreases-loop-rest l = length l.rest
