use Rattle.std.proofs.Common.{◌≡◌, ◌-◌, drop}
use Rattle.kom_rules.specs.Broken.{first_broken, broken_rule, file_rules}
use Rattle.kom_check.proofs.reported.first_broken.Given as goal

abbrev pub invariant-loop-number : goal.invariant-loop-number
invariant-loop-number l = broken_rule l.parts ≡ first_broken (drop (l.number - 6) file_rules) l.parts
