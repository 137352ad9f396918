use Rattle.std.proofs.Common.{◌≡◌, ◌≤◌, drop}
use Rattle.kom_text.specs.Numbers.{decimal, decimal_from, greatest}
use Rattle.kom_text.proofs.number.number_value.Given as goal

abbrev pub invariant-loop-d : goal.invariant-loop-d
invariant-loop-d l = record { fits : l.value ≤ greatest; so_far : decimal l.digits ≡ decimal_from l.value (drop l.d-index l.digits) }
