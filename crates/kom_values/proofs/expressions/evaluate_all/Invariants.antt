use Rattle.std.proofs.Common.{◌≡◌, drop}
use Rattle.kom_lang.specs.Values.{Valuation, values}
use Rattle.kom_values.proofs.Prefixes.{prefixed}
use Rattle.kom_values.proofs.expressions.evaluate_all.Given as goal

abbrev pub invariant-loop-e : goal.invariant-loop-e
invariant-loop-e l =
    let s : Valuation = record { vars = l.vars; scope = l.scope; it = l.it } in
    values l.e-items s ≡ prefixed l.found (values (drop l.e-index l.e-items) s)
