use Rattle.std.proofs.Common.{◌≡◌, ◌∙◌, sym}
use Rattle.kom_rules.specs.Names.{number_in}
use Rattle.kom_resolve.proofs.Numbered.{position_is, position_none}
use Rattle.kom_resolve.proofs.handling.local.Goals as goal
use Rattle.kom_resolve.proofs.handling.local.Goals.{in-Some, in-None}

pub returns-in-Ok : goal.returns-in-Ok
returns-in-Ok c =
    let is : c.match-number.number ≡ number_in c.args.scope.now c.args.spot.now.name = elim c.match-number.branch [
      | in-Some w ↦ w.number-is ∙ position_is c.args.scope.now c.args.spot.now.name w.in-Some.number (sym w.in-Some.is ∙ (rw c.bytes.ensures at c.number.ensures))
      | in-None w ↦ w.number-is ∙ w.len-number.ensures ∙ position_none c.args.scope.now c.args.spot.now.name (sym w.in-None.is ∙ (rw c.bytes.ensures at c.number.ensures))
    ] in
    c.in-Ok.ensures.1 ∙ is
