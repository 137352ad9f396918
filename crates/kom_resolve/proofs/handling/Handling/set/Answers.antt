use Rattle.std.proofs.Common.{◌≡◌, ◌∙◌, arith, sym, Some}
use Rattle.kom_rules.specs.Names.{names_of}
use Rattle.kom_rules.specs.Spaces.{var_spots}
use Rattle.kom_lookups.specs.Numbered.{number_from}
use Rattle.kom_resolve.proofs.Exprs.{set_var, set_local}
use Rattle.kom_resolve.proofs.Numbered.{few, found_is, short}
use Rattle.kom_resolve.proofs.handling.Handling.set.Goals as goal
use Rattle.kom_resolve.proofs.handling.Handling.set.Goals.{In-Some}

numbered : (c : In-Some) → Some c.in-Some.number ≡ number_from 0 (names_of (var_spots c.args.self.now.part.now)) c.args.spot.now.name
numbered c = sym c.in-Some.is ∙ (rw c.bytes.ensures at c.number.ensures) ∙ c.args.self.now.named.vars c.args.spot.now.name

pub overflow_cast-result : goal.overflow_cast-result
overflow_cast-result c =
    let s = c.args.self.now in
    omega (arith, few (λ x. x.name) s.part.now.vars c.args.spot.now.name c.in-Some.number (short s.part.now s.short).vars (found_is (names_of (var_spots s.part.now)) c.args.spot.now.name c.in-Some.number (numbered c)))

pub returns-in-Some : goal.returns-in-Some
returns-in-Some c = set_var c.args.self.now.parts.now c.args.self.now.part.now c.args.self.now.on.now c.args.scope.now c.args.spot.now.name c.in-Some.number c.args.value (numbered c)

pub returns-in_ok-local-in-None : goal.returns-in_ok-local-in-None
returns-in_ok-local-in-None c =
    set_local c.args.self.now.parts.now c.args.self.now.part.now c.args.self.now.on.now c.args.scope.now c.args.spot.now.name c.in_ok-local-in-None.field-0 c.args.value
    (sym c.in-None.is ∙ (rw c.bytes.ensures at c.number.ensures) ∙ c.args.self.now.named.vars c.args.spot.now.name) c.in_ok-local-in-None.ensures
