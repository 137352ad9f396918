-- What a well-formed system says of one component type.
use Rattle.std.proofs.Common.{◌≡◌, ℕ, ◌<◌, ◌≤◌, Bool, true, ◌&&◌, nat_le, length, subst}
use Rattle.std.proofs.lemmas.Bool.{and_parts, leb-true}
use Rattle.kom_lang.specs.declared.kind.Kind.{Kind}
use Rattle.kom_lang.specs.Declarations.{Declarations}
use Rattle.kom_system.specs.Contents.{Contents}
use Rattle.kom_system.specs.Fitting.{kind_fits, numbers_fit}
use Rattle.kom_system.specs.WellFormed.{IsWellFormed, KindFits}

last-of : (a b c d e r : Bool) → ((a && (b && (c && (d && e)))) && r) ≡ true → e ≡ true
last-of a b c d e r h =
    let all = (and_parts (a && (b && (c && (d && e)))) r h).0 in
    (and_parts d e (and_parts c (d && e) (and_parts b (c && (d && e)) (and_parts a (b && (c && (d && e))) all).1).1).1).1

pub few-handlers : (S : Declarations) (kind : Kind) → kind_fits S kind ≡ true → length kind.handlers ≤ 64
few-handlers S kind h =
    leb-true (length kind.handlers) 64
    (last-of (nat_le (length kind.ports) 16) (nat_le (length kind.vars) 64) (nat_le (length kind.slots) 32) (nat_le (length kind.channels) 64) (nat_le (length kind.handlers) 64) (numbers_fit S kind) h)

pub kind-at : (inside seen : Contents) → inside ≡ seen → IsWellFormed inside → (k : ℕ) → k < length seen.declarations.kinds → KindFits seen.declarations k
kind-at inside seen e w k h = let P : Contents → Type 0 = λ c. IsWellFormed c in (subst P e w).declared.kinds k h
