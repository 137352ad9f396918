-- The events of an accepted scenario come in.
use Rattle.std.proofs.Common.{◌≡◌, ℕ, ◌<◌, Bool, true, false, ◌==◌, List, [], ◌∷◌, length, map, Option, Some, None, refl, arith}
use Rattle.std.specs.Prelude.{nat_lt, not, is_none, unwrap_or}
use Rattle.std.specs.List.{flat_map, list_all}
use Rattle.std.proofs.lemmas.Bool.Decides.{nat_tests}
use Rattle.kom_events.specs.Kin.{attributes}
use Rattle.kom_system.specs.Contents.{Contents}
use Rattle.kom_system.specs.WellFormed.{IsWellFormed}
use Rattle.kom_scengram.specs.declared.parts.RaisePart.{RaisePart}
use Rattle.kom_scengram.specs.declared.parts.SourcePart.{SourcePart}
use Rattle.kom_scengram.specs.declared.parts.SourcePart.TheVariants as s
use Rattle.kom_scenario.specs.declared.tree.Scene.{Scene}
use Rattle.kom_scenario.specs.Named.{kind_number, port_number}
use Rattle.kom_scenario.specs.Scenes.{arg_of, raising_of, source_of}
use Rattle.kom_scenario.specs.Placed.{raising_of as raising_in, raising_fits}
use Rattle.kom_scenario.specs.Rules.{raise_of, raise_unknown, not_in, miscounted, raise_fails, comes_in, unknown, misplaced, unmatched}
use Rattle.kom_scenario.specs.Answers.{IsScenario}
use Rattle.kom_scenario.proofs.Sizes.{front_none, back_none, no_place}
use Rattle.kom_scenario.proofs.Soundness.{fine, broken_none, length_map}
use Rattle.kom_scenario.proofs.Fitting.{kind_within}

some_of : {A : Type 0} (o : Option A) → is_none o ≡ false → (x : A) × (o ≡ Some x)
some_of None e = absurd cc
some_of (Some x) e = (x, refl)

not_false : (b : Bool) → not b ≡ false → b ≡ true
not_false true e = refl
not_false false e = absurd cc

passed : (c : Contents) (test : ℕ → ℕ → Bool) (o p : Option ℕ) (k q at : ℕ) → o ≡ Some k → p ≡ Some q → raise_fails c test o p at ≡ [] → test q k ≡ true
passed c test o p k q at e e' f = let f' = rw (e, e') at f in not_false (test q k) (no_place (not (test q k)) at f')

fits_at : (c : Contents) (r : RaisePart) (o p : Option ℕ) (k q : ℕ) → o ≡ Some k → p ≡ Some q → comes_in c q k ≡ true → nat_lt k (length c.declarations.events) ≡ true
    → (length r.args == attributes c.declarations.events k) ≡ true → raising_fits c.declarations (record { kind = unwrap_or o 0; args = map arg_of r.args; port = unwrap_or p 0 }) ≡ true
fits_at c r o p k q e e' comes within counts =
    let same : length (map arg_of r.args) ≡ length r.args = length_map arg_of r.args in
    rw (e, e', same) (rw (comes, within, counts) refl)

module _ (c : Contents) (w : IsWellFormed c) where
  raise_placed : (r : RaisePart) → raise_unknown c r ≡ [] → not_in c r ≡ [] → miscounted c r ≡ [] → raising_fits c.declarations (raising_of c r) ≡ true
  raise_placed r e f g =
      let S = c.declarations in
      let k = some_of (kind_number c r.kind.name) (no_place (is_none (kind_number c r.kind.name)) r.kind.at (front_none _ _ e)) in
      let q = some_of (port_number c r.port.name) (no_place (is_none (port_number c r.port.name)) r.port.at (back_none _ _ e)) in
      let comes = passed c (comes_in c) (kind_number c r.kind.name) (port_number c r.port.name) (k.0) (q.0) r.kind.at (k.1) (q.1) f in
      let counts = passed c (λ q kind. length r.args == attributes S.events kind) (kind_number c r.kind.name) (port_number c r.port.name) (k.0) (q.0) r.kind.at (k.1) (q.1) g in
      let less : k.0 < length S.events = kind_within c r.kind.name (k.0) w (k.1) in
      let within : nat_lt (k.0) (length S.events) ≡ true = grind (arith, nat_tests) in
      fits_at c r (kind_number c r.kind.name) (port_number c r.port.name) (k.0) (q.0) (k.1) (q.1) comes within counts

  source_placed : (all : List SourcePart) (x : SourcePart) → raise_unknown c (raise_of x) ≡ [] → not_in c (raise_of x) ≡ [] → miscounted c (raise_of x) ≡ []
      → raising_fits c.declarations (raising_in (source_of c all x)) ≡ true
  source_placed all (s.At at n r) e f g = raise_placed r e f g
  source_placed all (s.Process p) e f g = raise_placed p.raise e f g

  sources_placed : (all xs : List SourcePart) → flat_map (λ x. raise_unknown c (raise_of x)) xs ≡ [] → flat_map (λ x. not_in c (raise_of x)) xs ≡ [] → flat_map (λ x. miscounted c (raise_of x)) xs ≡ []
      → list_all (λ x. raising_fits c.declarations (raising_in x)) (map (source_of c all) xs) ≡ true
  sources_placed all [] e f g = refl
  sources_placed all (x ∷ xs) e f g = rw (
    source_placed all x (front_none (raise_unknown c (raise_of x)) _ e) (front_none (not_in c (raise_of x)) _ f) (front_none (miscounted c (raise_of x)) _ g),
    sources_placed all xs (back_none (raise_unknown c (raise_of x)) _ e) (back_none (not_in c (raise_of x)) _ f) (back_none (miscounted c (raise_of x)) _ g),
  ) refl

  pub placed : (text : List ℕ) (z : Scene) → IsScenario c text z → list_all (λ x. raising_fits c.declarations (raising_in x)) z.sources ≡ true
  unfolding unknown misplaced unmatched
  placed text z d =
      let t = d.tree in
      let f = fine c t ((broken_none c t d.unbroken).0) in
      rw d.value (sources_placed t.sources t.sources (front_none _ _ f.known) f.placed f.matched)
