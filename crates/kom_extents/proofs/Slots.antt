-- Who is in the slots of components where a state stands for a record.
use Rattle.std.proofs.Common.{◌≡◌, ℕ, ◌+◌, ◌<◌, ◌≤◌, sym, ap, ◌∙◌, subst, length, Option, Some, arith}
use Rattle.std.specs.Prelude.{nat_le, slice_get}
use Rattle.std.specs.List.{filter_map}
use Rattle.std.specs.Option.{option_and_then, option_map}
use Rattle.std.proofs.lemmas.Bool.{leb-true}
use Rattle.std.proofs.lemmas.Option.{slice_get_within}
use Rattle.kom_lang.specs.Bodies.{first_body}
use Rattle.kom_lang.specs.Declarations.{Declarations, kind_of}
use Rattle.kom_lang.specs.declared.body.Body.{Body}
use Rattle.kom_system.specs.Fitting.{has_at_most, numbers_fit}
use Rattle.kom_system.specs.WellFormed.{IsDeclared}
use Rattle.kom_record.specs.Bodies.{body_after_all, outcome_of}
use Rattle.kom_record.specs.Entries.{acts}
use Rattle.kom_record.specs.Instances.{Instance, alive, born, occupant}
use Rattle.kom_laws.proofs.InstanceLaws.{occupant_born}
use Rattle.kom_agree.specs.Agrees.{kind_in}
use Rattle.kom_agree.proofs.Records.{good}
use Rattle.kom_lives.proofs.Lives.{both}
use Rattle.kom_refine.specs.Points.{body_of, start_of}
use Rattle.kom_typed.proofs.Ends.{bound_of, chosen_true, mapped_of}
use Rattle.kom_extents.specs.Laws.{ChildrenAreKept}

-- a declared component type has few slots
few_declared : (S : Declarations) (k : ℕ) → IsDeclared S → k < length S.kinds → length (kind_of S k).slots ≤ 32
few_declared S k D l =
    let fits = (both (has_at_most 16 64 32 64 64 (kind_of S k)) (numbers_fit S (kind_of S k)) (D.kinds k l).parts).0 in
    let rest = (both (nat_le (length (kind_of S k).vars) 64) _ (both (nat_le (length (kind_of S k).ports) 16) _ fits).1).1 in
    leb-true (length (kind_of S k).slots) 32 (both (nat_le (length (kind_of S k).slots) 32) _ rest).0

pub children_are_in_slots : ChildrenAreKept
children_are_in_slots S Z R c v D l s d slot q b apart f g =
    let there = chosen_true (alive S (acts R) d) (body_of S (start_of R) d) b (sym (s.bodies d) ∙ f) in
    let i = mapped_of (λ (i : Instance). body_after_all (first_body S i.kind i.birth (1 + length i.ancestry)) (filter_map (outcome_of d) R)) (slice_get (born S (acts R)) d) b there.1 in
    let r = good S Z D R l d i.0 i.1 in
    let in_it : occupant S (acts R) d slot ≡ Some q = sym (s.child d slot there.0) ∙ g in
    let j = occupant_born S (acts R) d slot q in_it in
    let kind : kind_in S (acts R) d slot ≡ Some j.0.kind = ap (λ o. option_map (λ i. i.kind) (option_and_then (slice_get (born S (acts R))) o)) in_it ∙ ap (option_map (λ i. i.kind)) j.1 in
    let held = bound_of (λ (o : Option ℕ). o) (slice_get _ slot) j.0.kind (sym (r.agrees.slots slot) ∙ kind) in
    let low = slice_get_within _ slot held.0 held.1 in
    let many = r.fits.slots ∙ ap (λ k. length (kind_of S k).slots) r.kind in
    let few = few_declared S i.0.kind D r.instance.kind in
    (subst (λ (z : Body). slot < length z.slots) i.2 low, omega (arith, low, many, few))
