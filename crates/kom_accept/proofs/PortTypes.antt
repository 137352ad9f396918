-- The port types of a syntax tree that breaks no rule.
use Rattle.std.proofs.Common.{◌≡◌, ℕ, ◌<◌, ◌≤◌, true, ◌&&◌, List, [], ◌∷◌, ◌++◌, map, length, Some, slice_get, nat_le, nat_lt, refl, arith}
use Rattle.std.specs.List.{flat_map, list_all}
use Rattle.std.specs.Option.{option_map_or}
use Rattle.std.proofs.lemmas.Bool.{le-leb, lt-ltb}
use Rattle.std.proofs.lemmas.List.{length-map}
use Rattle.kom_system.specs.Fitting.{port_type_fits}
use Rattle.kom_system.specs.declared.parts.Spot.{Spot}
use Rattle.kom_system.specs.declared.parts.PortTypePart.{PortTypePart}
use Rattle.kom_system.specs.declared.parts.Parts.{Parts}
use Rattle.kom_rules.specs.Spaces.{event_number, event_rows, port_row, port_rows}
use Rattle.kom_rules.specs.Declaring.{unknown_event, unknown_in_types, unknown_in_components}
use Rattle.kom_accept.proofs.Lists.{first_empty, second_empty, none_at, both, all_mapped}
use Rattle.kom_accept.proofs.Kept.{Keeps}
use Rattle.kom_accept.proofs.Events.{number_known_event, rows_long}
use Rattle.kom_accept.proofs.Counts.{few_listed}

module _ (P : Parts) (K : Keeps P) where
  low : (k : ℕ) → k < 4 → nat_lt k (length (event_rows P)) ≡ true
  low k h = lt-ltb k (length (event_rows P)) (omega (arith, rows_long P))

  listed_fits : (spots : List Spot) → length spots ≤ 64 → flat_map (unknown_event P) spots ≡ [] → nat_le (length (map (event_number P) spots)) 64 && list_all (λ k. nat_lt k (length (event_rows P))) (map (event_number P) spots) ≡ true
  listed_fits spots few none =
      both (nat_le (length (map (event_number P) spots)) 64) (list_all (λ k. nat_lt k (length (event_rows P))) (map (event_number P) spots))
      (le-leb (length (map (event_number P) spots)) 64 (omega (arith, few, length-map spots (event_number P))))
      (all_mapped (λ k. nat_lt k (length (event_rows P))) (event_number P) spots (λ k s h. lt-ltb (event_number P s) (length (event_rows P)) (number_known_event P K s (none_at (unknown_event P) spots k s none h))))

  declared_fits : (k : ℕ) (t : PortTypePart) → slice_get P.ports k ≡ Some t → port_type_fits (event_rows P) (port_row P t) ≡ true
  declared_fits k t h =
      let none = none_at (λ x. flat_map (unknown_event P) x.plus ++ flat_map (unknown_event P) x.minus) P.ports k t
      (second_empty (flat_map (λ e. option_map_or (unknown_event P) e.parent []) P.events) (flat_map (λ x. flat_map (unknown_event P) x.plus ++ flat_map (unknown_event P) x.minus) P.ports) (first_empty (unknown_in_types P) (unknown_in_components P) K.declared)) h in
      let few = few_listed P K k t h in
      both _ _ (listed_fits t.plus few.0 (first_empty (flat_map (unknown_event P) t.plus) (flat_map (unknown_event P) t.minus) none))
      (listed_fits t.minus few.1 (second_empty (flat_map (unknown_event P) t.plus) (flat_map (unknown_event P) t.minus) none))

  two : (kinds : List ℕ) → nat_le (length kinds) 64 ≡ true → list_all (λ k. nat_lt k (length (event_rows P))) kinds ≡ true → nat_le (length kinds) 64 && list_all (λ k. nat_lt k (length (event_rows P))) kinds ≡ true
  two kinds h g = both (nat_le (length kinds) 64) (list_all (λ k. nat_lt k (length (event_rows P))) kinds) h g

  one_known : (k : ℕ) → k < 4 → list_all (λ j. nat_lt j (length (event_rows P))) (k ∷ []) ≡ true
  one_known k h = both (nat_lt k (length (event_rows P))) true (low k h) refl

  pub ports_fit : list_all (port_type_fits (event_rows P)) (port_rows P) ≡ true
  ports_fit =
      both (port_type_fits (event_rows P) (record { plus = 2 ∷ []; minus = 0 ∷ 1 ∷ [] })) _
      (both _ _ (two (2 ∷ []) refl (one_known 2 (omega arith))) (two (0 ∷ 1 ∷ []) refl (both (nat_lt 0 (length (event_rows P))) _ (low 0 (omega arith)) (one_known 1 (omega arith)))))
      (both (port_type_fits (event_rows P) (record { plus = 3 ∷ []; minus = 3 ∷ [] })) _
      (both _ _ (two (3 ∷ []) refl (one_known 3 (omega arith))) (two (3 ∷ []) refl (one_known 3 (omega arith))))
      (all_mapped (port_type_fits (event_rows P)) (port_row P) P.ports declared_fits))
