-- The event types of a syntax tree that breaks no rule.
use Rattle.std.specs.Prelude.{codes}
use Rattle.std.proofs.Common.{inl, inr, ◌≡◌, ℕ, zero, suc, ◌+◌, ◌-◌, ◌<◌, ◌≤◌, true, false, not, ◌&&◌, cond, List, [], ◌∷◌, map, length, Option, Some, None, slice_get, slice_index_or, bytes_eq, nat_le, nat_lt, reverse, sum_by, refl, ap, ◌∙◌, arith}
use Rattle.std.specs.List.{flat_map}
use Rattle.std.specs.Option.{option_map, option_map_or, option_and_then}
use Rattle.std.proofs.lemmas.Bool.{le-leb, lt-ltb, ltb-false, leb-true}
use Rattle.std.proofs.lemmas.Bool.{cases_lt}
use Rattle.std.proofs.lemmas.List.{length-map}
use Rattle.std.proofs.lemmas.List.Sums.{sum_by-cons}
use Rattle.kom_events.specs.Kin.{parent_of, ancestors, is_on_cycle, attributes, own_attributes}
use Rattle.kom_system.specs.Fitting.{event_fits}
use Rattle.kom_system.specs.declared.parts.Spot.{Spot}
use Rattle.kom_system.specs.declared.parts.EventPart.{EventPart}
use Rattle.kom_system.specs.declared.parts.Parts.{Parts}
use Rattle.kom_rules.specs.Names.{Name, names_of, number_in, is_among, at_if}
use Rattle.kom_rules.specs.Spaces as spaces
use Rattle.kom_rules.specs.Spaces.{event_names, event_number, event_row, event_rows, event_spots, attribute_names, built_in_attributes}
use Rattle.kom_rules.specs.Declaring.{unknown_event, wrong_parent, no_parents, has_wrong_attributes, has_repeat, unknown_in_types, unknown_in_components, over}
use Rattle.kom_events.proofs.Walks.{ancestors-past}
use Rattle.kom_tables.proofs.Attributed.{names_count}
use Rattle.kom_accept.proofs.Lists.{second, first_empty, none_at, none_numbered, not_at, neither, both, known_number, not_over, mapped_at, member}
use Rattle.kom_accept.proofs.Kept.{Keeps}

four_more : (n : ℕ) → 4 + n ≡ suc (suc (suc (suc n)))
four_more n = omega arith

module _ (P : Parts) where
  pub rows_long : length (event_rows P) ≡ 4 + length P.events
  rows_long = let declared = length-map P.events (event_row P) in omega (arith, declared)

  pub names_long : length (event_names P) ≡ length (event_rows P)
  names_long =
      let declared = length-map P.events (event_row P) in
      let spots = length-map P.events (λ e. e.name) in
      let names = length-map (event_spots P) (λ s. s.name) in
      omega (arith, declared, spots, names)

  pub row_at : (j : ℕ) (e : EventPart) → slice_get P.events j ≡ Some e → slice_get (event_rows P) (4 + j) ≡ Some (event_row P e)
  row_at j e h = ap (slice_get (event_rows P)) (four_more j) ∙ mapped_at (event_row P) P.events j e h

module _ (P : Parts) (K : Keeps P) where
  pub few_events : length P.events ≤ 256
  few_events = let spots = not_over 256 (event_spots P) (first_empty (over 256 (event_spots P)) _ K.few) in let long = length-map P.events (λ e. e.name) in omega (arith, spots, long)

  types_declared : unknown_in_types P ≡ []
  types_declared = first_empty (unknown_in_types P) (unknown_in_components P) K.declared

  pub number_known_event : (s : Spot) → unknown_event P s ≡ [] → event_number P s < length (event_rows P)
  number_known_event s h = let less = known_number (event_names P) s h in let long = names_long P in omega (arith, less, long)

-- ---- numbers of names that are not the first

number_behind : (x : Name) (names : List Name) (n : Name) → bytes_eq n x ≡ false → number_in (x ∷ names) n ≡ 1 + number_in names n
number_behind x names n e = ap (λ b. cond (not b) (1 + number_in names n) 0) e

third : (a b c : Name) (rest : List Name) (n : Name) → is_among (a ∷ b ∷ c ∷ []) n ≡ false → 3 ≤ number_in (a ∷ b ∷ c ∷ rest) n
third a b c rest n h =
    let first = neither (bytes_eq n a) (is_among (b ∷ c ∷ []) n) h in
    let second = neither (bytes_eq n b) (is_among (c ∷ []) n) first.1 in
    let last = neither (bytes_eq n c) (is_among [] n) second.1 in
    let x = number_behind a (b ∷ c ∷ rest) n first.0 in
    let y = number_behind b (c ∷ rest) n second.0 in
    let z = number_behind c rest n last.0 in
    omega (arith, x, y, z)

-- ---- the rows

built_in_fits : (P : Parts) (k : ℕ) → k < 4 → event_fits (event_rows P) k ≡ true
built_in_fits P zero h = refl
built_in_fits P (suc zero) h = refl
built_in_fits P (suc (suc zero)) h = refl
built_in_fits P (suc (suc (suc zero))) h = refl
built_in_fits P (suc (suc (suc (suc k)))) h = absurd (omega arith)

module _ (P : Parts) (K : Keeps P) where
  parent_fits : (o : Option Spot) → option_map_or (unknown_event P) o [] ≡ [] → option_map_or (λ s. at_if (is_among no_parents s.name) s.at) o [] ≡ []
      → option_map_or (λ p. nat_le 3 p && nat_lt p (length (event_rows P))) (option_map (event_number P) o) true ≡ true
  parent_fits None h g = refl
  parent_fits (Some s) h g =
      both (nat_le 3 (event_number P s)) (nat_lt (event_number P s) (length (event_rows P)))
      (le-leb 3 (event_number P s) (third (codes "SetTimer") (codes "CancelTimer") (codes "Timeout") (codes "Message" ∷ names_of (event_spots P)) s.name (not_at (is_among no_parents s.name) s.at g)))
      (lt-ltb (event_number P s) (length (event_rows P)) (number_known_event P K s h))

  few_names : (names : List Name) → has_wrong_attributes names ≡ false → length names ≤ 8
  few_names names h = ltb-false 8 (length names) (neither (nat_lt 8 (length names)) (has_repeat names) h).0

  pub few_attributes : (j : ℕ) (e : EventPart) → slice_get P.events j ≡ Some e → length (attribute_names P (4 + j)) ≤ 8
  few_attributes j e h =
      few_names (attribute_names P (4 + j)) (not_at (has_wrong_attributes (attribute_names P (4 + j))) e.name.at
      (none_numbered (λ x. at_if (has_wrong_attributes (attribute_names P x.0)) x.1.name.at) 4 P.events j e K.attributes h))

  declared_fits : (j : ℕ) (e : EventPart) → slice_get P.events j ≡ Some e → event_fits (event_rows P) (4 + j) ≡ true
  declared_fits j e h =
      let rows = event_rows P in
      let parent : parent_of rows (4 + j) ≡ option_map (event_number P) e.parent = ap (option_and_then (λ row. row.parent)) (row_at P j e h) in
      let acyclic : is_on_cycle rows (4 + j) ≡ false =
      not_at (is_on_cycle rows (4 + j)) e.name.at (none_numbered (λ x. at_if (is_on_cycle rows x.0) x.1.name.at) 4 P.events j e K.ancestors h) in
      let small : attributes rows (4 + j) ≤ 8 = omega (arith, names_count P (4 + j), few_attributes j e h) in
      both (option_map_or (λ p. nat_le 3 p && nat_lt p (length rows)) (parent_of rows (4 + j)) true) (not (is_on_cycle rows (4 + j)) && nat_le (attributes rows (4 + j)) 8)
      (ap (λ o. option_map_or (λ p. nat_le 3 p && nat_lt p (length rows)) o true) parent
      ∙ parent_fits e.parent (none_at (λ x. option_map_or (unknown_event P) x.parent []) P.events j e (first_empty (flat_map (λ x. option_map_or (unknown_event P) x.parent []) P.events) _ (types_declared P K)) h)
      (none_at wrong_parent P.events j e K.parents h))
      (both (not (is_on_cycle rows (4 + j))) (nat_le (attributes rows (4 + j)) 8) (ap not acyclic) (le-leb (attributes rows (4 + j)) 8 small))

  pub events_fit : (k : ℕ) → k < length (event_rows P) → event_fits (event_rows P) k ≡ true
  events_fit k h = elim (cases_lt k 4) [
    | inl lt ↦ built_in_fits P k lt
    | inr le ↦
        let at : k ≡ 4 + (k - 4) = omega arith in
        let there = member P.events (k - 4) (let long = rows_long P in omega arith) in
        ap (event_fits (event_rows P)) at ∙ declared_fits (k - 4) there.0 there.1
  ]

  pub attributes_small : (k : ℕ) → k < length (event_rows P) → attributes (event_rows P) k ≤ 8
  attributes_small k h =
      leb-true (attributes (event_rows P) k) 8
      (second (not (is_on_cycle (event_rows P) k)) (nat_le (attributes (event_rows P) k) 8) (second (option_map_or (λ p. nat_le 3 p && nat_lt p (length (event_rows P))) (parent_of (event_rows P) k) true) _ (events_fit k h)))

  pub names_few : (k : ℕ) → length (attribute_names P k) ≤ 8
  names_few k = elim (cases_lt k (length (event_rows P))) [
    | inl lt ↦ omega (arith, names_count P k, attributes_small k lt)
    | inr le ↦ let none = ap length (ap (λ line. flat_map (λ a. slice_index_or (spaces.own_attributes P) a []) (reverse line)) (ancestors-past (length (event_rows P)) (event_rows P) k le)) in omega (arith, none)
  ]

  -- a type has the attributes that it adds itself
  pub own_few : (j : ℕ) (e : EventPart) → slice_get P.events j ≡ Some e → length e.attrs ≤ 8
  own_few j e h =
      let rows = event_rows P in
      let here : ancestors (length rows) rows (4 + j) ≡ (4 + j) ∷ option_map_or (ancestors (suc (suc (suc (length (map (event_row P) P.events))))) rows) (option_map (event_number P) e.parent) [] =
      ap (λ o. option_map_or (λ row. (4 + j) ∷ option_map_or (ancestors (suc (suc (suc (length (map (event_row P) P.events))))) rows) row.parent []) o []) (row_at P j e h) in
      let own : own_attributes rows (4 + j) ≡ length e.attrs = ap (λ o. option_map_or (λ row. row.own) o 0) (row_at P j e h) in
      let whole = ap (sum_by (own_attributes rows)) here in
      let parts = sum_by-cons (own_attributes rows) (4 + j) (option_map_or (ancestors (suc (suc (suc (length (map (event_row P) P.events))))) rows) (option_map (event_number P) e.parent) []) in
      omega (arith, own, whole, parts, names_count P (4 + j), names_few (4 + j))
