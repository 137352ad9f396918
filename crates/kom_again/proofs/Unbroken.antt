-- A tree that is the same as an unbroken one but for its places, and in which no name comes twice, is
-- unbroken.
use Rattle.std.proofs.Common.{◌≡◌, ℕ, zero, suc, List, [], ◌∷◌, ◌++◌, map, length, drop, Option, Some, None, slice_get, refl, sym, ap, ◌∙◌, subst}
use Rattle.std.specs.List.{flat_map}
use Rattle.std.specs.Option.{option_map}
use Rattle.std.proofs.lemmas.List.{nil_from_length}
use Rattle.kom_system.specs.declared.parts.Spot.{Spot}
use Rattle.kom_system.specs.declared.parts.ComponentPart.{ComponentPart}
use Rattle.kom_system.specs.declared.parts.Parts.{Parts}
use Rattle.kom_rules.specs.Names.{Name, names_of, first_place, repeated}
use Rattle.kom_rules.specs.Spaces.{event_spots, port_type_spots, component_spots, item_spots, built_in_event_names, built_in_port_names}
use Rattle.kom_rules.specs.Declaring.{built_in, clashes_in, name_clashes, events_twice, port_types_twice, components_twice, declared_twice}
use Rattle.kom_rules.specs.Broken.{Rule, rule, Break, file_rules, first_broken, broken_or, broken_rule}
use Rattle.kom_accept.proofs.Lists.{no_first, first_empty, second_empty}
use Rattle.kom_written.specs.Unplaced.{spot, component_part, unplaced}
use Rattle.kom_written.proofs.Rows.{Each}
use Rattle.kom_unplaced.specs.Clashing.{clashing}
use Rattle.kom_unplaced.proofs.Lists.{got, spots_same}
use Rattle.kom_unplaced.proofs.Rules.{Moves, later_rules, all_move}
use Rattle.kom_unplaced.proofs.Clashes.{event_spots_moved, port_type_spots_moved, component_spots_moved, item_spots_moved, no_clashes}
use Rattle.kom_apart.specs.Apart.{AreOnce, HasNamesOnce}
use Rattle.kom_apart.proofs.Once.{none_repeated}

-- ---- the broken rule

abbrev Kept : Parts → Rule → Type 0
Kept P r = r.places P ≡ []

broken_none : (n : ℕ) (o : Option ℕ) (later : Option Break) → broken_or n o later ≡ None → (o ≡ None) × (later ≡ None)
broken_none n None later e = (refl, e)
broken_none n (Some a) later e = absurd cc

kept_all : (rules : List Rule) (P : Parts) → first_broken rules P ≡ None → Each (Kept P) rules
kept_all [] P e = tt
kept_all (r ∷ rules) P e = let q = broken_none r.number (first_place (r.places P)) (first_broken rules P) e in (no_first (r.places P) q.0, kept_all rules P q.1)

unbroken_all : (rules : List Rule) (P : Parts) → Each (Kept P) rules → first_broken rules P ≡ None
unbroken_all [] P all = refl
unbroken_all (r ∷ rules) P all = ap (λ places. broken_or r.number (first_place places) (first_broken rules P)) all.0 ∙ unbroken_all rules P all.1

moved_all : (rules : List Rule) (P Q : Parts) → unplaced P ≡ unplaced Q → Each Moves rules → Each (Kept P) rules → Each (Kept Q) rules
moved_all [] P Q e moves kept = tt
moved_all (r ∷ rules) P Q e moves kept = (
  nil_from_length (r.places Q) (sym ((moves.0 Q).same) ∙ ap (λ R. length (r.places R)) (sym e) ∙ (moves.0 P).same ∙ ap length kept.0),
  moved_all rules P Q e moves.1 kept.1,
)

-- ---- names that come once

names_moved : (ss : List Spot) {ss' : List Spot} → ss' ≡ map spot ss → names_of ss' ≡ names_of ss
names_moved ss e = ap names_of e ∙ spots_same ss

once_moved : (of : Parts → List Spot) → ((P : Parts) → of (unplaced P) ≡ map spot (of P)) → (P Q : Parts) → unplaced P ≡ unplaced Q → AreOnce (names_of (of P)) → AreOnce (names_of (of Q))
once_moved of moved P Q e h = subst AreOnce (sym (names_moved (of P) (moved P)) ∙ ap (λ R. names_of (of R)) e ∙ names_moved (of Q) (moved Q)) h

some_moved : (o : Option ComponentPart) (c : ComponentPart) → option_map component_part o ≡ Some c → (d : ComponentPart) × (o ≡ Some d) × (component_part d ≡ c)
some_moved None c e = absurd cc
some_moved (Some d) c e = (d, refl, let same : component_part d ≡ c = cc in same)

inside_moved : (P Q : Parts) → unplaced P ≡ unplaced Q → HasNamesOnce P → (k : ℕ) (c : ComponentPart) → slice_get Q.components k ≡ Some c → AreOnce (names_of (item_spots c))
inside_moved P Q e h k c there =
    let new : slice_get (unplaced Q).components k ≡ Some (component_part c) = got component_part Q.components k ∙ ap (option_map component_part) there in
    let old : option_map component_part (slice_get P.components k) ≡ Some (component_part c) = sym (got component_part P.components k) ∙ ap (λ R. slice_get R.components k) e ∙ new in
    let d = some_moved (slice_get P.components k) (component_part c) old in
    let same : names_of (item_spots d.0) ≡ names_of (item_spots c) = sym (names_moved (item_spots d.0) (item_spots_moved d.0)) ∙ ap (λ (q : ComponentPart). names_of (item_spots q)) d.2 ∙ names_moved (item_spots c) (item_spots_moved c) in
    subst AreOnce same (h.inside k d.0 d.1)

-- ---- rule 6

empty : {a b : List ℕ} → a ≡ [] → b ≡ [] → a ++ b ≡ []
empty {a = a} {b = b} h k = ap (λ z. z ++ b) h ∙ k

abbrev inside : ComponentPart → List ℕ
inside c = flat_map (clashes_in c) c.handlers

inside_none : (cs : List ComponentPart) → flat_map name_clashes cs ≡ [] → flat_map inside cs ≡ []
inside_none [] e = refl
inside_none (c ∷ cs) e = empty (second_empty (repeated (item_spots c)) (inside c) (first_empty (name_clashes c) (flat_map name_clashes cs) e)) (inside_none cs (second_empty (name_clashes c) (flat_map name_clashes cs) e))

twice_none : (cs : List ComponentPart) → flat_map inside cs ≡ [] → ((k : ℕ) (c : ComponentPart) → slice_get cs k ≡ Some c → AreOnce (names_of (item_spots c))) → flat_map name_clashes cs ≡ []
twice_none [] e h = refl
twice_none (c ∷ cs) e h = empty (empty (none_repeated (item_spots c) (h 0 c refl)) (first_empty (inside c) (flat_map inside cs) e)) (twice_none cs (second_empty (inside c) (flat_map inside cs) e) (λ k d there. h (suc k) d there))

no_clashes_in : (P : Parts) → declared_twice P ≡ [] → clashing P ≡ []
no_clashes_in P e =
    let twice = second_empty (events_twice P) (port_types_twice P ++ components_twice P) e in
    let one = second_empty (repeated (event_spots P)) (built_in built_in_event_names (event_spots P)) (first_empty (events_twice P) (port_types_twice P ++ components_twice P) e) in
    let two = second_empty (repeated (port_type_spots P)) (built_in built_in_port_names (port_type_spots P)) (first_empty (port_types_twice P) (components_twice P) twice) in
    let three = inside_none P.components (second_empty (repeated (component_spots P)) (flat_map name_clashes P.components) (second_empty (port_types_twice P) (components_twice P) twice)) in
    empty one (empty two three)

nothing_twice : (P Q : Parts) → unplaced P ≡ unplaced Q → HasNamesOnce P → clashing Q ≡ [] → declared_twice Q ≡ []
nothing_twice P Q e h none =
    let E = built_in built_in_event_names (event_spots Q) in
    let T = built_in built_in_port_names (port_type_spots Q) in
    let rest = second_empty E (T ++ flat_map inside Q.components) none in
    empty (empty (none_repeated (event_spots Q) (once_moved event_spots event_spots_moved P Q e h.events)) (first_empty E (T ++ flat_map inside Q.components) none))
    (empty (empty (none_repeated (port_type_spots Q) (once_moved port_type_spots port_type_spots_moved P Q e h.port_types)) (first_empty T (flat_map inside Q.components) rest))
    (empty (none_repeated (component_spots Q) (once_moved component_spots component_spots_moved P Q e h.components)) (twice_none Q.components (second_empty T (flat_map inside Q.components) rest) (inside_moved P Q e h))))

-- a list of rules of which the first is moved in its own way
moved_by : (r : Rule) (rules : List Rule) (P Q : Parts) → unplaced P ≡ unplaced Q → Each Moves rules → (r.places P ≡ [] → r.places Q ≡ []) → first_broken (r ∷ rules) P ≡ None → first_broken (r ∷ rules) Q ≡ None
moved_by r rules P Q e moves first b =
    let q = broken_none r.number (first_place (r.places P)) (first_broken rules P) b in
    let kept = kept_all rules P q.1 in
    ap (λ places. broken_or r.number (first_place places) (first_broken rules Q)) (first (no_first (r.places P) q.0)) ∙ unbroken_all rules Q (moved_all rules P Q e moves kept)

six_moved : (P Q : Parts) → unplaced P ≡ unplaced Q → HasNamesOnce P → declared_twice P ≡ [] → declared_twice Q ≡ []
six_moved P Q e h k = nothing_twice P Q e h (no_clashes P Q e (no_clashes_in P k))

pub unbroken_too : (P Q : Parts) → unplaced P ≡ unplaced Q → HasNamesOnce P → broken_rule P ≡ None → broken_rule Q ≡ None
unbroken_too P Q e h b = moved_by (rule 6 declared_twice) later_rules P Q e all_move (six_moved P Q e h) b
