-- The rules of a system file by their numbers, and the one that is reported.
use Rattle.std.specs.Prelude.{ℕ, ◌-◌, List, [], ◌∷◌, slice_get, Option, Some, None}
use Rattle.std.specs.Option.{option_map_or}
use Rattle.kom_system.specs.declared.parts.Parts.{Parts}
use Rattle.kom_rules.specs.Names.{first_place}
use Rattle.kom_rules.specs.Declaring.{declared_twice, undeclared, wrong_parents, own_ancestors, wrong_attributes, too_many, wrong_roots}
use Rattle.kom_rules.specs.Fitting.{wrong_counts, own_containers, too_large, untyped_ends, wrong_types, wrong_signs, wrong_tests, wrong_handlers, second_inits, many_tests}
use Rattle.kom_rules.specs.Walks.{of_statements}
use Rattle.kom_rules.specs.Handling.{subscribed_init, kept_inside, miscounted, no_state, no_event, no_question, no_fault, large_fault, misplugged, lacked}

-- a rule that is kept where no rule with a smaller number is broken
pub record Rule : Type 0 where
  pub number : ℕ
  -- the places at which a file breaks it
  pub places : Parts → List ℕ

abbrev pub rule : ℕ → (Parts → List ℕ) → Rule
rule number places = record { number = number; places = places }

-- the rules in the order of their numbers
abbrev pub file_rules : List Rule
file_rules =
    rule 6 declared_twice ∷ rule 7 undeclared ∷ rule 8 wrong_parents ∷ rule 9 own_ancestors ∷ rule 10 wrong_attributes ∷ rule 11 too_many ∷ rule 12 wrong_roots
    ∷ rule 13 wrong_counts ∷ rule 14 own_containers ∷ rule 15 too_large ∷ rule 16 untyped_ends ∷ rule 17 wrong_types ∷ rule 18 wrong_signs ∷ rule 19 wrong_tests
    ∷ rule 20 wrong_handlers ∷ rule 21 second_inits ∷ rule 22 (of_statements subscribed_init) ∷ rule 23 (of_statements kept_inside) ∷ rule 24 (of_statements miscounted)
    ∷ rule 25 (of_statements no_state) ∷ rule 26 (of_statements no_event) ∷ rule 27 (of_statements large_fault) ∷ rule 28 (of_statements misplugged) ∷ rule 29 lacked
    ∷ rule 30 (of_statements no_question) ∷ rule 31 many_tests ∷ rule 32 (of_statements no_fault) ∷ []

-- a rule and a place at which it is broken
pub record Break : Type 0 where
  pub number : ℕ
  pub at : ℕ

abbrev pub broken_or : ℕ → Option ℕ → Option Break → Option Break
broken_or number None later = later
broken_or number (Some a) later = Some (record { number = number; at = a })

-- the first of some rules that a file breaks, with the first place at which it is broken
abbrev pub first_broken : List Rule → Parts → Option Break
first_broken [] P = None
first_broken (r ∷ rest) P = broken_or r.number (first_place (r.places P)) (first_broken rest P)

-- the broken rule that is reported: the one with the least number, at its first place
abbrev pub broken_rule : Parts → Option Break
broken_rule P = first_broken file_rules P

-- the places at which a file breaks the rule with a number
abbrev pub places_by : ℕ → Parts → List ℕ
places_by number P = option_map_or (λ r. r.places P) (slice_get file_rules (number - 6)) []
