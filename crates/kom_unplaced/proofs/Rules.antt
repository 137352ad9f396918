-- All rules from 7 on, without places.
use Rattle.std.proofs.Common.{◌≡◌, ℕ, zero, suc, ◌-◌, ◌≤◌, List, [], ◌∷◌, length, drop, slice_get, sym, ap, ◌∙◌, arith}
use Rattle.std.specs.Option.{option_map_or}
use Rattle.std.proofs.lemmas.List.{nil_from_length}
use Rattle.kom_system.specs.declared.parts.Parts.{Parts}
use Rattle.kom_rules.specs.Broken.{Rule, file_rules, places_by}
use Rattle.kom_written.specs.Unplaced.{unplaced}
use Rattle.kom_written.proofs.Rows.{Each}
use Rattle.kom_unplaced.proofs.Lists.{AsMany, nothing}
use Rattle.kom_unplaced.proofs.Undeclared.{undeclared_same}
use Rattle.kom_unplaced.proofs.Declaring.{parents_same, ancestors_same, attributes_same, many_same, roots_same, counts_same, containers_same, sizes_same, untyped_all, types_same, signs_same, tests_same, handlers_same, inits_same, ninths_same}
use Rattle.kom_unplaced.proofs.Handling.{subscribed_same, kept_same, counted_same, stated_same, evented_same, questioned_same, faulted_same, small_same, plugged_same, lacked_same}

abbrev pub Moves : Rule → Type 0
Moves r = (P : Parts) → AsMany (r.places (unplaced P)) (r.places P)

-- the rules behind rule 6
abbrev pub later_rules : List Rule
later_rules = drop 1 file_rules

pub all_move : Each Moves later_rules
all_move = (undeclared_same, (parents_same, (ancestors_same, (attributes_same, (many_same, (roots_same, (counts_same, (containers_same, (sizes_same, (untyped_all, (types_same, (signs_same, (tests_same, (handlers_same, (inits_same, (subscribed_same, (kept_same, (counted_same, (stated_same, (evented_same, (small_same, (plugged_same, (lacked_same, (questioned_same, (ninths_same, (faulted_same, tt))))))))))))))))))))))))))

numbered : (rs : List Rule) → Each Moves rs → (k : ℕ) → (P : Parts) → AsMany (option_map_or (λ r. r.places (unplaced P)) (slice_get rs k) []) (option_map_or (λ r. r.places P) (slice_get rs k) [])
numbered [] all k P = nothing
numbered (r ∷ rs) all zero P = all.0 P
numbered (r ∷ rs) all (suc k) P = numbered rs all.1 k P

places_same : (P : Parts) (number : ℕ) → 7 ≤ number → AsMany (places_by number (unplaced P)) (places_by number P)
places_same P number h = record { same = ap (λ k. length (option_map_or (λ r. r.places (unplaced P)) (slice_get file_rules k) [])) at ∙ (numbered later_rules all_move (number - 7) P).same ∙ ap (λ k. length (option_map_or (λ r. r.places P) (slice_get file_rules k) [])) (sym at) } where
  at : number - 6 ≡ suc (number - 7)
  at = omega arith

pub kept_too : (P Q : Parts) (number : ℕ) → unplaced P ≡ unplaced Q → 7 ≤ number → places_by number P ≡ [] → places_by number Q ≡ []
kept_too P Q number e h none =
    nil_from_length (places_by number Q) (sym ((places_same Q number h).same) ∙ ap (λ R. length (places_by number R)) (sym e) ∙ (places_same P number h).same ∙ ap length none)
