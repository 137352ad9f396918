-- Trees of numbers against the trees of component types.
use Rattle.std.proofs.Common.{◌≡◌, ℕ, zero, suc, ◌+◌, ◌<◌, ◌≤◌, Bool, true, false, not, ◌||◌, ◌==◌, cond, List, [], ◌∷◌, ◌++◌, length, map, min, slice_get, slice_index_or, Option, Some, None, refl, ap, ◌∙◌, arith, bytes_eq, sum_by, nat_lt}
use Rattle.std.proofs.Math.Path.{fun_ext}
use Rattle.std.specs.List.{list_any, filter_map, cons_option}
use Rattle.std.specs.Option.{option_map, option_map_or}
use Rattle.std.proofs.lemmas.List.{length-map}
use Rattle.std.proofs.lemmas.Bool.Decides.{nat_tests}
use Rattle.kom_lang.specs.Declarations.{greatest}
use Rattle.kom_system.specs.declared.parts.SlotPart.{SlotPart}
use Rattle.kom_system.specs.declared.parts.ChildPart.{ChildPart}
use Rattle.kom_system.specs.declared.parts.ComponentPart.{ComponentPart}
use Rattle.kom_system.specs.declared.parts.Parts.{Parts}
use Rattle.kom_rules.specs.Names.{Name, number_in}
use Rattle.kom_rules.specs.Spaces.{component_number, component_names, component_spots}
use Rattle.kom_rules.specs.Fitting.{child_number, children_of, is_below, tree_height, tree_total, is_too_large}
use Rattle.kom_containers.specs.Nested.{is_within, levels_of, total_of, children_table, amounts}
use Rattle.kom_containers.specs.declared.containers.Sizes.{Sizes}
use Rattle.kom_containers.specs.Sized.{AreSizes, exceeds_limits}

-- ---- a list with one entry more

one_more : {A B : Type 0} (f : A → B) (d : B) (xs : List A) (k : ℕ) → slice_index_or (map f xs ++ d ∷ []) k d ≡ option_map_or f (slice_get xs k) d
one_more f d [] zero = refl
one_more f d [] (suc k) = refl
one_more f d (x ∷ xs) zero = refl
one_more f d (x ∷ xs) (suc k) = one_more f d xs k

get_one_more : {A B : Type 0} (f : A → B) (d : B) (xs : List A) (k : ℕ) → k ≤ length xs → slice_get (map f xs ++ d ∷ []) k ≡ Some (option_map_or f (slice_get xs k) d)
get_one_more f d [] zero h = refl
get_one_more f d [] (suc k) h = absurd (omega arith)
get_one_more f d (x ∷ xs) zero h = refl
get_one_more f d (x ∷ xs) (suc k) h = get_one_more f d xs k (omega arith)

-- ---- the children of a component type

table_at : (P : Parts) (k : ℕ) → slice_index_or (children_table P) k [] ≡ children_of P k
table_at P k = one_more (λ (c : ComponentPart). filter_map (child_number P) c.slots) [] P.components k

number_le : (names : List Name) (q : Name) → number_in names q ≤ length names
number_le [] q = omega arith
number_le (x ∷ names) q = by (bytes_eq q x) (number_le names q) where
  by : (b : Bool) → number_in names q ≤ length names → cond (not b) (1 + number_in names q) 0 ≤ length (x ∷ names)
  by true h = omega arith
  by false h = omega arith

child_le : (P : Parts) (child : ChildPart) → component_number P child.kind ≤ length P.components
child_le P child =
    let a : component_number P child.kind ≤ length (component_names P) = number_le (component_names P) child.kind.name in
    let b : length (component_names P) ≡ length (component_spots P) = length-map (component_spots P) (λ s. s.name) in
    let c : length (component_spots P) ≡ length P.components = length-map P.components (λ c. c.name) in
    omega arith

module _ (P : Parts) (f g : ℕ → ℕ) (same : (c : ℕ) → c ≤ length P.components → f c ≡ g c) where
  same_slot : (o : Option ChildPart) (rest : List ℕ) → map f rest ≡ map g rest
      → map f (cons_option (option_map (λ child. component_number P child.kind) o) rest) ≡ map g (cons_option (option_map (λ child. component_number P child.kind) o) rest)
  same_slot None rest h = h
  same_slot (Some child) rest h = rw (same (component_number P child.kind) (child_le P child), h) refl

  same_slots : (slots : List SlotPart) → map f (filter_map (child_number P) slots) ≡ map g (filter_map (child_number P) slots)
  same_slots [] = refl
  same_slots (s ∷ slots) = same_slot s.child (filter_map (child_number P) slots) (same_slots slots)

  same_type : (o : Option ComponentPart) → map f (option_map_or (λ c. filter_map (child_number P) c.slots) o []) ≡ map g (option_map_or (λ c. filter_map (child_number P) c.slots) o [])
  same_type None = refl
  same_type (Some c) = same_slots c.slots

-- ---- the definitions of the rules

pub within_is_below : (levels : ℕ) (P : Parts) (b a : ℕ) → is_within levels (children_table P) b a ≡ is_below levels P a b
within_is_below zero P b a = refl
within_is_below (suc levels) P b a =
    let same : (λ c. is_within levels (children_table P) b c) ≡ (λ c. is_below levels P c b) = fun_ext (λ c. within_is_below levels P b c) in
    ap (λ (h : ℕ → Bool). list_any (λ c. c == b || h c) (slice_index_or (children_table P) a [])) same
    ∙ ap (list_any (λ c. c == b || is_below levels P c b)) (table_at P a)

pub levels_are_height : (levels : ℕ) (P : Parts) (k : ℕ) → k ≤ length P.components → levels_of levels (children_table P) k ≡ tree_height levels P k
levels_are_height zero P k h = refl
levels_are_height (suc levels) P k h =
    ap (λ (o : Option (List ℕ)). option_map_or (λ below. 1 + greatest (map (levels_of levels (children_table P)) below)) o 0) (get_one_more (λ (c : ComponentPart). filter_map (child_number P) c.slots) [] P.components k h)
    ∙ ap (λ ns. 1 + greatest ns) (same_type P (levels_of levels (children_table P)) (tree_height levels P) (λ c. levels_are_height levels P c) (slice_get P.components k))

pub total_is_total : (adds : ComponentPart → ℕ) (levels : ℕ) (P : Parts) (k : ℕ) → total_of levels (children_table P) (amounts adds P) k ≡ tree_total adds levels P k
total_is_total adds zero P k = refl
total_is_total adds (suc levels) P k =
    let same : total_of levels (children_table P) (amounts adds P) ≡ tree_total adds levels P = fun_ext (total_is_total adds levels P) in
    ap (λ (h : ℕ → ℕ). slice_index_or (amounts adds P) k 0 + sum_by h (slice_index_or (children_table P) k [])) same
    ∙ ap (λ cs. slice_index_or (amounts adds P) k 0 + sum_by (tree_total adds levels P) cs) (table_at P k)
    ∙ ap (λ n. n + sum_by (tree_total adds levels P) (children_of P k)) (one_more adds 0 P.components k)

-- ---- the limits

over_limit : (n : ℕ) → nat_lt 1000 (min n 1001) ≡ nat_lt 1000 n
over_limit n = grind (arith, nat_tests)

pub exceeds_is_too_large : (sizes : Sizes) (P : Parts) (k : ℕ) → AreSizes sizes P → k < length P.components → exceeds_limits sizes k ≡ is_too_large P k
exceeds_is_too_large sizes P k are h =
    let high : slice_index_or sizes.heights k 0 ≡ tree_height 17 P k = are.heights k ∙ levels_are_height 17 P k (omega arith) in
    let many : nat_lt 1000 (slice_index_or sizes.instances k 0) ≡ nat_lt 1000 (tree_total (λ c. 1) 16 P k) =
    ap (nat_lt 1000) (are.instances k) ∙ over_limit (total_of 16 (children_table P) (amounts (λ c. 1) P) k) ∙ ap (nat_lt 1000) (total_is_total (λ c. 1) 16 P k) in
    let wired : nat_lt 1000 (slice_index_or sizes.channels k 0) ≡ nat_lt 1000 (tree_total (λ c. length c.channels) 16 P k) =
    ap (nat_lt 1000) (are.channels k) ∙ over_limit (total_of 16 (children_table P) (amounts (λ c. length c.channels) P) k) ∙ ap (nat_lt 1000) (total_is_total (λ c. length c.channels) 16 P k) in
    rw (high, many, wired) refl
