-- Heights of trees, level by level.
use Rattle.std.proofs.Common.{◌≡◌, ℕ, zero, suc, ◌+◌, ◌<◌, ◌≤◌, List, [], ◌∷◌, ◌++◌, length, take, get_or, map, Option, Some, None, slice_get, slice_index_or, unwrap_or, refl, ap, ◌∙◌, sym, arith, add-one}
use Rattle.std.proofs.Math.Path.{fun_ext}
use Rattle.std.proofs.lemmas.List.{map_more}
use Rattle.std.specs.Option.{option_map, option_map_or}
use Rattle.std.proofs.lemmas.Option.{unwrap_or-slice_get, slice_get-map}
use Rattle.kom_lang.specs.declared.kind.Kind.{Kind}
use Rattle.kom_lang.specs.declared.kind.Child.{Child}
use Rattle.kom_lang.specs.declared.kind.SlotDecl.{SlotDecl}
use Rattle.kom_lang.specs.Declarations.{child_height, greatest, height}

option-le : (f : ℕ → ℕ) (n : ℕ) → ((c : ℕ) → f c ≤ n) → (o : Option Child) → option_map_or (λ child. f child.kind) o 0 ≤ n
option-le f n h None = omega arith
option-le f n h (Some child) = h child.kind

greatest-le : (f : ℕ → ℕ) (n : ℕ) → ((c : ℕ) → f c ≤ n) → (slots : List SlotDecl) → greatest (map (child_height f) slots) ≤ n
greatest-le f n h [] = omega arith
greatest-le f n h (s ∷ ss) = let a = option-le f n h s.child in let b = greatest-le f n h ss in omega arith

kind-le : (f : ℕ → ℕ) (n : ℕ) → ((c : ℕ) → f c ≤ n) → (o : Option Kind) → option_map_or (λ kind. 1 + greatest (map (child_height f) kind.slots)) o 0 ≤ suc n
kind-le f n h None = omega arith
kind-le f n h (Some kind) = let a = greatest-le f n h kind.slots in omega arith

-- a tree with at most n levels is at most n high
pub height-le : (n : ℕ) (kinds : List Kind) (k : ℕ) → height n kinds k ≤ n
height-le zero kinds k = omega arith
height-le (suc n) kinds k = kind-le (height n kinds) n (height-le n kinds) (slice_get kinds k)

option-map : (g : Kind → ℕ) (o : Option Kind) → unwrap_or (option_map g o) 0 ≡ option_map_or g o 0
option-map g None = refl
option-map g (Some kind) = refl

index-map : (g : Kind → ℕ) (kinds : List Kind) (k : ℕ) → slice_index_or (map g kinds) k 0 ≡ option_map_or g (slice_get kinds k) 0
index-map g kinds k = sym (unwrap_or-slice_get (map g kinds) k 0) ∙ ap (λ o. unwrap_or o 0) (slice_get-map g kinds k) ∙ option-map g (slice_get kinds k)

-- one level more than a right table is a right table
pub level-more : (n : ℕ) (kinds : List Kind) (below table : List ℕ) → ((k : ℕ) → slice_index_or below k 0 ≡ height n kinds k)
    → table ≡ map (λ kind. 1 + greatest (map (child_height (λ c. slice_index_or below c 0)) kind.slots)) kinds → (k : ℕ) → slice_index_or table k 0 ≡ height (n + 1) kinds k
level-more n kinds below table h e k =
    let same : (λ c. slice_index_or below c 0) ≡ height n kinds = fun_ext h in
    rw (e, add-one) (index-map _ kinds k ∙ ap (λ (f : ℕ → ℕ). option_map_or (λ (kind : Kind). 1 + greatest (map (child_height f) kind.slots)) (slice_get kinds k) 0) same)

abbrev pub level : List ℕ → Kind → ℕ
level below kind = 1 + greatest (map (child_height (λ c. slice_index_or below c 0)) kind.slots)

-- a table for i kinds with the height of the next kind at its end is one for i + 1 kinds
pub level-push : (below : List ℕ) (kinds : List Kind) (table table' : List ℕ) (i : ℕ) (kind : Kind) (highest : ℕ) → i < length kinds → kind ≡ get_or kinds i kind
    → highest ≡ greatest (map (child_height (λ c. slice_index_or below c 0)) kind.slots) → table ≡ map (level below) (take i kinds) → table' ≡ table ++ (1 + highest) ∷ [] → table' ≡ map (level below) (take (i + 1) kinds)
level-push below kinds table table' i kind highest lt is e old new = new ∙ rw (e, old) (ap (λ (k : Kind). map (level below) (take i kinds) ++ level below k ∷ []) is ∙ sym (map_more (level below) kinds i kind lt))

pub below-limit : (n : ℕ) (kinds : List Kind) (table : List ℕ) → n ≤ 128 → ((k : ℕ) → slice_index_or table k 0 ≡ height n kinds k) → (k : ℕ) → slice_index_or table k 0 < 255
below-limit n kinds table h e k = let le = height-le n kinds k in rw (e k) (omega arith)
