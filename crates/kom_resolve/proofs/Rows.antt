-- What blocks stand for, statement by statement, and lists that go on by one.
use Rattle.std.proofs.Common.{◌≡◌, ℕ, zero, suc, ◌+◌, ◌-◌, ◌<◌, ◌≤◌, List, [], ◌∷◌, ◌++◌, length, take, map, get_or, Some, None, slice_get, slice_index_or, refl, sym, ap, ◌∙◌, arith}
use Rattle.std.proofs.lemmas.List.{take_more, take_all, map-append}
use Rattle.kom_lang.specs.declared.stmt.Stmt.{Stmt}
use Rattle.kom_system.specs.declared.parts.Spot.{Spot}
use Rattle.kom_system.specs.declared.parts.StmtPart.{StmtPart, out-StmtPart}
use Rattle.kom_system.specs.declared.parts.OnPart.{OnPart}
use Rattle.kom_system.specs.declared.parts.ComponentPart.{ComponentPart}
use Rattle.kom_system.specs.declared.parts.Parts.{Parts}
use Rattle.kom_rules.specs.Names.{Name, names_of}
use Rattle.kom_rules.specs.Walks.{after}
use Rattle.std.specs.List.{range_with_len}
use Rattle.kom_walks.proofs.Blocks.{afters}
use Rattle.kom_resolve.specs.Resolved.{row_value, stmt_value, block_value}

module _ (P : Parts) (c : ComponentPart) (o : OnPart) where
  row_append : (below : List Name → List StmtPart → List Stmt) (scope : List Name) (xs ys : List StmtPart) → row_value P c o below scope (xs ++ ys) ≡ row_value P c o below scope xs ++ row_value P c o below (afters scope xs) ys
  row_append below scope [] ys = refl
  row_append below scope (x ∷ xs) ys = ap (λ zs. stmt_value P c o below scope (out-StmtPart x) ∷ zs) (row_append below (after scope (out-StmtPart x)) xs ys)

  -- one statement more
  pub row_more : (below : List Name → List StmtPart → List Stmt) (scope here : List Name) (xs : List StmtPart) (i : ℕ) (x : StmtPart) (values more : List Stmt) (s : Stmt) → i < length xs → x ≡ get_or xs i x
      → here ≡ afters scope (take i xs) → values ≡ row_value P c o below scope (take i xs) → s ≡ stmt_value P c o below here (out-StmtPart x) → more ≡ values ++ s ∷ [] → more ≡ row_value P c o below scope (take (i + 1) xs)
  row_more below scope here xs i x values more s h e is before own pushed =
      let taken : row_value P c o below scope (take (i + 1) xs) ≡ row_value P c o below scope (take i xs) ++ stmt_value P c o below (afters scope (take i xs)) (out-StmtPart x) ∷ [] =
      ap (row_value P c o below scope) (take_more xs i x h) ∙ row_append below scope (take i xs) (get_or xs i x ∷ [])
      ∙ ap (λ y. row_value P c o below scope (take i xs) ++ stmt_value P c o below (afters scope (take i xs)) (out-StmtPart y) ∷ []) (sym e) in
      pushed ∙ ap (λ ys. ys ++ s ∷ []) before ∙ ap (λ y. row_value P c o below scope (take i xs) ++ y ∷ []) (own ∙ ap (λ q. stmt_value P c o below q (out-StmtPart x)) is) ∙ sym taken

  -- all statements of a block
  pub row_whole : (levels : ℕ) (scope : List Name) (block : List StmtPart) (i : ℕ) (values : List Stmt) → 0 < levels → length block ≤ i
      → values ≡ row_value P c o (block_value P c o (levels - 1)) scope (take i block) → values ≡ block_value P c o levels scope block
  row_whole zero scope block i values h all e = absurd (omega arith)
  row_whole (suc n) scope block i values h all e =
      let less : suc n - 1 ≡ n = omega arith in
      (rw less at e) ∙ ap (row_value P c o (block_value P c o n) scope) (take_all i block all)

-- ---- lists

pub index_past : {X : Type 0} (xs : List X) (k : ℕ) (d : X) → None ≡ slice_get xs k → d ≡ slice_index_or xs k d
index_past [] k d e = refl
index_past (x ∷ xs) zero d e = absurd cc
index_past (x ∷ xs) (suc k) d e = index_past xs k d e

pub names_more : {X : Type 0} (f : X → Spot) (xs : List X) (i : ℕ) (x : X) → i < length xs → x ≡ get_or xs i x → names_of (map f (take (i + 1) xs)) ≡ names_of (map f (take i xs)) ++ (f x).name ∷ []
names_more f xs i x h e =
    ap (λ ys. names_of (map f ys)) (take_more xs i x h ∙ ap (λ y. take i xs ++ y ∷ []) (sym e)) ∙ ap names_of (map-append f (take i xs) (x ∷ [])) ∙ map-append (λ s. s.name) (map f (take i xs)) (f x ∷ [])

pub get_there : {X : Type 0} (xs : List X) (k : ℕ) (x : X) → k < length xs → x ≡ get_or xs k x → slice_get xs k ≡ Some x
get_there [] k x h e = absurd (omega arith)
get_there (y ∷ xs) zero x h e = ap Some (sym e)
get_there (y ∷ xs) (suc k) x h e = get_there xs k x (omega arith) e

-- a list is told by its members
pub listed : {X : Type 0} (f : ℕ → List X) (xs : List (List X)) (a : ℕ) → ((k : ℕ) → slice_index_or xs k [] ≡ f (a + k)) → xs ≡ map f (range_with_len a (length xs))
listed f [] a h = refl
listed f (x ∷ xs) a h =
    let here : x ≡ f a = h 0 ∙ ap f (omega arith) in
    ap (λ y. y ∷ xs) here ∙ ap (λ ys. f a ∷ ys) (listed f xs (a + 1) (λ k. let at : a + suc k ≡ (a + 1) + k = omega arith in h (suc k) ∙ ap f at))
