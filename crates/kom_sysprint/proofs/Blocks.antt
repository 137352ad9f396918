-- The text of the statements of a block, one by one, and the names in scope behind them.
use Rattle.std.proofs.Common.{◌≡◌, ℕ, zero, suc, ◌+◌, ◌-◌, ◌<◌, ◌≤◌, List, [], ◌∷◌, ◌++◌, length, take, get_or, length-append, refl, sym, ap, ◌∙◌, arith, append_assoc}
use Rattle.std.proofs.lemmas.List.{take_more, take_all, append-nil, take-append-le}
use Rattle.kom_lang.specs.declared.kind.Kind.{Kind}
use Rattle.kom_lang.specs.declared.stmt.On.{On}
use Rattle.kom_lang.specs.declared.stmt.Stmt.{Stmt, Stmt-F, out-Stmt}
use Rattle.kom_lang.specs.declared.stmt.Stmt.TheOpen.{Let}
use Rattle.kom_record.specs.Trace.{Text}
use Rattle.kom_system.specs.Contents.{Contents}
use Rattle.kom_sysprint.specs.Canonical.{after, statement_text, row_text, statements_text}

-- the names in scope behind the statements of a block
abbrev pub afters : List Text → List Stmt → List Text
afters scope [] = scope
afters scope (s ∷ rest) = afters (after scope (out-Stmt s)) rest

after_keeps : (scope : List Text) (o : Stmt-F Stmt) (count : ℕ) → count ≤ length scope → (take count (after scope o) ≡ take count scope) × (length scope ≤ length (after scope o))
after_keeps scope (Let n e) count h = (take-append-le count scope (n ∷ []) h, rw (length-append scope (n ∷ [])) (omega arith))
after_keeps scope _ count h = (refl, omega arith)

afters_keep : (scope : List Text) (block : List Stmt) (count : ℕ) → count ≤ length scope → take count (afters scope block) ≡ take count scope
afters_keep scope [] count h = refl
afters_keep scope (s ∷ rest) count h =
    let one = after_keeps scope (out-Stmt s) count h in
    afters_keep (after scope (out-Stmt s)) rest count (omega (arith, one.1)) ∙ one.0

-- cutting the scope to its old length leaves what it was
pub scope_back : (scope now : List Text) (block : List Stmt) → now ≡ afters scope block → take (length scope) now ≡ scope
scope_back scope now block e = ap (take (length scope)) e ∙ afters_keep scope block (length scope) (omega arith) ∙ take_all (length scope) scope (omega arith)

afters_append : (scope : List Text) (xs ys : List Stmt) → afters scope (xs ++ ys) ≡ afters (afters scope xs) ys
afters_append scope [] ys = refl
afters_append scope (x ∷ xs) ys = afters_append (after scope (out-Stmt x)) xs ys

pub afters_more : (scope now next : List Text) (block : List Stmt) (i : ℕ) (x : Stmt) → i < length block → x ≡ get_or block i x → now ≡ afters scope (take i block) → next ≡ after now (out-Stmt x)
    → next ≡ afters scope (take (i + 1) block)
afters_more scope now next block i x h e before own =
    own ∙ ap (λ s. after s (out-Stmt x)) before ∙ ap (λ y. after (afters scope (take i block)) (out-Stmt y)) e
    ∙ sym (afters_append scope (take i block) (get_or block i x ∷ [])) ∙ ap (afters scope) (sym (take_more block i x h))

module _ (C : Contents) (K : Kind) (o : On) where
  row_append : (below : List Text → List Stmt → Text) (scope : List Text) (xs ys : List Stmt) → row_text C K o below scope (xs ++ ys) ≡ row_text C K o below scope xs ++ row_text C K o below (afters scope xs) ys
  row_append below scope [] ys = refl
  row_append below scope (x ∷ xs) ys =
      let s = out-Stmt x in
      ap (λ zs. statement_text C K o below scope s ++ zs) (row_append below (after scope s) xs ys)
      ∙ sym (append_assoc (statement_text C K o below scope s) (row_text C K o below (after scope s) xs) (row_text C K o below (afters (after scope s) xs) ys))

  row_taken : (below : List Text → List Stmt → Text) (scope : List Text) (xs : List Stmt) (i : ℕ) (x : Stmt) → i < length xs → x ≡ get_or xs i x
      → row_text C K o below scope (take (i + 1) xs) ≡ row_text C K o below scope (take i xs) ++ statement_text C K o below (afters scope (take i xs)) (out-Stmt x)
  row_taken below scope xs i x h e =
      ap (row_text C K o below scope) (take_more xs i x h) ∙ row_append below scope (take i xs) (get_or xs i x ∷ [])
      ∙ ap (λ y. row_text C K o below scope (take i xs) ++ (statement_text C K o below (afters scope (take i xs)) (out-Stmt y) ++ [])) (sym e)
      ∙ ap (λ zs. row_text C K o below scope (take i xs) ++ zs) (append-nil (statement_text C K o below (afters scope (take i xs)) (out-Stmt x)))

  -- one statement more
  pub row_more : (below : List Text → List Stmt → Text) (scope here : List Text) (xs : List Stmt) (i : ℕ) (x : Stmt) (start now next : Text) → i < length xs → x ≡ get_or xs i x
      → here ≡ afters scope (take i xs) → now ≡ start ++ row_text C K o below scope (take i xs) → next ≡ now ++ statement_text C K o below here (out-Stmt x) → next ≡ start ++ row_text C K o below scope (take (i + 1) xs)
  row_more below scope here xs i x start now next h e is before own =
      own ∙ ap (λ t. t ++ statement_text C K o below here (out-Stmt x)) before
      ∙ append_assoc start (row_text C K o below scope (take i xs)) (statement_text C K o below here (out-Stmt x))
      ∙ ap (λ s. start ++ (row_text C K o below scope (take i xs) ++ statement_text C K o below s (out-Stmt x))) is
      ∙ ap (λ t. start ++ t) (sym (row_taken below scope xs i x h e))

  -- a block with levels left is the row of its statements
  level_row : (levels : ℕ) (scope : List Text) (block : List Stmt) → 0 < levels → statements_text C K o levels scope block ≡ row_text C K o (statements_text C K o (levels - 1)) scope block
  level_row zero scope block h = absurd (omega arith)
  level_row (suc n) scope block h = let e : suc n - 1 ≡ n = omega arith in rw e refl

  -- all statements of a block
  pub row_whole : (levels : ℕ) (scope : List Text) (block : List Stmt) (i : ℕ) (start now : Text) → 0 < levels → length block ≤ i
      → now ≡ start ++ row_text C K o (statements_text C K o (levels - 1)) scope (take i block) → now ≡ start ++ statements_text C K o levels scope block
  row_whole levels scope block i start now h all e =
      e ∙ ap (λ xs. start ++ row_text C K o (statements_text C K o (levels - 1)) scope xs) (take_all i block all) ∙ ap (λ t. start ++ t) (sym (level_row levels scope block h))
