-- The first place of the statements of a block, part by part.
use Rattle.std.proofs.Common.{◌≡◌, ℕ, zero, suc, ◌+◌, ◌-◌, ◌<◌, ◌≤◌, List, [], ◌∷◌, ◌++◌, length, take, get_or, Option, Some, None, Bool, true, false, if◌then◌else◌, length-append, refl, sym, ap, ◌∙◌, arith, append_assoc}
use Rattle.std.specs.List.{flat_map}
use Rattle.std.proofs.lemmas.List.{take_more, take_all, append-nil, take-append-le}
use Rattle.std.proofs.lemmas.List.Concat.{flat_map-append}
use Rattle.kom_system.specs.declared.parts.ExprPart.{ExprPart}
use Rattle.kom_system.specs.declared.parts.StmtPart.{StmtPart, out-StmtPart}
use Rattle.kom_system.specs.declared.parts.StmtPart.TheOpen.{Let, If, While}
use Rattle.kom_rules.specs.Names.{Name, is_among, with_name, earlier, first_place}
use Rattle.kom_rules.specs.Walks.{One, Standing, after, standing, inside, with_inside, in_row}
use Rattle.kom_walks.specs.Else.{else_of}
use Rattle.kom_walks.proofs.Firsts.{first_append, earlier_none}

-- the names in scope behind the statements of a block
abbrev pub afters : List Name → List StmtPart → List Name
afters scope [] = scope
afters scope (s ∷ rest) = afters (after scope (out-StmtPart s)) rest

module _ (f : Standing → List ℕ) where
  abbrev pub first_in : List Standing → Option ℕ
  first_in xs = first_place (flat_map f xs)

  pub first_both : (xs ys : List Standing) → first_in (xs ++ ys) ≡ earlier (first_in xs) (first_in ys)
  first_both xs ys = ap first_place (flat_map-append f xs ys) ∙ first_append (flat_map f xs) (flat_map f ys)

  inside_if : (levels : ℕ) (scope : List Name) (test : ExprPart) (block : List StmtPart) (other : Option (List StmtPart))
      → first_in (inside (standing levels scope) (If test block other)) ≡ earlier (first_in (standing levels scope block)) (first_in (else_of levels scope other))
  inside_if levels scope test block None = sym (earlier_none _)
  inside_if levels scope test block (Some other) = first_both (standing levels scope block) (standing levels scope other)

  pub if_first : (o : One) (levels : ℕ) (scope : List Name) (test : ExprPart) (block : List StmtPart) (other : Option (List StmtPart)) (own inner otherwise : Option ℕ) → o ≡ If test block other
      → own ≡ first_place (f (record { scope = scope; stmt = o })) → inner ≡ first_in (standing levels scope block) → otherwise ≡ first_in (else_of levels scope other)
      → earlier own (earlier inner otherwise) ≡ first_in (with_inside (standing levels) scope o)
  if_first o levels scope test block other own inner otherwise is a b c =
      rw (a, b, c, first_append (f (record { scope = scope; stmt = o })) (flat_map f (inside (standing levels scope) o)), is, inside_if levels scope test block other) refl

  pub while_first : (o : One) (levels : ℕ) (scope : List Name) (test : ExprPart) (block : List StmtPart) (own body : Option ℕ) → o ≡ While test block
      → own ≡ first_place (f (record { scope = scope; stmt = o })) → body ≡ first_in (standing levels scope block)
      → earlier own body ≡ first_in (with_inside (standing levels) scope o)
  while_first o levels scope test block own body is a b =
      rw (a, b, first_append (f (record { scope = scope; stmt = o })) (flat_map f (inside (standing levels scope) o)), is) refl

row_append : (below : List Name → List StmtPart → List Standing) (scope : List Name) (xs ys : List StmtPart) → in_row below scope (xs ++ ys) ≡ in_row below scope xs ++ in_row below (afters scope xs) ys
row_append below scope [] ys = refl
row_append below scope (x ∷ xs) ys =
    let o = out-StmtPart x in
    ap (λ zs. with_inside below scope o ++ zs) (row_append below (after scope o) xs ys) ∙ sym (append_assoc (with_inside below scope o) (in_row below (after scope o) xs) (in_row below (afters (after scope o) xs) ys))

-- one statement more
pub row_taken : (below : List Name → List StmtPart → List Standing) (scope : List Name) (xs : List StmtPart) (i : ℕ) (x : StmtPart) → i < length xs → x ≡ get_or xs i x
    → in_row below scope (take (i + 1) xs) ≡ in_row below scope (take i xs) ++ with_inside below (afters scope (take i xs)) (out-StmtPart x)
row_taken below scope xs i x h e =
    ap (in_row below scope) (take_more xs i x h) ∙ row_append below scope (take i xs) (get_or xs i x ∷ [])
    ∙ ap (λ y. in_row below scope (take i xs) ++ (with_inside below (afters scope (take i xs)) (out-StmtPart y) ++ [])) (sym e)
    ∙ ap (λ zs. in_row below scope (take i xs) ++ zs) (append-nil (with_inside below (afters scope (take i xs)) (out-StmtPart x)))

-- a block with levels left is the row of its statements
pub standing_row : (levels : ℕ) (scope : List Name) (block : List StmtPart) → 0 < levels → standing levels scope block ≡ in_row (standing (levels - 1)) scope block
standing_row zero scope block h = absurd (omega arith)
standing_row (suc n) scope block h = let e : suc n - 1 ≡ n = omega arith in rw e refl

module _ (f : Standing → List ℕ) where
  -- one statement more
  pub row_more : (below : List Name → List StmtPart → List Standing) (scope : List Name) (xs : List StmtPart) (i : ℕ) (x : StmtPart) (first now : Option ℕ) → i < length xs → x ≡ get_or xs i x
      → first ≡ first_in f (in_row below scope (take i xs)) → now ≡ first_in f (with_inside below (afters scope (take i xs)) (out-StmtPart x)) → earlier first now ≡ first_in f (in_row below scope (take (i + 1) xs))
  row_more below scope xs i x first now h e before own =
      rw (row_taken below scope xs i x h e, first_both f (in_row below scope (take i xs)) (with_inside below (afters scope (take i xs)) (out-StmtPart x)), before, own) refl

  -- the same, where the scope of the statement is known
  pub row_more_in : (below : List Name → List StmtPart → List Standing) (scope here : List Name) (xs : List StmtPart) (i : ℕ) (x : StmtPart) (first now : Option ℕ) → i < length xs → x ≡ get_or xs i x
      → here ≡ afters scope (take i xs) → first ≡ first_in f (in_row below scope (take i xs)) → now ≡ first_in f (with_inside below here (out-StmtPart x)) → earlier first now ≡ first_in f (in_row below scope (take (i + 1) xs))
  row_more_in below scope here xs i x first now h e is before own =
      row_more below scope xs i x first now h e before (own ∙ ap (λ (s : List Name). first_in f (with_inside below s (out-StmtPart x))) is)

  -- all statements of a block
  pub row_whole : (levels : ℕ) (scope : List Name) (block : List StmtPart) (i : ℕ) (first : Option ℕ) → 0 < levels → length block ≤ i
      → first ≡ first_in f (in_row (standing (levels - 1)) scope (take i block)) → first ≡ first_in f (standing levels scope block)
  row_whole levels scope block i first h all e = rw (standing_row levels scope block h) (e ∙ ap (λ (xs : List StmtPart). first_in f (in_row (standing (levels - 1)) scope xs)) (take_all i block all))

-- ---- the scope behind a block

entered : (scope : List Name) (n : Name) (count : ℕ) → count ≤ length scope → take count (with_name scope n) ≡ take count scope
entered scope n count h = by (is_among scope n) where
  by : (b : Bool) → take count (if b then scope else scope ++ n ∷ []) ≡ take count scope
  by true = refl
  by false = take-append-le count scope (n ∷ []) h

entered_longer : (scope : List Name) (n : Name) → length scope ≤ length (with_name scope n)
entered_longer scope n = by (is_among scope n) where
  by : (b : Bool) → length scope ≤ length (if b then scope else scope ++ n ∷ [])
  by true = omega arith
  by false = rw (length-append scope (n ∷ [])) (omega arith)

after_keeps : (scope : List Name) (o : One) (count : ℕ) → count ≤ length scope → (take count (after scope o) ≡ take count scope) × (length scope ≤ length (after scope o))
after_keeps scope (Let n e) count h = (entered scope n.name count h, entered_longer scope n.name)
after_keeps scope _ count h = (refl, omega arith)

afters_keep : (scope : List Name) (block : List StmtPart) (count : ℕ) → count ≤ length scope → take count (afters scope block) ≡ take count scope
afters_keep scope [] count h = refl
afters_keep scope (s ∷ rest) count h =
    let one = after_keeps scope (out-StmtPart s) count h in
    afters_keep (after scope (out-StmtPart s)) rest count (omega (arith, one.1)) ∙ one.0

-- cutting the scope to its old length leaves what it was
pub scope_back : (scope now : List Name) (block : List StmtPart) → now ≡ afters scope block → take (length scope) now ≡ scope
scope_back scope now block e = ap (take (length scope)) e ∙ afters_keep scope block (length scope) (omega arith) ∙ take_all (length scope) scope (omega arith)

afters_append : (scope : List Name) (xs ys : List StmtPart) → afters scope (xs ++ ys) ≡ afters (afters scope xs) ys
afters_append scope [] ys = refl
afters_append scope (x ∷ xs) ys = afters_append (after scope (out-StmtPart x)) xs ys

pub afters_more : (scope now next : List Name) (block : List StmtPart) (i : ℕ) (x : StmtPart) → i < length block → x ≡ get_or block i x → now ≡ afters scope (take i block) → next ≡ after now (out-StmtPart x)
    → next ≡ afters scope (take (i + 1) block)
afters_more scope now next block i x h e before own =
    own ∙ ap (λ s. after s (out-StmtPart x)) before ∙ ap (λ y. after (afters scope (take i block)) (out-StmtPart y)) e
    ∙ sym (afters_append scope (take i block) (get_or block i x ∷ [])) ∙ ap (afters scope) (sym (take_more block i x h))
