-- What the reader of a whole grammar gives is what the grammar says.
use Rattle.std.proofs.Common.{◌≡◌, ℕ, suc, ◌+◌, ◌-◌, ◌<◌, ◌≤◌, List, [], ◌∷◌, ◌++◌, length, take, drop, refl, sym, ◌∙◌, ap, subst, arith, inl, inr, append_assoc, length-append}
use Rattle.std.proofs.lemmas.List.{append-nil, take_at}
use Rattle.std.proofs.lemmas.Bool.{cases_lt}
use Rattle.std.proofs.Math.Seq.{take-append_seam, take-add, take-length}
use Rattle.kom_parse.specs.Lexemes.{Lexeme}
use Rattle.kom_parse.specs.Input.{Read, Refuse, Parser, first}
use Rattle.kom_parse.specs.Spelled.{Begins, IsBrokenAt}
use Rattle.kom_parse.proofs.Laws.{IsReader}

-- a reader of the grammar that reads all that the grammar has, to the end
module _ {A : Type 0} (file : Parser A) (Spells : List Lexeme → A → Type 0) (reader : IsReader file Spells) (whole : (ts : List Lexeme) (x : A) → Spells ts x → file ts ≡ Read x []) where
  pub file_spelled : (ts : List Lexeme) (x : A) → file ts ≡ Read x [] → Spells ts x
  file_spelled ts x e = let k = reader.reads ts x [] e in rw (k.split ∙ append-nil k.text) k.spells

  pub file_only : (ts : List Lexeme) (x : A) → Spells ts x → file ts ≡ Read x []
  file_only ts x d = whole _ _ d

  -- a file that begins with what was read and the refused token would be read, and refused too
  no_more : (text after : List Lexeme) → ((other : List Lexeme) → first other ≡ first after → file (text ++ other) ≡ Refuse other) → (token : Lexeme) (rest : List Lexeme) → after ≡ token ∷ rest
      → Begins Spells (text ++ token ∷ []) → ⊥
  no_more text after again token rest is (more, x, d) =
      let read : file (text ++ (token ∷ more)) ≡ Read x [] = rw append_assoc at (whole _ _ d) in
      let refused : file (text ++ (token ∷ more)) ≡ Refuse (token ∷ more) = again (token ∷ more) (ap first (sym is)) in
      let both : Refuse (token ∷ more) ≡ Read x [] = sym refused ∙ read in
      cc

  one_more : (text after : List Lexeme) (token : Lexeme) (rest : List Lexeme) → after ≡ token ∷ rest → take (suc (length text)) (text ++ after) ≡ text ++ token ∷ []
  one_more text after token rest is = rw is (let e : text ++ (token ∷ rest) ≡ (text ++ token ∷ []) ++ rest = sym (append_assoc text (token ∷ []) rest) in
      rw e (take_at (text ++ token ∷ []) rest (suc (length text)) (omega (arith, length-append text (token ∷ [])))))

  broken_at : (text after : List Lexeme) (more : List Lexeme) (x : A) → Spells (text ++ more) x → ((other : List Lexeme) → first other ≡ first after → file (text ++ other) ≡ Refuse other)
      → IsBrokenAt Spells (text ++ after) (length text)
  broken_at text after more x d again = record {
    within = omega (arith, length-append text after);
    begins = rw take-append_seam (more, x, d);
    no_further = by_after after refl;
    no_end = λ all y f.
        let nothing : after ≡ [] = empty after (omega (arith, length-append text after, all)) in
        let read : file (text ++ after) ≡ Read y [] = whole _ _ f in
        let refused : file (text ++ after) ≡ Refuse after = again after refl in
        let both : Refuse after ≡ Read y [] = sym refused ∙ read in
        cc;
  } where
    empty : (l : List Lexeme) → length l ≡ 0 → l ≡ []
    empty [] e = refl
    empty (y ∷ l) e = absurd (omega (arith, e))

    by_after : (l : List Lexeme) → after ≡ l → length text < length (text ++ after) → Begins Spells (take (suc (length text)) (text ++ after)) → ⊥
    by_after [] is less b = absurd (omega (arith, length-append text after, ap length is, less))
    by_after (token ∷ rest) is less b = no_more text after again token rest is (rw (one_more text after token rest is) at b)

  broken_from : (ts text after : List Lexeme) (more : List Lexeme) (x : A) → ts ≡ text ++ after → Spells (text ++ more) x → ((other : List Lexeme) → first other ≡ first after → file (text ++ other) ≡ Refuse other)
      → IsBrokenAt Spells ts (length ts - length after)
  broken_from ts text after more x is d again =
      let place : length ts - length after ≡ length text = omega (arith, ap length is, length-append text after) in
      rw place (subst (λ ts. IsBrokenAt Spells ts (length text)) (sym is) (broken_at text after more x d again))

  pub file_broken : (ts after : List Lexeme) → file ts ≡ Refuse after → IsBrokenAt Spells ts (length ts - length after)
  file_broken ts after e = let k = reader.refuses ts after e in broken_from ts k.text after k.more k.value k.split k.spells k.again

  pub file_left : (ts after : List Lexeme) → file ts ≡ Refuse after → length after ≤ length ts
  file_left ts after e = let k = reader.refuses ts after e in omega (arith, ap length k.split, length-append k.text after)

  -- ---- a text breaks the grammar at one token at most, and where it does it is no file

  begins_fewer : (front after : List Lexeme) → Begins Spells (front ++ after) → Begins Spells front
  begins_fewer front after (more, x, d) = (after ++ more, x, rw (← append_assoc) d)

  take_more : (ts : List Lexeme) (k m : ℕ) → k ≤ m → take m ts ≡ take k ts ++ take (m - k) (drop k ts)
  take_more ts k m less = let e : m ≡ k + (m - k) = omega arith in ap (λ n. take n ts) e ∙ take-add k (m - k) ts

  not_later : (ts : List Lexeme) (k m : ℕ) → IsBrokenAt Spells ts k → k < m → m ≤ length ts → Begins Spells (take m ts) → ⊥
  not_later ts k m b less most f =
      b.no_further (omega arith) (begins_fewer (take (suc k) ts) (take (m - suc k) (drop (suc k) ts)) (subst (Begins Spells) (take_more ts (suc k) m (omega arith)) f))

  pub one_place : (ts : List Lexeme) (k m : ℕ) → IsBrokenAt Spells ts k → IsBrokenAt Spells ts m → k ≡ m
  one_place ts k m b c = elim (cases_lt k m) [
    | inl less ↦ absurd (not_later ts k m b less c.within c.begins)
    | inr more ↦ elim (cases_lt m k) [ inl less ↦ absurd (not_later ts m k c less b.within b.begins) | inr more' ↦ omega arith ]
  ]

  pub no_file : (ts : List Lexeme) (k : ℕ) (x : A) → IsBrokenAt Spells ts k → Spells ts x → ⊥
  no_file ts k x b d = elim (cases_lt k (length ts)) [
    | inl less ↦ not_later ts k (length ts) b less (omega arith) ([], x, rw (take-length, append-nil) d)
    | inr more ↦ b.no_end (omega (arith, more, b.within)) x d
  ]

  pub not_broken : (ts start after : List Lexeme) (x : A) → start ≡ ts → file start ≡ Read x after → after ≡ [] → (k : ℕ) → IsBrokenAt Spells ts k → ⊥
  not_broken ts start after x same e end k b = no_file ts k x b (file_spelled ts x (subst (λ s. file s ≡ Read x []) same (e ∙ ap (λ a. Read x a) end)))

  pub only_broken : (ts start after : List Lexeme) (left : ℕ) → start ≡ ts → file start ≡ Refuse after → left ≡ length after → (k : ℕ) → IsBrokenAt Spells ts k → length ts - left ≡ k
  only_broken ts start after left same e is k b = one_place ts (length ts - left) k (rw is (file_broken ts after (subst (λ s. file s ≡ Refuse after) same e))) b
