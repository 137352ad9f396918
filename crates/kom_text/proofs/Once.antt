-- A text is cut in one way.
use Rattle.std.proofs.Common.{◌≡◌, ℕ, ◌≤◌, Bool, true, false, ◌==◌, if◌then◌else◌, List, [], ◌∷◌, ◌++◌, length, Option, Some, None, refl, ◌∙◌, sym, subst, arith}
use Rattle.std.proofs.lemmas.Grind.{common_steps}
use Rattle.std.specs.Char.{is_ascii_digit}
use Rattle.kom_text.specs.declared.token.TokenKind.{TokenKind}
use Rattle.kom_text.specs.declared.token.TokenKind.TheVariants.{Word, Number, Sign}
use Rattle.kom_text.specs.Pieces.{Piece, is_spelled, is_gap, is_blank, is_word_start, is_sign_byte, IsCut, IsBad}
use Rattle.kom_text.proofs.Firsts.{blank-no-sign, word-apart, digit-apart, pair-apart}

-- the kind of a piece by its first byte
abbrev kind_at : ℕ → Option TokenKind
kind_at b = if is_blank b then None else (if b == 35 then None else (if is_word_start b then Some Word else (if is_ascii_digit b then Some Number else Some Sign)))

hash-no-sign : (b : ℕ) → (b == 35) ≡ true → is_sign_byte b ≡ false
hash-no-sign b h = grind (arith, common_steps)

word-no-sign : (b : ℕ) → is_word_start b ≡ true → is_sign_byte b ≡ false
word-no-sign b h = grind (arith, common_steps)

digit-no-sign : (b : ℕ) → is_ascii_digit b ≡ true → is_sign_byte b ≡ false
digit-no-sign b h = grind (arith, common_steps)

gap-kind : (b : ℕ) (bs : List ℕ) (t u : Bool) → is_blank b ≡ t → (b == 35) ≡ u → is_gap (b ∷ bs) ≡ true → kind_at b ≡ None
gap-kind b bs true u e f h = rw e refl
gap-kind b bs false true e f h = rw (e, f) refl
gap-kind b bs false false e f h = let k : false ≡ true = rw (e, f) at h in cc

sign-kind : (b : ℕ) (t u v w : Bool) → is_blank b ≡ t → (b == 35) ≡ u → is_word_start b ≡ v → is_ascii_digit b ≡ w → is_sign_byte b ≡ true → kind_at b ≡ Some Sign
sign-kind b true u v w e f g h k = let n = blank-no-sign b e in cc
sign-kind b false true v w e f g h k = let n = hash-no-sign b f in cc
sign-kind b false false true w e f g h k = let n = word-no-sign b g in cc
sign-kind b false false false true e f g h k = let n = digit-no-sign b h in cc
sign-kind b false false false false e f g h k = rw (e, f, g, h) refl

kind-is : (k : Option TokenKind) (b : ℕ) (bs : List ℕ) → is_spelled k (b ∷ bs) ≡ true → kind_at b ≡ k
kind-is None b bs h = gap-kind b bs (is_blank b) (b == 35) refl refl h
kind-is (Some Word) b bs h = let w : is_word_start b ≡ true = grind (arith, common_steps) in rw ((word-apart b w).0) (rw ((word-apart b w).1) (rw w refl))
kind-is (Some Number) b bs h = let w : is_ascii_digit b ≡ true = grind (arith, common_steps) in rw ((digit-apart b w).0) (rw ((digit-apart b w).1) (rw ((digit-apart b w).2) (rw w refl)))
kind-is (Some Sign) b [] h = sign-kind b (is_blank b) (b == 35) (is_word_start b) (is_ascii_digit b) refl refl refl refl h
kind-is (Some Sign) b (c ∷ []) h = let a = pair-apart b c h in rw (a.0) (rw (a.1) (rw (a.2) (rw (a.3) refl)))
kind-is (Some Sign) b (c ∷ d ∷ bs) h = cc

kind-one : (k l : Option TokenKind) (bs : List ℕ) → is_spelled k bs ≡ true → is_spelled l bs ≡ true → k ≡ l
kind-one None l [] h g = cc
kind-one (Some Word) l [] h g = cc
kind-one (Some Number) l [] h g = cc
kind-one (Some Sign) l [] h g = cc
kind-one k l (b ∷ bs) h g = sym (kind-is k b bs h) ∙ kind-is l b bs g

not-empty : (k : Option TokenKind) (bs : List ℕ) → is_spelled k bs ≡ true → 1 ≤ length bs
not-empty None [] h = cc
not-empty (Some Word) [] h = cc
not-empty (Some Number) [] h = cc
not-empty (Some Sign) [] h = cc
not-empty k (b ∷ bs) h = omega arith

front-one : (xs ys zs bs : List ℕ) → xs ++ zs ≡ ys ++ bs → length xs ≡ length ys → (xs ≡ ys) × (zs ≡ bs)
front-one [] [] zs bs e n = (refl, e)
front-one [] (y ∷ ys) zs bs e n = absurd (omega arith)
front-one (x ∷ xs) [] zs bs e n = absurd (omega arith)
front-one (x ∷ xs) (y ∷ ys) zs bs e n =
    let t : xs ++ zs ≡ ys ++ bs = cc in
    let h : x ≡ y = cc in
    let r = front-one xs ys zs bs t (omega arith) in
    let a : xs ≡ ys = r.0 in (cc, r.1)

abbrev piece : Option TokenKind → List ℕ → Piece
piece kind bytes = record { kind = kind; bytes = bytes }

same : (p q : Piece) → p.kind ≡ q.kind → p.bytes ≡ q.bytes → p ≡ q
same p q k f = subst (λ (x : List ℕ). p ≡ piece q.kind x) f (subst (λ (y : Option TokenKind). p ≡ piece y p.bytes) k refl)

pub cut-once : (ps qs : List Piece) (text rest more : List ℕ) → IsCut ps text rest → IsCut qs text more → IsBad rest → IsBad more → (ps ≡ qs) × (rest ≡ more)
cut-once [] [] text rest more c d b e = (refl, sym c ∙ d)
cut-once [] (q ∷ qs) text rest more c d b e = absurd (omega (arith, not-empty q.kind q.bytes (d.2), b q (d.0) (d.2) (sym c ∙ d.1)))
cut-once (p ∷ ps) [] text rest more c d b e = absurd (omega (arith, not-empty p.kind p.bytes (c.2), e p (c.0) (c.2) (sym d ∙ c.1)))
cut-once (p ∷ ps) (q ∷ qs) text rest more c d b e =
    let n : length p.bytes ≡ length q.bytes = omega (arith, c.3 q (d.0) (d.2) (d.1), d.3 p (c.0) (c.2) (c.1)) in
    let f = front-one p.bytes q.bytes (c.0) (d.0) (sym (c.1) ∙ d.1) n in
    let k : p.kind ≡ q.kind = kind-one p.kind q.kind p.bytes (c.2) (rw (f.0) (d.2)) in
    let r = cut-once ps qs (d.0) rest more (rw (← f.1) (c.4)) (d.4) b e in
    let z : p ≡ q = same p q k (f.0) in
    let y : ps ≡ qs = r.0 in
    (cc, r.1)
