-- A token with a blank behind it is the longest piece at the front of a text.
use Rattle.std.proofs.Common.{◌≡◌, ℕ, Bool, true, false, ◌==◌, List, [], ◌∷◌, ◌++◌, length, Option, Some, None, refl, subst, arith, add_comm, add-one}
use Rattle.std.specs.List.{list_all}
use Rattle.std.specs.Char.{is_ascii_digit}
use Rattle.std.proofs.lemmas.Grind.{common_steps}
use Rattle.kom_text.specs.declared.token.TokenKind.{TokenKind}
use Rattle.kom_text.specs.declared.token.TokenKind.TheVariants.{Word, Number, Sign}
use Rattle.kom_text.specs.declared.piece.Found.{Found}
use Rattle.kom_text.specs.Pieces.{is_blank, is_word_start, is_word_byte, is_sign_byte, is_sign_pair, is_spelled, IsLongest}
use Rattle.kom_text.specs.Places.{lead}
use Rattle.kom_text.specs.Found.{found, of_len, is_pair, IsFirst}
use Rattle.kom_text.proofs.Firsts.{first-found, blank-no-sign, word-apart, digit-apart, pair-apart}

-- a run stops at the first byte that is not of it
lead-stops : (test : ℕ → Bool) (xs rest : List ℕ) (b : ℕ) → list_all test xs ≡ true → test b ≡ false → lead test (xs ++ b ∷ rest) ≡ length xs
lead-stops test [] rest b h k = rw k refl
lead-stops test (x ∷ xs) rest b h k = grind (arith, common_steps, lead-stops test xs rest b)

blank-no-digit : (b : ℕ) → is_blank b ≡ true → is_ascii_digit b ≡ false
blank-no-digit b h = grind (arith, common_steps)

blank-ends-word : (b : ℕ) → is_blank b ≡ true → is_word_byte b ≡ false
blank-ends-word b h = grind (arith, common_steps)

blank-no-pair : (b c : ℕ) → is_blank c ≡ true → is_sign_pair b c ≡ false
blank-no-pair b c h = grind (arith, common_steps)

hash-no-sign : (b : ℕ) → (b == 35) ≡ true → is_sign_byte b ≡ false
hash-no-sign b h = grind (arith, common_steps)

word-no-sign : (b : ℕ) → is_word_start b ≡ true → is_sign_byte b ≡ false
word-no-sign b h = grind (arith, common_steps)

digit-no-sign : (b : ℕ) → is_ascii_digit b ≡ true → is_sign_byte b ≡ false
digit-no-sign b h = grind (arith, common_steps)

-- a sign of one byte begins no other piece
sign-found : (b : ℕ) (after : List ℕ) (t u v w : Bool) → is_blank b ≡ t → (b == 35) ≡ u → is_word_start b ≡ v → is_ascii_digit b ≡ w
    → is_pair b after ≡ false → is_sign_byte b ≡ true → found b after ≡ of_len (Some Sign) 1
sign-found b after true u v w e f g h i k = let n = blank-no-sign b e in cc
sign-found b after false true v w e f g h i k = let n = hash-no-sign b f in cc
sign-found b after false false true w e f g h i k = let n = word-no-sign b g in cc
sign-found b after false false false true e f g h i k = let n = digit-no-sign b h in cc
sign-found b after false false false false e f g h i k = rw (e, f, g, h, i, k) refl

-- what is found at a token with a blank behind it
found-is : (kind : TokenKind) (b : ℕ) (bs rest : List ℕ) (c : ℕ) → is_spelled (Some kind) (b ∷ bs) ≡ true → is_blank c ≡ true
    → found b (bs ++ c ∷ rest) ≡ of_len (Some kind) (length (b ∷ bs))
found-is Word b bs rest c h k =
    let w : is_word_start b ≡ true = grind (arith, common_steps) in
    let a : list_all is_word_byte bs ≡ true = grind (arith, common_steps) in
    let l = lead-stops is_word_byte bs rest c a (blank-ends-word c k) in
    rw ((word-apart b w).0) (rw ((word-apart b w).1) (rw w (rw l (rw (add_comm 1 (length bs), add-one) refl))))
found-is Number b bs rest c h k =
    let w : is_ascii_digit b ≡ true = grind (arith, common_steps) in
    let a : list_all is_ascii_digit bs ≡ true = grind (arith, common_steps) in
    let l = lead-stops is_ascii_digit bs rest c a (blank-no-digit c k) in
    let d = digit-apart b w in
    rw (d.0) (rw (d.1) (rw (d.2) (rw w (rw l (rw (add_comm 1 (length bs), add-one) refl)))))
found-is Sign b [] rest c h k = sign-found b (c ∷ rest) (is_blank b) (b == 35) (is_word_start b) (is_ascii_digit b) refl refl refl refl (blank-no-pair b c k) h
found-is Sign b (d ∷ []) rest c h k = let a = pair-apart b d h in rw (a.0) (rw (a.1) (rw (a.2) (rw (a.3) (rw h refl))))
found-is Sign b (d ∷ e ∷ bs) rest c h k = cc

pub token-longest : (kind : TokenKind) (bytes rest : List ℕ) (c : ℕ) → is_spelled (Some kind) bytes ≡ true → is_blank c ≡ true
    → IsLongest (length bytes) (bytes ++ c ∷ rest)
token-longest Word [] rest c h k = cc
token-longest Number [] rest c h k = cc
token-longest Sign [] rest c h k = cc
token-longest kind (b ∷ bs) rest c h k =
    let P : Option Found → Type 0 = λ f. IsFirst (b ∷ (bs ++ c ∷ rest)) f in
    let f : IsFirst (b ∷ (bs ++ c ∷ rest)) (of_len (Some kind) (length (b ∷ bs))) = subst P (found-is kind b bs rest c h k) (first-found b (bs ++ c ∷ rest)) in
    f.3

pub blank-longest : (c : ℕ) (rest : List ℕ) → is_blank c ≡ true → IsLongest 1 (c ∷ rest)
blank-longest c rest k =
    let e : found c rest ≡ of_len None 1 = rw k refl in
    let P : Option Found → Type 0 = λ f. IsFirst (c ∷ rest) f in
    let f : IsFirst (c ∷ rest) (of_len None 1) = subst P e (first-found c rest) in
    f.3
