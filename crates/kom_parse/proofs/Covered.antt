-- The tokens of a text lie in it, and their numbers are not too big.
use Rattle.std.proofs.Common.{◌≡◌, ℕ, suc, ◌+◌, ◌-◌, Bool, true, false, List, [], ◌∷◌, ◌++◌, length, Option, Some, None, refl, sym, ap, subst, arith, append_assoc, length-append}
use Rattle.std.specs.Prelude.{slice_range}
use Rattle.std.proofs.Math.Seq.{take-append_seam, drop-append_seam}
use Rattle.std.proofs.lemmas.Grind.{common_steps}
use Rattle.kom_text.specs.declared.token.Token.{Token}
use Rattle.kom_text.specs.declared.token.TokenKind.{TokenKind}
use Rattle.kom_text.specs.declared.token.TokenKind.TheVariants.{Word, Number, Sign}
use Rattle.kom_text.specs.Pieces.{Piece, IsCut, is_spelled}
use Rattle.kom_text.specs.Answers.{token_of, tokens_from, too_big_from, is_too_big, IsReadTo}
use Rattle.kom_parse.specs.Lexemes.{lexemes, IsFine, AreTokensOf}

pub length-lexemes : (text : List ℕ) (ts : List Token) → length (lexemes text ts) ≡ length ts
length-lexemes text [] = refl
length-lexemes text (t ∷ ts) = ap suc (length-lexemes text ts)

part : (front bytes after : List ℕ) → slice_range (front ++ (bytes ++ after)) (length front) (length front + length bytes) ≡ bytes
part front bytes after =
    let n : (length front + length bytes) - length front ≡ length bytes = omega arith in
    rw (drop-append_seam, n, take-append_seam) refl

fine : (kind : TokenKind) (bytes : List ℕ) → is_spelled (Some kind) bytes ≡ true → is_too_big (record { kind = Some kind; bytes = bytes }) ≡ false → IsFine kind bytes
fine Word bytes h k = tt
fine Sign bytes h k = tt
fine Number bytes h k = (h, grind (arith, common_steps))

one : (kind : Option TokenKind) (front bytes after : List ℕ) (rest : List Token)
    → is_spelled kind bytes ≡ true → is_too_big (record { kind = kind; bytes = bytes }) ≡ false
    → AreTokensOf (front ++ (bytes ++ after)) rest
    → AreTokensOf (front ++ (bytes ++ after)) (token_of (length front) (record { kind = kind; bytes = bytes }) kind ++ rest)
one None front bytes after rest h k r = r
one (Some kind) front bytes after rest h k r = (
  omega arith,
  omega (arith, length-append front (bytes ++ after), length-append bytes after),
  rw (part front bytes after) (fine kind bytes h k),
  r,
)

covered : (ps : List Piece) (front text : List ℕ) → IsCut ps text [] → None ≡ too_big_from (length front) ps → AreTokensOf (front ++ text) (tokens_from (length front) ps)
covered [] front text c n = tt
covered (p ∷ ps) front text c n = by_cases (is_too_big p) refl (covered ps (front ++ p.bytes) (c.0) (c.4))
  where
    by_cases : (t : Bool) → is_too_big p ≡ t
        → (None ≡ too_big_from (length (front ++ p.bytes)) ps → AreTokensOf ((front ++ p.bytes) ++ c.0) (tokens_from (length (front ++ p.bytes)) ps))
        → AreTokensOf (front ++ text) (tokens_from (length front) (p ∷ ps))
    by_cases true e k = absurd (let n' : None ≡ Some (length front) = rw e at n in cc)
    by_cases false e k =
        let n' = rw e at n in
        let l : length (front ++ p.bytes) ≡ length front + length p.bytes = length-append front p.bytes in
        let rest : AreTokensOf (front ++ (p.bytes ++ c.0)) (tokens_from (length front + length p.bytes) ps) = rw (← append_assoc) (rw (← l) (k (rw l n'))) in
        let P : List ℕ → Type 0 = λ t. AreTokensOf (front ++ t) (tokens_from (length front) (p ∷ ps)) in
        subst P (sym (c.1)) (one p.kind front p.bytes (c.0) (tokens_from (length front + length p.bytes) ps) (c.2) e rest)

pub all-covered : (text : List ℕ) (ts : List Token) → IsReadTo text [] ts None (length text) → AreTokensOf text ts
all-covered text ts r = rw (r.found_is) (covered r.pieces [] text r.cut r.too_big_is)
