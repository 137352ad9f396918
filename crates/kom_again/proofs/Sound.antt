-- The tokens of a text are of their kinds, and no number is too big.
use Rattle.std.proofs.Common.{◌≡◌, ℕ, suc, ◌+◌, ◌-◌, Bool, true, false, List, [], ◌∷◌, ◌++◌, length, Option, Some, None, refl, sym, ap, ◌∙◌, subst, arith, append_assoc, length-append}
use Rattle.kom_text.specs.declared.token.Token.{Token}
use Rattle.kom_text.specs.declared.token.TokenKind.{TokenKind}
use Rattle.kom_text.specs.Pieces.{Piece, IsCut, is_spelled}
use Rattle.kom_text.specs.Answers.{token_of, tokens_from, too_big_from, is_too_big, IsReadTo}
use Rattle.kom_parse.specs.Lexemes.{Lexeme, lexemes}
use Rattle.kom_spaced.proofs.Reading.{part}
use Rattle.kom_written.specs.Again.{IsSound, AreSound}

abbrev lexeme_of : TokenKind → List ℕ → ℕ → Lexeme
lexeme_of kind bytes at = record { kind = kind; bytes = bytes; at = at }

one : (kind : Option TokenKind) (front bytes after : List ℕ) (rest : List Token) → is_spelled kind bytes ≡ true → is_too_big (record { kind = kind; bytes = bytes }) ≡ false
    → AreSound (lexemes (front ++ (bytes ++ after)) rest) → AreSound (lexemes (front ++ (bytes ++ after)) (token_of (length front) (record { kind = kind; bytes = bytes }) kind ++ rest))
one None front bytes after rest h k r = r
one (Some kind) front bytes after rest h k r =
    (subst (λ bs. IsSound (lexeme_of kind bs (length front))) (sym (part front bytes after)) (record { spelled = h; small = k }), r)

sound : (ps : List Piece) (front text : List ℕ) → IsCut ps text [] → None ≡ too_big_from (length front) ps → AreSound (lexemes (front ++ text) (tokens_from (length front) ps))
sound [] front text c n = tt
sound (p ∷ ps) front text c n = by_cases (is_too_big p) refl (sound ps (front ++ p.bytes) (c.0) (c.4))
  where
    by_cases : (t : Bool) → is_too_big p ≡ t
        → (None ≡ too_big_from (length (front ++ p.bytes)) ps → AreSound (lexemes ((front ++ p.bytes) ++ c.0) (tokens_from (length (front ++ p.bytes)) ps)))
        → AreSound (lexemes (front ++ text) (tokens_from (length front) (p ∷ ps)))
    by_cases true e k = absurd (let n' : None ≡ Some (length front) = rw e at n in cc)
    by_cases false e k =
        let n' = rw e at n in
        let l : length (front ++ p.bytes) ≡ length front + length p.bytes = length-append front p.bytes in
        let rest : AreSound (lexemes (front ++ (p.bytes ++ c.0)) (tokens_from (length front + length p.bytes) ps)) = rw (← append_assoc) (rw (← l) (k (rw l n'))) in
        let P : List ℕ → Type 0 = λ t. AreSound (lexemes (front ++ t) (tokens_from (length front) (p ∷ ps))) in
        subst P (sym (c.1)) (one p.kind front p.bytes (c.0) (tokens_from (length front + length p.bytes) ps) (c.2) e rest)

pub all_sound : (text : List ℕ) (ts : List Token) → IsReadTo text [] ts None (length text) → AreSound (lexemes text ts)
all_sound text ts r = rw (r.found_is) (sound r.pieces [] text r.cut r.too_big_is)
