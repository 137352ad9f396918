-- One piece more.
use Rattle.std.proofs.Common.{◌≡◌, ℕ, ◌+◌, Bool, true, false, List, [], ◌∷◌, ◌++◌, length, take, drop, Option, Some, None, refl, sym, subst, arith, append_assoc, length-append, length-take-le, append-nil, take-append-drop}
use Rattle.std.proofs.lemmas.Grind.{common_steps}
use Rattle.kom_text.specs.declared.token.Token.{Token}
use Rattle.kom_text.specs.declared.token.TokenKind.{TokenKind}
use Rattle.kom_text.specs.declared.piece.Found.{Found}
use Rattle.kom_text.specs.Found.{IsFirst}
use Rattle.kom_text.specs.Pieces.{is_spelled, Piece, is_piece, IsLongest, IsCut}
use Rattle.kom_text.specs.Answers.{token_of, tokens_from, end_from, is_too_big, too_big_from, too_big_after, IsReadTo}

pub cut-more : (ps : List Piece) (p : Piece) (text rest after : List ℕ)
    → IsCut ps text rest → rest ≡ p.bytes ++ after → is_piece p ≡ true → IsLongest (length p.bytes) rest → IsCut (ps ++ p ∷ []) text after
cut-more [] p text rest after e f h l =
    let P : List ℕ → Type 0 = λ t. IsCut (p ∷ []) t after in
    subst P (sym e) (after, f, h, l, refl)
cut-more (q ∷ ps) p text rest after c f h l = (c.0, c.1, c.2, c.3, cut-more ps p c.0 rest after c.4 f h l)

pub end-more : (at : ℕ) (ps : List Piece) (p : Piece) → end_from at (ps ++ p ∷ []) ≡ end_from at ps + length p.bytes
end-more at [] p = refl
end-more at (q ∷ ps) p = end-more (at + length q.bytes) ps p

pub tokens-more : (at : ℕ) (ps : List Piece) (p : Piece) → tokens_from at (ps ++ p ∷ []) ≡ tokens_from at ps ++ token_of (end_from at ps) p p.kind
tokens-more at [] p = grind (arith, common_steps)
tokens-more at (q ∷ ps) p = grind (arith, common_steps, append_assoc, tokens-more (at + length q.bytes) ps p)

pub big-more : (at : ℕ) (ps : List Piece) (p : Piece) → too_big_from at (ps ++ p ∷ []) ≡ too_big_after (too_big_from at ps) p (end_from at ps)
big-more at [] p = refl
big-more at (q ∷ ps) p = by_cases (is_too_big q) refl (big-more (at + length q.bytes) ps p)
  where
    by_cases : (t : Bool) → is_too_big q ≡ t → too_big_from (at + length q.bytes) (ps ++ p ∷ []) ≡ too_big_after (too_big_from (at + length q.bytes) ps) p (end_from (at + length q.bytes) ps) → too_big_from at (q ∷ ps ++ p ∷ []) ≡ too_big_after (too_big_from at (q ∷ ps)) p (end_from at (q ∷ ps))
    by_cases true e k = rw e refl
    by_cases false e k = rw e k

pub end-length : (at : ℕ) (ps : List Piece) (text rest : List ℕ) → IsCut ps text rest → at + length text ≡ end_from at ps + length rest
end-length at [] text rest e = rw e refl
end-length at (p ∷ ps) text rest c = let l : length text ≡ length p.bytes + length c.0 = rw (c.1) (length-append p.bytes c.0) in omega (arith, l, end-length (at + length p.bytes) ps c.0 rest c.4)

-- one piece more of a text that was read so far
pub reads-more : (text rest after : List ℕ) (found : List Token) (big : Option ℕ) (end : ℕ) (p : Piece)
    → IsReadTo text rest found big end → rest ≡ p.bytes ++ after → is_piece p ≡ true → IsLongest (length p.bytes) rest
    → IsReadTo text after (found ++ token_of end p p.kind) (too_big_after big p end) (end + length p.bytes)
reads-more text rest after found big end p r e h l = record {
  pieces = r.pieces ++ p ∷ [];
  cut = cut-more r.pieces p text rest after r.cut e h l;
  found_is = rw (r.found_is, r.end_is) (sym (tokens-more 0 r.pieces p));
  too_big_is = rw (r.too_big_is, r.end_is) (sym (big-more 0 r.pieces p));
  end_is = rw (r.end_is) (sym (end-more 0 r.pieces p));
}

pub whole : (text rest : List ℕ) (found : List Token) (big : Option ℕ) (end : ℕ) → IsReadTo text rest found big end → length rest ≡ 0 → IsReadTo text [] found big (length text)
whole text [] found big end r h = let e : end ≡ length text = omega (arith, r.end_is, end-length 0 r.pieces text [] r.cut) in subst (λ (n : ℕ). IsReadTo text [] found big n) e r
whole text (b ∷ bs) found big end r h = absurd (omega arith)

pub read-length : (text rest : List ℕ) (found : List Token) (big : Option ℕ) (end : ℕ) → IsReadTo text rest found big end → end + length rest ≡ length text
read-length text rest found big end r = omega (arith, r.end_is, end-length 0 r.pieces text rest r.cut)

-- the piece that was found at the front of the rest
abbrev pub piece_of : Found → List ℕ → Piece
piece_of f front = record { kind = f.kind; bytes = front }

pub takes-more : (text rest front back : List ℕ) (found : List Token) (big : Option ℕ) (end : ℕ) (f : Found)
    → IsReadTo text rest found big end → IsFirst rest (Some f) → front ≡ take f.len rest → back ≡ drop f.len rest
    → IsReadTo text back (found ++ token_of end (piece_of f front) f.kind) (too_big_after big (piece_of f front) end) (end + f.len)
takes-more text rest front back found big end f r first a b =
    let n : length front ≡ f.len = rw a (omega (arith, length-take-le f.len rest (first.1))) in
    let e : rest ≡ front ++ back = rw (a, b) (sym (take-append-drop f.len rest)) in
    let h : is_spelled f.kind front ≡ true = rw a (first.2) in
    let l : IsLongest (length front) rest = rw n (first.3) in
    let P : ℕ → Type 0 = λ m. IsReadTo text back (found ++ token_of end (piece_of f front) f.kind) (too_big_after big (piece_of f front) end) (end + m) in
    subst P n (reads-more text rest back found big end (piece_of f front) r e h l)

-- a token more
pub takes-token : (text rest front back : List ℕ) (found : List Token) (big : Option ℕ) (end : ℕ) (f : Found) (kind : TokenKind)
    → IsReadTo text rest found big end → IsFirst rest (Some f) → front ≡ take f.len rest → back ≡ drop f.len rest → f.kind ≡ Some kind
    → IsReadTo text back (found ++ record { kind = kind; from = end; until = end + f.len } ∷ []) (too_big_after big (piece_of f front) end) (end + f.len)
takes-token text rest front back found big end f kind r first a b k =
    let n : length front ≡ f.len = rw a (omega (arith, length-take-le f.len rest (first.1))) in
    let t : token_of end (piece_of f front) f.kind ≡ record { kind = kind; from = end; until = end + f.len } ∷ [] = rw (k, n) refl in
    let P : List Token → Type 0 = λ ts. IsReadTo text back (found ++ ts) (too_big_after big (piece_of f front) end) (end + f.len) in
    subst P t (takes-more text rest front back found big end f r first a b)

-- a blank or a comment more
pub takes-gap : (text rest front back : List ℕ) (found : List Token) (big : Option ℕ) (end : ℕ) (f : Found)
    → IsReadTo text rest found big end → IsFirst rest (Some f) → front ≡ take f.len rest → back ≡ drop f.len rest → f.kind ≡ None
    → IsReadTo text back found (too_big_after big (piece_of f front) end) (end + f.len)
takes-gap text rest front back found big end f r first a b k =
    let t : found ++ token_of end (piece_of f front) f.kind ≡ found = rw k (append-nil found) in
    let P : List Token → Type 0 = λ ts. IsReadTo text back ts (too_big_after big (piece_of f front) end) (end + f.len) in
    subst P t (takes-more text rest front back found big end f r first a b)
