-- Tokens with a blank behind each are read as these tokens.
use Rattle.std.proofs.Common.{◌≡◌, ℕ, ◌+◌, ◌-◌, Bool, true, false, not, ◌&&◌, List, [], ◌∷◌, ◌++◌, length, None, refl, sym, arith, append_assoc, length-append}
use Rattle.std.specs.Prelude.{slice_range}
use Rattle.std.specs.List.{list_all}
use Rattle.std.proofs.Math.Seq.{take-append_seam, drop-append_seam}
use Rattle.std.proofs.lemmas.Grind.{common_steps}
use Rattle.kom_text.specs.declared.token.TokenKind.{TokenKind}
use Rattle.kom_text.specs.Pieces.{Piece, is_blank, is_gap, is_piece, IsCut}
use Rattle.kom_text.specs.Answers.{tokens_from, end_from, is_too_big, too_big_from}
use Rattle.kom_parse.specs.Lexemes.{Lexeme, lexemes}
use Rattle.kom_spaced.specs.Spaced.{Written, piece_of, can_stand, text_of, placed, AreReadAs}
use Rattle.kom_spaced.proofs.Cutting.{token-longest, blank-longest}

-- what holds of a token that can stand
abbrev Stands : Written → Type 0
Stands t = (is_piece (piece_of t) ≡ true) × (is_too_big (piece_of t) ≡ false) × (is_blank t.behind ≡ true)

parted : (a b c : Bool) → a && (not b && c) ≡ true → (a ≡ true) × (b ≡ false) × (c ≡ true)
parted true false true h = (refl, refl, refl)
parted true false false h = cc
parted true true c h = cc
parted false b c h = cc

both : (a b : Bool) → a && b ≡ true → (a ≡ true) × (b ≡ true)
both true b h = (refl, h)
both false b h = cc

first-stands : (t : Written) (ts : List Written) → list_all can_stand (t ∷ ts) ≡ true → Stands t
first-stands t ts h = parted (is_piece (piece_of t)) (is_too_big (piece_of t)) (is_blank t.behind) (both (can_stand t) (list_all can_stand ts) h).0

rest-stand : (t : Written) (ts : List Written) → list_all can_stand (t ∷ ts) ≡ true → list_all can_stand ts ≡ true
rest-stand t ts h = (both (can_stand t) (list_all can_stand ts) h).1

abbrev gap_of : ℕ → Piece
gap_of c = record { kind = None; bytes = c ∷ [] }

abbrev pieces_of : List Written → List Piece
pieces_of [] = []
pieces_of (t ∷ ts) = piece_of t ∷ gap_of t.behind ∷ pieces_of ts

blank-gap : (c : ℕ) → is_blank c ≡ true → is_gap (c ∷ []) ≡ true
blank-gap c h = grind (arith, common_steps)

cut : (ts : List Written) → list_all can_stand ts ≡ true → IsCut (pieces_of ts) (text_of ts) []
cut [] h = refl
cut (t ∷ ts) h =
    let s = first-stands t ts h in (
      t.behind ∷ text_of ts,
      refl,
      s.0,
      token-longest t.kind t.bytes (text_of ts) t.behind s.0 s.2,
      (text_of ts, refl, blank-gap t.behind s.2, blank-longest t.behind (text_of ts) s.2, cut ts (rest-stand t ts h)),
    )

not-big : (ts : List Written) (at : ℕ) → list_all can_stand ts ≡ true → too_big_from at (pieces_of ts) ≡ None
not-big [] at h = refl
not-big (t ∷ ts) at h = let s = first-stands t ts h in rw (s.1) (not-big ts (at + length t.bytes + 1) (rest-stand t ts h))

ends : (ts : List Written) (at : ℕ) → end_from at (pieces_of ts) ≡ at + length (text_of ts)
ends [] at = omega arith
ends (t ∷ ts) at = omega (arith, ends ts (at + length t.bytes + 1), length-append t.bytes (t.behind ∷ text_of ts))

-- the bytes of a token, found by its place
pub part : (front bytes after : List ℕ) → slice_range (front ++ (bytes ++ after)) (length front) (length front + length bytes) ≡ bytes
part front bytes after =
    let n : (length front + length bytes) - length front ≡ length bytes = omega arith in
    rw (drop-append_seam, n, take-append_seam) refl

abbrev lexeme_of : TokenKind → ℕ → List ℕ → Lexeme
lexeme_of kind at bytes = record { kind = kind; bytes = bytes; at = at }

read : (ts : List Written) (front : List ℕ) → lexemes (front ++ text_of ts) (tokens_from (length front) (pieces_of ts)) ≡ placed (length front) ts
read [] front = refl
read (t ∷ ts) front =
    let next : List ℕ = front ++ (t.bytes ++ t.behind ∷ []) in
    let l : length next ≡ length front + length t.bytes + 1 = omega (arith, length-append front (t.bytes ++ t.behind ∷ []), length-append t.bytes (t.behind ∷ [])) in
    let e : next ++ text_of ts ≡ front ++ (t.bytes ++ t.behind ∷ text_of ts) = simp append_assoc in
    let r = read ts next in
    let p : slice_range (front ++ (t.bytes ++ t.behind ∷ text_of ts)) (length front) (length front + length t.bytes) ≡ t.bytes = part front t.bytes (t.behind ∷ text_of ts) in
    let q : lexemes (front ++ (t.bytes ++ t.behind ∷ text_of ts)) (tokens_from (length front + length t.bytes + 1) (pieces_of ts)) ≡ placed (length front + length t.bytes + 1) ts = rw (← l) (rw (← e) r) in
    rw p (rw q refl)

at-end : {n e : ℕ} → e ≡ 0 + n → n ≡ e
at-end h = omega arith

pub reads : (ts : List Written) → list_all can_stand ts ≡ true → AreReadAs (text_of ts) (placed 0 ts)
reads ts h = record {
  tokens = tokens_from 0 (pieces_of ts);
  cut = record { pieces = pieces_of ts; cut = cut ts h; found_is = refl; too_big_is = sym (not-big ts 0 h); end_is = at-end (ends ts 0) };
  lexemes_are = read ts [];
}
