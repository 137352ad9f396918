-- The places of tokens rise, and so do those of names in a row.
use Rattle.std.proofs.Common.{◌≡◌, ℕ, suc, ◌+◌, ◌≤◌, true, List, [], ◌∷◌, ◌++◌, map, length, Option, Some, None, refl, arith}
use Rattle.std.specs.List.{filter_map}
use Rattle.kom_text.specs.declared.token.Token.{Token}
use Rattle.kom_text.specs.declared.token.TokenKind.{TokenKind}
use Rattle.kom_text.specs.declared.token.TokenKind.TheVariants.{Word, Number, Sign}
use Rattle.kom_text.specs.Pieces.{Piece, is_spelled, IsCut}
use Rattle.kom_text.specs.Answers.{token_of, tokens_from}
use Rattle.kom_system.specs.declared.parts.Spot.{Spot}
use Rattle.kom_parse.specs.Lexemes.{Lexeme, lexemes}
use Rattle.kom_parse.specs.Spelled.{SpellsRow, end, next}
use Rattle.kom_grammar.specs.Words.{SpellsName, name}
use Rattle.kom_written.proofs.Rows.{Each}
use Rattle.kom_apart.proofs.Once.{RisingFrom, rising_weaker}

abbrev pub Rises : ℕ → List Lexeme → Type 0
Rises n [] = Unit {0}
Rises n (l ∷ ls) = (n ≤ l.at) × Rises (suc l.at) ls

weaker : (n m : ℕ) (ls : List Lexeme) → n ≤ m → Rises m ls → Rises n ls
weaker n m [] le r = tt
weaker n m (l ∷ ls) le r = (let q = r.0 in omega arith, r.1)

not_empty : (k : Option TokenKind) (bs : List ℕ) → is_spelled k bs ≡ true → 1 ≤ length bs
not_empty None [] h = absurd cc
not_empty (Some Word) [] h = absurd cc
not_empty (Some Number) [] h = absurd cc
not_empty (Some Sign) [] h = absurd cc
not_empty k (b ∷ bs) h = omega arith

-- one piece before the others
piece_rises : (kind : Option TokenKind) (bytes whole : List ℕ) (at : ℕ) (rest : List Token) → 1 ≤ length bytes → Rises (at + length bytes) (lexemes whole rest)
    → Rises at (lexemes whole (token_of at (record { kind = kind; bytes = bytes }) kind ++ rest))
piece_rises None bytes whole at rest n r = weaker at (at + length bytes) (lexemes whole rest) (omega arith) r
piece_rises (Some k) bytes whole at rest n r = (omega arith, weaker (suc at) (at + length bytes) (lexemes whole rest) (omega arith) r)

pub tokens_rise : (ps : List Piece) (whole text rest : List ℕ) (at : ℕ) → IsCut ps text rest → Rises at (lexemes whole (tokens_from at ps))
tokens_rise [] whole text rest at c = tt
tokens_rise (p ∷ ps) whole text rest at c =
    piece_rises p.kind p.bytes whole at (tokens_from (at + length p.bytes) ps) (not_empty p.kind p.bytes c.2) (tokens_rise ps whole c.0 rest (at + length p.bytes) c.4)

-- ---- places between two others

abbrev pub Bounded : ℕ → ℕ → List Lexeme → Type 0
Bounded n m [] = n ≤ m
Bounded n m (l ∷ ls) = (n ≤ l.at) × Bounded (suc l.at) m ls

pub within : (n m : ℕ) (ls : List Lexeme) → Bounded n m ls → n ≤ m
within n m [] b = b
within n m (l ∷ ls) b = (let q = within (suc l.at) m ls b.1 in let p = b.0 in omega arith)

pub split : (n : ℕ) (xs ys : List Lexeme) → Rises n (xs ++ ys) → (m : ℕ) × Bounded n m xs × Rises m ys
split n [] ys r = (n, omega arith, r)
split n (x ∷ xs) ys r = let q = split (suc x.at) xs ys r.1 in (q.0, (r.0, q.1), q.2)

pub bounded_split : (n m : ℕ) (xs ys : List Lexeme) → Bounded n m (xs ++ ys) → (k : ℕ) × Bounded n k xs × Bounded k m ys
bounded_split n m [] ys b = (n, omega arith, b)
bounded_split n m (x ∷ xs) ys b = let q = bounded_split (suc x.at) m xs ys b.1 in (q.0, (b.0, q.1), q.2)

pub rises_left : (n : ℕ) (xs ys : List Lexeme) → Rises n (xs ++ ys) → Rises n xs
rises_left n [] ys r = tt
rises_left n (x ∷ xs) ys r = (r.0, rises_left (suc x.at) xs ys r.1)

-- the place of a name
abbrev pub Lies : ℕ → ℕ → Spot → Type 0
Lies n m s = (n ≤ s.at) × (suc s.at ≤ m)

name_lies : {t : List Lexeme} {s : Spot} → SpellsName t s → (n m : ℕ) → Bounded n m t → Lies n m s
name_lies (name a h) n m b = b

-- a name among other tokens
pub lies_behind : {t : List Lexeme} {s : Spot} (front rest : List Lexeme) → SpellsName t s → (n m : ℕ) → Bounded n m (front ++ (t ++ rest)) → Lies n m s
lies_behind {t = t} {s = s} front rest d n m b =
    let p = bounded_split n m front (t ++ rest) b in
    let q = bounded_split p.0 m t rest p.2 in
    let l = name_lies d p.0 q.0 q.1 in
    let before = within n p.0 front p.1 in
    let behind = within q.0 m rest q.2 in
    let low = l.0 in
    let high = l.1 in
    (omega arith, omega arith)

-- ---- rows

pub row_rises : {X Y : Type 0} (Spells : List Lexeme → X → Type 0) (kind : X → Option Y) (called : Y → Spot)
    → ((t : List Lexeme) (x : X) (y : Y) → Spells t x → kind x ≡ Some y → (n m : ℕ) → Bounded n m t → Lies n m (called y))
    → {t : List Lexeme} {xs : List X} → SpellsRow Spells t xs → (n : ℕ) → Rises n t → RisingFrom n (map called (filter_map kind xs))
row_rises Spells kind called item end n r = tt
row_rises {X = X} {Y = Y} Spells kind called item (next {t = t} {ts = ts} {x = x} {xs = xs} d ds) n r =
    let q = split n t ts r in
    by (kind x) refl q.0 q.1 (row_rises Spells kind called item ds q.0 q.2)
  where
    by : (o : Option Y) → kind x ≡ o → (m : ℕ) → Bounded n m t → RisingFrom m (map called (filter_map kind xs)) → RisingFrom n (map called (filter_map kind (x ∷ xs)))
    by None e m b rest = rw e (rising_weaker n m (map called (filter_map kind xs)) (within n m t b) rest)
    by (Some y) e m b rest = let l = item t x y d e n m b in rw e (l.0, rising_weaker (suc (called y).at) m (map called (filter_map kind xs)) l.1 rest)

pub all_rise : {X : Type 0} (Spells : List Lexeme → X → Type 0) (called : X → Spot) → ((t : List Lexeme) (x : X) → Spells t x → (n m : ℕ) → Bounded n m t → Lies n m (called x))
    → {t : List Lexeme} {xs : List X} → SpellsRow Spells t xs → (n : ℕ) → Rises n t → RisingFrom n (map called xs)
all_rise Spells called item end n r = tt
all_rise Spells called item (next {t = t} {ts = ts} {x = x} {xs = xs} d ds) n r =
    let q = split n t ts r in
    let l = item t x d n q.0 q.1 in
    (l.0, rising_weaker (suc (called x).at) q.0 (map called xs) l.1 (all_rise Spells called item ds q.0 q.2))

-- what holds of each item whose places rise
pub each_rising : {X : Type 0} (Spells : List Lexeme → X → Type 0) (Q : X → Type 0) → ((t : List Lexeme) (x : X) → Spells t x → (n : ℕ) → Rises n t → Q x) → {t : List Lexeme} {xs : List X} → SpellsRow Spells t xs → (n : ℕ) → Rises n t → Each Q xs
each_rising Spells Q item end n r = tt
each_rising Spells Q item (next {t = t} {ts = ts} {x = x} {xs = xs} d ds) n r =
    let q = split n t ts r in (item t x d n (rises_left n t ts r), each_rising Spells Q item ds q.0 q.2)
