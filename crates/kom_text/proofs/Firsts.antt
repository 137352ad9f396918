-- The piece that is found is the longest at the front of the text.
use Rattle.std.proofs.Common.{◌≡◌, ℕ, suc, ◌+◌, ◌-◌, drop, get_or, ◌≤◌, Bool, true, false, ◌==◌, if◌then◌else◌, List, [], ◌∷◌, ◌++◌, length, take, Option, Some, None, refl, arith, add_comm, add-one}
use Rattle.std.specs.List.{list_all}
use Rattle.std.specs.Char.{is_ascii_digit}
use Rattle.std.proofs.lemmas.Grind.{common_steps}
use Rattle.kom_text.specs.declared.token.TokenKind.{TokenKind}
use Rattle.kom_text.specs.declared.token.TokenKind.TheVariants.{Word, Number, Sign}
use Rattle.kom_text.specs.declared.piece.Found.{Found}
use Rattle.kom_text.specs.Pieces.{is_blank, is_word_start, is_word_byte, is_not_newline, is_sign_byte, is_sign_pair, is_spelled, is_word, is_number, is_sign, is_gap, IsLongest}
use Rattle.kom_text.specs.Places.{lead}
use Rattle.kom_text.specs.Found.{found, of_len, is_pair, IsFirst}

-- ---- runs

pub lead-takes : (test : ℕ → Bool) (xs rest : List ℕ) → list_all test xs ≡ true → length xs ≤ lead test (xs ++ rest)
lead-takes test [] rest h = omega arith
lead-takes test (x ∷ xs) rest h = grind (arith, common_steps, lead-takes test xs rest)

pub lead-all : (test : ℕ → Bool) (xs : List ℕ) → list_all test (take (lead test xs) xs) ≡ true
lead-all test [] = refl
lead-all test (x ∷ xs) = by_cases (test x) refl (lead-all test xs)
  where
    by_cases : (t : Bool) → test x ≡ t → list_all test (take (lead test xs) xs) ≡ true → list_all test (take (lead test (x ∷ xs)) (x ∷ xs)) ≡ true
    by_cases true e k = rw e (rw (add_comm 1 (lead test xs), add-one) (rw e k))
    by_cases false e k = rw e refl

pub lead-within : (test : ℕ → Bool) (xs : List ℕ) → lead test xs ≤ length xs
lead-within test [] = omega arith
lead-within test (x ∷ xs) = grind (arith, common_steps, lead-within test xs)

-- ---- the classes of first bytes are apart

pub blank-apart : (b : ℕ) → is_blank b ≡ true → (b == 35) ≡ false
blank-apart b h = grind (arith, common_steps)

pub blank-no-word : (b : ℕ) → is_blank b ≡ true → is_word_start b ≡ false
blank-no-word b h = grind (arith, common_steps)

pub blank-no-sign : (b : ℕ) → is_blank b ≡ true → is_sign_byte b ≡ false
blank-no-sign b h = grind (arith, common_steps)

pub word-apart : (b : ℕ) → is_word_start b ≡ true → (is_blank b ≡ false) × ((b == 35) ≡ false)
word-apart b h = (grind (arith, common_steps), grind (arith, common_steps))

pub digit-apart : (b : ℕ) → is_ascii_digit b ≡ true → (is_blank b ≡ false) × ((b == 35) ≡ false) × (is_word_start b ≡ false)
digit-apart b h = (grind (arith, common_steps), grind (arith, common_steps), grind (arith, common_steps))

pub pair-apart : (b c : ℕ) → is_sign_pair b c ≡ true → (is_blank b ≡ false) × ((b == 35) ≡ false) × (is_word_start b ≡ false) × (is_ascii_digit b ≡ false)
pair-apart b c h = (grind (arith, common_steps), grind (arith, common_steps), grind (arith, common_steps), grind (arith, common_steps))

-- ---- what is found is at least as long as any piece

abbrev pub len_of : Option Found → ℕ
len_of None = 0
len_of (Some f) = f.len

bound-gap : (b : ℕ) (cs rest : List ℕ) → is_gap (b ∷ cs) ≡ true → suc (length cs) ≤ len_of (found b (cs ++ rest))
bound-gap b cs rest h = grind (arith, common_steps, lead-takes is_not_newline cs rest)

bound-word : (b : ℕ) (cs rest : List ℕ) → is_word (b ∷ cs) ≡ true → suc (length cs) ≤ len_of (found b (cs ++ rest))
bound-word b cs rest h = let w : is_word_start b ≡ true = grind (arith, common_steps) in rw ((word-apart b w).0) (rw ((word-apart b w).1) (rw w (let k : list_all is_word_byte cs ≡ true = grind (arith, common_steps) in omega (arith, lead-takes is_word_byte cs rest k))))

bound-number : (b : ℕ) (cs rest : List ℕ) → is_number (b ∷ cs) ≡ true → suc (length cs) ≤ len_of (found b (cs ++ rest))
bound-number b cs rest h = let w : is_ascii_digit b ≡ true = grind (arith, common_steps) in rw ((digit-apart b w).0) (rw ((digit-apart b w).1) (rw ((digit-apart b w).2) (rw w (let k : list_all is_ascii_digit cs ≡ true = grind (arith, common_steps) in omega (arith, lead-takes is_ascii_digit cs rest k)))))

-- one of several tests holds, whatever the others say
some_found : (t u v w x : Bool) (l m n : ℕ)
    → 1 ≤ len_of (if t then of_len None 1 else (if u then of_len None (1 + l) else (if v then of_len (Some Word) (1 + m) else (if w then of_len (Some Number) (1 + n) else (if x then of_len (Some Sign) 2 else of_len (Some Sign) 1)))))
some_found true u v w x l m n = omega arith
some_found false true v w x l m n = omega arith
some_found false false true w x l m n = omega arith
some_found false false false true x l m n = omega arith
some_found false false false false true l m n = omega arith
some_found false false false false false l m n = omega arith

bound-sign : (b : ℕ) (cs rest : List ℕ) → is_sign (b ∷ cs) ≡ true → suc (length cs) ≤ len_of (found b (cs ++ rest))
bound-sign b [] rest h = rw h (some_found (is_blank b) (b == 35) (is_word_start b) (is_ascii_digit b) (is_pair b rest) (lead is_not_newline rest) (lead is_word_byte rest) (lead is_ascii_digit rest))
bound-sign b (c ∷ []) rest h = let a = pair-apart b c h in rw (a.0) (rw (a.1) (rw (a.2) (rw (a.3) (rw h (omega arith)))))
bound-sign b (c ∷ d ∷ cs) rest h = cc

longest_of : (kind : Option TokenKind) (bs rest : List ℕ) (b : ℕ) (after : List ℕ) → is_spelled kind bs ≡ true → b ∷ after ≡ bs ++ rest → length bs ≤ len_of (found b after)
longest_of kind [] rest b after h e = omega arith
longest_of None (c ∷ cs) rest b after h e = let p : after ≡ cs ++ rest = cc in let q : b ≡ c = cc in rw (p, q) (bound-gap c cs rest h)
longest_of (Some Word) (c ∷ cs) rest b after h e = let p : after ≡ cs ++ rest = cc in let q : b ≡ c = cc in rw (p, q) (bound-word c cs rest h)
longest_of (Some Number) (c ∷ cs) rest b after h e = let p : after ≡ cs ++ rest = cc in let q : b ≡ c = cc in rw (p, q) (bound-number c cs rest h)
longest_of (Some Sign) (c ∷ cs) rest b after h e = let p : after ≡ cs ++ rest = cc in let q : b ≡ c = cc in rw (p, q) (bound-sign c cs rest h)

-- ---- what is found is a piece

abbrev pub IsPieceOf : List ℕ → Option Found → Type 0
IsPieceOf text None = Unit {0}
IsPieceOf text (Some f) = (1 ≤ f.len) × (f.len ≤ length text) × (is_spelled f.kind (take f.len text) ≡ true)

-- a run of bytes after the first
run_piece : (kind : Option TokenKind) (test : ℕ → Bool) (b : ℕ) (after : List ℕ)
    → ((bs : List ℕ) → list_all test bs ≡ true → is_spelled kind (b ∷ bs) ≡ true)
    → IsPieceOf (b ∷ after) (of_len kind (1 + lead test after))
run_piece kind test b after spells = (omega arith, omega (arith, lead-within test after), rw (add_comm 1 (lead test after), add-one) (spells (take (lead test after) after) (lead-all test after)))

pair_piece : (b : ℕ) (after : List ℕ) → is_pair b after ≡ true → IsPieceOf (b ∷ after) (of_len (Some Sign) 2)
pair_piece b [] h = cc
pair_piece b (c ∷ cs) h = (omega arith, omega arith, h)

found_piece : (b : ℕ) (after : List ℕ) (t u v w x y : Bool)
    → is_blank b ≡ t → (b == 35) ≡ u → is_word_start b ≡ v → is_ascii_digit b ≡ w → is_pair b after ≡ x → is_sign_byte b ≡ y
    → IsPieceOf (b ∷ after) (found b after)
found_piece b after true u v w x y e f g h i j = rw e (omega arith, omega arith, grind (arith, common_steps))
found_piece b after false true v w x y e f g h i j = rw (e, f) (run_piece None is_not_newline b after (λ bs k. rw (f, k) refl))
found_piece b after false false true w x y e f g h i j = rw (e, f, g) (run_piece (Some Word) is_word_byte b after (λ bs k. rw (g, k) refl))
found_piece b after false false false true x y e f g h i j = rw (e, f, g, h) (run_piece (Some Number) is_ascii_digit b after (λ bs k. rw (h, k) refl))
found_piece b after false false false false true y e f g h i j = rw (e, f, g, h, i) (pair_piece b after i)
found_piece b after false false false false false true e f g h i j = rw (e, f, g, h, i, j) (omega arith, omega arith, j)
found_piece b after false false false false false false e f g h i j = rw (e, f, g, h, i, j) tt

joined : (text : List ℕ) (o : Option Found) → IsPieceOf text o → IsLongest (len_of o) text → IsFirst text o
joined text None p l = l
joined text (Some f) p l = (p.0, p.1, p.2, l)

pub first-found : (b : ℕ) (after : List ℕ) → IsFirst (b ∷ after) (found b after)
first-found b after = joined (b ∷ after) (found b after)
    (found_piece b after (is_blank b) (b == 35) (is_word_start b) (is_ascii_digit b) (is_pair b after) (is_sign_byte b) refl refl refl refl refl refl)
    (λ q rest piece e. longest_of q.kind q.bytes rest b after piece e)

pub none-in-empty : IsFirst [] None
none-in-empty q rest piece e = at_end q.kind q.bytes rest piece e
  where
    at_end : (kind : Option TokenKind) (bs rest : List ℕ) → is_spelled kind bs ≡ true → [] ≡ bs ++ rest → length bs ≤ 0
    at_end kind [] rest piece e = omega arith
    at_end kind (b ∷ bs) rest piece e = cc

pub first-found-in : (text : List ℕ) → 1 ≤ length text → IsFirst text (found (get_or text 0 0) (take (length text - 1) (drop 1 text)))
first-found-in [] h = absurd (omega arith)
first-found-in (b ∷ bs) h = let e : take (length (b ∷ bs) - 1) (drop 1 (b ∷ bs)) ≡ bs = grind (arith, common_steps) in rw e (first-found b bs)
