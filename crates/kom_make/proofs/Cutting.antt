-- The first word and the first line of a text.
use Rattle.std.proofs.Common.{◌≡◌, ℕ, suc, ◌≤◌, max, Bool, true, false, ◌&&◌, ◌==◌, List, [], ◌∷◌, length, take, drop, refl, ap, ◌∙◌, arith, add_comm, add-one, length-drop}
use Rattle.std.proofs.lemmas.Grind.{common_steps}
use Rattle.kom_make.specs.Texts.{is_word_byte, first_is_word, joined, words, lines}
use Rattle.kom_make.specs.Parts.{run_len, line_len, IsPart, IsLine}

-- a byte stays apart from a part with which it makes no word
alone : (b c : ℕ) (ps : List (List ℕ)) → (is_word_byte b && is_word_byte c) ≡ false → joined b (joined c ps) ≡ (b ∷ []) ∷ joined c ps
alone b c [] h = rw h refl
alone b c (w ∷ ws) h = by_cases (is_word_byte c && first_is_word w) refl
  where
    by_cases : (t : Bool) → (is_word_byte c && first_is_word w) ≡ t → joined b (joined c (w ∷ ws)) ≡ (b ∷ []) ∷ joined c (w ∷ ws)
    by_cases true e = rw e (rw h refl)
    by_cases false e = rw e (rw h refl)

-- two bytes of a word stand in one part
together : (b c : ℕ) (w : List ℕ) (ws : List (List ℕ)) → is_word_byte b ≡ true → is_word_byte c ≡ true → joined b ((c ∷ w) ∷ ws) ≡ (b ∷ c ∷ w) ∷ ws
together b c w ws h k = rw (h, k) refl

-- a whole word
word : (b : ℕ) (bs : List ℕ) → is_word_byte b ≡ true → words (b ∷ bs) ≡ (b ∷ take (run_len bs) bs) ∷ words (drop (run_len bs) bs)
word b [] h = refl
word b (c ∷ cs) h = by_cases (is_word_byte c) refl (word c cs)
  where
    by_cases : (t : Bool) → is_word_byte c ≡ t → (is_word_byte c ≡ true → words (c ∷ cs) ≡ (c ∷ take (run_len cs) cs) ∷ words (drop (run_len cs) cs)) → words (b ∷ c ∷ cs) ≡ (b ∷ take (run_len (c ∷ cs)) (c ∷ cs)) ∷ words (drop (run_len (c ∷ cs)) (c ∷ cs))
    by_cases true e k = rw e (rw (add_comm 1 (run_len cs), add-one) (ap (joined b) (k e) ∙ together b c (take (run_len cs) cs) (words (drop (run_len cs) cs)) h e))
    by_cases false e k = rw e (alone b c (words cs) (rw (h, e) refl))

-- another byte
other : (b : ℕ) (ps : List (List ℕ)) → is_word_byte b ≡ false → joined b ps ≡ (b ∷ []) ∷ ps
other b [] h = refl
other b (w ∷ ws) h = rw h refl

pub part : (text : List ℕ) → 1 ≤ length text → IsPart text (take (max (run_len text) 1) text) (drop (max (run_len text) 1) text)
part [] h = absurd (omega arith)
part (b ∷ bs) h = by_cases (is_word_byte b) refl
  where
    by_cases : (t : Bool) → is_word_byte b ≡ t → IsPart (b ∷ bs) (take (max (run_len (b ∷ bs)) 1) (b ∷ bs)) (drop (max (run_len (b ∷ bs)) 1) (b ∷ bs))
    by_cases true e =
        let n : max (run_len (b ∷ bs)) 1 ≡ suc (run_len bs) = rw e (omega arith) in
        rw n (record { words_are = word b bs e; fewer = omega (arith, length-drop (run_len bs) bs) })
    by_cases false e =
        let n : max (run_len (b ∷ bs)) 1 ≡ 1 = rw e (omega arith) in
        rw n (record { words_are = other b (words bs) e; fewer = omega arith })

line_from : (b : ℕ) (bs : List ℕ) → lines (b ∷ bs) ≡ take (line_len (b ∷ bs)) (b ∷ bs) ∷ lines (drop (line_len (b ∷ bs)) (b ∷ bs))
line_from b [] = by_cases (b == 10) refl
  where
    by_cases : (t : Bool) → (b == 10) ≡ t → lines (b ∷ []) ≡ take (line_len (b ∷ [])) (b ∷ []) ∷ lines (drop (line_len (b ∷ [])) (b ∷ []))
    by_cases true e = rw e refl
    by_cases false e = rw e refl
line_from b (c ∷ cs) = by_cases (b == 10) refl (line_from c cs)
  where
    by_cases : (t : Bool) → (b == 10) ≡ t → lines (c ∷ cs) ≡ take (line_len (c ∷ cs)) (c ∷ cs) ∷ lines (drop (line_len (c ∷ cs)) (c ∷ cs)) → lines (b ∷ c ∷ cs) ≡ take (line_len (b ∷ c ∷ cs)) (b ∷ c ∷ cs) ∷ lines (drop (line_len (b ∷ c ∷ cs)) (b ∷ c ∷ cs))
    by_cases true e k = rw e refl
    by_cases false e k = rw e (rw (add_comm 1 (line_len (c ∷ cs)), add-one) (rw k refl))

line-some : (b : ℕ) (bs : List ℕ) → 1 ≤ line_len (b ∷ bs)
line-some b bs = grind (arith, common_steps)

pub line : (text : List ℕ) → 1 ≤ length text → IsLine text (take (line_len text) text) (drop (line_len text) text)
line [] h = absurd (omega arith)
line (b ∷ bs) h = record { lines_are = line_from b bs; fewer = omega (arith, line-some b bs, length-drop (line_len (b ∷ bs)) (b ∷ bs)) }
