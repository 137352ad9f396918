-- The text of tokens one after another, and of lists.
use Rattle.std.proofs.Common.{◌≡◌, ℕ, ℤ, pos, negsuc, zero, suc, ◌+◌, Bool, true, false, List, [], ◌∷◌, ◌++◌, map, length, refl, sym, ap, ◌∙◌, arith, append_assoc}
use Rattle.std.specs.Prelude.{codes, int_lt}
use Rattle.std.specs.List.{flat_map, enumerate_from}
use Rattle.std.specs.Fmt.{decimal}
use Rattle.std.proofs.lemmas.Grind.{common_steps}
use Rattle.kom_record.specs.Trace.{Text}
use Rattle.kom_sysprint.specs.Canonical as text
use Rattle.kom_sysprint.specs.Canonical.{between}
use Rattle.kom_spaced.specs.Spaced.{Written, text_of}
use Rattle.kom_written.proofs.Rows.{Each}
use Rattle.kom_written.specs.Tokens.{word, sign, number, integer, more, separated, with_commas}

pub text-append : (xs ys : List Written) → text_of (xs ++ ys) ≡ text_of xs ++ text_of ys
text-append [] ys = refl
text-append (x ∷ xs) ys = ap (λ t. x.bytes ++ x.behind ∷ t) (text-append xs ys) ∙ sym (append_assoc x.bytes (x.behind ∷ text_of xs) (text_of ys))

pub word_spelled : (n : Text) → text.word n ≡ text_of (word n ∷ [])
word_spelled n = refl

pub integer_spelled : (i : ℤ) → text.integer i ≡ text_of (integer i)
integer_spelled (pos n) = rw (not_negative n) refl where
  not_negative : (n : ℕ) → int_lt (pos n) (pos 0) ≡ false
  not_negative n = grind (arith, common_steps)
integer_spelled (negsuc n) = refl

-- ---- rows

pub each_all : {A : Type 0} (Q : A → Type 0) → ((x : A) → Q x) → (xs : List A) → Each Q xs
each_all Q h [] = tt
each_all Q h (x ∷ xs) = (h x, each_all Q h xs)

pub row_spelled : {X Y : Type 0} (value : X → Y) (f : Y → Text) (g : X → List Written) (xs : List X) → Each (λ x. f (value x) ≡ text_of (g x)) xs → flat_map f (map value xs) ≡ text_of (flat_map g xs)
row_spelled value f g [] h = refl
row_spelled value f g (x ∷ xs) h = ap (λ t. t ++ flat_map f (map value xs)) h.0 ∙ ap (λ t. text_of (g x) ++ t) (row_spelled value f g xs h.1) ∙ sym (text-append (g x) (flat_map g xs))

-- ---- lists with a token between their items

module _ {X Y : Type 0} (value : X → Y) (f : Y → Text) (g : X → List Written) (t : Text) (token : Written) (same : t ≡ text_of (token ∷ [])) where
  abbrev item : ℕ × Y → Text
  item p = between t p.0 ++ f p.1

  more_spelled : (xs : List X) (k : ℕ) → Each (λ x. f (value x) ≡ text_of (g x)) xs → flat_map item (enumerate_from (k + 1) (map value xs)) ≡ text_of (more token g xs)
  more_spelled [] k h = refl
  more_spelled (x ∷ xs) k h =
      let R : Text = flat_map item (enumerate_from (k + 1 + 1) (map value xs)) in
      let M : List Written = more token g xs in
      let one : k + 1 ≡ suc k = omega arith in
      let b : between t (k + 1) ≡ text_of (token ∷ []) = ap (between t) one ∙ same in
      ap (λ u. (u ++ f (value x)) ++ R) b ∙ ap (λ u. (text_of (token ∷ []) ++ u) ++ R) h.0 ∙ ap (λ u. (text_of (token ∷ []) ++ text_of (g x)) ++ u) (more_spelled xs (k + 1) h.1)
      ∙ ap (λ u. u ++ text_of M) (sym (text-append (token ∷ []) (g x))) ∙ sym (text-append (token ∷ g x) M)

  pub separated_spelled : (xs : List X) → Each (λ x. f (value x) ≡ text_of (g x)) xs → flat_map item (enumerate_from 0 (map value xs)) ≡ text_of (separated token g xs)
  separated_spelled [] h = refl
  separated_spelled (x ∷ xs) h =
      ap (λ u. u ++ flat_map item (enumerate_from 1 (map value xs))) h.0 ∙ ap (λ u. text_of (g x) ++ u) (more_spelled xs 0 h.1) ∙ sym (text-append (g x) (more token g xs))

pub list_spelled : {X Y : Type 0} (value : X → Y) (f : Y → Text) (g : X → List Written) (xs : List X) → Each (λ x. f (value x) ≡ text_of (g x)) xs → text.separated (codes ", ") f (map value xs) ≡ text_of (with_commas g xs)
list_spelled value f g xs h = separated_spelled value f g (codes ", ") (sign (codes ",")) refl xs h
