-- Written tokens one after another.
use Rattle.std.proofs.Common.{◌≡◌, ℕ, ◌+◌, ◌≤◌, Bool, true, false, ◌&&◌, List, [], ◌∷◌, ◌++◌, length, refl, ap, arith}
use Rattle.std.specs.Prelude.{nat_lt}
use Rattle.std.specs.List.{list_all}
use Rattle.std.specs.Fmt as fmt
use Rattle.std.proofs.lemmas.Grind.{common_steps}
use Rattle.kom_system.specs.declared.parts.Spot.{Spot}
use Rattle.kom_text.specs.Pieces.{is_word}
use Rattle.kom_text.specs.Numbers.{decimal, greatest}
use Rattle.kom_parse.specs.Lexemes.{Lexeme, number_lexeme}
use Rattle.kom_grammar.specs.Words.{is_name, SpellsName, name}
use Rattle.kom_spaced.specs.Spaced.{Written, can_stand, placed}
use Rattle.kom_written.specs.Unplaced.{spot}
use Rattle.kom_written.specs.Tokens.{word, number, called}
use Rattle.kom_written.specs.Again.{IsSound, AreSound, IsAgain}
use Rattle.kom_written.proofs.Numbers.{reads_again}

-- where written tokens end
abbrev pub behind : ℕ → List Written → ℕ
behind at [] = at
behind at (t ∷ ts) = behind (at + length t.bytes + 1) ts

pub placed-append : (at : ℕ) (xs ys : List Written) → placed at (xs ++ ys) ≡ placed at xs ++ placed (behind at xs) ys
placed-append at [] ys = refl
placed-append at (x ∷ xs) ys = ap (λ ls. record { kind = x.kind; bytes = x.bytes; at = at } ∷ ls) (placed-append (at + length x.bytes + 1) xs ys)

pub both : {a b : Bool} → a ≡ true → b ≡ true → a && b ≡ true
both {a = true} {b = b} h k = k
both {a = false} {b = b} h k = absurd cc

pub stand-append : (xs ys : List Written) → list_all can_stand xs ≡ true → list_all can_stand ys ≡ true → list_all can_stand (xs ++ ys) ≡ true
stand-append [] ys h k = k
stand-append (x ∷ xs) ys h k = by_case (can_stand x) (λ h'. stand-append xs ys h' k) h
  where
    by_case : (b : Bool) → (list_all can_stand xs ≡ true → list_all can_stand (xs ++ ys) ≡ true) → b && list_all can_stand xs ≡ true → b && list_all can_stand (xs ++ ys) ≡ true
    by_case true more h = more h
    by_case false more h = absurd cc

-- ---- tokens of a text

pub sound-left : (xs ys : List Lexeme) → AreSound (xs ++ ys) → AreSound xs
sound-left [] ys s = tt
sound-left (x ∷ xs) ys s = (s.0, sound-left xs ys s.1)

pub sound-right : (xs ys : List Lexeme) → AreSound (xs ++ ys) → AreSound ys
sound-right [] ys s = s
sound-right (x ∷ xs) ys s = sound-right xs ys s.1

-- a name that can be written
pub record CanBeNamed (n : Spot) : Type 0 where
  pub name : is_name n.name ≡ true
  pub stands : can_stand (called n) ≡ true

word_stands : (bytes : List ℕ) → is_word bytes ≡ true → can_stand (word bytes) ≡ true
word_stands bytes h = rw h refl

pub named : {t : List Lexeme} {n : Spot} → SpellsName t n → AreSound t → CanBeNamed n
named (name {bytes = bytes} a h) s = record { name = h; stands = word_stands bytes s.0.spelled }

-- a name at a place
abbrev pub at_place : Spot → ℕ → Spot
at_place n a = record { name = n.name; at = a }

pub name_again : {t : List Lexeme} {n : Spot} → SpellsName t n → AreSound t → IsAgain SpellsName spot (called n ∷ []) n
name_again {n = n} d s = let c = named d s in record { stand = both (c.stands) refl; spell = λ at. (at_place n at, name at c.name, refl) }

-- ---- numbers

not_big : (n : ℕ) → n ≤ greatest → nat_lt greatest n ≡ false
not_big n h = grind (arith, common_steps)

pub number_stands : (n : ℕ) → n ≤ greatest → (can_stand (number n) ≡ true) × (decimal (fmt.decimal n) ≡ n)
number_stands n h =
    let r = reads_again n (omega arith) in
    (rw (r.0) (rw (r.1) (rw (not_big n h) refl)), r.1)

pub small : (ds : List ℕ) (a : ℕ) → IsSound (number_lexeme ds a) → decimal ds ≤ greatest
small ds a s = by_case (nat_lt greatest (decimal ds)) refl s.small
  where
    by_case : (b : Bool) → nat_lt greatest (decimal ds) ≡ b → b ≡ false → decimal ds ≤ greatest
    by_case true e h = absurd cc
    by_case false e h = grind (arith, common_steps)
