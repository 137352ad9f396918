-- Which tokens spell which expression, and which spell a number with a sign.
use Rattle.std.specs.Prelude.{◌≡◌, ℤ, pos, ℕ, suc, ◌+◌, ◌≤◌, neg_ℤ, true, List, [], ◌∷◌, ◌++◌, codes}
use Rattle.kom_lang.specs.declared.expr.Binary.{Binary}
use Rattle.kom_system.specs.declared.parts.Spot.{Spot}
use Rattle.kom_system.specs.declared.parts.ExprPart.{ExprPart}
use Rattle.kom_system.specs.declared.parts.ExprPart.TheVariants as e
use Rattle.kom_text.specs.Numbers.{decimal}
use Rattle.kom_parse.specs.Lexemes.{Lexeme, number_lexeme}
use Rattle.kom_grammar.specs.Words.{w, s, is_name, SpellsName, sign_of, level_of}

-- the level of comparisons, which have no chains
abbrev pub comparison : ℕ
comparison = 3

-- the level of `||`, which binds least: an expression is one of this level
abbrev pub whole : ℕ
whole = 5

abbrev pub max_parens : ℕ
max_parens = 64

abbrev pub max_operators : ℕ
max_operators = 32

-- An expression of a level, with parentheses open no deeper than `parens` and with `count`
-- operators. Level 0 has the operands and the unary operators.
pub data SpellsAt : (parens level count : ℕ) → List Lexeme → ExprPart → Type 0 where
  number : {p : ℕ} (a : ℕ) {ds : List ℕ} → SpellsAt p 0 0 (number_lexeme ds a ∷ []) (e.Number (pos (decimal ds)))
  name : {p : ℕ} {t : List Lexeme} {n : Spot} → SpellsName t n → SpellsAt p 0 0 t (e.Name n)
  attribute : {p : ℕ} (a b : ℕ) {t : List Lexeme} {n : Spot} → SpellsName t n → SpellsAt p 0 0 (w (codes "it") a ∷ s (codes ".") b ∷ t) (e.It a n)
  in_parens : {p n : ℕ} (a b : ℕ) {t : List Lexeme} {x : ExprPart} → SpellsAt p whole n t x → SpellsAt (suc p) 0 n (s (codes "(") a ∷ (t ++ s (codes ")") b ∷ [])) x
  negative : {p n : ℕ} (a : ℕ) {t : List Lexeme} {x : ExprPart} → SpellsAt p 0 n t x → SpellsAt p 0 (suc n) (s (codes "-") a ∷ t) (e.Neg x)
  inverse : {p n : ℕ} (a : ℕ) {t : List Lexeme} {x : ExprPart} → SpellsAt p 0 n t x → SpellsAt p 0 (suc n) (s (codes "!") a ∷ t) (e.Not x)
  -- one operand of the level below, and no operator
  alone : {p l n : ℕ} {t : List Lexeme} {x : ExprPart} → SpellsAt p l n t x → SpellsAt p (suc l) n t x
  -- chains group to the left
  chain : {p l n m : ℕ} (a : ℕ) {t u : List Lexeme} {x y : ExprPart} (op : Binary) → level_of op ≡ suc l → (suc l ≡ comparison → ⊥) → SpellsAt p (suc l) n t x → SpellsAt p l m u y
      → SpellsAt p (suc l) (suc (n + m)) (t ++ s (sign_of op) a ∷ u) (e.Pair op x y)
  compare : {p n m : ℕ} (a : ℕ) {t u : List Lexeme} {x y : ExprPart} (op : Binary) → level_of op ≡ comparison → SpellsAt p 2 n t x → SpellsAt p 2 m u y
      → SpellsAt p comparison (suc (n + m)) (t ++ s (sign_of op) a ∷ u) (e.Pair op x y)

abbrev pub SpellsExpr : List Lexeme → ExprPart → Type 0
SpellsExpr t x = (n : ℕ) × (n ≤ max_operators) × SpellsAt max_parens whole n t x

-- a number of a declaration
pub data SpellsInt : List Lexeme → ℤ → Type 0 where
  plain : (a : ℕ) {ds : List ℕ} → SpellsInt (number_lexeme ds a ∷ []) (pos (decimal ds))
  minus : (a b : ℕ) {ds : List ℕ} → SpellsInt (s (codes "-") a ∷ number_lexeme ds b ∷ []) (neg_ℤ (pos (decimal ds)))
