-- How expressions are read from left to right, a function for each method. The value of a rule is
-- the tree, and how many operators may still come.
use Rattle.std.specs.Prelude.{ℕ, ℤ, neg_ℤ, zero, suc, ◌==◌, Bool, true, false, List, [], ◌∷◌, Option, Some, None, is_some, codes, option_and_then, if◌then◌else◌}
use Rattle.kom_lang.specs.declared.expr.Binary.{Binary}
use Rattle.kom_lang.specs.declared.expr.Binary.TheVariants as b
use Rattle.kom_system.specs.declared.parts.ExprPart.{ExprPart}
use Rattle.kom_system.specs.declared.parts.ExprPart.TheVariants as e
use Rattle.kom_text.specs.declared.token.TokenKind.TheVariants.{Word, Sign}
use Rattle.kom_parse.specs.Lexemes.{Lexeme}
use Rattle.kom_parse.specs.Input.{Parser, ◌>>=◌, ◌>>◌, pure, refuse, by_next, want, loop}
use Rattle.kom_parse.specs.Rules.{is_exactly, exactly, name, number, number_in, sign_in, eat, by_bytes}
use Rattle.kom_grammar.specs.Words.{is_name, level_of}
use Rattle.kom_grammar.specs.Expressions.{comparison, whole, max_parens, max_operators}
use Rattle.kom_exprs.specs.declared.operators.Unary.{Unary}
use Rattle.kom_exprs.specs.declared.operators.Unary.TheVariants as u

-- ---- operators

abbrev pub unary_sign : Unary → List ℕ
unary_sign u.Neg = codes "-"
unary_sign u.Not = codes "!"

abbrev pub with_unary : Unary → ExprPart → ExprPart
with_unary u.Neg x = e.Neg x
with_unary u.Not x = e.Not x

abbrev pub unary_signs : List (List ℕ × Unary)
unary_signs = (codes "-", u.Neg) ∷ (codes "!", u.Not) ∷ []

abbrev pub binary_signs : List (List ℕ × Binary)
binary_signs =
    (codes "||", b.Or) ∷ (codes "&&", b.And) ∷ (codes "==", b.Eq) ∷ (codes "!=", b.Ne) ∷ (codes "<", b.Lt) ∷ (codes "<=", b.Le) ∷ (codes ">", b.Gt)
    ∷ (codes ">=", b.Ge) ∷ (codes "+", b.Add) ∷ (codes "-", b.Sub) ∷ (codes "*", b.Mul) ∷ (codes "/", b.Div) ∷ (codes "%", b.Rem) ∷ []

abbrev pub unary_of : List ℕ → Option Unary
unary_of bytes = by_bytes bytes unary_signs

abbrev pub binary_of : List ℕ → Option Binary
binary_of bytes = by_bytes bytes binary_signs

abbrev pub of_level : ℕ → Option Binary → Option Binary
of_level l None = None
of_level l (Some op) = if level_of op == l then Some op else None

-- the operator of a level, where it is the next token
abbrev pub operator_in : ℕ → Option Lexeme → Option Binary
operator_in l o = option_and_then (λ bytes. of_level l (binary_of bytes)) (sign_in o)

abbrev pub unary_in : Option Lexeme → Option Unary
unary_in o = option_and_then unary_of (sign_in o)

-- ---- rules

abbrev pub Found : Type 0
Found = ExprPart × ℕ

unfoldable pub operator : ℕ → Parser Binary
operator l = want (operator_in l)

unfoldable pub unary_operator : Parser Unary
unary_operator = want unary_in

unfoldable pub attribute : Parser ExprPart
attribute = do
  a ← exactly Word (codes "it")
  exactly Sign (codes ".")
  n ← name is_name
  pure (e.It a n)

abbrev pub operand_by : Bool → Bool → Parser ExprPart
operand_by true is_it = number >>= (λ n. pure (e.Number n.value))
operand_by false true = attribute
operand_by false false = name is_name >>= (λ n. pure (e.Name n))

-- a number, an attribute of the event or a name
unfoldable pub operand : Parser ExprPart
operand = by_next (λ o. operand_by (is_some (number_in o)) (is_exactly Word (codes "it") o))

module _ (parens : ℕ → Parser Found) where
  abbrev pub term_by : Parser Found → ℕ → Option Lexeme → Parser Found
  term_by inner k o =
      if is_exactly Sign (codes "(") o then parens k
      else (if is_some (unary_in o) then inner else operand >>= (λ x. pure (x, k)))

  unfoldable pub unary : ℕ → Parser Found
  unary zero = by_next (term_by refuse zero)
  unary (suc k) = by_next (term_by (unary_operator >>= (λ op. unary k >>= (λ x. pure (with_unary op x.0, x.1)))) (suc k))

  abbrev pub operation_by : ℕ → (ℕ → Parser Found) → ExprPart → ℕ → Bool → Parser (Option Found)
  operation_by l right x k false = pure None
  operation_by l right x zero true = refuse
  operation_by l right x (suc k) true = operator l >>= (λ op. right k >>= (λ y. pure (Some (e.Pair op x y.0, y.1))))

  -- an operator of the level and its right operand, if one comes
  unfoldable pub operation : ℕ → (ℕ → Parser Found) → Found → Parser (Option Found)
  operation l right x = by_next (λ o. operation_by l right x.0 x.1 (is_some (operator_in l o)))

  abbrev pub after_one : Found → Option Found → Parser Found
  after_one x None = pure x
  after_one x (Some y) = pure y

  unfoldable pub level : ℕ → ℕ → Parser Found
  level zero k = unary k
  level (suc l) k = level l k >>= (λ x.
      if suc l == comparison then operation (suc l) (level l) x >>= after_one x
      else loop (operation (suc l) (level l)) x)

-- with parentheses open no deeper than the first number
unfoldable pub parens_at : ℕ → ℕ → Parser Found
parens_at zero k = refuse
parens_at (suc p) k = do
  exactly Sign (codes "(")
  x ← level (parens_at p) whole k
  exactly Sign (codes ")")
  pure x

unfoldable pub expr : Parser ExprPart
expr = level (parens_at max_parens) whole max_operators >>= (λ x. pure x.0)

abbrev pub int_by : Bool → Parser ℤ
int_by true = number >>= (λ n. pure (neg_ℤ n.value))
int_by false = number >>= (λ n. pure n.value)

-- a number with or without a minus sign
unfoldable pub int : Parser ℤ
int = eat Sign (codes "-") >>= int_by
