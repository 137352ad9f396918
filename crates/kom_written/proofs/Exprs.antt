-- Expressions are spelled again by the tokens with which they are written.
use Rattle.std.proofs.Common.{◌≡◌, ℕ, pos, zero, suc, ◌+◌, ◌≤◌, true, List, [], ◌∷◌, ◌++◌, refl, ap, ◌∙◌, arith}
use Rattle.std.specs.Prelude.{codes}
use Rattle.std.specs.List.{list_all}
use Rattle.std.specs.Fmt as fmt
use Rattle.kom_lang.specs.declared.expr.Binary.{Binary}
use Rattle.kom_lang.specs.declared.expr.Binary.TheVariants as op
use Rattle.kom_system.specs.declared.parts.Spot.{Spot}
use Rattle.kom_system.specs.declared.parts.ExprPart.{ExprPart}
use Rattle.kom_system.specs.declared.parts.ExprPart.TheVariants as e
use Rattle.kom_text.specs.Numbers.{decimal}
use Rattle.kom_parse.specs.Lexemes.{Lexeme}
use Rattle.kom_grammar.specs.Words.{s, SpellsName, name, sign_of}
use Rattle.kom_grammar.specs.Expressions as g
use Rattle.kom_grammar.specs.Expressions.{SpellsAt, SpellsExpr, whole, comparison, max_parens, max_operators}
use Rattle.kom_rules.specs.Compute.{computing}
use Rattle.kom_spaced.specs.Spaced.{can_stand, placed}
use Rattle.kom_written.specs.Unplaced.{expr_part}
use Rattle.kom_written.specs.Tokens.{word, sign, expr_tokens}
use Rattle.kom_written.specs.Again.{AreSound, IsAgain}
use Rattle.kom_written.proofs.Steps.{behind, placed-append, both, stand-append, sound-left, sound-right, named, at_place, number_stands, small}

-- an operand is an expression of every level
lifted : (l : ℕ) {p n : ℕ} {t : List Lexeme} {x : ExprPart} → SpellsAt p 0 n t x → SpellsAt p l n t x
lifted zero d = d
lifted (suc l) d = g.alone (lifted l d)

-- an operand with so many operators, in at least as many parentheses
abbrev Operand : ℕ → ℕ → List Lexeme → ExprPart → Type 0
Operand q n t x = SpellsAt q 0 n t x

abbrev OfExpr : ℕ → ExprPart → Type 0
OfExpr n x = (list_all can_stand (expr_tokens x) ≡ true) × ((q : ℕ) → n ≤ q → (at : ℕ) → (y : ExprPart) × Operand q n (placed at (expr_tokens x)) y × (expr_part y ≡ expr_part x))

number_again : (n : ℕ) → n ≤ 9223372036854775807 → OfExpr 0 (e.Number (pos n))
unfolding computing
number_again n h =
    let k = number_stands n h in
    (both (k.0) refl, λ q less at. (e.Number (pos (decimal (fmt.decimal n))), g.number at, ap (λ m. e.Number (pos m)) k.1))

name_part_again : {t : List Lexeme} {n : Spot} → SpellsName t n → AreSound t → OfExpr 0 (e.Name n)
unfolding computing
name_part_again {n = n} d sound = let c = named d sound in (both (c.stands) refl, λ q less at. (e.Name (at_place n at), g.name (name at c.name), refl))

it_again : (a : ℕ) {t : List Lexeme} {n : Spot} → SpellsName t n → AreSound t → OfExpr 0 (e.It a n)
unfolding computing
it_again a {n = n} d sound =
    let c = named d sound in
    (both (c.stands) refl, λ q less at. (e.It at (at_place n (behind at (word (codes "it") ∷ sign (codes ".") ∷ []))), g.attribute at _ (name _ c.name), refl))

neg_again : (n : ℕ) (x : ExprPart) → OfExpr n x → OfExpr (suc n) (e.Neg x)
unfolding computing
neg_again n x h = (stand-append (expr_tokens x) (sign (codes ")") ∷ []) h.0 refl, again)
  where
    again : (q : ℕ) → suc n ≤ q → (at : ℕ) → (y : ExprPart) × Operand q (suc n) (placed at (expr_tokens (e.Neg x))) y × (expr_part y ≡ expr_part (e.Neg x))
    again zero less at = absurd (omega arith)
    again (suc q) less at =
        let r = h.1 q (omega arith) (behind at (sign (codes "(") ∷ sign (codes "-") ∷ [])) in
        (e.Neg r.0, rw placed-append (g.in_parens at _ (lifted whole {p = q} {n = suc n} (g.negative _ r.1))), ap e.Neg r.2)

not_again : (n : ℕ) (x : ExprPart) → OfExpr n x → OfExpr (suc n) (e.Not x)
unfolding computing
not_again n x h = (stand-append (expr_tokens x) (sign (codes ")") ∷ []) h.0 refl, again)
  where
    again : (q : ℕ) → suc n ≤ q → (at : ℕ) → (y : ExprPart) × Operand q (suc n) (placed at (expr_tokens (e.Not x))) y × (expr_part y ≡ expr_part (e.Not x))
    again zero less at = absurd (omega arith)
    again (suc q) less at =
        let r = h.1 q (omega arith) (behind at (sign (codes "(") ∷ sign (codes "!") ∷ [])) in
        (e.Not r.0, rw placed-append (g.in_parens at _ (lifted whole {p = q} {n = suc n} (g.inverse _ r.1))), ap e.Not r.2)

-- an operator between two operands
paired : (b : Binary) {p n m : ℕ} (a : ℕ) {t u : List Lexeme} {x y : ExprPart} → SpellsAt p 0 n t x → SpellsAt p 0 m u y → SpellsAt p whole (suc (n + m)) (t ++ s (sign_of b) a ∷ u) (e.Pair b x y)
paired op.Or a d f = g.chain a op.Or refl (λ h. absurd cc) (lifted 5 d) (lifted 4 f)
paired op.And a d f = g.alone (g.chain a op.And refl (λ h. absurd cc) (lifted 4 d) (lifted 3 f))
paired op.Eq a d f = g.alone (g.alone (g.compare a op.Eq refl (lifted 2 d) (lifted 2 f)))
paired op.Ne a d f = g.alone (g.alone (g.compare a op.Ne refl (lifted 2 d) (lifted 2 f)))
paired op.Lt a d f = g.alone (g.alone (g.compare a op.Lt refl (lifted 2 d) (lifted 2 f)))
paired op.Le a d f = g.alone (g.alone (g.compare a op.Le refl (lifted 2 d) (lifted 2 f)))
paired op.Gt a d f = g.alone (g.alone (g.compare a op.Gt refl (lifted 2 d) (lifted 2 f)))
paired op.Ge a d f = g.alone (g.alone (g.compare a op.Ge refl (lifted 2 d) (lifted 2 f)))
paired op.Add a d f = g.alone (g.alone (g.alone (g.chain a op.Add refl (λ h. absurd cc) (lifted 2 d) (lifted 1 f))))
paired op.Sub a d f = g.alone (g.alone (g.alone (g.chain a op.Sub refl (λ h. absurd cc) (lifted 2 d) (lifted 1 f))))
paired op.Mul a d f = g.alone (g.alone (g.alone (g.alone (g.chain a op.Mul refl (λ h. absurd cc) (lifted 1 d) f))))
paired op.Div a d f = g.alone (g.alone (g.alone (g.alone (g.chain a op.Div refl (λ h. absurd cc) (lifted 1 d) f))))
paired op.Rem a d f = g.alone (g.alone (g.alone (g.alone (g.chain a op.Rem refl (λ h. absurd cc) (lifted 1 d) f))))

sign_stands : (b : Binary) → can_stand (sign (sign_of b)) ≡ true
sign_stands op.Or = refl
sign_stands op.And = refl
sign_stands _ = refl

pair_again : (b : Binary) (n m : ℕ) (x y : ExprPart) → OfExpr n x → OfExpr m y → OfExpr (suc (n + m)) (e.Pair b x y)
unfolding computing
pair_again b n m x y h k = (
  stand-append (expr_tokens x ++ sign (sign_of b) ∷ expr_tokens y) (sign (codes ")") ∷ [])
      (stand-append (expr_tokens x) (sign (sign_of b) ∷ expr_tokens y) h.0 (both (sign_stands b) k.0)) refl,
  again,
)
  where
    again : (q : ℕ) → suc (n + m) ≤ q → (at : ℕ) → (z : ExprPart) × Operand q (suc (n + m)) (placed at (expr_tokens (e.Pair b x y))) z × (expr_part z ≡ expr_part (e.Pair b x y))
    again zero less at = absurd (omega arith)
    again (suc q) less at =
        let a : ℕ = behind at (sign (codes "(") ∷ []) in
        let r = h.1 q (omega arith) a in
        let o : ℕ = behind a (expr_tokens x) in
        let r' = k.1 q (omega arith) (behind o (sign (sign_of b) ∷ [])) in (
          e.Pair b r.0 r'.0,
          rw (placed-append a (expr_tokens x ++ sign (sign_of b) ∷ expr_tokens y) (sign (codes ")") ∷ []))
              (rw (placed-append a (expr_tokens x) (sign (sign_of b) ∷ expr_tokens y))
              (g.in_parens at _ (paired b {p = q} {n = n} {m = m} o r.1 r'.1))),
          ap (λ z. e.Pair b z (expr_part r'.0)) r.2 ∙ ap (λ z. e.Pair b (expr_part x) z) r'.2,
        )

operand_again : {p l n : ℕ} {t : List Lexeme} {x : ExprPart} → SpellsAt p l n t x → AreSound t → OfExpr n x
operand_again (g.number a {ds = ds}) sound = number_again (decimal ds) (small ds a sound.0)
operand_again (g.name d) sound = name_part_again d sound
operand_again (g.attribute a b d) sound = it_again a d sound.1.1
operand_again (g.in_parens a b {t = t} d) sound = operand_again d (sound-left t _ sound.1)
operand_again (g.negative {n = n} a {x = x} d) sound = neg_again n x (operand_again d sound.1)
operand_again (g.inverse {n = n} a {x = x} d) sound = not_again n x (operand_again d sound.1)
operand_again (g.alone d) sound = operand_again d sound
operand_again (g.chain {n = n} {m = m} a {t = t} {x = x} {y = y} b h k d f) sound = pair_again b n m x y (operand_again d (sound-left t _ sound)) (operand_again f (sound-right t _ sound).1)
operand_again (g.compare {n = n} {m = m} a {t = t} {x = x} {y = y} b h d f) sound = pair_again b n m x y (operand_again d (sound-left t _ sound)) (operand_again f (sound-right t _ sound).1)

pub expr_again : (t : List Lexeme) (x : ExprPart) → SpellsExpr t x → AreSound t → IsAgain SpellsExpr expr_part (expr_tokens x) x
expr_again t x d sound =
    let h = operand_again d.2 sound in
    record {
      stand = h.0;
      spell = λ at. (let r = h.1 max_parens (omega (arith, d.1)) at in (r.0, (d.0, d.1, lifted whole r.1), r.2));
    }
