-- What the methods for expressions need of the rules.
use Rattle.std.proofs.Common.{◌≡◌, ◌≢◌, ℕ, zero, suc, ◌-◌, ◌≤◌, ◌<◌, true, false, List, Some, refl, ◌∙◌, arith, sub-one}
use Rattle.std.specs.Prelude.{codes, is_some, Result, Ok, Err}
use Rattle.kom_system.specs.declared.parts.ExprPart.{ExprPart}
use Rattle.kom_parse.specs.declared.stop.Stop.{Stop}
use Rattle.kom_text.specs.declared.token.TokenKind.TheVariants.{Sign}
use Rattle.kom_parse.specs.Lexemes.{Lexeme}
use Rattle.kom_parse.specs.Input.{Read, Parser, Reads, ReadsWithin, and_then, pure, first, loop}
use Rattle.kom_parse.specs.Rules.{is_exactly}
use Rattle.kom_exprs.specs.Reading.{Found, unary_in, operand, unary, operation, level, parens_at}
use Rattle.kom_exprs.proofs.ExprReads.{chain_goes, level_reader, parens_reader}
use Rattle.kom_exprs.proofs.ExprWhole.{level_of_chain}

pub unary_sees_parens : (parens : ℕ → Parser Found) (k : ℕ) (ts : List Lexeme) → is_exactly Sign (codes "(") (first ts) ≡ true → unary parens k ts ≡ parens k ts
unfolding unary
unary_sees_parens parens zero ts e = rw e refl
unary_sees_parens parens (suc k) ts e = rw e refl

unary_is_operand : (parens : ℕ → Parser Found) (k : ℕ) (ts : List Lexeme) → is_exactly Sign (codes "(") (first ts) ≡ false → is_some (unary_in (first ts)) ≡ false
    → unary parens k ts ≡ and_then (operand ts) (λ x. pure (x, k))
unfolding unary
unary_is_operand parens zero ts h u = rw (h, u) refl
unary_is_operand parens (suc k) ts h u = rw (h, u) refl

pub level_goes : (parens : ℕ → Parser Found) (level_number k : ℕ) (ts : List Lexeme) (x : Found) (after : List Lexeme) → (level_number ≡ 0 → ⊥) → level_number ≢ 3 → level parens (level_number - 1) k ts ≡ Read x after
    → level parens level_number k ts ≡ loop (operation parens level_number (level parens (level_number - 1))) x after
level_goes parens zero k ts x after some no_cmp e = absurd (some refl)
level_goes parens (suc h) k ts x after some no_cmp e =
    let e' : level parens h k ts ≡ Read x after = rw sub-one at e in
    rw sub-one (level_of_chain parens h k ts no_cmp ∙ rw e' refl)

pub chain_turns : (p level_number : ℕ) → 0 < level_number → level_number ≤ 5 → level_number ≢ 3 → (x y : Found) (ts after : List Lexeme)
    → operation (parens_at p) level_number (level (parens_at p) (level_number - 1)) x ts ≡ Read (Some y) after
    → loop (operation (parens_at p) level_number (level (parens_at p) (level_number - 1))) x ts ≡ loop (operation (parens_at p) level_number (level (parens_at p) (level_number - 1))) y after
chain_turns p zero less most no_cmp x y ts after e = absurd (omega arith)
chain_turns p (suc h) less most no_cmp x y ts after e =
    let e' : operation (parens_at p) (suc h) (level (parens_at p) h) x ts ≡ Read (Some y) after = rw sub-one at e in
    rw sub-one (chain_goes (parens_at p) p (parens_reader p) (level (parens_at p) h) h (omega arith) no_cmp (level_reader (parens_at p) p (parens_reader p) h (omega arith)) x y ts after e')

-- an operand, where no parenthesis and no unary operator comes
pub unary_takes_operand : (parens : ℕ → Parser Found) (k : ℕ) (ts : List Lexeme) (r : Result ExprPart Stop) (new : List Lexeme)
    → is_exactly Sign (codes "(") (first ts) ≡ false → is_some (unary_in (first ts)) ≡ false → Reads (operand ts) r new → ReadsWithin (unary parens k ts) r k new
unary_takes_operand parens k ts (Ok x) new h u e = rw (unary_is_operand parens k ts h u, e) refl
unary_takes_operand parens k ts (Err stop) new h u e = λ is. rw (unary_is_operand parens k ts h u, e is) refl
