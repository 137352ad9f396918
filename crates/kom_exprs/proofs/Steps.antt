-- What the reader's own tests say of the operators.
use Rattle.std.proofs.Common.{◌≡◌, ℕ, Bool, true, false, List, Option, Some, None, Ok}
use Rattle.kom_lang.specs.declared.expr.Binary.{Binary}
use Rattle.kom_parse.specs.Lexemes.{Lexeme}
use Rattle.kom_parse.specs.Input.{Outcome, Read, Refuse, first, rest, ReadsTurn}
use Rattle.kom_parse.proofs.Steps.{want_found, want_missing}
use Rattle.kom_exprs.specs.declared.operators.Unary.{Unary}
use Rattle.kom_exprs.specs.Reading.{operator_in, unary_in, operator, unary_operator}

pub operator_found : (l : ℕ) (ts : List Lexeme) (op : Binary) → operator_in l (first ts) ≡ Some op → operator l ts ≡ Read op (rest ts)
unfolding operator
operator_found l ts op e = want_found (operator_in l) op ts e

pub operator_missing : (l : ℕ) (ts : List Lexeme) → operator_in l (first ts) ≡ None → operator l ts ≡ Refuse ts
unfolding operator
operator_missing l ts e = want_missing (operator_in l) ts e

pub unary_found : (ts : List Lexeme) (op : Unary) → unary_in (first ts) ≡ Some op → unary_operator ts ≡ Read op (rest ts)
unfolding unary_operator
unary_found ts op e = want_found unary_in op ts e

pub unary_missing : (ts : List Lexeme) → unary_in (first ts) ≡ None → unary_operator ts ≡ Refuse ts
unfolding unary_operator
unary_missing ts e = want_missing unary_in ts e

pub turn_ends : {A : Type 0} (o : Outcome (Option (A × ℕ))) (old : A × ℕ) (a : A) (k : ℕ) (new : List Lexeme) (more : Bool) → more ≡ false → ReadsTurn o old (Ok (a, more)) k new
    → (o ≡ Read None new) × (old ≡ (a, k))
turn_ends o old a k new true e r = absurd cc
turn_ends o old a k new false e r = r

pub turn_goes : {A : Type 0} (o : Outcome (Option (A × ℕ))) (old : A × ℕ) (a : A) (k : ℕ) (new : List Lexeme) (more : Bool) → more ≡ true → ReadsTurn o old (Ok (a, more)) k new
    → o ≡ Read (Some (a, k)) new
turn_goes o old a k new true e r = r
turn_goes o old a k new false e r = absurd cc
