-- What the readers of expressions and numbers give is what the grammar says.
use Rattle.std.proofs.Common.{◌≡◌, ℤ, List, [], Result, refl}
use Rattle.std.proofs.lemmas.List.{append-nil}
use Rattle.kom_system.specs.declared.parts.ExprPart.{ExprPart}
use Rattle.kom_parse.specs.declared.stop.Stop.{Stop}
use Rattle.kom_parse.specs.Lexemes.{Lexeme}
use Rattle.kom_parse.specs.Input.{Read, Reads}
use Rattle.kom_parse.specs.Answers.{IsAnswer}
use Rattle.kom_parse.proofs.Exact.{exact}
use Rattle.kom_grammar.specs.Expressions.{SpellsExpr, SpellsInt}
use Rattle.kom_exprs.specs.Reading.{expr, int}
use Rattle.kom_exprs.proofs.ExprReads.{expr_reader, int_reader}
use Rattle.kom_exprs.proofs.ExprWhole.{expr_whole, int_whole}

-- to the end
expr_to_end : (t : List Lexeme) (x : ExprPart) → SpellsExpr t x → expr t ≡ Read x []
expr_to_end t x d = let e = expr_whole t x [] d (λ j less. refl) in rw append-nil at e

pub expr_exact : (tokens : List Lexeme) (r : Result ExprPart Stop) (rest : List Lexeme) → Reads (expr tokens) r rest → IsAnswer SpellsExpr tokens r rest
expr_exact tokens r rest e = exact expr SpellsExpr expr_reader expr_to_end tokens r rest e

int_to_end : (t : List Lexeme) (x : ℤ) → SpellsInt t x → int t ≡ Read x []
int_to_end t x d = let e = int_whole t x [] d in rw append-nil at e

pub int_exact : (tokens : List Lexeme) (r : Result ℤ Stop) (rest : List Lexeme) → Reads (int tokens) r rest → IsAnswer SpellsInt tokens r rest
int_exact tokens r rest e = exact int SpellsInt int_reader int_to_end tokens r rest e
