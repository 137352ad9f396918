-- What the readers give is what the grammar says.
use Rattle.std.proofs.Common.{◌≡◌, Bool, List, [], Result}
use Rattle.std.proofs.lemmas.List.{append-nil}
use Rattle.kom_system.specs.declared.parts.Spot.{Spot}
use Rattle.kom_system.specs.declared.parts.ExprPart.{ExprPart}
use Rattle.kom_system.specs.declared.parts.TargetPart.{TargetPart}
use Rattle.kom_system.specs.declared.parts.StmtPart.{StmtPart}
use Rattle.kom_parse.specs.declared.stop.Stop.{Stop}
use Rattle.kom_parse.specs.Lexemes.{Lexeme}
use Rattle.kom_parse.specs.Input.{Read, Reads}
use Rattle.kom_parse.specs.Rules.{name, in_parens}
use Rattle.kom_parse.specs.Spelled.{SpellsParens}
use Rattle.kom_parse.proofs.ListLaws.{parens_reader}
use Rattle.kom_grammar.specs.Words.{is_name, SpellsName}
use Rattle.kom_grammar.specs.Expressions.{SpellsExpr}
use Rattle.kom_exprs.specs.Reading.{expr}
use Rattle.kom_exprs.proofs.ExprReads.{expr_reader}
use Rattle.kom_exprs.proofs.NameLaws.{name_reader}
use Rattle.kom_parse.specs.Answers.{IsAnswer}
use Rattle.kom_parse.proofs.Exact.{exact}
use Rattle.kom_grammar.specs.Statements.{SpellsTarget, SpellsBlock, max_blocks}
use Rattle.kom_stmts.specs.Reading.{target, block}
use Rattle.kom_stmts.proofs.StmtReads.{target_reader, blocks_reader}
use Rattle.kom_stmts.proofs.StmtWhole.{names_whole, exprs_whole, target_whole, block_whole}

-- to the end
block_to_end : (two : Bool) (t : List Lexeme) (xs : List StmtPart) → SpellsBlock two max_blocks t xs → block two max_blocks t ≡ Read xs []
block_to_end two t xs d = let e = block_whole d [] in rw append-nil at e

pub block_exact : (two : Bool) (tokens : List Lexeme) (r : Result (List StmtPart) Stop) (rest : List Lexeme) → Reads (block two max_blocks tokens) r rest
    → IsAnswer (SpellsBlock two max_blocks) tokens r rest
block_exact two tokens r rest e = exact (block two max_blocks) (SpellsBlock two max_blocks) (blocks_reader two 15) (block_to_end two) tokens r rest e

target_to_end : (t : List Lexeme) (p : TargetPart) → SpellsTarget t p → target t ≡ Read p []
target_to_end t p d = let e = target_whole d [] in rw append-nil at e

pub target_exact : (tokens : List Lexeme) (r : Result TargetPart Stop) (rest : List Lexeme) → Reads (target tokens) r rest → IsAnswer SpellsTarget tokens r rest
target_exact tokens r rest e = exact target SpellsTarget target_reader target_to_end tokens r rest e

names_to_end : (t : List Lexeme) (ns : List Spot) → SpellsParens SpellsName t ns → in_parens (name is_name) t ≡ Read ns []
names_to_end t ns d = let e = names_whole d [] in rw append-nil at e

pub names_exact : (tokens : List Lexeme) (r : Result (List Spot) Stop) (rest : List Lexeme) → Reads (in_parens (name is_name) tokens) r rest → IsAnswer (SpellsParens SpellsName) tokens r rest
names_exact tokens r rest e = exact (in_parens (name is_name)) (SpellsParens SpellsName) (parens_reader (name is_name) SpellsName name_reader) names_to_end tokens r rest e

exprs_to_end : (t : List Lexeme) (xs : List ExprPart) → SpellsParens SpellsExpr t xs → in_parens expr t ≡ Read xs []
exprs_to_end t xs d = let e = exprs_whole d [] in rw append-nil at e

pub exprs_exact : (tokens : List Lexeme) (r : Result (List ExprPart) Stop) (rest : List Lexeme) → Reads (in_parens expr tokens) r rest → IsAnswer (SpellsParens SpellsExpr) tokens r rest
exprs_exact tokens r rest e = exact (in_parens expr) (SpellsParens SpellsExpr) (parens_reader expr SpellsExpr expr_reader) exprs_to_end tokens r rest e
