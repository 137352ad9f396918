-- What the methods for statements and blocks need of the rules.
use Rattle.std.proofs.Common.{◌≡◌, ℕ, zero, suc, ◌-◌, ◌<◌, Bool, true, false, List, [], length, Option, Result, refl, sym, ◌∙◌, subst, sub-one}
use Rattle.std.specs.Prelude.{codes}
use Rattle.kom_system.specs.declared.parts.StmtPart.{StmtPart}
use Rattle.kom_text.specs.declared.token.TokenKind.TheVariants.{Sign}
use Rattle.kom_parse.specs.declared.stop.Stop.{Stop}
use Rattle.kom_parse.specs.Lexemes.{Lexeme}
use Rattle.kom_parse.specs.Input.{Read, Refuse, Reads, first, may}
use Rattle.kom_parse.specs.Rules.{exactly, word_among, onto}
use Rattle.kom_parse.proofs.RowLaws.{row_end, row_stuck, row_goes, row_shorter}
use Rattle.kom_grammar.specs.Statements as g
use Rattle.kom_grammar.specs.Statements.{SpellsStmt, SpellsStmts}
use Rattle.kom_stmts.specs.declared.keywords.Keyword.{Keyword}
use Rattle.kom_stmts.specs.Reading.{keywords, stmt_by, stmt_with, ends_block, block_of, stmt, block, block_rest}
use Rattle.kom_stmts.proofs.StmtReads.{stmt_reader, some_tokens}

pub stmt_is : (two : Bool) (levels : ℕ) (ts : List Lexeme) → stmt two levels ts ≡ stmt_with (block two levels) two levels ts
unfolding stmt block
stmt_is two zero ts = refl
stmt_is two (suc levels) ts = refl

-- what comes behind the keyword, or behind none
pub stmt_goes : (two : Bool) (levels : ℕ) (ts after : List Lexeme) (o : Option Keyword) → may (word_among (keywords levels)) ts ≡ Read o after
    → stmt two levels ts ≡ stmt_by (block two levels) two o after
unfolding stmt_with
stmt_goes two levels ts after o e = stmt_is two levels ts ∙ rw e refl

pub block_starts : (two : Bool) (levels : ℕ) (ts after : List Lexeme) (a : ℕ) → (levels ≡ 0 → ⊥) → exactly Sign (codes "{") ts ≡ Read a after → block two levels ts ≡ block_rest two (levels - 1) [] after
unfolding block block_of block_rest
block_starts two zero ts after a some e = absurd (some refl)
block_starts two (suc k) ts after a some e = rw (sub-one, e) refl

pub block_not_open : (two : Bool) (levels : ℕ) (ts after : List Lexeme) → (levels ≡ 0 → ⊥) → exactly Sign (codes "{") ts ≡ Refuse after → block two levels ts ≡ Refuse after
unfolding block block_of
block_not_open two zero ts after some e = absurd (some refl)
block_not_open two (suc k) ts after some e = rw e refl

module _ (two : Bool) (k : ℕ) where
  pub rest_goes : (xs : List StmtPart) (x : StmtPart) (ts after : List Lexeme) → ends_block (first ts) ≡ false → stmt two k ts ≡ Read x after → block_rest two k xs ts ≡ block_rest two k (onto xs x) after
  unfolding block_rest
  rest_goes xs x ts after e e' =
      rw (row_goes ends_block (stmt two k) onto (SpellsStmt two k) (SpellsStmts two k) g.no_stmts (λ t ts x xs d ds. g.stmts d ds) (some_tokens two k) (stmt_reader two k) xs x ts after e e') refl

  pub rest_shorter : (x : StmtPart) (ts after : List Lexeme) → ends_block (first ts) ≡ false → stmt two k ts ≡ Read x after → length after < length ts
  rest_shorter x ts after e e' =
      row_shorter ends_block (stmt two k) onto (SpellsStmt two k) (SpellsStmts two k) g.no_stmts (λ t ts x xs d ds. g.stmts d ds) (some_tokens two k) (stmt_reader two k) [] x ts after e e'

  pub rest_refuses : (xs : List StmtPart) (ts after : List Lexeme) → ends_block (first ts) ≡ false → stmt two k ts ≡ Refuse after → block_rest two k xs ts ≡ Refuse after
  unfolding block_rest
  rest_refuses xs ts after e e' = rw (row_stuck ends_block (stmt two k) onto xs ts after e e') refl

  pub rest_ends : (xs : List StmtPart) (ts after : List Lexeme) (a : ℕ) → ends_block (first ts) ≡ true → exactly Sign (codes "}") ts ≡ Read a after → block_rest two k xs ts ≡ Read xs after
  unfolding block_rest
  rest_ends xs ts after a e e' = rw (row_end ends_block (stmt two k) onto xs ts e, e') refl

  pub rest_not_closed : (xs : List StmtPart) (ts after : List Lexeme) → ends_block (first ts) ≡ true → exactly Sign (codes "}") ts ≡ Refuse after → block_rest two k xs ts ≡ Refuse after
  unfolding block_rest
  rest_not_closed xs ts after e e' = rw (row_end ends_block (stmt two k) onto xs ts e, e') refl

-- a statement with this keyword, read by its rule
pub stmt_reads : (two : Bool) (levels : ℕ) (ts between : List Lexeme) (o o' : Option Keyword) (r : Result StmtPart Stop) (new : List Lexeme) → o ≡ o' → may (word_among (keywords levels)) ts ≡ Read o between
    → Reads (stmt_by (block two levels) two o' between) r new → Reads (stmt two levels ts) r new
stmt_reads two levels ts between o o' r new is e d =
    subst (λ p. Reads p r new) (sym (stmt_goes two levels ts between o' (subst (λ p. may (word_among (keywords levels)) ts ≡ Read p between) is e))) d
