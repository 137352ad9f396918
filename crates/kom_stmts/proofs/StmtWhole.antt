-- What spells a statement is read as it.
use Rattle.std.proofs.Common.{◌≡◌, ℕ, pos, zero, suc, Bool, true, false, ◌&&◌, List, [], ◌∷◌, ◌++◌, Option, Some, None, refl, sym, ◌∙◌, ap, append_assoc}
use Rattle.std.specs.Prelude.{codes, bytes_eq}
use Rattle.std.proofs.lemmas.List.{append-nil}
use Rattle.kom_base.specs.declared.numbers.Dir.{Dir}
use Rattle.kom_base.specs.declared.numbers.Dir.TheVariants.{Plus, Minus}
use Rattle.kom_system.specs.declared.parts.Spot.{Spot}
use Rattle.kom_system.specs.declared.parts.ExprPart.{ExprPart}
use Rattle.kom_system.specs.declared.parts.TargetPart.{TargetPart}
use Rattle.kom_system.specs.declared.parts.StmtPart.{StmtPart}
use Rattle.kom_system.specs.declared.parts.StmtPart.TheVariants as st
use Rattle.kom_text.specs.declared.token.TokenKind.TheVariants.{Word, Sign}
use Rattle.kom_text.specs.Numbers.{decimal}
use Rattle.kom_parse.specs.Lexemes.{Lexeme, number_lexeme}
use Rattle.kom_parse.specs.Input.{Read, first, eat_if, want, loop}
use Rattle.kom_parse.specs.Rules.{name, is_exactly, eat, in_parens, closes, by_bytes, word_among, onto, row_turn}
use Rattle.kom_parse.specs.Spelled.{SpellsParens, parens}
use Rattle.kom_parse.proofs.Laws.{may_takes, may_misses}
use Rattle.kom_parse.proofs.Tokens.{exactly_reads, number_reads, name_reads, by_bytes-is}
use Rattle.kom_parse.proofs.Steps.{eat_missing}
use Rattle.kom_parse.proofs.ListLaws.{parens_whole}
use Rattle.kom_parse.proofs.RowLaws.{row_goes, row_end}
use Rattle.kom_grammar.specs.Words.{w, s, is_name, SpellsName, name as spells_name, end_word}
use Rattle.kom_grammar.specs.Expressions as x
use Rattle.kom_grammar.specs.Expressions.{SpellsAt, SpellsExpr, whole}
use Rattle.kom_grammar.specs.Statements as g
use Rattle.kom_grammar.specs.Statements.{SpellsTarget, SpellsBlock, SpellsStmts, SpellsStmt}
use Rattle.kom_exprs.specs.Reading.{expr}
use Rattle.kom_exprs.proofs.ExprReads.{expr_reader}
use Rattle.kom_exprs.proofs.ExprWhole.{Stops, expr_whole}
use Rattle.kom_exprs.proofs.NameLaws.{name_reader, name_whole, no_keyword}
use Rattle.kom_stmts.specs.declared.keywords.Command.{Command}
use Rattle.kom_stmts.specs.declared.keywords.Command.TheVariants as cmd
use Rattle.kom_stmts.specs.declared.keywords.Keyword.{Keyword}
use Rattle.kom_stmts.specs.declared.keywords.Keyword.TheVariants as key
use Rattle.kom_stmts.specs.Reading.{command_word, keyword_word, keywords, direction, target, value, let_stmt, trigger, answer, from_state, with_args, create, unplug, plug, fail, with_name, command_stmt, set, escalate, named, else_part, if_stmt, while_stmt, stmt_by, ends_block, block_of, stmt, block}
use Rattle.kom_stmts.proofs.StmtReads.{all_keywords, stmt_reader, some_tokens}
use Rattle.kom_stmts.proofs.StmtSteps.{stmt_goes}

-- ---- how texts begin

begins_at : {p l n : ℕ} {t : List Lexeme} {y : ExprPart} → SpellsAt p l n t y → (after : List Lexeme) → closes (first (t ++ after)) ≡ false
begins_at (x.number a) after = refl
begins_at (x.name (spells_name a h)) after = refl
begins_at (x.attribute a b d) after = refl
begins_at (x.in_parens a b d) after = refl
begins_at (x.negative a d) after = refl
begins_at (x.inverse a d) after = refl
begins_at (x.alone d) after = begins_at d after
begins_at (x.chain a {t = t} {u = u} op is no_cmp d d') after = rw append_assoc (begins_at d (s _ a ∷ (u ++ after)))
begins_at (x.compare a {t = t} {u = u} op is d d') after = rw append_assoc (begins_at d (s _ a ∷ (u ++ after)))

begins_expr : (t : List Lexeme) (y : ExprPart) (after : List Lexeme) → SpellsExpr t y → closes (first (t ++ after)) ≡ false
begins_expr t y after d = begins_at d.2 after

pub exprs_whole : {t : List Lexeme} {xs : List ExprPart} → SpellsParens SpellsExpr t xs → (after : List Lexeme) → in_parens expr (t ++ after) ≡ Read xs after
exprs_whole = parens_whole expr SpellsExpr expr_reader (Stops whole) (λ a j less. refl) (λ a j less. refl) expr_whole begins_expr

begins_name : (t : List Lexeme) (n : Spot) (after : List Lexeme) → SpellsName t n → closes (first (t ++ after)) ≡ false
begins_name t n after (spells_name a h) = refl

pub names_whole : {t : List Lexeme} {ns : List Spot} → SpellsParens SpellsName t ns → (after : List Lexeme) → in_parens (name is_name) (t ++ after) ≡ Read ns after
names_whole = parens_whole (name is_name) SpellsName name_reader (λ o. Unit {0}) (λ a. tt) (λ a. tt) (λ t n after d stops. name_whole d after) begins_name

begins_else : {two : Bool} {levels : ℕ} {t : List Lexeme} {y : StmtPart} → SpellsStmt two levels t y → (after : List Lexeme) → is_exactly Word (codes "else") (first (t ++ after)) ≡ false
begins_else (g.set a b (spells_name {bytes = n} c h) d) after = rw (no_keyword n (codes "else") h refl) refl
begins_else _ after = refl

begins_brace : {two : Bool} {levels : ℕ} {t : List Lexeme} {y : StmtPart} → SpellsStmt two levels t y → (after : List Lexeme) → ends_block (first (t ++ after)) ≡ false
begins_brace (g.set a b (spells_name c h) d) after = refl
begins_brace _ after = refl

-- ---- parts of statements

pub direction_whole : (d : Dir) (a : ℕ) (after : List Lexeme) → direction (w (end_word d) a ∷ after) ≡ Read d after
unfolding direction want
direction_whole Plus a after = refl
direction_whole Minus a after = refl

pub target_whole : {t : List Lexeme} {p : TargetPart} → SpellsTarget t p → (after : List Lexeme) → target (t ++ after) ≡ Read p after
unfolding target eat eat_if
target_whole (g.own a b d) after = rw (exactly_reads Sign (codes ".") b, name_whole d after) refl
target_whole (g.child a {u = u} (spells_name {bytes = n} b h) d) after =
    rw (no_keyword n (codes "self") h refl, name_reads is_name n b (s (codes ".") a ∷ (u ++ after)) h, exactly_reads Sign (codes ".") a, name_whole d after) refl

value_whole : (a b : ℕ) (t : List Lexeme) (y : ExprPart) (after : List Lexeme) → SpellsExpr t y → value (s (codes "=") a ∷ (t ++ (s (codes ";") b ∷ after))) ≡ Read y after
unfolding value
value_whole a b t y after d = rw (exactly_reads Sign (codes "=") a, expr_whole t y (s (codes ";") b ∷ after) d (λ j less. refl), exactly_reads Sign (codes ";") b) refl

-- ---- which rule reads

keyword_is : (levels : ℕ) (word : Keyword) (a : ℕ) → by_bytes (keyword_word word) (keywords levels) ≡ Some word → word_among (keywords levels) (Some (w (keyword_word word) a)) ≡ Some word
keyword_is levels word a e = e

stmt_keyword : (two : Bool) (levels : ℕ) (word : Keyword) (a : ℕ) (ts : List Lexeme) → by_bytes (keyword_word word) (keywords levels) ≡ Some word
    → stmt two levels (w (keyword_word word) a ∷ ts) ≡ stmt_by (block two levels) two (Some word) ts
stmt_keyword two levels word a ts e =
    stmt_goes two levels (w (keyword_word word) a ∷ ts) ts (Some word) (may_takes (word_among (keywords levels)) (w (keyword_word word) a) word ts (keyword_is levels word a e))

-- words of statements without blocks come at every level
flat : (levels : ℕ) (word : Keyword) → by_bytes (keyword_word word) (keywords zero) ≡ Some word → by_bytes (keyword_word word) (keywords levels) ≡ Some word
flat zero word e = e
flat (suc levels) key.If e = absurd cc
flat (suc levels) key.While e = absurd cc
flat (suc levels) (key.Command cmd.Start) e = refl
flat (suc levels) (key.Command _) e = refl
flat (suc levels) _ e = refl

reserved_word : (word : Keyword) → is_name (keyword_word word) ≡ false
reserved_word (key.Command cmd.Start) = refl
reserved_word (key.Command _) = refl
reserved_word _ = refl

stmt_named : (two : Bool) (levels : ℕ) (n : List ℕ) (a : ℕ) (ts : List Lexeme) → is_name n ≡ true → stmt two levels (w n a ∷ ts) ≡ named two (w n a ∷ ts)
stmt_named two levels n a ts h =
    stmt_goes two levels (w n a ∷ ts) (w n a ∷ ts) None (may_misses (word_among (keywords levels)) (w n a ∷ ts) (by_case (by_bytes n (keywords levels)) refl)) where
      by_case : (o : Option Keyword) → by_bytes n (keywords levels) ≡ o → by_bytes n (keywords levels) ≡ None
      by_case None e = e
      by_case (Some word) e =
          let both : true ≡ false = sym h ∙ ap is_name (by_bytes-is keyword_word n (keywords levels) word (all_keywords levels) e) ∙ reserved_word word in
          absurd cc

-- ---- statements without blocks

module _ (two : Bool) (levels : ℕ) where
  let_whole : (a b e : ℕ) {t u : List Lexeme} {n : Spot} {y : ExprPart} (after : List Lexeme) → SpellsName t n → SpellsExpr u y
      → stmt two levels (w (codes "let") a ∷ ((t ++ (s (codes "=") b ∷ (u ++ s (codes ";") e ∷ []))) ++ after)) ≡ Read (st.Let n y) after
  unfolding let_stmt
  let_whole a b e {t} {u} {n} {y} after d d' =
      stmt_keyword two levels key.Let a _ (flat levels key.Let refl)
      ∙ rw (append_assoc t (s (codes "=") b ∷ (u ++ s (codes ";") e ∷ [])) after, name_whole d, append_assoc u (s (codes ";") e ∷ []) after, value_whole b e u y after d') refl

  set_whole : (b e : ℕ) {t u : List Lexeme} {n : Spot} {y : ExprPart} (after : List Lexeme) → SpellsName t n → SpellsExpr u y
      → stmt two levels ((t ++ (s (codes "=") b ∷ (u ++ s (codes ";") e ∷ []))) ++ after) ≡ Read (st.Set n y) after
  unfolding named set
  set_whole b e {u = u} {y = y} after (spells_name {bytes = n} a h) d' =
      stmt_named two levels n a _ h
      ∙ rw (name_reads is_name n a _ h, no_answer, no_escalate, append_assoc u (s (codes ";") e ∷ []) after, value_whole b e u y after d') refl where
        no_answer : (bytes_eq n (codes "answer") && false) ≡ false
        no_answer = elim (bytes_eq n (codes "answer")) as (λ b. (b && false) ≡ false) [ true ↦ refl | false ↦ refl ]

        no_escalate : ((two && bytes_eq n (codes "escalate")) && false) ≡ false
        no_escalate = elim (two && bytes_eq n (codes "escalate")) as (λ b. (b && false) ≡ false) [ true ↦ refl | false ↦ refl ]

  trigger_whole : (a d e : ℕ) {t u v : List Lexeme} {n q : Spot} {xs : List ExprPart} (after : List Lexeme) → SpellsName t n → SpellsParens SpellsExpr u xs → SpellsName v q
      → trigger (t ++ (u ++ (w (codes "at") d ∷ (v ++ (s (codes ";") e ∷ after))))) ≡ Read (st.Trigger n xs q) after
  unfolding trigger
  trigger_whole a d e after dn dx dq = rw (name_whole dn, exprs_whole dx, exactly_reads Word (codes "at") d, name_whole dq, exactly_reads Sign (codes ";") e) refl

  answer_whole : (a e : ℕ) {t u : List Lexeme} {n : Spot} {xs : List ExprPart} (after : List Lexeme) → SpellsName t n → SpellsParens SpellsExpr u xs
      → answer a (t ++ (u ++ (s (codes ";") e ∷ after))) ≡ Read (st.Answer a n xs) after
  unfolding answer
  answer_whole a e after dn dx = rw (name_whole dn, exprs_whole dx, exactly_reads Sign (codes ";") e) refl

  create_whole : (b e : ℕ) {t u v : List Lexeme} {n m : Spot} {xs : List ExprPart} (after : List Lexeme) → SpellsName t n → SpellsName u m → SpellsParens SpellsExpr v xs
      → create (t ++ (s (codes ":") b ∷ (u ++ (v ++ (s (codes ";") e ∷ after))))) ≡ Read (st.Create n m xs) after
  unfolding create with_args
  create_whole b e {v = v} after dn dm dx =
      rw (name_whole dn, exactly_reads Sign (codes ":") b, name_whole dm, eat_missing Word (codes "from") (v ++ (s (codes ";") e ∷ after)) (no_from dx)) (rw (exprs_whole dx, exactly_reads Sign (codes ";") e) refl) where
        no_from : {v : List Lexeme} {xs : List ExprPart} → SpellsParens SpellsExpr v xs → is_exactly Word (codes "from") (first (v ++ (s (codes ";") e ∷ after))) ≡ false
        no_from (parens a b d) = refl

  from_state_whole : (b c d e : ℕ) {t u : List Lexeme} {n m : Spot} (after : List Lexeme) → SpellsName t n → SpellsName u m
      → create (t ++ (s (codes ":") b ∷ (u ++ (w (codes "from") c ∷ w (codes "state") d ∷ s (codes ";") e ∷ after)))) ≡ Read (st.CreateFromState n m d) after
  unfolding create from_state eat eat_if
  from_state_whole b c d e after dn dm = rw (name_whole dn, exactly_reads Sign (codes ":") b, name_whole dm) (rw (exactly_reads Word (codes "state") d, exactly_reads Sign (codes ";") e) refl)

  unplug_whole : (b c d : ℕ) {t : List Lexeme} {n : Spot} (end : Dir) (after : List Lexeme) → SpellsName t n
      → unplug (t ++ (s (codes ".") b ∷ w (end_word end) c ∷ s (codes ";") d ∷ after)) ≡ Read (st.Unplug n end) after
  unfolding unplug
  unplug_whole b c d end after dn = rw (name_whole dn, exactly_reads Sign (codes ".") b, direction_whole end c, exactly_reads Sign (codes ";") d) refl

  plug_whole : (b c d e : ℕ) {t u : List Lexeme} {n : Spot} {p : TargetPart} (end : Dir) (after : List Lexeme) → SpellsName t n → SpellsTarget u p
      → plug (t ++ (s (codes ".") b ∷ w (end_word end) c ∷ w (codes "at") d ∷ (u ++ (s (codes ";") e ∷ after)))) ≡ Read (st.Plug n end p) after
  unfolding plug
  plug_whole b c d e end after dn dp =
      rw (name_whole dn, exactly_reads Sign (codes ".") b, direction_whole end c, exactly_reads Word (codes "at") d, target_whole dp, exactly_reads Sign (codes ";") e) refl

  fail_whole : (b e : ℕ) (ds : List ℕ) (after : List Lexeme) → fail (number_lexeme ds b ∷ s (codes ";") e ∷ after) ≡ Read (st.Fail (pos (decimal ds)) b) after
  unfolding fail
  fail_whole b e ds after = rw (number_reads ds b, exactly_reads Sign (codes ";") e) refl

  command_whole : (word : Command) (a b : ℕ) {t : List Lexeme} {n : Spot} (after : List Lexeme) → SpellsName t n
      → stmt two levels (w (command_word word) a ∷ ((t ++ s (codes ";") b ∷ []) ++ after)) ≡ Read (with_name word n) after
  unfolding command_stmt
  command_whole word a b {t} after d =
      stmt_keyword two levels (key.Command word) a _ (flat levels (key.Command word) (known word))
      ∙ rw (append_assoc t (s (codes ";") b ∷ []) after, name_whole d, exactly_reads Sign (codes ";") b) refl where
        known : (word : Command) → by_bytes (command_word word) (keywords zero) ≡ Some (key.Command word)
        known cmd.Start = refl
        known _ = refl

  escalate_whole : (a b : ℕ) (after : List Lexeme) → two ≡ true → stmt two levels (w (codes "escalate") a ∷ s (codes ";") b ∷ after) ≡ Read (st.Escalate a) after
  unfolding named escalate
  escalate_whole a b after is = stmt_named two levels (codes "escalate") a _ refl ∙ rw (name_reads is_name (codes "escalate") a _ refl, is) (rw (exactly_reads Sign (codes ";") b) refl)

  -- what follows `answer` is a name
  answers : (a : ℕ) {t : List Lexeme} {n : Spot} (after : List Lexeme) → SpellsName t n → stmt two levels (w (codes "answer") a ∷ (t ++ after)) ≡ answer a (t ++ after)
  unfolding named
  answers a after (spells_name {bytes = n} b h) = stmt_named two levels (codes "answer") a _ refl ∙ rw (name_reads is_name (codes "answer") a _ refl) refl

-- ---- blocks

-- a block begins with a sign that ends an expression
stops_at_block : {two : Bool} {levels : ℕ} {t : List Lexeme} {xs : List StmtPart} → SpellsBlock two levels t xs → (after : List Lexeme) → Stops whole (first (t ++ after))
stops_at_block (g.block a b d) after j less = refl

-- where no level is left, no block is spelled
no_block : {two : Bool} {t : List Lexeme} {xs : List StmtPart} → SpellsBlock two zero t xs → ⊥
no_block d = elim d [ ]

-- what is known of a block inside
abbrev IsRead : Bool → ℕ → List Lexeme → List StmtPart → Type 0
IsRead two levels t xs = (after : List Lexeme) → block two levels (t ++ after) ≡ Read xs after

module _ (two : Bool) where
  no_else : (levels : ℕ) (after : List Lexeme) → is_exactly Word (codes "else") (first after) ≡ false → else_part (block two levels) after ≡ Read None after
  unfolding else_part
  no_else levels after e = rw (eat_missing Word (codes "else") after e) refl

  an_else : (levels b : ℕ) (t : List Lexeme) (xs : List StmtPart) (after : List Lexeme) → IsRead two levels t xs → else_part (block two levels) (w (codes "else") b ∷ (t ++ after)) ≡ Read (Some xs) after
  unfolding else_part eat eat_if
  an_else levels b t xs after r = rw (r after) refl

  some_level : (levels : ℕ) (word : Keyword) {t : List Lexeme} {xs : List StmtPart} → SpellsBlock two levels t xs → by_bytes (keyword_word word) (keywords 1) ≡ Some word
      → by_bytes (keyword_word word) (keywords levels) ≡ Some word
  some_level zero word d e = absurd (no_block d)
  some_level (suc levels) word d e = e

  if_whole : (levels a : ℕ) (t u : List Lexeme) (y : ExprPart) (ys : List StmtPart) (after : List Lexeme) → SpellsExpr t y → SpellsBlock two levels u ys → IsRead two levels u ys
      → is_exactly Word (codes "else") (first after) ≡ false → stmt two levels (w (codes "if") a ∷ ((t ++ u) ++ after)) ≡ Read (st.If y ys None) after
  unfolding if_stmt
  if_whole levels a t u y ys after d d' r e =
      stmt_keyword two levels key.If a _ (some_level levels key.If d' refl)
      ∙ rw (append_assoc t u after, expr_whole t y (u ++ after) d (stops_at_block d' after), r after, no_else levels after e) refl

  if_else_whole : (levels a b : ℕ) (t u v : List Lexeme) (y : ExprPart) (ys zs : List StmtPart) (after : List Lexeme) → SpellsExpr t y → SpellsBlock two levels u ys → IsRead two levels u ys
      → IsRead two levels v zs → stmt two levels (w (codes "if") a ∷ ((t ++ (u ++ w (codes "else") b ∷ v)) ++ after)) ≡ Read (st.If y ys (Some zs)) after
  unfolding if_stmt
  if_else_whole levels a b t u v y ys zs after d d' r r' =
      stmt_keyword two levels key.If a _ (some_level levels key.If d' refl)
      ∙ rw (
        append_assoc t (u ++ w (codes "else") b ∷ v) after,
        append_assoc u (w (codes "else") b ∷ v) after,
        expr_whole t y (u ++ w (codes "else") b ∷ (v ++ after)) d (stops_at_block d' _),
        r (w (codes "else") b ∷ (v ++ after)),
        an_else levels b v zs after r',
      ) refl

  while_whole : (levels a : ℕ) (t u : List Lexeme) (y : ExprPart) (ys : List StmtPart) (after : List Lexeme) → SpellsExpr t y → SpellsBlock two levels u ys → IsRead two levels u ys
      → stmt two levels (w (codes "while") a ∷ ((t ++ u) ++ after)) ≡ Read (st.While y ys) after
  unfolding while_stmt
  while_whole levels a t u y ys after d d' r =
      stmt_keyword two levels key.While a _ (some_level levels key.While d' refl)
      ∙ rw (append_assoc t u after, expr_whole t y (u ++ after) d (stops_at_block d' after), r after) refl

  block_step : (levels a b : ℕ) (t : List Lexeme) (xs : List StmtPart) (after : List Lexeme)
      → ((before : List StmtPart) (rest : List Lexeme) (c : ℕ) → loop (row_turn ends_block (stmt two levels) onto) before (t ++ s (codes "}") c ∷ rest) ≡ Read (before ++ xs) (s (codes "}") c ∷ rest))
      → block two (suc levels) (s (codes "{") a ∷ ((t ++ s (codes "}") b ∷ []) ++ after)) ≡ Read xs after
  unfolding block block_of
  block_step levels a b t xs after f = rw (exactly_reads Sign (codes "{") a, append_assoc t (s (codes "}") b ∷ []) after, f [] after b, exactly_reads Sign (codes "}") b) refl

  stmts_end : (levels c : ℕ) (xs : List StmtPart) (rest : List Lexeme) → loop (row_turn ends_block (stmt two levels) onto) xs (s (codes "}") c ∷ rest) ≡ Read (xs ++ []) (s (codes "}") c ∷ rest)
  stmts_end levels c xs rest = rw append-nil (row_end ends_block (stmt two levels) onto xs (s (codes "}") c ∷ rest) refl)

  -- no row of statements begins with `else`
  rows_else : {levels : ℕ} {t : List Lexeme} {xs : List StmtPart} → SpellsStmts two levels t xs → (c : ℕ) (rest : List Lexeme) → is_exactly Word (codes "else") (first (t ++ s (codes "}") c ∷ rest)) ≡ false
  rows_else g.no_stmts c rest = refl
  rows_else (g.stmts {t = t} {ts = ts} d ds) c rest = rw append_assoc (begins_else d (ts ++ s (codes "}") c ∷ rest))

  stmts_step : (levels c : ℕ) (t ts : List Lexeme) (y : StmtPart) (ys xs : List StmtPart) (rest : List Lexeme) → SpellsStmt two levels t y → SpellsStmts two levels ts ys
      → ((after : List Lexeme) → is_exactly Word (codes "else") (first after) ≡ false → stmt two levels (t ++ after) ≡ Read y after)
      → loop (row_turn ends_block (stmt two levels) onto) (onto xs y) (ts ++ s (codes "}") c ∷ rest) ≡ Read (onto xs y ++ ys) (s (codes "}") c ∷ rest)
      → loop (row_turn ends_block (stmt two levels) onto) xs ((t ++ ts) ++ s (codes "}") c ∷ rest) ≡ Read (xs ++ y ∷ ys) (s (codes "}") c ∷ rest)
  stmts_step levels c t ts y ys xs rest d ds r ih =
      let regroup : (t ++ ts) ++ s (codes "}") c ∷ rest ≡ t ++ (ts ++ s (codes "}") c ∷ rest) = append_assoc t ts (s (codes "}") c ∷ rest) in
      rw regroup (row_goes ends_block (stmt two levels) onto (SpellsStmt two levels) (SpellsStmts two levels) g.no_stmts (λ t ts x xs d ds. g.stmts d ds) (some_tokens two levels) (stmt_reader two levels)
      xs y (t ++ (ts ++ s (codes "}") c ∷ rest)) (ts ++ s (codes "}") c ∷ rest) (begins_brace d _) (r _ (rows_else ds c rest))
      ∙ ih ∙ ap (λ zs. Read zs (s (codes "}") c ∷ rest)) (append_assoc xs (y ∷ []) ys))

mutual
  pub block_whole : {two : Bool} {levels : ℕ} {t : List Lexeme} {xs : List StmtPart} → SpellsBlock two levels t xs → (after : List Lexeme) → block two levels (t ++ after) ≡ Read xs after
  block_whole {two = two} (g.block {k = k} a b {t = t} {xs = xs} d) after = block_step two k a b t xs after (λ before rest c. stmts_whole d before c rest)

  pub stmts_whole : {two : Bool} {levels : ℕ} {t : List Lexeme} {zs : List StmtPart} → SpellsStmts two levels t zs → (xs : List StmtPart) (c : ℕ) (rest : List Lexeme)
      → loop (row_turn ends_block (stmt two levels) onto) xs (t ++ s (codes "}") c ∷ rest) ≡ Read (xs ++ zs) (s (codes "}") c ∷ rest)
  stmts_whole {two = two} (g.no_stmts {k = k}) xs c rest = stmts_end two k c xs rest
  stmts_whole {two = two} (g.stmts {k = k} {t = t} {ts = ts} {x = y} {xs = ys} d ds) xs c rest =
      stmts_step two k c t ts y ys xs rest d ds (λ after e. stmt_whole d after e) (stmts_whole ds (onto xs y) c rest)

  pub stmt_whole : {two : Bool} {levels : ℕ} {t : List Lexeme} {y : StmtPart} → SpellsStmt two levels t y → (after : List Lexeme) → is_exactly Word (codes "else") (first after) ≡ false
      → stmt two levels (t ++ after) ≡ Read y after
  stmt_whole {two = two} (g.let_stmt {k = k} a b c d d') after other = let_whole two k a b c after d d'
  stmt_whole {two = two} (g.set {k = k} a b d d') after other = set_whole two k a b after d d'
  stmt_whole {two = two} (g.if_stmt {k = k} a {t = t} {u = u} {x = y} {ys = ys} d d') after other = if_whole two k a t u y ys after d d' (λ after. block_whole d' after) other
  stmt_whole {two = two} (g.if_else {k = k} a b {t = t} {u = u} {v = v} {x = y} {ys = ys} {zs = zs} d d' d'') after other =
      if_else_whole two k a b t u v y ys zs after d d' (λ after. block_whole d' after) (λ after. block_whole d'' after)
  stmt_whole {two = two} (g.while_stmt {k = k} a {t = t} {u = u} {x = y} {ys = ys} d d') after other = while_whole two k a t u y ys after d d' (λ after. block_whole d' after)
  stmt_whole {two = two} (g.trigger {k = k} a b c d e dn dx dq) after other =
      stmt_keyword two k key.Trigger a _ (flat k key.Trigger refl) ∙ simp append_assoc (simp append_assoc at (trigger_whole two k a d e after dn (parens b c dx) dq))
  stmt_whole {two = two} (g.answer {k = k} a b c d dn dx) after other =
      simp append_assoc (answers two k a _ dn ∙ simp append_assoc at (answer_whole two k a d after dn (parens b c dx)))
  stmt_whole {two = two} (g.create {k = k} a b c d e dn dm dx) after other =
      stmt_keyword two k key.Create a _ (flat k key.Create refl) ∙ simp append_assoc (simp append_assoc at (create_whole two k b e after dn dm (parens c d dx)))
  stmt_whole {two = two} (g.create_from_state {k = k} a b c d e dn dm) after other =
      stmt_keyword two k key.Create a _ (flat k key.Create refl) ∙ simp append_assoc (from_state_whole two k b c d e after dn dm)
  stmt_whole {two = two} (g.start {k = k} a b d) after other = command_whole two k cmd.Start a b after d
  stmt_whole {two = two} (g.stop {k = k} a b d) after other = command_whole two k cmd.Stop a b after d
  stmt_whole {two = two} (g.destroy {k = k} a b d) after other = command_whole two k cmd.Destroy a b after d
  stmt_whole {two = two} (g.dump {k = k} a b d) after other = command_whole two k cmd.Dump a b after d
  stmt_whole {two = two} (g.hold {k = k} a b d) after other = command_whole two k cmd.Hold a b after d
  stmt_whole {two = two} (g.resume {k = k} a b d) after other = command_whole two k cmd.Resume a b after d
  stmt_whole {two = two} (g.unplug {k = k} a b c d end dn) after other =
      stmt_keyword two k key.Unplug a _ (flat k key.Unplug refl) ∙ simp append_assoc (unplug_whole two k b c d end after dn)
  stmt_whole {two = two} (g.plug {k = k} a b c d e end dn dp) after other =
      stmt_keyword two k key.Plug a _ (flat k key.Plug refl) ∙ simp append_assoc (plug_whole two k b c d e end after dn dp)
  stmt_whole {two = two} (g.subscribe {k = k} a b d) after other = command_whole two k cmd.Subscribe a b after d
  stmt_whole {two = two} (g.unsubscribe {k = k} a b d) after other = command_whole two k cmd.Unsubscribe a b after d
  stmt_whole {two = two} (g.fail {k = k} a b e {ds = ds}) after other = stmt_keyword two k key.Fail a _ (flat k key.Fail refl) ∙ fail_whole two k b e ds after
  stmt_whole {two = two} (g.escalate {k = k} a b is) after other = escalate_whole two k a b after is
