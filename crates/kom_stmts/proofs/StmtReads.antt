-- What the rules of statements read is spelled so, and what they refuse had begun one.
use Rattle.std.proofs.Common.{◌≡◌, ℕ, zero, suc, ◌<◌, Bool, true, false, ◌&&◌, List, [], ◌∷◌, ◌++◌, length, Option, Some, None, refl, sym, ap, subst, arith, append_assoc}
use Rattle.std.specs.Prelude.{codes}
use Rattle.std.proofs.lemmas.List.{append-nil}
use Rattle.kom_base.specs.declared.numbers.Dir.{Dir}
use Rattle.kom_base.specs.declared.numbers.Dir.TheVariants.{Plus}
use Rattle.kom_system.specs.declared.parts.Spot.{Spot}
use Rattle.kom_system.specs.declared.parts.ExprPart.{ExprPart}
use Rattle.kom_system.specs.declared.parts.TargetPart.TheVariants as to
use Rattle.kom_system.specs.declared.parts.StmtPart.{StmtPart}
use Rattle.kom_system.specs.declared.parts.StmtPart.TheVariants as st
use Rattle.kom_text.specs.declared.token.TokenKind.TheVariants.{Word, Sign}
use Rattle.kom_parse.specs.Lexemes.{Lexeme}
use Rattle.kom_parse.specs.Input.{Parser, ◌>>=◌, ◌>>◌, pure, refuse}
use Rattle.kom_parse.specs.Rules.{exactly, in_parens, by_bytes, onto}
use Rattle.kom_parse.specs.Spelled.{SpellsParens, parens}
use Rattle.kom_parse.proofs.Laws.{IsReader, bind, pure_reader, by_next_reader, then_give}
use Rattle.kom_parse.proofs.Tokens.{bytes_is, exactly_then, eat_token_then, number_then, AllSpelled, among_then, wanted_then}
use Rattle.kom_parse.proofs.ListLaws.{parens_reader}
use Rattle.kom_parse.proofs.RowLaws.{RowFrom, onto_all, row_reader}
use Rattle.kom_grammar.specs.Words.{w, s, SpellsName, name as spells_name, end_word}
use Rattle.kom_grammar.specs.Expressions.{SpellsExpr}
use Rattle.kom_grammar.specs.Statements as g
use Rattle.kom_grammar.specs.Statements.{SpellsTarget, SpellsBlock, SpellsStmts, SpellsStmt}
use Rattle.kom_exprs.specs.Reading.{expr}
use Rattle.kom_exprs.proofs.ExprReads.{expr_reader}
use Rattle.kom_exprs.proofs.NameLaws.{name_reader, name_and}
use Rattle.kom_stmts.specs.declared.keywords.Command.{Command}
use Rattle.kom_stmts.specs.declared.keywords.Command.TheVariants as cmd
use Rattle.kom_stmts.specs.declared.keywords.Keyword.{Keyword}
use Rattle.kom_stmts.specs.declared.keywords.Keyword.TheVariants as key
use Rattle.kom_stmts.specs.Reading.{command_word, keyword_word, commands, flat_keywords, keywords, directions, direction, target_by, target, value, let_stmt, trigger, answer, from_state, with_args, create_by, create, unplug, plug, fail, with_name, command_stmt, set, escalate, is_answer, is_escalate, named_by, named, else_part, if_stmt, while_stmt, stmt_by, stmt_with, ends_block, block_of, stmt, block}

-- ---- parts of statements

all_commands : AllSpelled keyword_word commands
all_commands = (refl, (refl, (refl, (refl, (refl, (refl, (refl, (refl, tt))))))))

all_flat : AllSpelled keyword_word flat_keywords
all_flat = (refl, (refl, (refl, (refl, (refl, (refl, all_commands))))))

pub all_keywords : (levels : ℕ) → AllSpelled keyword_word (keywords levels)
all_keywords zero = all_flat
all_keywords (suc levels) = (refl, (refl, all_flat))

pub direction_then : {B : Type 0} (q : Dir → Parser B) (L : List Lexeme → B → Type 0) → ((d : Dir) (a : ℕ) → IsReader (q d) (λ u b. L (w (end_word d) a ∷ u) b)) → IsReader (direction >>= q) L
unfolding direction
direction_then q L r = wanted_then end_word directions (refl, (refl, tt)) q L Plus refl (λ d a e. r d a)

pub target_reader : IsReader target SpellsTarget
unfolding target
target_reader = eat_token_then Word (codes "self") target_by SpellsTarget
    (λ a. exactly_then Sign (codes ".") _ (λ u x. SpellsTarget (w (codes "self") a ∷ u) x) (λ b.
    then_give SpellsName (λ q. to.Own q) (λ u x. SpellsTarget (w (codes "self") a ∷ s (codes ".") b ∷ u) x) name_reader (λ t q d. g.own a b d)))
    (name_and _ SpellsTarget (λ n t d. exactly_then Sign (codes ".") _ (λ u x. SpellsTarget (t ++ u) x) (λ a.
    then_give SpellsName (λ q. to.Child n q) (λ u x. SpellsTarget (t ++ s (codes ".") a ∷ u) x) name_reader (λ u q d'. g.child a d d'))))

-- the value that a name is given
pub data SpellsValue : List Lexeme → ExprPart → Type 0 where
  given : (a b : ℕ) {t : List Lexeme} {x : ExprPart} → SpellsExpr t x → SpellsValue (s (codes "=") a ∷ (t ++ s (codes ";") b ∷ [])) x

value_reader : IsReader value SpellsValue
unfolding value
value_reader = exactly_then Sign (codes "=") _ SpellsValue (λ a. bind expr _ SpellsExpr _ expr_reader (λ x t d.
    exactly_then Sign (codes ";") _ (λ u y. SpellsValue (s (codes "=") a ∷ (t ++ u)) y) (λ b.
    pure_reader (λ u y. SpellsValue (s (codes "=") a ∷ (t ++ s (codes ";") b ∷ u)) y) x (given a b d))))

-- the statement, and the semicolon behind it
semicolon : {L : List Lexeme → StmtPart → Type 0} (x : StmtPart) → ((a : ℕ) → L (s (codes ";") a ∷ []) x) → IsReader (exactly Sign (codes ";") >> pure x) L
semicolon {L} x f = exactly_then Sign (codes ";") _ L (λ a. pure_reader (λ u y. L (s (codes ";") a ∷ u) y) x (f a))

exprs_and : {B : Type 0} (q : List ExprPart → Parser B) (L : List Lexeme → B → Type 0)
    → ((xs : List ExprPart) (t : List Lexeme) → SpellsParens SpellsExpr t xs → IsReader (q xs) (λ u b. L (t ++ u) b)) → IsReader (in_parens expr >>= q) L
exprs_and q L r = bind (in_parens expr) q (SpellsParens SpellsExpr) L (parens_reader expr SpellsExpr expr_reader) r

-- ---- statements without blocks

module _ (two : Bool) (levels : ℕ) where
  let_text : (a : ℕ) {t u : List Lexeme} {n : Spot} {x : ExprPart} → SpellsName t n → SpellsValue u x → SpellsStmt two levels (w (codes "let") a ∷ (t ++ u)) (st.Let n x)
  let_text a d (given b e d') = g.let_stmt a b e d d'

  let_reader : (a : ℕ) → IsReader let_stmt (λ u x. SpellsStmt two levels (w (codes "let") a ∷ u) x)
  unfolding let_stmt
  let_reader a = name_and _ (λ u x. SpellsStmt two levels (w (codes "let") a ∷ u) x) (λ n t d.
      then_give SpellsValue (λ x. st.Let n x) (λ u x. SpellsStmt two levels (w (codes "let") a ∷ (t ++ u)) x) value_reader (λ u x d'. let_text a d d'))

  trigger_text : (a d e : ℕ) {t u v : List Lexeme} {n q : Spot} {xs : List ExprPart} → SpellsName t n → SpellsParens SpellsExpr u xs → SpellsName v q
      → SpellsStmt two levels (w (codes "trigger") a ∷ (t ++ (u ++ (w (codes "at") d ∷ (v ++ s (codes ";") e ∷ []))))) (st.Trigger n xs q)
  trigger_text a d e dn (parens b c dx) dq = rw append_assoc (g.trigger a b c d e dn dx dq)

  trigger_reader : (a : ℕ) → IsReader trigger (λ u x. SpellsStmt two levels (w (codes "trigger") a ∷ u) x)
  unfolding trigger
  trigger_reader a = name_and _ (λ u x. SpellsStmt two levels (w (codes "trigger") a ∷ u) x) (λ n t dn.
      exprs_and _ (λ u x. SpellsStmt two levels (w (codes "trigger") a ∷ (t ++ u)) x) (λ xs u dx.
      exactly_then Word (codes "at") _ (λ v x. SpellsStmt two levels (w (codes "trigger") a ∷ (t ++ (u ++ v))) x) (λ d.
      name_and _ (λ v x. SpellsStmt two levels (w (codes "trigger") a ∷ (t ++ (u ++ (w (codes "at") d ∷ v)))) x) (λ q v dq.
      semicolon _ (λ e. trigger_text a d e dn dx dq)))))

  answer_text : (a d : ℕ) {t u : List Lexeme} {n : Spot} {xs : List ExprPart} → SpellsName t n → SpellsParens SpellsExpr u xs
      → SpellsStmt two levels (w (codes "answer") a ∷ (t ++ (u ++ s (codes ";") d ∷ []))) (st.Answer a n xs)
  answer_text a d dn (parens b c dx) = rw append_assoc (g.answer a b c d dn dx)

  answer_reader : (a : ℕ) → IsReader (answer a) (λ u x. SpellsStmt two levels (w (codes "answer") a ∷ u) x)
  unfolding answer
  answer_reader a = name_and _ (λ u x. SpellsStmt two levels (w (codes "answer") a ∷ u) x) (λ n t dn.
      exprs_and _ (λ u x. SpellsStmt two levels (w (codes "answer") a ∷ (t ++ u)) x) (λ xs u dx. semicolon _ (λ d. answer_text a d dn dx)))

  with_args_text : (a b e : ℕ) {t u v : List Lexeme} {n m : Spot} {xs : List ExprPart} → SpellsName t n → SpellsName u m → SpellsParens SpellsExpr v xs
      → SpellsStmt two levels (w (codes "create") a ∷ (t ++ (s (codes ":") b ∷ (u ++ (v ++ s (codes ";") e ∷ []))))) (st.Create n m xs)
  with_args_text a b e dn dm (parens c d dx) = rw append_assoc (g.create a b c d e dn dm dx)

  create_reader : (a : ℕ) → IsReader create (λ u x. SpellsStmt two levels (w (codes "create") a ∷ u) x)
  unfolding create from_state with_args
  create_reader a = name_and _ (λ u x. SpellsStmt two levels (w (codes "create") a ∷ u) x) (λ n t dn.
      exactly_then Sign (codes ":") _ (λ u x. SpellsStmt two levels (w (codes "create") a ∷ (t ++ u)) x) (λ b.
      name_and _ (λ u x. SpellsStmt two levels (w (codes "create") a ∷ (t ++ s (codes ":") b ∷ u)) x) (λ m u dm.
      eat_token_then Word (codes "from") (create_by n m) (λ v x. SpellsStmt two levels (w (codes "create") a ∷ (t ++ s (codes ":") b ∷ (u ++ v))) x)
      (λ c. exactly_then Word (codes "state") _ (λ v x. SpellsStmt two levels (w (codes "create") a ∷ (t ++ s (codes ":") b ∷ (u ++ w (codes "from") c ∷ v))) x) (λ d.
      semicolon _ (λ e. g.create_from_state a b c d e dn dm)))
      (exprs_and _ (λ v x. SpellsStmt two levels (w (codes "create") a ∷ (t ++ s (codes ":") b ∷ (u ++ v))) x) (λ xs v dx. semicolon _ (λ e. with_args_text a b e dn dm dx))))))

  unplug_reader : (a : ℕ) → IsReader unplug (λ u x. SpellsStmt two levels (w (codes "unplug") a ∷ u) x)
  unfolding unplug
  unplug_reader a = name_and _ (λ u x. SpellsStmt two levels (w (codes "unplug") a ∷ u) x) (λ n t dn.
      exactly_then Sign (codes ".") _ (λ u x. SpellsStmt two levels (w (codes "unplug") a ∷ (t ++ u)) x) (λ b.
      direction_then _ (λ u x. SpellsStmt two levels (w (codes "unplug") a ∷ (t ++ s (codes ".") b ∷ u)) x) (λ end c.
      semicolon _ (λ d. g.unplug a b c d end dn))))

  plug_reader : (a : ℕ) → IsReader plug (λ u x. SpellsStmt two levels (w (codes "plug") a ∷ u) x)
  unfolding plug
  plug_reader a = name_and _ (λ u x. SpellsStmt two levels (w (codes "plug") a ∷ u) x) (λ n t dn.
      exactly_then Sign (codes ".") _ (λ u x. SpellsStmt two levels (w (codes "plug") a ∷ (t ++ u)) x) (λ b.
      direction_then _ (λ u x. SpellsStmt two levels (w (codes "plug") a ∷ (t ++ s (codes ".") b ∷ u)) x) (λ end c.
      exactly_then Word (codes "at") _ (λ u x. SpellsStmt two levels (w (codes "plug") a ∷ (t ++ s (codes ".") b ∷ w (end_word end) c ∷ u)) x) (λ d.
      bind target _ SpellsTarget (λ u x. SpellsStmt two levels (w (codes "plug") a ∷ (t ++ s (codes ".") b ∷ w (end_word end) c ∷ w (codes "at") d ∷ u)) x) target_reader (λ p u dp.
      semicolon _ (λ e. g.plug a b c d e end dn dp))))))

  fail_reader : (a : ℕ) → IsReader fail (λ u x. SpellsStmt two levels (w (codes "fail") a ∷ u) x)
  unfolding fail
  fail_reader a = number_then _ (λ u x. SpellsStmt two levels (w (codes "fail") a ∷ u) x) (λ ds b. semicolon _ (λ e. g.fail a b e))

  command_text : (word : Command) (a b : ℕ) {t : List Lexeme} {n : Spot} → SpellsName t n → SpellsStmt two levels (w (command_word word) a ∷ (t ++ s (codes ";") b ∷ [])) (with_name word n)
  command_text cmd.Start a b d = g.start a b d
  command_text cmd.Stop a b d = g.stop a b d
  command_text cmd.Destroy a b d = g.destroy a b d
  command_text cmd.Dump a b d = g.dump a b d
  command_text cmd.Hold a b d = g.hold a b d
  command_text cmd.Resume a b d = g.resume a b d
  command_text cmd.Subscribe a b d = g.subscribe a b d
  command_text cmd.Unsubscribe a b d = g.unsubscribe a b d

  command_reader : (word : Command) (a : ℕ) → IsReader (command_stmt word) (λ u x. SpellsStmt two levels (w (command_word word) a ∷ u) x)
  unfolding command_stmt
  command_reader word a = name_and _ (λ u x. SpellsStmt two levels (w (command_word word) a ∷ u) x) (λ n t d. semicolon _ (λ b. command_text word a b d))

  set_text : {t u : List Lexeme} {n : Spot} {x : ExprPart} → SpellsName t n → SpellsValue u x → SpellsStmt two levels (t ++ u) (st.Set n x)
  set_text d (given a b d') = g.set a b d d'

  set_reader : (n : Spot) (t : List Lexeme) → SpellsName t n → IsReader (set n) (λ u x. SpellsStmt two levels (t ++ u) x)
  unfolding set
  set_reader n t d = then_give SpellsValue (λ x. st.Set n x) (λ u x. SpellsStmt two levels (t ++ u) x) value_reader (λ u x d'. set_text d d')

  named_reader : IsReader (named two) (SpellsStmt two levels)
  unfolding named escalate
  named_reader = name_and _ (SpellsStmt two levels) (λ n t d. by_next_reader _ (λ u x. SpellsStmt two levels (t ++ u) x) (λ o. by_word o d)) where
    by_case : (n : Spot) (t : List Lexeme) → SpellsName t n → (answers escalates : Bool) → (answers ≡ true → t ≡ w (codes "answer") n.at ∷ []) → (escalates ≡ true → (t ≡ w (codes "escalate") n.at ∷ []) × (two ≡ true))
        → IsReader (named_by n answers escalates) (λ u x. SpellsStmt two levels (t ++ u) x)
    by_case n t d true escalates f f' = subst (λ t. IsReader (answer n.at) (λ u x. SpellsStmt two levels (t ++ u) x)) (sym (f refl)) (answer_reader n.at)
    by_case n t d false true f f' = subst (λ t. IsReader (escalate n.at) (λ u x. SpellsStmt two levels (t ++ u) x)) (sym (f' refl).0) (semicolon _ (λ b. g.escalate n.at b (f' refl).1))
    by_case n t d false false f f' = set_reader n t d

    both : (a b : Bool) → (a && b) ≡ true → (a ≡ true) × (b ≡ true)
    both true true e = (refl, refl)
    both true false e = absurd cc
    both false b e = absurd cc

    by_word : (o : Option Lexeme) {n : Spot} {t : List Lexeme} → SpellsName t n → IsReader (named_by n (is_answer n o) (is_escalate two n o)) (λ u x. SpellsStmt two levels (t ++ u) x)
    by_word o (spells_name {bytes = bytes} a h) = by_case (record { name = bytes; at = a }) (w bytes a ∷ []) (spells_name a h) _ _
        (λ e. ap (λ v. w v a ∷ []) (bytes_is bytes (codes "answer") (both _ _ e).0))
        (λ e. let first = both _ _ (both _ _ e).0 in (ap (λ v. w v a ∷ []) (bytes_is bytes (codes "escalate") first.1), first.0))

-- ---- statements with blocks

-- behind the block of an `if`
pub data SpellsElse (two : Bool) (levels : ℕ) : List Lexeme → Option (List StmtPart) → Type 0 where
  no_else : SpellsElse two levels [] None
  an_else : (b : ℕ) {u : List Lexeme} {zs : List StmtPart} → SpellsBlock two levels u zs → SpellsElse two levels (w (codes "else") b ∷ u) (Some zs)

module _ (two : Bool) (block : Parser (List StmtPart)) (levels : ℕ) (r : IsReader block (SpellsBlock two levels)) where
  else_reader : IsReader (else_part block) (SpellsElse two levels)
  unfolding else_part
  else_reader = eat_token_then Word (codes "else") _ (SpellsElse two levels)
      (λ b. then_give (SpellsBlock two levels) (λ zs. Some zs) (λ u x. SpellsElse two levels (w (codes "else") b ∷ u) x) r (λ t zs d. an_else b d))
      (pure_reader (SpellsElse two levels) None no_else)

  if_text : (a : ℕ) {t u v : List Lexeme} {x : ExprPart} {ys : List StmtPart} {zs : Option (List StmtPart)} → SpellsExpr t x → SpellsBlock two levels u ys → SpellsElse two levels v zs
      → SpellsStmt two levels (w (codes "if") a ∷ (t ++ (u ++ v))) (st.If x ys zs)
  if_text a d d' no_else = rw append-nil (g.if_stmt a d d')
  if_text a d d' (an_else b d'') = g.if_else a b d d' d''

  if_reader : (a : ℕ) → IsReader (if_stmt block) (λ u x. SpellsStmt two levels (w (codes "if") a ∷ u) x)
  unfolding if_stmt
  if_reader a = bind expr _ SpellsExpr (λ u x. SpellsStmt two levels (w (codes "if") a ∷ u) x) expr_reader (λ x t d.
      bind block _ (SpellsBlock two levels) (λ u y. SpellsStmt two levels (w (codes "if") a ∷ (t ++ u)) y) r (λ ys u d'.
      then_give (SpellsElse two levels) (λ zs. st.If x ys zs) (λ v y. SpellsStmt two levels (w (codes "if") a ∷ (t ++ (u ++ v))) y) else_reader (λ v zs d''. if_text a d d' d'')))

  while_reader : (a : ℕ) → IsReader (while_stmt block) (λ u x. SpellsStmt two levels (w (codes "while") a ∷ u) x)
  unfolding while_stmt
  while_reader a = bind expr _ SpellsExpr (λ u x. SpellsStmt two levels (w (codes "while") a ∷ u) x) expr_reader (λ x t d.
      then_give (SpellsBlock two levels) (λ ys. st.While x ys) (λ u y. SpellsStmt two levels (w (codes "while") a ∷ (t ++ u)) y) r (λ u ys d'. g.while_stmt a d d'))

-- ---- all statements

-- where no level of blocks is left, nothing is asked of the block
HasBlock : Bool → ℕ → Parser (List StmtPart) → Type 0
HasBlock two zero block = Unit {0}
HasBlock two (suc levels) block = IsReader block (SpellsBlock two (suc levels))

module _ (two : Bool) (block : Parser (List StmtPart)) where
  keyword_reader : (levels : ℕ) → HasBlock two levels block → (word : Keyword) (a : ℕ) → by_bytes (keyword_word word) (keywords levels) ≡ Some word
      → IsReader (stmt_by block two (Some word)) (λ u x. SpellsStmt two levels (w (keyword_word word) a ∷ u) x)
  unfolding HasBlock
  keyword_reader zero r key.If a e = absurd cc
  keyword_reader zero r key.While a e = absurd cc
  keyword_reader (suc levels) r key.If a e = if_reader two block (suc levels) r a
  keyword_reader (suc levels) r key.While a e = while_reader two block (suc levels) r a
  keyword_reader levels r key.Let a e = let_reader two levels a
  keyword_reader levels r key.Trigger a e = trigger_reader two levels a
  keyword_reader levels r key.Create a e = create_reader two levels a
  keyword_reader levels r key.Unplug a e = unplug_reader two levels a
  keyword_reader levels r key.Plug a e = plug_reader two levels a
  keyword_reader levels r key.Fail a e = fail_reader two levels a
  keyword_reader levels r (key.Command word) a e = command_reader two levels word a

  stmt_with_reader : (levels : ℕ) → HasBlock two levels block → IsReader (stmt_with block two levels) (SpellsStmt two levels)
  unfolding stmt_with
  stmt_with_reader levels r = among_then keyword_word (keywords levels) (all_keywords levels) (stmt_by block two) (SpellsStmt two levels) (keyword_reader levels r) (named_reader two levels)

pub some_tokens : (two : Bool) (levels : ℕ) (t : List Lexeme) (x : StmtPart) → SpellsStmt two levels t x → 0 < length t
some_tokens two levels t x (g.set a b (spells_name c h) d) = omega arith
some_tokens two levels t x _ = omega arith

block_reader : (two : Bool) (stmt : Parser StmtPart) (levels : ℕ) → IsReader stmt (SpellsStmt two levels) → IsReader (block_of stmt) (SpellsBlock two (suc levels))
unfolding block_of
block_reader two stmt levels r = exactly_then Sign (codes "{") _ (SpellsBlock two (suc levels)) (λ a. bind _ _ (RowFrom onto (SpellsStmts two levels) []) _
    (row_reader ends_block stmt onto (SpellsStmt two levels) (SpellsStmts two levels) g.no_stmts (λ t ts x xs d ds. g.stmts d ds) (some_tokens two levels) r [])
    (λ xs t d. exactly_then Sign (codes "}") _ (λ u y. SpellsBlock two (suc levels) (s (codes "{") a ∷ (t ++ u)) y) (λ b.
    pure_reader (λ u y. SpellsBlock two (suc levels) (s (codes "{") a ∷ (t ++ s (codes "}") b ∷ u)) y) xs (all d a b))))
  where
    all : {t : List Lexeme} {xs : List StmtPart} → RowFrom onto (SpellsStmts two levels) [] t xs → (a b : ℕ) → SpellsBlock two (suc levels) (s (codes "{") a ∷ (t ++ s (codes "}") b ∷ [])) xs
    all d a b = rw (d.is, onto_all [] d.added) (g.block a b d.spells)

pub stmt_reader : (two : Bool) (levels : ℕ) → IsReader (stmt two levels) (SpellsStmt two levels)
unfolding stmt HasBlock
stmt_reader two zero = stmt_with_reader two refuse zero tt
stmt_reader two (suc levels) = stmt_with_reader two (block_of (stmt two levels)) (suc levels) (block_reader two (stmt two levels) levels (stmt_reader two levels))

pub blocks_reader : (two : Bool) (levels : ℕ) → IsReader (block two (suc levels)) (SpellsBlock two (suc levels))
unfolding block
blocks_reader two levels = block_reader two (stmt two levels) levels (stmt_reader two levels)
