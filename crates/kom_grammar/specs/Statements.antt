-- Which tokens spell which statement. `deep` is how many levels of blocks a statement may have
-- below it, and `two` says that the file is of version 2.
use Rattle.std.specs.Prelude.{◌≡◌, ℤ, pos, ℕ, suc, Bool, true, List, [], ◌∷◌, ◌++◌, Option, Some, None, codes}
use Rattle.kom_base.specs.declared.numbers.Dir.{Dir}
use Rattle.kom_system.specs.declared.parts.Spot.{Spot}
use Rattle.kom_system.specs.declared.parts.ExprPart.{ExprPart}
use Rattle.kom_system.specs.declared.parts.TargetPart.{TargetPart}
use Rattle.kom_system.specs.declared.parts.TargetPart.TheVariants as target
use Rattle.kom_system.specs.declared.parts.StmtPart.{StmtPart}
use Rattle.kom_system.specs.declared.parts.StmtPart.TheVariants as st
use Rattle.kom_text.specs.Numbers.{decimal}
use Rattle.kom_parse.specs.Lexemes.{Lexeme, number_lexeme}
use Rattle.kom_parse.specs.Spelled.{SpellsList}
use Rattle.kom_grammar.specs.Words.{w, s, SpellsName, end_word}
use Rattle.kom_grammar.specs.Expressions.{SpellsExpr}

-- blocks may be nested so deep
abbrev pub max_blocks : ℕ
max_blocks = 16

-- where `plug` puts an end
pub data SpellsTarget : List Lexeme → TargetPart → Type 0 where
  own : (a b : ℕ) {t : List Lexeme} {q : Spot} → SpellsName t q → SpellsTarget (w (codes "self") a ∷ s (codes ".") b ∷ t) (target.Own q)
  child : (a : ℕ) {t u : List Lexeme} {n q : Spot} → SpellsName t n → SpellsName u q → SpellsTarget (t ++ s (codes ".") a ∷ u) (target.Child n q)

mutual
  pub data SpellsBlock (two : Bool) : (deep : ℕ) → List Lexeme → List StmtPart → Type 0 where
    block : {k : ℕ} (a b : ℕ) {t : List Lexeme} {xs : List StmtPart} → SpellsStmts two k t xs → SpellsBlock two (suc k) (s (codes "{") a ∷ (t ++ s (codes "}") b ∷ [])) xs

  pub data SpellsStmts (two : Bool) : (deep : ℕ) → List Lexeme → List StmtPart → Type 0 where
    no_stmts : {k : ℕ} → SpellsStmts two k [] []
    stmts : {k : ℕ} {t ts : List Lexeme} {x : StmtPart} {xs : List StmtPart} → SpellsStmt two k t x → SpellsStmts two k ts xs → SpellsStmts two k (t ++ ts) (x ∷ xs)

  pub data SpellsStmt (two : Bool) : (deep : ℕ) → List Lexeme → StmtPart → Type 0 where
    let_stmt : {k : ℕ} (a b c : ℕ) {t u : List Lexeme} {n : Spot} {x : ExprPart} → SpellsName t n → SpellsExpr u x
        → SpellsStmt two k (w (codes "let") a ∷ (t ++ (s (codes "=") b ∷ (u ++ s (codes ";") c ∷ [])))) (st.Let n x)
    set : {k : ℕ} (a b : ℕ) {t u : List Lexeme} {n : Spot} {x : ExprPart} → SpellsName t n → SpellsExpr u x
        → SpellsStmt two k (t ++ (s (codes "=") a ∷ (u ++ s (codes ";") b ∷ []))) (st.Set n x)
    if_stmt : {k : ℕ} (a : ℕ) {t u : List Lexeme} {x : ExprPart} {ys : List StmtPart} → SpellsExpr t x → SpellsBlock two k u ys
        → SpellsStmt two k (w (codes "if") a ∷ (t ++ u)) (st.If x ys None)
    if_else : {k : ℕ} (a b : ℕ) {t u v : List Lexeme} {x : ExprPart} {ys zs : List StmtPart} → SpellsExpr t x → SpellsBlock two k u ys → SpellsBlock two k v zs
        → SpellsStmt two k (w (codes "if") a ∷ (t ++ (u ++ w (codes "else") b ∷ v))) (st.If x ys (Some zs))
    while_stmt : {k : ℕ} (a : ℕ) {t u : List Lexeme} {x : ExprPart} {ys : List StmtPart} → SpellsExpr t x → SpellsBlock two k u ys
        → SpellsStmt two k (w (codes "while") a ∷ (t ++ u)) (st.While x ys)
    trigger : {k : ℕ} (a b c d e : ℕ) {t u v : List Lexeme} {n q : Spot} {xs : List ExprPart} → SpellsName t n → SpellsList SpellsExpr u xs → SpellsName v q
        → SpellsStmt two k (w (codes "trigger") a ∷ (t ++ (s (codes "(") b ∷ (u ++ (s (codes ")") c ∷ w (codes "at") d ∷ (v ++ s (codes ";") e ∷ [])))))) (st.Trigger n xs q)
    answer : {k : ℕ} (a b c d : ℕ) {t u : List Lexeme} {n : Spot} {xs : List ExprPart} → SpellsName t n → SpellsList SpellsExpr u xs
        → SpellsStmt two k (w (codes "answer") a ∷ (t ++ (s (codes "(") b ∷ (u ++ s (codes ")") c ∷ s (codes ";") d ∷ [])))) (st.Answer a n xs)
    create : {k : ℕ} (a b c d e : ℕ) {t u v : List Lexeme} {n m : Spot} {xs : List ExprPart} → SpellsName t n → SpellsName u m → SpellsList SpellsExpr v xs
        → SpellsStmt two k (w (codes "create") a ∷ (t ++ (s (codes ":") b ∷ (u ++ (s (codes "(") c ∷ (v ++ s (codes ")") d ∷ s (codes ";") e ∷ [])))))) (st.Create n m xs)
    create_from_state : {k : ℕ} (a b c d e : ℕ) {t u : List Lexeme} {n m : Spot} → SpellsName t n → SpellsName u m
        → SpellsStmt two k (w (codes "create") a ∷ (t ++ (s (codes ":") b ∷ (u ++ w (codes "from") c ∷ w (codes "state") d ∷ s (codes ";") e ∷ [])))) (st.CreateFromState n m d)
    start : {k : ℕ} (a b : ℕ) {t : List Lexeme} {n : Spot} → SpellsName t n → SpellsStmt two k (w (codes "start") a ∷ (t ++ s (codes ";") b ∷ [])) (st.Start n)
    stop : {k : ℕ} (a b : ℕ) {t : List Lexeme} {n : Spot} → SpellsName t n → SpellsStmt two k (w (codes "stop") a ∷ (t ++ s (codes ";") b ∷ [])) (st.Stop n)
    destroy : {k : ℕ} (a b : ℕ) {t : List Lexeme} {n : Spot} → SpellsName t n → SpellsStmt two k (w (codes "destroy") a ∷ (t ++ s (codes ";") b ∷ [])) (st.Destroy n)
    dump : {k : ℕ} (a b : ℕ) {t : List Lexeme} {n : Spot} → SpellsName t n → SpellsStmt two k (w (codes "dump") a ∷ (t ++ s (codes ";") b ∷ [])) (st.Dump n)
    hold : {k : ℕ} (a b : ℕ) {t : List Lexeme} {n : Spot} → SpellsName t n → SpellsStmt two k (w (codes "hold") a ∷ (t ++ s (codes ";") b ∷ [])) (st.Hold n)
    resume : {k : ℕ} (a b : ℕ) {t : List Lexeme} {n : Spot} → SpellsName t n → SpellsStmt two k (w (codes "resume") a ∷ (t ++ s (codes ";") b ∷ [])) (st.Resume n)
    unplug : {k : ℕ} (a b c d : ℕ) {t : List Lexeme} {n : Spot} (end : Dir) → SpellsName t n
        → SpellsStmt two k (w (codes "unplug") a ∷ (t ++ s (codes ".") b ∷ w (end_word end) c ∷ s (codes ";") d ∷ [])) (st.Unplug n end)
    plug : {k : ℕ} (a b c d e : ℕ) {t u : List Lexeme} {n : Spot} {p : TargetPart} (end : Dir) → SpellsName t n → SpellsTarget u p
        → SpellsStmt two k (w (codes "plug") a ∷ (t ++ (s (codes ".") b ∷ w (end_word end) c ∷ w (codes "at") d ∷ (u ++ s (codes ";") e ∷ [])))) (st.Plug n end p)
    subscribe : {k : ℕ} (a b : ℕ) {t : List Lexeme} {n : Spot} → SpellsName t n → SpellsStmt two k (w (codes "subscribe") a ∷ (t ++ s (codes ";") b ∷ [])) (st.Subscribe n)
    unsubscribe : {k : ℕ} (a b : ℕ) {t : List Lexeme} {n : Spot} → SpellsName t n → SpellsStmt two k (w (codes "unsubscribe") a ∷ (t ++ s (codes ";") b ∷ [])) (st.Unsubscribe n)
    fail : {k : ℕ} (a b c : ℕ) {ds : List ℕ} → SpellsStmt two k (w (codes "fail") a ∷ number_lexeme ds b ∷ s (codes ";") c ∷ []) (st.Fail (pos (decimal ds)) b)
    escalate : {k : ℕ} (a b : ℕ) → two ≡ true → SpellsStmt two k (w (codes "escalate") a ∷ s (codes ";") b ∷ []) (st.Escalate a)
