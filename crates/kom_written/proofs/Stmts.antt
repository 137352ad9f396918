-- Statements are spelled again by the tokens with which they are written.
use Rattle.std.proofs.Common.{◌≡◌, ℕ, pos, suc, ◌≤◌, Bool, true, List, [], ◌∷◌, ◌++◌, map, Option, Some, None, refl, sym, ap, ◌∙◌, subst}
use Rattle.std.specs.Prelude.{codes}
use Rattle.std.specs.Option.{option_map}
use Rattle.std.specs.Fmt as fmt
use Rattle.kom_base.specs.declared.numbers.Dir.{Dir}
use Rattle.kom_base.specs.declared.numbers.Dir.TheVariants.{Plus, Minus}
use Rattle.kom_system.specs.declared.parts.Spot.{Spot}
use Rattle.kom_system.specs.declared.parts.ExprPart.{ExprPart}
use Rattle.kom_system.specs.declared.parts.StmtPart.{StmtPart, out-StmtPart}
use Rattle.kom_system.specs.declared.parts.StmtPart.TheOpen.{If, While}
use Rattle.kom_system.specs.declared.parts.StmtPart.TheVariants as st
use Rattle.kom_system.specs.declared.parts.TargetPart.{TargetPart}
use Rattle.kom_system.specs.declared.parts.TargetPart.TheVariants as to
use Rattle.kom_text.specs.Numbers.{decimal, greatest}
use Rattle.kom_parse.specs.Lexemes.{Lexeme}
use Rattle.kom_parse.specs.Spelled.{SpellsList}
use Rattle.kom_grammar.specs.Words.{name, end_word}
use Rattle.kom_grammar.specs.Expressions.{SpellsExpr}
use Rattle.kom_grammar.specs.Statements as g
use Rattle.kom_grammar.specs.Statements.{SpellsTarget, SpellsBlock, SpellsStmts, SpellsStmt}
use Rattle.kom_rules.specs.Compute.{computing}
use Rattle.kom_rules.specs.Walks.{One}
use Rattle.kom_spaced.specs.Spaced.{Written, can_stand}
use Rattle.kom_written.specs.Unplaced.{spot, expr_part, target_part, stmt_part, block_part}
use Rattle.kom_written.specs.Tokens.{word, sign, last, semicolon, called, with_commas, expr_tokens, target_tokens, block_tokens, stmt_tokens, stmts_tokens}
use Rattle.kom_written.specs.Again.{AreSound, IsAgain}
use Rattle.kom_written.proofs.Steps.{behind, placed-append, both, stand-append, sound-left, sound-right, CanBeNamed, named, at_place, number_stands, small}
use Rattle.kom_written.proofs.Lists.{list_again}
use Rattle.kom_written.proofs.Exprs.{expr_again}

abbrev OfExpr : ExprPart → Type 0
OfExpr x = IsAgain SpellsExpr expr_part (expr_tokens x) x

abbrev OfExprs : List ExprPart → Type 0
OfExprs xs = IsAgain (SpellsList SpellsExpr) (map expr_part) (with_commas expr_tokens xs) xs

abbrev OfTarget : TargetPart → Type 0
OfTarget p = IsAgain SpellsTarget target_part (target_tokens p) p

-- a statement without its places, with so many levels of blocks below it
abbrev same_stmt : ℕ → StmtPart → StmtPart
same_stmt k x = stmt_part (block_part k) (out-StmtPart x)

abbrev OfStmt : Bool → ℕ → StmtPart → Type 0
OfStmt two k x = IsAgain (SpellsStmt two k) (same_stmt k) (stmt_tokens (stmts_tokens k) (out-StmtPart x)) x

abbrev OfBlock : Bool → ℕ → List StmtPart → Type 0
OfBlock two k xs = IsAgain (SpellsBlock two k) (block_part k) (block_tokens (stmts_tokens k xs)) xs

abbrev OfStmts : Bool → ℕ → List StmtPart → Type 0
OfStmts two k xs = IsAgain (SpellsStmts two k) (block_part (suc k)) (stmts_tokens (suc k) xs) xs

exprs_again : {t : List Lexeme} {xs : List ExprPart} → SpellsList SpellsExpr t xs → AreSound t → OfExprs xs
exprs_again d sound = list_again SpellsExpr expr_part expr_tokens expr_again d sound

end_stands : (end : Dir) → can_stand (word (end_word end)) ≡ true
end_stands Plus = refl
end_stands Minus = refl

target_again : {t : List Lexeme} {p : TargetPart} → SpellsTarget t p → AreSound t → OfTarget p
target_again (g.own a b {q = q} d) sound =
    let c = named d sound.1.1 in
    record { stand = both (c.stands) refl; spell = λ at. (to.Own (at_place q (behind at (word (codes "self") ∷ sign (codes ".") ∷ []))), g.own at _ (name _ c.name), refl) }
target_again (g.child a {t = t} {n = n} {q = q} d f) sound =
    let c = named d (sound-left t _ sound) in
    let c' = named f (sound-right t _ sound).1 in
    record {
      stand = both (c.stands) (both (c'.stands) refl);
      spell = λ at. (to.Child (at_place n at) (at_place q (behind at (called n ∷ sign (codes ".") ∷ []))), g.child _ (name at c.name) (name _ c'.name), refl);
    }

module _ (two : Bool) (k : ℕ) where
  let_again : (n : Spot) (x : ExprPart) → CanBeNamed n → OfExpr x → OfStmt two k (st.Let n x)
  unfolding computing
  let_again n x c h = record {
    stand = both (c.stands) (stand-append (expr_tokens x) (semicolon ∷ []) h.stand refl);
    spell = λ at. (
        let q : ℕ = behind at (word (codes "let") ∷ called n ∷ sign (codes "=") ∷ []) in
        let r = h.spell q in
        (st.Let (at_place n (behind at (word (codes "let") ∷ []))) r.0, rw (placed-append q (expr_tokens x) (semicolon ∷ [])) (g.let_stmt at _ _ (name _ c.name) r.1), ap (λ z. st.Let (spot n) z) r.2));
  }

  set_again : (n : Spot) (x : ExprPart) → CanBeNamed n → OfExpr x → OfStmt two k (st.Set n x)
  unfolding computing
  set_again n x c h = record {
    stand = both (c.stands) (stand-append (expr_tokens x) (semicolon ∷ []) h.stand refl);
    spell = λ at. (
        let q : ℕ = behind at (called n ∷ sign (codes "=") ∷ []) in
        let r = h.spell q in
        (st.Set (at_place n at) r.0, rw (placed-append q (expr_tokens x) (semicolon ∷ [])) (g.set _ _ (name at c.name) r.1), ap (λ z. st.Set (spot n) z) r.2));
  }

  -- the part of a statement with blocks
  abbrev OfOne : One → StmtPart → Type 0
  OfOne o x = IsAgain (SpellsStmt two k) (same_stmt k) (stmt_tokens (stmts_tokens k) o) x

  same_if : (x : ExprPart) (ys : List StmtPart) (other : Option (List StmtPart)) → same_stmt k (st.If x ys other) ≡ st.If (expr_part x) (block_part k ys) (option_map (block_part k) other)
  same_if x ys other = ap (stmt_part (block_part k)) (st.outs-If x ys other)

  same_while : (x : ExprPart) (ys : List StmtPart) → same_stmt k (st.While x ys) ≡ st.While (expr_part x) (block_part k ys)
  same_while x ys = ap (stmt_part (block_part k)) (st.outs-While x ys)

  if_one : (x : ExprPart) (ys : List StmtPart) → OfExpr x → OfBlock two k ys → OfOne (If x ys None) (st.If x ys None)
  if_one x ys h b = record {
    stand = stand-append (expr_tokens x) (block_tokens (stmts_tokens k ys)) h.stand b.stand;
    spell = λ at. (
        let q : ℕ = behind at (word (codes "if") ∷ []) in
        let r = h.spell q in
        let r' = b.spell (behind q (expr_tokens x)) in (
          st.If r.0 r'.0 None,
          rw (placed-append q (expr_tokens x) (block_tokens (stmts_tokens k ys))) (g.if_stmt at r.1 r'.1),
          same_if r.0 r'.0 None ∙ ap (λ z. st.If z (block_part k r'.0) None) r.2 ∙ ap (λ z. st.If (expr_part x) z None) r'.2 ∙ sym (same_if x ys None),
        ));
  }

  if_again : (x : ExprPart) (ys : List StmtPart) → OfExpr x → OfBlock two k ys → OfStmt two k (st.If x ys None)
  if_again x ys h b = subst (λ o. OfOne o (st.If x ys None)) (sym (st.outs-If x ys None)) (if_one x ys h b)

  if_else_one : (x : ExprPart) (ys zs : List StmtPart) → OfExpr x → OfBlock two k ys → OfBlock two k zs → OfOne (If x ys (Some zs)) (st.If x ys (Some zs))
  if_else_one x ys zs h b o = record {
    stand = stand-append (expr_tokens x) (block_tokens (stmts_tokens k ys) ++ word (codes "else") ∷ block_tokens (stmts_tokens k zs)) h.stand
        (stand-append (block_tokens (stmts_tokens k ys)) (word (codes "else") ∷ block_tokens (stmts_tokens k zs)) b.stand o.stand);
    spell = λ at. (
        let q : ℕ = behind at (word (codes "if") ∷ []) in
        let B : List Written = block_tokens (stmts_tokens k ys) in
        let O : List Written = block_tokens (stmts_tokens k zs) in
        let r = h.spell q in
        let q1 : ℕ = behind q (expr_tokens x) in
        let r1 = b.spell q1 in
        let q2 : ℕ = behind q1 B in
        let r2 = o.spell (behind q2 (word (codes "else") ∷ [])) in (
          st.If r.0 r1.0 (Some r2.0),
          rw (placed-append q (expr_tokens x) (B ++ word (codes "else") ∷ O)) (rw (placed-append q1 B (word (codes "else") ∷ O)) (g.if_else at q2 r.1 r1.1 r2.1)),
          same_if r.0 r1.0 (Some r2.0) ∙ ap (λ z. st.If z (block_part k r1.0) (Some (block_part k r2.0))) r.2 ∙ ap (λ z. st.If (expr_part x) z (Some (block_part k r2.0))) r1.2
              ∙ ap (λ z. st.If (expr_part x) (block_part k ys) (Some z)) r2.2 ∙ sym (same_if x ys (Some zs)),
        ));
  }

  if_else_again : (x : ExprPart) (ys zs : List StmtPart) → OfExpr x → OfBlock two k ys → OfBlock two k zs → OfStmt two k (st.If x ys (Some zs))
  if_else_again x ys zs h b o = subst (λ q. OfOne q (st.If x ys (Some zs))) (sym (st.outs-If x ys (Some zs))) (if_else_one x ys zs h b o)

  while_one : (x : ExprPart) (ys : List StmtPart) → OfExpr x → OfBlock two k ys → OfOne (While x ys) (st.While x ys)
  while_one x ys h b = record {
    stand = stand-append (expr_tokens x) (block_tokens (stmts_tokens k ys)) h.stand b.stand;
    spell = λ at. (
        let q : ℕ = behind at (word (codes "while") ∷ []) in
        let r = h.spell q in
        let r' = b.spell (behind q (expr_tokens x)) in (
          st.While r.0 r'.0,
          rw (placed-append q (expr_tokens x) (block_tokens (stmts_tokens k ys))) (g.while_stmt at r.1 r'.1),
          same_while r.0 r'.0 ∙ ap (λ z. st.While z (block_part k r'.0)) r.2 ∙ ap (λ z. st.While (expr_part x) z) r'.2 ∙ sym (same_while x ys),
        ));
  }

  while_again : (x : ExprPart) (ys : List StmtPart) → OfExpr x → OfBlock two k ys → OfStmt two k (st.While x ys)
  while_again x ys h b = subst (λ o. OfOne o (st.While x ys)) (sym (st.outs-While x ys)) (while_one x ys h b)

  trigger_again : (n : Spot) (xs : List ExprPart) (port : Spot) → CanBeNamed n → OfExprs xs → CanBeNamed port → OfStmt two k (st.Trigger n xs port)
  unfolding computing
  trigger_again n xs port c h p = record {
    stand = both (c.stands) (stand-append (with_commas expr_tokens xs) _ h.stand (both (p.stands) refl));
    spell = λ at. (
        let q : ℕ = behind at (word (codes "trigger") ∷ called n ∷ sign (codes "(") ∷ []) in
        let r = h.spell q in
        let q' : ℕ = behind q (with_commas expr_tokens xs) in (
          st.Trigger (at_place n (behind at (word (codes "trigger") ∷ []))) r.0 (at_place port (behind q' (sign (codes ")") ∷ word (codes "at") ∷ []))),
          rw (placed-append q (with_commas expr_tokens xs) (sign (codes ")") ∷ word (codes "at") ∷ called port ∷ semicolon ∷ [])) (g.trigger at _ _ _ _ (name _ c.name) r.1 (name _ p.name)),
          ap (λ z. st.Trigger (spot n) z (spot port)) r.2,
        ));
  }

  answer_again : (a : ℕ) (n : Spot) (xs : List ExprPart) → CanBeNamed n → OfExprs xs → OfStmt two k (st.Answer a n xs)
  unfolding computing
  answer_again a n xs c h = record {
    stand = both (c.stands) (stand-append (with_commas expr_tokens xs) _ h.stand refl);
    spell = λ at. (
        let q : ℕ = behind at (word (codes "answer") ∷ called n ∷ sign (codes "(") ∷ []) in
        let r = h.spell q in (
          st.Answer at (at_place n (behind at (word (codes "answer") ∷ []))) r.0,
          rw (placed-append q (with_commas expr_tokens xs) (sign (codes ")") ∷ semicolon ∷ [])) (g.answer at _ _ _ (name _ c.name) r.1),
          ap (λ z. st.Answer 0 (spot n) z) r.2,
        ));
  }

  create_again : (n m : Spot) (xs : List ExprPart) → CanBeNamed n → CanBeNamed m → OfExprs xs → OfStmt two k (st.Create n m xs)
  unfolding computing
  create_again n m xs c c' h = record {
    stand = both (c.stands) (both (c'.stands) (stand-append (with_commas expr_tokens xs) _ h.stand refl));
    spell = λ at. (
        let q : ℕ = behind at (word (codes "create") ∷ called n ∷ sign (codes ":") ∷ called m ∷ sign (codes "(") ∷ []) in
        let r = h.spell q in (
          st.Create (at_place n (behind at (word (codes "create") ∷ []))) (at_place m (behind at (word (codes "create") ∷ called n ∷ sign (codes ":") ∷ []))) r.0,
          rw (placed-append q (with_commas expr_tokens xs) (sign (codes ")") ∷ semicolon ∷ [])) (g.create at _ _ _ _ (name _ c.name) (name _ c'.name) r.1),
          ap (λ z. st.Create (spot n) (spot m) z) r.2,
        ));
  }

  from_state_again : (n m : Spot) (a : ℕ) → CanBeNamed n → CanBeNamed m → OfStmt two k (st.CreateFromState n m a)
  unfolding computing
  from_state_again n m a c c' = record {
    stand = both (c.stands) (both (c'.stands) refl);
    spell = λ at. (
        let opening : List Written = word (codes "create") ∷ called n ∷ sign (codes ":") ∷ [] in (
          st.CreateFromState (at_place n (behind at (word (codes "create") ∷ []))) (at_place m (behind at opening)) (behind at (word (codes "create") ∷ called n ∷ sign (codes ":") ∷ called m ∷ word (codes "from") ∷ [])),
          g.create_from_state at _ _ _ _ (name _ c.name) (name _ c'.name),
          refl,
        ));
  }

  start_again : (n : Spot) → CanBeNamed n → OfStmt two k (st.Start n)
  unfolding computing
  start_again n c = record { stand = both (c.stands) refl; spell = λ at. (st.Start (at_place n (behind at (word (codes "start") ∷ []))), g.start at _ (name _ c.name), refl) }

  stop_again : (n : Spot) → CanBeNamed n → OfStmt two k (st.Stop n)
  unfolding computing
  stop_again n c = record { stand = both (c.stands) refl; spell = λ at. (st.Stop (at_place n (behind at (word (codes "stop") ∷ []))), g.stop at _ (name _ c.name), refl) }

  destroy_again : (n : Spot) → CanBeNamed n → OfStmt two k (st.Destroy n)
  unfolding computing
  destroy_again n c = record { stand = both (c.stands) refl; spell = λ at. (st.Destroy (at_place n (behind at (word (codes "destroy") ∷ []))), g.destroy at _ (name _ c.name), refl) }

  dump_again : (n : Spot) → CanBeNamed n → OfStmt two k (st.Dump n)
  unfolding computing
  dump_again n c = record { stand = both (c.stands) refl; spell = λ at. (st.Dump (at_place n (behind at (word (codes "dump") ∷ []))), g.dump at _ (name _ c.name), refl) }

  hold_again : (n : Spot) → CanBeNamed n → OfStmt two k (st.Hold n)
  unfolding computing
  hold_again n c = record { stand = both (c.stands) refl; spell = λ at. (st.Hold (at_place n (behind at (word (codes "hold") ∷ []))), g.hold at _ (name _ c.name), refl) }

  resume_again : (n : Spot) → CanBeNamed n → OfStmt two k (st.Resume n)
  unfolding computing
  resume_again n c = record { stand = both (c.stands) refl; spell = λ at. (st.Resume (at_place n (behind at (word (codes "resume") ∷ []))), g.resume at _ (name _ c.name), refl) }

  subscribe_again : (n : Spot) → CanBeNamed n → OfStmt two k (st.Subscribe n)
  unfolding computing
  subscribe_again n c = record { stand = both (c.stands) refl; spell = λ at. (st.Subscribe (at_place n (behind at (word (codes "subscribe") ∷ []))), g.subscribe at _ (name _ c.name), refl) }

  unsubscribe_again : (n : Spot) → CanBeNamed n → OfStmt two k (st.Unsubscribe n)
  unfolding computing
  unsubscribe_again n c = record { stand = both (c.stands) refl; spell = λ at. (st.Unsubscribe (at_place n (behind at (word (codes "unsubscribe") ∷ []))), g.unsubscribe at _ (name _ c.name), refl) }

  unplug_again : (n : Spot) (end : Dir) → CanBeNamed n → OfStmt two k (st.Unplug n end)
  unfolding computing
  unplug_again n end c = record {
    stand = both (c.stands) (both (end_stands end) refl);
    spell = λ at. (st.Unplug (at_place n (behind at (word (codes "unplug") ∷ []))) end, g.unplug at _ _ _ end (name _ c.name), refl);
  }

  plug_again : (n : Spot) (end : Dir) (p : TargetPart) → CanBeNamed n → OfTarget p → OfStmt two k (st.Plug n end p)
  unfolding computing
  plug_again n end p c h = record {
    stand = both (c.stands) (both (end_stands end) (stand-append (target_tokens p) (semicolon ∷ []) h.stand refl));
    spell = λ at. (
        let q : ℕ = behind at (word (codes "plug") ∷ called n ∷ sign (codes ".") ∷ word (end_word end) ∷ word (codes "at") ∷ []) in
        let r = h.spell q in (
          st.Plug (at_place n (behind at (word (codes "plug") ∷ []))) end r.0,
          rw (placed-append q (target_tokens p) (semicolon ∷ [])) (g.plug at _ _ _ _ end (name _ c.name) r.1),
          ap (λ z. st.Plug (spot n) end z) r.2,
        ));
  }

  fail_again : (n a : ℕ) → n ≤ greatest → OfStmt two k (st.Fail (pos n) a)
  unfolding computing
  fail_again n a h =
      let v = number_stands n h in
      record {
        stand = both (v.0) refl;
        spell = λ at. (st.Fail (pos (decimal (fmt.decimal n))) (behind at (word (codes "fail") ∷ [])), g.fail at _ _, ap (λ m. st.Fail (pos m) 0) v.1);
      }

  escalate_again : (a : ℕ) → two ≡ true → OfStmt two k (st.Escalate a)
  unfolding computing
  escalate_again a h = record { stand = refl; spell = λ at. (st.Escalate at, g.escalate at _ h, refl) }

  wrapped : (xs : List StmtPart) → OfStmts two k xs → OfBlock two (suc k) xs
  wrapped xs h = record {
    stand = stand-append (stmts_tokens (suc k) xs) (last (codes "}") ∷ []) h.stand refl;
    spell = λ at. (
        let q : ℕ = behind at (last (codes "{") ∷ []) in
        let r = h.spell q in
        (r.0, rw (placed-append q (stmts_tokens (suc k) xs) (last (codes "}") ∷ [])) (g.block at _ r.1), r.2));
  }

  one_more : (x : StmtPart) (xs : List StmtPart) → OfStmt two k x → OfStmts two k xs → OfStmts two k (x ∷ xs)
  one_more x xs h hs = record {
    stand = stand-append (stmt_tokens (stmts_tokens k) (out-StmtPart x)) (stmts_tokens (suc k) xs) h.stand hs.stand;
    spell = λ at. (
        let r = h.spell at in
        let r' = hs.spell (behind at (stmt_tokens (stmts_tokens k) (out-StmtPart x))) in (
          r.0 ∷ r'.0,
          rw (placed-append at (stmt_tokens (stmts_tokens k) (out-StmtPart x)) (stmts_tokens (suc k) xs)) (g.stmts r.1 r'.1),
          ap (λ z. z ∷ block_part (suc k) r'.0) r.2 ∙ ap (λ zs. same_stmt k x ∷ zs) r'.2,
        ));
  }

mutual
  pub block_again : {two : Bool} {k : ℕ} {t : List Lexeme} {xs : List StmtPart} → SpellsBlock two k t xs → AreSound t → OfBlock two k xs
  block_again {two = two} (g.block {k = k} a b {t = t} {xs = xs} d) sound = wrapped two k xs (stmts_again d (sound-left t _ sound.1))

  pub stmts_again : {two : Bool} {k : ℕ} {t : List Lexeme} {xs : List StmtPart} → SpellsStmts two k t xs → AreSound t → OfStmts two k xs
  stmts_again g.no_stmts sound = record { stand = refl; spell = λ at. ([], g.no_stmts, refl) }
  stmts_again {two = two} (g.stmts {k = k} {t = t} {ts = ts} {x = x} {xs = xs} d ds) sound =
      one_more two k x xs (stmt_again d (sound-left t ts sound)) (stmts_again ds (sound-right t ts sound))

  pub stmt_again : {two : Bool} {k : ℕ} {t : List Lexeme} {x : StmtPart} → SpellsStmt two k t x → AreSound t → OfStmt two k x
  stmt_again {two = two} (g.let_stmt {k = k} a b c {t = t} {u = u} {n = n} {x = x} d f) sound =
      let_again two k n x (named d (sound-left t _ sound.1)) (expr_again u x f (sound-left u _ (sound-right t _ sound.1).1))
  stmt_again {two = two} (g.set {k = k} a b {t = t} {u = u} {n = n} {x = x} d f) sound =
      set_again two k n x (named d (sound-left t _ sound)) (expr_again u x f (sound-left u _ (sound-right t _ sound).1))
  stmt_again {two = two} (g.if_stmt {k = k} a {t = t} {u = u} {x = x} {ys = ys} d f) sound =
      if_again two k x ys (expr_again t x d (sound-left t _ sound.1)) (block_again f (sound-right t _ sound.1))
  stmt_again {two = two} (g.if_else {k = k} a b {t = t} {u = u} {v = v} {x = x} {ys = ys} {zs = zs} d f f') sound =
      let after = sound-right t _ sound.1 in
      if_else_again two k x ys zs (expr_again t x d (sound-left t _ sound.1)) (block_again f (sound-left u _ after)) (block_again f' (sound-right u _ after).1)
  stmt_again {two = two} (g.while_stmt {k = k} a {t = t} {u = u} {x = x} {ys = ys} d f) sound =
      while_again two k x ys (expr_again t x d (sound-left t _ sound.1)) (block_again f (sound-right t _ sound.1))
  stmt_again {two = two} (g.trigger {k = k} a b c d e {t = t} {u = u} {v = v} {n = n} {q = q} {xs = xs} dn dx dq) sound =
      let behind_name = sound-right t _ sound.1 in
      let behind_list = sound-right u _ behind_name.1 in
      trigger_again two k n xs q (named dn (sound-left t _ sound.1)) (exprs_again dx (sound-left u _ behind_name.1)) (named dq (sound-left v _ behind_list.1.1))
  stmt_again {two = two} (g.answer {k = k} a b c d {t = t} {u = u} {n = n} {xs = xs} dn dx) sound =
      answer_again two k a n xs (named dn (sound-left t _ sound.1)) (exprs_again dx (sound-left u _ (sound-right t _ sound.1).1))
  stmt_again {two = two} (g.create {k = k} a b c d e {t = t} {u = u} {v = v} {n = n} {m = m} {xs = xs} dn dm dx) sound =
      let behind_slot = (sound-right t _ sound.1).1 in
      create_again two k n m xs (named dn (sound-left t _ sound.1)) (named dm (sound-left u _ behind_slot)) (exprs_again dx (sound-left v _ (sound-right u _ behind_slot).1))
  stmt_again {two = two} (g.create_from_state {k = k} a b c d e {t = t} {u = u} {n = n} {m = m} dn dm) sound =
      from_state_again two k n m d (named dn (sound-left t _ sound.1)) (named dm (sound-left u _ (sound-right t _ sound.1).1))
  stmt_again {two = two} (g.start {k = k} a b {t = t} {n = n} d) sound = start_again two k n (named d (sound-left t _ sound.1))
  stmt_again {two = two} (g.stop {k = k} a b {t = t} {n = n} d) sound = stop_again two k n (named d (sound-left t _ sound.1))
  stmt_again {two = two} (g.destroy {k = k} a b {t = t} {n = n} d) sound = destroy_again two k n (named d (sound-left t _ sound.1))
  stmt_again {two = two} (g.dump {k = k} a b {t = t} {n = n} d) sound = dump_again two k n (named d (sound-left t _ sound.1))
  stmt_again {two = two} (g.hold {k = k} a b {t = t} {n = n} d) sound = hold_again two k n (named d (sound-left t _ sound.1))
  stmt_again {two = two} (g.resume {k = k} a b {t = t} {n = n} d) sound = resume_again two k n (named d (sound-left t _ sound.1))
  stmt_again {two = two} (g.subscribe {k = k} a b {t = t} {n = n} d) sound = subscribe_again two k n (named d (sound-left t _ sound.1))
  stmt_again {two = two} (g.unsubscribe {k = k} a b {t = t} {n = n} d) sound = unsubscribe_again two k n (named d (sound-left t _ sound.1))
  stmt_again {two = two} (g.unplug {k = k} a b c d {t = t} {n = n} end f) sound = unplug_again two k n end (named f (sound-left t _ sound.1))
  stmt_again {two = two} (g.plug {k = k} a b c d e {t = t} {u = u} {n = n} {p = p} end f f') sound =
      plug_again two k n end p (named f (sound-left t _ sound.1)) (target_again f' (sound-left u _ (sound-right t _ sound.1).1.1.1))
  stmt_again {two = two} (g.fail {k = k} a b c {ds = ds}) sound = fail_again two k (decimal ds) b (small ds b sound.1.0)
  stmt_again {two = two} (g.escalate {k = k} a b h) sound = escalate_again two k a h
