-- What spells an expression is read as it.
use Rattle.std.proofs.Common.{◌≡◌, ℕ, ℤ, pos, zero, suc, ◌+◌, ◌-◌, ◌≤◌, ◌<◌, Bool, true, false, List, [], ◌∷◌, ◌++◌, Option, Some, None, refl, sym, ◌∙◌, subst, arith, append_assoc}
use Rattle.std.specs.Prelude.{codes, ◌==◌, bytes_eq}
use Rattle.std.proofs.lemmas.Bool.{ne_eqb, eqb-true, eqb-false}
use Rattle.kom_lang.specs.declared.expr.Binary.{Binary}
use Rattle.kom_lang.specs.declared.expr.Binary.TheVariants as b
use Rattle.kom_system.specs.declared.parts.Spot.{Spot}
use Rattle.kom_system.specs.declared.parts.ExprPart.{ExprPart}
use Rattle.kom_system.specs.declared.parts.ExprPart.TheVariants as e
use Rattle.kom_text.specs.declared.token.TokenKind.TheVariants.{Word, Sign}
use Rattle.kom_text.specs.Numbers.{decimal}
use Rattle.kom_parse.specs.Lexemes.{Lexeme, word_lexeme, sign_lexeme, number_lexeme}
use Rattle.kom_parse.specs.Input.{Read, Parser, and_then, ◌>>=◌, pure, first, want, eat_if, loop}
use Rattle.kom_parse.specs.Rules.{is_exactly, number, sign_in, eat}
use Rattle.kom_parse.proofs.Laws.{loop_stops}
use Rattle.kom_parse.proofs.Tokens.{bytes_is, exactly_reads, name_reads, number_reads}
use Rattle.kom_grammar.specs.Words.{is_name, SpellsName, name as spells_name, sign_of, level_of}
use Rattle.kom_grammar.specs.Expressions.{comparison, whole as whole_level, SpellsAt, number as spells_number, name as a_name, attribute as an_attribute, in_parens, negative, inverse, alone, chain, compare, SpellsExpr, max_parens, max_operators, SpellsInt, plain, minus}
use Rattle.kom_exprs.specs.declared.operators.Unary.{Unary}
use Rattle.kom_exprs.specs.declared.operators.Unary.TheVariants as u
use Rattle.kom_exprs.specs.Reading.{Found, unary_sign, with_unary, binary_of, of_level, unary_in, operator_in, operator, unary_operator, attribute, operand, unary, operation, after_one, level, parens_at, expr, int}
use Rattle.kom_exprs.proofs.ExprReads.{chain_goes, level_reader, parens_reader, operator_in-sign_of, binary_of-sign_of}

-- no operator is of the level of operands
level_least : (op : Binary) → 0 < level_of op
level_least b.Or = omega arith
level_least _ = omega arith

none_by : (o : Option Binary) (j : ℕ) → j ≤ 0 → of_level j o ≡ None
none_by None j less = refl
none_by (Some op) j less = rw (ne_eqb (level_of op) j (λ is. omega (arith, level_least op))) refl

none : (j : ℕ) (o : Option Lexeme) → j ≤ 0 → operator_in j o ≡ None
none j o less = by_case (sign_in o) refl where
  by_case : (s : Option (List ℕ)) → sign_in o ≡ s → operator_in j o ≡ None
  by_case None h = rw h refl
  by_case (Some bytes) h = rw h (none_by (binary_of bytes) j less)

-- no operator of these levels comes next
abbrev pub Stops : ℕ → Option Lexeme → Type 0
Stops h o = (j : ℕ) → j ≤ h → operator_in j o ≡ None

pub level_most : (op : Binary) → level_of op < 6
level_most b.Or = omega arith
level_most _ = omega arith

stops_at_looser : (op : Binary) (a h : ℕ) → h < level_of op → Stops h (Some (sign_lexeme (sign_of op) a))
stops_at_looser op a h less j h' = rw (binary_of-sign_of, ne_eqb (level_of op) j (λ is. omega arith)) refl

operand_number : (ds : List ℕ) (a : ℕ) (after : List Lexeme) → operand (number_lexeme ds a ∷ after) ≡ Read (e.Number (pos (decimal ds))) after
unfolding operand number want
operand_number ds a after = refl

operand_name : (w : List ℕ) (a : ℕ) (after : List Lexeme) → is_name w ≡ true → operand (word_lexeme w a ∷ after) ≡ Read (e.Name (record { name = w; at = a })) after
unfolding operand
operand_name w a after h = rw (not_it w h, name_reads is_name w a after h) refl
  where
    not_it : (w : List ℕ) → is_name w ≡ true → bytes_eq w (codes "it") ≡ false
    not_it w h = by_case (bytes_eq w (codes "it")) refl
      where
        by_case : (t : Bool) → bytes_eq w (codes "it") ≡ t → bytes_eq w (codes "it") ≡ false
        by_case false e = e
        by_case true e = absurd (let k : false ≡ true = rw (bytes_is w (codes "it") e) at h in cc)

operand_attribute : (a d : ℕ) (w : List ℕ) (c : ℕ) (after : List Lexeme) → is_name w ≡ true
    → operand (word_lexeme (codes "it") a ∷ sign_lexeme (codes ".") d ∷ word_lexeme w c ∷ after) ≡ Read (e.It a (record { name = w; at = c })) after
unfolding operand attribute
operand_attribute a d w c after h = rw (exactly_reads Word (codes "it") a, exactly_reads Sign (codes ".") d, name_reads is_name w c after h) refl

-- a token that is no parenthesis and no unary operator begins an operand
unary_operand : (parens : ℕ → Parser Found) (k : ℕ) (l : Lexeme) (ts after : List Lexeme) (x : ExprPart) → is_exactly Sign (codes "(") (Some l) ≡ false → unary_in (Some l) ≡ None
    → operand (l ∷ ts) ≡ Read x after → unary parens k (l ∷ ts) ≡ Read (x, k) after
unfolding unary
unary_operand parens zero l ts after x h u e = rw (h, u, e) refl
unary_operand parens (suc k) l ts after x h u e = rw (h, u, e) refl

unary_unary : (parens : ℕ → Parser Found) (k : ℕ) (op : Unary) (a : ℕ) (ts : List Lexeme)
    → unary parens (suc k) (sign_lexeme (unary_sign op) a ∷ ts) ≡ and_then (unary parens k ts) (λ x. pure (with_unary op x.0, x.1))
unfolding unary unary_operator want
unary_unary parens k u.Neg a ts = refl
unary_unary parens k u.Not a ts = refl

unary_parens : (parens : ℕ → Parser Found) (k a : ℕ) (ts : List Lexeme) → unary parens k (sign_lexeme (codes "(") a ∷ ts) ≡ parens k (sign_lexeme (codes "(") a ∷ ts)
unfolding unary
unary_parens parens zero a ts = refl
unary_parens parens (suc k) a ts = refl

operator_reads : (h : ℕ) (op : Binary) (a : ℕ) (ts : List Lexeme) → level_of op ≡ h → operator h (sign_lexeme (sign_of op) a ∷ ts) ≡ Read op ts
unfolding operator want
operator_reads h op a ts is = rw (operator_in-sign_of op h a is) refl

module _ (parens : ℕ → Parser Found) (h : ℕ) (operand : ℕ → Parser Found) where
  operation_none : (x : Found) (after : List Lexeme) → operator_in h (first after) ≡ None → operation parens h operand x after ≡ Read None after
  unfolding operation
  operation_none x after e = rw e refl

  operation_some : (op : Binary) (a : ℕ) → level_of op ≡ h → (x y : ExprPart) (k left : ℕ) (ts after : List Lexeme) → operand k ts ≡ Read (y, left) after
      → operation parens h operand (x, suc k) (sign_lexeme (sign_of op) a ∷ ts) ≡ Read (Some (e.Pair op x y, left)) after
  unfolding operation
  operation_some op a is x y k left ts after e = rw (operator_in-sign_of op h a is, operator_reads h op a ts is, e) refl

pub record Whole (p h n : ℕ) (t : List Lexeme) (x : ExprPart) : Type 0 where
  pub whole : (k left : ℕ) (after : List Lexeme) → n + left ≡ k → Stops h (first after) → level (parens_at p) h k (t ++ after) ≡ Read (x, left) after
  pub part : (g k left : ℕ) (after : List Lexeme) → h ≡ suc g → (suc g ≡ comparison → ⊥) → n + left ≡ k → Stops g (first after)
      → level (parens_at p) (suc g) k (t ++ after) ≡ loop (operation (parens_at p) (suc g) (level (parens_at p) g)) (x, left) after

-- the level of a chain, and of a comparison
pub level_of_chain : (parens : ℕ → Parser Found) (h k : ℕ) (ts : List Lexeme) → (suc h ≡ comparison → ⊥)
    → level parens (suc h) k ts ≡ and_then (level parens h k ts) (λ x. loop (operation parens (suc h) (level parens h)) x)
unfolding level
level_of_chain parens h k ts no_cmp = rw (ne_eqb (suc h) comparison no_cmp) refl

level_of_cmp : (parens : ℕ → Parser Found) (k : ℕ) (ts : List Lexeme)
    → level parens comparison k ts ≡ and_then (level parens 2 k ts) (λ x. operation parens comparison (level parens 2) x >>= after_one parens x)
unfolding level
level_of_cmp parens k ts = refl

-- an operator and its operand are next
room_left : (n m left k : ℕ) → suc (n + m) + left ≡ k → (n + suc (m + left) ≡ k) × (m + left ≡ m + left)
room_left n m left k e = (omega (arith, e), refl)

module _ (p : ℕ) where
  at_level : ℕ → ℕ → Parser Found
  at_level = level (parens_at p)

  whole_alone_chain : {h n : ℕ} {t : List Lexeme} {x : ExprPart} → (suc h ≡ comparison → ⊥) → Whole p h n t x → (k left : ℕ) (after : List Lexeme) → n + left ≡ k → Stops h (first after)
      → level (parens_at p) (suc h) k (t ++ after) ≡ loop (operation (parens_at p) (suc h) (level (parens_at p) h)) (x, left) after
  whole_alone_chain {h} {n} {t} no_cmp w k left after room stops = level_of_chain (parens_at p) h k (t ++ after) no_cmp ∙ rw (w.whole k left after room stops) refl

  chain_stops : (h : ℕ) (x : Found) (after : List Lexeme) → Stops (suc h) (first after) → loop (operation (parens_at p) (suc h) (level (parens_at p) h)) x after ≡ Read x after
  chain_stops h x after stops = loop_stops _ x after after (operation_none (parens_at p) (suc h) (level (parens_at p) h) x after (stops (suc h) (omega arith)))

  looser : (h : ℕ) (o : Option Lexeme) → Stops (suc h) o → Stops h o
  looser h o stops j less = stops j (omega arith)

  -- a chain's rule: by its part
  by_part : {h n : ℕ} {t : List Lexeme} {x : ExprPart} → (suc h ≡ comparison → ⊥)
      → ((k left : ℕ) (after : List Lexeme) → n + left ≡ k → Stops h (first after)
      → level (parens_at p) (suc h) k (t ++ after) ≡ loop (operation (parens_at p) (suc h) (level (parens_at p) h)) (x, left) after)
      → Whole p (suc h) n t x
  by_part {h} {n} {t} {x} no_cmp part = record {
    whole = λ k left after room stops. part k left after room (looser h (first after) stops) ∙ chain_stops h (x, left) after stops;
    part = λ g k left after same no_cmp' room stops.
        let h_is : h ≡ g = omega arith in
        subst (λ g. Stops g (first after) → level (parens_at p) (suc g) k (t ++ after) ≡ loop (operation (parens_at p) (suc g) (level (parens_at p) g)) (x, left) after)
        h_is (part k left after room) stops;
  }

  whole_chain : {h n m : ℕ} {t u : List Lexeme} {x y : ExprPart} (op : Binary) (a : ℕ) → level_of op ≡ suc h → (suc h ≡ comparison → ⊥) → Whole p (suc h) n t x → Whole p h m u y
      → (k left : ℕ) (after : List Lexeme) → suc (n + m) + left ≡ k → Stops h (first after)
      → level (parens_at p) (suc h) k ((t ++ sign_lexeme (sign_of op) a ∷ u) ++ after) ≡ loop (operation (parens_at p) (suc h) (level (parens_at p) h)) (e.Pair op x y, left) after
  whole_chain {h} {n} {m} {t} {u} {x} {y} op a is no_cmp wx wy k left after room stops =
      let regroup : (t ++ sign_lexeme (sign_of op) a ∷ u) ++ after ≡ t ++ (sign_lexeme (sign_of op) a ∷ (u ++ after)) = append_assoc t (sign_lexeme (sign_of op) a ∷ u) after in
      let less : h < 5 = omega (arith, level_most op, is) in
      rw regroup (wx.part h k (suc (m + left)) (sign_lexeme (sign_of op) a ∷ (u ++ after)) refl no_cmp (omega arith) (stops_at_looser op a h (omega arith))
      ∙ chain_goes (parens_at p) p (parens_reader p) (level (parens_at p) h) h less no_cmp (level_reader (parens_at p) p (parens_reader p) h (omega arith))
      (x, suc (m + left)) (e.Pair op x y, left) (sign_lexeme (sign_of op) a ∷ (u ++ after)) after
      (operation_some (parens_at p) (suc h) (level (parens_at p) h) op a is x y (m + left) left (u ++ after) after (wy.whole (m + left) left after refl stops)))

  whole_compare : {n m : ℕ} {t u : List Lexeme} {x y : ExprPart} (op : Binary) (a : ℕ) → level_of op ≡ comparison → Whole p 2 n t x → Whole p 2 m u y
      → (k left : ℕ) (after : List Lexeme) → suc (n + m) + left ≡ k → Stops comparison (first after)
      → level (parens_at p) comparison k ((t ++ sign_lexeme (sign_of op) a ∷ u) ++ after) ≡ Read (e.Pair op x y, left) after
  whole_compare {n} {m} {t} {u} {x} {y} op a is wx wy k left after room stops =
      let regroup : (t ++ sign_lexeme (sign_of op) a ∷ u) ++ after ≡ t ++ (sign_lexeme (sign_of op) a ∷ (u ++ after)) = append_assoc t (sign_lexeme (sign_of op) a ∷ u) after in
      rw (regroup, level_of_cmp) (rw (
        wx.whole k (suc (m + left)) (sign_lexeme (sign_of op) a ∷ (u ++ after)) (omega arith) (stops_at_looser op a 2 (omega arith)),
        operation_some (parens_at p) comparison (level (parens_at p) 2) op a is x y (m + left) left (u ++ after) after (wy.whole (m + left) left after refl (looser 2 (first after) stops)),
      ) refl)

  whole_alone_cmp : {n : ℕ} {t : List Lexeme} {x : ExprPart} → Whole p 2 n t x → (k left : ℕ) (after : List Lexeme) → n + left ≡ k → Stops comparison (first after)
      → level (parens_at p) comparison k (t ++ after) ≡ Read (x, left) after
  whole_alone_cmp {n} {t} {x} w k left after room stops =
      rw level_of_cmp (rw (
        w.whole k left after room (looser 2 (first after) stops),
        operation_none (parens_at p) comparison (level (parens_at p) 2) (x, left) after (stops comparison (omega arith)),
      ) refl)

-- a rule for one operand: nothing is said of parts, since 0 has no chain
by_whole : {p n : ℕ} {t : List Lexeme} {x : ExprPart} → ((k left : ℕ) (after : List Lexeme) → n + left ≡ k → level (parens_at p) 0 k (t ++ after) ≡ Read (x, left) after) → Whole p 0 n t x
by_whole f = record { whole = λ k left after room stops. f k left after room; part = λ g k left after same no_cmp room stops. absurd cc }

-- a comparison has no part either
by_cmp : {p n : ℕ} {t : List Lexeme} {x : ExprPart} → ((k left : ℕ) (after : List Lexeme) → n + left ≡ k → Stops comparison (first after) → level (parens_at p) comparison k (t ++ after) ≡ Read (x, left) after) → Whole p comparison n t x
by_cmp f = record { whole = f; part = λ g k left after same no_cmp room stops. absurd (no_cmp (sym same)) }

whole_alone : (p h n : ℕ) (t : List Lexeme) (x : ExprPart) (is_cmp : Bool) → (suc h == comparison) ≡ is_cmp → Whole p h n t x → Whole p (suc h) n t x
whole_alone p h n t x true is w =
    let same : 2 ≡ h = omega (arith, eqb-true (suc h) comparison is) in
    subst (λ h. Whole p h n t x → Whole p (suc h) n t x) same (λ w. by_cmp (whole_alone_cmp p w)) w
whole_alone p h n t x false is w = let no_cmp : suc h ≡ comparison → ⊥ = eqb-false (suc h) comparison is in by_part p no_cmp (whole_alone_chain p no_cmp w)

level_zero : (parens : ℕ → Parser Found) (k : ℕ) (ts : List Lexeme) → level parens 0 k ts ≡ unary parens k ts
unfolding level
level_zero parens k ts = refl

-- an operand that begins with a token that is no parenthesis and no unary operator
whole_operand : (p : ℕ) (l : Lexeme) (t : List Lexeme) (x : ExprPart) → is_exactly Sign (codes "(") (Some l) ≡ false → unary_in (Some l) ≡ None
    → ((after : List Lexeme) → operand (l ∷ (t ++ after)) ≡ Read x after) → Whole p 0 0 (l ∷ t) x
whole_operand p l t x h u f = by_whole (λ k left after room.
    let same : left ≡ k = omega arith in rw (level_zero, same) (unary_operand (parens_at p) k l (t ++ after) after x h u (f after)))

parens_read : (p k a c : ℕ) (t : List Lexeme) (x : ExprPart) (left n : ℕ) (after : List Lexeme) → Whole p whole_level n t x → n + left ≡ k
    → parens_at (suc p) k (sign_lexeme (codes "(") a ∷ ((t ++ sign_lexeme (codes ")") c ∷ []) ++ after)) ≡ Read (x, left) after
unfolding parens_at
parens_read p k a c t x left n after w room =
    rw (exactly_reads Sign (codes "(") a, append_assoc t (sign_lexeme (codes ")") c ∷ []) after, w.whole k left (sign_lexeme (codes ")") c ∷ after) room (λ j less. refl), exactly_reads Sign (codes ")") c) refl

whole_parens : (p n a c : ℕ) (t : List Lexeme) (x : ExprPart) → Whole p whole_level n t x → Whole (suc p) 0 n (sign_lexeme (codes "(") a ∷ (t ++ sign_lexeme (codes ")") c ∷ [])) x
whole_parens p n a c t x w = by_whole (λ k left after room.
    rw level_zero (unary_parens (parens_at (suc p)) k a ((t ++ sign_lexeme (codes ")") c ∷ []) ++ after) ∙ parens_read p k a c t x left n after w room))

whole_unary : (p n : ℕ) (t : List Lexeme) (x : ExprPart) (op : Unary) (a : ℕ) → Whole p 0 n t x → Whole p 0 (suc n) (sign_lexeme (unary_sign op) a ∷ t) (with_unary op x)
whole_unary p n t x op a w = by_whole (λ k left after room. more k left after room) where
  more : (k left : ℕ) (after : List Lexeme) → suc n + left ≡ k → level (parens_at p) 0 k (sign_lexeme (unary_sign op) a ∷ (t ++ after)) ≡ Read (with_unary op x, left) after
  more zero left after room = absurd (omega arith)
  more (suc k) left after room =
      let inner : unary (parens_at p) k (t ++ after) ≡ Read (x, left) after = sym (level_zero (parens_at p) k (t ++ after)) ∙ w.whole k left after (omega (arith, room)) (λ j less. none j (first after) less) in
      rw level_zero (unary_unary (parens_at p) k op a (t ++ after) ∙ rw inner refl)

whole_name : {t : List Lexeme} {n : Spot} (p : ℕ) → SpellsName t n → Whole p 0 0 t (e.Name n)
whole_name p (spells_name {bytes = w} a h) = whole_operand p (word_lexeme w a) [] (e.Name (record { name = w; at = a })) refl refl (λ after. operand_name w a after h)

whole_attribute : {t : List Lexeme} {n : Spot} (p a d : ℕ) → SpellsName t n → Whole p 0 0 (word_lexeme (codes "it") a ∷ sign_lexeme (codes ".") d ∷ t) (e.It a n)
whole_attribute p a d (spells_name {bytes = w} c h) =
    whole_operand p (word_lexeme (codes "it") a) (sign_lexeme (codes ".") d ∷ word_lexeme w c ∷ []) (e.It a (record { name = w; at = c })) refl refl (λ after. operand_attribute a d w c after h)

pub whole : {p h n : ℕ} {t : List Lexeme} {x : ExprPart} → SpellsAt p h n t x → Whole p h n t x
whole (spells_number {p = p} a {ds = ds}) = whole_operand p (number_lexeme ds a) [] (e.Number (pos (decimal ds))) refl refl (λ after. operand_number ds a after)
whole (a_name {p = p} d) = whole_name p d
whole (an_attribute {p = p} a b d) = whole_attribute p a b d
whole (in_parens {p = p} {n = n} a c {t = t} {x = x} d) = whole_parens p n a c t x (whole d)
whole (negative {p = p} {n = n} a {t = t} {x = x} d) = whole_unary p n t x u.Neg a (whole d)
whole (inverse {p = p} {n = n} a {t = t} {x = x} d) = whole_unary p n t x u.Not a (whole d)
whole (alone {p = p} {l = h} {n = n} {t = t} {x = x} d) = whole_alone p h n t x (suc h == comparison) refl (whole d)
whole (chain {p = p} a op is no_cmp d d') = by_part p no_cmp (whole_chain p op a is no_cmp (whole d) (whole d'))
whole (compare {p = p} a op is d d') = by_cmp (whole_compare p op a is (whole d) (whole d'))

pub expr_whole : (t : List Lexeme) (x : ExprPart) (after : List Lexeme) → SpellsExpr t x → Stops whole_level (first after) → expr (t ++ after) ≡ Read x after
unfolding expr
expr_whole t x after (n, less, d) stops =
    let w : Whole max_parens whole_level n t x = whole d in
    rw (w.whole max_operators (max_operators - n) after (omega arith) stops) refl

-- a number is read whatever follows
pub int_whole : (t : List Lexeme) (i : ℤ) (after : List Lexeme) → SpellsInt t i → int (t ++ after) ≡ Read i after
unfolding int eat eat_if
int_whole t i after (plain a {ds = ds}) = rw (number_reads ds a after) refl
int_whole t i after (minus a b {ds = ds}) = rw (number_reads ds b after) refl
