-- What the rules of expressions read is spelled so, and what they refuse had begun one.
use Rattle.std.proofs.Common.{◌≡◌, ℕ, pos, neg_ℤ, zero, suc, ◌+◌, ◌<◌, Bool, true, false, List, [], ◌∷◌, ◌++◌, Option, Some, None, refl, sym, ◌∙◌, ap, subst, arith, if◌then◌else◌, append_assoc, add-zero}
use Rattle.std.specs.Prelude.{is_some, codes, ◌==◌}
use Rattle.std.proofs.lemmas.Bool.{eqb-true, eqb-false}
use Rattle.std.proofs.lemmas.Bool.Decides.{Decides-eqb}
use Rattle.std.proofs.lemmas.List.{append-nil}
use Rattle.kom_lang.specs.declared.expr.Binary.{Binary}
use Rattle.kom_lang.specs.declared.expr.Binary.TheVariants as b
use Rattle.kom_system.specs.declared.parts.ExprPart.{ExprPart}
use Rattle.kom_system.specs.declared.parts.ExprPart.TheVariants as e
use Rattle.kom_text.specs.declared.token.TokenKind.TheVariants.{Word, Sign}
use Rattle.kom_text.specs.Numbers.{decimal}
use Rattle.kom_parse.specs.Lexemes.{Lexeme, word_lexeme, sign_lexeme, number_lexeme}
use Rattle.kom_parse.specs.Input.{Read, Parser, ◌>>=◌, refuse, loop}
use Rattle.kom_parse.specs.Rules.{is_kind, is_exactly, number_in, sign_in}
use Rattle.kom_parse.proofs.Laws.{IsReader, bind, pure_reader, refuse_reader, by_next_reader, want_then, wider, then_give, if_reader, Turned, loop_reader, loop_goes}
use Rattle.kom_parse.proofs.Tokens.{kind_is, exactly_then, eat_token_then, name_then, number_then, by_bytes-is}
use Rattle.kom_grammar.specs.Words.{is_name, name as spells_name, sign_of, level_of}
use Rattle.kom_grammar.specs.Expressions.{comparison, whole, SpellsAt, number as spells_number, name as a_name, attribute as an_attribute, in_parens, negative, inverse, alone, chain, compare, SpellsExpr, max_parens, max_operators, SpellsInt, plain, minus}
use Rattle.kom_exprs.specs.declared.operators.Unary.{Unary}
use Rattle.kom_exprs.specs.declared.operators.Unary.TheVariants as u
use Rattle.kom_exprs.specs.Reading.{Found, unary_sign, with_unary, unary_signs, binary_signs, unary_of, binary_of, unary_in, operator_in, operator, unary_operator, attribute, operand_by, operand, term_by, unary, operation_by, operation, after_one, level, parens_at, expr, int}

-- some name
abbrev pub some_word : List ℕ
some_word = 120 ∷ []

-- A value of so many operators, where as many are left over as are not in it.
pub record FoundAt (p h k : ℕ) (t : List Lexeme) (x : Found) : Type 0 where
  pub count : ℕ
  pub room : count + x.1 ≡ k
  pub spells : SpellsAt p h count t x.0

-- what an operator and its right operand make of the left one
pub data Operated (p h : ℕ) (x : ExprPart) : (k : ℕ) → List Lexeme → Option Found → Type 0 where
  no_operator : {k : ℕ} → Operated p h x k [] None
  an_operator : {k m left a : ℕ} {t : List Lexeme} {y : ExprPart} (op : Binary) → level_of op ≡ suc h → SpellsAt p h m t y → m + left ≡ k
      → Operated p h x (suc k) (sign_lexeme (sign_of op) a ∷ t) (Some (e.Pair op x y, left))

-- what goes on with a chain
pub record ChainFrom (p h : ℕ) (x : Found) (t : List Lexeme) (y : Found) : Type 0 where
  pub count : ℕ
  pub room : count + y.1 ≡ x.1
  pub spells : (before : List Lexeme) (n : ℕ) → SpellsAt p (suc h) n before x.0 → SpellsAt p (suc h) (n + count) (before ++ t) y.0

-- ---- operators by their signs

unary_of_is : (bytes : List ℕ) (op : Unary) → unary_of bytes ≡ Some op → bytes ≡ unary_sign op
unary_of_is bytes op e = by_bytes-is unary_sign bytes unary_signs op (refl, (refl, tt)) e

binary_of_is : (bytes : List ℕ) (op : Binary) → binary_of bytes ≡ Some op → bytes ≡ sign_of op
binary_of_is bytes op e = by_bytes-is sign_of bytes binary_signs op (refl, (refl, (refl, (refl, (refl, (refl, (refl, (refl, (refl, (refl, (refl, (refl, (refl, tt))))))))))))) e

-- the token is the sign that was found
sign_is : (l : Lexeme) (bytes : List ℕ) → sign_in (Some l) ≡ Some bytes → l ≡ sign_lexeme bytes l.at
sign_is l bytes e = by_case (is_kind l.kind Sign) refl where
  by_case : (t : Bool) → is_kind l.kind Sign ≡ t → l ≡ sign_lexeme bytes l.at
  by_case false h = absurd (let e' = rw h at e in cc)
  by_case true h =
      let kind : l.kind ≡ Sign = kind_is l.kind Sign h in
      let is : l.bytes ≡ bytes = let e' = rw h at e in cc in
      rw (← kind, ← is) refl

unary_in_is : (l : Lexeme) (op : Unary) → unary_in (Some l) ≡ Some op → l ≡ sign_lexeme (unary_sign op) l.at
unary_in_is l op e = by_case (sign_in (Some l)) refl where
  by_case : (o : Option (List ℕ)) → sign_in (Some l) ≡ o → l ≡ sign_lexeme (unary_sign op) l.at
  by_case None h = absurd (let e' = rw h at e in cc)
  by_case (Some bytes) h =
      let e' : unary_of bytes ≡ Some op = rw h at e in
      let P : List ℕ → Type 0 = λ s. l ≡ sign_lexeme s l.at in
      subst P (unary_of_is bytes op e') (sign_is l bytes h)

operator_in_is : (h : ℕ) (l : Lexeme) (op : Binary) → operator_in h (Some l) ≡ Some op → (l ≡ sign_lexeme (sign_of op) l.at) × (level_of op ≡ h)
operator_in_is h l op e = by_case (sign_in (Some l)) refl where
  by_level : (bytes : List ℕ) (found : Binary) (t : Bool) → sign_in (Some l) ≡ Some bytes → binary_of bytes ≡ Some found → (level_of found == h) ≡ t → (l ≡ sign_lexeme (sign_of op) l.at) × (level_of op ≡ h)
  by_level bytes found true is is' h' =
      let e' = rw (is, is', h') at e in
      let v : found ≡ op = cc in
      let P : List ℕ → Type 0 = λ s. l ≡ sign_lexeme s l.at in
      (subst P (binary_of_is bytes op (is' ∙ ap Some v)) (sign_is l bytes is), ap level_of (sym v) ∙ eqb-true (level_of found) h h')
  by_level bytes found false is is' h' = absurd (let e' = rw (is, is', h') at e in cc)

  by_binary : (bytes : List ℕ) (o : Option Binary) → sign_in (Some l) ≡ Some bytes → binary_of bytes ≡ o → (l ≡ sign_lexeme (sign_of op) l.at) × (level_of op ≡ h)
  by_binary bytes None is is' = absurd (let e' = rw (is, is') at e in cc)
  by_binary bytes (Some found) is is' = by_level bytes found (level_of found == h) is is' refl

  by_case : (o : Option (List ℕ)) → sign_in (Some l) ≡ o → (l ≡ sign_lexeme (sign_of op) l.at) × (level_of op ≡ h)
  by_case None is = absurd (let e' = rw is at e in cc)
  by_case (Some bytes) is = by_binary bytes (binary_of bytes) is refl

-- an operand that is a name
x_at : (p k : ℕ) → FoundAt p 0 k (word_lexeme some_word 0 ∷ []) (e.Name (record { name = some_word; at = 0 }), k)
x_at p k = record { count = 0; room = omega arith; spells = a_name (spells_name 0 refl) }

unary_then : {B : Type 0} (q : Unary → Parser B) (L : List Lexeme → B → Type 0) → ((op : Unary) (a : ℕ) → IsReader (q op) (λ u b. L (sign_lexeme (unary_sign op) a ∷ u) b))
    → IsReader (unary_operator >>= q) L
unfolding unary_operator
unary_then q L r = want_then unary_in refl q L (sign_lexeme (codes "-") 0) u.Neg refl
    (λ l op e. subst (λ x. IsReader (q op) (λ u b. L (x ∷ u) b)) (sym (unary_in_is l op e)) (r op l.at))

pub binary_of-sign_of : (op : Binary) → binary_of (sign_of op) ≡ Some op
binary_of-sign_of b.Or = refl
binary_of-sign_of _ = refl

eqb_self : (n : ℕ) → (n == n) ≡ true
eqb_self n = (Decides-eqb n n).1 refl

pub operator_in-sign_of : (op : Binary) (h a : ℕ) → level_of op ≡ h → operator_in h (Some (sign_lexeme (sign_of op) a)) ≡ Some op
operator_in-sign_of op h a is = rw (binary_of-sign_of, is, eqb_self) refl

-- every level but that of operands has an operator
op_at : (h : ℕ) → h < 5 → (op : Binary) × (level_of op ≡ suc h)
op_at zero less = (b.Mul, refl)
op_at (suc zero) less = (b.Add, refl)
op_at (suc (suc zero)) less = (b.Lt, refl)
op_at (suc (suc (suc zero))) less = (b.And, refl)
op_at (suc (suc (suc (suc zero)))) less = (b.Or, refl)
op_at (suc (suc (suc (suc (suc h))))) less = absurd (omega arith)

operator_then : {B : Type 0} (h : ℕ) → h < 5 → (q : Binary → Parser B) (L : List Lexeme → B → Type 0)
    → ((op : Binary) (a : ℕ) → level_of op ≡ suc h → IsReader (q op) (λ u b. L (sign_lexeme (sign_of op) a ∷ u) b)) → IsReader (operator (suc h) >>= q) L
unfolding operator
operator_then h less q L r =
    let w = op_at h less in
    want_then (operator_in (suc h)) refl q L (sign_lexeme (sign_of w.0) 0) w.0 (operator_in-sign_of w.0 (suc h) 0 w.1)
    (λ l op e. let k = operator_in_is (suc h) l op e in subst (λ x. IsReader (q op) (λ u b. L (x ∷ u) b)) (sym k.0) (r op l.at k.1))

-- ---- operands

-- what spells an operand, with no operator and no parenthesis
abbrev pub SpellsOperand : List Lexeme → ExprPart → Type 0
SpellsOperand t x = (p : ℕ) → SpellsAt p 0 0 t x

attribute_reader : IsReader attribute SpellsOperand
unfolding attribute
attribute_reader = exactly_then Word (codes "it") _ SpellsOperand (λ a. exactly_then Sign (codes ".") _ (λ u b. SpellsOperand (word_lexeme (codes "it") a ∷ u) b) (λ d.
    name_then is_name some_word refl _ (λ u b. SpellsOperand (word_lexeme (codes "it") a ∷ sign_lexeme (codes ".") d ∷ u) b) (λ n h.
    pure_reader (λ u b. SpellsOperand (word_lexeme (codes "it") a ∷ sign_lexeme (codes ".") d ∷ word_lexeme n.name n.at ∷ u) b) (e.It a n) (λ p. an_attribute a d (spells_name n.at h)))))

operand_reader : IsReader operand SpellsOperand
unfolding operand
operand_reader = by_next_reader _ SpellsOperand (λ o. by_case (is_some (number_in o)) (is_exactly Word (codes "it") o)) where
  by_case : (is_number is_it : Bool) → IsReader (operand_by is_number is_it) SpellsOperand
  by_case true is_it = number_then _ SpellsOperand (λ ds a. pure_reader (λ u b. SpellsOperand (number_lexeme ds a ∷ u) b) (e.Number (pos (decimal ds))) (λ p. spells_number a))
  by_case false true = attribute_reader
  by_case false false = name_then is_name some_word refl _ SpellsOperand (λ n h. pure_reader (λ u b. SpellsOperand (word_lexeme n.name n.at ∷ u) b) (e.Name n) (λ p. a_name (spells_name n.at h)))

with_sign : (op : Unary) (a : ℕ) {p n : ℕ} {t : List Lexeme} {y : ExprPart} → SpellsAt p 0 n t y → SpellsAt p 0 (suc n) (sign_lexeme (unary_sign op) a ∷ t) (with_unary op y)
with_sign u.Neg a d = negative a d
with_sign u.Not a d = inverse a d

module _ (parens : ℕ → Parser Found) (p : ℕ) (in_them : (k : ℕ) → IsReader (parens k) (FoundAt p 0 k)) where
  term_reader : (inner : Parser Found) (k : ℕ) → IsReader inner (FoundAt p 0 k) → (o : Option Lexeme) → IsReader (term_by parens inner k o) (FoundAt p 0 k)
  term_reader inner k r o =
      if_reader (FoundAt p 0 k) _ (in_them k) (if_reader (FoundAt p 0 k) _ r
      (then_give SpellsOperand (λ x. (x, k)) (FoundAt p 0 k) operand_reader (λ t x d. record { count = 0; room = omega arith; spells = d p })))

  pub unary_reader : (k : ℕ) → IsReader (unary parens k) (FoundAt p 0 k)
  unfolding unary
  unary_reader zero = by_next_reader _ (FoundAt p 0 0) (term_reader refuse 0 (refuse_reader (FoundAt p 0 0) _ _ (x_at p 0)))
  unary_reader (suc k) =
      let ih = unary_reader k in
      by_next_reader _ (FoundAt p 0 (suc k)) (term_reader _ (suc k)
      (unary_then _ (FoundAt p 0 (suc k)) (λ op a. then_give (FoundAt p 0 k) (λ x. (with_unary op x.0, x.1)) (λ u b. FoundAt p 0 (suc k) (sign_lexeme (unary_sign op) a ∷ u) b) ih
      (λ t x w. record { count = suc w.count; room = omega (arith, w.room); spells = with_sign op a w.spells }))))

  operation_reader : (operand : ℕ → Parser Found) (h : ℕ) → h < 5 → ((k : ℕ) → IsReader (operand k) (FoundAt p h k)) → (x : ExprPart) (k : ℕ)
      → IsReader (operation parens (suc h) operand (x, k)) (Operated p h x k)
  unfolding operation
  operation_reader operand h less r x k = by_next_reader _ (Operated p h x k) (λ o. by_case k (is_some (operator_in (suc h) o))) where
    by_case : (k : ℕ) (found : Bool) → IsReader (operation_by parens (suc h) operand x k found) (Operated p h x k)
    by_case k false = pure_reader (Operated p h x k) None no_operator
    by_case zero true = refuse_reader (Operated p h x zero) [] None no_operator
    by_case (suc k) true = operator_then h less _ (Operated p h x (suc k)) (λ op a is.
        then_give (FoundAt p h k) (λ y. Some (e.Pair op x y.0, y.1)) (λ u b. Operated p h x (suc k) (sign_lexeme (sign_of op) a ∷ u) b) (r k)
        (λ t y w. an_operator op is w.spells w.room))

  chain_turned : (h : ℕ) → (suc h ≡ comparison → ⊥) → {x : ExprPart} {k : ℕ} {t : List Lexeme} {o : Option Found} → Operated p h x k t o → Turned (ChainFrom p h) (x, k) t o
  chain_turned h no_cmp no_operator = record { count = 0; room = omega arith; spells = λ before n d. rw (append-nil, add-zero) d }
  chain_turned h no_cmp {x} (an_operator {k = k} {m = m} {left = left} {a = a} {t = t} {y = y} op is d room) = (
    omega arith,
    λ u c w. record {
      count = suc m + w.count;
      room = omega (arith, w.room, room);
      spells = λ before n d'.
          let longer = w.spells (before ++ sign_lexeme (sign_of op) a ∷ t) (suc (n + m)) (chain a op is no_cmp d' d) in
          let counts : suc (n + m) + w.count ≡ n + (suc m + w.count) = omega arith in
          rw (← counts, ← append_assoc) longer;
    },
  )

  chain_reader : (operand : ℕ → Parser Found) (h : ℕ) → h < 5 → (suc h ≡ comparison → ⊥) → ((k : ℕ) → IsReader (operand k) (FoundAt p h k)) → (x : Found)
      → IsReader (loop (operation parens (suc h) operand) x) (ChainFrom p h x)
  chain_reader operand h less no_cmp r = loop_reader (operation parens (suc h) operand) (ChainFrom p h)
      (λ x. wider (Operated p h x.0 x.1) (Turned (ChainFrom p h) x) (operation_reader operand h less r x.0 x.1) (λ t o w. chain_turned h no_cmp w))
      (λ x. record { count = 0; room = omega arith; spells = λ before n d. rw (append-nil, add-zero) d })

  pub chain_goes : (operand : ℕ → Parser Found) (h : ℕ) → h < 5 → (suc h ≡ comparison → ⊥) → ((k : ℕ) → IsReader (operand k) (FoundAt p h k)) → (x y : Found) (ts after : List Lexeme)
      → operation parens (suc h) operand x ts ≡ Read (Some y) after → loop (operation parens (suc h) operand) x ts ≡ loop (operation parens (suc h) operand) y after
  chain_goes operand h less no_cmp r x y ts after e = loop_goes (operation parens (suc h) operand) (ChainFrom p h)
      (λ x. wider (Operated p h x.0 x.1) (Turned (ChainFrom p h) x) (operation_reader operand h less r x.0 x.1) (λ t o w. chain_turned h no_cmp w))
      (λ x. record { count = 0; room = omega arith; spells = λ before n d. rw (append-nil, add-zero) d }) x y ts after e

  compare_reader : (operand : ℕ → Parser Found) → ((k : ℕ) → IsReader (operand k) (FoundAt p 2 k)) → (t0 : List Lexeme) (n k : ℕ) (x : ExprPart) (left : ℕ) → n + left ≡ k → SpellsAt p 2 n t0 x
      → IsReader (operation parens comparison operand (x, left) >>= after_one parens (x, left)) (λ u y. FoundAt p comparison k (t0 ++ u) y)
  compare_reader operand r t0 n k x left room d = bind _ _ (Operated p 2 x left) (λ u y. FoundAt p comparison k (t0 ++ u) y) (operation_reader operand 2 (omega arith) r x left) (λ o t w. by_case room w) where
    by_case : {j : ℕ} {t : List Lexeme} {o : Option Found} → n + j ≡ k → Operated p 2 x j t o → IsReader (after_one parens (x, j) o) (λ u y. FoundAt p comparison k (t0 ++ (t ++ u)) y)
    by_case {j} room' no_operator = pure_reader (λ u y. FoundAt p comparison k (t0 ++ u) y) (x, j) (record { count = n; room = room'; spells = rw append-nil (alone d) })
    by_case room' (an_operator {m = m} {left = left'} {a = a} {t = t} {y = y} op is d' room'') =
        pure_reader (λ u z. FoundAt p comparison k (t0 ++ ((sign_lexeme (sign_of op) a ∷ t) ++ u)) z) (e.Pair op x y, left')
        (record { count = suc (n + m); room = omega arith; spells = rw append-nil (compare a op is d d') })

  level_cmp : (h : ℕ) → suc h ≡ comparison → ((k : ℕ) → IsReader (level parens h k) (FoundAt p h k)) → (k : ℕ) (x : Found) (t : List Lexeme) → FoundAt p h k t x
      → IsReader (operation parens (suc h) (level parens h) x >>= after_one parens x) (λ u y. FoundAt p (suc h) k (t ++ u) y)
  level_cmp h is =
      let same : h ≡ 2 = omega arith in
      subst (λ g. ((k : ℕ) → IsReader (level parens g k) (FoundAt p g k)) → (k : ℕ) (x : Found) (t : List Lexeme) → FoundAt p g k t x
      → IsReader (operation parens (suc g) (level parens g) x >>= after_one parens x) (λ u y. FoundAt p (suc g) k (t ++ u) y)) (sym same)
      (λ r k x t w. compare_reader (level parens 2) r t w.count k x.0 x.1 w.room w.spells)

  level_chain : (h : ℕ) → h < 5 → (suc h ≡ comparison → ⊥) → ((k : ℕ) → IsReader (level parens h k) (FoundAt p h k)) → (k : ℕ) (x : Found) (t : List Lexeme) → FoundAt p h k t x
      → IsReader (loop (operation parens (suc h) (level parens h)) x) (λ u y. FoundAt p (suc h) k (t ++ u) y)
  level_chain h less no_cmp r k x t w = wider (ChainFrom p h x) _ (chain_reader (level parens h) h less no_cmp r x)
      (λ u y c. record { count = w.count + c.count; room = omega (arith, w.room, c.room); spells = c.spells t w.count (alone w.spells) })

  pub level_reader : (h : ℕ) → h < 6 → (k : ℕ) → IsReader (level parens h k) (FoundAt p h k)
  unfolding level
  level_reader zero less k = unary_reader k
  level_reader (suc h) less k =
      let r : (j : ℕ) → IsReader (level parens h j) (FoundAt p h j) = λ j. level_reader h (omega arith) j in
      bind (level parens h k) _ (FoundAt p h k) (FoundAt p (suc h) k) (r k) (λ x t w. by_case r x t w (suc h == comparison) refl) where
        by_case : ((j : ℕ) → IsReader (level parens h j) (FoundAt p h j)) → (x : Found) (t : List Lexeme) → FoundAt p h k t x → (is : Bool) → (suc h == comparison) ≡ is
            → IsReader (if is then operation parens (suc h) (level parens h) x >>= after_one parens x else loop (operation parens (suc h) (level parens h)) x) (λ u y. FoundAt p (suc h) k (t ++ u) y)
        by_case r x t w true is = level_cmp h (eqb-true (suc h) comparison is) r k x t w
        by_case r x t w false is = level_chain h (omega arith) (eqb-false (suc h) comparison is) r k x t w

pub parens_reader : (p k : ℕ) → IsReader (parens_at p k) (FoundAt p 0 k)
unfolding parens_at
parens_reader zero k = refuse_reader (FoundAt 0 0 k) _ _ (x_at 0 k)
parens_reader (suc p) k = exactly_then Sign (codes "(") _ (FoundAt (suc p) 0 k) (λ a.
    bind (level (parens_at p) whole k) _ (FoundAt p whole k) _ (level_reader (parens_at p) p (parens_reader p) whole (omega arith) k)
    (λ x t w. exactly_then Sign (codes ")") _ (λ u y. FoundAt (suc p) 0 k (sign_lexeme (codes "(") a ∷ (t ++ u)) y) (λ c.
    pure_reader (λ u y. FoundAt (suc p) 0 k (sign_lexeme (codes "(") a ∷ (t ++ sign_lexeme (codes ")") c ∷ u)) y) x (record { count = w.count; room = w.room; spells = in_parens a c w.spells }))))

pub expr_reader : IsReader expr SpellsExpr
unfolding expr
expr_reader = then_give (FoundAt max_parens whole max_operators) (λ x. x.0) SpellsExpr (level_reader (parens_at max_parens) max_parens (parens_reader max_parens) whole (omega arith) max_operators)
    (λ t x w. (w.count, omega (arith, w.room), w.spells))

-- ---- numbers of declarations

pub int_reader : IsReader int SpellsInt
unfolding int
int_reader = eat_token_then Sign (codes "-") _ SpellsInt
    (λ a. number_then _ (λ u b. SpellsInt (sign_lexeme (codes "-") a ∷ u) b) (λ ds b.
    pure_reader (λ u i. SpellsInt (sign_lexeme (codes "-") a ∷ number_lexeme ds b ∷ u) i) (neg_ℤ (pos (decimal ds))) (minus a b)))
    (number_then _ SpellsInt (λ ds a. pure_reader (λ u i. SpellsInt (number_lexeme ds a ∷ u) i) (pos (decimal ds)) (plain a)))
