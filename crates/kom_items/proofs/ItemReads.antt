-- What the rules of declarations read is spelled so, and what they refuse had begun one.
use Rattle.std.proofs.Common.{◌≡◌, ℕ, ℤ, pos, ◌<◌, Bool, true, false, ◌&&◌, List, [], ◌∷◌, ◌++◌, length, Option, Some, None, refl, sym, subst, arith, append_assoc}
use Rattle.std.specs.Prelude.{codes}
use Rattle.std.proofs.lemmas.List.{append-nil}
use Rattle.kom_events.specs.declared.selector.Op.{Op}
use Rattle.kom_events.specs.declared.selector.Op.TheVariants as rel
use Rattle.kom_system.specs.declared.parts.Spot.{Spot}
use Rattle.kom_system.specs.declared.parts.OnPart.{OnPart}
use Rattle.kom_system.specs.declared.parts.OnPart.TheVariants as on
use Rattle.kom_system.specs.declared.parts.ChildPart.{ChildPart}
use Rattle.kom_system.specs.declared.parts.TargetPart.{TargetPart}
use Rattle.kom_system.specs.declared.parts.EndPart.{EndPart}
use Rattle.kom_system.specs.declared.parts.EndPart.TheVariants as at
use Rattle.kom_system.specs.declared.parts.TestPart.{TestPart}
use Rattle.kom_grammar.specs.declared.items.ItemPart.{ItemPart}
use Rattle.kom_grammar.specs.declared.items.ItemPart.TheVariants as i
use Rattle.kom_text.specs.declared.token.TokenKind.TheVariants.{Word, Sign}
use Rattle.kom_parse.specs.Lexemes.{Lexeme}
use Rattle.kom_parse.specs.Input.{Parser, ◌>>=◌, ◌>>◌, pure}
use Rattle.kom_parse.specs.Rules.{is_kind, is_exactly, exactly, eat, name, by_bytes}
use Rattle.kom_parse.specs.Spelled.{SpellsParens, parens}
use Rattle.kom_parse.proofs.Laws.{IsReader, bind, pure_reader, wider, then_give, want_then, EatenBy, Eaten, eat_reader}
use Rattle.kom_parse.proofs.Tokens.{kind_is, exactly_then, eat_token_then, is_exactly-is, AllSpelled, by_bytes-is, among_then, wanted_then}
use Rattle.kom_parse.proofs.ListLaws.{parens_reader}
use Rattle.kom_parse.proofs.BetweenLaws.{SpellsEach, no_more, one_more, MoreFrom, mores_reader}
use Rattle.kom_grammar.specs.Words.{w, s, is_name, SpellsName, relation_of}
use Rattle.kom_grammar.specs.Expressions.{SpellsInt}
use Rattle.kom_grammar.specs.Statements.{SpellsTarget, SpellsBlock, max_blocks, own as own_target, child as child_target}
use Rattle.kom_grammar.specs.Files as g
use Rattle.kom_grammar.specs.Files.{SpellsChild, SpellsEnd, SpellsTest, SpellsTests, SpellsWhen, SpellsOff, SpellsOn, SpellsHandler, SpellsItem}
use Rattle.kom_exprs.specs.Reading.{int}
use Rattle.kom_exprs.proofs.ExprReads.{int_reader}
use Rattle.kom_exprs.proofs.NameLaws.{name_reader, name_and}
use Rattle.kom_stmts.specs.Reading.{block}
use Rattle.kom_stmts.proofs.StmtReads.{target_reader, blocks_reader}
use Rattle.kom_items.specs.declared.words.ItemWord.{ItemWord}
use Rattle.kom_items.specs.declared.words.ItemWord.TheVariants as item_is
use Rattle.kom_items.specs.declared.words.OnWord.{OnWord}
use Rattle.kom_items.specs.declared.words.OnWord.TheVariants as on_is
use Rattle.kom_items.specs.Reading.{spelling_of_item, item_words, item_word, spelling_of_on, on_words, relations, relation_in, relation, child, end_at, end_by, end, test, is_and, tests, selector_by, selector, channel, on_event, on_init, on_fault, on_dumped, handled_by, handled, off, handler, port, first_value_by, first_value, var, first_child_by, first_child, slot, item_by, item}

-- ---- words

pub all_item_words : AllSpelled spelling_of_item item_words
all_item_words = (refl, (refl, (refl, (refl, (refl, (refl, tt))))))

pub all_on_words : AllSpelled spelling_of_on on_words
all_on_words = (refl, (refl, (refl, (refl, (refl, tt)))))

all_relations : AllSpelled relation_of relations
all_relations = (refl, (refl, (refl, (refl, (refl, (refl, tt))))))

relation_in_is : (l : Lexeme) (op : Op) → relation_in (Some l) ≡ Some op → l ≡ s (relation_of op) l.at
relation_in_is l op e = by_case (is_kind l.kind Sign) refl where
  by_case : (b : Bool) → is_kind l.kind Sign ≡ b → l ≡ s (relation_of op) l.at
  by_case false h = absurd (let e' = rw h at e in cc)
  by_case true h =
      let is : l.bytes ≡ relation_of op = by_bytes-is relation_of l.bytes relations op all_relations (rw h at e) in
      let kind : l.kind ≡ Sign = kind_is l.kind Sign h in
      rw (← kind, ← is) refl

relation_then : {B : Type 0} (q : Op → Parser B) (L : List Lexeme → B → Type 0) → ((op : Op) (a : ℕ) → IsReader (q op) (λ u b. L (s (relation_of op) a ∷ u) b)) → IsReader (relation >>= q) L
unfolding relation
relation_then q L r = want_then relation_in refl q L (s (codes "==") 0) rel.Eq refl
    (λ l op e. subst (λ x. IsReader (q op) (λ u b. L (x ∷ u) b)) (sym (relation_in_is l op e)) (r op l.at))

-- the value, and the semicolon behind it
semicolon : {A : Type 0} {L : List Lexeme → A → Type 0} (x : A) → ((a : ℕ) → L (s (codes ";") a ∷ []) x) → IsReader (exactly Sign (codes ";") >> pure x) L
semicolon {A} {L} x f = exactly_then Sign (codes ";") _ L (λ a. pure_reader (λ u y. L (s (codes ";") a ∷ u) y) x (f a))

-- the word of a port
abbrev pub port_word : Bool → List ℕ
port_word true = codes "provides"
port_word false = codes "requires"

-- the first value of a variable, and what stands in a slot from the start
pub data SpellsFirst : List Lexeme → ℤ → Type 0 where
  no_value : SpellsFirst [] (pos 0)
  with_value : (b : ℕ) {t : List Lexeme} {v : ℤ} → SpellsInt t v → SpellsFirst (s (codes "=") b ∷ t) v

pub data SpellsFirstChild : List Lexeme → Option ChildPart → Type 0 where
  no_child : SpellsFirstChild [] None
  with_child : (b : ℕ) {t : List Lexeme} {x : ChildPart} → SpellsChild t x → SpellsFirstChild (s (codes ":") b ∷ t) (Some x)

-- ---- component types with arguments

child_text : {t u : List Lexeme} {n : Spot} {vs : List ℤ} → SpellsName t n → SpellsParens SpellsInt u vs → SpellsChild (t ++ u) (record { kind = n; args = vs })
child_text d (parens a b d') = g.child a b d d'

pub child_reader : IsReader child SpellsChild
unfolding child
child_reader = name_and _ SpellsChild (λ n t d. then_give (SpellsParens SpellsInt) (λ vs. record { kind = n; args = vs }) (λ u x. SpellsChild (t ++ u) x) (parens_reader int SpellsInt int_reader)
    (λ u vs d'. child_text d d'))

-- ---- channels

end_text : {t : List Lexeme} {p : TargetPart} → SpellsTarget t p → SpellsEnd t (end_at p)
end_text (own_target a b d) = g.own a b d
end_text (child_target a d d') = g.child_end a d d'

end_reader : IsReader end SpellsEnd
unfolding end
end_reader = eat_token_then Word (codes "free") end_by SpellsEnd
    (λ a. pure_reader (λ u p. SpellsEnd (w (codes "free") a ∷ u) p) at.Free (g.free a))
    (then_give SpellsTarget end_at SpellsEnd target_reader (λ t p d. end_text d))

pub test_reader : IsReader test SpellsTest
unfolding test
test_reader = name_and _ SpellsTest (λ n t dn.
    exactly_then Sign (codes ".") _ (λ u x. SpellsTest (t ++ u) x) (λ a.
    name_and _ (λ u x. SpellsTest (t ++ s (codes ".") a ∷ u) x) (λ m u dm.
    relation_then _ (λ v x. SpellsTest (t ++ s (codes ".") a ∷ (u ++ v)) x) (λ op b.
    then_give SpellsInt (λ i. record { kind = n; attr = m; op = op; number = i }) (λ v x. SpellsTest (t ++ s (codes ".") a ∷ (u ++ s (relation_of op) b ∷ v)) x) int_reader (λ v i di.
    g.test a b op dn dm di)))))

pub no_and : (two : Bool) → is_and two None ≡ false
no_and true = refl
no_and false = refl

both : (a b : Bool) → (a && b) ≡ true → (a ≡ true) × (b ≡ true)
both true true e = (refl, refl)
both true false e = absurd cc
both false b e = absurd cc

tests_text : {two : Bool} {t ts : List Lexeme} {x : TestPart} {xs : List TestPart} → SpellsTest t x → SpellsEach (is_and two) SpellsTest ts xs → SpellsTests two (t ++ ts) (x ∷ xs)
tests_text d no_more = rw append-nil (g.one_test d)
tests_text {two} {t} {x = x} d (one_more {l = l} {t = t'} {ts = ts'} {x = x'} {xs = xs'} b d' ds) =
    let k = both _ _ b in
    subst (λ y. SpellsTests two (t ++ (y ∷ (t' ++ ts'))) (x ∷ x' ∷ xs')) (sym (is_exactly-is Sign (codes "&&") l k.1)) (g.more_tests l.at k.0 d (tests_text d' ds))

tests_reader : (two : Bool) → IsReader (tests two) (SpellsTests two)
unfolding tests
tests_reader two = bind test _ SpellsTest (SpellsTests two) test_reader (λ x t d.
    wider (MoreFrom (is_and two) SpellsTest (x ∷ [])) (λ u ys. SpellsTests two (t ++ u) ys) (mores_reader (is_and two) (no_and two) test SpellsTest test_reader (x ∷ []))
    (λ u ys m. subst (λ ys. SpellsTests two (t ++ u) ys) (sym m.is) (tests_text d m.spells)))

selector_reader : (two : Bool) (direction : List ℕ) → IsReader (selector two direction) (SpellsWhen two direction)
unfolding selector
selector_reader two direction = eat_token_then Word direction (selector_by two) (SpellsWhen two direction)
    (λ a. exactly_then Word (codes "when") _ (λ u x. SpellsWhen two direction (w direction a ∷ u) x) (λ b.
    wider (SpellsTests two) (λ u x. SpellsWhen two direction (w direction a ∷ w (codes "when") b ∷ u) x) (tests_reader two) (λ t xs d. g.tests a b d)))
    (pure_reader (SpellsWhen two direction) [] g.no_tests)

module _ (two : Bool) where
  channel_reader : (a : ℕ) → IsReader (channel two) (λ u x. SpellsItem two (w (codes "channel") a ∷ u) (i.Channel x))
  unfolding channel
  channel_reader a = name_and _ (λ u x. SpellsItem two (w (codes "channel") a ∷ u) (i.Channel x)) (λ n t dn.
      exactly_then Sign (codes ":") _ (λ u x. SpellsItem two (w (codes "channel") a ∷ (t ++ u)) (i.Channel x)) (λ b.
      name_and _ (λ u x. SpellsItem two (w (codes "channel") a ∷ (t ++ s (codes ":") b ∷ u)) (i.Channel x)) (λ m u dm.
      exactly_then Word (codes "from") _ (λ v x. SpellsItem two (w (codes "channel") a ∷ (t ++ s (codes ":") b ∷ (u ++ v))) (i.Channel x)) (λ c.
      bind end _ SpellsEnd (λ v x. SpellsItem two (w (codes "channel") a ∷ (t ++ s (codes ":") b ∷ (u ++ w (codes "from") c ∷ v))) (i.Channel x)) end_reader (λ p v dp.
      exactly_then Word (codes "to") _ (λ z x. SpellsItem two (w (codes "channel") a ∷ (t ++ s (codes ":") b ∷ (u ++ w (codes "from") c ∷ (v ++ z)))) (i.Channel x)) (λ d.
      bind end _ SpellsEnd (λ z x. SpellsItem two (w (codes "channel") a ∷ (t ++ s (codes ":") b ∷ (u ++ w (codes "from") c ∷ (v ++ w (codes "to") d ∷ z)))) (i.Channel x)) end_reader (λ q z dq.
      selectors n m p q dn dm dp dq a b c d))))))) where
        selectors : {t u v z : List Lexeme} (n m : Spot) (p q : EndPart) → SpellsName t n → SpellsName u m → SpellsEnd v p → SpellsEnd z q → (a b c d : ℕ)
            → IsReader (selector two (codes "plus") >>= (λ ps. selector two (codes "minus") >>= (λ qs. exactly Sign (codes ";") >> pure (record { name = n; port = m; plus = p; minus = q; plus_when = ps; minus_when = qs }))))
            (λ y x. SpellsItem two (w (codes "channel") a ∷ (t ++ s (codes ":") b ∷ (u ++ w (codes "from") c ∷ (v ++ w (codes "to") d ∷ (z ++ y))))) (i.Channel x))
        selectors {t} {u} {v} {z} n m p q dn dm dp dq a b c d =
            bind (selector two (codes "plus")) _ (SpellsWhen two (codes "plus")) _ (selector_reader two (codes "plus")) (λ ps y dps.
            bind (selector two (codes "minus")) _ (SpellsWhen two (codes "minus")) (λ f x. SpellsItem two (w (codes "channel") a ∷ (t ++ s (codes ":") b ∷ (u ++ w (codes "from") c ∷ (v ++ w (codes "to") d ∷ (z ++ (y ++ f)))))) (i.Channel x))
            (selector_reader two (codes "minus")) (λ qs f dqs.
            semicolon _ (λ e. g.channel a b c d e dn dm dp dq dps dqs)))

-- ---- handlers

-- the tokens before `as`, for every kind of handler
pub data SpellsHandled : List Lexeme → OnPart → Type 0 where
  init_handled : (b : ℕ) {t : List Lexeme} {ns : List Spot} → SpellsParens SpellsName t ns → SpellsHandled (w (codes "init") b ∷ t) (on.Init ns)
  other_handled : {t : List Lexeme} {o : OnPart} → SpellsOn t o → SpellsHandled t o

on_event_reader : IsReader on_event SpellsHandled
unfolding on_event
on_event_reader = name_and _ SpellsHandled (λ n t d. exactly_then Word (codes "at") _ (λ u x. SpellsHandled (t ++ u) x) (λ a.
    then_give SpellsName (λ q. on.Event n q) (λ u x. SpellsHandled (t ++ w (codes "at") a ∷ u) x) name_reader (λ u q d'. other_handled (g.event a d d'))))

on_init_reader : (b : ℕ) → IsReader on_init (λ u x. SpellsHandled (w (codes "init") b ∷ u) x)
unfolding on_init
on_init_reader b = then_give (SpellsParens SpellsName) (λ ns. on.Init ns) (λ u x. SpellsHandled (w (codes "init") b ∷ u) x) (parens_reader (name is_name) SpellsName name_reader) (λ t ns d. init_handled b d)

on_fault_reader : (a : ℕ) → IsReader on_fault (λ u x. SpellsHandled (w (codes "fault") a ∷ u) x)
unfolding on_fault
on_fault_reader a = exactly_then Sign (codes "(") _ (λ u x. SpellsHandled (w (codes "fault") a ∷ u) x) (λ b.
    name_and _ (λ u x. SpellsHandled (w (codes "fault") a ∷ s (codes "(") b ∷ u) x) (λ n t dn.
    exactly_then Sign (codes ",") _ (λ u x. SpellsHandled (w (codes "fault") a ∷ s (codes "(") b ∷ (t ++ u)) x) (λ c.
    name_and _ (λ u x. SpellsHandled (w (codes "fault") a ∷ s (codes "(") b ∷ (t ++ s (codes ",") c ∷ u)) x) (λ m u dm.
    exactly_then Sign (codes ")") _ (λ v x. SpellsHandled (w (codes "fault") a ∷ s (codes "(") b ∷ (t ++ s (codes ",") c ∷ (u ++ v))) x) (λ d.
    pure_reader (λ v x. SpellsHandled (w (codes "fault") a ∷ s (codes "(") b ∷ (t ++ s (codes ",") c ∷ (u ++ s (codes ")") d ∷ v))) x) (on.Fault n m) (other_handled (g.fault a b c d dn dm)))))))

on_dumped_reader : (a : ℕ) → IsReader on_dumped (λ u x. SpellsHandled (w (codes "dumped") a ∷ u) x)
unfolding on_dumped
on_dumped_reader a = exactly_then Sign (codes "(") _ (λ u x. SpellsHandled (w (codes "dumped") a ∷ u) x) (λ b.
    name_and _ (λ u x. SpellsHandled (w (codes "dumped") a ∷ s (codes "(") b ∷ u) x) (λ n t dn.
    exactly_then Sign (codes ")") _ (λ u x. SpellsHandled (w (codes "dumped") a ∷ s (codes "(") b ∷ (t ++ u)) x) (λ c.
    pure_reader (λ u x. SpellsHandled (w (codes "dumped") a ∷ s (codes "(") b ∷ (t ++ s (codes ")") c ∷ u)) x) (on.Dumped n) (other_handled (g.dumped a b c dn)))))

handled_reader : IsReader handled SpellsHandled
unfolding handled
handled_reader = among_then spelling_of_on on_words all_on_words handled_by SpellsHandled by_word on_event_reader where
  by_word : (x : OnWord) (a : ℕ) → by_bytes (spelling_of_on x) on_words ≡ Some x → IsReader (handled_by (Some x)) (λ u o. SpellsHandled (w (spelling_of_on x) a ∷ u) o)
  by_word on_is.Init a e = on_init_reader a
  by_word on_is.Start a e = pure_reader (λ u o. SpellsHandled (w (codes "start") a ∷ u) o) on.Start (other_handled (g.start a))
  by_word on_is.Stop a e = pure_reader (λ u o. SpellsHandled (w (codes "stop") a ∷ u) o) on.Stop (other_handled (g.stop a))
  by_word on_is.Fault a e = on_fault_reader a
  by_word on_is.Dumped a e = on_dumped_reader a

off_reader : IsReader (eat Word (codes "off")) SpellsOff
unfolding eat
off_reader = wider (Eaten (is_exactly Word (codes "off"))) SpellsOff (eat_reader (is_exactly Word (codes "off")) refl) (λ t b d. by_case b t d.is) where
  by_case : (b : Bool) (t : List Lexeme) → EatenBy (is_exactly Word (codes "off")) t b → SpellsOff t b
  by_case true t d = rw (d.1, is_exactly-is Word (codes "off") (d.0) (d.2)) (g.off (d.0).at)
  by_case false t d = rw d g.subscribed

module _ (two : Bool) (a e : ℕ) where
  -- what stands behind the name of a handler
  module _ {u : List Lexeme} {n : Spot} (dn : SpellsName u n) where
    init_rest : {t : List Lexeme} {ns : List Spot} (b : ℕ) → SpellsParens SpellsName t ns
        → IsReader (block two max_blocks >>= (λ xs. pure (record { name = n; on = on.Init ns; off = false; block = xs }))) (λ v x. SpellsHandler two (w (codes "on") a ∷ w (codes "init") b ∷ (t ++ w (codes "as") e ∷ (u ++ v))) x)
    init_rest {ns = ns} b (parens c d dl) = then_give (SpellsBlock two max_blocks) (λ xs. record { name = n; on = on.Init ns; off = false; block = xs }) _ (blocks_reader two 15)
        (λ v xs db. rw append_assoc (g.init a b c d e dl dn db))

    other_rest : {t : List Lexeme} {o : OnPart} → SpellsOn t o
        → IsReader (eat Word (codes "off") >>= (λ is_off. block two max_blocks >>= (λ xs. pure (record { name = n; on = o; off = is_off; block = xs })))) (λ v x. SpellsHandler two (w (codes "on") a ∷ (t ++ w (codes "as") e ∷ (u ++ v))) x)
    other_rest {t} {o} d = bind (eat Word (codes "off")) _ SpellsOff _ off_reader (λ is_off x dx.
        then_give (SpellsBlock two max_blocks) (λ xs. record { name = n; on = o; off = is_off; block = xs }) (λ v y. SpellsHandler two (w (codes "on") a ∷ (t ++ w (codes "as") e ∷ (u ++ (x ++ v)))) y) (blocks_reader two 15)
        (λ v xs db. g.other a e d dn dx db))

    handler_rest : {t : List Lexeme} {o : OnPart} → SpellsHandled t o
        → IsReader (off o >>= (λ is_off. block two max_blocks >>= (λ xs. pure (record { name = n; on = o; off = is_off; block = xs })))) (λ v x. SpellsHandler two (w (codes "on") a ∷ (t ++ w (codes "as") e ∷ (u ++ v))) x)
    handler_rest (init_handled b d) = init_rest b d
    handler_rest (other_handled (g.event b d d')) = other_rest (g.event b d d')
    handler_rest (other_handled (g.start b)) = other_rest (g.start b)
    handler_rest (other_handled (g.stop b)) = other_rest (g.stop b)
    handler_rest (other_handled (g.fault b c f h d d')) = other_rest (g.fault b c f h d d')
    handler_rest (other_handled (g.dumped b c f d)) = other_rest (g.dumped b c f d)

handler_reader : (two : Bool) (a : ℕ) → IsReader (handler two) (λ u x. SpellsHandler two (w (codes "on") a ∷ u) x)
unfolding handler
handler_reader two a = bind handled _ SpellsHandled (λ u x. SpellsHandler two (w (codes "on") a ∷ u) x) handled_reader (λ o t d.
    exactly_then Word (codes "as") _ (λ u x. SpellsHandler two (w (codes "on") a ∷ (t ++ u)) x) (λ e.
    name_and _ (λ u x. SpellsHandler two (w (codes "on") a ∷ (t ++ w (codes "as") e ∷ u)) x) (λ n u dn. handler_rest two a e dn d)))

-- ---- all declarations

module _ (two : Bool) where
  port_text : (provided : Bool) (a b c : ℕ) {t u : List Lexeme} {n m : Spot} → SpellsName t n → SpellsName u m
      → SpellsItem two (w (port_word provided) a ∷ (t ++ s (codes ":") b ∷ (u ++ s (codes ";") c ∷ []))) (i.Port (record { name = n; port = m; provided = provided }))
  port_text true a b c d d' = g.provides a b c d d'
  port_text false a b c d d' = g.requires_port a b c d d'

  port_reader : (provided : Bool) (a : ℕ) → IsReader (port provided) (λ u x. SpellsItem two (w (port_word provided) a ∷ u) x)
  unfolding port
  port_reader provided a = name_and _ (λ u x. SpellsItem two (w (port_word provided) a ∷ u) x) (λ n t d.
      exactly_then Sign (codes ":") _ (λ u x. SpellsItem two (w (port_word provided) a ∷ (t ++ u)) x) (λ b.
      name_and _ (λ u x. SpellsItem two (w (port_word provided) a ∷ (t ++ s (codes ":") b ∷ u)) x) (λ m u d'.
      semicolon _ (λ c. port_text provided a b c d d'))))

  first_value_reader : IsReader first_value SpellsFirst
  unfolding first_value
  first_value_reader = eat_token_then Sign (codes "=") first_value_by SpellsFirst
      (λ b. wider SpellsInt (λ u v. SpellsFirst (s (codes "=") b ∷ u) v) int_reader (λ t v d. with_value b d))
      (pure_reader SpellsFirst (pos 0) no_value)

  var_text : (a c : ℕ) {t u : List Lexeme} {n : Spot} {v : ℤ} → SpellsName t n → SpellsFirst u v → SpellsItem two (w (codes "var") a ∷ (t ++ (u ++ s (codes ";") c ∷ []))) (i.Var (record { name = n; first = v }))
  var_text a c d no_value = g.var a c d
  var_text a c d (with_value b d') = g.var_with a b c d d'

  var_reader : (a : ℕ) → IsReader var (λ u x. SpellsItem two (w (codes "var") a ∷ u) x)
  unfolding var
  var_reader a = name_and _ (λ u x. SpellsItem two (w (codes "var") a ∷ u) x) (λ n t d.
      bind first_value _ SpellsFirst (λ u x. SpellsItem two (w (codes "var") a ∷ (t ++ u)) x) first_value_reader (λ v u d'. semicolon _ (λ c. var_text a c d d')))

  first_child_reader : IsReader first_child SpellsFirstChild
  unfolding first_child
  first_child_reader = eat_token_then Sign (codes ":") first_child_by SpellsFirstChild
      (λ b. then_give SpellsChild (λ x. Some x) (λ u x. SpellsFirstChild (s (codes ":") b ∷ u) x) child_reader (λ t x d. with_child b d))
      (pure_reader SpellsFirstChild None no_child)

  slot_text : (a c : ℕ) {t u : List Lexeme} {n : Spot} {x : Option ChildPart} → SpellsName t n → SpellsFirstChild u x
      → SpellsItem two (w (codes "slot") a ∷ (t ++ (u ++ s (codes ";") c ∷ []))) (i.Slot (record { name = n; child = x }))
  slot_text a c d no_child = g.slot a c d
  slot_text a c d (with_child b d') = g.slot_with a b c d d'

  slot_reader : (a : ℕ) → IsReader slot (λ u x. SpellsItem two (w (codes "slot") a ∷ u) x)
  unfolding slot
  slot_reader a = name_and _ (λ u x. SpellsItem two (w (codes "slot") a ∷ u) x) (λ n t d.
      bind first_child _ SpellsFirstChild (λ u x. SpellsItem two (w (codes "slot") a ∷ (t ++ u)) x) first_child_reader (λ x u d'. semicolon _ (λ c. slot_text a c d d')))

  pub item_reader : IsReader (item two) (SpellsItem two)
  unfolding item item_word
  item_reader = wanted_then spelling_of_item item_words all_item_words (item_by two) (SpellsItem two) item_is.Var refl by_word where
    by_word : (x : ItemWord) (a : ℕ) → by_bytes (spelling_of_item x) item_words ≡ Some x → IsReader (item_by two x) (λ u y. SpellsItem two (w (spelling_of_item x) a ∷ u) y)
    by_word item_is.Provides a e = port_reader true a
    by_word item_is.Requires a e = port_reader false a
    by_word item_is.Var a e = var_reader a
    by_word item_is.Slot a e = slot_reader a
    by_word item_is.Channel a e = then_give (λ u x. SpellsItem two (w (codes "channel") a ∷ u) (i.Channel x)) (λ x. i.Channel x) (λ u y. SpellsItem two (w (codes "channel") a ∷ u) y) (channel_reader two a) (λ t x d. d)
    by_word item_is.On a e = then_give (λ u x. SpellsHandler two (w (codes "on") a ∷ u) x) (λ x. i.Handler x) (λ u y. SpellsItem two (w (codes "on") a ∷ u) y) (handler_reader two a) (λ t x d. g.handler d)

pub some_tokens : (two : Bool) (t : List Lexeme) (x : ItemPart) → SpellsItem two t x → 0 < length t
some_tokens two t x (g.handler (g.init a b c d e dl dn db)) = omega arith
some_tokens two t x (g.handler (g.other a b dh dn dx db)) = omega arith
some_tokens two t x _ = omega arith
