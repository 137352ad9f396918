-- What spells a declaration is read as it.
use Rattle.std.proofs.Common.{◌≡◌, ℕ, ℤ, Bool, true, false, List, [], ◌∷◌, ◌++◌, Option, Some, None, refl, sym, ◌∙◌, ap, append_assoc}
use Rattle.std.specs.Prelude.{codes}
use Rattle.std.proofs.lemmas.List.{append-nil}
use Rattle.kom_events.specs.declared.selector.Op.{Op}
use Rattle.kom_events.specs.declared.selector.Op.TheVariants as rel
use Rattle.kom_system.specs.declared.parts.StmtPart.{StmtPart}
use Rattle.kom_system.specs.declared.parts.OnPart.{OnPart}
use Rattle.kom_system.specs.declared.parts.HandlerPart.{HandlerPart}
use Rattle.kom_system.specs.declared.parts.ChildPart.{ChildPart}
use Rattle.kom_system.specs.declared.parts.EndPart.{EndPart}
use Rattle.kom_system.specs.declared.parts.TestPart.{TestPart}
use Rattle.kom_grammar.specs.declared.items.ItemPart.{ItemPart}
use Rattle.kom_grammar.specs.declared.items.ItemPart.TheVariants as i
use Rattle.kom_text.specs.declared.token.TokenKind.TheVariants.{Word, Sign}
use Rattle.kom_parse.specs.Lexemes.{Lexeme}
use Rattle.kom_parse.specs.Input.{Read, first, want, eat_if}
use Rattle.kom_parse.specs.Rules.{is_exactly, eat, closes, in_parens, by_bytes, word_among}
use Rattle.kom_parse.specs.Spelled.{SpellsParens, parens}
use Rattle.kom_parse.proofs.Laws.{may_takes, may_misses}
use Rattle.kom_parse.proofs.Steps.{eat_missing, want_found}
use Rattle.kom_parse.proofs.Tokens.{exactly_reads, name_reads, eat_takes, by_bytes-is}
use Rattle.kom_parse.proofs.ListLaws.{parens_whole}
use Rattle.kom_parse.proofs.BetweenLaws.{SpellsEach, no_more, one_more, each_whole}
use Rattle.kom_grammar.specs.Words.{w, s, is_name, name as spells_name, relation_of}
use Rattle.kom_grammar.specs.Expressions.{SpellsInt, plain, minus}
use Rattle.kom_grammar.specs.Statements.{SpellsBlock, block as a_block, own as own_target, child as child_target}
use Rattle.kom_grammar.specs.Files as g
use Rattle.kom_grammar.specs.Files.{SpellsChild, SpellsEnd, SpellsTest, SpellsTests, SpellsWhen, SpellsOff, SpellsOn, SpellsHandler, SpellsItem}
use Rattle.kom_exprs.specs.Reading.{int}
use Rattle.kom_exprs.proofs.ExprReads.{int_reader}
use Rattle.kom_exprs.proofs.ExprWhole.{int_whole}
use Rattle.kom_exprs.proofs.NameLaws.{name_whole, no_keyword}
use Rattle.kom_stmts.proofs.StmtWhole.{names_whole, target_whole, block_whole}
use Rattle.kom_items.specs.declared.words.ItemWord.{ItemWord}
use Rattle.kom_items.specs.declared.words.ItemWord.TheVariants as item_is
use Rattle.kom_items.specs.declared.words.OnWord.{OnWord}
use Rattle.kom_items.specs.declared.words.OnWord.TheVariants as on_is
use Rattle.kom_items.specs.Reading.{spelling_of_item, item_words, item_word, spelling_of_on, on_words, relation, child, end, test, is_and, tests, selector, channel, on_event, on_init, on_fault, on_dumped, handled_by, handled, off, handler, port, first_value, var, first_child, slot, item_by, item}
use Rattle.kom_items.proofs.ItemReads.{all_on_words, test_reader, no_and, SpellsHandled, init_handled, other_handled}

-- ---- lists

begins_int : (t : List Lexeme) (v : ℤ) (after : List Lexeme) → SpellsInt t v → closes (first (t ++ after)) ≡ false
begins_int t v after (plain a) = refl
begins_int t v after (minus a b) = refl

ints_whole : {t : List Lexeme} {vs : List ℤ} → SpellsParens SpellsInt t vs → (after : List Lexeme) → in_parens int (t ++ after) ≡ Read vs after
ints_whole = parens_whole int SpellsInt int_reader (λ o. Unit {0}) (λ a. tt) (λ a. tt) (λ t v after d stops. int_whole t v after d) begins_int

-- ---- component types with arguments

pub child_whole : {t : List Lexeme} {x : ChildPart} → SpellsChild t x → (after : List Lexeme) → child (t ++ after) ≡ Read x after
unfolding child
child_whole (g.child a b {t = t} {u = u} d d') after =
    let regroup : (t ++ (s (codes "(") a ∷ (u ++ s (codes ")") b ∷ []))) ++ after ≡ t ++ ((s (codes "(") a ∷ (u ++ s (codes ")") b ∷ [])) ++ after) = append_assoc t _ after in
    rw (regroup, name_whole d, ints_whole (parens a b d') after) refl

-- ---- channels

end_whole : {t : List Lexeme} {p : EndPart} → SpellsEnd t p → (after : List Lexeme) → end (t ++ after) ≡ Read p after
unfolding end eat eat_if
end_whole (g.free a) after = refl
end_whole (g.own a b d) after = rw (target_whole (own_target a b d) after) refl
end_whole (g.child_end a {u = u} (spells_name {bytes = n} b h) d) after =
    rw (no_keyword n (codes "free") h refl, target_whole (child_target a (spells_name {bytes = n} b h) d) after) refl

relation_whole : (op : Op) (a : ℕ) (after : List Lexeme) → relation (s (relation_of op) a ∷ after) ≡ Read op after
unfolding relation want
relation_whole rel.Eq a after = refl
relation_whole _ a after = refl

test_whole : (t : List Lexeme) (x : TestPart) (after : List Lexeme) → SpellsTest t x → Unit {0} → test (t ++ after) ≡ Read x after
unfolding test
test_whole t x after (g.test a b {t = t'} {u = u} {v = v} {i = i} op dn dm di) stops =
    simp append_assoc (rw (name_whole dn, exactly_reads Sign (codes ".") a, name_whole dm, relation_whole op b, int_whole v i after di) refl)

-- the first test, and the others
record Parted (two : Bool) (t : List Lexeme) (xs : List TestPart) : Type 0 where
  front : List Lexeme
  others : List Lexeme
  one : TestPart
  more_of : List TestPart
  text : t ≡ front ++ others
  list : xs ≡ one ∷ more_of
  spells : SpellsTest front one
  each : SpellsEach (is_and two) SpellsTest others more_of

parted : {two : Bool} {t : List Lexeme} {xs : List TestPart} → SpellsTests two t xs → Parted two t xs
parted (g.one_test {t = t} {x = x} d) = record { front = t; others = []; one = x; more_of = []; text = sym (append-nil t); list = refl; spells = d; each = no_more }
parted {two} (g.more_tests a {t = t} {ts = ts} {x = x} {xs = xs} is d ds) =
    let k = parted ds in
    record {
      front = t;
      others = s (codes "&&") a ∷ (k.front ++ k.others);
      one = x;
      more_of = k.one ∷ k.more_of;
      text = ap (λ u. t ++ s (codes "&&") a ∷ u) k.text;
      list = ap (λ u. x ∷ u) k.list;
      spells = d;
      each = one_more (rw is refl) k.spells k.each;
    }

tests_parted : (two : Bool) (front others : List Lexeme) (one : TestPart) (more_of : List TestPart) (after : List Lexeme) → SpellsTest front one → SpellsEach (is_and two) SpellsTest others more_of
    → is_exactly Sign (codes "&&") (first after) ≡ false → tests two ((front ++ others) ++ after) ≡ Read (one ∷ more_of) after
unfolding tests
tests_parted two front others one more_of after d ds e =
    rw (append_assoc front others after, test_whole front one (others ++ after) d tt)
    (each_whole (is_and two) (no_and two) test SpellsTest test_reader (λ o. Unit {0}) (λ l b. tt) test_whole others more_of ds (one ∷ []) after tt (stops two)) where
      stops : (two : Bool) → is_and two (first after) ≡ false
      stops true = e
      stops false = refl

tests_whole : (two : Bool) {t : List Lexeme} {xs : List TestPart} (after : List Lexeme) → SpellsTests two t xs → is_exactly Sign (codes "&&") (first after) ≡ false → tests two (t ++ after) ≡ Read xs after
tests_whole two after d e =
    let k = parted d in
    ap (λ u. tests two (u ++ after)) k.text ∙ tests_parted two k.front k.others k.one k.more_of after k.spells k.each e ∙ ap (λ ys. Read ys after) (sym k.list)

-- what may follow a selector
record Follows (direction : List ℕ) (o : Option Lexeme) : Type 0 where
  no_direction : is_exactly Word direction o ≡ false
  no_and_sign : is_exactly Sign (codes "&&") o ≡ false

selector_whole : (two : Bool) (direction : List ℕ) {t : List Lexeme} {xs : List TestPart} (after : List Lexeme) → SpellsWhen two direction t xs → Follows direction (first after)
    → selector two direction (t ++ after) ≡ Read xs after
unfolding selector
selector_whole two direction after g.no_tests f = rw (eat_missing Word direction after f.no_direction) refl
selector_whole two direction after (g.tests a b {t = t} d) f =
    rw (eat_takes Word direction a (w (codes "when") b ∷ (t ++ after))) (rw (exactly_reads Word (codes "when") b) (tests_whole two after d f.no_and_sign))

plus_follows : {two : Bool} {t : List Lexeme} {qs : List TestPart} → SpellsWhen two (codes "minus") t qs → (e : ℕ) (after : List Lexeme) → Follows (codes "plus") (first (t ++ (s (codes ";") e ∷ after)))
plus_follows g.no_tests e after = record { no_direction = refl; no_and_sign = refl }
plus_follows (g.tests a b d) e after = record { no_direction = refl; no_and_sign = refl }

-- the rule behind the word
item_behind : (two : Bool) (x : ItemWord) (a : ℕ) (ts : List Lexeme) → item two (w (spelling_of_item x) a ∷ ts) ≡ item_by two x ts
unfolding item item_word
item_behind two x a ts = rw (want_found (word_among item_words) x (w (spelling_of_item x) a ∷ ts) (known x)) refl where
  known : (x : ItemWord) → word_among item_words (Some (w (spelling_of_item x) a)) ≡ Some x
  known item_is.Provides = refl
  known _ = refl

-- ---- handlers

handled_word : (x : OnWord) (a : ℕ) (ts : List Lexeme) → handled (w (spelling_of_on x) a ∷ ts) ≡ handled_by (Some x) ts
unfolding handled
handled_word x a ts = rw (may_takes (word_among on_words) (w (spelling_of_on x) a) x ts (known x)) refl where
  known : (x : OnWord) → word_among on_words (Some (w (spelling_of_on x) a)) ≡ Some x
  known on_is.Init = refl
  known _ = refl

reserved_on : (x : OnWord) → is_name (spelling_of_on x) ≡ false
reserved_on on_is.Init = refl
reserved_on _ = refl

handled_name : (n : List ℕ) (a : ℕ) (ts : List Lexeme) → is_name n ≡ true → handled (w n a ∷ ts) ≡ on_event (w n a ∷ ts)
unfolding handled
handled_name n a ts h = rw (may_misses (word_among on_words) (w n a ∷ ts) (by_case (by_bytes n on_words) refl)) refl where
  by_case : (o : Option OnWord) → by_bytes n on_words ≡ o → by_bytes n on_words ≡ None
  by_case None e = e
  by_case (Some x) e =
      let both : true ≡ false = sym h ∙ ap is_name (by_bytes-is spelling_of_on n on_words x all_on_words e) ∙ reserved_on x in
      absurd cc

handled_whole : {t : List Lexeme} {o : OnPart} → SpellsHandled t o → (after : List Lexeme) → handled (t ++ after) ≡ Read o after
unfolding on_event on_init on_fault on_dumped
handled_whole (init_handled b d) after = handled_word on_is.Init b _ ∙ rw (names_whole d after) refl
handled_whole (other_handled (g.event a {u = u} (spells_name {bytes = n} b h) d)) after =
    handled_name n b (w (codes "at") a ∷ (u ++ after)) h ∙ rw (name_reads is_name n b (w (codes "at") a ∷ (u ++ after)) h, exactly_reads Word (codes "at") a, name_whole d) refl
handled_whole (other_handled (g.start a)) after = handled_word on_is.Start a after
handled_whole (other_handled (g.stop a)) after = handled_word on_is.Stop a after
handled_whole (other_handled (g.fault a b c d dn dm)) after =
    handled_word on_is.Fault a _ ∙ simp append_assoc (rw (exactly_reads Sign (codes "(") b, name_whole dn, exactly_reads Sign (codes ",") c, name_whole dm, exactly_reads Sign (codes ")") d) refl)
handled_whole (other_handled (g.dumped a b c dn)) after =
    handled_word on_is.Dumped a _ ∙ simp append_assoc (rw (exactly_reads Sign (codes "(") b, name_whole dn, exactly_reads Sign (codes ")") c) refl)

off_whole : {o : OnPart} {t : List Lexeme} {x : List Lexeme} {is_off : Bool} → SpellsOn t o → SpellsOff x is_off → (after : List Lexeme) → is_exactly Word (codes "off") (first after) ≡ false
    → off o (x ++ after) ≡ Read is_off after
off_whole {x = x} d dx after e = by_on x d (eaten dx) where
  eaten : {x : List Lexeme} {is_off : Bool} → SpellsOff x is_off → eat Word (codes "off") (x ++ after) ≡ Read is_off after
  eaten g.subscribed = eat_missing Word (codes "off") after e
  eaten (g.off a) = eat_takes Word (codes "off") a after

  by_on : {o : OnPart} {t : List Lexeme} {is_off : Bool} (x : List Lexeme) → SpellsOn t o → eat Word (codes "off") (x ++ after) ≡ Read is_off after → off o (x ++ after) ≡ Read is_off after
  by_on x (g.event b d d') k = k
  by_on x (g.start b) k = k
  by_on x (g.stop b) k = k
  by_on x (g.fault b c f h d d') k = k
  by_on x (g.dumped b c f d) k = k

begins_block : {two : Bool} {levels : ℕ} {v : List Lexeme} {xs : List StmtPart} → SpellsBlock two levels v xs → (after : List Lexeme) → is_exactly Word (codes "off") (first (v ++ after)) ≡ false
begins_block (a_block a b d) after = refl

handler_whole : {two : Bool} {t : List Lexeme} {x : HandlerPart} → SpellsHandler two t x → (after : List Lexeme) → item two (t ++ after) ≡ Read (i.Handler x) after
unfolding handler
handler_whole {two} (g.init a b c d e {t = t} {u = u} {v = v} dl dn db) after =
    item_behind two item_is.On a _
    ∙ simp append_assoc (rw (simp append_assoc at (handled_whole (init_handled b (parens c d dl)) (w (codes "as") e ∷ (u ++ (v ++ after)))), exactly_reads Word (codes "as") e, name_whole dn, block_whole db after) refl)
handler_whole {two} (g.other a b {t = t} {u = u} {v = v} {x = x} dh dn dx db) after =
    item_behind two item_is.On a _
    ∙ simp append_assoc (rw (
      handled_whole (other_handled dh) (w (codes "as") b ∷ (u ++ (x ++ (v ++ after)))),
      exactly_reads Word (codes "as") b,
      name_whole dn,
      off_whole dh dx (v ++ after) (begins_block db after),
      block_whole db after,
    ) refl)

-- ---- all declarations

pub item_whole : {two : Bool} {t : List Lexeme} {x : ItemPart} → SpellsItem two t x → (after : List Lexeme) → item two (t ++ after) ≡ Read x after
unfolding port var first_value slot first_child channel
item_whole {two} (g.provides a b c dn dm) after =
    item_behind two item_is.Provides a _ ∙ simp append_assoc (rw (name_whole dn, exactly_reads Sign (codes ":") b, name_whole dm, exactly_reads Sign (codes ";") c) refl)
item_whole {two} (g.requires_port a b c dn dm) after =
    item_behind two item_is.Requires a _ ∙ simp append_assoc (rw (name_whole dn, exactly_reads Sign (codes ":") b, name_whole dm, exactly_reads Sign (codes ";") c) refl)
item_whole {two} (g.var a b dn) after =
    item_behind two item_is.Var a _ ∙ simp append_assoc (rw (name_whole dn, eat_missing Sign (codes "=") (s (codes ";") b ∷ after) refl) (rw (exactly_reads Sign (codes ";") b) refl))
item_whole {two} (g.var_with a b c {u = u} {i = v} dn di) after =
    item_behind two item_is.Var a _
    ∙ simp append_assoc (rw (name_whole dn, eat_takes Sign (codes "=") b (u ++ (s (codes ";") c ∷ after))) (rw (int_whole u v (s (codes ";") c ∷ after) di, exactly_reads Sign (codes ";") c) refl))
item_whole {two} (g.slot a b dn) after =
    item_behind two item_is.Slot a _ ∙ simp append_assoc (rw (name_whole dn, eat_missing Sign (codes ":") (s (codes ";") b ∷ after) refl) (rw (exactly_reads Sign (codes ";") b) refl))
item_whole {two} (g.slot_with a b c {u = u} dn dx) after =
    item_behind two item_is.Slot a _
    ∙ simp append_assoc (rw (name_whole dn, eat_takes Sign (codes ":") b (u ++ (s (codes ";") c ∷ after))) (rw (child_whole dx (s (codes ";") c ∷ after), exactly_reads Sign (codes ";") c) refl))
item_whole {two} (g.channel a b c d e {z = z} dn dm dp dq dps dqs) after =
    item_behind two item_is.Channel a _
    ∙ simp append_assoc (rw (
      name_whole dn,
      exactly_reads Sign (codes ":") b,
      name_whole dm,
      exactly_reads Word (codes "from") c,
      end_whole dp,
      exactly_reads Word (codes "to") d,
      end_whole dq,
      selector_whole two (codes "plus") (z ++ (s (codes ";") e ∷ after)) dps (plus_follows dqs e after),
      selector_whole two (codes "minus") (s (codes ";") e ∷ after) dqs (record { no_direction = refl; no_and_sign = refl }),
      exactly_reads Sign (codes ";") e,
    ) refl)
item_whole (g.handler d) after = handler_whole d after

pub begins_item : {two : Bool} {t : List Lexeme} {x : ItemPart} → SpellsItem two t x → (after : List Lexeme) → is_exactly Sign (codes "}") (first (t ++ after)) ≡ false
begins_item (g.handler (g.init a b c d e dl dn db)) after = refl
begins_item (g.handler (g.other a b dh dn dx db)) after = refl
begins_item _ after = refl
