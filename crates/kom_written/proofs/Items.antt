-- What a component type declares is spelled again by the tokens with which it is written.
use Rattle.std.proofs.Common.{◌≡◌, ℕ, ℤ, pos, zero, suc, ◌≤◌, Bool, true, false, List, [], ◌∷◌, ◌++◌, map, Option, Some, None, refl, sym, ap, ◌∙◌, subst, arith, append_assoc}
use Rattle.std.specs.Prelude.{codes, neg_ℤ}
use Rattle.std.specs.Fmt as fmt
use Rattle.std.proofs.lemmas.List.{map-id, append-nil}
use Rattle.kom_events.specs.declared.selector.Op.{Op}
use Rattle.kom_events.specs.declared.selector.Op.TheVariants as rel
use Rattle.kom_system.specs.declared.parts.Spot.{Spot}
use Rattle.kom_system.specs.declared.parts.StmtPart.{StmtPart}
use Rattle.kom_system.specs.declared.parts.EndPart.{EndPart}
use Rattle.kom_system.specs.declared.parts.EndPart.TheVariants as end
use Rattle.kom_system.specs.declared.parts.OnPart.{OnPart}
use Rattle.kom_system.specs.declared.parts.OnPart.TheVariants as on
use Rattle.kom_system.specs.declared.parts.ChildPart.{ChildPart}
use Rattle.kom_system.specs.declared.parts.PortPart.{PortPart}
use Rattle.kom_system.specs.declared.parts.VarPart.{VarPart}
use Rattle.kom_system.specs.declared.parts.SlotPart.{SlotPart}
use Rattle.kom_system.specs.declared.parts.TestPart.{TestPart}
use Rattle.kom_system.specs.declared.parts.ChannelPart.{ChannelPart}
use Rattle.kom_system.specs.declared.parts.HandlerPart.{HandlerPart}
use Rattle.kom_text.specs.Numbers.{decimal, greatest}
use Rattle.kom_parse.specs.Lexemes.{Lexeme}
use Rattle.kom_parse.specs.Spelled.{SpellsList}
use Rattle.kom_grammar.specs.declared.items.ItemPart.{ItemPart}
use Rattle.kom_grammar.specs.declared.items.ItemPart.TheVariants as item
use Rattle.kom_grammar.specs.Words.{SpellsName, name, relation_of}
use Rattle.kom_grammar.specs.Expressions.{SpellsInt, plain, minus}
use Rattle.kom_grammar.specs.Statements.{SpellsBlock, max_blocks}
use Rattle.kom_grammar.specs.Files as g
use Rattle.kom_grammar.specs.Files.{SpellsChild, SpellsEnd, SpellsTest, SpellsTests, SpellsWhen, SpellsOff, SpellsOn, SpellsHandler, SpellsItem}
use Rattle.kom_rules.specs.Walks.{max_levels}
use Rattle.kom_spaced.specs.Spaced.{Written, can_stand, placed}
use Rattle.kom_written.specs.Unplaced.{spot, block_part, on_part, handler_part, child_part, port_part, var_part, slot_part, end_part, test_part, channel_part}
use Rattle.kom_written.specs.Tokens.{word, sign, semicolon, called, integer, more, separated, with_commas, block_tokens, stmts_tokens}
use Rattle.kom_written.specs.Declarations.{names_tokens, child_tokens, port_tokens, var_tokens, slot_tokens, end_tokens, test_tokens, selector_tokens, channel_tokens, on_tokens, off_tokens, handler_tokens}
use Rattle.kom_written.specs.Again.{AreSound, IsAgain}
use Rattle.kom_written.proofs.Steps.{behind, placed-append, both, stand-append, sound-left, sound-right, CanBeNamed, named, name_again, at_place, number_stands, small}
use Rattle.kom_written.proofs.Lists.{list_again}
use Rattle.kom_written.proofs.Stmts.{block_again}

-- ---- numbers and names

abbrev OfInt : ℤ → Type 0
OfInt i = IsAgain SpellsInt (λ x. x) (integer i) i

plain_again : (n : ℕ) → n ≤ greatest → OfInt (pos n)
plain_again n h =
    let v = number_stands n h in
    record { stand = both (v.0) refl; spell = λ at. (pos (decimal (fmt.decimal n)), plain at, ap pos v.1) }

minus_again : (n : ℕ) → n ≤ greatest → OfInt (neg_ℤ (pos n))
minus_again zero h = plain_again zero h
minus_again (suc n) h =
    let v = number_stands (suc n) h in
    record { stand = both (v.0) refl; spell = λ at. (neg_ℤ (pos (decimal (fmt.decimal (suc n)))), minus at _, ap (λ m. neg_ℤ (pos m)) v.1) }

pub int_again : (t : List Lexeme) (i : ℤ) → SpellsInt t i → AreSound t → OfInt i
int_again t i (plain a {ds = ds}) sound = plain_again (decimal ds) (small ds a sound.0)
int_again t i (minus a b {ds = ds}) sound = minus_again (decimal ds) (small ds b sound.1.0)

abbrev pub OfNames : List Spot → Type 0
OfNames ns = IsAgain (SpellsList SpellsName) (map spot) (names_tokens ns) ns

pub names_again : {t : List Lexeme} {ns : List Spot} → SpellsList SpellsName t ns → AreSound t → OfNames ns
names_again d sound = list_again SpellsName spot (λ n. called n ∷ []) (λ t n d s. name_again d s) d sound

-- ---- component types with arguments

abbrev pub OfChild : ChildPart → Type 0
OfChild c = IsAgain SpellsChild child_part (child_tokens c) c

pub child_again : {t : List Lexeme} {c : ChildPart} → SpellsChild t c → AreSound t → OfChild c
child_again (g.child a b {t = t} {u = u} {n = n} {vs = vs} d f) sound =
    let c = named d (sound-left t _ sound) in
    let h = list_again SpellsInt (λ x. x) integer int_again f (sound-left u _ (sound-right t _ sound).1) in
    record {
      stand = both (c.stands) (stand-append (with_commas integer vs) _ h.stand refl);
      spell = λ at. (
          let q : ℕ = behind at (called n ∷ sign (codes "(") ∷ []) in
          let r = h.spell q in
          let same : r.0 ≡ vs = sym (map-id r.0) ∙ r.2 ∙ map-id vs in (
            record { kind = at_place n at; args = r.0 },
            rw (placed-append q (with_commas integer vs) (sign (codes ")") ∷ [])) (g.child _ _ (name at c.name) r.1),
            ap (λ (z : List ℤ). child_part (record { kind = n; args = z })) same,
          ));
    }

-- ---- channels

abbrev OfEnd : EndPart → Type 0
OfEnd p = IsAgain SpellsEnd end_part (end_tokens p) p

end_again : {t : List Lexeme} {p : EndPart} → SpellsEnd t p → AreSound t → OfEnd p
end_again (g.free a) sound = record { stand = refl; spell = λ at. (end.Free, g.free at, refl) }
end_again (g.own a b {q = q} d) sound =
    let c = named d sound.1.1 in
    record { stand = both (c.stands) refl; spell = λ at. (end.Own (at_place q (behind at (word (codes "self") ∷ sign (codes ".") ∷ []))), g.own at _ (name _ c.name), refl) }
end_again (g.child_end a {t = t} {n = n} {q = q} d f) sound =
    let c = named d (sound-left t _ sound) in
    let c' = named f (sound-right t _ sound).1 in
    record {
      stand = both (c.stands) (both (c'.stands) refl);
      spell = λ at. (end.Child (at_place n at) (at_place q (behind at (called n ∷ sign (codes ".") ∷ []))), g.child_end _ (name at c.name) (name _ c'.name), refl);
    }

relation_stands : (op : Op) → can_stand (sign (relation_of op)) ≡ true
relation_stands rel.Eq = refl
relation_stands _ = refl

abbrev OfTest : TestPart → Type 0
OfTest x = IsAgain SpellsTest test_part (test_tokens x) x

test_again : {t : List Lexeme} {x : TestPart} → SpellsTest t x → AreSound t → OfTest x
test_again (g.test a b {t = t} {u = u} {v = v} {n = n} {m = m} {i = i} op d f k) sound =
    let behind_kind = (sound-right t _ sound).1 in
    let c = named d (sound-left t _ sound) in
    let c' = named f (sound-left u _ behind_kind) in
    let h = int_again v i k (sound-right u _ behind_kind).1 in
    record {
      stand = both (c.stands) (both (c'.stands) (both (relation_stands op) h.stand));
      spell = λ at. (
          let r = h.spell (behind at (called n ∷ sign (codes ".") ∷ called m ∷ sign (relation_of op) ∷ [])) in (
            record { kind = at_place n at; attr = at_place m (behind at (called n ∷ sign (codes ".") ∷ [])); op = op; number = r.0 },
            g.test _ _ op (name at c.name) (name _ c'.name) r.1,
            ap (λ (z : ℤ). test_part (record { kind = n; attr = m; op = op; number = z })) r.2,
          ));
    }

abbrev conjunction : Written
conjunction = sign (codes "&&")

abbrev tests_tokens : List TestPart → List Written
tests_tokens xs = separated conjunction test_tokens xs

abbrev OfTests : Bool → List TestPart → Type 0
OfTests two xs = IsAgain (SpellsTests two) (map test_part) (tests_tokens xs) xs

-- there is a test, so tests with `&&` before each begin with one
more_tests_are : {two : Bool} {t : List Lexeme} {xs : List TestPart} → SpellsTests two t xs → more conjunction test_tokens xs ≡ conjunction ∷ tests_tokens xs
more_tests_are (g.one_test d) = refl
more_tests_are (g.more_tests a h d ds) = refl

selector_is : {two : Bool} {t : List Lexeme} {xs : List TestPart} (direction : List ℕ) → SpellsTests two t xs → selector_tokens direction xs ≡ word direction ∷ word (codes "when") ∷ tests_tokens xs
selector_is direction (g.one_test d) = refl
selector_is direction (g.more_tests a h d ds) = refl

one_test_again : (two : Bool) (x : TestPart) → OfTest x → OfTests two (x ∷ [])
one_test_again two x h = record {
  stand = stand-append (test_tokens x) [] h.stand refl;
  spell = λ at. (
      let r = h.spell at in
      (r.0 ∷ [], subst (λ ts. SpellsTests two (placed at ts) (r.0 ∷ [])) (sym (append-nil (test_tokens x))) (g.one_test r.1), ap (λ z. z ∷ []) r.2));
}

more_tests_again : (two : Bool) (x : TestPart) (xs : List TestPart) → two ≡ true → more conjunction test_tokens xs ≡ conjunction ∷ tests_tokens xs → OfTest x → OfTests two xs → OfTests two (x ∷ xs)
more_tests_again two x xs is_two e h k = record {
  stand = stand-append (test_tokens x) (more conjunction test_tokens xs) h.stand (rw e (k.stand));
  spell = λ at. (
      let r = h.spell at in
      let q : ℕ = behind at (test_tokens x) in
      let r' = k.spell (behind q (conjunction ∷ [])) in (
        r.0 ∷ r'.0,
        rw e (rw (placed-append at (test_tokens x) (conjunction ∷ tests_tokens xs)) (g.more_tests q is_two r.1 r'.1)),
        ap (λ z. z ∷ map test_part r'.0) r.2 ∙ ap (λ zs. test_part x ∷ zs) r'.2,
      ));
}

tests_again : {two : Bool} {t : List Lexeme} {xs : List TestPart} → SpellsTests two t xs → AreSound t → OfTests two xs
tests_again {two = two} (g.one_test {x = x} d) sound = one_test_again two x (test_again d sound)
tests_again {two = two} (g.more_tests a {t = t} {x = x} {xs = xs} is_two d ds) sound =
    more_tests_again two x xs is_two (more_tests_are ds) (test_again d (sound-left t _ sound)) (tests_again ds (sound-right t _ sound).1)

abbrev OfWhen : Bool → List ℕ → List TestPart → Type 0
OfWhen two direction xs = IsAgain (SpellsWhen two direction) (map test_part) (selector_tokens direction xs) xs

selected : (two : Bool) (direction : List ℕ) (xs : List TestPart) → can_stand (word direction) ≡ true → selector_tokens direction xs ≡ word direction ∷ word (codes "when") ∷ tests_tokens xs → OfTests two xs → OfWhen two direction xs
selected two direction xs w e h = record {
  stand = rw e (both w h.stand);
  spell = λ at. (
      let r = h.spell (behind at (word direction ∷ word (codes "when") ∷ [])) in
      (r.0, rw e (g.tests at _ r.1), r.2));
}

when_again : {two : Bool} {direction : List ℕ} {t : List Lexeme} {xs : List TestPart} → can_stand (word direction) ≡ true → SpellsWhen two direction t xs → AreSound t → OfWhen two direction xs
when_again w g.no_tests sound = record { stand = refl; spell = λ at. ([], g.no_tests, refl) }
when_again {two = two} {direction = direction} w (g.tests a b {xs = xs} d) sound = selected two direction xs w (selector_is direction d) (tests_again d sound.1.1)

-- ---- handlers

abbrev OfOff : Bool → Type 0
OfOff b = IsAgain SpellsOff (λ x. x) (off_tokens b) b

off_again : {t : List Lexeme} {b : Bool} → SpellsOff t b → OfOff b
off_again g.subscribed = record { stand = refl; spell = λ at. (false, g.subscribed, refl) }
off_again (g.off a) = record { stand = refl; spell = λ at. (true, g.off at, refl) }

abbrev OfOn : OnPart → Type 0
OfOn o = IsAgain SpellsOn on_part (on_tokens o) o

on_again : {t : List Lexeme} {o : OnPart} → SpellsOn t o → AreSound t → OfOn o
on_again (g.event a {t = t} {n = n} {q = q} d f) sound =
    let c = named d (sound-left t _ sound) in
    let c' = named f (sound-right t _ sound).1 in
    record {
      stand = both (c.stands) (both (c'.stands) refl);
      spell = λ at. (on.Event (at_place n at) (at_place q (behind at (called n ∷ word (codes "at") ∷ []))), g.event _ (name at c.name) (name _ c'.name), refl);
    }
on_again (g.start a) sound = record { stand = refl; spell = λ at. (on.Start, g.start at, refl) }
on_again (g.stop a) sound = record { stand = refl; spell = λ at. (on.Stop, g.stop at, refl) }
on_again (g.fault a b c d {t = t} {u = u} {n = n} {m = m} f k) sound =
    let x = named f (sound-left t _ sound.1.1) in
    let y = named k (sound-left u _ (sound-right t _ sound.1.1).1) in
    record {
      stand = both (x.stands) (both (y.stands) refl);
      spell = λ at. (
        on.Fault (at_place n (behind at (word (codes "fault") ∷ sign (codes "(") ∷ []))) (at_place m (behind at (word (codes "fault") ∷ sign (codes "(") ∷ called n ∷ sign (codes ",") ∷ []))),
        g.fault at _ _ _ (name _ x.name) (name _ y.name),
        refl,
      );
    }
on_again (g.dumped a b c {t = t} {n = n} d) sound =
    let x = named d (sound-left t _ sound.1.1) in
    record {
      stand = both (x.stands) refl;
      spell = λ at. (on.Dumped (at_place n (behind at (word (codes "dumped") ∷ sign (codes "(") ∷ []))), g.dumped at _ _ (name _ x.name), refl);
    }

abbrev OfBlock : Bool → List StmtPart → Type 0
OfBlock two xs = IsAgain (SpellsBlock two max_blocks) (block_part max_levels) (block_tokens (stmts_tokens max_levels xs)) xs

abbrev OfHandler : Bool → HandlerPart → Type 0
OfHandler two h = IsAgain (SpellsHandler two) handler_part (handler_tokens h) h

abbrev made_handler : Spot → OnPart → Bool → List StmtPart → HandlerPart
made_handler n o is_off xs = record { name = n; on = o; off = is_off; block = xs }

init_again : (two : Bool) (ns : List Spot) (n : Spot) (xs : List StmtPart) → OfNames ns → CanBeNamed n → OfBlock two xs → OfHandler two (made_handler n (on.Init ns) false xs)
init_again two ns n xs h c b =
    let N : List Written = names_tokens ns in
    let B : List Written = block_tokens (stmts_tokens max_levels xs) in
    let closed : List Written = sign (codes ")") ∷ [] in
    let named_block : List Written = word (codes "as") ∷ called n ∷ B in
    record {
      stand = stand-append (N ++ closed) named_block (stand-append N closed h.stand refl) (both (c.stands) b.stand);
      spell = λ at. (
          let q : ℕ = behind at (word (codes "on") ∷ word (codes "init") ∷ sign (codes "(") ∷ []) in
          let r = h.spell q in
          let q1 : ℕ = behind q N in
          let r' = b.spell (behind q1 (sign (codes ")") ∷ word (codes "as") ∷ called n ∷ [])) in (
            made_handler (at_place n (behind q1 (sign (codes ")") ∷ word (codes "as") ∷ []))) (on.Init r.0) false r'.0,
            rw (append_assoc N closed named_block) (rw (placed-append q N (closed ++ named_block)) (g.init at _ _ _ _ r.1 (name _ c.name) r'.1)),
            ap (λ z. made_handler (spot n) (on.Init z) false (block_part max_levels r'.0)) r.2 ∙ ap (λ z. made_handler (spot n) (on.Init (map spot ns)) false z) r'.2,
          ));
    }

other_again : (two : Bool) (o : OnPart) (n : Spot) (is_off : Bool) (xs : List StmtPart) → OfOn o → CanBeNamed n → OfOff is_off → OfBlock two xs → OfHandler two (made_handler n o is_off xs)
other_again two o n is_off xs h c f b =
    let O : List Written = on_tokens o in
    let F : List Written = off_tokens is_off in
    let B : List Written = block_tokens (stmts_tokens max_levels xs) in
    record {
      stand = stand-append O (word (codes "as") ∷ called n ∷ (F ++ B)) h.stand (both (c.stands) (stand-append F B f.stand b.stand));
      spell = λ at. (
          let q : ℕ = behind at (word (codes "on") ∷ []) in
          let r = h.spell q in
          let q1 : ℕ = behind q O in
          let q2 : ℕ = behind q1 (word (codes "as") ∷ called n ∷ []) in
          let rf = f.spell q2 in
          let r' = b.spell (behind q2 F) in (
            made_handler (at_place n (behind q1 (word (codes "as") ∷ []))) r.0 rf.0 r'.0,
            rw (placed-append q O (word (codes "as") ∷ called n ∷ (F ++ B))) (rw (placed-append q2 F B) (g.other at _ r.1 (name _ c.name) rf.1 r'.1)),
            ap (λ z. made_handler (spot n) z rf.0 (block_part max_levels r'.0)) r.2 ∙ ap (λ z. made_handler (spot n) (on_part o) z (block_part max_levels r'.0)) rf.2
                ∙ ap (λ z. made_handler (spot n) (on_part o) is_off z) r'.2,
          ));
    }

handler_again : {two : Bool} {t : List Lexeme} {h : HandlerPart} → SpellsHandler two t h → AreSound t → OfHandler two h
handler_again {two = two} (g.init a b c d e {t = t} {u = u} {v = v} {ns = ns} {n = n} {xs = xs} dns dn db) sound =
    let after_names = (sound-right t _ sound.1.1.1).1.1 in
    init_again two ns n xs (names_again dns (sound-left t _ sound.1.1.1)) (named dn (sound-left u _ after_names)) (block_again db (sound-right u _ after_names))
handler_again {two = two} (g.other a b {t = t} {u = u} {v = v} {x = x} {o = o} {n = n} {is_off = is_off} {xs = xs} d dn df db) sound =
    let after_on = (sound-right t _ sound.1).1 in
    let after_name = sound-right u _ after_on in
    other_again two o n is_off xs (on_again d (sound-left t _ sound.1)) (named dn (sound-left u _ after_on)) (off_again df) (block_again db (sound-right x _ after_name))

-- ---- items of a component type

module _ (two : Bool) where
  abbrev pub OfPort : PortPart → Type 0
  OfPort x = IsAgain (λ t y. SpellsItem two t (item.Port y)) port_part (port_tokens x) x

  abbrev pub OfVar : VarPart → Type 0
  OfVar x = IsAgain (λ t y. SpellsItem two t (item.Var y)) var_part (var_tokens x) x

  abbrev pub OfSlot : SlotPart → Type 0
  OfSlot x = IsAgain (λ t y. SpellsItem two t (item.Slot y)) slot_part (slot_tokens x) x

  abbrev pub OfChannel : ChannelPart → Type 0
  OfChannel x = IsAgain (λ t y. SpellsItem two t (item.Channel y)) channel_part (channel_tokens x) x

  abbrev pub OfHandlerItem : HandlerPart → Type 0
  OfHandlerItem x = IsAgain (λ t y. SpellsItem two t (item.Handler y)) handler_part (handler_tokens x) x

  abbrev pub OfItem : ItemPart → Type 0
  OfItem (item.Port x) = OfPort x
  OfItem (item.Var x) = OfVar x
  OfItem (item.Slot x) = OfSlot x
  OfItem (item.Channel x) = OfChannel x
  OfItem (item.Handler x) = OfHandlerItem x

  provides_again : (n m : Spot) → CanBeNamed n → CanBeNamed m → OfPort (record { name = n; port = m; provided = true })
  provides_again n m c c' = record {
    stand = both (c.stands) (both (c'.stands) refl);
    spell = λ at. (
      record { name = at_place n (behind at (word (codes "provides") ∷ [])); port = at_place m (behind at (word (codes "provides") ∷ called n ∷ sign (codes ":") ∷ [])); provided = true },
      g.provides at _ _ (name _ c.name) (name _ c'.name),
      refl,
    );
  }

  requires_again : (n m : Spot) → CanBeNamed n → CanBeNamed m → OfPort (record { name = n; port = m; provided = false })
  requires_again n m c c' = record {
    stand = both (c.stands) (both (c'.stands) refl);
    spell = λ at. (
      record { name = at_place n (behind at (word (codes "requires") ∷ [])); port = at_place m (behind at (word (codes "requires") ∷ called n ∷ sign (codes ":") ∷ [])); provided = false },
      g.requires_port at _ _ (name _ c.name) (name _ c'.name),
      refl,
    );
  }

  var_again : (n : Spot) (i : ℤ) → CanBeNamed n → OfInt i → OfVar (record { name = n; first = i })
  var_again n i c h = record {
    stand = both (c.stands) (stand-append (integer i) (semicolon ∷ []) h.stand refl);
    spell = λ at. (
        let q : ℕ = behind at (word (codes "var") ∷ called n ∷ sign (codes "=") ∷ []) in
        let r = h.spell q in (
          record { name = at_place n (behind at (word (codes "var") ∷ [])); first = r.0 },
          rw (placed-append q (integer i) (semicolon ∷ [])) (g.var_with at _ _ (name _ c.name) r.1),
          ap (λ (z : ℤ). var_part (record { name = n; first = z })) r.2,
        ));
  }

  abbrev made_slot : Spot → Option ChildPart → SlotPart
  made_slot n o = record { name = n; child = o }

  slot_again : (n : Spot) → CanBeNamed n → OfSlot (made_slot n None)
  slot_again n c = record {
    stand = both (c.stands) refl;
    spell = λ at. (made_slot (at_place n (behind at (word (codes "slot") ∷ []))) None, g.slot at _ (name _ c.name), refl);
  }

  typed_again : (n : Spot) (x : ChildPart) → CanBeNamed n → OfChild x → OfSlot (made_slot n (Some x))
  typed_again n x c h = record {
    stand = both (c.stands) (stand-append (child_tokens x) (semicolon ∷ []) h.stand refl);
    spell = λ at. (
        let q : ℕ = behind at (word (codes "slot") ∷ called n ∷ sign (codes ":") ∷ []) in
        let r = h.spell q in (
          made_slot (at_place n (behind at (word (codes "slot") ∷ []))) (Some r.0),
          rw (placed-append q (child_tokens x) (semicolon ∷ [])) (g.slot_with at _ _ (name _ c.name) r.1),
          ap (λ z. made_slot (spot n) (Some z)) r.2,
        ));
  }

  abbrev made_channel : Spot → Spot → EndPart → EndPart → List TestPart → List TestPart → ChannelPart
  made_channel n m p q ps qs = record { name = n; port = m; plus = p; minus = q; plus_when = ps; minus_when = qs }

  channel_again : (n m : Spot) (p q : EndPart) (ps qs : List TestPart) → CanBeNamed n → CanBeNamed m → OfEnd p → OfEnd q → OfWhen two (codes "plus") ps → OfWhen two (codes "minus") qs
      → OfChannel (made_channel n m p q ps qs)
  channel_again n m p q ps qs c c' hp hq hps hqs =
      let E : List Written = end_tokens p in
      let F : List Written = end_tokens q in
      let W : List Written = selector_tokens (codes "plus") ps in
      let V : List Written = selector_tokens (codes "minus") qs in
      let end : List Written = semicolon ∷ [] in
      record {
        stand = both (c.stands) (both (c'.stands) (stand-append E (word (codes "to") ∷ (F ++ (W ++ (V ++ end)))) hp.stand
            (stand-append F (W ++ (V ++ end)) hq.stand (stand-append W (V ++ end) hps.stand (stand-append V end hqs.stand refl)))));
        spell = λ at. (
            let a : ℕ = behind at (word (codes "channel") ∷ called n ∷ sign (codes ":") ∷ called m ∷ word (codes "from") ∷ []) in
            let re = hp.spell a in
            let a1 : ℕ = behind (behind a E) (word (codes "to") ∷ []) in
            let rf = hq.spell a1 in
            let a2 : ℕ = behind a1 F in
            let rw' = hps.spell a2 in
            let a3 : ℕ = behind a2 W in
            let rv = hqs.spell a3 in (
              made_channel (at_place n (behind at (word (codes "channel") ∷ []))) (at_place m (behind at (word (codes "channel") ∷ called n ∷ sign (codes ":") ∷ []))) re.0 rf.0 rw'.0 rv.0,
              rw (placed-append a E (word (codes "to") ∷ (F ++ (W ++ (V ++ end))))) (rw (placed-append a1 F (W ++ (V ++ end))) (rw (placed-append a2 W (V ++ end)) (rw (placed-append a3 V end)
                  (g.channel at _ _ _ _ (name _ c.name) (name _ c'.name) re.1 rf.1 rw'.1 rv.1)))),
              ap (λ z. made_channel (spot n) (spot m) z (end_part rf.0) (map test_part rw'.0) (map test_part rv.0)) re.2
                  ∙ ap (λ z. made_channel (spot n) (spot m) (end_part p) z (map test_part rw'.0) (map test_part rv.0)) rf.2
                  ∙ ap (λ z. made_channel (spot n) (spot m) (end_part p) (end_part q) z (map test_part rv.0)) rw'.2
                  ∙ ap (λ z. made_channel (spot n) (spot m) (end_part p) (end_part q) (map test_part ps) z) rv.2,
            ));
      }

  as_item : (h : HandlerPart) → OfHandler two h → OfHandlerItem h
  as_item h k = record { stand = k.stand; spell = λ at. (let r = k.spell at in (r.0, g.handler r.1, r.2)) }

  pub item_again : {t : List Lexeme} {x : ItemPart} → SpellsItem two t x → AreSound t → OfItem x
  item_again (g.provides a b c {t = t} {u = u} {n = n} {m = m} d f) sound =
      let after = (sound-right t _ sound.1).1 in provides_again n m (named d (sound-left t _ sound.1)) (named f (sound-left u _ after))
  item_again (g.requires_port a b c {t = t} {u = u} {n = n} {m = m} d f) sound =
      let after = (sound-right t _ sound.1).1 in requires_again n m (named d (sound-left t _ sound.1)) (named f (sound-left u _ after))
  item_again (g.var a b {t = t} {n = n} d) sound = var_again n (pos 0) (named d (sound-left t _ sound.1)) (plain_again 0 (omega arith))
  item_again (g.var_with a b c {t = t} {u = u} {n = n} {i = i} d f) sound =
      var_again n i (named d (sound-left t _ sound.1)) (int_again u i f (sound-left u _ (sound-right t _ sound.1).1))
  item_again (g.slot a b {t = t} {n = n} d) sound = slot_again n (named d (sound-left t _ sound.1))
  item_again (g.slot_with a b c {t = t} {u = u} {n = n} {x = x} d f) sound =
      typed_again n x (named d (sound-left t _ sound.1)) (child_again f (sound-left u _ (sound-right t _ sound.1).1))
  item_again (g.channel a b c d e {t = t} {u = u} {v = v} {x = x} {y = y} {z = z} {n = n} {m = m} {p = p} {q = q} {ps = ps} {qs = qs} dn dm dp dq dps dqs) sound =
      let s1 = (sound-right t _ sound.1).1 in
      let s2 = (sound-right u _ s1).1 in
      let s3 = (sound-right v _ s2).1 in
      let s4 = sound-right x _ s3 in
      let s5 = sound-right y _ s4 in
      channel_again n m p q ps qs (named dn (sound-left t _ sound.1)) (named dm (sound-left u _ s1)) (end_again dp (sound-left v _ s2)) (end_again dq (sound-left x _ s3))
      (when_again refl dps (sound-left y _ s4)) (when_again refl dqs (sound-left z _ s5))
  item_again (g.handler {x = x} d) sound = as_item x (handler_again d sound)
