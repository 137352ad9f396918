-- What component types declare as it is written.
use Rattle.std.proofs.Common.{◌≡◌, ℕ, ℤ, zero, suc, Bool, true, false, not, List, [], ◌∷◌, ◌++◌, map, Option, Some, None, slice_get, refl, sym, ap, ◌∙◌, arith, subst, append_assoc}
use Rattle.std.specs.Prelude.{codes, if◌then◌else◌}
use Rattle.std.specs.List.{flat_map, fold}
use Rattle.std.specs.Option.{option_map, option_map_or, option_and_then}
use Rattle.std.proofs.lemmas.List.{append-nil, map-id}
use Rattle.kom_base.specs.declared.numbers.Dir.{Dir}
use Rattle.kom_base.specs.declared.numbers.Dir.TheVariants.{Plus, Minus}
use Rattle.kom_events.specs.declared.selector.Op.{Op}
use Rattle.kom_events.specs.declared.selector.Op.TheVariants as rel
use Rattle.kom_lang.specs.declared.kind.Kind.{Kind}
use Rattle.kom_lang.specs.declared.kind.SlotDecl.{SlotDecl}
use Rattle.kom_lang.specs.Declarations.{kind_of}
use Rattle.kom_system.specs.declared.parts.Spot.{Spot}
use Rattle.kom_system.specs.declared.parts.EndPart.{EndPart}
use Rattle.kom_system.specs.declared.parts.EndPart.TheVariants as end
use Rattle.kom_system.specs.declared.parts.OnPart.{OnPart}
use Rattle.kom_system.specs.declared.parts.OnPart.TheVariants as on
use Rattle.kom_system.specs.declared.parts.ChildPart.{ChildPart}
use Rattle.kom_system.specs.declared.parts.PortPart.{PortPart}
use Rattle.kom_system.specs.declared.parts.VarPart.{VarPart}
use Rattle.kom_system.specs.declared.parts.SlotPart.{SlotPart}
use Rattle.kom_system.specs.declared.parts.TestPart.{TestPart}
use Rattle.kom_system.specs.declared.parts.ChannelPart.{ChannelPart}
use Rattle.kom_system.specs.declared.parts.HandlerPart.{HandlerPart}
use Rattle.kom_system.specs.declared.parts.ComponentPart.{ComponentPart}
use Rattle.kom_system.specs.declared.parts.Parts.{Parts}
use Rattle.kom_record.specs.Trace.{Text, direction, port_name, slot_name}
use Rattle.kom_grammar.specs.Words.{relation_of}
use Rattle.kom_rules.specs.Names as names
use Rattle.kom_rules.specs.Names.{names_of, is_among, at_if, with_name, each_once, repeated}
use Rattle.kom_rules.specs.Spaces.{parameters, item_spots, component_spots, slot_named, type_in, component_number, event_number, attribute_names}
use Rattle.kom_rules.specs.Walks.{One, Standing, statements, standing, of_statements, in_expressions, max_levels}
use Rattle.kom_rules.specs.Declaring.{unknown_in_on, unknown_in_one, unknown_at, unknown_value, unknown_event, unknown_port_type, unknown_component, unknown_port, unknown_slot, unknown_end, unknown_in_channel, unknown_in_handler, unknown_inside, let_clashes, clashes, clashes_in, name_clashes, one_by_one, events_twice, port_types_twice, components_twice}
use Rattle.kom_rules.specs.Fitting.{untyped_end, untyped_in}
use Rattle.kom_rules.specs.Handling.{no_event, lacked_by_it, lacked_by_tests, lacks, large_fault}
use Rattle.kom_resolve.specs.Resolved.{resolved, kind_value, child_value, port_value, var_value, slot_value, end_value, test_value, channel_value, handler_value, on_value, block_value, port_number, slot_number, port_number_at}
use Rattle.kom_sysprint.specs.Canonical as text
use Rattle.kom_sysprint.specs.Canonical.{end_of_line, block_of, in_parentheses, inside_of}
use Rattle.kom_accept.proofs.Lists.{known, not_at, not_true, first_empty, second_empty, none_at, mapped_at}
use Rattle.kom_accept.proofs.Kept.{Keeps}
use Rattle.kom_accept.proofs.Components.{declared, kind_is, there, port_type_known, slot_type_known, inside_unknown, handler_known, component_known}
use Rattle.kom_spaced.specs.Spaced.{Written, text_of}
use Rattle.kom_written.specs.Tokens.{word, sign, last, number, semicolon, called, integer, separated, with_commas, block_tokens, stmts_tokens}
use Rattle.kom_written.specs.Declarations.{names_tokens, child_tokens, side_word, port_tokens, var_tokens, typed_tokens, slot_tokens, end_tokens, test_tokens, selector_tokens, channel_tokens, on_tokens, off_tokens, handler_tokens, items_tokens, component_tokens}
use Rattle.kom_written.proofs.Rows.{Each, each_more, each_and}
use Rattle.kom_spelling.proofs.Names.{port_found, slot_found, event_found, port_type_found, kind_found, attribute_found}
use Rattle.kom_spelling.proofs.Texts.{text-append, integer_spelled, each_all, row_spelled, list_spelled, separated_spelled}
use Rattle.kom_spelling.proofs.Lines.{IsText, of, lit, named, signed, followed, as_tokens, a_block, enclosed, inside, flat5, flat6, inside_line}
use Rattle.kom_spelling.proofs.Stmts.{Spellable, block_spelled}

-- ---- lists of which each member keeps a rule

pub each_at : {A : Type 0} (Q : A → Type 0) (xs : List A) → ((k : ℕ) (x : A) → slice_get xs k ≡ Some x → Q x) → Each Q xs
each_at Q [] h = tt
each_at Q (x ∷ xs) h = (h 0 x refl, each_at Q xs (λ k y e. h (suc k) y e))

each_none : {A : Type 0} (f : A → List ℕ) (xs : List A) → flat_map f xs ≡ [] → Each (λ x. f x ≡ []) xs
each_none f [] e = tt
each_none f (x ∷ xs) e = (first_empty (f x) (flat_map f xs) e, each_none f xs (second_empty (f x) (flat_map f xs) e))

-- ---- lines

abbrev ended : List Written
ended = semicolon ∷ []

side : (b : Bool) → IsText (text.side_text b) (word (side_word b) ∷ [])
side true = lit (word (codes "provides") ∷ [])
side false = lit (word (codes "requires") ∷ [])

port_line : {a m : Text} (b : Bool) (n : Text) → a ≡ m → text.side_text b ++ text.word n ++ codes ": " ++ text.word a ++ end_of_line ≡ text_of (word (side_word b) ∷ word n ∷ sign (codes ":") ∷ word m ∷ semicolon ∷ [])
port_line b n e = (followed (followed (followed (followed (side b) (named {a = n} {n = n} refl)) (lit (sign (codes ":") ∷ []))) (named e)) (lit ended)).is

var_line : (X : List Written) {T : Text} (n : Text) → T ≡ text_of X → codes "var " ++ text.word n ++ codes "= " ++ T ++ end_of_line ≡ text_of (word (codes "var") ∷ word n ∷ sign (codes "=") ∷ (X ++ semicolon ∷ []))
var_line X n h = (followed (followed (followed (followed (lit (word (codes "var") ∷ [])) (named {a = n} {n = n} refl)) (lit (sign (codes "=") ∷ []))) (of X h)) (lit ended)).is

child_line : (X : List Written) {a m L : Text} → a ≡ m → L ≡ text_of X → text.word a ++ in_parentheses L ≡ text_of (word m ∷ sign (codes "(") ∷ (X ++ sign (codes ")") ∷ []))
child_line X e h = (followed (named e) (enclosed (of X h))).is

slot_line : (X : List Written) {T : Text} (n : Text) → T ≡ text_of X → codes "slot " ++ text.word n ++ T ++ end_of_line ≡ text_of (word (codes "slot") ∷ word n ∷ (X ++ semicolon ∷ []))
slot_line X n h = (followed (followed (followed (lit (word (codes "slot") ∷ [])) (named {a = n} {n = n} refl)) (of X h)) (lit ended)).is

test_line : (X : List Written) {a n b m r s N : Text} → a ≡ n → b ≡ m → r ≡ s → N ≡ text_of X → inside_of a b ++ text.word r ++ N ≡ text_of (word n ∷ sign (codes ".") ∷ word m ∷ sign s ∷ X)
test_line X e f g h = (followed (followed (inside e f) (signed g)) (of X h)).is

selector_line : (X : List Written) {d e S : Text} → d ≡ e → S ≡ text_of X → text.word d ++ codes "when " ++ S ≡ text_of (word e ∷ word (codes "when") ∷ X)
selector_line X h k = (followed (followed (named h) (lit (word (codes "when") ∷ []))) (of X k)).is

channel_line : (X Y Z W : List Written) {a m E F S M : Text} (n : Text) → a ≡ m → E ≡ text_of X → F ≡ text_of Y → S ≡ text_of Z → M ≡ text_of W
    → codes "channel " ++ text.word n ++ codes ": " ++ text.word a ++ codes "from " ++ E ++ codes "to " ++ F ++ S ++ M ++ end_of_line
    ≡ text_of (word (codes "channel") ∷ word n ∷ sign (codes ":") ∷ word m ∷ word (codes "from") ∷ (X ++ word (codes "to") ∷ (Y ++ (Z ++ (W ++ semicolon ∷ [])))))
channel_line X Y Z W {m = m} n e h k l i =
    as_tokens (followed (followed (followed (followed (followed (followed (followed (followed (followed (followed (lit (word (codes "channel") ∷ [])) (named {a = n} {n = n} refl)) (lit (sign (codes ":") ∷ []))) (named e)) (lit (word (codes "from") ∷ []))) (of X h))
    (lit (word (codes "to") ∷ []))) (of Y k)) (of Z l)) (of W i)) (lit ended))
    (ap (λ (ts : List Written). word (codes "channel") ∷ word n ∷ sign (codes ":") ∷ word m ∷ word (codes "from") ∷ ts) (flat6 X (word (codes "to") ∷ []) Y Z W ended))

event_line : {a n b q : Text} → a ≡ n → b ≡ q → text.word a ++ codes "at " ++ text.word b ≡ text_of (word n ∷ word (codes "at") ∷ word q ∷ [])
event_line e f = (followed (followed (named e) (lit (word (codes "at") ∷ []))) (named f)).is

init_line : (X : List Written) {L : Text} → L ≡ text_of X → codes "init " ++ in_parentheses L ≡ text_of (word (codes "init") ∷ sign (codes "(") ∷ (X ++ sign (codes ")") ∷ []))
init_line X h = (followed (lit (word (codes "init") ∷ [])) (enclosed (of X h))).is

fault_line : (a b : Text) → codes "fault ( " ++ text.word a ++ codes ", " ++ text.word b ++ codes ") " ≡ text_of (word (codes "fault") ∷ sign (codes "(") ∷ word a ∷ sign (codes ",") ∷ word b ∷ sign (codes ")") ∷ [])
fault_line a b = (followed (followed (followed (followed (lit (word (codes "fault") ∷ sign (codes "(") ∷ [])) (named {a = a} {n = a} refl)) (lit (sign (codes ",") ∷ []))) (named {a = b} {n = b} refl)) (lit (sign (codes ")") ∷ []))).is

dumped_line : (a : Text) → codes "dumped ( " ++ text.word a ++ codes ") " ≡ text_of (word (codes "dumped") ∷ sign (codes "(") ∷ word a ∷ sign (codes ")") ∷ [])
dumped_line a = (followed (followed (lit (word (codes "dumped") ∷ sign (codes "(") ∷ [])) (named {a = a} {n = a} refl)) (lit (sign (codes ")") ∷ []))).is

handler_line : (X Y Z : List Written) {O F B : Text} (n : Text) → O ≡ text_of X → F ≡ text_of Y → B ≡ text_of Z
    → codes "on " ++ O ++ codes "as " ++ text.word n ++ F ++ block_of B ≡ text_of (word (codes "on") ∷ (X ++ word (codes "as") ∷ word n ∷ (Y ++ block_tokens Z)))
handler_line X Y Z n h k l =
    as_tokens (followed (followed (followed (followed (followed (lit (word (codes "on") ∷ [])) (of X h)) (lit (word (codes "as") ∷ []))) (named {a = n} {n = n} refl)) (of Y k)) (a_block (of Z l)))
    (ap (λ (ts : List Written). word (codes "on") ∷ ts) (flat5 X (word (codes "as") ∷ []) (word n ∷ []) Y (block_tokens Z)))

component_line : (X : List Written) {I : Text} (n : Text) → I ≡ text_of X → codes "component " ++ text.word n ++ block_of I ≡ text_of (word (codes "component") ∷ word n ∷ block_tokens X)
component_line X n h = (followed (followed (lit (word (codes "component") ∷ [])) (named {a = n} {n = n} refl)) (a_block (of X h))).is

-- five rows
five_rows : (A B C D E : List Written) {a b c d e : Text} → a ≡ text_of A → b ≡ text_of B → c ≡ text_of C → d ≡ text_of D → e ≡ text_of E → a ++ b ++ c ++ d ++ e ≡ text_of (A ++ (B ++ (C ++ (D ++ E))))
five_rows A B C D E h k l i j = as_tokens (followed (followed (followed (followed (of A h) (of B k)) (of C l)) (of D i)) (of E j)) (flat5 A B C D E)

-- ---- declarations without names of others

pub child_spelled : (P : Parts) (K : Keeps P) (x : ChildPart) → unknown_component P x.kind ≡ [] → text.child_text (resolved P) (child_value P x) ≡ text_of (child_tokens x)
child_spelled P K x u =
    child_line (with_commas integer x.args) (kind_found P K x.kind u) (ap (text.separated (codes ", ") text.integer) (sym (map-id x.args)) ∙ list_spelled (λ i. i) text.integer integer x.args (each_all (λ i. text.integer i ≡ text_of (integer i)) integer_spelled x.args))

relation_is : (op : Op) → text.relation op ≡ relation_of op
relation_is rel.Eq = refl
relation_is _ = refl

-- the names of parameters, of which none is in scope twice
once_in : (c : ComponentPart) (scope : List names.Name) (spots : List Spot) → flat_map (λ x. clashes c x.scope x.name) (one_by_one scope spots) ≡ [] → fold with_name scope (names_of spots) ≡ scope ++ names_of spots
once_in c scope [] e = sym (append-nil scope)
once_in c scope (s ∷ rest) e =
    let new : with_name scope s.name ≡ scope ++ s.name ∷ [] = by (is_among scope s.name) (not_at (is_among scope s.name) s.at (first_empty (at_if (is_among scope s.name) s.at) _ (first_empty (clashes c scope s) _ e))) in
    once_in c (with_name scope s.name) rest (second_empty (clashes c scope s) _ e) ∙ ap (λ q. q ++ names_of rest) new ∙ append_assoc scope (s.name ∷ []) (names_of rest)
  where
    by : (b : Bool) → b ≡ false → (if b then scope else scope ++ s.name ∷ []) ≡ scope ++ s.name ∷ []
    by true h = absurd cc
    by false h = refl

parameters_are : (P : Parts) (c : ComponentPart) (o : OnPart) → text.parameters (on_value P c o) ≡ names_of (parameters o)
parameters_are P c (on.Event kind port) = refl
parameters_are P c (on.Init spots) = refl
parameters_are P c on.Start = refl
parameters_are P c on.Stop = refl
parameters_are P c (on.Fault slot n) = refl
parameters_are P c (on.Dumped slot) = refl

off_spelled : (b : Bool) → text.off_text b ≡ text_of (off_tokens b)
off_spelled true = refl
off_spelled false = refl

module _ (P : Parts) (K : Keeps P) (n : ℕ) (c : ComponentPart) (at : slice_get P.components n ≡ Some c) where
  -- ---- ports, variables and slots

  port_spelled : (k : ℕ) (p : PortPart) → slice_get c.ports k ≡ Some p → text.port_text (resolved P) (port_value P p) ≡ text_of (port_tokens p)
  port_spelled k p h = port_line p.provided p.name.name (port_type_found P K p.port (port_type_known P K n c at k p h))

  var_spelled : (v : VarPart) → text.var_text (resolved P) (var_value v) ≡ text_of (var_tokens v)
  var_spelled v = var_line (integer v.first) v.name.name (integer_spelled v.first)

  typed_spelled : (o : Option ChildPart) → option_map_or (λ child. unknown_component P child.kind) o [] ≡ [] → text.typed_text (resolved P) (option_map (child_value P) o) ≡ text_of (typed_tokens o)
  typed_spelled None u = refl
  typed_spelled (Some x) u = ap (λ t. codes ": " ++ t) (child_spelled P K x u)

  slot_spelled : (k : ℕ) (s : SlotPart) → slice_get c.slots k ≡ Some s → text.slot_text (resolved P) (slot_value P s) ≡ text_of (slot_tokens s)
  slot_spelled k s h = slot_line (typed_tokens s.child) s.name.name (typed_spelled s.child (slot_type_known P K n c at k s h))

  -- ---- channels

  channel_known : (k : ℕ) (x : ChannelPart) → slice_get c.channels k ≡ Some x → unknown_in_channel P c x ≡ []
  channel_known k x h = none_at (unknown_in_channel P c) c.channels k x (first_empty (flat_map (unknown_in_channel P c) c.channels) (flat_map (unknown_in_handler P c) c.handlers) (inside_unknown P K n c at)) h

  -- the port of the component type in a slot
  inner_found : (slot port : Spot) (s : SlotPart) → slot_named c slot ≡ Some s → (o : Option ChildPart) → s.child ≡ o → option_map_or (λ child. unknown_component P child.kind) o [] ≡ []
      → option_map_or {U = List ℕ} (λ child. []) o (slot.at ∷ []) ≡ [] → option_map_or (λ t. unknown_port t port) (type_in P s) [] ≡ []
      → text.child_port_name (resolved P) (kind_value P c) (slot_number c slot) (port_number_at P c slot port) ≡ port.name
  inner_found slot port s named None e u typed known_port = absurd cc
  inner_found slot port s named (Some x) e u typed known_port =
      let t = component_known P K x.kind u in
      let is_in : type_in P s ≡ Some t.0 = ap (λ q. option_and_then (λ child. slice_get P.components (component_number P child.kind)) q) e ∙ t.1 in
      let port_known : unknown_port t.0 port ≡ [] = sym (ap (λ q. option_map_or (λ z. unknown_port z port) q []) is_in) ∙ known_port in
      let number : port_number_at P c slot port ≡ port_number t.0 port =
      ap (λ q. option_map_or (λ z. port_number z port) (option_and_then (type_in P) q) 0) named ∙ ap (λ q. option_map_or (λ z. port_number z port) q 0) is_in in
      let slot_is : slice_get (kind_value P c).slots (slot_number c slot) ≡ Some (slot_value P s) = mapped_at (slot_value P) c.slots (slot_number c slot) s named in
      let child_is : option_and_then (λ (d : SlotDecl). d.child) (slice_get (kind_value P c).slots (slot_number c slot)) ≡ Some (child_value P x) = ap (λ q. option_and_then (λ (d : SlotDecl). d.child) q) slot_is ∙ ap (option_map (child_value P)) e in
      ap (λ m. text.child_port_name (resolved P) (kind_value P c) (slot_number c slot) m) number
      ∙ ap (λ q. option_map_or (λ child. port_name (kind_of (declared P) child.kind) (port_number t.0 port)) q []) child_is
      ∙ ap (λ k. port_name k (port_number t.0 port)) (kind_is P (component_number P x.kind) t.0 t.1)
      ∙ port_found P t.0 port port_known

  end_spelled : (p : EndPart) → unknown_end P c p ≡ [] → untyped_end c p ≡ [] → text.end_text (resolved P) (kind_value P c) (end_value P c p) ≡ text_of (end_tokens p)
  end_spelled end.Free u t = refl
  end_spelled (end.Own port) u t = inside_line {a = codes "self"} {n = codes "self"} refl (port_found P c port u)
  end_spelled (end.Child slot port) u t =
      let U = unknown_slot c slot in
      let u_slot = first_empty U _ u in
      let s = there (λ x. x.name) c.slots slot u_slot in
      let known_port = sym (ap (λ q. option_map_or (λ x. option_map_or (λ z. unknown_port z port) (type_in P x) []) q []) s.1) ∙ second_empty U _ u in
      let typed = sym (ap (λ q. option_map_or (λ (x : SlotPart). option_map_or {U = List ℕ} (λ child. []) x.child (slot.at ∷ [])) q []) s.1) ∙ t in
      inside_line (slot_found P c slot u_slot) (inner_found slot port s.0 s.1 s.0.child refl (slot_type_known P K n c at _ s.0 s.1) typed known_port)

  test_spelled : (t : TestPart) → unknown_event P t.kind ≡ [] → lacks P t.kind t.attr ≡ [] → text.test_text (resolved P) (test_value P t) ≡ text_of (test_tokens t)
  test_spelled t u l =
      let A = attribute_names P (event_number P t.kind) in
      test_line (integer t.number) (event_found P K t.kind u) (attribute_found P K t.kind t.attr.name u (not_true (is_among A t.attr.name) (not_at (not (is_among A t.attr.name)) t.attr.at l))) (relation_is t.op) (integer_spelled t.number)

  tests_spelled : (ts : List TestPart) → flat_map (λ t. unknown_event P t.kind) ts ≡ [] → flat_map (λ t. lacks P t.kind t.attr) ts ≡ [] → Each (λ t. text.test_text (resolved P) (test_value P t) ≡ text_of (test_tokens t)) ts
  tests_spelled ts u l = each_more _ (λ t. text.test_text (resolved P) (test_value P t) ≡ text_of (test_tokens t)) ts (λ t h. test_spelled t h.0 h.1) (each_and _ _ ts (each_none (λ t. unknown_event P t.kind) ts u) (each_none (λ t. lacks P t.kind t.attr) ts l))

  selector_spelled : (d : Dir) (w : List ℕ) → direction d ≡ w → (ts : List TestPart) → Each (λ t. text.test_text (resolved P) (test_value P t) ≡ text_of (test_tokens t)) ts → text.selector_text (resolved P) d (map (test_value P) ts) ≡ text_of (selector_tokens w ts)
  selector_spelled d w e [] all = refl
  selector_spelled d w e (t ∷ ts) all = selector_line (separated (sign (codes "&&")) test_tokens (t ∷ ts)) e (separated_spelled (test_value P) (text.test_text (resolved P)) test_tokens (codes "&& ") (sign (codes "&&")) refl (t ∷ ts) all)

  channel_spelled : (k : ℕ) (x : ChannelPart) → slice_get c.channels k ≡ Some x → text.channel_text (resolved P) (kind_value P c) (channel_value P c x) ≡ text_of (channel_tokens x)
  channel_spelled k x h =
      let u = channel_known k x h in
      let u2 = second_empty (unknown_port_type P x.port) _ u in
      let ends = first_empty (unknown_end P c x.plus ++ unknown_end P c x.minus) _ u2 in
      let tests = second_empty (unknown_end P c x.plus ++ unknown_end P c x.minus) _ u2 in
      let t = none_at (λ q. untyped_end c q.plus ++ untyped_end c q.minus) c.channels k x (none_at untyped_in P.components n c K.typed at) h in
      let L = λ (q : ChannelPart). flat_map (λ s. lacks P s.kind s.attr) q.plus_when ++ flat_map (λ s. lacks P s.kind s.attr) q.minus_when in
      let l = none_at L c.channels k x (none_at (λ d. flat_map L d.channels) P.components n c (second_empty (of_statements lacked_by_it P) (lacked_by_tests P) K.had) at) h in
      channel_line (end_tokens x.plus) (end_tokens x.minus) (selector_tokens (codes "plus") x.plus_when) (selector_tokens (codes "minus") x.minus_when) x.name.name (port_type_found P K x.port (first_empty (unknown_port_type P x.port) _ u))
      (end_spelled x.plus (first_empty (unknown_end P c x.plus) (unknown_end P c x.minus) ends) (first_empty (untyped_end c x.plus) (untyped_end c x.minus) t))
      (end_spelled x.minus (second_empty (unknown_end P c x.plus) (unknown_end P c x.minus) ends) (second_empty (untyped_end c x.plus) (untyped_end c x.minus) t))
      (selector_spelled Plus (codes "plus") refl x.plus_when (tests_spelled x.plus_when (first_empty (flat_map (λ s. unknown_event P s.kind) x.plus_when) _ tests) (first_empty (flat_map (λ s. lacks P s.kind s.attr) x.plus_when) _ l)))
      (selector_spelled Minus (codes "minus") refl x.minus_when (tests_spelled x.minus_when (second_empty (flat_map (λ s. unknown_event P s.kind) x.plus_when) _ tests) (second_empty (flat_map (λ s. lacks P s.kind s.attr) x.plus_when) _ l)))

  -- ---- handlers

  on_spelled : (o : OnPart) → unknown_in_on P c o ≡ [] → text.on_text (resolved P) (kind_value P c) (on_value P c o) ≡ text_of (on_tokens o)
  on_spelled (on.Event kind port) u = event_line (event_found P K kind (first_empty (unknown_event P kind) (unknown_port c port) u)) (port_found P c port (second_empty (unknown_event P kind) (unknown_port c port) u))
  on_spelled (on.Init spots) u = init_line (names_tokens spots) (list_spelled (λ s. s.name) text.word (λ s. called s ∷ []) spots (each_all (λ s. text.word s.name ≡ text_of (called s ∷ [])) (λ s. refl) spots))
  on_spelled on.Start u = refl
  on_spelled on.Stop u = refl
  on_spelled (on.Fault slot m) u = fault_line slot.name m.name
  on_spelled (on.Dumped slot) u = dumped_line slot.name

  said : (says : Parts → ComponentPart → OnPart → One → List ℕ) → of_statements says P ≡ [] → (k : ℕ) (h : HandlerPart) → slice_get c.handlers k ≡ Some h → Each (λ x. says P c h.on x.stmt ≡ []) (statements h)
  said says none k h e =
      each_none (λ x. says P c h.on x.stmt) (statements h)
      (none_at (λ g. flat_map (λ x. says P c g.on x.stmt) (statements g)) c.handlers k h (none_at (λ d. flat_map (λ g. flat_map (λ x. says P d g.on x.stmt) (statements g)) d.handlers) P.components n c none at) e)

  clashes_none : (k : ℕ) (h : HandlerPart) → slice_get c.handlers k ≡ Some h → clashes_in c h ≡ []
  clashes_none k h e =
      let all = second_empty (repeated (component_spots P)) (flat_map name_clashes P.components) (second_empty (port_types_twice P) (components_twice P) (second_empty (events_twice P) _ K.once)) in
      none_at (clashes_in c) c.handlers k h (second_empty (repeated (item_spots c)) (flat_map (clashes_in c) c.handlers) (none_at name_clashes P.components n c all at)) e

  spellable : (k : ℕ) (h : HandlerPart) → slice_get c.handlers k ≡ Some h → Each (Spellable P c h.on) (statements h)
  spellable k h e =
      let xs : List Standing = statements h in
      let inside = each_none (unknown_at P c) xs (second_empty (unknown_in_on P c h.on) (flat_map (unknown_at P c) xs) (handler_known P K n c at k h e)) in
      let events = said no_event K.events k h e in
      let had = said lacked_by_it (first_empty (of_statements lacked_by_it P) (lacked_by_tests P) K.had) k h e in
      let small = said large_fault K.faults k h e in
      let new = each_none (λ x. let_clashes c x.scope x.stmt) xs (second_empty (flat_map (λ x. clashes c x.scope x.name) (one_by_one [] (parameters h.on))) _ (clashes_none k h e)) in
      each_more _ (Spellable P c h.on) xs (λ x q. record {
        named = first_empty (unknown_in_one P c x.scope x.stmt) _ q.0;
        values = second_empty (unknown_in_one P c x.scope x.stmt) _ q.0;
        events = q.1.0;
        had = q.1.1.0;
        small = q.1.1.1.0;
        new = q.1.1.1.1;
      })
      (each_and _ _ xs inside (each_and _ _ xs events (each_and _ _ xs had (each_and _ _ xs small new))))

  -- a block of a handler, whose levels are counted
  body_spelled : (levels : ℕ) (h : HandlerPart) → unknown_in_on P c h.on ≡ [] → clashes_in c h ≡ [] → Each (Spellable P c h.on) (standing levels (each_once (names_of (parameters h.on))) h.block)
      → text.statements_text (resolved P) (kind_value P c) (on_value P c h.on) levels (text.parameters (on_value P c h.on)) (block_value P c h.on levels (each_once (names_of (parameters h.on))) h.block) ≡ text_of (stmts_tokens levels h.block)
  body_spelled levels h u e good =
      let same : text.parameters (on_value P c h.on) ≡ each_once (names_of (parameters h.on)) = parameters_are P c h.on ∙ sym (once_in c [] (parameters h.on) (first_empty (flat_map (λ x. clashes c x.scope x.name) (one_by_one [] (parameters h.on))) _ e)) in
      ap (λ q. text.statements_text (resolved P) (kind_value P c) (on_value P c h.on) levels q (block_value P c h.on levels (each_once (names_of (parameters h.on))) h.block)) same
      ∙ block_spelled P K c h.on u levels (each_once (names_of (parameters h.on))) h.block good

  handler_spelled : (k : ℕ) (h : HandlerPart) → slice_get c.handlers k ≡ Some h → text.handler_text (resolved P) (kind_value P c) (handler_value P c h) ≡ text_of (handler_tokens h)
  handler_spelled k h e =
      let u = first_empty (unknown_in_on P c h.on) (flat_map (unknown_at P c) (statements h)) (handler_known P K n c at k h e) in
      handler_line (on_tokens h.on) (off_tokens h.off) (stmts_tokens max_levels h.block) h.name.name (on_spelled h.on u) (off_spelled h.off) (body_spelled max_levels h u (clashes_none k h e) (spellable k h e))

  -- ---- the whole

  items_spelled : text.items_text (resolved P) (kind_value P c) ≡ text_of (items_tokens c)
  items_spelled =
      five_rows (flat_map port_tokens c.ports) (flat_map var_tokens c.vars) (flat_map slot_tokens c.slots) (flat_map channel_tokens c.channels) (flat_map handler_tokens c.handlers)
      (row_spelled (port_value P) (text.port_text (resolved P)) port_tokens c.ports (each_at _ c.ports port_spelled))
      (row_spelled var_value (text.var_text (resolved P)) var_tokens c.vars (each_all _ var_spelled c.vars))
      (row_spelled (slot_value P) (text.slot_text (resolved P)) slot_tokens c.slots (each_at _ c.slots slot_spelled))
      (row_spelled (channel_value P c) (text.channel_text (resolved P) (kind_value P c)) channel_tokens c.channels (each_at _ c.channels channel_spelled))
      (row_spelled (handler_value P c) (text.handler_text (resolved P) (kind_value P c)) handler_tokens c.handlers (each_at _ c.handlers handler_spelled))

  pub component_spelled : text.kind_text (resolved P) (kind_value P c) ≡ text_of (component_tokens c)
  component_spelled = component_line (items_tokens c) c.name.name items_spelled
