-- A file as it is written.
use Rattle.std.proofs.Common.{◌≡◌, ℕ, zero, suc, ◌+◌, ◌-◌, ◌≤◌, ◌<◌, Bool, true, false, not, List, [], ◌∷◌, ◌++◌, map, length, take, drop, reverse, ◌==◌, Option, Some, None, slice_get, refl, sym, ap, ◌∙◌, arith, subst, append_assoc, length-append}
use Rattle.std.specs.Prelude.{codes, nat_lt, slice_index_or}
use Rattle.std.specs.List.{flat_map, enumerate_from}
use Rattle.std.specs.Option.{option_map, option_map_or}
use Rattle.std.proofs.lemmas.List.{append-nil, length-map, drop_at, reverse-append}
use Rattle.std.proofs.lemmas.List.Concat.{flat_map-append}
use Rattle.std.proofs.lemmas.Grind.{common_steps}
use Rattle.std.proofs.lemmas.Option.{get_or_from_slice_get, slice_get_within}
use Rattle.kom_lang.specs.declared.kind.Child.{Child}
use Rattle.kom_base.specs.declared.numbers.Dir.{Dir}
use Rattle.kom_base.specs.declared.numbers.Dir.TheVariants.{Plus, Minus}
use Rattle.kom_events.specs.declared.event_types.EventRow.{EventRow}
use Rattle.kom_events.specs.declared.port_types.PortRow.{PortRow}
use Rattle.kom_events.specs.Kin.{ancestors}
use Rattle.kom_system.specs.Fitting.{built_in_events, built_in_ports}
use Rattle.kom_system.specs.declared.parts.Spot.{Spot}
use Rattle.kom_system.specs.declared.parts.ComponentPart.{ComponentPart}
use Rattle.kom_system.specs.declared.parts.ChildPart.{ChildPart}
use Rattle.kom_system.specs.declared.parts.EventPart.{EventPart}
use Rattle.kom_system.specs.declared.parts.PortTypePart.{PortTypePart}
use Rattle.kom_system.specs.declared.parts.RootPart.{RootPart}
use Rattle.kom_system.specs.declared.parts.Parts.{Parts}
use Rattle.kom_record.specs.Trace.{Text, direction}
use Rattle.kom_rules.specs.Names as names
use Rattle.kom_rules.specs.Names.{names_of, at_if}
use Rattle.kom_rules.specs.Spaces.{built_in_event_names, built_in_port_names, event_spots, port_type_spots, event_names, port_type_names, event_number, event_row, event_rows, port_row, port_rows, own_attributes, attribute_names}
use Rattle.kom_rules.specs.Declaring.{unknown_event, unknown_component, unknown_in_types, unknown_in_components, unknown_in_component}
use Rattle.kom_resolve.specs.Resolved.{resolved, kind_value, root_value, child_value}
use Rattle.kom_sysprint.specs.Canonical as text
use Rattle.kom_sysprint.specs.Canonical.{end_of_line, block_of, in_parentheses, name_at, declared_text, canonical_text}
use Rattle.kom_accept.proofs.Lists.{first_empty, second_empty, none_at, mapped_at}
use Rattle.kom_accept.proofs.Kept.{Keeps}
use Rattle.kom_accept.proofs.Components.{components_known}
use Rattle.kom_spaced.specs.Spaced.{Written, text_of}
use Rattle.kom_written.specs.Tokens.{word, sign, last, number, semicolon, called, command, with_commas, block_tokens}
use Rattle.kom_written.specs.Declarations.{names_tokens, child_tokens, parent_tokens, event_tokens, port_type_tokens, component_tokens, root_tokens, file_tokens}
use Rattle.kom_written.proofs.Rows.{Each}
use Rattle.kom_spelling.proofs.Names.{event_found, attributes_at}
use Rattle.kom_spelling.proofs.Texts.{text-append, each_all, row_spelled, list_spelled}
use Rattle.kom_spelling.proofs.Lines.{IsText, of, lit, named, followed, as_tokens, a_block, enclosed, flat4, command_line}
use Rattle.kom_spelling.proofs.Items.{each_at, child_spelled, component_spelled}

-- ---- lines

abbrev ended : List Written
ended = semicolon ∷ []

event_type_line : (X Y : List Written) {a n p N : Text} → a ≡ n → p ≡ text_of X → N ≡ text_of Y
    → codes "event " ++ text.word a ++ p ++ in_parentheses N ++ end_of_line ≡ text_of (word (codes "event") ∷ word n ∷ (X ++ sign (codes "(") ∷ (Y ++ sign (codes ")") ∷ semicolon ∷ [])))
event_type_line X Y {n = n} e h k =
    as_tokens (followed (followed (followed (followed (lit (word (codes "event") ∷ [])) (named e)) (of X h)) (enclosed (of Y k))) (lit ended))
    (ap (λ (ts : List Written). word (codes "event") ∷ word n ∷ ts) (append_assoc X (sign (codes "(") ∷ (Y ++ sign (codes ")") ∷ [])) ended ∙ ap (λ (ts : List Written). X ++ sign (codes "(") ∷ ts) (append_assoc Y (sign (codes ")") ∷ []) ended)))

port_type_line : (X Y : List Written) {a n p m : Text} → a ≡ n → p ≡ text_of X → m ≡ text_of Y
    → codes "port " ++ text.word a ++ block_of (p ++ m) ≡ text_of (word (codes "port") ∷ word n ∷ block_tokens (X ++ Y))
port_type_line X Y e h k = (followed (followed (lit (word (codes "port") ∷ [])) (named e)) (a_block (followed (of X h) (of Y k)))).is

root_line : (X : List Written) {c : Text} → c ≡ text_of X → codes "root " ++ c ++ end_of_line ≡ text_of (word (codes "root") ∷ (X ++ semicolon ∷ []))
root_line X h = (followed (followed (lit (word (codes "root") ∷ [])) (of X h)) (lit ended)).is

file_line : (v : ℕ) (E T C R : List Written) {e p k r : Text} → e ≡ text_of E → p ≡ text_of T → k ≡ text_of C → r ≡ text_of R
    → text.header_text v ++ e ++ p ++ k ++ r ≡ text_of (word (codes "system") ∷ number v ∷ semicolon ∷ (E ++ (T ++ (C ++ R))))
file_line v E T C R h i j l =
    as_tokens (followed (followed (followed (followed (followed (followed (lit (word (codes "system") ∷ [])) (lit (number v ∷ []))) (lit ended)) (of E h)) (of T i)) (of C j)) (of R l))
    (ap (λ (ts : List Written). word (codes "system") ∷ number v ∷ semicolon ∷ ts) (flat4 E T C R))

-- ---- what is declared behind the built-in types

-- a name behind the first ones
name_behind : (first : List names.Name) {X : Type 0} (spot : X → Spot) (xs : List X) (k : ℕ) (x : X) → slice_get xs k ≡ Some x → name_at (first ++ names_of (map spot xs)) (length first + k) ≡ (spot x).name
name_behind [] spot [] k x h = absurd cc
name_behind [] spot (y ∷ xs) zero x h = let same : y ≡ x = cc in ap (λ z. (spot z).name) same
name_behind [] spot (y ∷ xs) (suc k) x h = let z : 0 + suc k ≡ suc (0 + k) = omega arith in ap (name_at ((spot y).name ∷ names_of (map spot xs))) z ∙ name_behind [] spot xs k x h
name_behind (f ∷ first) spot xs k x h = let z : length (f ∷ first) + k ≡ suc (length first + k) = omega arith in ap (name_at (f ∷ (first ++ names_of (map spot xs)))) z ∙ name_behind first spot xs k x h

-- declarations with their numbers, of which all are written
declared_row : {X Y : Type 0} (first : ℕ) (f : ℕ → Y → Text) (value : X → Y) (g : X → List Written) (xs : List X) (n : ℕ) → first ≤ n
    → ((k : ℕ) (x : X) → slice_get xs k ≡ Some x → f (n + k) (value x) ≡ text_of (g x)) → flat_map (declared_text first f) (enumerate_from n (map value xs)) ≡ text_of (flat_map g xs)
declared_row first f value g [] n le h = refl
declared_row first f value g (x ∷ xs) n le h =
    let late : nat_lt n first ≡ false = grind (arith, common_steps) in
    let z : n + 0 ≡ n = omega arith in
    let mine : declared_text first f (n, value x) ≡ text_of (g x) = rw late (ap (λ m. f m (value x)) (sym z) ∙ h 0 x refl) in
    let rest = declared_row first f value g xs (n + 1) (omega arith) (λ k y e. let q : n + 1 + k ≡ n + suc k = omega arith in ap (λ m. f m (value y)) q ∙ h (suc k) y e) in
    ap (λ t. t ++ flat_map (declared_text first f) (enumerate_from (n + 1) (map value xs))) mine ∙ ap (λ t. text_of (g x) ++ t) rest ∙ sym (text-append (g x) (flat_map g xs))

-- ---- the attributes of an event type

-- an event type is the first of its ancestors
ancestors_begin : (n : ℕ) (rows : List EventRow) (k : ℕ) (row : EventRow) → slice_get rows k ≡ Some row → ancestors (suc n) rows k ≡ k ∷ option_map_or (ancestors n rows) row.parent []
ancestors_begin n rows k row h = ap (λ q. option_map_or (λ r. k ∷ option_map_or (ancestors n rows) r.parent []) q []) h

gathered_last : {X : Type 0} (f : ℕ → List X) (k : ℕ) (ks : List ℕ) → flat_map f (reverse (k ∷ ks)) ≡ flat_map f (reverse ks) ++ f k
gathered_last f k ks =
    ap (flat_map f) (reverse-append (k ∷ []) ks) ∙ flat_map-append f (reverse ks) (k ∷ []) ∙ ap (λ t. flat_map f (reverse ks) ++ t) (append-nil (f k))

-- the last ones of a list
own_last : (front own : List names.Name) (n : ℕ) → n ≡ length own → text.own_names n (front ++ own) ≡ own
own_last front own n h = drop_at front own (length (front ++ own) - n) (omega (arith, length-append front own))

only_root : (roots : List RootPart) (a : ℕ) → at_if (length roots == 0) a ++ map (λ (r : RootPart). r.at) (take 1 (drop 1 roots)) ≡ [] → (r : RootPart) × (roots ≡ r ∷ [])
only_root [] a e = absurd cc
only_root (r ∷ []) a e = (r, refl)
only_root (r ∷ q ∷ roots) a e = let h : q.at ∷ [] ≡ [] = second_empty (at_if (length (r ∷ q ∷ roots) == 0) a) (q.at ∷ []) e in absurd cc

four_more : (k : ℕ) → 4 + k ≡ suc (suc (suc (suc k)))
four_more k = omega arith

two_more : (k : ℕ) → 2 + k ≡ suc (suc k)
two_more k = omega arith

module _ (P : Parts) (K : Keeps P) where
  -- the row of a declared event type
  row_there : (k : ℕ) (e : EventPart) → slice_get P.events k ≡ Some e → slice_get (event_rows P) (4 + k) ≡ Some (event_row P e)
  row_there k e h = ap (slice_get (event_rows P)) (four_more k) ∙ mapped_at (event_row P) P.events k e h

  own_there : (k : ℕ) (e : EventPart) → slice_get P.events k ≡ Some e → slice_index_or (own_attributes P) (4 + k) [] ≡ names_of e.attrs
  own_there k e h =
      ap (λ m. slice_index_or (own_attributes P) m []) (four_more k)
      ∙ get_or_from_slice_get (map (λ (x : EventPart). names_of x.attrs) P.events) k (names_of e.attrs) [] (mapped_at (λ (x : EventPart). names_of x.attrs) P.events k e h)

  rows_length : (k : ℕ) (e : EventPart) → slice_get P.events k ≡ Some e → 4 + k < length (event_rows P)
  rows_length k e h = omega (arith, slice_get_within P.events k e h, length-map P.events (event_row P), four_more k)

  abbrev fewer : ℕ
  fewer = suc (suc (suc (length (map (event_row P) P.events))))

  own_are : (k : ℕ) (e : EventPart) → slice_get P.events k ≡ Some e → text.own_names (length e.attrs) (slice_index_or (resolved P).attr_names (4 + k) []) ≡ names_of e.attrs
  own_are k e h =
      let own : ℕ → List names.Name = λ a. slice_index_or (own_attributes P) a [] in
      let rest : List ℕ = option_map_or (ancestors fewer (event_rows P)) (event_row P e).parent [] in
      let line : ancestors (length (event_rows P)) (event_rows P) (4 + k) ≡ (4 + k) ∷ rest = ancestors_begin fewer (event_rows P) (4 + k) (event_row P e) (row_there k e h) in
      let all : attribute_names P (4 + k) ≡ flat_map own (reverse rest) ++ names_of e.attrs =
      ap (λ ks. flat_map own (reverse ks)) line ∙ gathered_last own (4 + k) rest ∙ ap (λ ns. flat_map own (reverse rest) ++ ns) (own_there k e h) in
      ap (text.own_names (length e.attrs)) (attributes_at P K (4 + k) (rows_length k e h) ∙ all)
      ∙ own_last (flat_map own (reverse rest)) (names_of e.attrs) (length e.attrs) (sym (length-map e.attrs (λ s. s.name)))

  parent_spelled : (o : Option Spot) → option_map_or (unknown_event P) o [] ≡ [] → text.parent_text (resolved P) (option_map (event_number P) o) ≡ text_of (parent_tokens o)
  parent_spelled None u = refl
  parent_spelled (Some p) u = ap (λ t. codes ": " ++ text.word t) (event_found P K p u)

  names_spelled : (ns : List Spot) → text.separated (codes ", ") text.word (names_of ns) ≡ text_of (names_tokens ns)
  names_spelled ns = list_spelled (λ s. s.name) text.word (λ s. called s ∷ []) ns (each_all (λ s. text.word s.name ≡ text_of (called s ∷ [])) (λ s. refl) ns)

  types_known : unknown_in_types P ≡ []
  types_known = first_empty (unknown_in_types P) (unknown_in_components P) K.declared

  abbrev says_parent : EventPart → List ℕ
  says_parent x = option_map_or (unknown_event P) x.parent []

  abbrev says_listed : PortTypePart → List ℕ
  says_listed t = flat_map (unknown_event P) t.plus ++ flat_map (unknown_event P) t.minus

  event_spelled : (k : ℕ) (e : EventPart) → slice_get P.events k ≡ Some e → text.event_type_text (resolved P) (4 + k) (event_row P e) ≡ text_of (event_tokens e)
  event_spelled k e h =
      let u = none_at says_parent P.events k e (first_empty (flat_map says_parent P.events) _ types_known) h in
      event_type_line (parent_tokens e.parent) (names_tokens e.attrs) (name_behind built_in_event_names (λ (x : EventPart). x.name) P.events k e h) (parent_spelled e.parent u)
      (ap (text.separated (codes ", ") text.word) (own_are k e h) ∙ names_spelled e.attrs)

  listed_spelled : (d : Dir) (w : Text) → direction d ≡ w → (ns : List Spot) → flat_map (unknown_event P) ns ≡ [] → flat_map (text.listed_text (resolved P) d) (map (event_number P) ns) ≡ text_of (flat_map (command w) ns)
  listed_spelled d w e ns u =
      row_spelled (event_number P) (text.listed_text (resolved P) d) (command w) ns
      (each_at _ ns (λ k s h. ap (λ q. text.command q (name_at (event_names P) (event_number P s))) e ∙ command_line w (event_found P K s (none_at (unknown_event P) ns k s u h))))

  port_type_spelled : (k : ℕ) (t : PortTypePart) → slice_get P.ports k ≡ Some t → text.port_type_text (resolved P) (2 + k) (port_row P t) ≡ text_of (port_type_tokens t)
  port_type_spelled k t h =
      let u = none_at says_listed P.ports k t (second_empty (flat_map says_parent P.events) (flat_map says_listed P.ports) types_known) h in
      port_type_line (flat_map (command (codes "plus")) t.plus) (flat_map (command (codes "minus")) t.minus) (name_behind built_in_port_names (λ (x : PortTypePart). x.name) P.ports k t h)
      (listed_spelled Plus (codes "plus") refl t.plus (first_empty (flat_map (unknown_event P) t.plus) _ u))
      (listed_spelled Minus (codes "minus") refl t.minus (second_empty (flat_map (unknown_event P) t.plus) _ u))

  -- the only root
  abbrev first_root : List RootPart → Child
  first_root roots = option_map_or (λ (r : RootPart). child_value P r.child) (slice_get roots 0) (record { kind = 0; args = [] })

  abbrev Rooted : List RootPart → Type 0
  Rooted rs = flat_map (λ (r : RootPart). unknown_component P r.child.kind) rs ≡ [] → codes "root " ++ text.child_text (resolved P) (first_root rs) ++ end_of_line ≡ text_of (flat_map root_tokens rs)

  one_root : (r : RootPart) → Rooted (r ∷ [])
  one_root r h = root_line (child_tokens r.child) (child_spelled P K r.child (first_empty (unknown_component P r.child.kind) [] h)) ∙ ap text_of (sym (append-nil (root_tokens r)))

  root_spelled : (roots : List RootPart) (a : ℕ) → at_if (length roots == 0) a ++ map (λ (r : RootPart). r.at) (take 1 (drop 1 roots)) ≡ [] → Rooted roots
  root_spelled roots a e = let only = only_root roots a e in subst Rooted (sym only.1) (one_root only.0)

  pub file_spelled : canonical_text (resolved P) ≡ text_of (file_tokens P)
  file_spelled =
      file_line P.version (flat_map event_tokens P.events) (flat_map port_type_tokens P.ports) (flat_map component_tokens P.components) (flat_map root_tokens P.roots)
      (declared_row 4 (text.event_type_text (resolved P)) (event_row P) event_tokens P.events 4 (omega arith) event_spelled)
      (declared_row 2 (text.port_type_text (resolved P)) (port_row P) port_type_tokens P.ports 2 (omega arith) port_type_spelled)
      (row_spelled (kind_value P) (text.kind_text (resolved P)) component_tokens P.components (each_at _ P.components (component_spelled P K)))
      (root_spelled P.roots P.end K.roots (second_empty (flat_map (unknown_in_component P) P.components) (flat_map (λ (r : RootPart). unknown_component P r.child.kind) P.roots) (components_known P K)))
