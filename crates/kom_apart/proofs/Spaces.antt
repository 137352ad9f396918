-- In the tree of a text that breaks no rule, no name comes twice in its space.
use Rattle.std.proofs.Common.{◌≡◌, ℕ, zero, suc, ◌+◌, Bool, false, List, [], ◌∷◌, ◌++◌, map, length, Some, None, slice_get, refl, sym, subst, arith}
use Rattle.std.specs.Prelude.{codes}
use Rattle.std.specs.List.{flat_map, filter_map}
use Rattle.kom_system.specs.declared.parts.Spot.{Spot}
use Rattle.kom_system.specs.declared.parts.HandlerPart.{HandlerPart}
use Rattle.kom_system.specs.declared.parts.ComponentPart.{ComponentPart}
use Rattle.kom_system.specs.declared.parts.EventPart.{EventPart}
use Rattle.kom_system.specs.declared.parts.PortTypePart.{PortTypePart}
use Rattle.kom_system.specs.declared.parts.Parts.{Parts}
use Rattle.kom_parse.specs.Lexemes.{Lexeme, lexemes}
use Rattle.kom_grammar.specs.declared.items.ItemPart.{ItemPart}
use Rattle.kom_grammar.specs.declared.items.ItemPart.TheVariants as item
use Rattle.kom_grammar.specs.declared.items.DeclPart.{DeclPart}
use Rattle.kom_grammar.specs.declared.items.DeclPart.TheVariants as decl
use Rattle.kom_grammar.specs.Words.{w, s}
use Rattle.kom_grammar.specs.Files as g
use Rattle.kom_grammar.specs.Files.{SpellsHandler, SpellsItem, port_in, var_in, slot_in, channel_in, handler_in, component_of, SpellsDecl, event_in, port_type_in, component_in, SpellsFile}
use Rattle.kom_rules.specs.Names.{Name, names_of, repeated}
use Rattle.kom_rules.specs.Spaces.{event_spots, port_type_spots, component_spots, port_spots, var_spots, slot_spots, channel_spots, handler_spots, item_spots}
use Rattle.kom_rules.specs.Broken.{broken_rule}
use Rattle.kom_rules.specs.Declaring.{clashes_in, name_clashes, events_twice, port_types_twice, components_twice}
use Rattle.kom_sysread.specs.Answers.{IsTreeOf}
use Rattle.kom_accept.proofs.Lists.{first_empty, second_empty, none_at}
use Rattle.kom_accept.proofs.Kept.{Keeps, keeps}
use Rattle.kom_written.proofs.Rows.{Each, each_in, each_more, each_first, each_second}
use Rattle.kom_apart.specs.Apart.{times, AreOnce, HasNamesOnce}
use Rattle.kom_apart.proofs.Once.{once_from_apart, RisingFrom, clash, clashless, apart_from_rising}
use Rattle.kom_apart.proofs.Rising.{Rises, tokens_rise, Bounded, bounded_split, split, rises_left, within, Lies, lies_behind, row_rises, all_rise, each_rising}

-- ---- the names of declarations

abbrev NameLies : ℕ → ℕ → DeclPart → Type 0
NameLies n m (decl.Event x) = Lies n m x.name
NameLies n m (decl.Port x) = Lies n m x.name
NameLies n m (decl.Component x) = Lies n m x.name
NameLies n m (decl.Root x) = Unit {0}

decl_lies : {two : Bool} (t : List Lexeme) (x : DeclPart) → SpellsDecl two t x → (n m : ℕ) → Bounded n m t → NameLies n m x
decl_lies t' x (g.event_type a b c d {t = t} dn dns) n m bd = lies_behind (w (codes "event") a ∷ []) _ dn n m bd
decl_lies t' x (g.event_subtype a b c d f {t = t} dn dm dns) n m bd = lies_behind (w (codes "event") a ∷ []) _ dn n m bd
decl_lies t' x (g.port_type a b c {t = t} dn row) n m bd = lies_behind (w (codes "port") a ∷ []) _ dn n m bd
decl_lies t' x (g.component a b c {t = t} dn row) n m bd = lies_behind (w (codes "component") a ∷ []) _ dn n m bd
decl_lies t' x (g.root a b d) n m bd = tt

event_lies : (n m : ℕ) (x : DeclPart) (y : EventPart) → event_in x ≡ Some y → NameLies n m x → Lies n m y.name
event_lies n m (decl.Event x) y e l = let same : x ≡ y = cc in subst (λ (q : EventPart). Lies n m q.name) same l
event_lies n m (decl.Port x) y e l = absurd cc
event_lies n m (decl.Component x) y e l = absurd cc
event_lies n m (decl.Root x) y e l = absurd cc

port_type_lies : (n m : ℕ) (x : DeclPart) (y : PortTypePart) → port_type_in x ≡ Some y → NameLies n m x → Lies n m y.name
port_type_lies n m (decl.Port x) y e l = let same : x ≡ y = cc in subst (λ (q : PortTypePart). Lies n m q.name) same l
port_type_lies n m (decl.Event x) y e l = absurd cc
port_type_lies n m (decl.Component x) y e l = absurd cc
port_type_lies n m (decl.Root x) y e l = absurd cc

component_lies : (n m : ℕ) (x : DeclPart) (y : ComponentPart) → component_in x ≡ Some y → NameLies n m x → Lies n m y.name
component_lies n m (decl.Component x) y e l = let same : x ≡ y = cc in subst (λ (q : ComponentPart). Lies n m q.name) same l
component_lies n m (decl.Event x) y e l = absurd cc
component_lies n m (decl.Port x) y e l = absurd cc
component_lies n m (decl.Root x) y e l = absurd cc

-- ---- the names of what a component type declares

abbrev item_name : ItemPart → Spot
item_name (item.Port x) = x.name
item_name (item.Var x) = x.name
item_name (item.Slot x) = x.name
item_name (item.Channel x) = x.name
item_name (item.Handler x) = x.name

handler_lies : {two : Bool} (t : List Lexeme) (x : HandlerPart) → SpellsHandler two t x → (n m : ℕ) → Bounded n m t → Lies n m x.name
handler_lies t' x (g.init a b c d e {t = t} {u = u} {v = v} dns dn db) n m bd =
    let p = bounded_split (suc c) m t (s (codes ")") d ∷ w (codes "as") e ∷ (u ++ v)) bd.1.1.1 in
    let l = lies_behind (s (codes ")") d ∷ w (codes "as") e ∷ []) v dn p.0 m p.2 in
    let low = within (suc c) p.0 t p.1 in
    let p0 = bd.0 in
    let p1 = bd.1.0 in
    let p2 = bd.1.1.0 in
    let l0 = l.0 in
    (omega arith, l.1)
handler_lies t' x (g.other a b {t = t} {u = u} {v = v} {x = y} d dn df db) n m bd =
    let p = bounded_split (suc a) m t (w (codes "as") b ∷ (u ++ (y ++ v))) bd.1 in
    let l = lies_behind (w (codes "as") b ∷ []) (y ++ v) dn p.0 m p.2 in
    let low = within (suc a) p.0 t p.1 in
    let p0 = bd.0 in
    let l0 = l.0 in
    (omega arith, l.1)

item_lies : {two : Bool} (t : List Lexeme) (x : ItemPart) → SpellsItem two t x → (n m : ℕ) → Bounded n m t → Lies n m (item_name x)
item_lies t' x (g.provides a b c dn dm) n m bd = lies_behind (w (codes "provides") a ∷ []) _ dn n m bd
item_lies t' x (g.requires_port a b c dn dm) n m bd = lies_behind (w (codes "requires") a ∷ []) _ dn n m bd
item_lies t' x (g.var a b dn) n m bd = lies_behind (w (codes "var") a ∷ []) _ dn n m bd
item_lies t' x (g.var_with a b c dn di) n m bd = lies_behind (w (codes "var") a ∷ []) _ dn n m bd
item_lies t' x (g.slot a b dn) n m bd = lies_behind (w (codes "slot") a ∷ []) _ dn n m bd
item_lies t' x (g.slot_with a b c dn dx) n m bd = lies_behind (w (codes "slot") a ∷ []) _ dn n m bd
item_lies t' x (g.channel a b c d e dn dm dp dq dps dqs) n m bd = lies_behind (w (codes "channel") a ∷ []) _ dn n m bd
item_lies t' x (g.handler {x = y} d) n m bd = handler_lies t' y d n m bd

-- ---- the items in their order, and kind by kind

times_append : (n : Name) (xs ys : List Spot) → times n (names_of (xs ++ ys)) ≡ times n (names_of xs) + times n (names_of ys)
times_append n [] ys = omega arith
times_append n (x ∷ xs) ys = omega (arith, times_append n xs ys)

module _ (n : Name) where
  abbrev of_ports : List ItemPart → ℕ
  of_ports xs = times n (names_of (map (λ p. p.name) (filter_map port_in xs)))

  abbrev of_vars : List ItemPart → ℕ
  of_vars xs = times n (names_of (map (λ p. p.name) (filter_map var_in xs)))

  abbrev of_slots : List ItemPart → ℕ
  of_slots xs = times n (names_of (map (λ p. p.name) (filter_map slot_in xs)))

  abbrev of_channels : List ItemPart → ℕ
  of_channels xs = times n (names_of (map (λ p. p.name) (filter_map channel_in xs)))

  abbrev of_handlers : List ItemPart → ℕ
  of_handlers xs = times n (names_of (map (λ p. p.name) (filter_map handler_in xs)))

  kinds_add : (xs : List ItemPart) → of_ports xs + (of_vars xs + (of_slots xs + (of_channels xs + of_handlers xs))) ≡ times n (names_of (map item_name xs))
  kinds_add [] = omega arith
  kinds_add (item.Port x ∷ xs) = omega (arith, kinds_add xs)
  kinds_add (item.Var x ∷ xs) = omega (arith, kinds_add xs)
  kinds_add (item.Slot x ∷ xs) = omega (arith, kinds_add xs)
  kinds_add (item.Channel x ∷ xs) = omega (arith, kinds_add xs)
  kinds_add (item.Handler x ∷ xs) = omega (arith, kinds_add xs)

  items_add : (m : Spot) (xs : List ItemPart) → times n (names_of (item_spots (component_of m xs))) ≡ times n (names_of (map item_name xs))
  items_add m xs =
      let c = component_of m xs in
      let e1 = times_append n (port_spots c) (var_spots c ++ (slot_spots c ++ (channel_spots c ++ handler_spots c))) in
      let e2 = times_append n (var_spots c) (slot_spots c ++ (channel_spots c ++ handler_spots c)) in
      let e3 = times_append n (slot_spots c) (channel_spots c ++ handler_spots c) in
      let e4 = times_append n (channel_spots c) (handler_spots c) in
      omega (arith, e1, e2, e3, e4, kinds_add xs)

-- what holds of each name, kind by kind, holds of each name in their order
module _ (Q : Spot → Type 0) where
  five : (xs : List ItemPart) → Each Q (map (λ p. p.name) (filter_map port_in xs)) → Each Q (map (λ p. p.name) (filter_map var_in xs)) → Each Q (map (λ p. p.name) (filter_map slot_in xs))
      → Each Q (map (λ p. p.name) (filter_map channel_in xs)) → Each Q (map (λ p. p.name) (filter_map handler_in xs)) → Each Q (map item_name xs)
  five [] p v o k h = tt
  five (item.Port x ∷ xs) p v o k h = (p.0, five xs p.1 v o k h)
  five (item.Var x ∷ xs) p v o k h = (v.0, five xs p v.1 o k h)
  five (item.Slot x ∷ xs) p v o k h = (o.0, five xs p v o.1 k h)
  five (item.Channel x ∷ xs) p v o k h = (k.0, five xs p v o k.1 h)
  five (item.Handler x ∷ xs) p v o k h = (h.0, five xs p v o k h.1)

  in_order : (m : Spot) (xs : List ItemPart) → Each Q (item_spots (component_of m xs)) → Each Q (map item_name xs)
  in_order m xs all =
      let c : ComponentPart = component_of m xs in
      let r1 = each_second Q (port_spots c) (var_spots c ++ (slot_spots c ++ (channel_spots c ++ handler_spots c))) all in
      let r2 = each_second Q (var_spots c) (slot_spots c ++ (channel_spots c ++ handler_spots c)) r1 in
      let r3 = each_second Q (slot_spots c) (channel_spots c ++ handler_spots c) r2 in
      five xs (each_first Q (port_spots c) (var_spots c ++ (slot_spots c ++ (channel_spots c ++ handler_spots c))) all) (each_first Q (var_spots c) (slot_spots c ++ (channel_spots c ++ handler_spots c)) r1)
      (each_first Q (slot_spots c) (channel_spots c ++ handler_spots c) r2) (each_first Q (channel_spots c) (handler_spots c) r3) (each_second Q (channel_spots c) (handler_spots c) r3)

-- a component type whose names stand one behind the other
record Made (c : ComponentPart) : Type 0 where
  name : Spot
  items : List ItemPart
  from : ℕ
  is : c ≡ component_of name items
  rises : RisingFrom from (map item_name items)

items_once : (m : Spot) (xs : List ItemPart) (from : ℕ) → RisingFrom from (map item_name xs) → repeated (item_spots (component_of m xs)) ≡ [] → AreOnce (names_of (item_spots (component_of m xs)))
items_once m xs from r e n =
    let all : List Spot = item_spots (component_of m xs) in
    let rows = in_order (λ x. Each (λ y. clash x y ≡ false) all) m xs (clashless all all e) in
    let both = each_more (λ x. Each (λ y. clash x y ≡ false) all) (λ x. Each (λ y. clash x y ≡ false) (map item_name xs)) (map item_name xs) (λ x q. in_order (λ y. clash x y ≡ false) m xs q) rows in
    let once = once_from_apart (map item_name xs) (apart_from_rising from (map item_name xs) r both) n in
    omega (arith, items_add n m xs, once)

made_once : (c : ComponentPart) → Made c → repeated (item_spots c) ≡ [] → AreOnce (names_of (item_spots c))
made_once c d = subst (λ q. repeated (item_spots q) ≡ [] → AreOnce (names_of (item_spots q))) (sym d.is) (items_once d.name d.items d.from d.rises)

-- a space whose names stand one behind the other
space_once : (from : ℕ) (spots : List Spot) → RisingFrom from spots → repeated spots ≡ [] → AreOnce (names_of spots)
space_once from spots r e = once_from_apart spots (apart_from_rising from spots r (clashless spots spots e))

-- ---- files

abbrev MadeOf : DeclPart → Type 0
MadeOf (decl.Component c) = Made c
MadeOf _ = Unit {0}

decl_made : {two : Bool} (t : List Lexeme) (x : DeclPart) → SpellsDecl two t x → (n : ℕ) → Rises n t → MadeOf x
decl_made t' x (g.event_type a b c d dn dns) n r = tt
decl_made t' x (g.event_subtype a b c d f dn dm dns) n r = tt
decl_made t' x (g.port_type a b c dn row) n r = tt
decl_made {two = two} t' x (g.component a b c {t = t} {u = u} {n = z} {xs = xs} dn row) n r =
    let p = split (suc a) t (s (codes "{") b ∷ (u ++ s (codes "}") c ∷ [])) r.1 in
    record { name = z; items = xs; from = suc b; is = refl; rises = all_rise (SpellsItem two) item_name item_lies row (suc b) (rises_left (suc b) u (s (codes "}") c ∷ []) p.2.1) }
decl_made t' x (g.root a b d) n r = tt

component_made : (x : DeclPart) (c : ComponentPart) → component_in x ≡ Some c → MadeOf x → Made c
component_made (decl.Component x) c e d = let same : x ≡ c = cc in subst Made same d
component_made (decl.Event x) c e d = absurd cc
component_made (decl.Port x) c e d = absurd cc
component_made (decl.Root x) c e d = absurd cc

each_nth : {A : Type 0} (Q : A → Type 0) (xs : List A) (k : ℕ) (x : A) → Each Q xs → slice_get xs k ≡ Some x → Q x
each_nth Q [] k x all e = absurd cc
each_nth Q (y ∷ xs) zero x all e = let same : y ≡ x = cc in subst Q same all.0
each_nth Q (y ∷ xs) (suc k) x all e = each_nth Q xs k x all.1 e

file_once : (end : ℕ) (t : List Lexeme) (P : Parts) → SpellsFile end t P → Rises 0 t → Keeps P → HasNamesOnce P
file_once end t' P (g.file a b c {t = t} {xs = xs} two row) r K =
    let low : ℕ = suc c in
    let up = r.1.1.1 in
    let twice = second_empty (events_twice P) (port_types_twice P ++ components_twice P) K.once in
    let comps = second_empty (port_types_twice P) (components_twice P) twice in
    let made = each_in component_in MadeOf Made component_made xs (each_rising (SpellsDecl two) MadeOf decl_made row low up) in
    record {
      events = space_once low (event_spots P) (row_rises (SpellsDecl two) event_in (λ x. x.name) (λ q x y d e n m bd. event_lies n m x y e (decl_lies q x d n m bd)) row low up)
          (first_empty (repeated (event_spots P)) _ (first_empty (events_twice P) (port_types_twice P ++ components_twice P) K.once));
      port_types = space_once low (port_type_spots P) (row_rises (SpellsDecl two) port_type_in (λ x. x.name) (λ q x y d e n m bd. port_type_lies n m x y e (decl_lies q x d n m bd)) row low up)
          (first_empty (repeated (port_type_spots P)) _ (first_empty (port_types_twice P) (components_twice P) twice));
      components = space_once low (component_spots P) (row_rises (SpellsDecl two) component_in (λ x. x.name) (λ q x y d e n m bd. component_lies n m x y e (decl_lies q x d n m bd)) row low up)
          (first_empty (repeated (component_spots P)) (flat_map name_clashes P.components) comps);
      inside = λ k d e. made_once d (each_nth Made P.components k d made e)
          (first_empty (repeated (item_spots d)) (flat_map (clashes_in d) d.handlers) (none_at name_clashes P.components k d (second_empty (repeated (component_spots P)) (flat_map name_clashes P.components) comps) e));
    }

pub accepted_once : (text : List ℕ) (P : Parts) → IsTreeOf text P → broken_rule P ≡ None → HasNamesOnce P
accepted_once text P d e =
    let r : Rises 0 (lexemes text d.tokens) = subst (λ ts. Rises 0 (lexemes text ts)) (sym d.cut.found_is) (tokens_rise d.cut.pieces text text [] 0 d.cut.cut) in
    file_once (length text) (lexemes text d.tokens) P d.spells r (keeps P e)
