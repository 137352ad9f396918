-- Files are spelled again by the tokens with which they are written.
use Rattle.std.proofs.Common.{◌≡◌, ℕ, Bool, true, false, List, [], ◌∷◌, ◌++◌, map, Option, Some, None, refl, sym, ap, ◌∙◌, subst, arith}
use Rattle.std.specs.Prelude.{codes}
use Rattle.std.specs.List.{flat_map, filter_map}
use Rattle.std.proofs.lemmas.List.{append-nil}
use Rattle.std.proofs.lemmas.Fmt.{decimal_digit}
use Rattle.kom_base.specs.declared.numbers.Dir.{Dir}
use Rattle.kom_base.specs.declared.numbers.Dir.TheVariants.{Plus, Minus}
use Rattle.kom_system.specs.declared.parts.Spot.{Spot}
use Rattle.kom_system.specs.declared.parts.PortPart.{PortPart}
use Rattle.kom_system.specs.declared.parts.VarPart.{VarPart}
use Rattle.kom_system.specs.declared.parts.SlotPart.{SlotPart}
use Rattle.kom_system.specs.declared.parts.ChannelPart.{ChannelPart}
use Rattle.kom_system.specs.declared.parts.HandlerPart.{HandlerPart}
use Rattle.kom_system.specs.declared.parts.ComponentPart.{ComponentPart}
use Rattle.kom_system.specs.declared.parts.ChildPart.{ChildPart}
use Rattle.kom_system.specs.declared.parts.EventPart.{EventPart}
use Rattle.kom_system.specs.declared.parts.PortTypePart.{PortTypePart}
use Rattle.kom_system.specs.declared.parts.RootPart.{RootPart}
use Rattle.kom_system.specs.declared.parts.Parts.{Parts}
use Rattle.kom_text.specs.declared.token.TokenKind.TheVariants.{Number}
use Rattle.kom_parse.specs.Lexemes.{Lexeme}
use Rattle.kom_parse.specs.Spelled.{SpellsRow}
use Rattle.kom_grammar.specs.declared.items.ItemPart.{ItemPart}
use Rattle.kom_grammar.specs.declared.items.ItemPart.TheVariants as item
use Rattle.kom_grammar.specs.declared.items.DeclPart.{DeclPart}
use Rattle.kom_grammar.specs.declared.items.DeclPart.TheVariants as decl
use Rattle.kom_grammar.specs.Words.{SpellsName, name}
use Rattle.kom_grammar.specs.Files as g
use Rattle.kom_grammar.specs.Files.{SpellsItem, port_in, var_in, slot_in, channel_in, handler_in, component_of, SpellsListed, indication_in, request_in, SpellsDecl, event_in, port_type_in, component_in, root_in, version_digits, version_number, SpellsFile}
use Rattle.kom_spaced.specs.Spaced.{Written, can_stand}
use Rattle.kom_written.specs.Unplaced.{spot, port_part, var_part, slot_part, channel_part, handler_part, component_part, event_part, port_type_part, root_part, unplaced}
use Rattle.kom_written.specs.Tokens.{word, sign, last, semicolon, number, called, command}
use Rattle.kom_written.specs.Declarations.{names_tokens, child_tokens, port_tokens, var_tokens, slot_tokens, channel_tokens, handler_tokens, component_tokens, event_tokens, port_type_tokens, root_tokens, file_tokens}
use Rattle.kom_written.specs.Again.{AreSound, IsAgain, IsFileAgain}
use Rattle.kom_written.proofs.Steps.{behind, placed-append, both, stand-append, sound-left, sound-right, CanBeNamed, named, at_place}
use Rattle.kom_written.proofs.Items.{OfNames, names_again, OfChild, child_again, OfPort, OfVar, OfSlot, OfChannel, OfHandlerItem, OfItem, item_again}
use Rattle.kom_written.proofs.Rows.{Each, each_of, each_in, row_of, row_map, row_append, own_kind, other_kind}

-- ---- component types

module _ (two : Bool) where
  port_of : (x : ItemPart) (v : PortPart) → port_in x ≡ Some v → OfItem two x → OfPort two v
  port_of (item.Port x) v e h = let same : x ≡ v = cc in subst (OfPort two) same h
  port_of (item.Var x) v e h = absurd cc
  port_of (item.Slot x) v e h = absurd cc
  port_of (item.Channel x) v e h = absurd cc
  port_of (item.Handler x) v e h = absurd cc

  var_of : (x : ItemPart) (v : VarPart) → var_in x ≡ Some v → OfItem two x → OfVar two v
  var_of (item.Var x) v e h = let same : x ≡ v = cc in subst (OfVar two) same h
  var_of (item.Port x) v e h = absurd cc
  var_of (item.Slot x) v e h = absurd cc
  var_of (item.Channel x) v e h = absurd cc
  var_of (item.Handler x) v e h = absurd cc

  slot_of : (x : ItemPart) (v : SlotPart) → slot_in x ≡ Some v → OfItem two x → OfSlot two v
  slot_of (item.Slot x) v e h = let same : x ≡ v = cc in subst (OfSlot two) same h
  slot_of (item.Port x) v e h = absurd cc
  slot_of (item.Var x) v e h = absurd cc
  slot_of (item.Channel x) v e h = absurd cc
  slot_of (item.Handler x) v e h = absurd cc

  channel_of : (x : ItemPart) (v : ChannelPart) → channel_in x ≡ Some v → OfItem two x → OfChannel two v
  channel_of (item.Channel x) v e h = let same : x ≡ v = cc in subst (OfChannel two) same h
  channel_of (item.Port x) v e h = absurd cc
  channel_of (item.Var x) v e h = absurd cc
  channel_of (item.Slot x) v e h = absurd cc
  channel_of (item.Handler x) v e h = absurd cc

  handler_of : (x : ItemPart) (v : HandlerPart) → handler_in x ≡ Some v → OfItem two x → OfHandlerItem two v
  handler_of (item.Handler x) v e h = let same : x ≡ v = cc in subst (OfHandlerItem two) same h
  handler_of (item.Port x) v e h = absurd cc
  handler_of (item.Var x) v e h = absurd cc
  handler_of (item.Slot x) v e h = absurd cc
  handler_of (item.Channel x) v e h = absurd cc

  -- the items of a component type, kind by kind
  abbrev in_order : List PortPart → List VarPart → List SlotPart → List ChannelPart → List HandlerPart → List ItemPart
  in_order ps vs ss ks hs = map item.Port ps ++ (map item.Var vs ++ (map item.Slot ss ++ (map item.Channel ks ++ map item.Handler hs)))

  ports_in_order : (ps : List PortPart) (vs : List VarPart) (ss : List SlotPart) (ks : List ChannelPart) (hs : List HandlerPart) → filter_map port_in (in_order ps vs ss ks hs) ≡ ps
  ports_in_order ps vs ss ks hs =
      own_kind port_in item.Port (λ x. refl) ps _ ∙ ap (λ zs. ps ++ zs) (other_kind port_in item.Var (λ x. refl) vs _ ∙ other_kind port_in item.Slot (λ x. refl) ss _ ∙ other_kind port_in item.Channel (λ x. refl) ks _
      ∙ ap (filter_map port_in) (sym (append-nil (map item.Handler hs))) ∙ other_kind port_in item.Handler (λ x. refl) hs []) ∙ append-nil ps

  vars_in_order : (ps : List PortPart) (vs : List VarPart) (ss : List SlotPart) (ks : List ChannelPart) (hs : List HandlerPart) → filter_map var_in (in_order ps vs ss ks hs) ≡ vs
  vars_in_order ps vs ss ks hs =
      other_kind var_in item.Port (λ x. refl) ps _ ∙ own_kind var_in item.Var (λ x. refl) vs _ ∙ ap (λ zs. vs ++ zs) (other_kind var_in item.Slot (λ x. refl) ss _ ∙ other_kind var_in item.Channel (λ x. refl) ks _
      ∙ ap (filter_map var_in) (sym (append-nil (map item.Handler hs))) ∙ other_kind var_in item.Handler (λ x. refl) hs []) ∙ append-nil vs

  slots_in_order : (ps : List PortPart) (vs : List VarPart) (ss : List SlotPart) (ks : List ChannelPart) (hs : List HandlerPart) → filter_map slot_in (in_order ps vs ss ks hs) ≡ ss
  slots_in_order ps vs ss ks hs =
      other_kind slot_in item.Port (λ x. refl) ps _ ∙ other_kind slot_in item.Var (λ x. refl) vs _ ∙ own_kind slot_in item.Slot (λ x. refl) ss _ ∙ ap (λ zs. ss ++ zs) (other_kind slot_in item.Channel (λ x. refl) ks _
      ∙ ap (filter_map slot_in) (sym (append-nil (map item.Handler hs))) ∙ other_kind slot_in item.Handler (λ x. refl) hs []) ∙ append-nil ss

  channels_in_order : (ps : List PortPart) (vs : List VarPart) (ss : List SlotPart) (ks : List ChannelPart) (hs : List HandlerPart) → filter_map channel_in (in_order ps vs ss ks hs) ≡ ks
  channels_in_order ps vs ss ks hs =
      other_kind channel_in item.Port (λ x. refl) ps _ ∙ other_kind channel_in item.Var (λ x. refl) vs _ ∙ other_kind channel_in item.Slot (λ x. refl) ss _ ∙ own_kind channel_in item.Channel (λ x. refl) ks _
      ∙ ap (λ zs. ks ++ zs) (ap (filter_map channel_in) (sym (append-nil (map item.Handler hs))) ∙ other_kind channel_in item.Handler (λ x. refl) hs []) ∙ append-nil ks

  handlers_in_order : (ps : List PortPart) (vs : List VarPart) (ss : List SlotPart) (ks : List ChannelPart) (hs : List HandlerPart) → filter_map handler_in (in_order ps vs ss ks hs) ≡ hs
  handlers_in_order ps vs ss ks hs =
      other_kind handler_in item.Port (λ x. refl) ps _ ∙ other_kind handler_in item.Var (λ x. refl) vs _ ∙ other_kind handler_in item.Slot (λ x. refl) ss _ ∙ other_kind handler_in item.Channel (λ x. refl) ks _
      ∙ ap (filter_map handler_in) (sym (append-nil (map item.Handler hs))) ∙ own_kind handler_in item.Handler (λ x. refl) hs [] ∙ append-nil hs

  abbrev made_component : Spot → List PortPart → List VarPart → List SlotPart → List ChannelPart → List HandlerPart → ComponentPart
  made_component n ps vs ss ks hs = record { name = n; ports = ps; vars = vs; slots = ss; channels = ks; handlers = hs }

  -- the items that a component type is made of
  made_of : (n : Spot) (ps : List PortPart) (vs : List VarPart) (ss : List SlotPart) (ks : List ChannelPart) (hs : List HandlerPart) → component_of n (in_order ps vs ss ks hs) ≡ made_component n ps vs ss ks hs
  made_of n ps vs ss ks hs =
      let xs : List ItemPart = in_order ps vs ss ks hs in
      ap (λ z. made_component n z (filter_map var_in xs) (filter_map slot_in xs) (filter_map channel_in xs) (filter_map handler_in xs)) (ports_in_order ps vs ss ks hs)
      ∙ ap (λ z. made_component n ps z (filter_map slot_in xs) (filter_map channel_in xs) (filter_map handler_in xs)) (vars_in_order ps vs ss ks hs)
      ∙ ap (λ z. made_component n ps vs z (filter_map channel_in xs) (filter_map handler_in xs)) (slots_in_order ps vs ss ks hs)
      ∙ ap (λ z. made_component n ps vs ss z (filter_map handler_in xs)) (channels_in_order ps vs ss ks hs)
      ∙ ap (λ z. made_component n ps vs ss ks z) (handlers_in_order ps vs ss ks hs)

  abbrev OfComponent : ComponentPart → Type 0
  OfComponent c = IsAgain (λ t y. SpellsDecl two t (decl.Component y)) component_part (component_tokens c) c

  component_again : (n : Spot) (ps : List PortPart) (vs : List VarPart) (ss : List SlotPart) (ks : List ChannelPart) (hs : List HandlerPart) → CanBeNamed n
      → Each (OfPort two) ps → Each (OfVar two) vs → Each (OfSlot two) ss → Each (OfChannel two) ks → Each (OfHandlerItem two) hs → OfComponent (made_component n ps vs ss ks hs)
  component_again n ps vs ss ks hs c aps avs ass aks ahs =
      let rp = row_of (λ t y. SpellsItem two t (item.Port y)) port_part port_tokens ps aps in
      let rv = row_of (λ t y. SpellsItem two t (item.Var y)) var_part var_tokens vs avs in
      let rs = row_of (λ t y. SpellsItem two t (item.Slot y)) slot_part slot_tokens ss ass in
      let rk = row_of (λ t y. SpellsItem two t (item.Channel y)) channel_part channel_tokens ks aks in
      let rh = row_of (λ t y. SpellsItem two t (item.Handler y)) handler_part handler_tokens hs ahs in
      let P : List Written = flat_map port_tokens ps in
      let V : List Written = flat_map var_tokens vs in
      let S : List Written = flat_map slot_tokens ss in
      let K : List Written = flat_map channel_tokens ks in
      let H : List Written = flat_map handler_tokens hs in
      let all : List Written = P ++ (V ++ (S ++ (K ++ H))) in
      record {
        stand = both (c.stands) (stand-append all (last (codes "}") ∷ []) (stand-append P (V ++ (S ++ (K ++ H))) rp.stand (stand-append V (S ++ (K ++ H)) rv.stand (stand-append S (K ++ H) rs.stand (stand-append K H rk.stand rh.stand)))) refl);
        spell = λ at. (
            let a : ℕ = behind at (word (codes "component") ∷ called n ∷ last (codes "{") ∷ []) in
            let p = rp.spell a in
            let a1 : ℕ = behind a P in
            let v = rv.spell a1 in
            let a2 : ℕ = behind a1 V in
            let s = rs.spell a2 in
            let a3 : ℕ = behind a2 S in
            let k = rk.spell a3 in
            let h = rh.spell (behind a3 K) in
            let row = row_append (SpellsItem two) (row_map (SpellsItem two) item.Port p.1) (row_append (SpellsItem two) (row_map (SpellsItem two) item.Var v.1)
            (row_append (SpellsItem two) (row_map (SpellsItem two) item.Slot s.1) (row_append (SpellsItem two) (row_map (SpellsItem two) item.Channel k.1) (row_map (SpellsItem two) item.Handler h.1)))) in
            let n' : Spot = at_place n (behind at (word (codes "component") ∷ [])) in (
              component_of n' (in_order p.0 v.0 s.0 k.0 h.0),
              rw (placed-append a all (last (codes "}") ∷ [])) (rw (placed-append a P (V ++ (S ++ (K ++ H)))) (rw (placed-append a1 V (S ++ (K ++ H))) (rw (placed-append a2 S (K ++ H)) (rw (placed-append a3 K H)
                  (g.component at _ _ (name _ c.name) row))))),
              ap component_part (made_of n' p.0 v.0 s.0 k.0 h.0)
                  ∙ ap (λ z. made_component (spot n) z (map var_part v.0) (map slot_part s.0) (map channel_part k.0) (map handler_part h.0)) p.2
                  ∙ ap (λ z. made_component (spot n) (map port_part ps) z (map slot_part s.0) (map channel_part k.0) (map handler_part h.0)) v.2
                  ∙ ap (λ z. made_component (spot n) (map port_part ps) (map var_part vs) z (map channel_part k.0) (map handler_part h.0)) s.2
                  ∙ ap (λ z. made_component (spot n) (map port_part ps) (map var_part vs) (map slot_part ss) z (map handler_part h.0)) k.2
                  ∙ ap (λ z. made_component (spot n) (map port_part ps) (map var_part vs) (map slot_part ss) (map channel_part ks) z) h.2,
            ));
      }

  component_read : {t u : List Lexeme} {n : Spot} {xs : List ItemPart} → SpellsName t n → AreSound t → SpellsRow (SpellsItem two) u xs → AreSound u → OfComponent (component_of n xs)
  component_read {n = n} {xs = xs} d sound row sounds =
      let all = each_of (SpellsItem two) (OfItem two) (λ t x d s. item_again two d s) row sounds in
      component_again n _ _ _ _ _ (named d sound)
      (each_in port_in (OfItem two) (OfPort two) port_of xs all) (each_in var_in (OfItem two) (OfVar two) var_of xs all) (each_in slot_in (OfItem two) (OfSlot two) slot_of xs all)
      (each_in channel_in (OfItem two) (OfChannel two) channel_of xs all) (each_in handler_in (OfItem two) (OfHandlerItem two) handler_of xs all)

  -- ---- event types, port types and roots

  abbrev OfEvent : EventPart → Type 0
  OfEvent x = IsAgain (λ t y. SpellsDecl two t (decl.Event y)) event_part (event_tokens x) x

  abbrev made_event : Spot → Option Spot → List Spot → EventPart
  made_event n p ns = record { name = n; parent = p; attrs = ns }

  event_again : (n : Spot) (ns : List Spot) → CanBeNamed n → OfNames ns → OfEvent (made_event n None ns)
  event_again n ns c h = record {
    stand = both (c.stands) (stand-append (names_tokens ns) _ h.stand refl);
    spell = λ at. (
        let q : ℕ = behind at (word (codes "event") ∷ called n ∷ sign (codes "(") ∷ []) in
        let r = h.spell q in (
          made_event (at_place n (behind at (word (codes "event") ∷ []))) None r.0,
          rw (placed-append q (names_tokens ns) (sign (codes ")") ∷ semicolon ∷ [])) (g.event_type at _ _ _ (name _ c.name) r.1),
          ap (λ z. made_event (spot n) None z) r.2,
        ));
  }

  subtype_again : (n m : Spot) (ns : List Spot) → CanBeNamed n → CanBeNamed m → OfNames ns → OfEvent (made_event n (Some m) ns)
  subtype_again n m ns c c' h = record {
    stand = both (c.stands) (both (c'.stands) (stand-append (names_tokens ns) _ h.stand refl));
    spell = λ at. (
        let q : ℕ = behind at (word (codes "event") ∷ called n ∷ sign (codes ":") ∷ called m ∷ sign (codes "(") ∷ []) in
        let r = h.spell q in (
          made_event (at_place n (behind at (word (codes "event") ∷ []))) (Some (at_place m (behind at (word (codes "event") ∷ called n ∷ sign (codes ":") ∷ [])))) r.0,
          rw (placed-append q (names_tokens ns) (sign (codes ")") ∷ semicolon ∷ [])) (g.event_subtype at _ _ _ _ (name _ c.name) (name _ c'.name) r.1),
          ap (λ z. made_event (spot n) (Some (spot m)) z) r.2,
        ));
  }

  abbrev OfPlus : Spot → Type 0
  OfPlus x = IsAgain (λ t y. SpellsListed t (Plus, y)) spot (command (codes "plus") x) x

  abbrev OfMinus : Spot → Type 0
  OfMinus x = IsAgain (λ t y. SpellsListed t (Minus, y)) spot (command (codes "minus") x) x

  abbrev OfListed : Dir × Spot → Type 0
  OfListed (Plus, n) = OfPlus n
  OfListed (Minus, n) = OfMinus n

  listed_again : (t : List Lexeme) (x : Dir × Spot) → SpellsListed t x → AreSound t → OfListed x
  listed_again t x (g.indication a b {t = u} {n = n} d) sound =
      let c = named d (sound-left u _ sound.1) in
      record { stand = both (c.stands) refl; spell = λ at. (at_place n (behind at (word (codes "plus") ∷ [])), g.indication at _ (name _ c.name), refl) }
  listed_again t x (g.request a b {t = u} {n = n} d) sound =
      let c = named d (sound-left u _ sound.1) in
      record { stand = both (c.stands) refl; spell = λ at. (at_place n (behind at (word (codes "minus") ∷ [])), g.request at _ (name _ c.name), refl) }

  plus_of : (x : Dir × Spot) (v : Spot) → indication_in x ≡ Some v → OfListed x → OfPlus v
  plus_of (Plus, n) v e h = let same : n ≡ v = cc in subst OfPlus same h
  plus_of (Minus, n) v e h = absurd cc

  minus_of : (x : Dir × Spot) (v : Spot) → request_in x ≡ Some v → OfListed x → OfMinus v
  minus_of (Minus, n) v e h = let same : n ≡ v = cc in subst OfMinus same h
  minus_of (Plus, n) v e h = absurd cc

  abbrev as_plus : Spot → Dir × Spot
  as_plus n = (Plus, n)

  abbrev as_minus : Spot → Dir × Spot
  as_minus n = (Minus, n)

  abbrev OfPortType : PortTypePart → Type 0
  OfPortType x = IsAgain (λ t y. SpellsDecl two t (decl.Port y)) port_type_part (port_type_tokens x) x

  abbrev made_port_type : Spot → List Spot → List Spot → PortTypePart
  made_port_type n ps ms = record { name = n; plus = ps; minus = ms }

  plus_in_order : (ps ms : List Spot) → filter_map indication_in (map as_plus ps ++ map as_minus ms) ≡ ps
  plus_in_order ps ms =
      own_kind indication_in as_plus (λ x. refl) ps _ ∙ ap (λ zs. ps ++ zs) (ap (filter_map indication_in) (sym (append-nil (map as_minus ms))) ∙ other_kind indication_in as_minus (λ x. refl) ms []) ∙ append-nil ps

  minus_in_order : (ps ms : List Spot) → filter_map request_in (map as_plus ps ++ map as_minus ms) ≡ ms
  minus_in_order ps ms =
      other_kind request_in as_plus (λ x. refl) ps _ ∙ ap (filter_map request_in) (sym (append-nil (map as_minus ms))) ∙ own_kind request_in as_minus (λ x. refl) ms [] ∙ append-nil ms

  port_type_again : (n : Spot) (ps ms : List Spot) → CanBeNamed n → Each OfPlus ps → Each OfMinus ms → OfPortType (made_port_type n ps ms)
  port_type_again n ps ms c aps ams =
      let rp = row_of (λ t y. SpellsListed t (Plus, y)) spot (command (codes "plus")) ps aps in
      let rm = row_of (λ t y. SpellsListed t (Minus, y)) spot (command (codes "minus")) ms ams in
      let P : List Written = flat_map (command (codes "plus")) ps in
      let M : List Written = flat_map (command (codes "minus")) ms in
      record {
        stand = both (c.stands) (stand-append (P ++ M) (last (codes "}") ∷ []) (stand-append P M rp.stand rm.stand) refl);
        spell = λ at. (
            let a : ℕ = behind at (word (codes "port") ∷ called n ∷ last (codes "{") ∷ []) in
            let p = rp.spell a in
            let m = rm.spell (behind a P) in
            let row = row_append SpellsListed (row_map SpellsListed as_plus p.1) (row_map SpellsListed as_minus m.1) in (
              made_port_type (at_place n (behind at (word (codes "port") ∷ []))) (filter_map indication_in (map as_plus p.0 ++ map as_minus m.0)) (filter_map request_in (map as_plus p.0 ++ map as_minus m.0)),
              rw (placed-append a (P ++ M) (last (codes "}") ∷ [])) (rw (placed-append a P M) (g.port_type at _ _ (name _ c.name) row)),
              ap (λ z. made_port_type (spot n) (map spot z) (map spot (filter_map request_in (map as_plus p.0 ++ map as_minus m.0)))) (plus_in_order p.0 m.0)
                  ∙ ap (λ z. made_port_type (spot n) (map spot p.0) (map spot z)) (minus_in_order p.0 m.0)
                  ∙ ap (λ z. made_port_type (spot n) z (map spot m.0)) p.2 ∙ ap (λ z. made_port_type (spot n) (map spot ps) z) m.2,
            ));
      }

  port_type_read : {t u : List Lexeme} {n : Spot} {xs : List (Dir × Spot)} → SpellsName t n → AreSound t → SpellsRow SpellsListed u xs → AreSound u
      → OfPortType (made_port_type n (filter_map indication_in xs) (filter_map request_in xs))
  port_type_read {n = n} {xs = xs} d sound row sounds =
      let all = each_of SpellsListed OfListed listed_again row sounds in
      port_type_again n _ _ (named d sound) (each_in indication_in OfListed OfPlus plus_of xs all) (each_in request_in OfListed OfMinus minus_of xs all)

  abbrev OfRoot : RootPart → Type 0
  OfRoot x = IsAgain (λ t y. SpellsDecl two t (decl.Root y)) root_part (root_tokens x) x

  root_again : (a : ℕ) (x : ChildPart) → OfChild x → OfRoot (record { at = a; child = x })
  root_again a x h = record {
    stand = stand-append (child_tokens x) (semicolon ∷ []) h.stand refl;
    spell = λ at. (
        let q : ℕ = behind at (word (codes "root") ∷ []) in
        let r = h.spell q in
        (record { at = at; child = r.0 }, rw (placed-append q (child_tokens x) (semicolon ∷ [])) (g.root at _ r.1), ap (λ z. record { at = 0; child = z }) r.2));
  }

  -- ---- declarations

  abbrev OfDecl : DeclPart → Type 0
  OfDecl (decl.Event x) = OfEvent x
  OfDecl (decl.Port x) = OfPortType x
  OfDecl (decl.Component x) = OfComponent x
  OfDecl (decl.Root x) = OfRoot x

  decl_again : (t : List Lexeme) (x : DeclPart) → SpellsDecl two t x → AreSound t → OfDecl x
  decl_again t' x (g.event_type a b c d {t = t} {u = u} {n = n} {ns = ns} dn dns) sound =
      event_again n ns (named dn (sound-left t _ sound.1)) (names_again dns (sound-left u _ (sound-right t _ sound.1).1))
  decl_again t' x (g.event_subtype a b c d e {t = t} {u = u} {v = v} {n = n} {m = m} {ns = ns} dn dm dns) sound =
      let after = (sound-right t _ sound.1).1 in
      subtype_again n m ns (named dn (sound-left t _ sound.1)) (named dm (sound-left u _ after)) (names_again dns (sound-left v _ (sound-right u _ after).1))
  decl_again t' x (g.port_type a b c {t = t} {u = u} {n = n} {xs = xs} dn row) sound =
      port_type_read dn (sound-left t _ sound.1) row (sound-left u _ (sound-right t _ sound.1).1)
  decl_again t' x (g.component a b c {t = t} {u = u} {n = n} {xs = xs} dn row) sound =
      component_read dn (sound-left t _ sound.1) row (sound-left u _ (sound-right t _ sound.1).1)
  decl_again t' x (g.root a b {t = t} {x = child} d) sound = root_again a child (child_again d (sound-left t _ sound.1))

  event_of : (x : DeclPart) (v : EventPart) → event_in x ≡ Some v → OfDecl x → OfEvent v
  event_of (decl.Event x) v e h = let same : x ≡ v = cc in subst OfEvent same h
  event_of (decl.Port x) v e h = absurd cc
  event_of (decl.Component x) v e h = absurd cc
  event_of (decl.Root x) v e h = absurd cc

  port_type_of : (x : DeclPart) (v : PortTypePart) → port_type_in x ≡ Some v → OfDecl x → OfPortType v
  port_type_of (decl.Port x) v e h = let same : x ≡ v = cc in subst OfPortType same h
  port_type_of (decl.Event x) v e h = absurd cc
  port_type_of (decl.Component x) v e h = absurd cc
  port_type_of (decl.Root x) v e h = absurd cc

  component_is : (x : DeclPart) (v : ComponentPart) → component_in x ≡ Some v → OfDecl x → OfComponent v
  component_is (decl.Component x) v e h = let same : x ≡ v = cc in subst OfComponent same h
  component_is (decl.Event x) v e h = absurd cc
  component_is (decl.Port x) v e h = absurd cc
  component_is (decl.Root x) v e h = absurd cc

  root_of : (x : DeclPart) (v : RootPart) → root_in x ≡ Some v → OfDecl x → OfRoot v
  root_of (decl.Root x) v e h = let same : x ≡ v = cc in subst OfRoot same h
  root_of (decl.Event x) v e h = absurd cc
  root_of (decl.Port x) v e h = absurd cc
  root_of (decl.Component x) v e h = absurd cc

  -- ---- files

  abbrev all_in_order : List EventPart → List PortTypePart → List ComponentPart → List RootPart → List DeclPart
  all_in_order es ts cs rs = map decl.Event es ++ (map decl.Port ts ++ (map decl.Component cs ++ map decl.Root rs))

  events_in_order : (es : List EventPart) (ts : List PortTypePart) (cs : List ComponentPart) (rs : List RootPart) → filter_map event_in (all_in_order es ts cs rs) ≡ es
  events_in_order es ts cs rs =
      own_kind event_in decl.Event (λ x. refl) es _ ∙ ap (λ zs. es ++ zs) (other_kind event_in decl.Port (λ x. refl) ts _ ∙ other_kind event_in decl.Component (λ x. refl) cs _
      ∙ ap (filter_map event_in) (sym (append-nil (map decl.Root rs))) ∙ other_kind event_in decl.Root (λ x. refl) rs []) ∙ append-nil es

  types_in_order : (es : List EventPart) (ts : List PortTypePart) (cs : List ComponentPart) (rs : List RootPart) → filter_map port_type_in (all_in_order es ts cs rs) ≡ ts
  types_in_order es ts cs rs =
      other_kind port_type_in decl.Event (λ x. refl) es _ ∙ own_kind port_type_in decl.Port (λ x. refl) ts _ ∙ ap (λ zs. ts ++ zs) (other_kind port_type_in decl.Component (λ x. refl) cs _
      ∙ ap (filter_map port_type_in) (sym (append-nil (map decl.Root rs))) ∙ other_kind port_type_in decl.Root (λ x. refl) rs []) ∙ append-nil ts

  components_in_order : (es : List EventPart) (ts : List PortTypePart) (cs : List ComponentPart) (rs : List RootPart) → filter_map component_in (all_in_order es ts cs rs) ≡ cs
  components_in_order es ts cs rs =
      other_kind component_in decl.Event (λ x. refl) es _ ∙ other_kind component_in decl.Port (λ x. refl) ts _ ∙ own_kind component_in decl.Component (λ x. refl) cs _
      ∙ ap (λ zs. cs ++ zs) (ap (filter_map component_in) (sym (append-nil (map decl.Root rs))) ∙ other_kind component_in decl.Root (λ x. refl) rs []) ∙ append-nil cs

  roots_in_order : (es : List EventPart) (ts : List PortTypePart) (cs : List ComponentPart) (rs : List RootPart) → filter_map root_in (all_in_order es ts cs rs) ≡ rs
  roots_in_order es ts cs rs =
      other_kind root_in decl.Event (λ x. refl) es _ ∙ other_kind root_in decl.Port (λ x. refl) ts _ ∙ other_kind root_in decl.Component (λ x. refl) cs _
      ∙ ap (filter_map root_in) (sym (append-nil (map decl.Root rs))) ∙ own_kind root_in decl.Root (λ x. refl) rs [] ∙ append-nil rs

  abbrev made_file : List EventPart → List PortTypePart → List ComponentPart → List RootPart → ℕ → Parts
  made_file es ts cs rs end = record { version = version_number two; events = es; ports = ts; components = cs; roots = rs; end = end }

  -- the file of declarations
  abbrev file_of : List DeclPart → ℕ → Parts
  file_of xs end = made_file (filter_map event_in xs) (filter_map port_type_in xs) (filter_map component_in xs) (filter_map root_in xs) end

  made_file_of : (es : List EventPart) (ts : List PortTypePart) (cs : List ComponentPart) (rs : List RootPart) (end : ℕ) → file_of (all_in_order es ts cs rs) end ≡ made_file es ts cs rs end
  made_file_of es ts cs rs end =
      let xs : List DeclPart = all_in_order es ts cs rs in
      ap (λ z. made_file z (filter_map port_type_in xs) (filter_map component_in xs) (filter_map root_in xs) end) (events_in_order es ts cs rs)
      ∙ ap (λ z. made_file es z (filter_map component_in xs) (filter_map root_in xs) end) (types_in_order es ts cs rs)
      ∙ ap (λ z. made_file es ts z (filter_map root_in xs) end) (components_in_order es ts cs rs)
      ∙ ap (λ z. made_file es ts cs z end) (roots_in_order es ts cs rs)

  -- the version as it is written
  abbrev version_token : Written
  version_token = record { kind = Number; bytes = version_digits two; behind = 32 }

version_is : (two : Bool) → number (version_number two) ≡ version_token two
version_is false = ap (λ (ds : List ℕ). record { kind = Number; bytes = ds; behind = 32 }) (decimal_digit 1 (omega arith))
version_is true = ap (λ (ds : List ℕ). record { kind = Number; bytes = ds; behind = 32 }) (decimal_digit 2 (omega arith))

version_stands : (two : Bool) → can_stand (version_token two) ≡ true
version_stands false = refl
version_stands true = refl

module _ (two : Bool) (es : List EventPart) (ts : List PortTypePart) (cs : List ComponentPart) (rs : List RootPart) (end : ℕ)
    (aes : Each (OfEvent two) es) (ats : Each (OfPortType two) ts) (acs : Each (OfComponent two) cs) (ars : Each (OfRoot two) rs) where
  abbrev E : List Written
  E = flat_map event_tokens es

  abbrev T : List Written
  T = flat_map port_type_tokens ts

  abbrev C : List Written
  C = flat_map component_tokens cs

  abbrev R : List Written
  R = flat_map root_tokens rs

  begun : IsFileAgain (word (codes "system") ∷ version_token two ∷ semicolon ∷ (E ++ (T ++ (C ++ R)))) (made_file two es ts cs rs end)
  begun =
      let re = row_of (λ t y. SpellsDecl two t (decl.Event y)) event_part event_tokens es aes in
      let rt = row_of (λ t y. SpellsDecl two t (decl.Port y)) port_type_part port_type_tokens ts ats in
      let rc = row_of (λ t y. SpellsDecl two t (decl.Component y)) component_part component_tokens cs acs in
      let rr = row_of (λ t y. SpellsDecl two t (decl.Root y)) root_part root_tokens rs ars in
      record {
        stand = both (version_stands two) (stand-append E (T ++ (C ++ R)) re.stand (stand-append T (C ++ R) rt.stand (stand-append C R rc.stand rr.stand)));
        spell = λ last_place. (
            let a : ℕ = behind 0 (word (codes "system") ∷ version_token two ∷ semicolon ∷ []) in
            let e = re.spell a in
            let a1 : ℕ = behind a E in
            let t = rt.spell a1 in
            let a2 : ℕ = behind a1 T in
            let c = rc.spell a2 in
            let r = rr.spell (behind a2 C) in
            let row = row_append (SpellsDecl two) (row_map (SpellsDecl two) decl.Event e.1) (row_append (SpellsDecl two) (row_map (SpellsDecl two) decl.Port t.1)
            (row_append (SpellsDecl two) (row_map (SpellsDecl two) decl.Component c.1) (row_map (SpellsDecl two) decl.Root r.1))) in (
              file_of two (all_in_order two e.0 t.0 c.0 r.0) last_place,
              rw (placed-append a E (T ++ (C ++ R))) (rw (placed-append a1 T (C ++ R)) (rw (placed-append a2 C R) (g.file 0 _ _ two row))),
              ap unplaced (made_file_of two e.0 t.0 c.0 r.0 last_place)
                  ∙ ap (λ z. made_file two z (map port_type_part t.0) (map component_part c.0) (map root_part r.0) 0) e.2
                  ∙ ap (λ z. made_file two (map event_part es) z (map component_part c.0) (map root_part r.0) 0) t.2
                  ∙ ap (λ z. made_file two (map event_part es) (map port_type_part ts) z (map root_part r.0) 0) c.2
                  ∙ ap (λ z. made_file two (map event_part es) (map port_type_part ts) (map component_part cs) z 0) r.2,
            ));
      }

  written : IsFileAgain (file_tokens (made_file two es ts cs rs end)) (made_file two es ts cs rs end)
  written = subst (λ (v : Written). IsFileAgain (word (codes "system") ∷ v ∷ semicolon ∷ (E ++ (T ++ (C ++ R)))) (made_file two es ts cs rs end)) (sym (version_is two)) begun

pub file_again : (end : ℕ) (t : List Lexeme) (P : Parts) → SpellsFile end t P → AreSound t → IsFileAgain (file_tokens P) P
file_again end t' P (g.file a b c {t = t} {xs = xs} two row) sound =
    let all = each_of (SpellsDecl two) (OfDecl two) (decl_again two) row sound.1.1.1 in
    written two _ _ _ _ end
    (each_in event_in (OfDecl two) (OfEvent two) (event_of two) xs all) (each_in port_type_in (OfDecl two) (OfPortType two) (port_type_of two) xs all)
    (each_in component_in (OfDecl two) (OfComponent two) (component_is two) xs all) (each_in root_in (OfDecl two) (OfRoot two) (root_of two) xs all)
