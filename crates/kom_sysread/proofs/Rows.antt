-- Adding one after another makes what the grammar says of the whole row.
use Rattle.std.proofs.Common.{◌≡◌, ℕ, Bool, List, [], ◌∷◌, ◌++◌, refl, ◌∙◌, ap, append_assoc}
use Rattle.std.specs.List.{filter_map}
use Rattle.std.proofs.lemmas.List.{append-nil}
use Rattle.std.proofs.lemmas.List.Elements.{filter_map-append}
use Rattle.kom_base.specs.declared.numbers.Dir.{Dir}
use Rattle.kom_base.specs.declared.numbers.Dir.TheVariants.{Plus, Minus}
use Rattle.kom_system.specs.declared.parts.Spot.{Spot}
use Rattle.kom_system.specs.declared.parts.PortTypePart.{PortTypePart}
use Rattle.kom_system.specs.declared.parts.Parts.{Parts}
use Rattle.kom_grammar.specs.declared.items.DeclPart.{DeclPart}
use Rattle.kom_grammar.specs.declared.items.DeclPart.TheVariants as d
use Rattle.kom_grammar.specs.declared.items.ItemPart.{ItemPart}
use Rattle.kom_grammar.specs.declared.items.ItemPart.TheVariants as i
use Rattle.kom_parse.specs.Rules.{onto}
use Rattle.kom_parse.proofs.RowLaws.{all_added}
use Rattle.kom_grammar.specs.Files.{indication_in, request_in, component_of, version_number, event_in, port_type_in, component_in, root_in}
use Rattle.kom_sysread.specs.Reading.{no_lines, add_line, no_items, add_item, no_decls, add_decl}

-- a whole by its rows, and one more: by induction it is the whole of all
all_grown : {A S : Type 0} (add : S → A → S) (whole : List A → S) → ((xs : List A) (x : A) → add (whole xs) x ≡ whole (onto xs x)) → (xs ys : List A) → all_added add (whole xs) ys ≡ whole (xs ++ ys)
all_grown add whole one xs [] = rw append-nil refl
all_grown add whole one xs (y ∷ ys) =
    ap (λ s. all_added add s ys) (one xs y) ∙ all_grown add whole one (onto xs y) ys ∙ ap whole (append_assoc xs (y ∷ []) ys)

-- ---- port types

abbrev pub lines_of : Spot → List (Dir × Spot) → PortTypePart
lines_of n xs = record { name = n; plus = filter_map indication_in xs; minus = filter_map request_in xs }

one_line : (n : Spot) (xs : List (Dir × Spot)) (x : Dir × Spot) → add_line (lines_of n xs) x ≡ lines_of n (onto xs x)
one_line n xs (Plus, m) = simp (filter_map-append, append-nil)
one_line n xs (Minus, m) = simp (filter_map-append, append-nil)

pub all_lines : (n : Spot) (xs : List (Dir × Spot)) → all_added add_line (no_lines n) xs ≡ lines_of n xs
all_lines n xs = all_grown add_line (lines_of n) (one_line n) [] xs

-- ---- component types

one_item : (n : Spot) (xs : List ItemPart) (x : ItemPart) → add_item (component_of n xs) x ≡ component_of n (onto xs x)
one_item n xs (i.Port x) = simp (filter_map-append, append-nil)
one_item n xs (i.Var x) = simp (filter_map-append, append-nil)
one_item n xs (i.Slot x) = simp (filter_map-append, append-nil)
one_item n xs (i.Channel x) = simp (filter_map-append, append-nil)
one_item n xs (i.Handler x) = simp (filter_map-append, append-nil)

pub all_items : (n : Spot) (xs : List ItemPart) → all_added add_item (no_items n) xs ≡ component_of n xs
all_items n xs = all_grown add_item (component_of n) (one_item n) [] xs

-- ---- files

abbrev pub decls_of : Bool → ℕ → List DeclPart → Parts
decls_of two end xs = record {
  version = version_number two;
  events = filter_map event_in xs;
  ports = filter_map port_type_in xs;
  components = filter_map component_in xs;
  roots = filter_map root_in xs;
  end = end;
}

one_decl : (two : Bool) (end : ℕ) (xs : List DeclPart) (x : DeclPart) → add_decl (decls_of two end xs) x ≡ decls_of two end (onto xs x)
one_decl two end xs (d.Event x) = simp (filter_map-append, append-nil)
one_decl two end xs (d.Port x) = simp (filter_map-append, append-nil)
one_decl two end xs (d.Component x) = simp (filter_map-append, append-nil)
one_decl two end xs (d.Root x) = simp (filter_map-append, append-nil)

pub all_decls : (two : Bool) (end : ℕ) (xs : List DeclPart) → all_added add_decl (no_decls two end) xs ≡ decls_of two end xs
all_decls two end xs = all_grown add_decl (decls_of two end) (one_decl two end) [] xs
