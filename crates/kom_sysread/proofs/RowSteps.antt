-- What methods that read rows need of the rules.
use Rattle.std.proofs.Common.{◌≡◌, ◌≢◌, ◌<◌, Bool, true, false, List, [], ◌∷◌, length, refl, arith}
use Rattle.std.specs.Prelude.{is_none}
use Rattle.kom_base.specs.declared.numbers.Dir.{Dir}
use Rattle.kom_system.specs.declared.parts.Spot.{Spot}
use Rattle.kom_system.specs.declared.parts.ComponentPart.{ComponentPart}
use Rattle.kom_system.specs.declared.parts.PortTypePart.{PortTypePart}
use Rattle.kom_system.specs.declared.parts.Parts.{Parts}
use Rattle.kom_grammar.specs.declared.items.DeclPart.{DeclPart}
use Rattle.kom_grammar.specs.declared.items.ItemPart.{ItemPart}
use Rattle.kom_parse.specs.Lexemes.{Lexeme}
use Rattle.kom_parse.specs.Input.{Read, Refuse, first}
use Rattle.kom_parse.specs.Spelled.{SpellsRow, end as row_ends, next as row_goes_on}
use Rattle.kom_parse.proofs.RowLaws.{row_end, row_stuck, row_goes, row_shorter}
use Rattle.kom_grammar.specs.Files.{SpellsItem, SpellsListed, SpellsDecl}
use Rattle.kom_stmts.specs.Reading.{ends_block}
use Rattle.kom_items.specs.Reading.{item}
use Rattle.kom_items.proofs.ItemReads.{item_reader, some_tokens as some_of_item}
use Rattle.kom_sysread.specs.Reading.{no_lines, add_line, no_items, add_item, no_decls, add_decl, line, lines, items, decl, decls}
use Rattle.kom_sysread.proofs.FileReads.{line_reader, some_of_line, decl_reader, some_of_decl}

-- a name that no file has
nobody : Spot
nobody = record { name = []; at = 0 }

pub lines_go : (p : PortTypePart) (x : Dir × Spot) (ts after : List Lexeme) → ends_block (first ts) ≡ false → line ts ≡ Read x after → lines p ts ≡ lines (add_line p x) after
unfolding lines
lines_go p x ts after e e' =
    row_goes ends_block line add_line SpellsListed (SpellsRow SpellsListed) row_ends (λ t ts x xs dx ds. row_goes_on dx ds) some_of_line line_reader p x ts after e e'

pub lines_shorter : (x : Dir × Spot) (ts after : List Lexeme) → ends_block (first ts) ≡ false → line ts ≡ Read x after → length after < length ts
lines_shorter x ts after e e' =
    row_shorter ends_block line add_line SpellsListed (SpellsRow SpellsListed) row_ends (λ t ts x xs dx ds. row_goes_on dx ds) some_of_line line_reader (no_lines nobody) x ts after e e'

pub lines_refuse : (p : PortTypePart) (ts after : List Lexeme) → ends_block (first ts) ≡ false → line ts ≡ Refuse after → lines p ts ≡ Refuse after
unfolding lines
lines_refuse p ts after e e' = row_stuck ends_block line add_line p ts after e e'

pub lines_end : (p : PortTypePart) (ts : List Lexeme) → ends_block (first ts) ≡ true → lines p ts ≡ Read p ts
unfolding lines
lines_end p ts e = row_end ends_block line add_line p ts e

module _ (two : Bool) where
  pub items_go : (c : ComponentPart) (x : ItemPart) (ts after : List Lexeme) → ends_block (first ts) ≡ false → item two ts ≡ Read x after → items two c ts ≡ items two (add_item c x) after
  unfolding items
  items_go c x ts after e e' =
      row_goes ends_block (item two) add_item (SpellsItem two) (SpellsRow (SpellsItem two)) row_ends (λ t ts x xs dx ds. row_goes_on dx ds) (some_of_item two) (item_reader two) c x ts after e e'

  pub items_shorter : (x : ItemPart) (ts after : List Lexeme) → ends_block (first ts) ≡ false → item two ts ≡ Read x after → length after < length ts
  items_shorter x ts after e e' =
      row_shorter ends_block (item two) add_item (SpellsItem two) (SpellsRow (SpellsItem two)) row_ends (λ t ts x xs dx ds. row_goes_on dx ds) (some_of_item two) (item_reader two) (no_items nobody) x ts after e e'

  pub items_refuse : (c : ComponentPart) (ts after : List Lexeme) → ends_block (first ts) ≡ false → item two ts ≡ Refuse after → items two c ts ≡ Refuse after
  unfolding items
  items_refuse c ts after e e' = row_stuck ends_block (item two) add_item c ts after e e'

  pub items_end : (c : ComponentPart) (ts : List Lexeme) → ends_block (first ts) ≡ true → items two c ts ≡ Read c ts
  unfolding items
  items_end c ts e = row_end ends_block (item two) add_item c ts e

  some_left : (ts : List Lexeme) → length ts ≢ 0 → is_none (first ts) ≡ false
  some_left [] e = absurd (e refl)
  some_left (t ∷ ts) e = refl

  pub decls_go : (p : Parts) (x : DeclPart) (ts after : List Lexeme) → length ts ≢ 0 → decl two ts ≡ Read x after → decls two p ts ≡ decls two (add_decl p x) after
  unfolding decls
  decls_go p x ts after e e' =
      row_goes is_none (decl two) add_decl (SpellsDecl two) (SpellsRow (SpellsDecl two)) row_ends (λ t ts x xs dx ds. row_goes_on dx ds) (some_of_decl two) (decl_reader two) p x ts after (some_left ts e) e'

  pub decls_shorter : (x : DeclPart) (ts after : List Lexeme) → length ts ≢ 0 → decl two ts ≡ Read x after → length after < length ts
  decls_shorter x ts after e e' =
      row_shorter is_none (decl two) add_decl (SpellsDecl two) (SpellsRow (SpellsDecl two)) row_ends (λ t ts x xs dx ds. row_goes_on dx ds) (some_of_decl two) (decl_reader two) (no_decls two 0) x ts after (some_left ts e) e'

  pub decls_refuse : (p : Parts) (ts after : List Lexeme) → length ts ≢ 0 → decl two ts ≡ Refuse after → decls two p ts ≡ Refuse after
  unfolding decls
  decls_refuse p ts after e e' = row_stuck is_none (decl two) add_decl p ts after (some_left ts e) e'

  pub decls_end : (p : Parts) (ts : List Lexeme) → length ts ≡ 0 → decls two p ts ≡ Read p ts
  unfolding decls
  decls_end p [] e = row_end is_none (decl two) add_decl p [] refl
  decls_end p (t ∷ ts) e = absurd (omega (arith, e))

pub nothing_left : (ts : List Lexeme) → length ts ≡ 0 → ts ≡ []
nothing_left [] e = refl
nothing_left (t ∷ ts) e = absurd (omega (arith, e))
