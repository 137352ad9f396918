-- What spells a file is read as it.
use Rattle.std.proofs.Common.{◌≡◌, ℕ, ◌<◌, Bool, true, false, List, [], ◌∷◌, ◌++◌, length, Option, refl, ◌∙◌, ap, append_assoc}
use Rattle.std.specs.Prelude.{codes, is_none}
use Rattle.std.proofs.lemmas.List.{append-nil}
use Rattle.kom_base.specs.declared.numbers.Dir.{Dir}
use Rattle.kom_base.specs.declared.numbers.Dir.TheVariants.{Plus, Minus}
use Rattle.kom_system.specs.declared.parts.Spot.{Spot}
use Rattle.kom_system.specs.declared.parts.Parts.{Parts}
use Rattle.kom_grammar.specs.declared.items.DeclPart.{DeclPart}
use Rattle.kom_grammar.specs.declared.items.DeclPart.TheVariants as d
use Rattle.kom_grammar.specs.declared.items.ItemPart.{ItemPart}
use Rattle.kom_text.specs.declared.token.TokenKind.TheVariants.{Word, Number, Sign}
use Rattle.kom_parse.specs.Lexemes.{Lexeme, number_lexeme}
use Rattle.kom_parse.specs.Input.{Read, Parser, first, eat_if, loop}
use Rattle.kom_parse.specs.Rules.{eat, name, in_parens, row_turn}
use Rattle.kom_parse.specs.Spelled.{parens, SpellsRow, end as row_ends, next as row_goes_on}
use Rattle.kom_parse.proofs.Laws.{IsReader}
use Rattle.kom_parse.proofs.Tokens.{exactly_reads, eat_takes}
use Rattle.kom_parse.proofs.Steps.{eat_missing}
use Rattle.kom_parse.proofs.RowLaws.{all_added, row_goes, row_end}
use Rattle.kom_grammar.specs.Words.{w, s, is_name}
use Rattle.kom_grammar.specs.Files as g
use Rattle.kom_grammar.specs.Files.{SpellsItem, SpellsListed, SpellsDecl, SpellsFile}
use Rattle.kom_exprs.proofs.NameLaws.{name_whole}
use Rattle.kom_stmts.specs.Reading.{ends_block}
use Rattle.kom_stmts.proofs.StmtWhole.{names_whole, direction_whole}
use Rattle.kom_items.specs.Reading.{item}
use Rattle.kom_items.proofs.ItemReads.{item_reader, some_tokens as some_of_item}
use Rattle.kom_items.proofs.ItemWhole.{child_whole, item_whole, begins_item}
use Rattle.kom_sysread.specs.Reading.{no_lines, add_line, no_items, add_item, no_decls, add_decl, parent, event, line, lines, port_type, items, component, root, decl, version, header, decls, file}
use Rattle.kom_sysread.proofs.Rows.{all_lines, all_items, all_decls}
use Rattle.kom_sysread.proofs.FileReads.{line_reader, some_of_line, decl_reader, some_of_decl}

-- ---- rows

-- a row is read up to what ends it, where its items are
module _ {A S : Type 0} (ends : Option Lexeme → Bool) (item : Parser A) (add : S → A → S) (Spells : List Lexeme → A → Type 0) (some : (t : List Lexeme) (x : A) → Spells t x → 0 < length t) (r : IsReader item Spells)
    (begins : (t : List Lexeme) (x : A) (after : List Lexeme) → Spells t x → ends (first (t ++ after)) ≡ false)
    (whole : (t : List Lexeme) (x : A) (after : List Lexeme) → Spells t x → item (t ++ after) ≡ Read x after) where
  row_whole : {t : List Lexeme} {xs : List A} → SpellsRow Spells t xs → (z : S) (after : List Lexeme) → ends (first after) ≡ true → loop (row_turn ends item add) z (t ++ after) ≡ Read (all_added add z xs) after
  row_whole row_ends z after e = row_end ends item add z after e
  row_whole (row_goes_on {t = t} {ts = ts} {x = x} {xs = xs} dx ds) z after e =
      let regroup : (t ++ ts) ++ after ≡ t ++ (ts ++ after) = append_assoc t ts after in
      rw regroup (row_goes ends item add Spells (SpellsRow Spells) row_ends (λ t ts x xs dx ds. row_goes_on dx ds) some r z x (t ++ (ts ++ after)) (ts ++ after) (begins t x (ts ++ after) dx) (whole t x (ts ++ after) dx)
      ∙ row_whole ds (add z x) after e)

-- ---- declarations

line_whole : (t : List Lexeme) (x : Dir × Spot) (after : List Lexeme) → SpellsListed t x → line (t ++ after) ≡ Read x after
unfolding line
line_whole t x after (g.indication a b dn) = simp append_assoc (rw (direction_whole Plus a, name_whole dn, exactly_reads Sign (codes ";") b) refl)
line_whole t x after (g.request a b dn) = simp append_assoc (rw (direction_whole Minus a, name_whole dn, exactly_reads Sign (codes ";") b) refl)

begins_line : (t : List Lexeme) (x : Dir × Spot) (after : List Lexeme) → SpellsListed t x → ends_block (first (t ++ after)) ≡ false
begins_line t x after (g.indication a b dn) = refl
begins_line t x after (g.request a b dn) = refl

lines_whole : (n : Spot) {t : List Lexeme} {xs : List (Dir × Spot)} → SpellsRow SpellsListed t xs → (c : ℕ) (after : List Lexeme)
    → lines (no_lines n) (t ++ (s (codes "}") c ∷ after)) ≡ Read (all_added add_line (no_lines n) xs) (s (codes "}") c ∷ after)
unfolding lines
lines_whole n ds c after = row_whole ends_block line add_line SpellsListed some_of_line line_reader begins_line line_whole ds (no_lines n) (s (codes "}") c ∷ after) refl

items_whole : (two : Bool) (n : Spot) {t : List Lexeme} {xs : List ItemPart} → SpellsRow (SpellsItem two) t xs → (c : ℕ) (after : List Lexeme)
    → items two (no_items n) (t ++ (s (codes "}") c ∷ after)) ≡ Read (all_added add_item (no_items n) xs) (s (codes "}") c ∷ after)
unfolding items
items_whole two n ds c after = row_whole ends_block (item two) add_item (SpellsItem two) (some_of_item two) (item_reader two) (λ t x after d. begins_item d after) (λ t x after d. item_whole d after)
    ds (no_items n) (s (codes "}") c ∷ after) refl

decl_whole : (two : Bool) (t : List Lexeme) (x : DeclPart) (after : List Lexeme) → SpellsDecl two t x → decl two (t ++ after) ≡ Read x after
unfolding decl event parent port_type component root
decl_whole two t x after (g.event_type a b c e {u = u} {ns = ns} dn dl) =
    let list : in_parens (name is_name) (s (codes "(") b ∷ (u ++ (s (codes ")") c ∷ s (codes ";") e ∷ after))) ≡ Read ns (s (codes ";") e ∷ after) =
    simp append_assoc at (names_whole (parens b c dl) (s (codes ";") e ∷ after)) in
    simp append_assoc (rw (
      exactly_reads Word (codes "event") a,
      name_whole dn,
      eat_missing Sign (codes ":") (s (codes "(") b ∷ (u ++ (s (codes ")") c ∷ s (codes ";") e ∷ after))) refl,
    ) (rw (list, exactly_reads Sign (codes ";") e) refl))
decl_whole two t x after (g.event_subtype a b c d e {u = u} {v = v} {ns = ns} dn dm dl) =
    let list : in_parens (name is_name) (s (codes "(") c ∷ (v ++ (s (codes ")") d ∷ s (codes ";") e ∷ after))) ≡ Read ns (s (codes ";") e ∷ after) =
    simp append_assoc at (names_whole (parens c d dl) (s (codes ";") e ∷ after)) in
    simp append_assoc (rw (
      exactly_reads Word (codes "event") a,
      name_whole dn,
      eat_takes Sign (codes ":") b (u ++ (s (codes "(") c ∷ (v ++ (s (codes ")") d ∷ s (codes ";") e ∷ after)))),
    ) (rw (name_whole dm) (rw (list, exactly_reads Sign (codes ";") e) refl)))
decl_whole two t x after (g.port_type a b c {n = n} {xs = xs} dn ds) =
    simp append_assoc (rw (exactly_reads Word (codes "port") a, name_whole dn, exactly_reads Sign (codes "{") b, lines_whole n ds c after, exactly_reads Sign (codes "}") c) (ap (λ z. Read (d.Port z) after) (all_lines n xs)))
decl_whole two t x after (g.component a b c {n = n} {xs = xs} dn ds) =
    simp append_assoc (rw (exactly_reads Word (codes "component") a, name_whole dn, exactly_reads Sign (codes "{") b, items_whole two n ds c after, exactly_reads Sign (codes "}") c)
    (ap (λ z. Read (d.Component z) after) (all_items n xs)))
decl_whole two t x after (g.root a b {x = y} dx) =
    simp append_assoc (rw (exactly_reads Word (codes "root") a, child_whole dx (s (codes ";") b ∷ after), exactly_reads Sign (codes ";") b) refl)

begins_decl : (two : Bool) (t : List Lexeme) (x : DeclPart) (after : List Lexeme) → SpellsDecl two t x → is_none (first (t ++ after)) ≡ false
begins_decl two t x after (g.event_type a b c e dn dl) = refl
begins_decl two t x after _ = refl

-- ---- files

header_whole : (two : Bool) (a b c : ℕ) (after : List Lexeme) → header (w (codes "system") a ∷ number_lexeme (g.version_digits two) b ∷ s (codes ";") c ∷ after) ≡ Read two after
unfolding header version eat eat_if
header_whole true a b c after = rw (exactly_reads Word (codes "system") a) (rw (exactly_reads Number (codes "2") b, exactly_reads Sign (codes ";") c) refl)
header_whole false a b c after = rw (exactly_reads Word (codes "system") a) (rw (exactly_reads Sign (codes ";") c) refl)

decls_whole : (two : Bool) (end : ℕ) {t : List Lexeme} {xs : List DeclPart} → SpellsRow (SpellsDecl two) t xs → decls two (no_decls two end) t ≡ Read (all_added add_decl (no_decls two end) xs) []
unfolding decls
decls_whole two end ds =
    let e = row_whole is_none (decl two) add_decl (SpellsDecl two) (some_of_decl two) (decl_reader two) (begins_decl two) (decl_whole two) ds (no_decls two end) [] refl in
    rw append-nil at e

pub file_whole : (end : ℕ) (t : List Lexeme) (x : Parts) → SpellsFile end t x → file end t ≡ Read x []
unfolding file
file_whole end t x (g.file a b c {xs = xs} two ds) = rw (header_whole two a b c, decls_whole two end ds) (ap (λ z. Read z []) (all_decls two end xs))
