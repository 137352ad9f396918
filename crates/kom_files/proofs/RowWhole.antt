-- What spells a row is read as it.
use Rattle.std.proofs.Common.{◌≡◌, ◌<◌, Bool, true, false, List, ◌++◌, length, Option, ◌∙◌, append_assoc}
use Rattle.kom_parse.specs.Lexemes.{Lexeme}
use Rattle.kom_parse.specs.Input.{Read, Parser, first, loop}
use Rattle.kom_parse.specs.Rules.{row_turn}
use Rattle.kom_parse.specs.Spelled.{SpellsRow, end as row_ends, next as row_goes_on}
use Rattle.kom_parse.proofs.Laws.{IsReader}
use Rattle.kom_parse.proofs.RowLaws.{all_added, row_goes, row_end}

-- a row is read up to what ends it, where its items are
module _ {A S : Type 0} (ends : Option Lexeme → Bool) (item : Parser A) (add : S → A → S) (Spells : List Lexeme → A → Type 0) (some : (t : List Lexeme) (x : A) → Spells t x → 0 < length t) (r : IsReader item Spells)
    (begins : (t : List Lexeme) (x : A) (after : List Lexeme) → Spells t x → ends (first (t ++ after)) ≡ false)
    (whole : (t : List Lexeme) (x : A) (after : List Lexeme) → Spells t x → item (t ++ after) ≡ Read x after) where
  pub row_whole : {t : List Lexeme} {xs : List A} → SpellsRow Spells t xs → (z : S) (after : List Lexeme) → ends (first after) ≡ true → loop (row_turn ends item add) z (t ++ after) ≡ Read (all_added add z xs) after
  row_whole row_ends z after e = row_end ends item add z after e
  row_whole (row_goes_on {t = t} {ts = ts} {x = x} {xs = xs} dx ds) z after e =
      let regroup : (t ++ ts) ++ after ≡ t ++ (ts ++ after) = append_assoc t ts after in
      rw regroup (row_goes ends item add Spells (SpellsRow Spells) row_ends (λ t ts x xs dx ds. row_goes_on dx ds) some r z x (t ++ (ts ++ after)) (ts ++ after) (begins t x (ts ++ after) dx) (whole t x (ts ++ after) dx)
      ∙ row_whole ds (add z x) after e)
