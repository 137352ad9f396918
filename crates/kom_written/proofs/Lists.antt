-- Lists of what tokens spell are spelled again.
use Rattle.std.proofs.Common.{ℕ, List, [], ◌∷◌, map, refl, ap, ◌∙◌}
use Rattle.std.specs.Prelude.{codes}
use Rattle.kom_parse.specs.Lexemes.{Lexeme}
use Rattle.kom_parse.specs.Spelled.{SpellsMore, no_more, one_more, SpellsList, empty, items}
use Rattle.kom_spaced.specs.Spaced.{Written}
use Rattle.kom_written.specs.Tokens.{sign, more, with_commas}
use Rattle.kom_written.specs.Again.{AreSound, IsAgain}
use Rattle.kom_written.proofs.Steps.{behind, placed-append, stand-append, sound-left, sound-right}

module _ {A : Type 0} (Spells : List Lexeme → A → Type 0) (same : A → A) (f : A → List Written) (item : (t : List Lexeme) (x : A) → Spells t x → AreSound t → IsAgain Spells same (f x) x) where
  more_again : {t : List Lexeme} {xs : List A} → SpellsMore Spells t xs → AreSound t → IsAgain (SpellsMore Spells) (map same) (more (sign (codes ",")) f xs) xs
  more_again no_more sound = record { stand = refl; spell = λ at. ([], no_more, refl) }
  more_again (one_more {t = t} {ts = ts} {x = x} {xs = xs} d ds) sound =
      let h = item t x d (sound-left t ts sound.1) in
      let k = more_again ds (sound-right t ts sound.1) in
      record {
        stand = stand-append (f x) (more (sign (codes ",")) f xs) h.stand k.stand;
        spell = λ at. (
            let q : ℕ = behind at (sign (codes ",") ∷ []) in
            let r = h.spell q in
            let r' = k.spell (behind q (f x)) in
            (r.0 ∷ r'.0, rw (placed-append q (f x) (more (sign (codes ",")) f xs)) (one_more r.1 r'.1), ap (λ z. z ∷ map same r'.0) r.2 ∙ ap (λ zs. same x ∷ zs) r'.2));
      }

  pub list_again : {t : List Lexeme} {xs : List A} → SpellsList Spells t xs → AreSound t → IsAgain (SpellsList Spells) (map same) (with_commas f xs) xs
  list_again empty sound = record { stand = refl; spell = λ at. ([], empty, refl) }
  list_again (items {t = t} {ts = ts} {x = x} {xs = xs} d ds) sound =
      let h = item t x d (sound-left t ts sound) in
      let k = more_again ds (sound-right t ts sound) in
      record {
        stand = stand-append (f x) (more (sign (codes ",")) f xs) h.stand k.stand;
        spell = λ at. (
            let r = h.spell at in
            let r' = k.spell (behind at (f x)) in
            (r.0 ∷ r'.0, rw (placed-append at (f x) (more (sign (codes ",")) f xs)) (items r.1 r'.1), ap (λ z. z ∷ map same r'.0) r.2 ∙ ap (λ zs. same x ∷ zs) r'.2));
      }
