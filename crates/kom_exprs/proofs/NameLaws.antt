-- Names, which are no reserved words.
use Rattle.std.proofs.Common.{◌≡◌, ℕ, Bool, true, false, List, [], ◌∷◌, ◌++◌, refl, sym, ◌∙◌, ap}
use Rattle.std.specs.Prelude.{bytes_eq}
use Rattle.kom_system.specs.declared.parts.Spot.{Spot}
use Rattle.kom_parse.specs.Lexemes.{Lexeme}
use Rattle.kom_parse.specs.Input.{Read, Parser, ◌>>=◌}
use Rattle.kom_parse.specs.Rules.{name}
use Rattle.kom_parse.specs.Spelled.{SpellsName as SpellsWord, named}
use Rattle.kom_parse.proofs.Laws.{IsReader, bind, wider}
use Rattle.kom_parse.proofs.Tokens.{bytes_is, name_reader as word_reader, name_reads}
use Rattle.kom_grammar.specs.Words.{is_name, SpellsName, name as spells_name}

from_word : {t : List Lexeme} {n : Spot} → SpellsWord is_name t n → SpellsName t n
from_word (named {a = a} h) = spells_name a h

pub name_reader : IsReader (name is_name) SpellsName
name_reader = wider (SpellsWord is_name) SpellsName (word_reader is_name (120 ∷ []) refl) (λ t n d. from_word d)

-- a name, and then what follows it
pub name_and : {B : Type 0} (q : Spot → Parser B) (L : List Lexeme → B → Type 0)
    → ((n : Spot) (t : List Lexeme) → SpellsName t n → IsReader (q n) (λ u b. L (t ++ u) b)) → IsReader (name is_name >>= q) L
name_and q L r = bind (name is_name) q SpellsName L name_reader r

pub name_whole : {t : List Lexeme} {n : Spot} → SpellsName t n → (after : List Lexeme) → name is_name (t ++ after) ≡ Read n after
name_whole (spells_name {bytes = w} a h) after = name_reads is_name w a after h

pub no_keyword : (n w : List ℕ) → is_name n ≡ true → is_name w ≡ false → bytes_eq n w ≡ false
no_keyword n w h h' = by_case (bytes_eq n w) refl where
  by_case : (b : Bool) → bytes_eq n w ≡ b → bytes_eq n w ≡ false
  by_case false e = e
  by_case true e = absurd (let both : true ≡ false = sym h ∙ ap is_name (bytes_is n w e) ∙ h' in cc)
