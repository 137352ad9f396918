-- What the reader of a rule answers, in the words of the grammar.
use Rattle.std.specs.Prelude.{◌≡◌, List, [], ◌∷◌, ◌++◌, Result, Ok, Err}
use Rattle.kom_parse.specs.declared.stop.Stop.{Stop}
use Rattle.kom_parse.specs.declared.stop.Stop.TheVariants.{Refused, Memory}
use Rattle.kom_parse.specs.Lexemes.{Lexeme}
use Rattle.kom_parse.specs.Spelled.{Begins}

module _ {A : Type 0} (Spells : List Lexeme → A → Type 0) where
  -- the tokens up to the rest spell the value
  pub record IsRead (tokens : List Lexeme) (x : A) (rest : List Lexeme) : Type 0 where
    pub text : List Lexeme
    pub split : tokens ≡ text ++ rest
    pub spells : Spells text x

  -- the tokens up to the rest begin something that the rule has; with the first of the rest they
  -- begin nothing, and where there is no rest they are nothing whole
  pub record IsRefused (tokens rest : List Lexeme) : Type 0 where
    pub text : List Lexeme
    pub split : tokens ≡ text ++ rest
    pub begins : Begins Spells text
    pub no_further : (token : Lexeme) (more : List Lexeme) → rest ≡ token ∷ more → Begins Spells (text ++ token ∷ []) → ⊥
    pub no_end : rest ≡ [] → (x : A) → Spells text x → ⊥

  abbrev pub IsAnswer : List Lexeme → Result A Stop → List Lexeme → Type 0
  IsAnswer tokens (Ok x) rest = IsRead tokens x rest
  IsAnswer tokens (Err Refused) rest = IsRefused tokens rest
  IsAnswer tokens (Err Memory) rest = Unit {0}
