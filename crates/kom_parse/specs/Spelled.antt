-- What tokens spell, in no order of reading: words of every grammar.
use Rattle.std.specs.Prelude.{◌≡◌, ℕ, pos, suc, ◌≤◌, ◌<◌, Bool, true, List, [], ◌∷◌, ◌++◌, length, take, codes}
use Rattle.kom_text.specs.Numbers.{decimal}
use Rattle.kom_system.specs.declared.parts.Spot.{Spot}
use Rattle.kom_parse.specs.declared.numeral.Numeral.{Numeral}
use Rattle.kom_parse.specs.Lexemes.{Lexeme, word_lexeme, sign_lexeme, number_lexeme}

-- items, each with a comma before it; `Spells` says what spells an item
pub data SpellsMore {A : Type 0} (Spells : List Lexeme → A → Type 0) : List Lexeme → List A → Type 0 where
  no_more : SpellsMore Spells [] []
  one_more : {a : ℕ} {t ts : List Lexeme} {x : A} {xs : List A} → Spells t x → SpellsMore Spells ts xs → SpellsMore Spells (sign_lexeme (codes ",") a ∷ (t ++ ts)) (x ∷ xs)

-- a list: empty, or items with commas between them
pub data SpellsList {A : Type 0} (Spells : List Lexeme → A → Type 0) : List Lexeme → List A → Type 0 where
  empty : SpellsList Spells [] []
  items : {t ts : List Lexeme} {x : A} {xs : List A} → Spells t x → SpellsMore Spells ts xs → SpellsList Spells (t ++ ts) (x ∷ xs)

-- a list in parentheses
pub data SpellsParens {A : Type 0} (Spells : List Lexeme → A → Type 0) : List Lexeme → List A → Type 0 where
  parens : (a b : ℕ) {t : List Lexeme} {xs : List A} → SpellsList Spells t xs → SpellsParens Spells (sign_lexeme (codes "(") a ∷ (t ++ sign_lexeme (codes ")") b ∷ [])) xs

-- items in a row, with nothing between them
pub data SpellsRow {A : Type 0} (Spells : List Lexeme → A → Type 0) : List Lexeme → List A → Type 0 where
  end : SpellsRow Spells [] []
  next : {t ts : List Lexeme} {x : A} {xs : List A} → Spells t x → SpellsRow Spells ts xs → SpellsRow Spells (t ++ ts) (x ∷ xs)

-- a word that passes the test, with its place
pub data SpellsName (test : List ℕ → Bool) : List Lexeme → Spot → Type 0 where
  named : {w : List ℕ} {a : ℕ} → test w ≡ true → SpellsName test (word_lexeme w a ∷ []) (record { name = w; at = a })

-- a number's value, with its place
pub data SpellsNumber : List Lexeme → Numeral → Type 0 where
  numbered : {ds : List ℕ} {a : ℕ} → SpellsNumber (number_lexeme ds a ∷ []) (record { value = pos (decimal ds); at = a })

-- ---- where tokens leave a grammar

module _ {A : Type 0} (Spells : List Lexeme → A → Type 0) where
  -- the first tokens of something that the grammar has
  abbrev pub Begins : List Lexeme → Type 0
  Begins front = (more : List Lexeme) × (x : A) × Spells (front ++ more) x

  -- The first token at which nothing of the grammar goes on so; at the end, where more is wanted.
  pub record IsBrokenAt (tokens : List Lexeme) (k : ℕ) : Type 0 where
    pub within : k ≤ length tokens
    pub begins : Begins (take k tokens)
    pub no_further : k < length tokens → Begins (take (suc k) tokens) → ⊥
    pub no_end : k ≡ length tokens → (x : A) → Spells tokens x → ⊥
