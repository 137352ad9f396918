-- What a rule reads from, and the steps that every rule is made of.
use Rattle.std.specs.Prelude.{◌≡◌, ℕ, zero, suc, Bool, true, false, List, [], ◌∷◌, length, Option, Some, None, is_some, Result, Ok, Err, if◌then◌else◌}
use Rattle.kom_parse.specs.Lexemes.{Lexeme}
use Rattle.kom_parse.specs.declared.stop.Stop.{Stop}
use Rattle.kom_parse.specs.declared.stop.Stop.TheVariants.{Refused}

-- A value and the tokens after it, or the tokens from the refused one on.
pub data Outcome (A : Type 0) : Type 0 where
  Read : A → List Lexeme → Outcome A
  Refuse : List Lexeme → Outcome A

abbrev pub Parser : Type 0 → Type 0
Parser A = List Lexeme → Outcome A

abbrev pub and_then : {A B : Type 0} → Outcome A → (A → Parser B) → Outcome B
and_then (Read a ts) f = f a ts
and_then (Refuse ts) f = Refuse ts

infixl 10 ◌>>=◌
abbrev pub ◌>>=◌ : {A B : Type 0} → Parser A → (A → Parser B) → Parser B
p >>= f = λ ts. and_then (p ts) f

infixl 10 ◌>>◌
abbrev pub ◌>>◌ : {A B : Type 0} → Parser A → Parser B → Parser B
p >> q = p >>= (λ _. q)

abbrev pub pure : {A : Type 0} → A → Parser A
pure a = λ ts. Read a ts

abbrev pub refuse : {A : Type 0} → Parser A
refuse = λ ts. Refuse ts

abbrev pub first : List Lexeme → Option Lexeme
first [] = None
first (t ∷ ts) = Some t

abbrev pub rest : List Lexeme → List Lexeme
rest [] = []
rest (t ∷ ts) = ts

-- what the next token leads to
abbrev pub by_next : {A : Type 0} → (Option Lexeme → Parser A) → Parser A
by_next f = λ ts. f (first ts) ts

-- the token that was looked at
abbrev pub skip : Parser (Unit {0})
skip = λ ts. Read tt (rest ts)

abbrev pub taken : {A : Type 0} → Option A → Parser A
taken None = refuse
taken (Some a) = skip >> pure a

-- the next token, if it is one of those that are wanted
unfoldable pub want : {A : Type 0} → (Option Lexeme → Option A) → Parser A
want accept = λ ts. taken (accept (first ts)) ts

-- takes the next token, if it passes the test, and says whether it did
unfoldable pub eat_if : (Option Lexeme → Bool) → Parser Bool
eat_if test = λ ts. Read (test (first ts)) (if test (first ts) then rest ts else ts)

-- takes the next token, if it is one of those that may come, and says which
unfoldable pub may : {A : Type 0} → (Option Lexeme → Option A) → Parser (Option A)
may accept = λ ts. Read (accept (first ts)) (if is_some (accept (first ts)) then rest ts else ts)

-- turns from a state to the next, until one says that it is the last
abbrev pub turns_from : {A : Type 0} → (A → Parser (Option A)) → (A → Parser A) → A → Option A → Parser A
turns_from turn more a None = pure a
turns_from turn more a (Some b) = more b

unfoldable pub turns : {A : Type 0} → (A → Parser (Option A)) → ℕ → A → Parser A
turns turn zero a = refuse
turns turn (suc n) a = turn a >>= turns_from turn (turns turn n) a

-- each turn takes a token, so there are fewer turns than tokens
unfoldable pub loop : {A : Type 0} → (A → Parser (Option A)) → A → Parser A
loop turn a = λ ts. turns turn (suc (length ts)) a ts

-- What a function returned, and what it left to read, is this outcome, unless memory ran out.
abbrev pub Reads : {A : Type 0} → Outcome A → Result A Stop → List Lexeme → Type 0
Reads outcome (Ok a) new = outcome ≡ Read a new
Reads outcome (Err e) new = e ≡ Refused → outcome ≡ Refuse new

-- The same for a rule that counts operators: k is how many may still come.
abbrev pub ReadsWithin : {A : Type 0} → Outcome (A × ℕ) → Result A Stop → ℕ → List Lexeme → Type 0
ReadsWithin outcome (Ok a) k new = outcome ≡ Read (a, k) new
ReadsWithin outcome (Err e) k new = e ≡ Refused → outcome ≡ Refuse new

-- The same for a turn, which says whether it went on from the old state.
abbrev pub ReadsTurn : {A : Type 0} → Outcome (Option (A × ℕ)) → A × ℕ → Result (A × Bool) Stop → ℕ → List Lexeme → Type 0
ReadsTurn outcome old (Ok (a, true)) k new = outcome ≡ Read (Some (a, k)) new
ReadsTurn outcome old (Ok (a, false)) k new = (outcome ≡ Read None new) × (old ≡ (a, k))
ReadsTurn outcome old (Err e) k new = e ≡ Refused → outcome ≡ Refuse new
