-- What the cursor's own tests say of the steps.
use Rattle.std.proofs.Common.{◌≡◌, ℕ, Bool, true, false, List, [], ◌∷◌, Option, Some, None, refl, sym, ◌∙◌, ap}
use Rattle.std.specs.Prelude.{option_map, is_some}
use Rattle.kom_text.specs.declared.token.TokenKind.{TokenKind}
use Rattle.kom_text.specs.declared.token.TokenKind.TheVariants.{Word}
use Rattle.kom_system.specs.declared.parts.Spot.{Spot}
use Rattle.kom_parse.specs.declared.numeral.Numeral.{Numeral}
use Rattle.kom_parse.specs.declared.numeral.WordAt.{WordAt}
use Rattle.kom_parse.specs.Lexemes.{Lexeme}
use Rattle.kom_parse.specs.Input.{Read, Refuse, first, rest, want, eat_if, may}
use Rattle.kom_parse.specs.Rules.{is_kind, any, spot_of, exactly_in, is_exactly, name_in, number_in, exactly, name, number, eat}

pub want_found : {A : Type 0} (accept : Option Lexeme → Option A) (a : A) (ts : List Lexeme) → accept (first ts) ≡ Some a → want accept ts ≡ Read a (rest ts)
unfolding want
want_found accept a ts e = rw e refl

pub want_missing : {A : Type 0} (accept : Option Lexeme → Option A) (ts : List Lexeme) → accept (first ts) ≡ None → want accept ts ≡ Refuse ts
unfolding want
want_missing accept ts e = rw e refl

pub exactly_found : (kind : TokenKind) (bytes : List ℕ) (ts : List Lexeme) (at : ℕ) → exactly_in kind bytes (first ts) ≡ Some at → exactly kind bytes ts ≡ Read at (rest ts)
unfolding exactly
exactly_found kind bytes ts at e = want_found (exactly_in kind bytes) at ts e

pub exactly_missing : (kind : TokenKind) (bytes : List ℕ) (ts : List Lexeme) → exactly_in kind bytes (first ts) ≡ None → exactly kind bytes ts ≡ Refuse ts
unfolding exactly
exactly_missing kind bytes ts e = want_missing (exactly_in kind bytes) ts e

pub name_found : (test : List ℕ → Bool) (ts : List Lexeme) (n : Spot) → name_in test (first ts) ≡ Some n → name test ts ≡ Read n (rest ts)
unfolding name
name_found test ts n e = want_found (name_in test) n ts e

pub name_missing : (test : List ℕ → Bool) (ts : List Lexeme) → name_in test (first ts) ≡ None → name test ts ≡ Refuse ts
unfolding name
name_missing test ts e = want_missing (name_in test) ts e

pub word_found : (ts : List Lexeme) (w : WordAt) (o : Option WordAt) → o ≡ Some w → option_map spot_of o ≡ name_in any (first ts) → name any ts ≡ Read (spot_of w) (rest ts)
word_found ts w o is e = name_found any ts (spot_of w) (sym e ∙ ap (option_map spot_of) is)

pub word_missing : (ts : List Lexeme) (o : Option WordAt) → o ≡ None → option_map spot_of o ≡ name_in any (first ts) → name any ts ≡ Refuse ts
word_missing ts o is e = name_missing any ts (sym e ∙ ap (option_map spot_of) is)

-- a test that the next word passes, or does not
pub name_passes : (test : List ℕ → Bool) (ts : List Lexeme) (v : Spot) → name_in any (first ts) ≡ Some v → test v.name ≡ true → name test ts ≡ name any ts
unfolding name want
name_passes test [] v e h = absurd cc
name_passes test (l ∷ ts) v e h = by_case (is_kind l.kind Word) refl
  where
    by_case : (b : Bool) → is_kind l.kind Word ≡ b → name test (l ∷ ts) ≡ name any (l ∷ ts)
    by_case false k = rw k refl
    by_case true k =
        let is : record { name = l.bytes; at = l.at } ≡ v = let e' = rw k at e in cc in
        let n : l.bytes ≡ v.name = ap (λ (x : Spot). x.name) is in
        rw (k, n, h) refl

pub name_fails : (test : List ℕ → Bool) (ts : List Lexeme) (v : Spot) → name_in any (first ts) ≡ Some v → test v.name ≡ false → name test ts ≡ Refuse ts
unfolding name want
name_fails test [] v e h = absurd cc
name_fails test (l ∷ ts) v e h = by_case (is_kind l.kind Word) refl
  where
    by_case : (b : Bool) → is_kind l.kind Word ≡ b → name test (l ∷ ts) ≡ Refuse (l ∷ ts)
    by_case false k = rw k refl
    by_case true k =
        let is : record { name = l.bytes; at = l.at } ≡ v = let e' = rw k at e in cc in
        let n : l.bytes ≡ v.name = ap (λ (x : Spot). x.name) is in
        rw (k, n, h) refl

-- no word comes next, so no name does
pub name_absent : (test : List ℕ → Bool) (ts : List Lexeme) → name_in any (first ts) ≡ None → name test ts ≡ Refuse ts
unfolding name want
name_absent test [] e = refl
name_absent test (l ∷ ts) e = by_case (is_kind l.kind Word) refl
  where
    by_case : (b : Bool) → is_kind l.kind Word ≡ b → name test (l ∷ ts) ≡ Refuse (l ∷ ts)
    by_case false k = rw k refl
    by_case true k = absurd (let e' = rw k at e in cc)

pub number_found : (ts : List Lexeme) (n : Numeral) → number_in (first ts) ≡ Some n → number ts ≡ Read n (rest ts)
unfolding number
number_found ts n e = want_found number_in n ts e

pub number_missing : (ts : List Lexeme) → number_in (first ts) ≡ None → number ts ≡ Refuse ts
unfolding number
number_missing ts e = want_missing number_in ts e

pub eat_found : (kind : TokenKind) (bytes : List ℕ) (ts : List Lexeme) → is_exactly kind bytes (first ts) ≡ true → eat kind bytes ts ≡ Read true (rest ts)
unfolding eat eat_if
eat_found kind bytes ts e = rw e refl

pub eat_missing : (kind : TokenKind) (bytes : List ℕ) (ts : List Lexeme) → is_exactly kind bytes (first ts) ≡ false → eat kind bytes ts ≡ Read false ts
unfolding eat eat_if
eat_missing kind bytes ts e = rw e refl

pub may_found : {A : Type 0} (accept : Option Lexeme → Option A) (ts : List Lexeme) → is_some (accept (first ts)) ≡ true → may accept ts ≡ Read (accept (first ts)) (rest ts)
unfolding may
may_found accept ts e = rw e refl

pub may_missing : {A : Type 0} (accept : Option Lexeme → Option A) (ts : List Lexeme) → is_some (accept (first ts)) ≡ false → may accept ts ≡ Read (accept (first ts)) ts
unfolding may
may_missing accept ts e = rw e refl
