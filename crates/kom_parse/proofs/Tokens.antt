-- The steps of one token, as parts of rules.
use Rattle.std.proofs.Common.{◌≡◌, ℕ, pos, Bool, true, false, ◌&&◌, List, [], ◌∷◌, Option, Some, None, refl, sym, ap, ◌∙◌, subst}
use Rattle.std.specs.Prelude.{bytes_eq}
use Rattle.std.proofs.lemmas.Slice.Eq.{bytes_eq-Decides}
use Rattle.kom_text.specs.declared.token.TokenKind.{TokenKind}
use Rattle.kom_text.specs.declared.token.TokenKind.TheVariants.{Word, Number, Sign}
use Rattle.kom_text.specs.Numbers.{decimal}
use Rattle.kom_system.specs.declared.parts.Spot.{Spot}
use Rattle.kom_parse.specs.declared.numeral.Numeral.{Numeral}
use Rattle.kom_parse.specs.Lexemes.{Lexeme, word_lexeme, number_lexeme}
use Rattle.kom_parse.specs.Input.{Read, Parser, ◌>>=◌, first, want, eat_if, may}
use Rattle.kom_parse.specs.Rules.{is_kind, exactly_in, is_exactly, name_in, number_in, exactly, name, number, eat, by_bytes, word_among}
use Rattle.kom_parse.specs.Spelled.{SpellsName, named, SpellsNumber, numbered}
use Rattle.kom_parse.proofs.Laws.{IsReader, Wanted, want_reader, want_then, eat_then, may_then, wider}

pub kind_is : (a b : TokenKind) → is_kind a b ≡ true → a ≡ b
kind_is Word Word e = refl
kind_is Number Number e = refl
kind_is Sign Sign e = refl
kind_is _ _ e = absurd cc

kind_self : (a : TokenKind) → is_kind a a ≡ true
kind_self Word = refl
kind_self Number = refl
kind_self Sign = refl

pub bytes_self : (w : List ℕ) → bytes_eq w w ≡ true
bytes_self w = (bytes_eq-Decides w w).1 refl

pub bytes_is : (v w : List ℕ) → bytes_eq v w ≡ true → v ≡ w
bytes_is v w e = (bytes_eq-Decides v w).0 e

both : (a b : Bool) → (a && b) ≡ true → (a ≡ true) × (b ≡ true)
both true true e = (refl, refl)
both true false e = absurd cc
both false b e = absurd cc

abbrev pub lexeme_of : TokenKind → List ℕ → ℕ → Lexeme
lexeme_of kind bytes at = record { kind = kind; bytes = bytes; at = at }

-- ---- a token with these bytes

pub exactly_is : (k : TokenKind) (w : List ℕ) (l : Lexeme) (a : ℕ) → exactly_in k w (Some l) ≡ Some a → l ≡ lexeme_of k w a
exactly_is k w l a e = by_case (is_kind l.kind k && bytes_eq l.bytes w) refl where
  by_case : (b : Bool) → (is_kind l.kind k && bytes_eq l.bytes w) ≡ b → l ≡ lexeme_of k w a
  by_case false h = absurd (let e' = rw h at e in cc)
  by_case true h =
      let k' = both _ _ h in
      let at : l.at ≡ a = let e' = rw h at e in cc in
      let kind : l.kind ≡ k = kind_is l.kind k k'.0 in
      let bytes : l.bytes ≡ w = bytes_is l.bytes w k'.1 in
      rw (← kind, ← bytes, ← at) refl

pub is_exactly-is : (k : TokenKind) (w : List ℕ) (l : Lexeme) → is_exactly k w (Some l) ≡ true → l ≡ lexeme_of k w l.at
is_exactly-is k w l e = by_case (is_kind l.kind k && bytes_eq l.bytes w) refl where
  by_case : (b : Bool) → (is_kind l.kind k && bytes_eq l.bytes w) ≡ b → l ≡ lexeme_of k w l.at
  by_case true h = exactly_is k w l l.at (rw h refl)
  by_case false h = absurd (let e' = rw h at e in cc)

pub exactly_self : (k : TokenKind) (w : List ℕ) (a : ℕ) → exactly_in k w (Some (lexeme_of k w a)) ≡ Some a
exactly_self k w a = rw (kind_self, bytes_self) refl

pub exactly_reads : (k : TokenKind) (w : List ℕ) (a : ℕ) (after : List Lexeme) → exactly k w (lexeme_of k w a ∷ after) ≡ Read a after
unfolding exactly want
exactly_reads k w a after = rw (exactly_self k w a) refl

pub exactly_then : {B : Type 0} (k : TokenKind) (w : List ℕ) (q : ℕ → Parser B) (L : List Lexeme → B → Type 0)
    → ((a : ℕ) → IsReader (q a) (λ u b. L (lexeme_of k w a ∷ u) b)) → IsReader (exactly k w >>= q) L
unfolding exactly
exactly_then k w q L r = want_then (exactly_in k w) refl q L (lexeme_of k w 0) 0 (exactly_self k w 0)
    (λ l a e. subst (λ x. IsReader (q a) (λ u b. L (x ∷ u) b)) (sym (exactly_is k w l a e)) (r a))

pub eat_missing : (k : TokenKind) (w : List ℕ) (ts : List Lexeme) → is_exactly k w (first ts) ≡ false → eat k w ts ≡ Read false ts
unfolding eat eat_if
eat_missing k w ts e = rw e refl

pub eat_takes : (k : TokenKind) (w : List ℕ) (a : ℕ) (after : List Lexeme) → eat k w (lexeme_of k w a ∷ after) ≡ Read true after
unfolding eat eat_if
eat_takes k w a after = rw (exactly_self k w a) refl

pub eat_token_then : {B : Type 0} (k : TokenKind) (w : List ℕ) (q : Bool → Parser B) (L : List Lexeme → B → Type 0)
    → ((a : ℕ) → IsReader (q true) (λ u b. L (lexeme_of k w a ∷ u) b)) → IsReader (q false) L → IsReader (eat k w >>= q) L
unfolding eat
eat_token_then k w q L r r' = eat_then (is_exactly k w) refl q L (λ l e. by_case l (exactly_in k w (Some l)) refl e) r' where
  by_case : (l : Lexeme) (o : Option ℕ) → exactly_in k w (Some l) ≡ o → is_exactly k w (Some l) ≡ true → IsReader (q true) (λ u b. L (l ∷ u) b)
  by_case l (Some a) h e = subst (λ x. IsReader (q true) (λ u b. L (x ∷ u) b)) (sym (exactly_is k w l a h)) (r a)
  by_case l None h e = absurd (let e' = rw h at e in cc)

-- ---- names and numbers

pub name_is : (test : List ℕ → Bool) (l : Lexeme) (v : Spot) → name_in test (Some l) ≡ Some v → (l ≡ word_lexeme v.name v.at) × (test v.name ≡ true)
name_is test l v e = by_case (is_kind l.kind Word && test l.bytes) refl where
  by_case : (b : Bool) → (is_kind l.kind Word && test l.bytes) ≡ b → (l ≡ word_lexeme v.name v.at) × (test v.name ≡ true)
  by_case false h = absurd (let e' = rw h at e in cc)
  by_case true h =
      let k' = both _ _ h in
      let is : record { name = l.bytes; at = l.at } ≡ v = let e' = rw h at e in cc in
      let kind : l.kind ≡ Word = kind_is l.kind Word k'.0 in
      (rw (← is, ← kind) refl, rw (← is) k'.1)

pub name_reads : (test : List ℕ → Bool) (w : List ℕ) (a : ℕ) (after : List Lexeme) → test w ≡ true → name test (word_lexeme w a ∷ after) ≡ Read (record { name = w; at = a }) after
unfolding name want
name_reads test w a after h = rw h refl

-- `word` passes the test: some name does
module _ (test : List ℕ → Bool) (word : List ℕ) (passes : test word ≡ true) where
  pub name_then : {B : Type 0} (q : Spot → Parser B) (L : List Lexeme → B → Type 0)
      → ((v : Spot) → test v.name ≡ true → IsReader (q v) (λ u b. L (word_lexeme v.name v.at ∷ u) b)) → IsReader (name test >>= q) L
  unfolding name
  name_then q L r = want_then (name_in test) refl q L (word_lexeme word 0) (record { name = word; at = 0 }) (rw passes refl)
      (λ l v e. let k = name_is test l v e in subst (λ x. IsReader (q v) (λ u b. L (x ∷ u) b)) (sym k.0) (r v k.1))

  pub name_reader : IsReader (name test) (SpellsName test)
  unfolding name
  name_reader = wider (Wanted (name_in test)) (SpellsName test) (want_reader (name_in test) refl (word_lexeme word 0) (record { name = word; at = 0 }) (rw passes refl)) (λ t v w.
      let k = name_is test w.token v w.accepted in
      rw (w.is, k.0) (named k.1))

pub number_is : (l : Lexeme) (v : Numeral) → number_in (Some l) ≡ Some v → (l ≡ number_lexeme l.bytes v.at) × (pos (decimal l.bytes) ≡ v.value)
number_is l v e = by_case (is_kind l.kind Number) refl where
  by_case : (b : Bool) → is_kind l.kind Number ≡ b → (l ≡ number_lexeme l.bytes v.at) × (pos (decimal l.bytes) ≡ v.value)
  by_case false h = absurd (let e' = rw h at e in cc)
  by_case true h =
      let is : record { value = pos (decimal l.bytes); at = l.at } ≡ v = let e' = rw h at e in cc in
      let kind : l.kind ≡ Number = kind_is l.kind Number h in
      (rw (← is, ← kind) refl, rw (← is) refl)

pub number_reads : (ds : List ℕ) (a : ℕ) (after : List Lexeme) → number (number_lexeme ds a ∷ after) ≡ Read (record { value = pos (decimal ds); at = a }) after
unfolding number want
number_reads ds a after = refl

pub number_then : {B : Type 0} (q : Numeral → Parser B) (L : List Lexeme → B → Type 0) → ((ds : List ℕ) (a : ℕ) → IsReader (q (record { value = pos (decimal ds); at = a })) (λ u b. L (number_lexeme ds a ∷ u) b)) → IsReader (number >>= q) L
unfolding number
number_then q L r = want_then number_in refl q L (number_lexeme (48 ∷ []) 0) (record { value = pos 0; at = 0 }) refl
    (λ l n e. by_parts l n (number_is l n e)) where
      by_parts : (l : Lexeme) (n : Numeral) → (l ≡ number_lexeme l.bytes n.at) × (pos (decimal l.bytes) ≡ n.value) → IsReader (q n) (λ u b. L (l ∷ u) b)
      by_parts l n k =
          let made : record { value = pos (decimal l.bytes); at = n.at } ≡ n = ap (λ v. let z : Numeral = record { value = v; at = n.at } in z) k.1 in
          subst (λ m. IsReader (q m) (λ u b. L (l ∷ u) b)) made (subst (λ x. IsReader (q (record { value = pos (decimal l.bytes); at = n.at })) (λ u b. L (x ∷ u) b)) (sym k.0) (r l.bytes n.at))

pub number_reader : IsReader number SpellsNumber
unfolding number
number_reader = wider (Wanted number_in) SpellsNumber (want_reader number_in refl (number_lexeme (48 ∷ []) 0) (record { value = pos 0; at = 0 }) refl) (λ t n w.
    let k = number_is w.token n w.accepted in
    rw (w.is, k.0) (spelled w.token.bytes n k.1)) where
      spelled : (ds : List ℕ) (n : Numeral) → pos (decimal ds) ≡ n.value → SpellsNumber (number_lexeme ds n.at ∷ []) n
      spelled ds n e =
          let made : record { value = pos (decimal ds); at = n.at } ≡ n = ap (λ v. let z : Numeral = record { value = v; at = n.at } in z) e in
          subst (λ m. SpellsNumber (number_lexeme ds n.at ∷ []) m) made numbered

-- ---- words that stand for something

-- each stands with its word
abbrev pub AllSpelled : {A : Type 0} → (A → List ℕ) → List (List ℕ × A) → Type 0
AllSpelled word [] = Unit {0}
AllSpelled word (x ∷ xs) = (x.0 ≡ word x.1) × AllSpelled word xs

-- the bytes are the word that stands with what was found
pub by_bytes-is : {A : Type 0} (word : A → List ℕ) (bytes : List ℕ) (xs : List (List ℕ × A)) (a : A) → AllSpelled word xs → by_bytes bytes xs ≡ Some a → bytes ≡ word a
by_bytes-is word bytes [] a all e = absurd cc
by_bytes-is word bytes (x ∷ xs) a all e = by_case (bytes_eq bytes x.0) refl (by_bytes-is word bytes xs a (all.1)) where
  by_case : (t : Bool) → bytes_eq bytes x.0 ≡ t → (by_bytes bytes xs ≡ Some a → bytes ≡ word a) → bytes ≡ word a
  by_case true h k = let e' = rw h at e in let v : x.1 ≡ a = cc in bytes_is bytes x.0 h ∙ all.0 ∙ ap word v
  by_case false h k = k (rw h at e)

module _ {A : Type 0} (word : A → List ℕ) (words : List (List ℕ × A)) (all : AllSpelled word words) where
  pub word_among-is : (l : Lexeme) (a : A) → word_among words (Some l) ≡ Some a → (l ≡ word_lexeme (word a) l.at) × (by_bytes (word a) words ≡ Some a)
  word_among-is l a e = by_case (is_kind l.kind Word) refl where
    by_case : (b : Bool) → is_kind l.kind Word ≡ b → (l ≡ word_lexeme (word a) l.at) × (by_bytes (word a) words ≡ Some a)
    by_case false h = absurd (let e' = rw h at e in cc)
    by_case true h =
        let found : by_bytes l.bytes words ≡ Some a = rw h at e in
        let is : l.bytes ≡ word a = by_bytes-is word l.bytes words a all found in
        let kind : l.kind ≡ Word = kind_is l.kind Word h in
        (rw (← kind, ← is) refl, rw (← is) found)

  pub among_then : {B : Type 0} (q : Option A → Parser B) (L : List Lexeme → B → Type 0)
      → ((a : A) (at : ℕ) → by_bytes (word a) words ≡ Some a → IsReader (q (Some a)) (λ u b. L (word_lexeme (word a) at ∷ u) b)) → IsReader (q None) L → IsReader (may (word_among words) >>= q) L
  among_then q L some' none' = may_then (word_among words) refl q L
      (λ l a e. let k = word_among-is l a e in subst (λ x. IsReader (q (Some a)) (λ u b. L (x ∷ u) b)) (sym k.0) (some' a l.at k.1)) none'

  pub wanted_then : {B : Type 0} (q : A → Parser B) (L : List Lexeme → B → Type 0) (one : A) → by_bytes (word one) words ≡ Some one
      → ((a : A) (at : ℕ) → by_bytes (word a) words ≡ Some a → IsReader (q a) (λ u b. L (word_lexeme (word a) at ∷ u) b)) → IsReader (want (word_among words) >>= q) L
  wanted_then q L one e r = want_then (word_among words) refl q L (word_lexeme (word one) 0) one e
      (λ l a e'. let k = word_among-is l a e' in subst (λ x. IsReader (q a) (λ u b. L (x ∷ u) b)) (sym k.0) (r a l.at k.1))
