-- A text has one answer.
use Rattle.std.proofs.Common.{◌≡◌, ◌≤◌, true, false, ℕ, suc, zero, List, [], ◌∷◌, length, take, min, Option, Some, None, refl, sym, ◌∙◌, ap, arith}
use Rattle.kom_text.specs.Places.{line_of, column_of}
use Rattle.kom_system.specs.Contents.{Contents}
use Rattle.kom_system.specs.declared.parts.Parts.{Parts}
use Rattle.kom_rules.specs.Broken.{Break, broken_rule}
use Rattle.kom_parse.specs.Lexemes.{Lexeme}
use Rattle.kom_grammar.specs.Files.{SpellsFile, file}
use Rattle.kom_sysread.specs.Answers.{Breaks, IsTreeOf}
use Rattle.kom_sysread.proofs.Once.{tree_once, breaks_no_tree, breaks_once}
use Rattle.kom_resolve.specs.Resolved.{resolved}
use Rattle.kom_sysfile.specs.declared.text.SystemRead.{SystemRead}
use Rattle.kom_sysfile.specs.declared.text.SystemRead.TheVariants as answer
use Rattle.kom_sysfile.specs.Answers.{IsSystem, BreaksRule, in_the_text, in_the_tree, IsAnswer, Gives, Refuses}

-- ---- a place beyond the end is that of the end

take_within : (xs : List ℕ) (n : ℕ) → take (min n (length xs)) xs ≡ take n xs
take_within [] zero = refl
take_within [] (suc n) = let e : min (suc n) 0 ≡ 0 = omega arith in rw e refl
take_within (x ∷ xs) zero = let e : min 0 (length (x ∷ xs)) ≡ 0 = omega arith in rw e refl
take_within (x ∷ xs) (suc n) = let e : min (suc n) (length (x ∷ xs)) ≡ suc (min n (length xs)) = omega arith in rw e (ap (λ r. x ∷ r) (take_within xs n))

pub line_within : (text : List ℕ) (at : ℕ) → line_of text (min at (length text)) ≡ line_of text at
line_within text at = rw (take_within text at) refl

pub column_within : (text : List ℕ) (at : ℕ) → column_of text (min at (length text)) ≡ column_of text at
column_within text at = rw (take_within text at) refl

-- ---- a file has a version

spelled_version : {end : ℕ} {ts : List Lexeme} {tree : Parts} → SpellsFile end ts tree → (1 ≤ tree.version) × (tree.version ≤ 2)
spelled_version (file a b c false r) = (omega arith, omega arith)
spelled_version (file a b c true r) = (omega arith, omega arith)

pub has_version : (text : List ℕ) (tree : Parts) → IsTreeOf text tree → (1 ≤ tree.version) × (tree.version ≤ 2)
has_version text tree d = spelled_version d.spells

-- ---- one answer

never : (x : Break) (o : Option Break) → o ≡ Some x → o ≡ None → ⊥
never x None e e' = let both : None ≡ Some x = e in cc
never x (Some y) e e' = let both : Some y ≡ None = e' in cc

same_break : (x y : Break) (o : Option Break) → o ≡ Some x → o ≡ Some y → x ≡ y
same_break x y o e e' = cc

module _ (text : List ℕ) where
  pub one_value : (s s' : Contents) → IsSystem text s → IsSystem text s' → s ≡ s'
  one_value s s' d d' = d.value ∙ ap resolved (tree_once text d.spelled d'.spelled) ∙ sym d'.value

  pub not_both : (rule at : ℕ) (s : Contents) → BreaksRule text rule at → IsSystem text s → ⊥
  not_both rule at s (in_the_text r a b) d = breaks_no_tree text b d.spelled
  not_both rule at s (in_the_tree r a t d' e) d =
      never (record { number = r; at = a }) (broken_rule t) e (ap broken_rule (tree_once text d' d.spelled) ∙ d.unbroken)

  pub one_rule : {rule at rule' at' : ℕ} → BreaksRule text rule at → BreaksRule text rule' at' → (rule ≡ rule') × (at ≡ at')
  one_rule (in_the_text r a b) (in_the_text r' a' b') = breaks_once text b b'
  one_rule (in_the_text r a b) (in_the_tree r' a' t d e) = absurd (breaks_no_tree text b d)
  one_rule (in_the_tree r a t d e) (in_the_text r' a' b) = absurd (breaks_no_tree text b d)
  one_rule (in_the_tree r a t d e) (in_the_tree r' a' t' d' e') =
      let same = same_break (record { number = r; at = a }) (record { number = r'; at = a' }) (broken_rule t) e (ap broken_rule (tree_once text d d') ∙ e') in
      (ap (λ (b : Break). b.number) same, ap (λ (b : Break). b.at) same)

-- ---- so what is answered is all

pub gives_all : (text : List ℕ) (result : SystemRead) (s : Contents) → IsAnswer text result → IsSystem text s → Gives result s
gives_all text (answer.System found) s d d' = one_value text found s d d'
gives_all text (answer.Refused rule line column) s r d = not_both text rule r.at s r.breaks d
gives_all text answer.Memory s u d = tt

pub refuses_all : (text : List ℕ) (result : SystemRead) (rule at : ℕ) → IsAnswer text result → BreaksRule text rule at → Refuses result rule (line_of text at) (column_of text at)
refuses_all text (answer.System found) rule at d b = not_both text rule at found b d
refuses_all text (answer.Refused r line column) rule at f b =
    let same = one_rule text f.breaks b in
    (same.0, f.line_is ∙ ap (line_of text) (same.1), f.column_is ∙ ap (column_of text) (same.1))
refuses_all text answer.Memory rule at u b = tt
