-- A text has one answer.
use Rattle.std.proofs.Common.{◌≡◌, ℕ, suc, zero, List, [], ◌∷◌, length, take, min, Option, Some, None, refl, sym, ◌∙◌, ap, arith}
use Rattle.kom_text.specs.Places.{line_of, column_of}
use Rattle.kom_files.specs.Files.{Breaks, IsTreeOf}
use Rattle.kom_files.proofs.Once as once
use Rattle.kom_system.specs.Contents.{Contents}
use Rattle.kom_scengram.specs.declared.parts.ScenarioParts.{ScenarioParts}
use Rattle.kom_scengram.specs.Grammar.{SpellsFile}
use Rattle.kom_scengram.specs.Reading.{header_break, file}
use Rattle.kom_scengram.proofs.Readers.{file_reader}
use Rattle.kom_scengram.proofs.Whole.{file_whole, file_headed}
use Rattle.kom_scenario.specs.declared.tree.Scene.{Scene}
use Rattle.kom_scenario.specs.declared.read.ScenarioRead.{ScenarioRead}
use Rattle.kom_scenario.specs.declared.read.ScenarioRead.TheVariants as answer
use Rattle.kom_scenario.specs.Scenes.{scene_of}
use Rattle.kom_scenario.specs.Rules.{broken}
use Rattle.kom_scenario.specs.Answers.{IsScenario, BreaksRule, in_the_text, in_the_tree, IsAnswer, Gives, Refuses}

-- ---- a place beyond the end is that of the end

take_within : (xs : List ℕ) (n : ℕ) → take (min n (length xs)) xs ≡ take n xs
take_within [] zero = refl
take_within [] (suc n) = let e : min (suc n) 0 ≡ 0 = omega arith in rw e refl
take_within (x ∷ xs) zero = let e : min 0 (length (x ∷ xs)) ≡ 0 = omega arith in rw e refl
take_within (x ∷ xs) (suc n) = let e : min (suc n) (length (x ∷ xs)) ≡ suc (min n (length xs)) = omega arith in rw e (ap (λ r. x ∷ r) (take_within xs n))

pub line_within : (text : List ℕ) (at : ℕ) → line_of text (min at (length text)) ≡ line_of text at
line_within text at = rw (take_within text at) refl

pub column_within : (text : List ℕ) (at : ℕ) → column_of text (min at (length text)) ≡ column_of text at
column_within text at = rw (take_within text at) refl

-- ---- one answer

never : (x : ℕ × ℕ) (o : Option (ℕ × ℕ)) → o ≡ Some x → o ≡ None → ⊥
never x None e e' = let both : None ≡ Some x = e in cc
never x (Some y) e e' = let both : Some y ≡ None = e' in cc

same_pair : (x y : ℕ × ℕ) (o : Option (ℕ × ℕ)) → o ≡ Some x → o ≡ Some y → x ≡ y
same_pair x y o e e' = cc

module _ (c : Contents) (text : List ℕ) where
  one_tree : {t t' : ScenarioParts} → IsTreeOf SpellsFile text t → IsTreeOf SpellsFile text t' → t ≡ t'
  one_tree = once.tree_once text file SpellsFile header_break file_reader file_whole file_headed

  no_tree : {rule at : ℕ} {t : ScenarioParts} → Breaks SpellsFile header_break text rule at → IsTreeOf SpellsFile text t → ⊥
  no_tree = once.breaks_no_tree text file SpellsFile header_break file_reader file_whole file_headed

  one_break : {rule at rule' at' : ℕ} → Breaks SpellsFile header_break text rule at → Breaks SpellsFile header_break text rule' at' → (rule ≡ rule') × (at ≡ at')
  one_break = once.breaks_once text file SpellsFile header_break file_reader file_whole file_headed

  pub one_value : (z z' : Scene) → IsScenario c text z → IsScenario c text z' → z ≡ z'
  one_value z z' d d' = d.value ∙ ap (scene_of c) (one_tree d.spelled d'.spelled) ∙ sym d'.value

  pub not_both : (rule at : ℕ) (z : Scene) → BreaksRule c text rule at → IsScenario c text z → ⊥
  not_both rule at z (in_the_text r a b) d = no_tree b d.spelled
  not_both rule at z (in_the_tree r a t d' e) d =
      never (r, a) (broken c t) e (ap (broken c) (one_tree d' d.spelled) ∙ d.unbroken)

  pub one_rule : {rule at rule' at' : ℕ} → BreaksRule c text rule at → BreaksRule c text rule' at' → (rule ≡ rule') × (at ≡ at')
  one_rule (in_the_text r a b) (in_the_text r' a' b') = one_break b b'
  one_rule (in_the_text r a b) (in_the_tree r' a' t d e) = absurd (no_tree b d)
  one_rule (in_the_tree r a t d e) (in_the_text r' a' b) = absurd (no_tree b d)
  one_rule (in_the_tree r a t d e) (in_the_tree r' a' t' d' e') =
      let pair = same_pair (r, a) (r', a') (broken c t) e (ap (broken c) (one_tree d d') ∙ e') in
      (ap (λ (p : ℕ × ℕ). p.0) pair, ap (λ (p : ℕ × ℕ). p.1) pair)

  -- ---- so what is answered is all

  pub gives_all : (result : ScenarioRead) (z : Scene) → IsAnswer c text result → IsScenario c text z → Gives result z
  gives_all (answer.Scenario found) z d d' = one_value found z d d'
  gives_all (answer.Refused rule line column) z r d = not_both rule r.at z r.breaks d
  gives_all answer.Memory z u d = tt

  pub refuses_all : (result : ScenarioRead) (rule at : ℕ) → IsAnswer c text result → BreaksRule c text rule at → Refuses result rule (line_of text at) (column_of text at)
  refuses_all (answer.Scenario found) rule at d b = not_both rule at found b d
  refuses_all (answer.Refused r line column) rule at f b =
      let same = one_rule f.breaks b in
      (same.0, f.line_is ∙ ap (line_of text) (same.1), f.column_is ∙ ap (column_of text) (same.1))
  refuses_all answer.Memory rule at u b = tt
