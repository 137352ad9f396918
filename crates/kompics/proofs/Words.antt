-- Laws of words.
use Rattle.std.proofs.Common.{◌≡◌, ◌≢◌, ◌≤◌, ◌⊎◌, ◌∙◌, ap, ◌∷◌, ℕ, List, [], Some, length, refl, arith, inl, inr}
use Rattle.std.specs.Prelude.{slice_get, codes, decimal}
use Rattle.kompics.specs.declared.command.Form.{Form}
use Rattle.kompics.specs.declared.command.Form.TheVariants.{AsItIs, Upgraded}
use Rattle.kompics.specs.Words.{print, sim, IsNoCommand, IsNoRun}

-- a list of three
pub three : {X : Type 0} (xs : List X) (a b c : X) → length xs ≡ 3 → slice_get xs 0 ≡ Some a → slice_get xs 1 ≡ Some b → slice_get xs 2 ≡ Some c → xs ≡ a ∷ b ∷ c ∷ []
three [] a b c n p q r = absurd (cc)
three (x ∷ []) a b c n p q r = absurd (cc)
three (x ∷ y ∷ []) a b c n p q r = absurd (cc)
three (x ∷ y ∷ z ∷ []) a b c n p q r = cc
three (x ∷ y ∷ z ∷ w ∷ xs) a b c n p q r = absurd (omega arith)

-- a list of four
pub four : {X : Type 0} (xs : List X) (a b c d : X) → length xs ≡ 4 → slice_get xs 0 ≡ Some a → slice_get xs 1 ≡ Some b → slice_get xs 2 ≡ Some c → slice_get xs 3 ≡ Some d
    → xs ≡ a ∷ b ∷ c ∷ d ∷ []
four [] a b c d n p q r s = absurd (cc)
four (x ∷ []) a b c d n p q r s = absurd (cc)
four (x ∷ y ∷ []) a b c d n p q r s = absurd (cc)
four (x ∷ y ∷ z ∷ []) a b c d n p q r s = absurd (cc)
four (x ∷ y ∷ z ∷ w ∷ []) a b c d n p q r s = cc
four (x ∷ y ∷ z ∷ w ∷ v ∷ xs) a b c d n p q r s = absurd (omega arith)

-- a list of two
pub two : {X : Type 0} (xs : List X) (a b : X) → length xs ≡ 2 → slice_get xs 0 ≡ Some a → slice_get xs 1 ≡ Some b → xs ≡ a ∷ b ∷ []
two [] a b n p q = absurd (cc)
two (x ∷ []) a b n p q = absurd (cc)
two (x ∷ y ∷ []) a b n p q = cc
two (x ∷ y ∷ z ∷ xs) a b n p q = absurd (omega arith)

-- ---- words that are no command

no_three : (a b x y z : List ℕ) → a ∷ b ∷ [] ≡ x ∷ y ∷ z ∷ [] → ⊥
no_three a b x y z h = cc

no_two : (a b c x y : List ℕ) → a ∷ b ∷ c ∷ [] ≡ x ∷ y ∷ [] → ⊥
no_two a b c x y h = cc

either_not : {A B : Type 0} → (A → ⊥) → (B → ⊥) → A ⊎ B → ⊥
either_not f g (inl a) = f a
either_not f g (inr b) = g b

three_is_not_print : (a b c : List ℕ) (form : Form) (s : List ℕ) → a ∷ b ∷ c ∷ [] ≡ print form s → ⊥
three_is_not_print a b c AsItIs s h = cc
three_is_not_print a b c Upgraded s h = cc

two_words : (form : Form) (s : List ℕ) → length (print form s) ≡ 2
two_words AsItIs s = refl
two_words Upgraded s = refl

first_word : (form : Form) (s : List ℕ) (words : List (List ℕ)) (a b : List ℕ) → words ≡ print form s → words ≡ a ∷ b ∷ [] → (a ≡ codes "check") ⊎ (a ≡ codes "upgrade")
first_word AsItIs s words a b h e = inl cc
first_word Upgraded s words a b h e = inr cc

not_print : (form : Form) (s : List ℕ) (words : List (List ℕ)) → length words ≢ 2 → words ≢ print form s
not_print form s words e h = e (ap length h ∙ two_words form s)

pub of_another_length : (words : List (List ℕ)) → length words ≢ 2 → length words ≢ 3 → IsNoCommand words
of_another_length words d e = record {
  no_print = λ form s h. not_print form s words d h;
  no_sim = λ s z h. e (ap length h);
  no_system = λ n some most h. e (ap length h);
  no_scenario = λ n some most h. e (ap length h);
  no_drill = λ n some most h. d (ap length h);
}

pub head_is : (a b : List ℕ) (xs ys : List (List ℕ)) → a ∷ xs ≡ b ∷ ys → a ≡ b
head_is a b xs ys e = cc

pub second_is : (a b c d : List ℕ) (xs ys : List (List ℕ)) → a ∷ b ∷ xs ≡ c ∷ d ∷ ys → b ≡ d
second_is a b c d xs ys e = cc

pub third_is : (a b c d x y : List ℕ) → a ∷ b ∷ c ∷ [] ≡ d ∷ x ∷ y ∷ [] → c ≡ y
third_is a b c d x y e = cc

pub no_pair : (a b : List ℕ) → a ≢ codes "check" → a ≢ codes "upgrade" → a ≢ codes "drill" → IsNoCommand (a ∷ b ∷ [])
no_pair a b f g d = record {
  no_print = λ form s h. either_not f g (first_word form s _ a b h refl);
  no_sim = λ s z h. no_three a b _ _ _ h;
  no_system = λ n some most h. no_three a b _ _ _ h;
  no_scenario = λ n some most h. no_three a b _ _ _ h;
  no_drill = λ n some most h. d (head_is a _ _ _ h);
}

first_is : (a b : ℕ) (xs ys : List ℕ) → a ∷ xs ≡ b ∷ ys → a ≡ b
first_is a b xs ys e = cc

pub drill_is_no_form : (codes "drill" ≡ codes "check") ⊎ (codes "drill" ≡ codes "upgrade") → ⊥
drill_is_no_form (inl e) = let h : 100 ≡ 99 = first_is 100 99 _ _ e in omega (arith, h)
drill_is_no_form (inr e) = cc

pub no_drill : (b : List ℕ) → ((n : ℕ) → 1 ≤ n → n ≤ 30 → b ≢ decimal n) → IsNoCommand (codes "drill" ∷ b ∷ [])
no_drill b f = record {
  no_print = λ form s h. drill_is_no_form (first_word form s _ (codes "drill") b h refl);
  no_sim = λ s z h. no_three (codes "drill") b _ _ _ h;
  no_system = λ n some most h. no_three (codes "drill") b _ _ _ h;
  no_scenario = λ n some most h. no_three (codes "drill") b _ _ _ h;
  no_drill = λ n some most h. f n some most (second_is _ b _ _ _ _ h);
}

pub no_command : (a b c : List ℕ) → a ≢ codes "sim" → a ≢ codes "make" → IsNoCommand (a ∷ b ∷ c ∷ [])
no_command a b c f g = record {
  no_print = λ form s h. three_is_not_print a b c form s h;
  no_sim = λ s z h. f (head_is a _ _ _ h);
  no_system = λ n some most h. g (head_is a _ _ _ h);
  no_scenario = λ n some most h. g (head_is a _ _ _ h);
  no_drill = λ n some most h. no_two a b c _ _ h;
}

pub no_sim : (b c s z : List ℕ) → codes "make" ∷ b ∷ c ∷ [] ≡ sim s z → ⊥
no_sim b c s z h = let e : codes "make" ≡ codes "sim" = head_is _ _ _ _ h in cc

pub no_number : (b c : List ℕ) → ((n : ℕ) → 1 ≤ n → n ≤ 30 → b ≢ decimal n) → IsNoCommand (codes "make" ∷ b ∷ c ∷ [])
no_number b c f = record {
  no_print = λ form s h. three_is_not_print _ b c form s h;
  no_sim = λ s z h. no_sim b c s z h;
  no_system = λ n some most h. f n some most (second_is _ b _ _ _ _ h);
  no_scenario = λ n some most h. f n some most (second_is _ b _ _ _ _ h);
  no_drill = λ n some most h. no_two (codes "make") b c _ _ h;
}

pub no_text : (b c : List ℕ) → c ≢ codes "system" → c ≢ codes "scenario" → IsNoCommand (codes "make" ∷ b ∷ c ∷ [])
no_text b c f g = record {
  no_print = λ form s h. three_is_not_print _ b c form s h;
  no_sim = λ s z h. no_sim b c s z h;
  no_system = λ n some most h. f (third_is _ _ c _ _ _ h);
  no_scenario = λ n some most h. g (third_is _ _ c _ _ _ h);
  no_drill = λ n some most h. no_two (codes "make") b c _ _ h;
}

-- ---- words that are no run with workers

fourth_is : (a b c d x y z w : List ℕ) → a ∷ b ∷ c ∷ d ∷ [] ≡ x ∷ y ∷ z ∷ w ∷ [] → d ≡ w
fourth_is a b c d x y z w e = cc

pub not_four : (words : List (List ℕ)) → length words ≢ 4 → IsNoRun words
not_four words e = λ s z n some most h. e (ap length h)

pub no_run : (a b c d : List ℕ) → a ≢ codes "run" → IsNoRun (a ∷ b ∷ c ∷ d ∷ [])
no_run a b c d f = λ s z n some most h. f (head_is a _ _ _ h)

pub no_workers : (b c d : List ℕ) → ((n : ℕ) → 1 ≤ n → n ≤ 64 → d ≢ decimal n) → IsNoRun (codes "run" ∷ b ∷ c ∷ d ∷ [])
no_workers b c d f = λ s z n some most h. f n some most (fourth_is _ _ _ d _ _ _ _ h)
