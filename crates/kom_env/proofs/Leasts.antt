-- The least of some numbers.
use Rattle.std.proofs.Common.{◌≡◌, ℕ, ◌<◌, ◌≤◌, Bool, true, false, cond, ltb, List, [], ◌∷◌, ◌++◌, Option, Some, None, ◌⊎◌, ⊎_elim, refl, sym, ap, ◌∙◌, subst, arith}
use Rattle.std.proofs.lemmas.Bool.{lt-ltb, le-ltb, ltb-false, ltb-true, cases_lt}
use Rattle.kom_base.specs.Lists.{least, lesser}
use Rattle.kom_env.specs.Outside.{earlier_of}
use Rattle.kom_env.proofs.Rising.{Each}

bound_step : (x y m : ℕ) (g : Option ℕ) → x ≤ y → ((z : ℕ) → g ≡ Some z → x ≤ z) → Some (lesser ltb y g) ≡ Some m → x ≤ m
bound_step x y m None hy hz e = let is : y ≡ m = cc in subst (λ k. x ≤ k) is hy
bound_step x y m (Some z) hy hz e = let is : cond (ltb z y) z y ≡ m = cc in subst (λ k. x ≤ k) is (pick (ltb z y))
  where
    pick : (b : Bool) → x ≤ cond b z y
    pick true = hz z refl
    pick false = hy

bound : (x : ℕ) (ys : List ℕ) → Each (λ y. x ≤ y) ys → (m : ℕ) → least ltb ys ≡ Some m → x ≤ m
bound x [] h m e = absurd (cc)
bound x (y ∷ ys) h m e = bound_step x y m (least ltb ys) h.0 (λ z n. bound x ys h.1 z n) e

-- the head is the least where no other is less
pub least_head : (x : ℕ) (xs : List ℕ) → Each (λ y. x ≤ y) xs → least ltb (x ∷ xs) ≡ Some x
least_head x xs h = ap Some (at (least ltb xs) refl)
  where
    at : (g : Option ℕ) → least ltb xs ≡ g → lesser ltb x (least ltb xs) ≡ x
    at None e = ap (lesser ltb x) e
    at (Some m) e = ap (lesser ltb x) e ∙ ap (λ b. cond b m x) (le-ltb m x (bound x xs h m e))

pub least_tail : (x : ℕ) (xs : List ℕ) (t : ℕ) → least ltb xs ≡ Some t → t ≤ x → least ltb (x ∷ xs) ≡ Some t
least_tail x xs t e h = ap (λ g. Some (lesser ltb x g)) e ∙ ap Some (⊎_elim (λ l. ap (λ b. cond b t x) (lt-ltb t x l)) (λ g. ap (λ b. cond b t x) (le-ltb t x g) ∙ omega arith) (cases_lt t x))

lesser_assoc : (x : ℕ) (p q : Option ℕ) → lesser ltb x (earlier_of p q) ≡ lesser ltb (lesser ltb x p) q
lesser_assoc x None q = refl
lesser_assoc x (Some a) None = refl
lesser_assoc x (Some a) (Some b) = ⊎_elim
    (λ ba. ⊎_elim
    (λ ax. three (lt-ltb b a ba) (lt-ltb a x ax) (lt-ltb b x (omega (arith, ba, ax))))
    (λ xa. ⊎_elim (λ bx. four (lt-ltb b a ba) (le-ltb a x xa) (lt-ltb b x bx)) (λ xb. five (lt-ltb b a ba) (le-ltb a x xa) (le-ltb b x xb)) (cases_lt b x))
    (cases_lt a x))
    (λ ab. ⊎_elim
    (λ ax. six (le-ltb b a ab) (lt-ltb a x ax))
    (λ xa. seven (le-ltb b a ab) (le-ltb a x xa) (le-ltb b x (omega (arith, ab, xa))))
    (cases_lt a x))
    (cases_lt b a)
  where
    -- both sides, by the tests b < a, a < x, b < x
    three : ltb b a ≡ true → ltb a x ≡ true → ltb b x ≡ true → lesser ltb x (earlier_of (Some a) (Some b)) ≡ lesser ltb (lesser ltb x (Some a)) (Some b)
    three ba ax bx = ap (λ c. lesser ltb x (Some (cond c b a))) ba ∙ ap (λ c. cond c b x) bx ∙ sym (ap (λ c. lesser ltb (cond c a x) (Some b)) ax ∙ ap (λ c. cond c b a) ba)

    four : ltb b a ≡ true → ltb a x ≡ false → ltb b x ≡ true → lesser ltb x (earlier_of (Some a) (Some b)) ≡ lesser ltb (lesser ltb x (Some a)) (Some b)
    four ba ax bx = ap (λ c. lesser ltb x (Some (cond c b a))) ba ∙ ap (λ c. cond c b x) bx ∙ sym (ap (λ c. lesser ltb (cond c a x) (Some b)) ax ∙ ap (λ c. cond c b x) bx)

    five : ltb b a ≡ true → ltb a x ≡ false → ltb b x ≡ false → lesser ltb x (earlier_of (Some a) (Some b)) ≡ lesser ltb (lesser ltb x (Some a)) (Some b)
    five ba ax bx = ap (λ c. lesser ltb x (Some (cond c b a))) ba ∙ ap (λ c. cond c b x) bx ∙ sym (ap (λ c. lesser ltb (cond c a x) (Some b)) ax ∙ ap (λ c. cond c b x) bx)

    six : ltb b a ≡ false → ltb a x ≡ true → lesser ltb x (earlier_of (Some a) (Some b)) ≡ lesser ltb (lesser ltb x (Some a)) (Some b)
    six ba ax = ap (λ c. lesser ltb x (Some (cond c b a))) ba ∙ ap (λ c. cond c a x) ax ∙ sym (ap (λ c. lesser ltb (cond c a x) (Some b)) ax ∙ ap (λ c. cond c b a) ba)

    seven : ltb b a ≡ false → ltb a x ≡ false → ltb b x ≡ false → lesser ltb x (earlier_of (Some a) (Some b)) ≡ lesser ltb (lesser ltb x (Some a)) (Some b)
    seven ba ax bx = ap (λ c. lesser ltb x (Some (cond c b a))) ba ∙ ap (λ c. cond c a x) ax ∙ sym (ap (λ c. lesser ltb (cond c a x) (Some b)) ax ∙ ap (λ c. cond c b x) bx)

-- the least of two lists
pub least_append : (xs ys : List ℕ) → least ltb (xs ++ ys) ≡ earlier_of (least ltb xs) (least ltb ys)
least_append [] ys = refl
least_append (x ∷ xs) ys = ap (λ g. Some (lesser ltb x g)) (least_append xs ys) ∙ ap Some (lesser_assoc x (least ltb xs) (least ltb ys))

-- none is below the least
pub least_low : (xs : List ℕ) (t : ℕ) → least ltb xs ≡ Some t → Each (λ y. t ≤ y) xs
least_low [] t h = tt
least_low (x ∷ xs) t h = at (least ltb xs) refl (least_low xs)
  where
    weaker : (ys : List ℕ) (m : ℕ) → t ≤ m → Each (λ y. m ≤ y) ys → Each (λ y. t ≤ y) ys
    weaker [] m le h = tt
    weaker (y ∷ ys) m le h = (omega (arith, h.0), weaker ys m le h.1)

    nothing : (ys : List ℕ) → least ltb ys ≡ None → Each (λ y. t ≤ y) ys
    nothing [] e = tt
    nothing (y ∷ ys) e = absurd (cc)

    at : (g : Option ℕ) → least ltb xs ≡ g → ((m : ℕ) → least ltb xs ≡ Some m → Each (λ y. m ≤ y) xs) → Each (λ y. t ≤ y) (x ∷ xs)
    at None e rest = let is : x ≡ t = cc (h, ap (λ g. Some (lesser ltb x g)) e) in (omega arith, nothing xs e)
    at (Some m) e rest =
        let is : cond (ltb m x) m x ≡ t = cc (h, ap (λ g. Some (lesser ltb x g)) e) in
        ⊎_elim
        (λ less. let same : m ≡ t = sym (ap (λ b. cond b m x) (lt-ltb m x less)) ∙ is in (omega arith, weaker xs m (omega arith) (rest m e)))
        (λ le. let same : x ≡ t = sym (ap (λ b. cond b m x) (le-ltb m x le)) ∙ is in (omega arith, weaker xs m (omega arith) (rest m e)))
        (cases_lt m x)

-- the least is within what bounds all
pub least_bound : (most : ℕ) (xs : List ℕ) → Each (λ y. y ≤ most) xs → (t : ℕ) → least ltb xs ≡ Some t → t ≤ most
least_bound most [] h t e = absurd (cc)
least_bound most (x ∷ xs) h t e = at (least ltb xs) refl (least_bound most xs h.1)
  where
    at : (g : Option ℕ) → least ltb xs ≡ g → ((m : ℕ) → least ltb xs ≡ Some m → m ≤ most) → t ≤ most
    at None f rest = let is : x ≡ t = cc (e, ap (λ g. Some (lesser ltb x g)) f) in subst (λ k. k ≤ most) is h.0
    at (Some m) f rest =
        let is : cond (ltb m x) m x ≡ t = cc (e, ap (λ g. Some (lesser ltb x g)) f) in
        subst (λ k. k ≤ most) is (elim (ltb m x) as (λ b. cond b m x ≤ most) [ true ↦ rest m f | false ↦ h.0 ])
