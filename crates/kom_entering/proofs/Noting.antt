-- What is noted, little by little.
use Rattle.std.proofs.Common.{◌≡◌, ℕ, Bool, true, false, if◌then◌else◌, ◌&&◌, ◌||◌, ◌==◌, refl, sym, ap, ◌∙◌, List, [], ◌∷◌, ◌++◌, Option, Some, None}
use Rattle.std.specs.List.{cons_option, filter_map}
use Rattle.std.proofs.lemmas.Bool.{eqb-true}
use Rattle.kom_base.specs.declared.numbers.Dir.{Dir}
use Rattle.kom_base.specs.declared.numbers.Dir.TheVariants.{Plus, Minus}
use Rattle.kom_base.specs.declared.numbers.EntryNo.{EntryNo}
use Rattle.kom_base.specs.Lists.{if_so}
use Rattle.kom_base.specs.Numbers.{same_dir}
use Rattle.kom_entering.specs.declared.lists.Coming.{Coming}
use Rattle.kom_entering.specs.declared.lists.Entering.{Entering}
use Rattle.kom_entering.specs.Lists.{next_number, number_into, numbers_into}
use Rattle.kom_entering.specs.Ways.{HaveBeenNoted}

cons_append : {Y : Type 0} (o : Option Y) (xs ys : List Y) → cons_option o (xs ++ ys) ≡ cons_option o xs ++ ys
cons_append None xs ys = refl
cons_append (Some x) xs ys = refl

pub made_append : {X Y : Type 0} (f : X → Option Y) (xs ys : List X) → filter_map f (xs ++ ys) ≡ filter_map f xs ++ filter_map f ys
made_append f [] ys = refl
made_append f (x ∷ xs) ys = ap (cons_option (f x)) (made_append f xs ys) ∙ cons_append (f x) (filter_map f xs) (filter_map f ys)

one_made : (b : Bool) (n : EntryNo) → cons_option (if b then Some n else None) [] ≡ if_so b (n ∷ [])
one_made true n = refl
one_made false n = refl

-- one coming more
pub came_one : (qs : List Coming) (q : Coming) (x : ℕ) (d : Dir) → numbers_into (qs ++ q ∷ []) x d ≡ numbers_into qs x d ++ if_so (q.chan == x && same_dir q.dir d) (q.no ∷ [])
came_one qs q x d = made_append (number_into x d) qs (q ∷ []) ∙ ap (λ ns. numbers_into qs x d ++ ns) (one_made (q.chan == x && same_dir q.dir d) q.no)

pub append_none : {X : Type 0} (xs : List X) → xs ++ [] ≡ xs
append_none [] = refl
append_none (x ∷ xs) = ap (λ l. x ∷ l) (append_none xs)

pub noted_none : (test : ℕ → Dir → Bool) (v : Entering) → ((x : ℕ) (d : Dir) → test x d ≡ false) → HaveBeenNoted test v v
noted_none test v h = record {
  position = refl;
  offers = refl;
  goings = refl;
  unreached = refl;
  comings = λ x d. sym (ap (λ b. numbers_into v.comings x d ++ if_so b (next_number v ∷ [])) (h x d) ∙ append_none (numbers_into v.comings x d));
}

pub noted_so : (t u : ℕ → Dir → Bool) (v w : Entering) → ((x : ℕ) (d : Dir) → t x d ≡ u x d) → HaveBeenNoted t v w → HaveBeenNoted u v w
noted_so t u v w h n = record {
  position = n.position;
  offers = n.offers;
  goings = n.goings;
  unreached = n.unreached;
  comings = λ x d. n.comings x d ∙ ap (λ b. numbers_into v.comings x d ++ if_so b (next_number v ∷ [])) (h x d);
}

joined : (t u w : Bool) (xs : List EntryNo) (n : EntryNo) → (t && u) ≡ false → w ≡ (t || u) → (xs ++ if_so t (n ∷ [])) ++ if_so u (n ∷ []) ≡ xs ++ if_so w (n ∷ [])
joined true true w xs n a b = absurd cc
joined true false w xs n a b = append_none (xs ++ n ∷ []) ∙ ap (λ z. xs ++ if_so z (n ∷ [])) (sym b)
joined false u w xs n a b = ap (λ l. l ++ if_so u (n ∷ [])) (append_none xs) ∙ ap (λ z. xs ++ if_so z (n ∷ [])) (sym b)

same_next : (v w : Entering) → w.position ≡ v.position → w.offers ≡ v.offers → next_number w ≡ next_number v
same_next v w p o = λ i. record { position = p i; place = o i }

-- two steps that never note the same
pub noted_both : (t u w : ℕ → Dir → Bool) (a b c : Entering) → ((x : ℕ) (d : Dir) → (t x d && u x d) ≡ false) → ((x : ℕ) (d : Dir) → w x d ≡ (t x d || u x d))
    → HaveBeenNoted t a b → HaveBeenNoted u b c → HaveBeenNoted w a c
noted_both t u w a b c apart or m n = record {
  position = n.position ∙ m.position;
  offers = n.offers ∙ m.offers;
  goings = n.goings ∙ m.goings;
  unreached = n.unreached ∙ m.unreached;
  comings = λ x d.
      n.comings x d
      ∙ ap (λ k. numbers_into b.comings x d ++ if_so (u x d) (k ∷ [])) (same_next a b m.position m.offers)
      ∙ ap (λ l. l ++ if_so (u x d) (next_number a ∷ [])) (m.comings x d)
      ∙ joined (t x d) (u x d) (w x d) (numbers_into a.comings x d) (next_number a) (apart x d) (or x d);
}

-- ---- one direction, and both

and_on : (a : Bool) → (a && true) ≡ a
and_on true = refl
and_on false = refl

pub and_off : (a : Bool) → (a && false) ≡ false
and_off true = refl
and_off false = refl

pub noted_off : (x : ℕ) (d : Dir) (b : Bool) (v : Entering) → b ≡ false → HaveBeenNoted (λ y e. (x == y && same_dir d e) && b) v v
noted_off x d b v h = noted_none (λ y e. (x == y && same_dir d e) && b) v (λ y e. ap (λ c. (x == y && same_dir d e) && c) h ∙ and_off (x == y && same_dir d e))

pub noted_on : (x : ℕ) (d : Dir) (b : Bool) (v w : Entering) → b ≡ true → HaveBeenNoted (λ y e. x == y && same_dir d e) v w → HaveBeenNoted (λ y e. (x == y && same_dir d e) && b) v w
noted_on x d b v w h n =
    noted_so (λ y e. x == y && same_dir d e) (λ y e. (x == y && same_dir d e) && b) v w (λ y e. sym (ap (λ c. (x == y && same_dir d e) && c) h ∙ and_on (x == y && same_dir d e))) n

at_one : (t : ℕ → Dir → Bool) (x : ℕ) (d : Dir) (b : Bool) → b ≡ t x d → (y : ℕ) (e : Dir) → ((x == y && same_dir d e) && b) ≡ ((x == y && same_dir d e) && t y e)
at_one t x d b h y e = go (x == y) refl
  where
    dirs : (d e : Dir) → b ≡ t x d → x ≡ y → (same_dir d e && b) ≡ (same_dir d e && t y e)
    dirs Plus Plus h q = h ∙ ap (λ z. t z Plus) q
    dirs Plus Minus h q = refl
    dirs Minus Plus h q = refl
    dirs Minus Minus h q = h ∙ ap (λ z. t z Minus) q

    go : (c : Bool) → (x == y) ≡ c → ((x == y && same_dir d e) && b) ≡ ((x == y && same_dir d e) && t y e)
    go false p = ap (λ c. (c && same_dir d e) && b) p ∙ sym (ap (λ c. (c && same_dir d e) && t y e) p)
    go true p = ap (λ c. (c && same_dir d e) && b) p ∙ dirs d e h (eqb-true x y p) ∙ sym (ap (λ c. (c && same_dir d e) && t y e) p)

ways_apart : (t : ℕ → Dir → Bool) (x y : ℕ) (e : Dir) → (((x == y && same_dir Plus e) && t y e) && ((x == y && same_dir Minus e) && t y e)) ≡ false
ways_apart t x y Plus = go (x == y) (t y Plus)
  where
    go : (a b : Bool) → (((a && true) && b) && ((a && false) && b)) ≡ false
    go true true = refl
    go true false = refl
    go false b = refl
ways_apart t x y Minus = go (x == y) (t y Minus)
  where
    go : (a b : Bool) → (((a && false) && b) && ((a && true) && b)) ≡ false
    go true b = refl
    go false b = refl

ways_all : (t : ℕ → Dir → Bool) (x y : ℕ) (e : Dir) → (x == y && t y e) ≡ (((x == y && same_dir Plus e) && t y e) || ((x == y && same_dir Minus e) && t y e))
ways_all t x y Plus = go (x == y) (t y Plus)
  where
    go : (a b : Bool) → (a && b) ≡ (((a && true) && b) || ((a && false) && b))
    go true true = refl
    go true false = refl
    go false b = refl
ways_all t x y Minus = go (x == y) (t y Minus)
  where
    go : (a b : Bool) → (a && b) ≡ (((a && false) && b) || ((a && true) && b))
    go true b = refl
    go false b = refl

-- both directions, one after the other
pub ways_noted : (t : ℕ → Dir → Bool) (x : ℕ) (p m : Bool) (a b c : Entering) → p ≡ t x Plus → m ≡ t x Minus
    → HaveBeenNoted (λ y e. (x == y && same_dir Plus e) && p) a b → HaveBeenNoted (λ y e. (x == y && same_dir Minus e) && m) b c → HaveBeenNoted (λ y e. x == y && t y e) a c
ways_noted t x p m a b c f g j k =
    noted_both (λ y e. (x == y && same_dir Plus e) && t y e) (λ y e. (x == y && same_dir Minus e) && t y e) (λ y e. x == y && t y e) a b c
    (ways_apart t x) (ways_all t x)
    (noted_so (λ y e. (x == y && same_dir Plus e) && p) (λ y e. (x == y && same_dir Plus e) && t y e) a b (at_one t x Plus p f) j)
    (noted_so (λ y e. (x == y && same_dir Minus e) && m) (λ y e. (x == y && same_dir Minus e) && t y e) b c (at_one t x Minus m g) k)
