-- The passes are made one after another.
use Rattle.std.proofs.Common.{◌≡◌, ◌≢◌, ℕ, zero, suc, ◌+◌, ◌-◌, ◌<◌, ◌≤◌, ◌⊎◌, inl, inr, List, [], ◌∷◌, ◌++◌, length, set, get_or, take, map, Some, refl, sym, ap, ◌∙◌, subst, ⊎_elim, arith}
use Rattle.std.specs.Prelude.{slice_get}
use Rattle.crossbeam_deque.specs.Handles.{worker_deque, worker_view}
use Rattle.kom_ready.specs.declared.guest.Guest.{Guest}
use Rattle.kom_ready.specs.declared.rule.Hand.{Hand}
use Rattle.kom_ready.specs.declared.lots.Lot.{Lot}
use Rattle.kom_ready.specs.declared.lots.ReadySet.{ReadySet}
use Rattle.kom_ready.specs.Guests.{Deque, found_in, guest_deque}
use Rattle.kom_ready.specs.Lots.{AreFresh, AreLent, AreLotsOf, IsFresh, IsLent, deques_of}
use Rattle.kom_ready.specs.Rule.{all_parts, hand}
use Rattle.kom_ready.proofs.Guested.{below_there, same_held, stands_at}

pub length_set : {X : Type 0} (xs : List X) (i : ℕ) (y : X) → length (set xs i y) ≡ length xs
length_set [] i y = refl
length_set (x ∷ xs) zero y = refl
length_set (x ∷ xs) (suc i) y = ap suc (length_set xs i y)

-- what stands at a place after a change
pub at_place_of : {X : Type 0} (xs : List X) (i m : ℕ) (y x : X) → slice_get (set xs i y) m ≡ Some x → ((m ≡ i) × (y ≡ x)) ⊎ ((m ≢ i) × (slice_get xs m ≡ Some x))
at_place_of [] i m y x e = absurd (cc e)
at_place_of (z ∷ zs) zero zero y x e = inl (refl, same_held y x e)
at_place_of (z ∷ zs) zero (suc m) y x e = inr ((λ h. omega (arith, h)), e)
at_place_of (z ∷ zs) (suc i) zero y x e = inr ((λ h. omega (arith, h)), e)
at_place_of (z ∷ zs) (suc i) (suc m) y x e = ⊎_elim (λ t. inl (ap suc t.0, t.1)) (λ t. let n = t.0 in inr ((λ h. n (omega (arith, h))), t.1)) (at_place_of zs i m y x e)

one_more : {X : Type 0} (xs : List X) (j : ℕ) (x : X) → slice_get xs j ≡ Some x → take (suc j) xs ≡ take j xs ++ x ∷ []
one_more [] j x e = absurd (cc e)
one_more (y ∷ ys) zero x e = ap (λ z. z ∷ []) (same_held y x e)
one_more (y ∷ ys) (suc j) x e = ap (λ zs. y ∷ zs) (one_more ys j x e)

take_all : {X : Type 0} (xs : List X) → take (length xs) xs ≡ xs
take_all [] = refl
take_all (x ∷ xs) = ap (λ ys. x ∷ ys) (take_all xs)

pub map_end : {X Y : Type 0} (f : X → Y) (xs : List X) (x : X) → map f (xs ++ x ∷ []) ≡ map f xs ++ f x ∷ []
map_end f [] x = refl
map_end f (y ∷ ys) x = ap (λ zs. f y ∷ zs) (map_end f ys x)

found_end : (gs : List Guest) (g : Guest) (j : ℕ) → g.found ≡ 0 → ((k : ℕ) → found_in gs k ≡ 0) → found_in (gs ++ g ∷ []) j ≡ 0
found_end [] g zero e h = e
found_end [] g (suc j) e h = refl
found_end (y ∷ ys) g zero e h = h 0
found_end (y ∷ ys) g (suc j) e h = found_end ys g j e (λ k. h (suc k))

end_or_before : {X : Type 0} (xs : List X) (y x : X) (m : ℕ) → slice_get (xs ++ y ∷ []) m ≡ Some x → (slice_get xs m ≡ Some x) ⊎ ((m ≡ length xs) × (y ≡ x))
end_or_before [] y x zero e = inr (refl, same_held y x e)
end_or_before [] y x (suc m) e = absurd (cc e)
end_or_before (z ∷ zs) y x zero e = inl e
end_or_before (z ∷ zs) y x (suc m) e = ⊎_elim (λ h. inl h) (λ h. inr (ap suc h.0, h.1)) (end_or_before zs y x m e)

still_there : {X : Type 0} (xs : List X) (y x : X) (m : ℕ) → slice_get xs m ≡ Some x → slice_get (xs ++ y ∷ []) m ≡ Some x
still_there [] y x m e = absurd (cc e)
still_there (z ∷ zs) y x zero e = e
still_there (z ∷ zs) y x (suc m) e = still_there zs y x m e

at_end : {X : Type 0} (xs : List X) (y : X) → slice_get (xs ++ y ∷ []) (length xs) ≡ Some y
at_end [] y = refl
at_end (z ∷ zs) y = at_end zs y

-- one more worker has a lot
pub opened : (ds : List Deque) (lots : List Lot) (new : Lot) → AreLent ds 0 0 0 lots → new.number ≡ length lots → worker_view new.own ≡ hand all_parts [] [] [] → new.guests.items ≡ [] → AreLent (ds ++ worker_deque new.own ∷ []) 0 0 0 (lots ++ new ∷ [])
opened ds lots new are numbered view none = record {
  count = long lots ds are.count;
  each = λ m lot e. ⊎_elim (λ h. older m lot (are.each m lot h)) (λ h. subst (IsLent (ds ++ worker_deque new.own ∷ []) 0 0 0 m) h.1 (subst (λ k. IsLent (ds ++ worker_deque new.own ∷ []) 0 0 0 k new) (sym h.0) this)) (end_or_before lots new lot m e);
}
  where
    long : (ls : List Lot) (es : List Deque) → length ls ≡ length es → length (ls ++ new ∷ []) ≡ length (es ++ worker_deque new.own ∷ [])
    long [] [] e = refl
    long [] (d ∷ es) e = absurd (omega (arith, e))
    long (l ∷ ls) [] e = absurd (omega (arith, e))
    long (l ∷ ls) (d ∷ es) e = let r = long ls es (omega (arith, e)) in omega (arith, r)

    parts : (worker_view new.own).parts ≡ all_parts
    parts = ap (λ (v : Hand). v.parts) view

    this : IsLent (ds ++ worker_deque new.own ∷ []) 0 0 0 (length lots) new
    this = record {
      number = numbered;
      own = ap (slice_get (ds ++ worker_deque new.own ∷ [])) are.count ∙ at_end ds (worker_deque new.own);
      fresh = record { pushed = ap (λ (v : Hand). v.pushed) view; given = ap (λ (v : Hand). v.taken) view; found = λ j. ap (λ gs. found_in gs j) none };
      has = λ lt. absurd (omega (arith, lt));
      has_not = λ _. ap (map guest_deque) none;
      before = λ lt. absurd (omega (arith, lt));
      at = λ _. omega (arith, parts);
      behind = λ _. parts;
    }

    older : (m : ℕ) (lot : Lot) → IsLent ds 0 0 0 m lot → IsLent (ds ++ worker_deque new.own ∷ []) 0 0 0 m lot
    older m lot k = record {
      number = k.number;
      own = still_there ds (worker_deque new.own) (worker_deque lot.own) m k.own;
      fresh = k.fresh;
      has = λ lt. absurd (omega (arith, lt));
      has_not = k.has_not;
      before = λ lt. absurd (omega (arith, lt));
      at = k.at;
      behind = k.behind;
    }

-- a part was cut off the own deque of a lot
pub record IsCut (old new : Lot) : Type 0 where
  pub number : new.number ≡ old.number
  pub own : worker_deque new.own ≡ worker_deque old.own
  pub view : worker_view new.own ≡ hand ((worker_view old.own).parts - 1) (worker_view old.own).pushed (worker_view old.own).put (worker_view old.own).taken
  pub guests : new.guests.items ≡ old.guests.items

-- a lot was given one more pass
pub record IsGiven (g : Guest) (old new : Lot) : Type 0 where
  pub number : new.number ≡ old.number
  pub own : worker_deque new.own ≡ worker_deque old.own
  pub view : worker_view new.own ≡ worker_view old.own
  pub guests : new.guests.items ≡ old.guests.items ++ g ∷ []

module _ (ds : List Deque) (j c i : ℕ) (lots : List Lot) (are : AreLent ds j c i lots) where
  pub cut_off : (old new : Lot) → slice_get lots j ≡ Some old → 1 ≤ (worker_view old.own).parts → IsCut old new → AreLent ds j (c + 1) i (set lots j new)
  cut_off old new at some_part t = record {
    count = length_set lots j new ∙ are.count;
    each = λ m lot e. ⊎_elim (λ h. subst (IsLent ds j (c + 1) i m) h.1 (subst (λ k. IsLent ds j (c + 1) i k new) (sym h.0) this)) (λ h. other m lot h.0 (are.each m lot h.1)) (at_place_of lots j m new lot e);
  }
    where
      was : IsLent ds j c i j old
      was = are.each j old at

      fresh : IsFresh new
      fresh = record {
        pushed = ap (λ (v : Hand). v.pushed) t.view ∙ was.fresh.pushed;
        given = ap (λ (v : Hand). v.taken) t.view ∙ was.fresh.given;
        found = λ k. ap (λ gs. found_in gs k) t.guests ∙ was.fresh.found k;
      }

      this : IsLent ds j (c + 1) i j new
      this = record {
        number = t.number ∙ was.number;
        own = was.own ∙ ap Some (sym t.own);
        fresh = fresh;
        has = λ lt. ap (map guest_deque) t.guests ∙ was.has lt;
        has_not = λ le. ap (map guest_deque) t.guests ∙ was.has_not le;
        before = λ lt. absurd (omega (arith, lt));
        at = λ e. let a = was.at refl in let b = ap (λ (v : Hand). v.parts) t.view in omega (arith, a, b, some_part);
        behind = λ lt. absurd (omega (arith, lt));
      }

      other : (m : ℕ) (lot : Lot) → m ≢ j → IsLent ds j c i m lot → IsLent ds j (c + 1) i m lot
      other m lot ne k = record {
        number = k.number;
        own = k.own;
        fresh = k.fresh;
        has = k.has;
        has_not = k.has_not;
        before = k.before;
        at = λ e. absurd (ne e);
        behind = k.behind;
      }

  pub given : (g : Guest) (old new : Lot) → slice_get lots i ≡ Some old → slice_get ds j ≡ Some (guest_deque g) → g.found ≡ 0 → IsGiven g old new → AreLent ds j c (i + 1) (set lots i new)
  given g old new at there zero_found t = record {
    count = length_set lots i new ∙ are.count;
    each = λ m lot e. ⊎_elim (λ h. subst (IsLent ds j c (i + 1) m) h.1 (subst (λ k. IsLent ds j c (i + 1) k new) (sym h.0) this)) (λ h. other m lot h.0 (are.each m lot h.1)) (at_place_of lots i m new lot e);
  }
    where
      was : IsLent ds j c i i old
      was = are.each i old at

      next : suc j ≡ j + 1
      next = omega arith

      parts : (worker_view new.own).parts ≡ (worker_view old.own).parts
      parts = ap (λ (v : Hand). v.parts) t.view

      fresh : IsFresh new
      fresh = record {
        pushed = ap (λ (v : Hand). v.pushed) t.view ∙ was.fresh.pushed;
        given = ap (λ (v : Hand). v.taken) t.view ∙ was.fresh.given;
        found = λ k. ap (λ gs. found_in gs k) t.guests ∙ found_end old.guests.items g k zero_found was.fresh.found;
      }

      this : IsLent ds j c (i + 1) i new
      this = record {
        number = t.number ∙ was.number;
        own = was.own ∙ ap Some (sym t.own);
        fresh = fresh;
        has = λ lt. ap (map guest_deque) t.guests ∙ map_end guest_deque old.guests.items g ∙ ap (λ zs. zs ++ guest_deque g ∷ []) (was.has_not (omega arith)) ∙ sym (one_more ds j (guest_deque g) there) ∙ ap (λ k. take k ds) next;
        has_not = λ le. absurd (omega (arith, le));
        before = λ lt. let a = was.before lt in omega (arith, a, parts);
        at = λ e. let a = was.at e in omega (arith, a, parts);
        behind = λ lt. let a = was.behind lt in omega (arith, a, parts);
      }

      other : (m : ℕ) (lot : Lot) → m ≢ i → IsLent ds j c i m lot → IsLent ds j c (i + 1) m lot
      other m lot ne k = record {
        number = k.number;
        own = k.own;
        fresh = k.fresh;
        has = λ lt. k.has (omega (arith, lt, ne));
        has_not = λ le. k.has_not (omega (arith, le));
        before = k.before;
        at = k.at;
        behind = k.behind;
      }

-- one part is cut off, and given to one lot
pub lend_more : (ds : List Deque) (j i : ℕ) (lots : List Lot) → AreLent ds j i i lots → (first cut second new : Lot) (g : Guest) → j < length lots → i < length lots → first ≡ get_or lots j first
    → 1 ≤ (worker_view first.own).parts → IsCut first cut → second ≡ get_or (set lots j cut) i second → guest_deque g ≡ worker_deque first.own → g.found ≡ 0 → IsGiven g second new
    → AreLent ds j (i + 1) (i + 1) (set (set lots j cut) i new)
lend_more ds j i lots are first cut second new g j_there i_there first_at part c second_at same zero_found t =
    let at = stands_at lots j first j_there first_at in
    let l = length_set lots j cut in
    let reached : i < length (set lots j cut) = omega (arith, l, i_there) in
    given ds j (i + 1) i (set lots j cut) (cut_off ds j i i lots are first cut at part c) g second new (stands_at (set lots j cut) i second reached second_at)
    ((are.each j first at).own ∙ ap Some (sym same)) zero_found t

-- all lots have a pass to the j-th deque
pub next_deque : (ds : List Deque) (j : ℕ) (lots : List Lot) → AreLent ds j (length ds) (length ds) lots → AreLent ds (j + 1) 0 0 lots
next_deque ds j lots are = record {
  count = are.count;
  each = λ m lot e.
      let k = are.each m lot e in
      let lt = below_there lots m lot e in
      let n = are.count in
      record {
        number = k.number;
        own = k.own;
        fresh = k.fresh;
        has = λ none. absurd (omega (arith, none));
        has_not = λ _. k.has (omega (arith, lt, n));
        before = λ b. ended m lot j (length ds) b k.before k.at;
        at = λ b. let q = k.behind (omega (arith, b)) in omega (arith, q);
        behind = λ b. k.behind (omega (arith, b));
      };
}
  where
    ended : (m : ℕ) (lot : Lot) (j n : ℕ) → m < j + 1 → (m < j → (worker_view lot.own).parts + n ≡ all_parts) → (m ≡ j → (worker_view lot.own).parts + n ≡ all_parts) → (worker_view lot.own).parts + n ≡ all_parts
    ended m lot zero n b f h = h (omega (arith, b))
    ended zero lot (suc j) n b f h = f (omega arith)
    ended (suc m) lot (suc j) n b f h = ended m lot j n (omega (arith, b)) (λ l. f (omega (arith, l))) (λ e. h (ap suc e))

pub all_lent : (rs : ReadySet) (lots : List Lot) → AreLent (deques_of rs) (length (deques_of rs)) 0 0 lots → AreLotsOf rs lots
all_lent rs lots are = record {
  count = are.count;
  numbers = λ i lot e. (are.each i lot e).number;
  each = λ i lot e.
      let k = are.each i lot e in
      let lt = below_there lots i lot e in
      let n = are.count in
      record {
        own = ap (slice_get (deques_of rs)) k.number ∙ k.own;
        guests = k.has_not (omega arith) ∙ take_all (deques_of rs);
        parts = k.before (omega (arith, lt, n));
      };
}

pub all_fresh : (ds : List Deque) (j c i : ℕ) (lots : List Lot) → AreLent ds j c i lots → AreFresh lots
all_fresh ds j c i lots are m lot e = (are.each m lot e).fresh
