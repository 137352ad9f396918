-- Seats in a list: numbered one by one, and joined one by one from the last.
use Rattle.std.proofs.Common.{◌≡◌, ◌⊎◌, inl, inr, ⊎_elim, ℕ, zero, suc, ◌+◌, ◌<◌, ◌≤◌, ◌≢◌, Bool, false, List, [], ◌∷◌, ◌++◌, length, sym, refl, ap, subst, ◌∙◌, arith, length-append, add-one, le_refl, ne_eqb}
use Rattle.std.specs.Prelude.{Option, Some, None, slice_get}
use mathlib.Core.Logic.{dite}
use native.Mathlib.Decide.{ℕ_discrete}
use Rattle.atomic_table.specs.Seated.{TableId}
use Rattle.atomic_table.specs.declared.shared.Seat as table
use Rattle.kom_record.specs.Entries.{History}
use Rattle.kom_record.specs.Views.{positions}
use Rattle.kom_exchange.specs.Later.{Abouts}
use Rattle.kom_exchange.proofs.Places.{places_early}
use Rattle.kom_exchange.specs.declared.view.Own.{Own}
use Rattle.kom_exchange.specs.declared.view.Stage.TheVariants.{Idle}
use Rattle.kom_exchange.specs.declared.view.View.{View}
use Rattle.kom_exchange.specs.declared.exchange.Seat.{Seat}
use Rattle.kom_exchange.specs.Rule.{Every, parts_if, parts, part_count, first_of, joined, first_view, newcomer}
use Rattle.kom_exchange.specs.Seats.{view, right_for, start_view, Among, IsFresh, AreFresh, IsOneOf, AreAll, AreJoined}

module _ {A : Type 0} where
  pub get_last : (xs : List A) (x : A) → slice_get (xs ++ x ∷ []) (length xs) ≡ Some x
  get_last [] x = refl
  get_last (y ∷ ys) x = get_last ys x

  pub get_sooner : (xs : List A) (x y : A) (k : ℕ) → slice_get xs k ≡ Some y → slice_get (xs ++ x ∷ []) k ≡ Some y
  get_sooner [] x y k e = absurd cc
  get_sooner (z ∷ zs) x y zero e = e
  get_sooner (z ∷ zs) x y (suc k) e = get_sooner zs x y k e

  pub get_below : (xs : List A) (y : A) (k : ℕ) → slice_get xs k ≡ Some y → k < length xs
  get_below [] y k e = absurd cc
  get_below (z ∷ zs) y zero e = omega arith
  get_below (z ∷ zs) y (suc k) e = let h = get_below zs y k e in omega arith

  -- an element is the new one or stood there before
  pub get_snoc : (xs : List A) (x y : A) (k : ℕ) → slice_get (xs ++ x ∷ []) k ≡ Some y → (slice_get xs k ≡ Some y) ⊎ ((k ≡ length xs) × (x ≡ y))
  get_snoc [] x y zero e = inr (refl, cc)
  get_snoc [] x y (suc k) e = absurd cc
  get_snoc (z ∷ zs) x y zero e = inl e
  get_snoc (z ∷ zs) x y (suc k) e = ⊎_elim (λ h. inl h) (λ h. inr (ap suc h.0, h.1)) (get_snoc zs x y k e)

pub among_left : (o : Own) (l m : List Own) → Among o l → Among o (l ++ m)
among_left o [] m h = absurd h
among_left o (p ∷ ps) m h = ⊎_elim (λ e. inl e) (λ r. inr (among_left o ps m r)) h

pub among_right : (o : Own) (l m : List Own) → Among o m → Among o (l ++ m)
among_right o [] m h = h
among_right o (p ∷ ps) m h = inr (among_right o ps m h)

pub every_among : (P : Own → Type 0) (l : List Own) (o : Own) → Every P l → Among o l → P o
every_among P [] o e h = absurd h
every_among P (p ∷ ps) o e h = ⊎_elim (λ (i : o ≡ p). subst P (sym i) e.0) (λ r. every_among P ps o e.1 r) h

right_none : (n k : ℕ) → 0 < k → right_for n k ≡ None
right_none n k pos = let d : k ≢ 0 = λ e. absurd (omega arith) in rw (ne_eqb k 0 d) refl

own_part : (v : View) → v.spent ≡ false → Among v.own (parts v)
own_part v live = subst (λ (b : Bool). Among v.own (parts_if b v.own v.taken)) (sym live) (inl refl)

module _ {T : Type 0} where
  -- `left` are still to be joined to p, and the others of `all` are
  pub record Joins (id : TableId) (all left : List Seat) (p : table.Seat (Option T) View) : Type 0 where
    pub table : p.table_id ≡ id
    pub holds : p.me.1 ≡ []
    pub stage : p.me.0.stage ≡ Idle
    pub live : p.me.0.spent ≡ false
    pub right : p.me.0.next ≡ right_for (length all) (length left)
    pub count : part_count p.me.0 + length left ≡ length all
    pub sub : (k : ℕ) (s : Seat) → slice_get left k ≡ Some s → slice_get all k ≡ Some s
    pub each : (k : ℕ) (s : Seat) → slice_get all k ≡ Some s → length left ≤ k → Among (view s).own (parts p.me.0)

one_part : (s : Seat) → (view s).taken ≡ [] → part_count (view s) ≡ 1
one_part s none = let v : View = view s in ap (λ (b : Bool). length (parts_if b v.own v.taken)) s.rests.1 ∙ ap (λ (l : List Own). suc (length l)) none

module _ {T : Type 0} where
  pub joins_start : (id : TableId) (all left : List Seat) (s : Seat) (p : table.Seat (Option T) View) → AreAll id all → all ≡ left ++ s ∷ [] → p.table_id ≡ s.badge.table_id → p.me ≡ (view s, []) → Joins id all left p
  joins_start id all left s p are is same me = let here : slice_get all (length left) ≡ Some s = ap (λ (l : List Seat). slice_get l (length left)) is ∙ get_last left s in let one = are.1 (length left) s here in
      let len : length all ≡ length left + 1 = ap length is ∙ length-append left (s ∷ []) in let u : p.me.0 ≡ view s = ap (λ m. m.0) me in record {
        table = same ∙ one.0;
        holds = ap (λ m. m.1) me;
        stage = ap (λ (z : View). z.stage) u ∙ s.rests.0;
        live = ap (λ (z : View). z.spent) u ∙ s.rests.1;
        right = ap (λ (z : View). z.next) u ∙ one.3;
        count = let h = one_part s one.2 in let t : part_count p.me.0 ≡ part_count (view s) = ap part_count u in omega arith;
        sub = λ k t e. ap (λ (l : List Seat). slice_get l k) is ∙ get_sooner left s t k e;
        each = λ k t e le. ⊎_elim (λ (h : slice_get left k ≡ Some t). absurd (let b = get_below left t k h in omega arith))
            (λ h. subst (λ (l : List Own). Among (view t).own l) (sym (ap parts u)) (subst (λ (x : Seat). Among (view x).own (parts (view s))) h.1 (own_part (view s) s.rests.1))) (get_snoc left s t k (ap (λ (l : List Seat). slice_get l k) (sym is) ∙ e));
      }

  -- the seat s is one that is still to be joined
  pub joins_left : (id : TableId) (all old left : List Seat) (s : Seat) (p : table.Seat (Option T) View) → AreAll id all → Joins id all old p → old ≡ left ++ s ∷ [] → IsOneOf id (length all) (length left) s
  joins_left id all old left s p are j is = are.1 (length left) s (j.sub (length left) s (ap (λ (l : List Seat). slice_get l (length left)) is ∙ get_last left s))

  pub joins_more : (id : TableId) (all old left : List Seat) (s : Seat) (p q : table.Seat (Option T) View) → AreAll id all → Joins id all old p → old ≡ left ++ s ∷ []
      → q.table_id ≡ p.table_id → q.me ≡ (joined p.me.0 (view s), p.me.1) → Joins id all left q
  joins_more id all old left s p q are j is same me = let v : View = p.me.0 in let w : View = view s in let one = joins_left id all old left s p are j is in
      let len : length old ≡ length left + 1 = ap length is ∙ length-append left (s ∷ []) in let u : q.me.0 ≡ joined v w = ap (λ m. m.0) me in
      let old_right : v.next ≡ None = j.right ∙ right_none (length all) (length old) (omega arith) in
      let all_parts : parts (joined v w) ≡ parts v ++ parts w = ap (λ (b : Bool). parts_if b v.own (v.taken ++ parts w)) j.live ∙ ap (λ (b : Bool). parts_if b v.own v.taken ++ parts w) (sym j.live) in record {
        table = same ∙ j.table;
        holds = ap (λ m. m.1) me ∙ j.holds;
        stage = ap (λ (z : View). z.stage) u ∙ j.stage;
        live = ap (λ (z : View). z.spent) u ∙ j.live;
        right = ap (λ (z : View). z.next) u ∙ (ap (λ (r : Option ℕ). first_of r w.next) old_right ∙ one.3);
        count = let c = j.count in let h = one_part s one.2 in let t : part_count q.me.0 ≡ part_count v + part_count w = ap part_count u ∙ (ap length all_parts ∙ length-append (parts v) (parts w)) in omega arith;
        sub = λ k t e. j.sub k t (ap (λ (l : List Seat). slice_get l k) is ∙ get_sooner left s t k e);
        each = λ k t e le. subst (λ (l : List Own). Among (view t).own l) (sym (ap parts u ∙ all_parts)) (dite (ℕ_discrete k (length left))
            (λ (h : k ≡ length left). let at : slice_get all (length left) ≡ Some s = j.sub (length left) s (ap (λ (l : List Seat). slice_get l (length left)) is ∙ get_last left s) in
            let f : Some t ≡ Some s = sym e ∙ (ap (slice_get all) h ∙ at) in let g : t ≡ s = cc in
            among_right (view t).own (parts v) (parts w) (subst (λ (x : Seat). Among (view x).own (parts w)) (sym g) (own_part w s.rests.1)))
            (λ n. among_left (view t).own (parts v) (parts w) (j.each k t e (let d : k ≢ length left = n in omega arith))));
      }

  pub joins_end : (id : TableId) (all : List Seat) (left : List Seat) (p : table.Seat (Option T) View) → length left ≡ 0 → Joins id all left p → AreJoined id all p
  joins_end id all left p none j = record {
    table = j.table;
    holds = j.holds;
    stage = j.stage;
    live = j.live;
    right = j.right ∙ (let f : right_for (length all) (length left) ≡ Some (length all) = rw none refl in f);
    count = let c = j.count in omega arith;
    each = λ k s e. j.each k s e (omega arith);
  }

-- ---- numbering

pub fresh_new : (h : History) (about : Abouts) (n i : ℕ) → 1 ≤ i → newcomer (record (first_view h about) { next = Some i }) ≡ start_view h about n i
fresh_new h about n i pos = let e : None ≡ right_for n i = sym (right_none n i pos) in
    ap (λ (r : Option ℕ). let v : View = record { own = record { number = i; about = about; «from» = length h; seen = h; mine = []; turns = 0 }; taken = []; spent = false; stage = Idle; next = r } in v) e

pub fresh_first : (h : History) (about : Abouts) (n i : ℕ) → i ≡ n → (let v : View = record (first_view h about) { next = Some i } in v) ≡ start_view h about n 0
fresh_first h about n i is = ap (λ (m : ℕ). let v : View = record (first_view h about) { next = Some m } in v) is

pub no_places_yet : (h : History) (w : ℕ) → [] ≡ positions w (length h) h
no_places_yet h w = sym (places_early w (length h) h (le_refl (length h)))

pub fresh_more : (id : TableId) (h : History) (about : Abouts) (n i : ℕ) (all new : List Seat) (s : Seat) → ((k : ℕ) (t : Seat) → slice_get all k ≡ Some t → IsFresh id h about n (k + 1) t) → length all + 1 ≡ i
    → IsFresh id h about n i s → new ≡ all ++ s ∷ [] → (k : ℕ) (t : Seat) → slice_get new k ≡ Some t → IsFresh id h about n (k + 1) t
fresh_more id h about n i all new s each len one is k t e = ⊎_elim (each k t)
    (λ d. subst (λ (x : Seat). IsFresh id h about n (k + 1) x) d.1 (subst (λ (m : ℕ). IsFresh id h about n m s) (let a : k ≡ length all = d.0 in omega arith) one))
    (get_snoc all s t k (ap (λ (l : List Seat). slice_get l k) (sym is) ∙ e))

pub fresh_all : (id : TableId) (h : History) (about : Abouts) (n : ℕ) (all result : List Seat) (s : Seat) → ((k : ℕ) (t : Seat) → slice_get all k ≡ Some t → IsFresh id h about n (k + 1) t) → length all + 1 ≡ n
    → IsFresh id h about n 0 s → result ≡ s ∷ all → AreFresh id h about n result
fresh_all id h about n all result s each len one is = subst (AreFresh id h about n) (sym is) ((let e : length (s ∷ all) ≡ n = omega arith in e), at_each)
  where
    at_each : (k : ℕ) (t : Seat) → slice_get (s ∷ all) k ≡ Some t → IsFresh id h about n k t
    at_each zero t e = let f : s ≡ t = cc in subst (IsFresh id h about n 0) f one
    at_each (suc k) t e = subst (λ (m : ℕ). IsFresh id h about n m t) (add-one k) (each k t e)
