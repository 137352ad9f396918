-- The first key from a bound on, in the indices.
use Rattle.std.proofs.Common.{◌≡◌, ◌≢◌, Result, Ok, Err, IfOk, Vec, Global, ℕ, ◌+◌, ◌-◌, ◌<◌, ◌≤◌, ◌^◌, ℤ, Bool, true, false, cond, not, ◌&&◌, eqb, ltb, List, [], ◌∷◌, map, Option, Some, None, Ordering, ◌⊎◌, ⊎_elim, refl, sym, ap, ◌∙◌, subst, arith}
use Rattle.std.specs.List.{filter}
use Rattle.std.specs.Ordering.{nat_cmp, int_cmp, is_lt, is_eq, ordering_then, ordering_reverse}
use Rattle.std.specs.Option.{IsSome, option_map}
use Rattle.std.specs.declared.cmp.Ordering.TheVariants.{Less, Equal, Greater}
use Rattle.std.specs.Cmp.{nat_cmp_total, int_cmp_total, tied_itself, ranked, nat_cmp_is, int_ranked}
use Rattle.std.proofs.lemmas.Bool.{eq-eqb, eqb-true, ne_eqb, cases_lt}
use Rattle.kom_base.specs.Lists.{least, lesser}
use Rattle.kom_base.specs.Numbers.{same_int}
use Rattle.kom_base.specs.declared.numbers.EntryNo.{EntryNo}
use Rattle.kom_index.specs.Entries.{AllKeys, Rises, has_key, value_of, between, is_between, IsFirstFrom}
use Rattle.kom_env.specs.declared.agenda.Wait.{Wait}
use Rattle.kom_env.specs.declared.keys.Due.{Due}
use Rattle.kom_env.specs.declared.keys.Tag.{Tag}
use Rattle.kom_env.specs.Firsts.{first_of}
use Rattle.kom_env.specs.Keys.{first_no, number_cmp, number_total, due_cmp, due_total, tag_cmp, tag_total}
use Rattle.kom_env.specs.Waiting.{is_due, is_tagged, due_key, tag_key, IsOneOf}
use Rattle.kom_env.specs.Sound.{Indexes, Holds, due_no, tag_no, IsBounded}
use Rattle.kom_env.proofs.Ties.{number_tied, due_tied, tag_tied, same_nat, same_int_is, int_self, one_int}
use Rattle.kom_env.proofs.Rising.{Each, filter_same, each_entry, head_value}
use Rattle.kom_env.proofs.Indexing.{some_of, not_none, has_key_of}
use Rattle.kom_env.proofs.Leasts.{least_head, least_tail}
use Rattle.kom_env.proofs.Listing.{at_time, numbered, bare, same_numbers}

abbrev pub last_no : EntryNo
last_no = record { position = 4294967295; place = 4294967295 }

abbrev pub low_due : ℕ → Due
low_due t = record { time = t; no = first_no }

abbrev pub high_due : ℕ → Due
high_due t = record { time = t; no = last_no }

below : (x y : ℕ) → x < y → nat_cmp x y ≡ Less
below x y h = sym (nat_cmp_is x y Less h)

above : (x y : ℕ) → y < x → nat_cmp x y ≡ Greater
above x y h = sym (nat_cmp_is x y Greater h)

not_less_zero : (x : ℕ) → (c : Ordering) → nat_cmp x 0 ≡ c → is_lt c ≡ false
not_less_zero x Less e = absurd (omega (arith, ranked x 0 Less (sym e)))
not_less_zero x Equal e = refl
not_less_zero x Greater e = refl

not_less_most : (x : ℕ) → x < 2 ^ 32 → (c : Ordering) → nat_cmp 4294967295 x ≡ c → is_lt c ≡ false
not_less_most x h Less e = absurd (omega (arith, ranked 4294967295 x Less (sym e), h))
not_less_most x h Equal e = refl
not_less_most x h Greater e = refl

then_not : (a b : Ordering) → is_lt a ≡ false → is_lt b ≡ false → is_lt (ordering_then a b) ≡ false
then_not Less b h g = absurd (cc)
then_not Equal b h g = g
then_not Greater b h g = refl

pub from_first : (n : EntryNo) → is_lt (number_cmp n first_no) ≡ false
from_first n = then_not (nat_cmp n.position 0) (nat_cmp n.place 0) (not_less_zero n.position _ refl) (not_less_zero n.place _ refl)

pub to_last : (n : EntryNo) → n.position < 2 ^ 32 → n.place < 2 ^ 32 → is_lt (number_cmp last_no n) ≡ false
to_last n h g = then_not (nat_cmp 4294967295 n.position) (nat_cmp 4294967295 n.place) (not_less_most n.position h _ refl) (not_less_most n.place g _ refl)

due_by : (t u : ℕ) (n m : EntryNo) (c : Ordering) → nat_cmp t u ≡ c → due_cmp (record { time = t; no = n }) (record { time = u; no = m }) ≡ ordering_then c (number_cmp n m)
due_by t u n m c e = ap (λ o. ordering_then o (number_cmp n m)) e

-- a key of a time lies between the bounds of that time, and no other does
pub in_time : (t : ℕ) (e : Due × Unit {0}) → e.0.no.position < 2 ^ 32 → e.0.no.place < 2 ^ 32 → is_between due_cmp (low_due t) (high_due t) e ≡ at_time t e
in_time t e h g = ⊎_elim
    (λ less. ap (λ o. not (is_lt o) && not (is_lt (due_cmp (high_due t) e.0))) (due_by e.0.time t e.0.no first_no Less (below _ _ less)) ∙ sym (ne_eqb e.0.time t (λ s. omega (arith, less, s))))
    (λ le. ⊎_elim
    (λ more. ap (λ o. not (is_lt (due_cmp e.0 (low_due t))) && not (is_lt o)) (due_by t e.0.time last_no e.0.no Less (below _ _ more)) ∙ and_false (not (is_lt (due_cmp e.0 (low_due t)))) ∙ sym (ne_eqb e.0.time t (λ s. omega (arith, more, s))))
    (λ ge.
    let same : e.0.time ≡ t = omega arith in
    ap (λ o. not (is_lt o) && not (is_lt (due_cmp (high_due t) e.0))) (due_by e.0.time t e.0.no first_no Equal (ap (λ x. nat_cmp x t) same ∙ tied_itself nat_cmp_total t))
    ∙ ap (λ b. not b && not (is_lt (due_cmp (high_due t) e.0))) (from_first e.0.no)
    ∙ ap (λ o. not (is_lt o)) (due_by t e.0.time last_no e.0.no Equal (ap (nat_cmp t) same ∙ tied_itself nat_cmp_total t))
    ∙ ap not (to_last e.0.no h g) ∙ sym (eq-eqb e.0.time t same))
    (cases_lt t e.0.time))
    (cases_lt e.0.time t)
  where
    and_false : (b : Bool) → (b && false) ≡ false
    and_false true = refl
    and_false false = refl

from_low : (t : ℕ) (n : EntryNo) → is_lt (due_cmp (record { time = t; no = n }) (low_due t)) ≡ false
from_low t n = ap is_lt (due_by t t n first_no Equal (tied_itself nat_cmp_total t)) ∙ from_first n

from_zero : (d : Due) → is_lt (due_cmp d (low_due 0)) ≡ false
from_zero d = then_not (nat_cmp d.time 0) (number_cmp d.no first_no) (not_less_zero d.time _ refl) (from_first d.no)

-- what is not below a key has no lesser time
not_sooner : (a b : Due) → is_lt (due_cmp a b) ≡ false → b.time ≤ a.time
not_sooner a b h = ⊎_elim (λ less. absurd (cc (h, ap is_lt (due_by a.time b.time a.no b.no Less (below _ _ less))))) (λ le. le) (cases_lt a.time b.time)

-- the least due time, by the release that has it
least_by : (ws : List (EntryNo × Wait)) → Rises number_cmp ws → (n : EntryNo) (w : Wait) → value_of number_cmp n ws ≡ Some w
    → Each (λ (e : EntryNo × Wait). w.due ≤ e.1.due) ws → least ltb (map (λ (e : EntryNo × Wait). e.1.due) ws) ≡ Some w.due
least_by [] r n w is h = absurd (cc)
least_by (e ∷ ws) r n w is h = at (has_key number_cmp n e) refl (least_by ws r.1 n w)
  where
    later : (ws : List (EntryNo × Wait)) (t : ℕ) → Each (λ (e : EntryNo × Wait). t ≤ e.1.due) ws → Each (λ y. t ≤ y) (map (λ (e : EntryNo × Wait). e.1.due) ws)
    later [] t h = tt
    later (f ∷ fs) t h = (h.0, later fs t h.1)

    at : (b : Bool) → has_key number_cmp n e ≡ b → (value_of number_cmp n ws ≡ Some w → Each (λ (e : EntryNo × Wait). w.due ≤ e.1.due) ws → least ltb (map (λ (e : EntryNo × Wait). e.1.due) ws) ≡ Some w.due)
        → least ltb (map (λ (e : EntryNo × Wait). e.1.due) (e ∷ ws)) ≡ Some w.due
    at true t rest =
        let same : e.1 ≡ w = cc (is, ap (λ b. cond b (Some e.1) (value_of number_cmp n ws)) t) in
        least_head e.1.due (map (λ (e : EntryNo × Wait). e.1.due) ws) (later ws e.1.due (subst (λ (x : Wait). Each (λ (e : EntryNo × Wait). x.due ≤ e.1.due) ws) (sym same) h.1)) ∙ ap (λ (x : Wait). Some x.due) same
    at false t rest = least_tail e.1.due (map (λ (e : EntryNo × Wait). e.1.due) ws) w.due (rest (sym (ap (λ b. cond b (Some e.1) (value_of number_cmp n ws)) t) ∙ is) h.1) h.0

module _ (ws : List (EntryNo × Wait)) (ks : List (Due × Unit {0})) (rises : Rises number_cmp ws) (bounded : IsBounded ws) (index : Indexes due_cmp due_no due_key ws ks) where
  key_there : (n : EntryNo) (w : Wait) → value_of number_cmp n ws ≡ Some w → IsSome (value_of due_cmp (due_key n w) ks)
  key_there n w e = has_key_of due_cmp due_total due_tied due_no due_key (λ n w. refl) ws ks n w index e

  pub between_is : (t : ℕ) → between due_cmp (low_due t) (high_due t) ks ≡ filter (at_time t) ks
  between_is t = filter_same _ _ ks (each_entry due_cmp due_total due_tied (λ e. is_between due_cmp (low_due t) (high_due t) e ≡ at_time t e) ks index.rises
      (λ k u is. let h = index.holds k (subst IsSome (sym is) refl) in let b = bounded k.no (subst IsSome (sym h.is) refl) in in_time t (k, u) b.0 b.1))

  pub first_due_is : (o : Option Due) → IsFirstFrom due_cmp (low_due 0) ks o → least ltb (map (λ (e : EntryNo × Wait). e.1.due) ws) ≡ option_map (λ (d : Due). d.time) o
  first_due_is None none = ap (λ l. least ltb (map (λ (e : EntryNo × Wait). e.1.due) l)) (no_release ws refl)
    where
      no_release : (l : List (EntryNo × Wait)) → ws ≡ l → ws ≡ []
      no_release [] e = e
      no_release (f ∷ fs) e =
          let is : value_of number_cmp f.0 ws ≡ Some f.1 = ap (value_of number_cmp f.0) e ∙ head_value number_cmp number_total number_tied f fs in
          absurd (cc (none (due_key f.0 f.1) (key_there f.0 f.1 is), from_zero (due_key f.0 f.1)))
  first_due_is (Some k) some =
      let h = index.holds k some.0 in
      let time : h.wait.due ≡ k.time = ap (λ (d : Due). d.time) h.at in
      least_by ws rises k.no h.wait h.is (each_entry number_cmp number_total number_tied (λ (e : EntryNo × Wait). h.wait.due ≤ e.1.due) ws rises
      (λ m v e. omega (arith, time, not_sooner (due_key m v) k (some.2 (due_key m v) (key_there m v e) (from_zero (due_key m v))))))
      ∙ ap Some time

  -- none is due at a time where the first key from that time on is of another
  pub none_due : (t : ℕ) (o : Option Due) → IsFirstFrom due_cmp (low_due t) ks o → ((k : Due) → o ≡ Some k → k.time ≢ t) → IsOneOf (is_due t) ws None
  none_due t o first other n w is = at (eqb w.due t) refl
    where
      case : (o : Option Due) → IsFirstFrom due_cmp (low_due t) ks o → ((k : Due) → o ≡ Some k → k.time ≢ t) → w.due ≡ t → ⊥
      case None none other same = cc (none (due_key n w) (key_there n w is), ap (λ x. is_lt (due_cmp (record { time = x; no = n }) (low_due t))) same, from_low t n)
      case (Some k) some other same =
          let from : is_lt (due_cmp (due_key n w) (low_due t)) ≡ false = ap (λ x. is_lt (due_cmp (record { time = x; no = n }) (low_due t))) same ∙ from_low t n in
          other k refl (omega (arith, not_sooner (due_key n w) k (some.2 (due_key n w) (key_there n w is) from), not_sooner k (low_due t) some.1, same))

      at : (b : Bool) → eqb w.due t ≡ b → eqb w.due t ≡ false
      at false e = e
      at true e = absurd (case o first other (eqb-true w.due t e))

  pub one_due : (t : ℕ) (k : Due) → IsSome (value_of due_cmp k ks) → k.time ≡ t → IsOneOf (is_due t) ws (Some k.no)
  one_due t k has same = let h = index.holds k has in (h.wait, h.is, eq-eqb h.wait.due t (ap (λ (d : Due). d.time) h.at ∙ same))

  -- the numbers of the keys between the bounds of a time
  numbers_of : (t : ℕ) (ds : List Due) → ds ≡ map (λ (e : Due × Unit {0}). e.0) (between due_cmp (low_due t) (high_due t) ks)
      → map (λ (d : Due). d.no) ds ≡ map (λ (e : EntryNo × Wait). e.0) (filter (is_due t) ws)
  numbers_of t ds e = ap (map (λ (d : Due). d.no)) (e ∙ ap (map (λ (e : Due × Unit {0}). e.0)) (between_is t)) ∙ left (filter (at_time t) ks) ∙ ap (map (λ (e : EntryNo × Unit {0}). e.0)) (same_numbers ws ks rises index t) ∙ right (filter (is_due t) ws)
    where
      left : (l : List (Due × Unit {0})) → map (λ (d : Due). d.no) (map (λ (e : Due × Unit {0}). e.0) l) ≡ map (λ (e : EntryNo × Unit {0}). e.0) (map numbered l)
      left [] = refl
      left (x ∷ l) = ap (λ m. x.0.no ∷ m) (left l)

      right : (l : List (EntryNo × Wait)) → map (λ (e : EntryNo × Unit {0}). e.0) (map bare l) ≡ map (λ (e : EntryNo × Wait). e.0) l
      right [] = refl
      right (x ∷ l) = ap (λ m. x.0 ∷ m) (right l)

  pub numbers_are : {E : Type 0} (t : ℕ) (r : Result (Vec Due Global) E) → IfOk r (λ v. v.items ≡ map (λ (e : Due × Unit {0}). e.0) (between due_cmp (low_due t) (high_due t) ks))
      → IfOk r (λ v. map (λ (d : Due). d.no) v.items ≡ map (λ (e : EntryNo × Wait). e.0) (filter (is_due t) ws))
  numbers_are t (Ok v) h = numbers_of t v.items h
  numbers_are t (Err e) h = tt

-- ---- tags

abbrev pub low_tag : ℕ → ℤ → Tag
low_tag x id = record { chan = x; id = id; no = first_no }

pub low_is : (t : Tag) → t.no ≡ first_no → t ≡ low_tag t.chan t.id
low_is t e = λ i. record { chan = t.chan; id = t.id; no = e i }

tag_by : (x y : ℕ) (a b : ℤ) (n m : EntryNo) (c d : Ordering) → nat_cmp x y ≡ c → int_cmp a b ≡ d → tag_cmp (record { chan = x; id = a; no = n }) (record { chan = y; id = b; no = m }) ≡ ordering_then c (ordering_then d (number_cmp n m))
tag_by x y a b n m c d e f = ap (λ o. ordering_then o (ordering_then (int_cmp a b) (number_cmp n m))) e ∙ ap (λ o. ordering_then c (ordering_then o (number_cmp n m))) f

tag_low : (x : ℕ) (id : ℤ) (n : EntryNo) → is_lt (tag_cmp (record { chan = x; id = id; no = n }) (low_tag x id)) ≡ false
tag_low x id n = ap is_lt (tag_by x x id id n first_no Equal Equal (tied_itself nat_cmp_total x) (tied_itself int_cmp_total id)) ∙ from_first n

-- a key between two of one channel and first value is of those too
same_tag : (x : ℕ) (id : ℤ) (n : EntryNo) (k : Tag) → is_lt (tag_cmp k (low_tag x id)) ≡ false → is_lt (tag_cmp (record { chan = x; id = id; no = n }) k) ≡ false → (k.chan ≡ x) × (k.id ≡ id)
same_tag x id n k from upto = by_chan (nat_cmp k.chan x) refl
  where
    by_id : nat_cmp k.chan x ≡ Equal → (d : Ordering) → int_cmp k.id id ≡ d → (k.chan ≡ x) × (k.id ≡ id)
    by_id e Less f = absurd (cc (from, ap is_lt (tag_by k.chan x k.id id k.no first_no Equal Less e f)))
    by_id e Equal f = (same_nat k.chan x e, same_int_is k.id id f)
    by_id e Greater f =
        let same : nat_cmp x k.chan ≡ Equal = nat_cmp_total.antisymm x k.chan ∙ ap ordering_reverse e in
        let less : int_cmp id k.id ≡ Less = int_cmp_total.antisymm id k.id ∙ ap ordering_reverse f in
        absurd (cc (upto, ap is_lt (tag_by x k.chan id k.id n k.no Equal Less same less)))

    by_chan : (c : Ordering) → nat_cmp k.chan x ≡ c → (k.chan ≡ x) × (k.id ≡ id)
    by_chan Less e = absurd (cc (from, ap (λ o. is_lt (ordering_then o (ordering_then (int_cmp k.id id) (number_cmp k.no first_no)))) e))
    by_chan Equal e = by_id e (int_cmp k.id id) refl
    by_chan Greater e =
        let less : nat_cmp x k.chan ≡ Less = nat_cmp_total.antisymm x k.chan ∙ ap ordering_reverse e in
        absurd (cc (upto, ap (λ o. is_lt (ordering_then o (ordering_then (int_cmp id k.id) (number_cmp n k.no)))) less))

both : (a b : Bool) → (a && b) ≡ true → (a ≡ true) × (b ≡ true)
both true b e = (refl, e)
both false b e = absurd (cc)

module _ (ws : List (EntryNo × Wait)) (ts : List (Tag × Unit {0})) (index : Indexes tag_cmp tag_no tag_key ws ts) where
  pub none_tagged : (x : ℕ) (id : ℤ) (o : Option Tag) → IsFirstFrom tag_cmp (low_tag x id) ts o → ((k : Tag) → o ≡ Some k → k.chan ≡ x → k.id ≡ id → ⊥) → IsOneOf (is_tagged x id) ws None
  none_tagged x id o first other n w is = at (is_tagged x id (n, w)) refl
    where
      case : (o : Option Tag) → IsFirstFrom tag_cmp (low_tag x id) ts o → ((k : Tag) → o ≡ Some k → k.chan ≡ x → k.id ≡ id → ⊥) → w.chan ≡ x → first_of w.values ≡ id → ⊥
      case o first other here this = go o first other
        where
          there : IsSome (value_of tag_cmp (tag_key n w) ts)
          there = has_key_of tag_cmp tag_total tag_tied tag_no tag_key (λ n w. refl) ws ts n w index is

          key : tag_key n w ≡ record { chan = x; id = id; no = n }
          key = λ i. record { chan = here i; id = this i; no = n }

          from : is_lt (tag_cmp (tag_key n w) (low_tag x id)) ≡ false
          from = ap (λ t. is_lt (tag_cmp t (low_tag x id))) key ∙ tag_low x id n

          go : (o : Option Tag) → IsFirstFrom tag_cmp (low_tag x id) ts o → ((k : Tag) → o ≡ Some k → k.chan ≡ x → k.id ≡ id → ⊥) → ⊥
          go None none other = cc (none (tag_key n w) there, from)
          go (Some k) some other =
              let s = same_tag x id n k some.1 (ap (λ t. is_lt (tag_cmp t k)) (sym key) ∙ some.2 (tag_key n w) there from) in
              other k refl s.0 s.1

      at : (b : Bool) → is_tagged x id (n, w) ≡ b → is_tagged x id (n, w) ≡ false
      at false e = e
      at true e = let s = both _ _ e in absurd (case o first other (eqb-true w.chan x s.0) (one_int (first_of w.values) id s.1))

  pub one_tagged : (x : ℕ) (id : ℤ) (k : Tag) → IsSome (value_of tag_cmp k ts) → k.chan ≡ x → k.id ≡ id → IsOneOf (is_tagged x id) ws (Some k.no)
  one_tagged x id k has here this =
      let h = index.holds k has in
      (h.wait, h.is, ap (λ b. b && same_int (first_of h.wait.values) id) (eq-eqb h.wait.chan x (ap (λ (t : Tag). t.chan) h.at ∙ here)) ∙ ap (same_int (first_of h.wait.values)) (sym (ap (λ (t : Tag). t.id) h.at ∙ this)) ∙ int_self (first_of h.wait.values))
