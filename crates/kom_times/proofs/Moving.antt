-- An environment stands for each legal record: it follows each entry.
use Rattle.std.proofs.Common.{◌≡◌, ℕ, suc, ◌+◌, ◌<◌, ◌≤◌, Bool, true, false, cond, not, ◌&&◌, refl, sym, ap, ◌∙◌, subst, List, [], ◌∷◌, ◌++◌, length, map, filter, Option, Some, None, if◌then◌else◌, ◌⊎◌, inl, inr, arith}
use Rattle.std.specs.Prelude.{nat_lt, unwrap_or, ◌==◌}
use Rattle.std.specs.List.{filter_map, cons_option, list_all}
use Rattle.std.specs.Option.{option_map_or}
use Rattle.std.proofs.lemmas.Bool.{ltb-true, lt-ltb, eq-eqb}
use Rattle.std.proofs.lemmas.List.{append_assoc, append-nil}
use Rattle.kom_base.specs.declared.numbers.EntryNo.{EntryNo}
use Rattle.kom_base.specs.Numbers.{is_earlier}
use Rattle.kom_base.specs.Lists.{find_map, first, if_so, least}
use Rattle.kom_lang.specs.Declarations.{Declarations}
use Rattle.kom_record.specs.Model.{model}
use Rattle.kom_record.specs.declared.plan.Plan.{Plan}
use Rattle.kom_record.specs.declared.plan.Raise.{Raise}
use Rattle.kom_record.specs.declared.entry.Release.{Release}
use Rattle.kom_record.specs.declared.entry.Entry.TheVariants.{Took, Did, Moved}
use Rattle.kom_record.specs.Entries.{History}
use Rattle.kom_record.specs.Legal.{IsLegal}
use Rattle.kom_record.specs.Time.{Outgoing, Scheduled, clock, due, is_still_due, is_unraised, is_message, is_set_timer, is_cancelled, message, timer, outgoing, outgoing_of, pending, scheduled, time_of, times, times_after}
use Rattle.kom_env.specs.Raised.{is_unraised as is_to_come}
use Rattle.kom_env.specs.Outside.{Outside, absorbed, batch_of, due_of, moved_on, next_time, of_raise, of_wait, pending_of}
use Rattle.kom_laws.proofs.Members.{IsIn, here, there, least_in, made_by, Some-injective}
use Rattle.kom_laws.proofs.ListFacts.{in_cons}
use Rattle.kom_laws.proofs.Rising.{in_append}
use Rattle.kom_laws.proofs.TimeLaws.{out_below, outgoing_moved}
use Rattle.kom_laws.proofs.Unaffected.{and_both, and_make, or_left, or_right}
use Rattle.kom_times.specs.Following.{IsButForRoom, come_to, with_all}
use Rattle.kom_times.proofs.Room.{moves}
use Rattle.kom_times.specs.Laws.{Releases, Tells}
use Rattle.kom_times.proofs.Outward.{IsOut, Rise, outgoing_rises}
use Rattle.kom_times.proofs.Standing.{Stands, GoesAfter, stands_more}

-- ---- lists

in_filter_at : {X : Type 0} (f : X → Bool) (x y : X) (xs : List X) (b : Bool) → f y ≡ b → (IsIn x (filter f xs) → IsIn x xs × (f x ≡ true)) → IsIn x (cond b (y ∷ filter f xs) (filter f xs)) → IsIn x (y ∷ xs) × (f x ≡ true)
in_filter_at f x x' xs true e rest here = (here, e)
in_filter_at f x y xs true e rest (there k) = let r = rest k in (there r.0, r.1)
in_filter_at f x y xs false e rest k = let r = rest k in (there r.0, r.1)

in_filter : {X : Type 0} (f : X → Bool) (x : X) (xs : List X) → IsIn x (filter f xs) → IsIn x xs × (f x ≡ true)
in_filter f x [] h = elim h [ ]
in_filter f x (y ∷ xs) h = in_filter_at f x y xs (f y) refl (in_filter f x xs) h

from_map : {X Y : Type 0} (f : X → Y) (xs : List X) (y : Y) → IsIn y (map f xs) → (x : X) × IsIn x xs × (f x ≡ y)
from_map f [] y h = elim h [ ]
from_map f (x ∷ xs) y' here = (x, here, refl)
from_map f (x ∷ xs) y (there h) = let r = from_map f xs y h in (r.0, there r.1, r.2)

in_all : {X : Type 0} (f : X → Bool) (x : X) (xs : List X) → list_all f xs ≡ true → IsIn x xs → f x ≡ true
in_all f x [] e h = elim h [ ]
in_all f x (x' ∷ xs) e here = (and_both _ _ e).0
in_all f x (y ∷ xs) e (there h) = in_all f x xs (and_both _ _ e).1 h

all_of : {X : Type 0} (f : X → Bool) (xs : List X) → ((x : X) → IsIn x xs → f x ≡ true) → list_all f xs ≡ true
all_of f [] h = refl
all_of f (x ∷ xs) h = and_make _ _ (h x here) (all_of f xs (λ y m. h y (there m)))

filter_both : {X : Type 0} (f g h : X → Bool) (xs : List X) → ((x : X) → IsIn x xs → h x ≡ (f x && g x)) → filter h xs ≡ filter f (filter g xs)
filter_both f g h [] e = refl
filter_both f g h (x ∷ xs) e = ap (λ b. cond b (x ∷ filter h xs) (filter h xs)) (e x here) ∙ at (f x) (g x) refl (filter_both f g h xs (λ y m. e y (there m)))
  where
    at : (a b : Bool) → f x ≡ a → filter h xs ≡ filter f (filter g xs) → cond (a && b) (x ∷ filter h xs) (filter h xs) ≡ filter f (cond b (x ∷ filter g xs) (filter g xs))
    at true true p r = ap (λ q. x ∷ q) r ∙ sym (ap (λ t. cond t (x ∷ filter f (filter g xs)) (filter f (filter g xs))) p)
    at true false p r = r
    at false true p r = r ∙ sym (ap (λ t. cond t (x ∷ filter f (filter g xs)) (filter f (filter g xs))) p)
    at false false p r = r

in_so : {X : Type 0} (b : Bool) (x y : X) → IsIn x (if_so b (y ∷ [])) → x ≡ y
in_so true x x' here = refl
in_so true x y (there h) = elim h [ ]
in_so false x y h = elim h [ ]

-- ---- times

-- the first of some times that are up to it tells of all
raises_same : (last : Option ℕ) (ts : List ℕ) → first ts ≡ last → ((u : ℕ) → IsIn u ts → u ≤ unwrap_or last 0) → (t : ℕ) → option_map_or (λ u. nat_lt u t) last true ≡ list_all (λ u. nat_lt u t) ts
raises_same last [] e h t = ap (λ o. option_map_or (λ u. nat_lt u t) o true) (sym e)
raises_same last (u ∷ ts) e h t = ap (λ o. option_map_or (λ u. nat_lt u t) o true) (sym e) ∙ at (nat_lt u t) refl
  where
    at : (b : Bool) → nat_lt u t ≡ b → b ≡ (b && list_all (λ u. nat_lt u t) ts)
    at true q = sym (all_of (λ u. nat_lt u t) ts (λ v m. let k = h v (there m) in let l = ltb-true u t q in let f : unwrap_or last 0 ≡ u = ap (λ o. unwrap_or o 0) (sym e) in lt-ltb v t (omega (arith, k, l, f))))
    at false q = refl

picked : (last : Option ℕ) (ts : List ℕ) (rs : List Raise) → ((t : ℕ) → option_map_or (λ u. nat_lt u t) last true ≡ list_all (λ u. nat_lt u t) ts)
    → map of_raise (filter (is_to_come last) rs) ≡ filter_map {Y = ℕ × Release} (λ r. if list_all (λ t. nat_lt t r.time) ts then Some (r.time, record { chan = r.chan; event = r.event }) else None) rs
picked last ts [] h = refl
picked last ts (r ∷ rs) h = at (is_to_come last r) (list_all (λ t. nat_lt t r.time) ts) (h r.time) (picked last ts rs h)
  where
    at : (a b : Bool) → a ≡ b → map of_raise (filter (is_to_come last) rs) ≡ filter_map {Y = ℕ × Release} (λ r. if list_all (λ t. nat_lt t r.time) ts then Some (r.time, record { chan = r.chan; event = r.event }) else None) rs
        → map of_raise (cond a (r ∷ filter (is_to_come last) rs) (filter (is_to_come last) rs))
        ≡ cons_option (if b then Some (r.time, record { chan = r.chan; event = r.event }) else None) (filter_map {Y = ℕ × Release} (λ r. if list_all (λ t. nat_lt t r.time) ts then Some (r.time, record { chan = r.chan; event = r.event }) else None) rs)
    at true true e k = ap (λ q. of_raise r ∷ q) k
    at false false e k = k
    at true false e k = absurd cc
    at false true e k = absurd cc

module _ (S : Declarations) (Z : Plan) where
  -- what is scheduled was asked for by an event that went out, and is due then or later
  scheduled_at : (os : List Outgoing) (q : Scheduled) (o : Outgoing) (one two : Bool) (k : ℕ) (rest : List Scheduled) → (IsIn q rest → (p : Outgoing) × IsIn p os × (q.no ≡ p.no) × (p.at ≤ q.due))
      → IsIn q (if_so one (timer S o ∷ [])) ⊎ IsIn q (if_so two (message S Z k o ∷ []) ++ rest)
      → (p : Outgoing) × IsIn p (o ∷ os) × (q.no ≡ p.no) × (p.at ≤ q.due)
  unfolding model
  scheduled_at os q o one two k rest from (inl a) = let e = in_so one q (timer S o) a in let d : q.due ≡ o.at + _ = ap (λ w. w.due) e in (o, here, ap (λ w. w.no) e, omega (arith, d))
  scheduled_at os q o one two k rest from (inr b) = elim (in_append q (if_so two (message S Z k o ∷ [])) rest b) [
    | inl c ↦ let e = in_so two q (message S Z k o) c in let d : q.due ≡ o.at + _ = ap (λ w. w.due) e in (o, here, ap (λ w. w.no) e, omega (arith, d))
    | inr d ↦ let r = from d in (r.0, there r.1, r.2, r.3)
  ]

  scheduled_from : (all os : List Outgoing) (k : ℕ) (q : Scheduled) → IsIn q (scheduled S Z all k os) → (o : Outgoing) × IsIn o os × (q.no ≡ o.no) × (o.at ≤ q.due)
  unfolding model
  scheduled_from all [] k q h = elim h [ ]
  scheduled_from all (o ∷ os) k q h =
      scheduled_at os q o (is_set_timer S o && not (is_cancelled S all o)) (is_message S o) k (scheduled S Z all (if is_message S o then suc k else k) os)
      (scheduled_from all os (if is_message S o then suc k else k) q) (in_append q (if_so (is_set_timer S o && not (is_cancelled S all o)) (timer S o ∷ [])) _ h)

  -- ---- the times rise

  -- the clock is the greatest time, and what went out did so at the greatest time till then
  pub record IsTimely (P : History) : Type 0 where
    pub up : (u : ℕ) → IsIn u (times P) → u ≤ clock P
    pub out : (o : Outgoing) → IsIn o (outgoing S P) → (u : ℕ) → IsIn u (times P) → IsIn u (times_after P o.no.position) ⊎ (u ≤ o.at)

  first_time : (P : History) → first (times P) ≡ find_map time_of P
  unfolding model
  first_time [] = refl
  first_time (Took w c item ∷ P) = first_time P
  first_time (Did w c took o to places ∷ P) = first_time P
  first_time (Moved w t rs ∷ P) = refl

  -- what is pending is due at no time before the latest
  raise_after : (P : History) (r : Raise) (u : ℕ) → is_unraised S P r ≡ true → IsIn u (times P) → u ≤ r.time
  unfolding model
  raise_after P r u e m = let l = ltb-true u r.time (in_all (λ t. nat_lt t r.time) u (times P) e m) in omega (arith, l)

  wait_after : (P : History) (s : Scheduled) (u : ℕ) → IsTimely P → IsIn s (scheduled S Z (outgoing S P) 0 (outgoing S P)) → is_still_due S P s ≡ true → IsIn u (times P) → u ≤ s.due
  unfolding model
  wait_after P s u h m e k =
      let f = scheduled_from (outgoing S P) (outgoing S P) 0 s m in
      elim (h.out f.0 f.1 u k) [
        | inl a ↦ let l = ltb-true u s.due (in_all (λ t. nat_lt t s.due) u (times_after P s.no.position) e (subst (λ n. IsIn u (times_after P n.position)) (sym f.2) a)) in omega (arith, l)
        | inr b ↦ omega (arith, b, f.3)
      ]

  chosen_raise : (P : History) (r : Raise) (q : ℕ × Release) (b : Bool) → is_unraised S P r ≡ b → (if b then Some (r.time, record { chan = r.chan; event = r.event }) else None) ≡ Some q → (is_unraised S P r ≡ true) × (r.time ≡ q.0)
  chosen_raise P r q true e h = (e, ap (λ z. z.0) (Some-injective h))
  chosen_raise P r q false e h = absurd cc

  pending_after : (P : History) (q : ℕ × Release) (u : ℕ) → IsTimely P → IsIn q (pending S Z P) → IsIn u (times P) → u ≤ q.0
  unfolding model
  pending_after P q u h m k = elim (in_append q (filter_map {Y = ℕ × Release} (λ r. if is_unraised S P r then Some (r.time, record { chan = r.chan; event = r.event }) else None) Z.raises) _ m) [
    | inl a ↦
        let f = made_by (λ r. if is_unraised S P r then Some (r.time, record { chan = r.chan; event = r.event }) else None) Z.raises q a in
        let c = chosen_raise P f.0 q (is_unraised S P f.0) refl f.1 in
        let l = raise_after P f.0 u c.0 k in
        omega (arith, l, c.1)
    | inr b ↦
        let f = from_map (λ s. (s.due, s.release)) (filter (is_still_due S P) (scheduled S Z (outgoing S P) 0 (outgoing S P))) q b in
        let g = in_filter (is_still_due S P) f.0 (scheduled S Z (outgoing S P) 0 (outgoing S P)) f.1 in
        let l = wait_after P f.0 u h g.0 g.1 k in
        let e : f.0.due ≡ q.0 = ap (λ z. z.0) f.2 in
        omega (arith, l, e)
  ]

  due_after : (P : History) (t u : ℕ) → IsTimely P → due S Z P ≡ Some t → IsIn u (times P) → u ≤ t
  unfolding model
  due_after P t u h e k =
      let m = from_map (λ p. p.0) (pending S Z P) t (least_in nat_lt (map (λ p. p.0) (pending S Z P)) t e) in
      let l = pending_after P m.0 u h m.1 k in
      omega (arith, l, m.2)

  at_length : (P : History) (n : ℕ) (os : List Outgoing) (o : Outgoing) → Rise S P n os → IsIn o os → IsOut S P o
  at_length P n [] o r h = elim h [ ]
  at_length P n (o ∷ os) o' r here = r.0
  at_length P n (p ∷ os) o r (there h) = at_length P (p.no.place + 1) os o r.2 h

  in_after : (P : History) (w t : ℕ) (rs : List Release) (i u : ℕ) → i < length P → IsIn u (t ∷ times_after P i) → IsIn u (times_after (Moved w t rs ∷ P) i)
  unfolding model
  in_after P w t rs i u h m = subst (λ b. IsIn u (if b then t ∷ times_after P i else times_after P i)) (sym (lt-ltb i (length P) h)) m

  pub timely : (P : History) → IsLegal S Z P → IsTimely P
  unfolding model
  timely [] l = record { up = λ u h. elim h [ ]; out = λ o h u k. elim h [ ] }
  timely (Took w c item ∷ P) l = let r = timely P l.0 in record { up = r.up; out = r.out }
  timely (Did w c took q to places ∷ P) l =
      let r = timely P l.0 in
      record {
        up = r.up;
        out = λ o h u k. elim (in_append o (outgoing S P) (outgoing_of S P (Did w c took q to places)) h) [
          | inl a ↦ r.out o a u k
          | inr b ↦ inr (let e = (at_length P 0 (outgoing_of S P (Did w c took q to places)) o (outgoing_rises S P (Did w c took q to places)) b).at in let g = r.up u k in omega (arith, e, g))
        ];
      }
  timely (Moved w t rs ∷ P) l =
      let r = timely P l.0 in
      record {
        up = λ u h. elim (in_cons u t (times P) h) [ inl e ↦ omega (arith, e) | inr m ↦ due_after P t u r l.1.due m ];
        out = λ o h u k.
            let old : IsIn o (outgoing S P) = subst (IsIn o) (ap (λ ys. outgoing S P ++ ys) (outgoing_moved S Z P w t rs) ∙ append-nil (outgoing S P)) h in
            let low = out_below S Z P o old in
            elim (in_cons u t (times P) k) [
              | inl e ↦ inl (in_after P w t rs o.no.position u low (subst (λ z. IsIn z (t ∷ times_after P o.no.position)) (sym e) here))
              | inr m ↦ elim (r.out o old u m) [ inl a ↦ inl (in_after P w t rs o.no.position u low (there a)) | inr b ↦ inr b ]
            ];
      }

  -- ---- what the environment tells

  pub tells : (P : History) (v : Outside) → IsTimely P → Stands S Z P (outgoing S P) v → Tells S Z P v
  unfolding model
  tells P v t h =
      let raises : map of_raise (filter (is_to_come v.last) v.plan.raises) ≡ filter_map {Y = ℕ × Release} (λ r. if is_unraised S P r then Some (r.time, record { chan = r.chan; event = r.event }) else None) Z.raises =
      ap (λ z. map of_raise (filter (is_to_come v.last) z.raises)) h.plan
      ∙ ap (λ o. map of_raise (filter (is_to_come o) Z.raises)) h.last
      ∙ picked (find_map time_of P) (times P) Z.raises (raises_same (find_map time_of P) (times P) (first_time P) t.up) in
      let same : pending_of v ≡ pending S Z P =
      ap (λ r. r ++ map of_wait v.waits) raises
      ∙ ap (λ r. filter_map {Y = ℕ × Release} (λ r. if is_unraised S P r then Some (r.time, record { chan = r.chan; event = r.event }) else None) Z.raises ++ map of_wait r) h.waits in
      record {
        clock = ap (λ o. unwrap_or o 0) h.last;
        waits = h.waits;
        pending = same;
        due = ap (λ ps. least nat_lt (map (λ p. p.0) ps)) same;
        batch = λ t. ap (λ ps. filter_map (λ p. if p.0 == t then Some p.1 else None) ps) same;
      }

  -- ---- a Did

  -- what went out by earlier entries, and by this one in lesser places, is earlier
  abbrev AreBefore : History → ℕ → List Outgoing → Type 0
  AreBefore P n all = (p : Outgoing) → IsIn p all → (p.no.position < length P) ⊎ ((p.no.position ≡ length P) × (p.no.place < n))

  pub before_is : (P : History) (n : ℕ) (m o : EntryNo) → (m.position < length P) ⊎ ((m.position ≡ length P) × (m.place < n)) → o.position ≡ length P → n ≤ o.place → is_earlier m o ≡ true
  before_is P n m o (inl h) e k = or_left _ _ (lt-ltb m.position o.position (omega (arith, h, e)))
  before_is P n m o (inr h) e k = or_right _ _ (and_make _ _ (eq-eqb m.position o.position (h.0 ∙ sym e)) (lt-ltb m.place o.place (let a = h.1 in omega (arith, a, k))))

  before_more : (P : History) (n : ℕ) (all : List Outgoing) (o : Outgoing) → AreBefore P n all → IsOut S P o → n ≤ o.no.place → AreBefore P (o.no.place + 1) (all ++ o ∷ [])
  before_more P n all o h e k p m = elim (in_append p all (o ∷ []) m) [
    | inl a ↦ elim (h p a) [ inl b ↦ inl b | inr b ↦ inr (b.0, let c = b.1 in omega (arith, c, k)) ]
    | inr a ↦ elim (in_cons p o [] a) [ inl b ↦ inr (ap (λ q. q.no.position) b ∙ e.position, let c : p.no.place ≡ o.no.place = ap (λ q. q.no.place) b in omega (arith, c)) | inr b ↦ elim b [ ] ]
  ]

  pub stands_all : (P : History) (n : ℕ) (all os : List Outgoing) (v : Outside) → Stands S Z P all v → AreBefore P n all → Rise S P n os → Stands S Z P (all ++ os) (with_all v os)
  stands_all P n all [] v h b r = subst (λ z. Stands S Z P z v) (sym (append-nil all)) h
  stands_all P n all (o ∷ os) v h b r =
      let g : GoesAfter S Z P all o = record { position = r.0.position; at = r.0.at; after = λ p m. before_is P n p.no o.no (b p m) r.0.position r.1 } in
      subst (λ z. Stands S Z P z (with_all (absorbed v o.chan o.no o.event) os)) (append_assoc all (o ∷ []) os)
      (stands_all P (o.no.place + 1) (all ++ o ∷ []) os (absorbed v o.chan o.no o.event) (stands_more S Z P all o v h g) (before_more P n all o b r.0 r.1) r.2)

  still_moved : (P : History) (w t : ℕ) (rs : List Release) (s : Scheduled) → s.no.position < length P → is_still_due S (Moved w t rs ∷ P) s ≡ (nat_lt t s.due && is_still_due S P s)
  unfolding model
  still_moved P w t rs s h = ap (λ b. list_all (λ u. nat_lt u s.due) (if b then t ∷ times_after P s.no.position else times_after P s.no.position)) (lt-ltb s.no.position (length P) h)

  pub stands : (P : History) → IsLegal S Z P → Stands S Z P (outgoing S P) (come_to S Z P)
  unfolding model come_to
  stands [] l = record { services = refl; plan = refl; last = refl; waits = refl; generator = refl }
  stands (Took w c item ∷ P) l = let r = stands P l.0 in record { services = r.services; plan = r.plan; last = r.last; waits = r.waits; generator = r.generator }
  stands (Did w c took q to places ∷ P) l =
      let r = stands_all P 0 (outgoing S P) (outgoing_of S P (Did w c took q to places)) (come_to S Z P) (stands P l.0) (λ p m. inl (out_below S Z P p m)) (outgoing_rises S P (Did w c took q to places)) in
      record { services = r.services; plan = r.plan; last = r.last; waits = r.waits; generator = r.generator }
  stands (Moved w t rs ∷ P) l =
      let r = stands P l.0 in
      let due_is : due_of (come_to S Z P) ≡ Some t = (tells P (come_to S Z P) (timely P l.0) r).due ∙ l.1.due in
      let time : next_time (come_to S Z P) ≡ t = ap (λ o. unwrap_or o 0) due_is in
      let same : outgoing S P ++ outgoing_of S P (Moved w t rs) ≡ outgoing S P = ap (λ ys. outgoing S P ++ ys) (outgoing_moved S Z P w t rs) ∙ append-nil (outgoing S P) in
      subst (λ z. Stands S Z (Moved w t rs ∷ P) z (moved_on (come_to S Z P))) (sym same)
      (record {
        services = r.services;
        plan = r.plan;
        generator = r.generator;
        last = ap Some time;
        waits =
            ap (λ n. filter (λ s. nat_lt n s.due) (come_to S Z P).waits) time
            ∙ ap (filter (λ s. nat_lt t s.due)) r.waits
            ∙ sym (filter_both (λ s. nat_lt t s.due) (is_still_due S P) (is_still_due S (Moved w t rs ∷ P)) (scheduled S Z (outgoing S P) 0 (outgoing S P))
            (λ s m. let f = scheduled_from (outgoing S P) (outgoing S P) 0 s m in let g = out_below S Z P f.0 f.1 in let e = ap (λ n. n.position) f.2 in still_moved P w t rs s (omega (arith, g, e))));
      })

  pub told : (P : History) (v : Outside) → IsLegal S Z P → v ≡ record (come_to S Z P) { spare = v.spare } → Tells S Z P v
  told P v l h =
      let r = tells P (come_to S Z P) (timely P l) (stands P l) in
      subst (Tells S Z P) (sym h) (record { clock = r.clock; waits = r.waits; pending = r.pending; due = r.due; batch = r.batch })

  pub releases : (P : History) (w t : ℕ) (rs : List Release) (v u : Outside) → IsLegal S Z (Moved w t rs ∷ P) → IsButForRoom (come_to S Z P) v → IsButForRoom (moved_on v) u → Releases S Z P w t rs v u
  unfolding model come_to
  releases P w t rs v u l h k =
      let r = told P v l.0 h in
      let time : next_time v ≡ t = ap (λ o. unwrap_or o 0) (r.due ∙ l.1.due) in
      record { time = time; all = ap (batch_of v) time ∙ r.batch t ∙ sym l.1.all_released; follows = moves (come_to S Z P) v u h k }
