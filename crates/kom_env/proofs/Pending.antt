-- What is pending, by the calendar and the agenda.
use Rattle.std.proofs.Common.{◌≡◌, ◌≢◌, ℤ, pos, negsuc, slice_index_or, ℕ, suc, ◌+◌, ◌*◌, ◌<◌, ◌≤◌, ◌^◌, min, Bool, true, false, cond, not, ◌&&◌, ◌||◌, eqb, ltb, List, [], ◌∷◌, ◌++◌, map, length, Option, Some, None, ◌⊎◌, ⊎_elim, refl, sym, ap, ◌∙◌, subst, arith, length-append}
use Rattle.std.specs.List.{filter, filter_map, cons_option, list_all}
use Rattle.std.specs.Option.{option_map_or, unwrap_or, is_some, IsSome}
use Rattle.std.specs.Ordering.{nat_cmp, is_lt, is_eq, ordering_then, ordering_reverse}
use Rattle.std.specs.declared.cmp.Ordering.{Ordering}
use Rattle.std.specs.declared.cmp.Ordering.TheVariants.{Less, Equal, Greater}
use Rattle.std.specs.Cmp.{nat_cmp_total, tied_itself}
use Rattle.std.proofs.lemmas.Bool.{eq-eqb, eqb-true, ne_eqb, lt-ltb, le-ltb, ltb-true, ltb-false, cases_lt}
use Rattle.std.proofs.lemmas.List.Elements.{filter_map-append}
use Rattle.kom_base.specs.Lists.{least, lesser}
use Rattle.kom_base.specs.Numbers.{is_earlier}
use Rattle.kom_base.specs.declared.numbers.EntryNo.{EntryNo}
use Rattle.kom_base.specs.declared.values.Event.{Event}
use Rattle.kom_index.specs.Entries.{AllKeys, value_of, inserted}
use Rattle.kom_record.specs.declared.plan.Raise.{Raise}
use Rattle.kom_record.specs.declared.entry.Release.{Release}
use Rattle.kom_record.specs.Time.{Scheduled, Outgoing, clamped, first_value}
use Rattle.rand_pcg.specs.Lcg.{Lcg}
use Rattle.rand_pcg.specs.Pcg.{pcg32}
use Rattle.kom_env.specs.declared.service.Service.{Service}
use Rattle.kom_env.specs.declared.service.Service.TheVariants.{Timer, Network}
use Rattle.kom_env.specs.declared.agenda.Wait.{Wait}
use Rattle.kom_env.specs.Firsts.{first_of}
use Rattle.kom_env.specs.Keys.{number_cmp, number_total}
use Rattle.kom_env.specs.Raised.{is_unraised, is_raised_at, released, admitted}
use Rattle.kom_env.specs.Waiting.{is_due, is_tagged, release_of, scheduled, timer_wait, message_wait, after_timer}
use Rattle.kom_env.specs.Outside.{Outside, of_raise, of_wait, earlier_of, is_later, is_named, timer_of, message_of, serve, absorbed, service_at, clock_of, due_of, next_time, moved_on}
use Rattle.kom_env.specs.Seen.{AreUpTo, AreDueBy, AreRaisedBy, farthest}
use Rattle.kom_env.proofs.Ties.{number_tied, and_left, and_right}
use Rattle.kom_env.proofs.Placing.{below}
use Rattle.kom_env.proofs.Rising.{Each, above_none, inserted_last}
use Rattle.kom_env.proofs.Leasts.{least_append, least_bound, least_low}

-- all that is pending
abbrev pub all_of : Option ℕ → List Raise → List (EntryNo × Wait) → List (ℕ × Release)
all_of last rs es = map of_raise (filter (is_unraised last) rs) ++ map of_wait (map scheduled es)

abbrev pub pick : ℕ → ℕ × Release → Option Release
pick t p = cond (eqb p.0 t) (Some p.1) None

abbrev pub is_before : Option ℕ → ℕ → Bool
is_before last t = option_map_or (λ u. ltb u t) last true

-- ---- the times

wait_times : (es : List (EntryNo × Wait)) → map (λ (p : ℕ × Release). p.0) (map of_wait (map scheduled es)) ≡ map (λ (e : EntryNo × Wait). e.1.due) es
wait_times [] = refl
wait_times (e ∷ es) = ap (λ l. e.1.due ∷ l) (wait_times es)

pub times_are : (rs : List Raise) (es : List (EntryNo × Wait)) → map (λ (p : ℕ × Release). p.0) (map of_raise rs ++ map of_wait (map scheduled es)) ≡ map (λ (r : Raise). r.time) rs ++ map (λ (e : EntryNo × Wait). e.1.due) es
times_are [] es = wait_times es
times_are (r ∷ rs) es = ap (λ l. r.time ∷ l) (times_are rs es)

-- the least due time, by those of the two parts
pub due_is : (last : Option ℕ) (rs : List Raise) (es : List (EntryNo × Wait))
    → least ltb (map (λ (p : ℕ × Release). p.0) (all_of last rs es)) ≡ earlier_of (least ltb (map (λ (r : Raise). r.time) (filter (is_unraised last) rs))) (least ltb (map (λ (e : EntryNo × Wait). e.1.due) es))
due_is last rs es = ap (least ltb) (times_are (filter (is_unraised last) rs) es) ∙ least_append (map (λ (r : Raise). r.time) (filter (is_unraised last) rs)) (map (λ (e : EntryNo × Wait). e.1.due) es)

-- nothing is released where nothing is pending
pub none_pending : (ps : List (ℕ × Release)) (t : ℕ) → least ltb (map (λ (p : ℕ × Release). p.0) ps) ≡ None → filter_map (pick t) ps ≡ []
none_pending [] t h = refl
none_pending (p ∷ ps) t h = absurd (cc)

-- ---- the batch

abbrev no_release : List Release
no_release = []

raises_at : (last : Option ℕ) (t : ℕ) (rs : List Raise) → filter_map (pick t) (map of_raise (filter (is_unraised last) rs)) ≡ cond (is_before last t) (map released (filter (is_raised_at t) rs)) []
raises_at last t [] = elim (is_before last t) as (λ b. no_release ≡ cond b no_release no_release) [ true ↦ refl | false ↦ refl ]
raises_at last t (r ∷ rs) = at (is_unraised last r) (eqb r.time t) (is_before last t) refl refl refl (raises_at last t rs)
  where
    same : eqb r.time t ≡ true → is_unraised last r ≡ is_before last t
    same e = ap (λ n. option_map_or (λ u. ltb u n) last true) (eqb-true r.time t e)

    at : (u a b : Bool) → is_unraised last r ≡ u → eqb r.time t ≡ a → is_before last t ≡ b → filter_map (pick t) (map of_raise (filter (is_unraised last) rs)) ≡ cond (is_before last t) (map released (filter (is_raised_at t) rs)) []
        → filter_map (pick t) (map of_raise (filter (is_unraised last) (r ∷ rs))) ≡ cond (is_before last t) (map released (filter (is_raised_at t) (r ∷ rs))) []
    at true true true x y z rest =
        ap (λ u. filter_map (pick t) (map of_raise (cond u (r ∷ filter (is_unraised last) rs) (filter (is_unraised last) rs)))) x
        ∙ ap (λ a. cons_option (cond a (Some (released r)) None) (filter_map (pick t) (map of_raise (filter (is_unraised last) rs)))) y
        ∙ ap (λ l. released r ∷ l) (rest ∙ ap (λ b. cond b (map released (filter (is_raised_at t) rs)) []) z)
        ∙ sym (ap (λ b. cond b (map released (filter (is_raised_at t) (r ∷ rs))) []) z ∙ ap (λ a. map released (cond a (r ∷ filter (is_raised_at t) rs) (filter (is_raised_at t) rs))) y)
    at true true false x y z rest = absurd (cc (same y))
    at false true true x y z rest = absurd (cc (same y))
    at false true false x y z rest =
        ap (λ u. filter_map (pick t) (map of_raise (cond u (r ∷ filter (is_unraised last) rs) (filter (is_unraised last) rs)))) x ∙ rest
        ∙ ap (λ b. cond b (map released (filter (is_raised_at t) rs)) []) z ∙ sym (ap (λ b. cond b (map released (filter (is_raised_at t) (r ∷ rs))) []) z)
    at true false b x y z rest =
        ap (λ u. filter_map (pick t) (map of_raise (cond u (r ∷ filter (is_unraised last) rs) (filter (is_unraised last) rs)))) x
        ∙ ap (λ a. cons_option (cond a (Some (released r)) None) (filter_map (pick t) (map of_raise (filter (is_unraised last) rs)))) y ∙ rest
        ∙ sym (ap (λ a. cond (is_before last t) (map released (cond a (r ∷ filter (is_raised_at t) rs) (filter (is_raised_at t) rs))) []) y)
    at false false b x y z rest =
        ap (λ u. filter_map (pick t) (map of_raise (cond u (r ∷ filter (is_unraised last) rs) (filter (is_unraised last) rs)))) x ∙ rest
        ∙ sym (ap (λ a. cond (is_before last t) (map released (cond a (r ∷ filter (is_raised_at t) rs) (filter (is_raised_at t) rs))) []) y)

waits_at : (t : ℕ) (es : List (EntryNo × Wait)) → filter_map (pick t) (map of_wait (map scheduled es)) ≡ map release_of (filter (is_due t) es)
waits_at t [] = refl
waits_at t (e ∷ es) = ap (cons_option (cond (eqb e.1.due t) (Some (release_of e)) None)) (waits_at t es) ∙ elim (eqb e.1.due t) as (λ b. cons_option (cond b (Some (release_of e)) None) (map release_of (filter (is_due t) es)) ≡ map release_of (cond b (e ∷ filter (is_due t) es) (filter (is_due t) es))) [ true ↦ refl | false ↦ refl ]

pub batch_is : (last : Option ℕ) (t : ℕ) (rs : List Raise) (es : List (EntryNo × Wait))
    → filter_map (pick t) (all_of last rs es) ≡ cond (is_before last t) (map released (filter (is_raised_at t) rs)) [] ++ map release_of (filter (is_due t) es)
batch_is last t rs es = filter_map-append (pick t) (map of_raise (filter (is_unraised last) rs)) (map of_wait (map scheduled es)) ∙ ap (λ l. l ++ filter_map (pick t) (map of_wait (map scheduled es))) (raises_at last t rs) ∙ ap (λ l. cond (is_before last t) (map released (filter (is_raised_at t) rs)) [] ++ l) (waits_at t es)

-- ---- after a release

-- nothing is due before the least time, so what is not due at it is due later
pub later_waits : (t : ℕ) (es : List (EntryNo × Wait)) → Each (λ (e : EntryNo × Wait). t ≤ e.1.due) es → map scheduled (filter (λ e. not (is_due t e)) es) ≡ filter (λ (s : Scheduled). ltb t s.due) (map scheduled es)
later_waits t [] h = refl
later_waits t (e ∷ es) h = at (eqb e.1.due t) refl (later_waits t es h.1)
  where
    at : (b : Bool) → eqb e.1.due t ≡ b → map scheduled (filter (λ e. not (is_due t e)) es) ≡ filter (λ (s : Scheduled). ltb t s.due) (map scheduled es)
        → map scheduled (filter (λ e. not (is_due t e)) (e ∷ es)) ≡ filter (λ (s : Scheduled). ltb t s.due) (map scheduled (e ∷ es))
    at true s rest =
        ap (λ b. map scheduled (cond (not b) (e ∷ filter (λ e. not (is_due t e)) es) (filter (λ e. not (is_due t e)) es))) s ∙ rest
        ∙ sym (ap (λ b. cond b (scheduled e ∷ filter (λ (s : Scheduled). ltb t s.due) (map scheduled es)) (filter (λ (s : Scheduled). ltb t s.due) (map scheduled es))) (le-ltb t e.1.due (let same : e.1.due ≡ t = eqb-true e.1.due t s in omega arith)))
    at false s rest =
        let other : e.1.due ≢ t = λ same. cc (s, eq-eqb e.1.due t same) in
        ap (λ b. map scheduled (cond (not b) (e ∷ filter (λ e. not (is_due t e)) es) (filter (λ e. not (is_due t e)) es))) s ∙ ap (λ l. scheduled e ∷ l) rest
        ∙ sym (ap (λ b. cond b (scheduled e ∷ filter (λ (s : Scheduled). ltb t s.due) (map scheduled es)) (filter (λ (s : Scheduled). ltb t s.due) (map scheduled es))) (lt-ltb t e.1.due (omega (arith, h.0))))

-- no release to come is due before the least time
pub none_sooner : (last : Option ℕ) (rs : List Raise) (es : List (EntryNo × Wait)) (t : ℕ) → least ltb (map (λ (p : ℕ × Release). p.0) (all_of last rs es)) ≡ Some t → Each (λ (e : EntryNo × Wait). t ≤ e.1.due) es
none_sooner last rs es t h = waits es (back (map (λ (r : Raise). r.time) (filter (is_unraised last) rs)) _ (least_low _ t (ap (least ltb) (sym (times_are (filter (is_unraised last) rs) es)) ∙ h)))
  where
    back : (xs ys : List ℕ) → Each (λ y. t ≤ y) (xs ++ ys) → Each (λ y. t ≤ y) ys
    back [] ys h = h
    back (x ∷ xs) ys h = back xs ys h.1

    waits : (es : List (EntryNo × Wait)) → Each (λ y. t ≤ y) (map (λ (e : EntryNo × Wait). e.1.due) es) → Each (λ (e : EntryNo × Wait). t ≤ e.1.due) es
    waits [] h = tt
    waits (e ∷ es) h = (h.0, waits es h.1)

-- the least time is that of a raise, or within what the waits are due by
pub time_within : (last : Option ℕ) (rs : List Raise) (es : List (EntryNo × Wait)) (t most : ℕ) → AreRaisedBy 4611686018427387904 rs → AreDueBy most es → 4611686018427387904 ≤ most
    → least ltb (map (λ (p : ℕ × Release). p.0) (all_of last rs es)) ≡ Some t → t ≤ most
time_within last rs es t most raised due le h = least_bound most _ (join (map (λ (r : Raise). r.time) (filter (is_unraised last) rs)) (map (λ (e : EntryNo × Wait). e.1.due) es) (raises rs raised) (waits es due)) t (ap (least ltb) (sym (times_are (filter (is_unraised last) rs) es)) ∙ h)
  where
    raises : (rs : List Raise) → AreRaisedBy 4611686018427387904 rs → Each (λ y. y ≤ most) (map (λ (r : Raise). r.time) (filter (is_unraised last) rs))
    raises [] h = tt
    raises (r ∷ rs) h = elim (is_unraised last r) as (λ b. Each (λ y. y ≤ most) (map (λ (r : Raise). r.time) (cond b (r ∷ filter (is_unraised last) rs) (filter (is_unraised last) rs)))) [
      | true ↦ (omega (arith, h.0), raises rs h.1)
      | false ↦ raises rs h.1
    ]

    waits : (es : List (EntryNo × Wait)) → AreDueBy most es → Each (λ y. y ≤ most) (map (λ (e : EntryNo × Wait). e.1.due) es)
    waits [] h = tt
    waits (e ∷ es) h = (h.0, waits es h.1)

    join : (xs ys : List ℕ) → Each (λ y. y ≤ most) xs → Each (λ y. y ≤ most) ys → Each (λ y. y ≤ most) (xs ++ ys)
    join [] ys h g = g
    join (x ∷ xs) ys h g = (h.0, join xs ys h.1 g)

pub due_wider : (n m : ℕ) → n ≤ m → (es : List (EntryNo × Wait)) → AreDueBy n es → AreDueBy m es
due_wider n m le [] h = tt
due_wider n m le (e ∷ es) h = (omega (arith, h.0), due_wider n m le es h.1)

pub due_filter : (n : ℕ) (p : EntryNo × Wait → Bool) (es : List (EntryNo × Wait)) → AreDueBy n es → AreDueBy n (filter p es)
due_filter n p [] h = tt
due_filter n p (e ∷ es) h = elim (p e) as (λ b. AreDueBy n (cond b (e ∷ filter p es) (filter p es))) [ true ↦ (h.0, due_filter n p es h.1) | false ↦ due_filter n p es h.1 ]

keys_filter : (P : EntryNo → Type 0) (p : EntryNo × Wait → Bool) (es : List (EntryNo × Wait)) → AllKeys P es → AllKeys P (filter p es)
keys_filter P p [] h = tt
keys_filter P p (e ∷ es) h = elim (p e) as (λ b. AllKeys P (cond b (e ∷ filter p es) (filter p es))) [ true ↦ (h.0, keys_filter P p es h.1) | false ↦ keys_filter P p es h.1 ]

pub up_to_filter : (latest : Option EntryNo) (p : EntryNo × Wait → Bool) (es : List (EntryNo × Wait)) → AreUpTo latest es → AreUpTo latest (filter p es)
up_to_filter None p es h = ap (filter p) h
up_to_filter (Some m) p es h = keys_filter (λ n. is_lt (number_cmp m n) ≡ false) p es h

-- ---- an event more

earlier_less : (m n : EntryNo) → is_earlier m n ≡ true → number_cmp m n ≡ Less
earlier_less m n h = at (ltb m.position n.position) refl
  where
    at : (b : Bool) → ltb m.position n.position ≡ b → number_cmp m n ≡ Less
    at true e = ap (λ o. ordering_then o (nat_cmp m.place n.place)) (below m.position n.position (ltb-true m.position n.position e))
    at false e =
        let both : (eqb m.position n.position && ltb m.place n.place) ≡ true = sym (ap (λ b. b || (eqb m.position n.position && ltb m.place n.place)) e) ∙ h in
        let same = eqb-true m.position n.position (and_left (eqb m.position n.position) _ both) in
        ap (λ o. ordering_then o (nat_cmp m.place n.place)) (ap (nat_cmp m.position) (sym same) ∙ tied_itself nat_cmp_total m.position)
        ∙ below m.place n.place (ltb-true m.place n.place (and_right (eqb m.position n.position) _ both))

-- the numbers so far are before a later one
pub all_before : (latest : Option EntryNo) (n : EntryNo) (es : List (EntryNo × Wait)) → AreUpTo latest es → is_later latest n ≡ true → AllKeys (λ y. number_cmp y n ≡ Less) es
all_before None n es none h = subst (AllKeys (λ y. number_cmp y n ≡ Less)) (sym none) tt
all_before (Some m) n es up h = each es up
  where
    less : number_cmp m n ≡ Less
    less = earlier_less m n h

    one : (y : EntryNo) (c : Ordering) → number_cmp m y ≡ c → is_lt (number_cmp m y) ≡ false → number_cmp y n ≡ Less
    one y Less e f = absurd (cc (f, ap is_lt e))
    one y Equal e f = sym (number_total.congr m y n e) ∙ less
    one y Greater e f = number_total.trans y m n (number_total.antisymm y m ∙ ap ordering_reverse e) less

    each : (es : List (EntryNo × Wait)) → AllKeys (λ y. is_lt (number_cmp m y) ≡ false) es → AllKeys (λ y. number_cmp y n ≡ Less) es
    each [] h = tt
    each (e ∷ es) h = (one e.0 (number_cmp m e.0) refl h.0, each es h.1)

keys_above_none : (n : EntryNo) (es : List (EntryNo × Wait)) → AllKeys (λ y. number_cmp y n ≡ Less) es → value_of number_cmp n es ≡ None
keys_above_none n [] h = refl
keys_above_none n (e ∷ es) h = ap (λ b. cond b (Some e.1) (value_of number_cmp n es)) (ap is_eq (number_total.antisymm n e.0 ∙ ap ordering_reverse h.0)) ∙ keys_above_none n es h.1

pub absent_later : (latest : Option EntryNo) (n : EntryNo) (es : List (EntryNo × Wait)) → AreUpTo latest es → is_later latest n ≡ true → value_of number_cmp n es ≡ None
absent_later latest n es up h = keys_above_none n es (all_before latest n es up h)

-- the numbers so far, up to a later one
pub up_to_later : (latest : Option EntryNo) (n : EntryNo) (es : List (EntryNo × Wait)) → AreUpTo latest es → is_later latest n ≡ true → AreUpTo (Some n) es
up_to_later latest n es up h = each es (all_before latest n es up h)
  where
    each : (es : List (EntryNo × Wait)) → AllKeys (λ y. number_cmp y n ≡ Less) es → AllKeys (λ y. is_lt (number_cmp n y) ≡ false) es
    each [] h = tt
    each (e ∷ es) h = (ap is_lt (number_total.antisymm n e.0 ∙ ap ordering_reverse h.0), each es h.1)

-- the number itself at the end
pub put_last : (latest : Option EntryNo) (n : EntryNo) (w : Wait) (es : List (EntryNo × Wait)) → AreUpTo latest es → is_later latest n ≡ true → inserted number_cmp n w es ≡ es ++ (n, w) ∷ []
put_last latest n w es up h = inserted_last number_cmp number_total number_tied n w es (all_before latest n es up h)

pub up_to_put : (latest : Option EntryNo) (n : EntryNo) (w : Wait) (es : List (EntryNo × Wait)) → AreUpTo latest es → is_later latest n ≡ true → AreUpTo (Some n) (inserted number_cmp n w es)
up_to_put latest n w es up h = subst (AreUpTo (Some n)) (sym (put_last latest n w es up h)) (join es (up_to_later latest n es up h))
  where
    join : (es : List (EntryNo × Wait)) → AllKeys (λ y. is_lt (number_cmp n y) ≡ false) es → AllKeys (λ y. is_lt (number_cmp n y) ≡ false) (es ++ (n, w) ∷ [])
    join [] h = (ap is_lt (tied_itself number_total n), tt)
    join (e ∷ es) h = (h.0, join es h.1)

pub due_put : (most : ℕ) (latest : Option EntryNo) (n : EntryNo) (w : Wait) (es : List (EntryNo × Wait)) → AreUpTo latest es → is_later latest n ≡ true → AreDueBy most es → w.due ≤ most → AreDueBy most (inserted number_cmp n w es)
due_put most latest n w es up h due le = subst (AreDueBy most) (sym (put_last latest n w es up h)) (join es due)
  where
    join : (es : List (EntryNo × Wait)) → AreDueBy most es → AreDueBy most (es ++ (n, w) ∷ [])
    join [] h = (le, tt)
    join (e ∷ es) h = (h.0, join es h.1)

pub scheduled_put : (latest : Option EntryNo) (n : EntryNo) (w : Wait) (es : List (EntryNo × Wait)) → AreUpTo latest es → is_later latest n ≡ true → map scheduled (inserted number_cmp n w es) ≡ map scheduled es ++ scheduled (n, w) ∷ []
scheduled_put latest n w es up h = ap (map scheduled) (put_last latest n w es up h) ∙ snoc es
  where
    snoc : (es : List (EntryNo × Wait)) → map scheduled (es ++ (n, w) ∷ []) ≡ map scheduled es ++ scheduled (n, w) ∷ []
    snoc [] = refl
    snoc (e ∷ es) = ap (λ l. scheduled e ∷ l) (snoc es)

pub scheduled_filter : (p : Scheduled → Bool) (es : List (EntryNo × Wait)) → map scheduled (filter (λ e. p (scheduled e)) es) ≡ filter p (map scheduled es)
scheduled_filter p [] = refl
scheduled_filter p (e ∷ es) = elim (p (scheduled e)) as (λ b. map scheduled (cond b (e ∷ filter (λ e. p (scheduled e)) es) (filter (λ e. p (scheduled e)) es)) ≡ cond b (scheduled e ∷ filter p (map scheduled es)) (filter p (map scheduled es))) [
  | true ↦ ap (λ l. scheduled e ∷ l) (scheduled_filter p es)
  | false ↦ scheduled_filter p es
]

-- ---- a raise more

pub raised_more : (most : ℕ) (r : Raise) (rs : List Raise) → r.time ≤ most → AreRaisedBy most rs → AreRaisedBy most (admitted r rs)
raised_more most r [] le h = (le, tt)
raised_more most r (q ∷ qs) le h = elim (ltb r.time q.time) as (λ b. AreRaisedBy most (cond b (r ∷ q ∷ qs) (q ∷ admitted r qs))) [
  | true ↦ (le, h)
  | false ↦ (h.0, raised_more most r qs le h.1)
]

-- ---- what the environment is seen as after a call

short_delay : (d : ℤ) → clamped d ≤ 1000000000
short_delay (pos n) = omega arith
short_delay (negsuc n) = omega arith

module _ (clock x : ℕ) (latest : Option EntryNo) (n : EntryNo) (event : Event) (es : List (EntryNo × Wait)) (up : AreUpTo latest es) (later : is_later latest n ≡ true) where
  pub up_to_timer : AreUpTo (Some n) (after_timer clock x n event es)
  up_to_timer = elim (eqb event.kind 0) as (λ b. AreUpTo (Some n) (cond b (inserted number_cmp n (timer_wait clock x event) es) (cond (eqb event.kind 1) (filter (λ e. not (is_tagged x (first_value event) e)) es) es))) [
    | true ↦ up_to_put latest n (timer_wait clock x event) es up later
    | false ↦
        elim (eqb event.kind 1) as (λ b. AreUpTo (Some n) (cond b (filter (λ e. not (is_tagged x (first_value event) e)) es) es)) [
          | true ↦ up_to_filter (Some n) (λ e. not (is_tagged x (first_value event) e)) es (up_to_later latest n es up later)
          | false ↦ up_to_later latest n es up later
        ]
  ]

  pub due_timer : (most : ℕ) → AreDueBy most es → clock + 1000000000 ≤ most → AreDueBy most (after_timer clock x n event es)
  due_timer most due le = elim (eqb event.kind 0) as (λ b. AreDueBy most (cond b (inserted number_cmp n (timer_wait clock x event) es) (cond (eqb event.kind 1) (filter (λ e. not (is_tagged x (first_value event) e)) es) es))) [
    | true ↦ due_put most latest n (timer_wait clock x event) es up later due (omega (arith, short_delay (slice_index_or event.values 1 (pos 0))))
    | false ↦
        elim (eqb event.kind 1) as (λ b. AreDueBy most (cond b (filter (λ e. not (is_tagged x (first_value event) e)) es) es)) [
          | true ↦ due_filter most (λ e. not (is_tagged x (first_value event) e)) es due
          | false ↦ due
        ]
  ]

  abbrev pub asked : Outgoing
  asked = record { no = n; chan = x; event = event; at = clock }

  pub seen_timer : map scheduled (after_timer clock x n event es)
      ≡ cond (eqb event.kind 0) (map scheduled es ++ timer_of asked ∷ []) (cond (eqb event.kind 1) (filter (λ s. not (is_named x (first_value event) s)) (map scheduled es)) (map scheduled es))
  seen_timer = elim (eqb event.kind 0) as (λ b. map scheduled (cond b (inserted number_cmp n (timer_wait clock x event) es) (cond (eqb event.kind 1) (filter (λ e. not (is_tagged x (first_value event) e)) es) es))
      ≡ cond b (map scheduled es ++ timer_of asked ∷ []) (cond (eqb event.kind 1) (filter (λ s. not (is_named x (first_value event) s)) (map scheduled es)) (map scheduled es))) [
        | true ↦ scheduled_put latest n (timer_wait clock x event) es up later
        | false ↦
            elim (eqb event.kind 1) as (λ b. map scheduled (cond b (filter (λ e. not (is_tagged x (first_value event) e)) es) es) ≡ cond b (filter (λ s. not (is_named x (first_value event) s)) (map scheduled es)) (map scheduled es)) [
              | true ↦ scheduled_filter (λ s. not (is_named x (first_value event) s)) es
              | false ↦ refl
            ]
      ]

module _ (v : Outside) (x : ℕ) (n : EntryNo) (event : Event) (spare : ℕ) where
  abbrev pub sent : Outgoing
  sent = record { no = n; chan = x; event = event; at = clock_of v }

  pub absorbed_timer : (ws : List Scheduled) → service_at v x ≡ Timer
      → ws ≡ cond (eqb event.kind 0) (v.waits ++ timer_of sent ∷ []) (cond (eqb event.kind 1) (filter (λ s. not (is_named x (first_value event) s)) v.waits) v.waits)
      → record v { waits = ws; latest = Some n; spare = spare } ≡ record (absorbed v x n event) { spare = spare }
  absorbed_timer ws service is =
      ap (λ ws. record v { waits = ws; latest = Some n; spare = spare }) is
      ∙ elim (eqb event.kind 0) as (λ b. record v { waits = cond b (v.waits ++ timer_of sent ∷ []) (cond (eqb event.kind 1) (filter (λ s. not (is_named x (first_value event) s)) v.waits) v.waits); latest = Some n; spare = spare }
      ≡ record (cond b (record v { waits = v.waits ++ timer_of sent ∷ [] }) (cond (eqb event.kind 1) (record v { waits = filter (λ s. not (is_named x (first_value event) s)) v.waits }) v)) { latest = Some n; spare = spare }) [
        | true ↦ refl
        | false ↦
            elim (eqb event.kind 1) as (λ b. record v { waits = cond b (filter (λ s. not (is_named x (first_value event) s)) v.waits) v.waits; latest = Some n; spare = spare } ≡ record (cond b (record v { waits = filter (λ s. not (is_named x (first_value event) s)) v.waits }) v) { latest = Some n; spare = spare }) [
              | true ↦ refl
              | false ↦ refl
            ]
      ]
      ∙ sym (ap (λ s. record (serve s v sent) { latest = Some n; spare = spare }) service)

  pub absorbed_message : (ws : List Scheduled) (g : Lcg) → service_at v x ≡ Network → ws ≡ v.waits ++ message_of v sent ∷ [] → g ≡ (pcg32 v.generator).1
      → record v { waits = ws; generator = g; latest = Some n; spare = spare } ≡ record (absorbed v x n event) { spare = spare }
  absorbed_message ws g service is next =
      ap (λ ws. record v { waits = ws; generator = g; latest = Some n; spare = spare }) is
      ∙ ap (λ g. record v { waits = v.waits ++ message_of v sent ∷ []; generator = g; latest = Some n; spare = spare }) next
      ∙ sym (ap (λ s. record (serve s v sent) { latest = Some n; spare = spare }) service)

pub moved : (v : Outside) (t : ℕ) (ws : List Scheduled) (k spare : ℕ) → due_of v ≡ Some t → ws ≡ filter (λ s. ltb t s.due) v.waits → k ≡ min (v.releases + 1) 18446744073709551615
    → record v { last = Some t; waits = ws; releases = k; spare = spare } ≡ record (moved_on v) { spare = spare }
moved v t ws k spare due is count =
    let time : t ≡ next_time v = sym (ap (λ g. unwrap_or g 0) due) in
    ap (λ ws. record v { last = Some t; waits = ws; releases = k; spare = spare }) is
    ∙ ap (λ k. record v { last = Some t; waits = filter (λ s. ltb t s.due) v.waits; releases = k; spare = spare }) count
    ∙ ap (λ t. record v { last = Some t; waits = filter (λ s. ltb t s.due) v.waits; releases = min (v.releases + 1) 18446744073709551615; spare = spare }) time

-- the raises of a plan are within the limit of its times
pub raised_within : (rs : List Raise) → list_all (λ (r : Raise). ltb r.time 4611686018427387905) rs ≡ true → AreRaisedBy 4611686018427387904 rs
raised_within [] h = tt
raised_within (r ∷ rs) h = (let less : r.time < 4611686018427387905 = ltb-true r.time 4611686018427387905 (and_left _ _ h) in omega arith, raised_within rs (and_right (ltb r.time 4611686018427387905) _ h))

-- the clock after one release more, also where their count stands at its end
pub clock_within : (t releases count : ℕ) → t ≤ farthest (releases + 1) → t < 2 ^ 64 → count ≡ min (releases + 1) 18446744073709551615 → t ≤ farthest count
clock_within t releases count within small is = omega arith
