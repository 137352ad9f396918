-- How the ordered fronts follow the queues.
use Rattle.std.proofs.Common.{◌≡◌, ◌≢◌, ℕ, ◌<◌, Bool, true, false, cond, ◌⊎◌, inl, inr, ⊎_elim, eqb, List, Option, Some, None, Ordering, refl, sym, ap, ◌∙◌, subst, arith}
use Rattle.std.specs.Ordering.{nat_cmp, is_eq, ordering_then}
use Rattle.std.specs.Option.{IsSome}
use Rattle.std.specs.declared.cmp.Ordering.TheVariants.{Less, Equal, Greater}
use Rattle.std.specs.Cmp.{nat_cmp_total, tied_itself}
use Rattle.std.proofs.lemmas.Cmp.{ranked}
use Rattle.std.proofs.lemmas.Bool.{eq-eqb, eqb-true, ne_eqb, lt-ltb, le-ltb, cases_lt}
use Rattle.kom_base.specs.declared.numbers.Dir.{Dir}
use Rattle.kom_base.specs.declared.numbers.Dir.TheVariants.{Plus, Minus}
use Rattle.kom_base.specs.declared.numbers.EntryNo.{EntryNo}
use Rattle.kom_index.specs.Entries.{value_of}
use Rattle.kom_queues.specs.declared.front.Arrival.{Arrival}
use Rattle.kom_queues.specs.declared.front.Front.{Front}
use Rattle.kom_queues.specs.declared.slot.Slot.{Slot}
use Rattle.kom_queues.specs.Fronts.{front_cmp, place_cmp, arrival_cmp, number_cmp, dir_index, front_total, front_of}
use Rattle.kom_queues.specs.Slots.{slot_of, arrival_at, front_at}
use Rattle.kom_queues.specs.Sound.{Plugs, HasFront, IsSound}

-- ---- fronts that tie are one front

both_equal : (a b : Ordering) → ordering_then a b ≡ Equal → (a ≡ Equal) × (b ≡ Equal)
both_equal Less b e = absurd (cc)
both_equal Equal b e = (refl, e)
both_equal Greater b e = absurd (cc)

same_nat : (x y : ℕ) → nat_cmp x y ≡ Equal → x ≡ y
same_nat x y e = ranked x y Equal (sym e)

pub same_dir : (a b : Dir) → dir_index a ≡ dir_index b → a ≡ b
same_dir Plus Plus e = refl
same_dir Plus Minus e = absurd (cc)
same_dir Minus Plus e = absurd (cc)
same_dir Minus Minus e = refl

number_tied : (n m : EntryNo) → number_cmp n m ≡ Equal → n ≡ m
number_tied n m e =
    let a = both_equal _ _ e in
    let p = same_nat n.position m.position a.0 in
    let q = same_nat n.place m.place a.1 in
    λ i. record { position = p i; place = q i }

arrival_tied : (a b : Arrival) → arrival_cmp a b ≡ Equal → a ≡ b
arrival_tied a b e =
    let x = both_equal _ _ e in
    let c = same_nat a.comp b.comp x.0 in
    let n = number_tied a.no b.no x.1 in
    λ i. record { comp = c i; no = n i }

pub place_tied : (p q : Option Arrival) → place_cmp p q ≡ Equal → p ≡ q
place_tied None None e = refl
place_tied None (Some k) e = absurd (cc)
place_tied (Some h) None e = absurd (cc)
place_tied (Some h) (Some k) e = ap Some (arrival_tied h k e)

equal_of : (c : Ordering) → is_eq c ≡ true → c ≡ Equal
equal_of Less h = absurd (cc)
equal_of Equal h = refl
equal_of Greater h = absurd (cc)

pub front_tied : (a b : Front) → is_eq (front_cmp a b) ≡ true → a ≡ b
front_tied a b h =
    let x = both_equal _ _ (equal_of _ h) in
    let y = both_equal _ _ x.1 in
    let p = place_tied a.at b.at x.0 in
    let c = same_nat a.chan b.chan y.0 in
    let d = same_dir a.dir b.dir (same_nat _ _ y.1) in
    λ i. record { at = p i; chan = c i; dir = d i }

pub front_self : (a : Front) → is_eq (front_cmp a a) ≡ true
front_self a = ap is_eq (tied_itself front_total a)

pub nat_self : (x : ℕ) → is_eq (nat_cmp x x) ≡ true
nat_self x = ap is_eq (tied_itself nat_cmp_total x)

pub same_or : (a b : ℕ) → (a ≡ b) ⊎ (a ≢ b)
same_or a b = go (eqb a b) refl
  where
    go : (t : Bool) → eqb a b ≡ t → (a ≡ b) ⊎ (a ≢ b)
    go true e = inl (eqb-true a b e)
    go false e = inr (λ s. cc (e, eq-eqb a b s))

pub below : (x y : ℕ) → x < y → nat_cmp x y ≡ Less
below x y h = ap (λ b. cond b Less (cond (eqb x y) Equal Greater)) (lt-ltb x y h)

pub above : (x y : ℕ) → y < x → nat_cmp x y ≡ Greater
above x y h = ap (λ b. cond b Less (cond (eqb x y) Equal Greater)) (le-ltb x y (omega (arith, h))) ∙ ap (λ b. cond b Equal Greater) (ne_eqb x y (λ e. absurd (omega (arith, h, e))))

pub nat_is_eq : (x y : ℕ) → is_eq (nat_cmp x y) ≡ eqb x y
nat_is_eq x y = ⊎_elim
    (λ less. ap is_eq (below x y less) ∙ sym (ne_eqb x y (λ e. absurd (omega (arith, less, e)))))
    (λ le. ⊎_elim
    (λ same. ap (λ n. is_eq (nat_cmp x n)) (sym same) ∙ nat_self x ∙ sym (ap (eqb x) (sym same) ∙ eq-eqb x x refl))
    (λ other. ap is_eq (above x y (omega (arith, le, other))) ∙ sym (ne_eqb x y other))
    (same_or x y))
    (cases_lt x y)

pub apart : (s k : Front) → s.chan ≢ k.chan → is_eq (front_cmp s k) ≡ false
apart s k n = go (is_eq (front_cmp s k)) refl
  where
    go : (b : Bool) → is_eq (front_cmp s k) ≡ b → is_eq (front_cmp s k) ≡ false
    go true t = absurd (n (ap (λ (s : Front). s.chan) (front_tied s k t)))
    go false t = t

pub not_equal : (s k : Front) → s ≢ k → is_eq (front_cmp s k) ≡ false
not_equal s k n = go (is_eq (front_cmp s k)) refl
  where
    go : (b : Bool) → is_eq (front_cmp s k) ≡ b → is_eq (front_cmp s k) ≡ false
    go true t = absurd (n (front_tied s k t))
    go false t = t

-- ---- what the calls leave, key by key

abbrev pub Puts : List (Front × Unit {0}) → List (Front × Unit {0}) → Front → Type 0
Puts old new k = (q : Front) → value_of front_cmp q new ≡ cond (is_eq (front_cmp q k)) (Some tt) (value_of front_cmp q old)

abbrev pub Drops : List (Front × Unit {0}) → List (Front × Unit {0}) → Front → Type 0
Drops old new k = (q : Front) → value_of front_cmp q new ≡ cond (is_eq (front_cmp q k)) None (value_of front_cmp q old)

abbrev pub Turns : List (Front × Unit {0}) → List (Front × Unit {0}) → Front → Front → Type 0
Turns old new k l = (q : Front) → value_of front_cmp q new ≡ cond (is_eq (front_cmp q l)) (Some tt) (cond (is_eq (front_cmp q k)) None (value_of front_cmp q old))

abbrev pub Sets : List (ℕ × Slot) → List (ℕ × Slot) → ℕ → Option Slot → Type 0
Sets old new x l = (y : ℕ) → slot_of new y ≡ cond (is_eq (nat_cmp y x)) l (slot_of old y)

pub sets_here : (old new : List (ℕ × Slot)) (x : ℕ) (l : Option Slot) → Sets old new x l → (y : ℕ) → y ≡ x → slot_of new y ≡ l
sets_here old new x l sets y e = sets y ∙ ap (λ b. cond b l (slot_of old y)) (ap (λ n. is_eq (nat_cmp n x)) e ∙ nat_self x)

pub sets_there : (old new : List (ℕ × Slot)) (x : ℕ) (l : Option Slot) → Sets old new x l → (y : ℕ) → y ≢ x → slot_of new y ≡ slot_of old y
sets_there old new x l sets y n = sets y ∙ ap (λ b. cond b l (slot_of old y)) (nat_is_eq y x ∙ ne_eqb y x n)

pub sets_each : (old new : List (ℕ × Slot)) (x : ℕ) (l : Option Slot) → Sets old new x l → (y : ℕ) → slot_of new y ≡ cond (eqb y x) l (slot_of old y)
sets_each old new x l sets y = sets y ∙ ap (λ b. cond b l (slot_of old y)) (nat_is_eq y x)

-- lent and put back
pub lent : (old mid new : List (ℕ × Slot)) (x : ℕ) (s : Slot) → ((q : ℕ) → is_eq (nat_cmp q x) ≡ false → value_of nat_cmp q mid ≡ value_of nat_cmp q old) → Sets mid new x (Some s) → Sets old new x (Some s)
lent old mid new x s others sets y = at (is_eq (nat_cmp y x)) refl
  where
    at : (b : Bool) → is_eq (nat_cmp y x) ≡ b → slot_of new y ≡ cond (is_eq (nat_cmp y x)) (Some s) (slot_of old y)
    at true t = sets y ∙ ap (λ b. cond b (Some s) (slot_of mid y)) t ∙ sym (ap (λ b. cond b (Some s) (slot_of old y)) t)
    at false t = sets y ∙ ap (λ b. cond b (Some s) (slot_of mid y)) t ∙ others y t ∙ sym (ap (λ b. cond b (Some s) (slot_of old y)) t)

module _ (m m' : List (ℕ × Slot)) (ends ends' : List (Front × Unit {0})) (x : ℕ) where
  pub record Elsewhere : Type 0 where
    pub linked : (y : ℕ) → y ≢ x → slot_of m' y ≡ slot_of m y
    pub placed : (s : Front) → s.chan ≢ x → value_of front_cmp s ends' ≡ value_of front_cmp s ends

  pub sound_after : IsSound m ends → Elsewhere → ((s : Front) → s.chan ≡ x → HasFront ends' s → Plugs m' s) → ((s : Front) → s.chan ≡ x → Plugs m' s → HasFront ends' s) → IsSound m' ends'
  sound_after old same plugged complete = record {
    plugged = λ s has. ⊎_elim (λ here. plugged s here has)
        (λ there. let p = old.plugged s (subst IsSome (same.placed s there) has) in record { slot = p.slot; is = same.linked s.chan there ∙ p.is; at = p.at })
        (same_or s.chan x);
    complete = λ s p. ⊎_elim (λ here. complete s here p)
        (λ there. subst IsSome (sym (same.placed s there)) (old.complete s (record { slot = p.slot; is = sym (same.linked s.chan there) ∙ p.is; at = p.at })))
        (same_or s.chan x);
  }

pub plugs_slot : (m : List (ℕ × Slot)) (l : Slot) (x : ℕ) (d : Dir) → slot_of m x ≡ Some l → Plugs m (front_at l x d)
plugs_slot m l x d e = record { slot = l; is = e; at = refl }

is_front : (m : List (ℕ × Slot)) (l : Slot) (s : Front) → slot_of m s.chan ≡ Some l → Plugs m s → s ≡ front_at l s.chan s.dir
is_front m l s e p =
    let same : l ≡ p.slot = cc (e, p.is) in
    let at : s.at ≡ arrival_at l s.dir = sym (ap (λ l. arrival_at l s.dir) same ∙ p.at) in
    λ i. record { at = at i; chan = s.chan; dir = s.dir }

yes : (b : Bool) (g : Option (Unit {0})) → IsSome g → IsSome (cond b (Some tt) g)
yes true g h = refl
yes false g h = h

pub added : (m m' : List (ℕ × Slot)) (ends one two : List (Front × Unit {0})) (x : ℕ) (l : Slot) → IsSound m ends → slot_of m x ≡ None
    → Sets m m' x (Some l) → Puts ends one (front_at l x Plus) → Puts one two (front_at l x Minus) → IsSound m' two
added m m' ends one two x l old absent sets plus minus = sound_after m m' ends two x old
    (record {
      linked = sets_there m m' x (Some l) sets;
      placed = λ s n. minus s ∙ ap (λ b. cond b (Some tt) (value_of front_cmp s one)) (apart s (front_at l x Minus) n) ∙ plus s ∙ ap (λ b. cond b (Some tt) (value_of front_cmp s ends)) (apart s (front_at l x Plus) n);
    })
    here there
  where
    linked : (s : Front) → s.chan ≡ x → slot_of m' s.chan ≡ Some l
    linked s e = sets_here m m' x (Some l) sets s.chan e

    here : (s : Front) → s.chan ≡ x → HasFront two s → Plugs m' s
    here s e has = first (is_eq (front_cmp s (front_at l x Minus))) refl
      where
        second : is_eq (front_cmp s (front_at l x Minus)) ≡ false → (b : Bool) → is_eq (front_cmp s (front_at l x Plus)) ≡ b → Plugs m' s
        second n true t = subst (Plugs m') (sym (front_tied s (front_at l x Plus) t)) (plugs_slot m' l x Plus (sets_here m m' x (Some l) sets x refl))
        second n false t =
            let still = subst IsSome (minus s ∙ ap (λ b. cond b (Some tt) (value_of front_cmp s one)) n ∙ plus s ∙ ap (λ b. cond b (Some tt) (value_of front_cmp s ends)) t) has in
            let p = old.plugged s still in
            absurd (cc (absent, p.is, ap (slot_of m) e))

        first : (b : Bool) → is_eq (front_cmp s (front_at l x Minus)) ≡ b → Plugs m' s
        first true t = subst (Plugs m') (sym (front_tied s (front_at l x Minus) t)) (plugs_slot m' l x Minus (sets_here m m' x (Some l) sets x refl))
        first false t = second t (is_eq (front_cmp s (front_at l x Plus))) refl

    there : (s : Front) → s.chan ≡ x → Plugs m' s → HasFront two s
    there s e p = at s.dir (is_front m' l s (linked s e) p ∙ ap (λ n. front_at l n s.dir) e)
      where
        at : (d : Dir) → s ≡ front_at l x d → HasFront two s
        at Plus is = subst IsSome (sym (minus s)) (yes (is_eq (front_cmp s (front_at l x Minus))) (value_of front_cmp s one)
            (subst IsSome (sym (plus s ∙ ap (λ b. cond b (Some tt) (value_of front_cmp s ends)) (ap (λ k. is_eq (front_cmp k (front_at l x Plus))) is ∙ front_self (front_at l x Plus)))) refl))
        at Minus is = subst IsSome (sym (minus s ∙ ap (λ b. cond b (Some tt) (value_of front_cmp s one)) (ap (λ k. is_eq (front_cmp k (front_at l x Minus))) is ∙ front_self (front_at l x Minus)))) refl

pub removed : (m m' : List (ℕ × Slot)) (ends one two : List (Front × Unit {0})) (x : ℕ) (l : Slot) → IsSound m ends → slot_of m x ≡ Some l
    → Sets m m' x None → Drops ends one (front_at l x Plus) → Drops one two (front_at l x Minus) → IsSound m' two
removed m m' ends one two x l old there sets plus minus = sound_after m m' ends two x old
    (record {
      linked = sets_there m m' x None sets;
      placed = λ s n. minus s ∙ ap (λ b. cond b None (value_of front_cmp s one)) (apart s (front_at l x Minus) n) ∙ plus s ∙ ap (λ b. cond b None (value_of front_cmp s ends)) (apart s (front_at l x Plus) n);
    })
    gone (λ s e p. absurd (cc (p.is, sets_here m m' x None sets s.chan e)))
  where
    gone : (s : Front) → s.chan ≡ x → HasFront two s → Plugs m' s
    gone s e has = first (is_eq (front_cmp s (front_at l x Minus))) refl
      where
        at : (d : Dir) → s ≡ front_at l x d → is_eq (front_cmp s (front_at l x Minus)) ≡ false → is_eq (front_cmp s (front_at l x Plus)) ≡ false → Plugs m' s
        at Plus is n t = absurd (cc (ap (λ k. is_eq (front_cmp k (front_at l x Plus))) is ∙ front_self (front_at l x Plus), t))
        at Minus is n t = absurd (cc (ap (λ k. is_eq (front_cmp k (front_at l x Minus))) is ∙ front_self (front_at l x Minus), n))

        second : is_eq (front_cmp s (front_at l x Minus)) ≡ false → (b : Bool) → is_eq (front_cmp s (front_at l x Plus)) ≡ b → Plugs m' s
        second n true t = absurd (cc (has, minus s ∙ ap (λ b. cond b None (value_of front_cmp s one)) n ∙ plus s ∙ ap (λ b. cond b None (value_of front_cmp s ends)) t))
        second n false t =
            let still = subst IsSome (minus s ∙ ap (λ b. cond b None (value_of front_cmp s one)) n ∙ plus s ∙ ap (λ b. cond b None (value_of front_cmp s ends)) t) has in
            let p = old.plugged s still in
            at s.dir (is_front m l s (ap (slot_of m) e ∙ there) p ∙ ap (λ n. front_at l n s.dir) e) n t

        first : (b : Bool) → is_eq (front_cmp s (front_at l x Minus)) ≡ b → Plugs m' s
        first true t = absurd (cc (has, minus s ∙ ap (λ b. cond b None (value_of front_cmp s one)) t))
        first false t = second t (is_eq (front_cmp s (front_at l x Plus))) refl

-- both directions wait as before
pub kept : (m m' : List (ℕ × Slot)) (ends : List (Front × Unit {0})) (x : ℕ) (l l' : Slot) → IsSound m ends → slot_of m x ≡ Some l → Sets m m' x (Some l') → ((d : Dir) → arrival_at l' d ≡ arrival_at l d) → IsSound m' ends
kept m m' ends x l l' old linked sets same = sound_after m m' ends ends x old
    (record { linked = sets_there m m' x (Some l') sets; placed = λ s n. refl })
    (λ s e has.
    let p = old.plugged s has in
    let one : l ≡ p.slot = cc (ap (slot_of m) e ∙ linked, p.is) in
    record { slot = l'; is = sets_here m m' x (Some l') sets s.chan e; at = same s.dir ∙ ap (λ l. arrival_at l s.dir) one ∙ p.at })
    (λ s e p.
    let one : l' ≡ p.slot = cc (sets_here m m' x (Some l') sets s.chan e, p.is) in
    old.complete s (record { slot = l; is = ap (slot_of m) e ∙ linked; at = sym (same s.dir) ∙ ap (λ l. arrival_at l s.dir) one ∙ p.at }))

pub same_or_dir : (d e : Dir) → (e ≡ d) ⊎ (e ≢ d)
same_or_dir Plus Plus = inl refl
same_or_dir Plus Minus = inr (λ e. cc)
same_or_dir Minus Plus = inr (λ e. cc)
same_or_dir Minus Minus = inl refl

-- one direction waits for another, or as another
pub turned : (m m' : List (ℕ × Slot)) (ends two : List (Front × Unit {0})) (x : ℕ) (l l' : Slot) (d : Dir) → IsSound m ends → slot_of m x ≡ Some l → Sets m m' x (Some l') → ((e : Dir) → e ≢ d → arrival_at l' e ≡ arrival_at l e)
    → Turns ends two (front_at l x d) (front_at l' x d) → IsSound m' two
turned m m' ends two x l l' d old linked sets same turns = sound_after m m' ends two x old
    (record {
      linked = sets_there m m' x (Some l') sets;
      placed = λ s n. turns s ∙ ap (λ b. cond b (Some tt) (cond (is_eq (front_cmp s (front_at l x d))) None (value_of front_cmp s ends))) (apart s (front_at l' x d) n) ∙ ap (λ b. cond b None (value_of front_cmp s ends)) (apart s (front_at l x d) n);
    })
    here there
  where
    now : slot_of m' x ≡ Some l'
    now = sets_here m m' x (Some l') sets x refl

    here : (s : Front) → s.chan ≡ x → HasFront two s → Plugs m' s
    here s e has = first (is_eq (front_cmp s (front_at l' x d))) refl
      where
        stays : is_eq (front_cmp s (front_at l' x d)) ≡ false → (b : Bool) → is_eq (front_cmp s (front_at l x d)) ≡ b → Plugs m' s
        stays n true t = absurd (cc (has, turns s ∙ ap (λ b. cond b (Some tt) (cond (is_eq (front_cmp s (front_at l x d))) None (value_of front_cmp s ends))) n ∙ ap (λ b. cond b None (value_of front_cmp s ends)) t))
        stays n false t =
            let still = subst IsSome (turns s ∙ ap (λ b. cond b (Some tt) (cond (is_eq (front_cmp s (front_at l x d))) None (value_of front_cmp s ends))) n ∙ ap (λ b. cond b None (value_of front_cmp s ends)) t) has in
            let p = old.plugged s still in
            let is : s ≡ front_at l x s.dir = is_front m l s (ap (slot_of m) e ∙ linked) p ∙ ap (λ n. front_at l n s.dir) e in
            ⊎_elim
            (λ this. absurd (cc (t, ap (λ k. is_eq (front_cmp k (front_at l x d))) (is ∙ ap (front_at l x) this) ∙ front_self (front_at l x d))))
            (λ other. record { slot = l'; is = ap (slot_of m') e ∙ now; at = same s.dir other ∙ sym (ap (λ (k : Front). k.at) is) })
            (same_or_dir d s.dir)

        first : (b : Bool) → is_eq (front_cmp s (front_at l' x d)) ≡ b → Plugs m' s
        first true t = subst (Plugs m') (sym (front_tied s (front_at l' x d) t)) (plugs_slot m' l' x d now)
        first false t = stays t (is_eq (front_cmp s (front_at l x d))) refl

    there : (s : Front) → s.chan ≡ x → Plugs m' s → HasFront two s
    there s e p =
        let is : s ≡ front_at l' x s.dir = is_front m' l' s (ap (slot_of m') e ∙ now) p ∙ ap (λ n. front_at l' n s.dir) e in
        ⊎_elim
        (λ this. subst IsSome (sym (turns s ∙ ap (λ b. cond b (Some tt) (cond (is_eq (front_cmp s (front_at l x d))) None (value_of front_cmp s ends))) (ap (λ k. is_eq (front_cmp k (front_at l' x d))) (is ∙ ap (front_at l' x) this) ∙ front_self (front_at l' x d)))) refl)
        (λ other.
        let was : s ≡ front_at l x s.dir = is ∙ ap (λ q. front_of q x s.dir) (same s.dir other) in
        let had = old.complete s (subst (Plugs m) (sym was) (plugs_slot m l x s.dir linked)) in
        let differs : is_eq (front_cmp s (front_at l x d)) ≡ false = not_equal s (front_at l x d) (λ k. other (ap (λ (k : Front). k.dir) k)) in
        subst IsSome (sym (turns s)) (yes (is_eq (front_cmp s (front_at l' x d))) (cond (is_eq (front_cmp s (front_at l x d))) None (value_of front_cmp s ends))
        (subst IsSome (sym (ap (λ b. cond b None (value_of front_cmp s ends)) differs)) had)))
        (same_or_dir d s.dir)

-- the front of a direction is there, and another that the direction may have instead is not
pub there_is : (m : List (ℕ × Slot)) (ends : List (Front × Unit {0})) (x : ℕ) (l : Slot) (d : Dir) → IsSound m ends → slot_of m x ≡ Some l → HasFront ends (front_at l x d)
there_is m ends x l d old linked = old.complete (front_at l x d) (plugs_slot m l x d linked)

pub not_there : (m : List (ℕ × Slot)) (ends : List (Front × Unit {0})) (x : ℕ) (l : Slot) (d : Dir) (at : Option Arrival) → IsSound m ends → slot_of m x ≡ Some l
    → is_eq (front_cmp (front_of at x d) (front_at l x d)) ≡ false → value_of front_cmp (front_of at x d) ends ≡ None
not_there m ends x l d at old linked differs = go (value_of front_cmp (front_of at x d) ends) refl
  where
    go : (g : Option (Unit {0})) → value_of front_cmp (front_of at x d) ends ≡ g → value_of front_cmp (front_of at x d) ends ≡ None
    go None e = e
    go (Some u) e =
        let p = old.plugged (front_of at x d) (subst IsSome (sym e) refl) in
        let is = is_front m l (front_of at x d) linked p in
        absurd (cc (differs, ap (λ k. is_eq (front_cmp k (front_at l x d))) is ∙ front_self (front_at l x d)))

pub same_turns : (ends : List (Front × Unit {0})) (old new : Front) → is_eq (front_cmp new old) ≡ true → HasFront ends old → Turns ends ends old new
same_turns ends old new same has q =
    let one : new ≡ old = front_tied new old same in
    at (is_eq (front_cmp q old)) refl one
  where
    filled : (g : Option (Unit {0})) → IsSome g → g ≡ Some tt
    filled None h = absurd (cc)
    filled (Some u) h = refl

    at : (b : Bool) → is_eq (front_cmp q old) ≡ b → new ≡ old → value_of front_cmp q ends ≡ cond (is_eq (front_cmp q new)) (Some tt) (cond (is_eq (front_cmp q old)) None (value_of front_cmp q ends))
    at true t one = ap (λ k. value_of front_cmp k ends) (front_tied q old t) ∙ filled _ has ∙ sym (ap (λ b. cond b (Some tt) (cond (is_eq (front_cmp q old)) None (value_of front_cmp q ends))) (ap (λ k. is_eq (front_cmp q k)) one ∙ t))
    at false t one = sym (ap (λ b. cond b (Some tt) (cond (is_eq (front_cmp q old)) None (value_of front_cmp q ends))) (ap (λ k. is_eq (front_cmp q k)) one ∙ t) ∙ ap (λ b. cond b None (value_of front_cmp q ends)) t)
