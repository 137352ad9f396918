-- The first of what waits for a component.
use Rattle.std.proofs.Common.{◌≡◌, ℕ, Bool, true, false, cond, eqb, List, Option, Some, None, Ordering, refl, sym, ap, ◌∙◌, subst, arith}
use Rattle.std.specs.Option.{option_map, option_and_then}
use Rattle.std.specs.Ordering.{nat_cmp, is_lt, ordering_then, ordering_reverse}
use Rattle.std.specs.declared.cmp.Ordering.TheVariants.{Less, Equal, Greater}
use Rattle.std.specs.Cmp.{nat_cmp_total, tied_itself}
use Rattle.std.proofs.lemmas.Cmp.{ranked}
use Rattle.std.proofs.lemmas.Bool.{eq-eqb, eqb-true}
use Rattle.kom_base.specs.declared.numbers.Dir.{Dir}
use Rattle.kom_base.specs.declared.numbers.Dir.TheVariants.{Plus, Minus}
use Rattle.kom_base.specs.declared.numbers.EntryNo.{EntryNo}
use Rattle.kom_base.specs.Lists.{first}
use Rattle.kom_queues.specs.declared.front.Arrival.{Arrival}
use Rattle.kom_queues.specs.declared.front.Front.{Front}
use Rattle.kom_queues.specs.declared.slot.Slot.{Slot}
use Rattle.kom_queues.specs.Fronts.{front_cmp, place_cmp, arrival_cmp, number_cmp, dir_index, waits_for}
use Rattle.kom_queues.specs.Slots.{slot_of, side}
use Rattle.kom_queues.specs.Sound.{Arrives, IsFirstAt, Plugs, HasFront, IsSound}
use Rattle.kom_queues.specs.Waiting.{Waiting, arrival_of}

-- ---- the least front of a component

abbrev pub low_front : ℕ → Front
low_front c = record { at = Some (record { comp = c; no = record { position = 0; place = 0 } }); chan = 0; dir = Plus }

abbrev pub front_here : ℕ → ℕ → Dir → EntryNo → Front
front_here c x d n = record { at = Some (record { comp = c; no = n }); chan = x; dir = d }

not_less : (a b : Ordering) → is_lt a ≡ false → is_lt b ≡ false → is_lt (ordering_then a b) ≡ false
not_less Less b h k = absurd (cc)
not_less Equal b h k = k
not_less Greater b h k = refl

above_zero : (n : ℕ) → is_lt (nat_cmp n 0) ≡ false
above_zero n = go (nat_cmp n 0) refl
  where
    go : (o : Ordering) → nat_cmp n 0 ≡ o → is_lt (nat_cmp n 0) ≡ false
    go Less e = absurd (omega (arith, ranked n 0 Less (sym e)))
    go Equal e = ap is_lt e
    go Greater e = ap is_lt e

above_plus : (d : Dir) → is_lt (nat_cmp (dir_index d) 0) ≡ false
above_plus Plus = refl
above_plus Minus = refl

pub from_low : (c x : ℕ) (d : Dir) (n : EntryNo) → is_lt (front_cmp (front_here c x d n) (low_front c)) ≡ false
from_low c x d n = not_less (arrival_cmp (record { comp = c; no = n }) (record { comp = c; no = record { position = 0; place = 0 } })) (ordering_then (nat_cmp x 0) (nat_cmp (dir_index d) 0))
    (not_less (nat_cmp c c) (ordering_then (nat_cmp n.position 0) (nat_cmp n.place 0)) (ap is_lt (tied_itself nat_cmp_total c))
    (not_less (nat_cmp n.position 0) (nat_cmp n.place 0) (above_zero n.position) (above_zero n.place)))
    (not_less (nat_cmp x 0) (nat_cmp (dir_index d) 0) (above_zero x) (above_plus d))

-- ---- what arrives has its front, and the other way round

abbrev here : Slot → Dir → Option Waiting
here s d = cond s.living (Some (side s d)) None

pub arrives_plugs : (m : List (ℕ × Slot)) (c x : ℕ) (d : Dir) (n : EntryNo) → Arrives m c x d n → Plugs m (front_here c x d n)
arrives_plugs m c x d n a = at (slot_of m x) refl
  where
    at : (g : Option Slot) → slot_of m x ≡ g → Plugs m (front_here c x d n)
    at None e = absurd (cc (a.is, ap (option_and_then (λ (s : Slot). here s d)) e))
    at (Some s) e = living s.living refl
      where
        living : (b : Bool) → s.living ≡ b → Plugs m (front_here c x d n)
        living false t = absurd (cc (a.is, ap (option_and_then (λ (s : Slot). here s d)) e, ap (λ b. cond b (Some (side s d)) None) t))
        living true t =
            let queue : side s d ≡ a.queue = cc (a.is, ap (option_and_then (λ (s : Slot). here s d)) e, ap (λ b. cond b (Some (side s d)) None) t) in
            record {
              slot = s;
              is = e;
              at = ap (λ b. cond b (arrival_of (side s d)) None) t ∙ ap arrival_of queue
                  ∙ ap (option_and_then {U = Arrival} (λ c. option_map {U = Arrival} (λ n. record { comp = c; no = n }) (first a.queue.numbers))) a.aim
                  ∙ ap (option_map {U = Arrival} (λ n. record { comp = c; no = n })) a.front;
            }

pub plugs_arrives : (m : List (ℕ × Slot)) (k : Front) (a : Arrival) → k.at ≡ Some a → Plugs m k → Arrives m a.comp k.chan k.dir a.no
plugs_arrives m k a e p = living p.slot.living refl
  where
    living : (b : Bool) → p.slot.living ≡ b → Arrives m a.comp k.chan k.dir a.no
    living false t = absurd (cc (e, p.at, ap (λ b. cond b (arrival_of (side p.slot k.dir)) None) t))
    living true t = aim (side p.slot k.dir).aim refl
      where
        all : arrival_of (side p.slot k.dir) ≡ Some a
        all = sym (ap (λ b. cond b (arrival_of (side p.slot k.dir)) None) t) ∙ p.at ∙ e

        aim : (g : Option ℕ) → (side p.slot k.dir).aim ≡ g → Arrives m a.comp k.chan k.dir a.no
        aim None f = absurd (cc (all, ap (option_and_then {U = Arrival} (λ c. option_map {U = Arrival} (λ n. record { comp = c; no = n }) (first (side p.slot k.dir).numbers))) f))
        aim (Some c) f = number (first (side p.slot k.dir).numbers) refl
          where
            number : (g : Option EntryNo) → first (side p.slot k.dir).numbers ≡ g → Arrives m a.comp k.chan k.dir a.no
            number None h = absurd (cc (all, ap (option_and_then {U = Arrival} (λ c. option_map {U = Arrival} (λ n. record { comp = c; no = n }) (first (side p.slot k.dir).numbers))) f, ap (option_map {U = Arrival} (λ n. record { comp = c; no = n })) h))
            number (Some n) h =
                let b : Arrival = record { comp = c; no = n } in
                let same : Some b ≡ Some a =
                sym (ap (option_and_then {U = Arrival} (λ c. option_map {U = Arrival} (λ n. record { comp = c; no = n }) (first (side p.slot k.dir).numbers))) f ∙ ap (option_map {U = Arrival} (λ n. record { comp = c; no = n })) h) ∙ all in
                record {
                  queue = side p.slot k.dir;
                  is = ap (option_and_then (λ (s : Slot). here s k.dir)) p.is ∙ ap (λ b. cond b (Some (side p.slot k.dir)) None) t;
                  aim = f ∙ ap (option_map (λ (a : Arrival). a.comp)) same;
                  front = h ∙ ap (option_map (λ (a : Arrival). a.no)) same;
                }

-- ---- the first front from the least one on

pub none_found : (m : List (ℕ × Slot)) (fronts : List (Front × Unit {0})) → IsSound m fronts → (c : ℕ) → ((q : Front) → HasFront fronts q → is_lt (front_cmp q (low_front c)) ≡ true) → IsFirstAt m c None
none_found m fronts sound c all x d n a = cc (from_low c x d n, all (front_here c x d n) (sound.complete (front_here c x d n) (arrives_plugs m c x d n a)))

pub found_first : (m : List (ℕ × Slot)) (fronts : List (Front × Unit {0})) → IsSound m fronts → (c : ℕ) (k : Front) → HasFront fronts k → is_lt (front_cmp k (low_front c)) ≡ false
    → ((q : Front) → HasFront fronts q → is_lt (front_cmp q (low_front c)) ≡ false → is_lt (front_cmp q k) ≡ false) → IsFirstAt m c (waits_for k c)
found_first m fronts sound c k has from least = at k.at refl
  where
    past : (x : ℕ) (d : Dir) (n : EntryNo) → Arrives m c x d n → is_lt (front_cmp (front_here c x d n) k) ≡ false
    past x d n a = least (front_here c x d n) (sound.complete (front_here c x d n) (arrives_plugs m c x d n a)) (from_low c x d n)

    at : (g : Option Arrival) → k.at ≡ g → IsFirstAt m c (waits_for k c)
    at None e = absurd (cc (from, ap (λ g. is_lt (ordering_then (place_cmp g (low_front c).at) (ordering_then (nat_cmp k.chan 0) (nat_cmp (dir_index k.dir) 0)))) e))
    at (Some a) e = comp (eqb a.comp c) refl
      where
        seen : (b : Bool) → eqb a.comp c ≡ b → waits_for k c ≡ cond b (Some (k.chan, k.dir, a.no)) None
        seen b t = ap (option_and_then (λ (a : Arrival). cond (eqb a.comp c) (Some (k.chan, k.dir, a.no)) None)) e ∙ ap (λ b. cond b (Some (k.chan, k.dir, a.no)) None) t

        split : (x : ℕ) (d : Dir) (n : EntryNo) → front_cmp (front_here c x d n) k ≡ ordering_then (ordering_then (nat_cmp c a.comp) (number_cmp n a.no)) (ordering_then (nat_cmp x k.chan) (nat_cmp (dir_index d) (dir_index k.dir)))
        split x d n = ap (λ g. ordering_then (place_cmp (Some (record { comp = c; no = n })) g) (ordering_then (nat_cmp x k.chan) (nat_cmp (dir_index d) (dir_index k.dir)))) e

        low : front_cmp k (low_front c) ≡ ordering_then (ordering_then (nat_cmp a.comp c) (number_cmp a.no (record { position = 0; place = 0 }))) (ordering_then (nat_cmp k.chan 0) (nat_cmp (dir_index k.dir) 0))
        low = ap (λ g. ordering_then (place_cmp g (low_front c).at) (ordering_then (nat_cmp k.chan 0) (nat_cmp (dir_index k.dir) 0))) e

        comp : (b : Bool) → eqb a.comp c ≡ b → IsFirstAt m c (waits_for k c)
        comp true t =
            let one : a.comp ≡ c = eqb-true a.comp c t in
            subst (IsFirstAt m c) (sym (seen true t)) (
              subst (λ c. Arrives m c k.chan k.dir a.no) one (plugs_arrives m k a e (sound.plugged k has)),
              λ x d n p. sym (ap is_lt (split x d n ∙ ap (λ o. ordering_then (ordering_then o (number_cmp n a.no)) (ordering_then (nat_cmp x k.chan) (nat_cmp (dir_index d) (dir_index k.dir)))) (ap (nat_cmp c) one ∙ tied_itself nat_cmp_total c))) ∙ past x d n p,
            )
        comp false t = subst (IsFirstAt m c) (sym (seen false t)) (λ x d n p. clash x d n (past x d n p) (nat_cmp c a.comp) refl)
          where
            clash : (x : ℕ) (d : Dir) (n : EntryNo) → is_lt (front_cmp (front_here c x d n) k) ≡ false → (o : Ordering) → nat_cmp c a.comp ≡ o → ⊥
            clash x d n p Less o = cc (p, ap is_lt (split x d n ∙ ap (λ o. ordering_then (ordering_then o (number_cmp n a.no)) (ordering_then (nat_cmp x k.chan) (nat_cmp (dir_index d) (dir_index k.dir)))) o))
            clash x d n p Equal o = cc (t, eq-eqb a.comp c (sym (ranked c a.comp Equal (sym o))))
            clash x d n p Greater o = cc (from, ap is_lt (low ∙ ap (λ o. ordering_then (ordering_then o (number_cmp a.no (record { position = 0; place = 0 }))) (ordering_then (nat_cmp k.chan 0) (nat_cmp (dir_index k.dir) 0))) (nat_cmp_total.antisymm a.comp c ∙ ap ordering_reverse o)))
