-- Releases come into their channels, one after another.
use Rattle.std.proofs.Common.{◌≡◌, ℕ, ◌+◌, ◌-◌, ◌<◌, ◌≤◌, Bool, true, false, if◌then◌else◌, ◌&&◌, ◌==◌, refl, sym, ap, ◌∙◌, subst, List, [], ◌∷◌, ◌++◌, length, get_or, take, Option, Some, None, arith}
use Rattle.std.specs.Prelude.{IsSome}
use Rattle.std.specs.List.{All, cons_option, enumerate_from, filter_map}
use Rattle.std.specs.Option.{option_map}
use Rattle.std.proofs.lemmas.List.{length-take-le, take_all, take_more}
use Rattle.std.proofs.lemmas.List.Elements.{All-push, All-weaker, filter_map-append}
use Rattle.kom_base.specs.declared.numbers.Dir.{Dir}
use Rattle.kom_base.specs.declared.numbers.EntryNo.{EntryNo}
use Rattle.kom_base.specs.Numbers.{same_dir}
use Rattle.kom_laws.proofs.ListFacts.{enumerate_append}
use Rattle.kom_record.specs.declared.entry.Release.{Release}
use Rattle.kom_refine.specs.States.{State}
use Rattle.kom_refine.specs.Steps.{HaveCome, with_numbers}
use Rattle.kom_state.specs.Parts.{Parts, queue_spare}
use Rattle.kom_state.specs.Rooms.{HasNoLess}
use Rattle.kom_state.specs.Steps.{UsesQueue, into_one}
use Rattle.kom_moves.specs.Bringing.{HaveRoom, brought, number_by, way_in}

module _ (rs : List Release) (k : ℕ) (r : Release) (h : k < length rs) (e : r ≡ get_or rs k r) where
  next : take (k + 1) rs ≡ take k rs ++ r ∷ []
  next = take_more rs k r h ∙ ap (λ z. take k rs ++ z ∷ []) (sym e)

  -- what holds of all holds of this one
  pub of_it : (P : Release → Type 0) → All P rs → P r
  of_it P all = subst P (sym e) (all k r h)

  pub one_on : (P : Release → Type 0) → All P (take k rs) → P r → All P (take (k + 1) rs)
  one_on P all this = subst (All P) (sym next) (All-push P (take k rs) r all this)

  pub room_on : (n : ℕ) (v w : Parts) → HasNoLess v w → HaveRoom n v (take k rs) → n ≤ queue_spare w r.chan (way_in v.numbers.outs r.chan) → HaveRoom n w (take (k + 1) rs)
  room_on n v w keeps all this =
      one_on (λ q. n ≤ queue_spare w q.chan (way_in w.numbers.outs q.chan))
      (All-weaker (λ q. n ≤ queue_spare v q.chan (way_in v.numbers.outs q.chan)) (λ q. n ≤ queue_spare w q.chan (way_in w.numbers.outs q.chan))
      (λ q a. let b = keeps.numbers q.chan (way_in v.numbers.outs q.chan) in let s = ap (λ o. queue_spare w q.chan (way_in o q.chan)) keeps.outs in omega (arith, a, b, s)) (take k rs) all)
      (let s = ap (λ o. queue_spare w r.chan (way_in o r.chan)) keeps.outs in omega (arith, this, s))

  one_made : (b : Bool) (n : EntryNo) → cons_option (if b then Some n else None) [] ≡ (if b then n ∷ [] else [])
  one_made true n = refl
  one_made false n = refl

  pub brought_on : (outs : List Dir) (position : ℕ) (x : ℕ) (d : Dir)
      → brought outs position (take (k + 1) rs) x d ≡ brought outs position (take k rs) x d ++ into_one r.chan (way_in outs r.chan) (record { position = position; place = k }) x d
  brought_on outs position x d =
      let long : 0 + length (take k rs) ≡ k = (let l = length-take-le k rs (omega (arith, h)) in omega (arith, l)) in
      ap (λ q. filter_map (number_by outs position x d) (enumerate_from 0 q)) next
      ∙ ap (filter_map (number_by outs position x d)) (enumerate_append 0 (take k rs) (r ∷ []) ∙ ap (λ m. enumerate_from 0 (take k rs) ++ (m, r) ∷ []) long)
      ∙ filter_map-append (number_by outs position x d) (enumerate_from 0 (take k rs)) ((k, r) ∷ [])
      ∙ ap (λ l. brought outs position (take k rs) x d ++ l) (one_made (x == r.chan && same_dir (way_in outs r.chan) d) (record { position = position; place = k }))

pub all_ways : (rs : List Release) (k n : ℕ) (v : Parts) → length rs ≤ k → HaveRoom n v (take k rs) → HaveRoom n v rs
all_ways rs k n v le h = subst (HaveRoom n v) (take_all k rs le) h

pub all_brought : (rs : List Release) (k : ℕ) (outs : List Dir) (position : ℕ) (m n : State) → length rs ≤ k → HaveCome (brought outs position (take k rs)) m n → HaveCome (brought outs position rs) m n
all_brought rs k outs position m n le h = subst (λ l. HaveCome (brought outs position l) m n) (take_all k rs le) h

still_some : {X Y : Type 0} (f : X → Y) (o : Option X) → IsSome o → IsSome (option_map f o)
still_some f None h = absurd (cc)
still_some f (Some x) h = refl

-- a queue that was there is there
pub there_still : (came : ℕ → Dir → List EntryNo) (m n : State) (x : ℕ) (d : Dir) → HaveCome came m n → IsSome (m.queues x d) → IsSome (n.queues x d)
there_still came m n x d h some = subst IsSome (sym (h.queues x d)) (still_some (with_numbers (came x d)) (m.queues x d) some)

less_room : (b : Bool) (n s t k : ℕ) → t ≡ (if b then s - 1 else s) → n ≤ s + k → k < n → n ≤ t + (k + 1)
less_room true n s t k e a b = omega (arith, e, a, b)
less_room false n s t k e a b = omega (arith, e, a, b)

-- a number that came takes the room of one
pub less_by_one : (x : ℕ) (d : Dir) (v w : Parts) (rs : List Release) (k : ℕ) → UsesQueue x d v w → w.numbers ≡ v.numbers → k < length rs
    → All (λ r. length rs ≤ queue_spare v r.chan (way_in v.numbers.outs r.chan) + k) rs → All (λ r. length rs ≤ queue_spare w r.chan (way_in w.numbers.outs r.chan) + (k + 1)) rs
less_by_one x d v w rs k uses same lt all =
    All-weaker (λ r. length rs ≤ queue_spare v r.chan (way_in v.numbers.outs r.chan) + k) (λ r. length rs ≤ queue_spare w r.chan (way_in w.numbers.outs r.chan) + (k + 1))
    (λ r a. subst (λ q. length rs ≤ queue_spare w r.chan (way_in q.outs r.chan) + (k + 1)) (sym same)
    (less_room (r.chan == x && same_dir d (way_in v.numbers.outs r.chan)) (length rs) (queue_spare v r.chan (way_in v.numbers.outs r.chan)) _ k (uses r.chan (way_in v.numbers.outs r.chan)) a lt))
    rs all
