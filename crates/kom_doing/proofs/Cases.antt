-- An effect, case by case.
use Rattle.std.proofs.Common.{◌≡◌, ℕ, ◌-◌, ◌<◌, ◌≤◌, if◌then◌else◌, ◌==◌, inl, inr, true, refl, sym, ap, ◌∙◌, subst, List, [], ◌∷◌, ◌++◌, length, Option, Some, None, arith}
use Rattle.kom_base.specs.declared.numbers.Dir.{Dir}
use Rattle.kom_base.specs.declared.numbers.Half.{Half}
use Rattle.kom_base.specs.declared.values.Event.{Event}
use Rattle.kom_lang.specs.Declarations.{Declarations}
use Rattle.kom_lang.specs.declared.body.Birth.{Birth}
use Rattle.kom_lang.specs.declared.body.Effect.{Effect}
use Rattle.kom_lang.specs.declared.body.Effect.TheVariants as effect
use Rattle.kom_lang.specs.declared.kind.Place.{Place}
use Rattle.kom_record.specs.declared.item.Item.{Item}
use Rattle.kom_record.specs.Channels.{half_of}
use Rattle.kom_record.specs.Entries.{Act}
use Rattle.kom_record.specs.Instances.{alive}
use Rattle.kom_marks.specs.Marking.{IsMarked, MarksAreFew, MarksStay}
use Rattle.std.specs.Prelude.{IfSome}
use Rattle.std.specs.List.{list_any}
use Rattle.std.proofs.lemmas.Bool.{eqb-true}
use Rattle.kom_record.specs.declared.item.Control.{Control as ControlItem}
use Rattle.kom_record.specs.declared.item.Control.TheVariants.{Start, Stop, Dump, Fault}
use Rattle.kom_record.specs.Controls.{fault_in}
use Rattle.kom_state.specs.Facts.{HoldsTogether}
use Rattle.kom_state.specs.Readings.{ancestry_at}
use Rattle.kom_state.proofs.Keeping.{flip}
use Rattle.kom_changes.proofs.Below.{child_of, either_of, isnt_true, older, or_left, or_right}
use Rattle.kom_agree.proofs.Acts.{outer_half}
use Rattle.std.specs.Option.{option_and_then, option_map, option_map_or}
use Rattle.kom_wakes.specs.Work.{HasSameWork}
use Rattle.kom_comps.specs.Members.{Members}
use Rattle.kom_refine.specs.Points.{Point, acts_at, act_of, StandsAt}
use Rattle.kom_refine.specs.States.{State}
use Rattle.kom_state.specs.Laws.{NumbersStay}
use Rattle.kom_state.specs.Parts.{Parts, control_spare, state_of}
use Rattle.kom_state.specs.Rooms.{KeepsControls, KeepsQueues, KeepsRoom}
use Rattle.kom_births.specs.declared.seed.Seed.{Seed}
use Rattle.kom_births.specs.Sowing.{TakesRooms}
use Rattle.kom_changes.specs.Sown.{IsFirstSown, MaySowFirst}
use Rattle.kom_nursery.specs.Nurseries.{brood_of, broods_of}
use Rattle.kom_puts.specs.Puts.{HasRoomFor, IsEffectAt, TakesOneAtMost, escalated_to, is_above, items_for, leaves_structure, put_in, to_child_in}
use Rattle.kom_changes.specs.Below.{Destroys}
use Rattle.kom_changes.specs.Relinks.{Holds, Plugs, Resumes, Unplugs}
use Rattle.kom_doing.specs.Effects.{IsDoable, IsDone, KeepsAllButOne, first_of, LeavesRoomBy, half_in, marks_by}

-- what holds of each effect that only puts, or does nothing
put_case : (P : Effect → Type 0) → ((port : ℕ) (event : Event) → P (effect.Trigger port event)) → ((event : Event) → P (effect.Answer event)) → ((s : ℕ) → P (effect.Start s)) → ((s : ℕ) → P (effect.Stop s)) → ((s : ℕ) → P (effect.Dump s))
    → P effect.Escalate → (e : Effect) → leaves_structure e ≡ true → P e
put_case P t a s p d x (effect.Trigger port event) h = t port event
put_case P t a s p d x (effect.Answer event) h = a event
put_case P t a s p d x (effect.Start k) h = s k
put_case P t a s p d x (effect.Stop k) h = p k
put_case P t a s p d x (effect.Dump k) h = d k
put_case P t a s p d x effect.Escalate h = x
put_case P t a s p d x (effect.Create slot kind birth) h = absurd cc
put_case P t a s p d x (effect.Destroy slot) h = absurd cc
put_case P t a s p d x (effect.Hold k) h = absurd cc
put_case P t a s p d x (effect.Resume k) h = absurd cc
put_case P t a s p d x (effect.Unplug k e) h = absurd cc
put_case P t a s p d x (effect.Plug k e place) h = absurd cc

pub only_puts : (e : Effect) → ((k : ℕ) → e ≡ effect.Hold k → ⊥) → ((k : ℕ) → e ≡ effect.Resume k → ⊥) → ((k : ℕ) (d : Dir) → e ≡ effect.Unplug k d → ⊥) → ((k : ℕ) (d : Dir) (p : Place) → e ≡ effect.Plug k d p → ⊥)
    → ((s k : ℕ) (b : Birth) → e ≡ effect.Create s k b → ⊥) → ((s : ℕ) → e ≡ effect.Destroy s → ⊥) → leaves_structure e ≡ true
only_puts (effect.Trigger port event) h r u p c d = refl
only_puts (effect.Answer event) h r u p c d = refl
only_puts (effect.Start k) h r u p c d = refl
only_puts (effect.Stop k) h r u p c d = refl
only_puts (effect.Dump k) h r u p c d = refl
only_puts effect.Escalate h r u p c d = refl
only_puts (effect.Create slot kind birth) h r u p c d = absurd (c slot kind birth refl)
only_puts (effect.Destroy slot) h r u p c d = absurd (d slot refl)
only_puts (effect.Hold k) h r u p c d = absurd (h k refl)
only_puts (effect.Resume k) h r u p c d = absurd (r k refl)
only_puts (effect.Unplug k e) h r u p c d = absurd (u k e refl)
only_puts (effect.Plug k e place) h r u p c d = absurd (p k e place refl)

module _ (S : Declarations) (c : ℕ) (item : Item) (told : Option (ℕ × ℕ)) where
  pub room_to_put : (e : Effect) (broods : List (List Seed)) (bound : ℕ) (v : Parts) → leaves_structure e ≡ true → IsDoable S c item told e broods bound v → HasRoomFor 1 (put_in (state_of v) c item told e) v
  room_to_put e broods bound v h = put_case (λ e. IsDoable S c item told e broods bound v → HasRoomFor 1 (put_in (state_of v) c item told e) v) (λ p x m. m) (λ x m. m) (λ s m. m) (λ s m. m) (λ s m. m) (λ m. m) e h

  pub may_put : (e : Effect) (broods : List (List Seed)) (bound : ℕ) (v : Parts) → leaves_structure e ≡ true → HasRoomFor 1 (put_in (state_of v) c item told e) v → IsDoable S c item told e broods bound v
  may_put e broods bound v h = put_case (λ e. HasRoomFor 1 (put_in (state_of v) c item told e) v → IsDoable S c item told e broods bound v) (λ p x m. m) (λ x m. m) (λ s m. m) (λ s m. m) (λ s m. m) (λ m. m) e h

  no_brood : (e : Effect) (done : List Act) → leaves_structure e ≡ true → brood_of S done c e ≡ []
  no_brood e done h = put_case (λ e. brood_of S done c e ≡ []) (λ p x. refl) (λ x. refl) (λ s. refl) (λ s. refl) (λ s. refl) refl e h

  pub put_room : (e : Effect) (broods : List (List Seed)) (v w : Parts) → leaves_structure e ≡ true → KeepsAllButOne v w → LeavesRoomBy c e broods v w
  put_room e broods v w h = put_case (λ e. KeepsAllButOne v w → LeavesRoomBy c e broods v w) (λ p x m. m) (λ x m. m) (λ s m. m) (λ s m. m) (λ s m. m) (λ m. m) e h

  pub put_marks : (e : Effect) (broods : List (List Seed)) (m : State) → leaves_structure e ≡ true → marks_by m c e broods ≡ 2
  put_marks e broods m h = put_case (λ e. marks_by m c e broods ≡ 2) (λ p x. refl) (λ x. refl) (λ s. refl) (λ s. refl) (λ s. refl) refl e h

  pub put_done : (e : Effect) (broods : List (List Seed)) (v w : Parts) → leaves_structure e ≡ true → NumbersStay → (state_of w).nodes ≡ (state_of v).nodes → w.numbers ≡ v.numbers → IsEffectAt c item told e (state_of v) (state_of w)
      → IsDone S c item told e broods broods v w
  put_done e broods v w h stay nodes numbers step p es of stands by lives empty told_is is = record {
    step = step S p stands told_is;
    left_is = is ∙ ap (λ b. b ++ broods_of S (act_of c item e ∷ acts_at p) c item es) (no_brood e (acts_at p) h);
    numbers = stay S v w of nodes (ap (λ n. n.outs) numbers) (ap (λ n. n.counts) numbers);
  }

  -- ---- the other effects

  pub hold_done : (k : ℕ) (broods : List (List Seed)) (v w : Parts) → NumbersStay → w.numbers ≡ v.numbers → Holds c k v w → IsDone S c item told (effect.Hold k) broods broods v w
  hold_done k broods v w stay numbers step p es of stands by lives empty told_is is = record {
    step = step S p item of stands;
    left_is = is;
    numbers = stay S v w of (step S p item of stands).tree.nodes (ap (λ n. n.outs) numbers) (ap (λ n. n.counts) numbers);
  }

  pub resume_done : (k : ℕ) (broods : List (List Seed)) (v w : Parts) → NumbersStay → w.numbers ≡ v.numbers → Resumes c k v w → IsDone S c item told (effect.Resume k) broods broods v w
  resume_done k broods v w stay numbers step p es of stands by lives empty told_is is = record {
    step = step S p item of stands;
    left_is = is;
    numbers = stay S v w of (step S p item of stands).tree.nodes (ap (λ n. n.outs) numbers) (ap (λ n. n.counts) numbers);
  }

  pub unplug_done : (k : ℕ) (d : Dir) (broods : List (List Seed)) (v w : Parts) → NumbersStay → w.numbers ≡ v.numbers → Unplugs c k d v w → IsDone S c item told (effect.Unplug k d) broods broods v w
  unplug_done k d broods v w stay numbers step p es of stands by lives empty told_is is = record {
    step = step S p item of stands;
    left_is = is;
    numbers = stay S v w of (step S p item of stands).tree.nodes (ap (λ n. n.outs) numbers) (ap (λ n. n.counts) numbers);
  }

  pub destroy_done : (slot : ℕ) (broods : List (List Seed)) (v w : Parts) → NumbersStay → w.numbers ≡ v.numbers → Destroys c slot v w → IsDone S c item told (effect.Destroy slot) broods broods v w
  destroy_done slot broods v w stay numbers step p es of stands by lives empty told_is is = record {
    step = step S p item of stands;
    left_is = is;
    numbers = stay S v w of (step S p item of stands).nodes (ap (λ n. n.outs) numbers) (ap (λ n. n.counts) numbers);
  }

  half_as : (p : Point) (m : State) (port : ℕ) (sl : Option ℕ) → StandsAt S p m → alive S (acts_at p) c ≡ true → half_in m c (record { slot = sl; port = port }) ≡ half_of S (acts_at p) c (record { slot = sl; port = port })
  unfolding half_of
  half_as p m port None stands lives = refl
  half_as p m port (Some s) stands lives = ap (option_map (outer_half port)) (stands.child c s lives)

  -- the half of a place is the same in the state and by the effects
  pub half_same : (p : Point) (m : State) (place : Place) → StandsAt S p m → alive S (acts_at p) c ≡ true → half_in m c place ≡ half_of S (acts_at p) c place
  half_same p m place stands lives = half_as p m place.port place.slot stands lives

  pub plug_done : (k : ℕ) (d : Dir) (place : Place) (at : Half) (broods : List (List Seed)) (v w : Parts) → NumbersStay → w.numbers ≡ v.numbers → half_in (state_of v) c place ≡ Some at → Plugs c k d at v w
      → IsDone S c item told (effect.Plug k d place) broods broods v w
  plug_done k d place at broods v w stay numbers half step p es of stands by lives empty told_is is = record {
    step = step S p item place of stands (sym (half_same p (state_of v) place stands lives) ∙ half);
    left_is = is;
    numbers = stay S v w of (step S p item place of stands (sym (half_same p (state_of v) place stands lives) ∙ half)).tree.nodes (ap (λ n. n.outs) numbers) (ap (λ n. n.counts) numbers);
  }

-- room that is kept is kept but for one item
pub keeps_all : (v w : Parts) → KeepsRoom v w → KeepsControls v w → KeepsQueues v w → KeepsAllButOne v w
keeps_all v w room controls queues = record { room = room; controls = λ d. let e = controls d in omega (arith, e); unborn = λ d l. let e = controls d in omega (arith, e); queues = queues }

-- no mark where nobody has more or less to do
pub unmarked : (marks : Members) (m n : State) → MarksStay → MarksAreFew → ((d : ℕ) → HasSameWork m n d) → IsMarked 2 marks marks m n
unmarked marks m n stay few same = few 0 2 marks marks m n (omega arith) (stay marks m n same)

module _ (v : Parts) (h : HoldsTogether v) (c : ℕ) (living : (state_of v).living c ≡ true) (told : Option (ℕ × ℕ)) (above : is_above (state_of v) c told ≡ true) where
  abbrev IsMade : Option (ℕ × ControlItem) → Type 0
  IsMade o = IfSome o (λ a. a.0 < length (state_of v).nodes)

  child_made : (s : ℕ) (k : ControlItem) → IsMade (to_child_in (state_of v) c s k)
  child_made s k = go ((state_of v).child c s) refl
    where
      go : (o : Option ℕ) → (state_of v).child c s ≡ o → IsMade (option_map (λ d. (d, k)) o)
      go None e = tt
      go (Some d) e = (child_of v h c s d e).2

  -- whoever is told is an older one
  pub told_older : (q : ℕ × ℕ) → told ≡ Some q → q.0 < c
  told_older q e =
      older v h (ancestry_at (state_of v) c) q.0 c refl (turned (ancestry_at (state_of v) c) (sym (ap (λ o. option_map_or (λ q. list_any (λ a. a.0 == q.0) (ancestry_at (state_of v) c)) o true) e) ∙ above))
    where
      turned : (l : List (ℕ × ℕ)) → list_any (λ (a : ℕ × ℕ). a.0 == q.0) l ≡ true → list_any (λ (a : ℕ × ℕ). q.0 == a.0) l ≡ true
      turned [] t = t
      turned (a ∷ l) t = elim (either_of (a.0 == q.0) (list_any (λ (a : ℕ × ℕ). a.0 == q.0) l) t) [
        | inl x ↦ or_left (q.0 == a.0) (list_any (λ (a : ℕ × ℕ). q.0 == a.0) l) (flip q.0 a.0 ∙ x)
        | inr x ↦ or_right (q.0 == a.0) (list_any (λ (a : ℕ × ℕ). q.0 == a.0) l) (turned l x)
      ]

  told_made : (item : Item) → IsMade (escalated_to item told)
  told_made item = go (fault_in item) told refl
    where
      go : (f : Option ℕ) (t : Option (ℕ × ℕ)) → told ≡ t → IsMade (option_and_then (λ n. option_map (λ (q : ℕ × ℕ). (q.0, Fault q.1 n)) t) f)
      go None t e = tt
      go (Some n) None e = tt
      go (Some n) (Some q) e = let l = told_older q e in let m = h.made c living in omega (arith, l, m)

  put_made : (item : Item) (e : Effect) → leaves_structure e ≡ true → IsMade (put_in (state_of v) c item told e)
  put_made item e k = put_case (λ e. IsMade (put_in (state_of v) c item told e)) (λ p x. tt) (λ x. tt) (λ s. child_made s Start) (λ s. child_made s Stop) (λ s. child_made s Dump) (told_made item) e k

  nothing_for : (o : Option (ℕ × ControlItem)) (d : ℕ) → IsMade o → length (state_of v).nodes ≤ d → length (items_for o d) ≡ 0
  nothing_for None d m l = refl
  nothing_for (Some a) d m l = ap (λ b. length (if b then a.1 ∷ [] else [])) (isnt_true (d == a.0) (λ t. let q = eqb-true d a.0 t in omega (arith, q, m, l)))

  pub put_keeps : (item : Item) (e : Effect) (w : Parts) → leaves_structure e ≡ true → KeepsRoom v w → TakesOneAtMost v w → KeepsQueues v w
      → ((d : ℕ) → control_spare w d ≡ control_spare v d - length (items_for (put_in (state_of v) c item told e) d)) → KeepsAllButOne v w
  put_keeps item e w k room controls queues spares = record {
    room = room;
    controls = controls;
    unborn = λ d l. let z = nothing_for (put_in (state_of v) c item told e) d (put_made item e k) l in let s = spares d in omega (arith, z, s);
    queues = queues;
  }

-- the first of broods of which there is one
same_first : (b : List Seed) (bs broods : List (List Seed)) → broods ≡ b ∷ bs → first_of broods ≡ b
same_first b bs broods e = ap first_of e

pub create_room : (S : Declarations) (broods left : List (List Seed)) (bound : ℕ) (v w : Parts) → MaySowFirst S broods bound v → ((b : List Seed) (bs : List (List Seed)) → broods ≡ b ∷ bs → IsFirstSown S b bs left v w)
    → TakesRooms (first_of broods) (length (state_of v).nodes) v w
create_room S broods left bound v w may sown = subst (λ b. TakesRooms b (length (state_of v).nodes) v w) (sym (same_first may.brood may.rest broods may.first_is)) (sown may.brood may.rest may.first_is).room

pub create_marks : (S : Declarations) (broods : List (List Seed)) (bound : ℕ) (v w : Parts) (old new : Members) → MaySowFirst S broods bound v → ((b : List Seed) (bs : List (List Seed)) → broods ≡ b ∷ bs → IsMarked (length b) old new (state_of v) (state_of w))
    → IsMarked (length (first_of broods)) old new (state_of v) (state_of w)
create_marks S broods bound v w old new may marks = subst (λ b. IsMarked (length b) old new (state_of v) (state_of w)) (sym (same_first may.brood may.rest broods may.first_is)) (marks may.brood may.rest may.first_is)
