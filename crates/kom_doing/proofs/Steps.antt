-- One turn of the loop over the effects of a handling.
use Rattle.std.proofs.Common.{◌≡◌, ℕ, ◌+◌, ◌≤◌, ◌<◌, true, sym, ap, ◌∙◌, subst, List, ◌∷◌, length, take, drop, get_or, Option, arith}
use Rattle.kom_lang.specs.Declarations.{Declarations}
use Rattle.kom_lang.specs.declared.body.Effect.{Effect}
use Rattle.kom_system.specs.WellFormed.{IsDeclared}
use Rattle.kom_comps.specs.Members.{Members}
use Rattle.kom_marks.specs.Marking.{IsMarked, MarksAddUp}
use Rattle.kom_record.specs.declared.item.Item.{Item}
use Rattle.kom_record.specs.Entries.{acts}
use Rattle.kom_refine.specs.States.{State}
use Rattle.kom_state.specs.Facts.{HoldsTogether}
use Rattle.kom_state.specs.Parts.{Parts, state_of}
use Rattle.kom_births.specs.declared.seed.Seed.{Seed}
use Rattle.kom_puts.specs.Puts.{is_above, put_in}
use Rattle.kom_doing.specs.Effects.{IsDone, LeavesRoomBy, marks_by}
use Rattle.kom_doing.specs.Laws.{EffectsGoOn, EffectsMayBeDone, Ending, HasRoomToDo, IsAmid, MayGoOn}
use Rattle.kom_doing.specs.Marks.{marks_at, marks_of}
use Rattle.kom_doing.specs.Rooms.{HasRoomLeft, LeavesEnough, RoomIsLeft}
use Rattle.kom_doing.proofs.Marked.{from_here, marks_next, marks_same, up_to_here}
use Rattle.kom_doing.proofs.Rooms.{room_for_one}
use Rattle.kom_doing.proofs.Turn as turn

-- the room for the next effect
pub room_here : (c : ℕ) (item : Item) (told : Option (ℕ × ℕ)) (e : Effect) (rest : List Effect) (broods : List (List Seed)) (bound : ℕ) (v : Parts) → HasRoomLeft c item told (e ∷ rest) broods bound v → HasRoomToDo c item told e broods bound v
room_here c item told e rest broods bound v r = record {
  broods_fit = r.broods_fit;
  few = r.few;
  few_channels = r.few_channels;
  marks = r.marks;
  controls = room_for_one (length rest) (put_in (state_of v) c item told e) v r.puts.0;
}

module _ (S : Declarations) (c : ℕ) (item : Item) (told : Option (ℕ × ℕ)) (es : List Effect) (k : ℕ) (e : Effect) (l : k < length es) (here : e ≡ get_or es k e) (broods : List (List Seed)) (marks : Members) (v : Parts)
    (D : IsDeclared S) (together : HoldsTogether v) (room : HasRoomLeft c item told (drop k es) broods marks.bound v) where
  abbrev rest : List Effect
  rest = drop (k + 1) es

  abbrev so_far : List Effect
  so_far = take k es

  split : drop k es ≡ e ∷ rest
  split = from_here es k e l here

  amid_here : (x : Ending) → IsAmid S c item told so_far (drop k es) x broods v → IsAmid S c item told so_far (e ∷ rest) x broods v
  amid_here x a = subst (λ r. IsAmid S c item told so_far r x broods v) split a

  room_now : HasRoomLeft c item told (e ∷ rest) broods marks.bound v
  room_now = subst (λ r. HasRoomLeft c item told r broods marks.bound v) split room

  -- the next effect may be done
  pub may : EffectsMayBeDone → (x : Ending) → IsAmid S c item told so_far (drop k es) x broods v → MayGoOn S c item told e broods marks.bound v
  may law x a = law S c item told so_far rest e x broods marks.bound v D together (amid_here x a) (room_here c item told e rest broods marks.bound v room_now)

  pub bound_here : length (state_of v).nodes ≤ marks.bound
  bound_here = let a = room.marks in omega (arith, a)

  module _ (left : List (List Seed)) (new : Members) (w : Parts) (after : HoldsTogether w) (done : IsDone S c item told e broods left v w) (leaves : LeavesRoomBy c e broods v w)
      (marked : IsMarked (marks_by (state_of v) c e broods) marks new (state_of v) (state_of w)) where
    pub amid_next : EffectsGoOn → (x : Ending) → IsAmid S c item told so_far (drop k es) x broods v → IsAmid S c item told (take (k + 1) es) rest x left w
    amid_next law x a = subst (λ b. IsAmid S c item told b rest x left w) (sym (up_to_here es k e l here)) (law S c item told so_far rest e x broods left v w D (amid_here x a) done)

    pub enough_next : RoomIsLeft → (x : Ending) → IsAmid S c item told so_far (drop k es) x broods v → is_above (state_of v) c told ≡ true → LeavesEnough c item told rest left new.bound w
    enough_next law x a above =
        subst (λ b. LeavesEnough c item told rest left b w) (sym marked.bound)
        (law S c item told so_far rest e x broods left marks.bound v w D together after (amid_here x a) above done leaves room_now)

    pub marks_more : MarksAddUp → (old : Members) (m : State) (x : Ending) → IsAmid S c item told so_far (drop k es) x broods v → IsMarked (marks_of S (acts x.before) c item so_far) old marks m (state_of v)
        → IsMarked (marks_of S (acts x.before) c item (take (k + 1) es)) old new m (state_of w)
    marks_more law old m x a was =
        let now = amid_here x a in
        let p = turn.p S c item told so_far rest e x broods v D now in
        let count =
        marks_same S p v c item e rest broods now.stands (turn.broods_at S c item told so_far rest e x broods v D now)
        ∙ ap (λ d. marks_at S d c e) (turn.within S c item told so_far rest e x broods v D now).acts_are
        in
        let total = ap (λ n. marks_of S (acts x.before) c item so_far + n) count ∙ sym (marks_next S (acts x.before) c item so_far e) ∙ ap (marks_of S (acts x.before) c item) (sym (up_to_here es k e l here)) in
        subst (λ n. IsMarked n old new m (state_of w)) total
        (law (marks_of S (acts x.before) c item so_far) (marks_by (state_of v) c e broods) old marks new m (state_of v) (state_of w) was marked)
