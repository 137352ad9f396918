-- What was read and reserved before is still so once more room was made.
use Rattle.std.proofs.Common.{◌≡◌, ◌==◌, ℕ, suc, ◌+◌, ◌<◌, ◌≤◌, true, refl, sym, ap, ◌∙◌, subst, List, [], ◌∷◌, length, Option, Some, None, get_or, arith}
use Rattle.std.specs.Prelude.{slice_get}
use Rattle.std.specs.List.{list_any}
use Rattle.std.specs.Option.{option_map, option_map_or}
use Rattle.kom_base.specs.Lists.{first}
use Rattle.kom_lang.specs.declared.body.Body.{Body}
use Rattle.kom_lang.specs.declared.body.Effect.{Effect}
use Rattle.kom_record.specs.declared.item.Control.{Control as ControlItem}
use Rattle.kom_record.specs.declared.item.Control.TheVariants.{Init, Start, Stop, Fault, Dump, Dumped}
use Rattle.kom_record.specs.declared.item.Item.{Item}
use Rattle.kom_record.specs.declared.item.Item.TheVariants.{Control, Arrival}
use Rattle.kom_refine.specs.States.{Node, State}
use Rattle.kom_state.specs.Parts.{Parts, state_of}
use Rattle.kom_state.specs.Readings.{ancestry_at}
use Rattle.kom_state.specs.Rooms.{HasNoLess, IsSame}
use Rattle.kom_puts.specs.declared.children.Signal.{Signal}
use Rattle.kom_puts.specs.Puts.{HasRoomFor, HasRoomForChildren, HasRoomToFollow, dumped_in, is_above, put_in}
use Rattle.kom_puts.specs.Signals.{signal_in}
use Rattle.kom_puts.proofs.BySlots.{put_in_same, room_stays}
use Rattle.kom_puts.proofs.Putting.{room_for_none, room_for_signal, room_of_none, room_of_signal}
use Rattle.kom_doing.specs.Rooms.{PutsHaveRoom}

module _ (m n : State) (same : IsSame m n) (c : ℕ) where
  line : ancestry_at n c ≡ ancestry_at m c
  line = ap (λ (ns : List Node). option_map_or (λ i. i.ancestry) (slice_get ns c) []) same.tree.nodes

  pub above_same : (told : Option (ℕ × ℕ)) → is_above m c told ≡ true → is_above n c told ≡ true
  above_same told h = ap (λ l. option_map_or (λ q. list_any (λ a. a.0 == q.0) l) told true) line ∙ h

  pub dumped_same : (b : Body) (item : Item) → dumped_in n c b item ≡ dumped_in m c b item
  dumped_same b (Control Dump) = ap (λ (l : List (ℕ × ℕ)). option_map {U = ℕ × ControlItem} (λ q. (q.0, Dumped q.1 b.vars)) (first l)) line
  dumped_same b (Control Start) = refl
  dumped_same b (Control Stop) = refl
  dumped_same b (Control (Init vs)) = refl
  dumped_same b (Control (Fault slot number)) = refl
  dumped_same b (Control (Dumped slot vs)) = refl
  dumped_same b (Arrival x d number port side event back) = refl

-- from the state m, where it was read, over the room v to the room w
module _ (m : State) (v w : Parts) (same : IsSame m (state_of w)) (less : HasNoLess v w) (c k : ℕ) where
  children_stay : (slots : List (Option ℕ)) → HasRoomForChildren k m c slots v → HasRoomForChildren k (state_of w) c slots w
  children_stay slots h s d low e = let a = h s d low (sym (same.tree.child c s) ∙ e) in let b = less.controls d in omega (arith, a, b)

  pub follow_stays : (b : Body) (item : Item) → HasRoomToFollow k m c b item v → HasRoomToFollow k (state_of w) c b item w
  follow_stays b item h = go (signal_in item) refl
    where
      go : (o : Option Signal) → o ≡ signal_in item → HasRoomToFollow k (state_of w) c b item w
      go (Some g) e = room_for_signal k (state_of w) c b item g w e (children_stay b.slots (room_of_signal k m c b item g v e h))
      go None e =
          room_for_none k (state_of w) c b item w e
          (subst (λ o. HasRoomFor k o w) (sym (dumped_same m (state_of w) same c b item)) (room_stays k (dumped_in m c b item) v w less (room_of_none k m c b item v e h)))

  pub puts_stay : (item : Item) (told : Option (ℕ × ℕ)) (es : List Effect) → ((j : ℕ) (d : Effect) → j < length es → HasRoomFor k (put_in m c item told (get_or es j d)) v) → PutsHaveRoom k c item told es w
  puts_stay item told [] h = tt
  puts_stay item told (e ∷ es) h = (
    subst (λ o. HasRoomFor k o w) (sym (put_in_same m (state_of w) c item told e (λ s. same.tree.child c s))) (room_stays k (put_in m c item told e) v w less (h 0 e (omega arith))),
    puts_stay item told es (λ j d l. h (suc j) d (omega (arith, l))),
  )

-- and from one state to another with more room
pub puts_kept : (k c : ℕ) (item : Item) (told : Option (ℕ × ℕ)) (es : List Effect) (v w : Parts) → IsSame (state_of v) (state_of w) → HasNoLess v w → PutsHaveRoom k c item told es v → PutsHaveRoom k c item told es w
puts_kept k c item told [] v w same less h = tt
puts_kept k c item told (e ∷ es) v w same less h = (
  subst (λ o. HasRoomFor k o w) (sym (put_in_same (state_of v) (state_of w) c item told e (λ s. same.tree.child c s))) (room_stays k (put_in (state_of v) c item told e) v w less h.0),
  puts_kept k c item told es v w same less h.1,
)
