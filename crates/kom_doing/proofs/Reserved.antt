-- The room that was reserved for the effects of a handling.
use Rattle.std.proofs.Common.{◌≡◌, ℕ, suc, ◌+◌, ◌*◌, ◌<◌, ◌≤◌, sym, ap, ◌∙◌, subst, List, [], ◌∷◌, length, get_or, arith}
use Rattle.kom_lang.specs.declared.body.Effect.{Effect}
use Rattle.kom_numbers.specs.Numbering.{total}
use Rattle.kom_record.specs.declared.item.Item.{Item}
use Rattle.kom_state.specs.Parts.{Parts, state_of}
use Rattle.kom_state.specs.Rooms.{HasNoLess, IsSame}
use Rattle.kom_births.specs.declared.seed.Seed.{Seed}
use Rattle.kom_births.specs.Seeds.{links_of}
use Rattle.kom_births.specs.Sharing.{RoomsAreLeft}
use Rattle.kom_births.specs.Sowing.{HasRooms}
use Rattle.kom_births.proofs.Room.{no_less_again, same_again}
use Rattle.kom_nursery.specs.Nurseries.{all_of}
use Rattle.kom_nursery.specs.Tops.{TopsHaveRoom}
use Rattle.kom_nursery.proofs.Tops.{tops_kept}
use Rattle.kom_puts.specs.Puts.{HasRoomFor, put_in}
use Rattle.kom_puts.proofs.BySlots.{put_in_same}
use Rattle.std.specs.Prelude.{Option, sum}
use Rattle.kom_doing.specs.Rooms.{HasRoomLeft, PutsHaveRoom}

module _ (n c : ℕ) (item : Item) (told : Option (ℕ × ℕ)) (u v : Parts) where
  pub puts_of : (es : List Effect) → IsSame (state_of u) (state_of v) → ((j : ℕ) (d : Effect) → j < length es → HasRoomFor n (put_in (state_of u) c item told (get_or es j d)) v) → PutsHaveRoom n c item told es v
  puts_of [] same h = tt
  puts_of (e ∷ es) same h = (
    subst (λ o. HasRoomFor n o v) (sym (put_in_same (state_of u) (state_of v) c item told e (λ s. same.tree.child c s))) (h 0 e (omega arith)),
    puts_of es same (λ j d l. h (suc j) d (omega (arith, l))),
  )

-- from before anything was reserved (o) over the rooms of the broods (u) and of their first (v) to all (w)
pub all_reserved : RoomsAreLeft → (c : ℕ) (item : Item) (told : Option (ℕ × ℕ)) (es : List Effect) (broods : List (List Seed)) (bound : ℕ) (o u v w : Parts)
    → IsSame (state_of o) (state_of u) → IsSame (state_of u) (state_of v) → IsSame (state_of v) (state_of w) → HasNoLess o u → HasNoLess u v → HasNoLess v w
    → HasRooms (all_of broods) (length (state_of o).nodes) (total o.numbers) u → TopsHaveRoom (length es) broods (length (state_of u).nodes) v
    → ((j : ℕ) (d : Effect) → j < length es → HasRoomFor (length es) (put_in (state_of v) c item told (get_or es j d)) w)
    → length es ≤ 32 → length (state_of o).nodes ≤ 3200001000 → total o.numbers ≤ 3200001016 → length (all_of broods) ≤ 1000 * length es → length (links_of (all_of broods)) ≤ 1000 * length es
    → length (state_of o).nodes + length (all_of broods) ≤ bound → HasRoomLeft c item told es broods bound w
all_reserved left c item told es broods bound o u v w s t r a b d rooms tops puts few number channels size wide most =
    let os = same_again (state_of o) (state_of u) (state_of v) s t in
    let all = same_again (state_of o) (state_of v) (state_of w) os r in
    let later = no_less_again u v w b d in
    let whole = no_less_again o u w a later in
    let nodes = ap length all.tree.nodes in
    let until = ap length s.tree.nodes in
    let numbers : total w.numbers ≡ total o.numbers = (λ i. length (whole.outs i) + sum (whole.counts i)) in
    let kept = left (all_of broods) (length (state_of o).nodes) (total o.numbers) u w rooms
    (record { instances = later.instances; channels = later.channels; rows = λ x l h. later.rows x h; controls = λ x l. later.controls x; queues = λ x l h. later.queues x h })
    in
    record {
      broods_fit = subst (λ n. HasRooms (all_of broods) n (total w.numbers) w) (sym nodes) (subst (λ n. HasRooms (all_of broods) (length (state_of o).nodes) n w) (sym numbers) kept);
      few = omega (arith, few, number, size, nodes);
      few_channels = omega (arith, few, channels, wide, numbers);
      marks = omega (arith, most, nodes);
      puts = puts_of (length es) c item told v w es r puts;
      tops = subst (λ n. TopsHaveRoom (length es) broods n w) (sym (nodes ∙ sym until)) (tops_kept (length es) broods (length (state_of u).nodes) v w d tops);
    }
