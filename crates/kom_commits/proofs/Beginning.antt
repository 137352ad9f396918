-- A handling begins, and there is room for its effects.
use Rattle.std.proofs.Common.{◌≡◌, ◌==◌, ℕ, suc, ◌+◌, ◌≤◌, true, inl, sym, ap, ◌∙◌, subst, List, [], ◌∷◌, length, Option, arith}
use Rattle.std.specs.Prelude.{slice_get}
use Rattle.std.specs.List.{list_any}
use Rattle.std.specs.Option.{option_map_or}
use Rattle.kom_lang.specs.Declarations.{Declarations}
use Rattle.kom_lang.specs.declared.body.Body.{Body}
use Rattle.kom_lang.specs.declared.body.Effect.{Effect}
use Rattle.kom_system.specs.WellFormed.{IsDeclared}
use Rattle.kom_record.specs.declared.item.Item.{Item}
use Rattle.kom_record.specs.declared.entry.Entry.{Entry}
use Rattle.kom_record.specs.Entries.{Act, History, acts}
use Rattle.kom_record.specs.Instances.{alive}
use Rattle.kom_record.specs.Controls.{put_by_item}
use Rattle.kom_record.specs.Legal.{IsLegal}
use Rattle.kom_numbers.specs.Numbering.{total}
use Rattle.kom_lives.specs.Laws.{HandlersLive}
use Rattle.kom_lives.specs.Living.{StaysAlive}
use Rattle.kom_coming.specs.Directions.{AreBelow, AreThere}
use Rattle.kom_coming.specs.Laws.{ComingsAreThere, EnteringHasCome, ReceiversAreMade}
use Rattle.kom_entering.specs.declared.lists.Entering.{Entering}
use Rattle.kom_refine.specs.Points.{StandsAt, acts_at, before_effects_of, start_of, with_put}
use Rattle.kom_refine.specs.States.{Node, State}
use Rattle.kom_refine.specs.Steps.{ArePut, SameQueues}
use Rattle.kom_refine.specs.Within.{HandlingsBegin, PutsFollow}
use Rattle.kom_state.specs.Laws.{ChannelsAreNumbered, NumbersStay}
use Rattle.kom_state.specs.Parts.{Parts, control_spare, state_of}
use Rattle.kom_births.specs.declared.seed.Seed.{Seed}
use Rattle.kom_births.specs.Sharing.{RoomsAreLeft}
use Rattle.kom_births.specs.Sowing.{HasRooms}
use Rattle.kom_nursery.specs.Nurseries.{all_of}
use Rattle.kom_nursery.specs.Tops.{TopsHaveRoom}
use Rattle.kom_puts.specs.Puts.{following, is_above}
use Rattle.kom_doing.specs.Laws.{Ending, IsAmid}
use Rattle.kom_doing.specs.Rooms.{HasRoomLeft, PutsHaveRoom}
use Rattle.kom_doing.proofs.Rooms.{Spares, puts_left}
use Rattle.kom_waits.specs.Laws.{ComesCount, SameQueuesCount}
use Rattle.kom_waits.specs.Waits.{waits_below}
use Rattle.kom_commits.specs.Acting.{IsBegun, StartsAt, entry_of}
use Rattle.kom_commits.specs.Counted.{waits_in_all}

pub stays_first : (S : Declarations) (done : List Act) (c : ℕ) (item : Item) (es : List Effect) → StaysAlive S done c item es → alive S done c ≡ true
stays_first S done c item [] h = h
stays_first S done c item (e ∷ es) h = h.0

tops_same : (n count : ℕ) (bs : List (List Seed)) (v w : Parts) → ((d : ℕ) → count ≤ d → control_spare v d ≤ control_spare w d) → TopsHaveRoom n bs count v → TopsHaveRoom n bs count w
tops_same n count [] v w h r = tt
tops_same n count (b ∷ bs) v w h r = (
  (let a = h count (omega arith) in let z = r.0 in omega (arith, a, z)),
  tops_same n (count + length b) bs v w (λ d l. h d (omega (arith, l))) r.1,
)

module _ (c : ℕ) (item : Item) (told : Option (ℕ × ℕ)) (body : Body) (es : List Effect) (entering : Entering) (broods : List (List Seed)) (v w : Parts) (b : IsBegun c item body entering.comings v w) where
  nodes_now : (state_of w).nodes ≡ (state_of v).nodes
  nodes_now = b.come.tree.nodes ∙ b.puts.tree.nodes

  pub above_now : is_above (state_of v) c told ≡ true → is_above (state_of w) c told ≡ true
  above_now h = ap (λ l. option_map_or (λ q. list_any (λ a. a.0 == q.0) l) told true) (ap (λ ns. option_map_or (λ (n : Node). n.ancestry) (slice_get ns c) []) nodes_now) ∙ h

  pub room_now : RoomsAreLeft → (bound now : ℕ) → now ≡ bound → HasRoomLeft c item told es broods bound v → PutsHaveRoom (1 + length es) c item told es v → HasRoomLeft c item told es broods now w
  room_now law bound now same room puts =
      let long = ap length nodes_now in
      let wide = ap total b.room.numbers in
      let fit = law (all_of broods) (length (state_of v).nodes) (total v.numbers) v w room.broods_fit
      (record {
        instances = let a = b.room.instances in omega (arith, a);
        channels = let a = b.room.channels in omega (arith, a);
        rows = λ d l h. b.room.rows d ∙ h;
        controls = b.unborn;
        queues = λ y l h. b.room.queues y ∙ h;
      })
      in
      let spares : Spares (length es) c told v w = record { kids = λ k d h. inl (sym (b.come.tree.child c k ∙ b.puts.tree.child c k) ∙ h, b.controls d); tells = λ q h. b.controls q.0 } in
      let one_more : 1 + length es ≡ suc (length es) = omega arith in
      record {
        broods_fit = subst (λ n. HasRooms (all_of broods) n (total w.numbers) w) (sym long) (subst (λ n. HasRooms (all_of broods) (length (state_of v).nodes) n w) (sym wide) fit);
        few = let a = room.few in omega (arith, a, long);
        few_channels = let a = room.few_channels in omega (arith, a, wide);
        marks = let a = room.marks in omega (arith, a, long, same);
        puts = puts_left (length es) c item told v w spares es (subst (λ n. PutsHaveRoom n c item told es v) one_more puts);
        tops = subst (λ n. TopsHaveRoom (length es) broods n w) (sym long) (tops_same (length es) (length (state_of v).nodes) broods v w b.unborn room.tops);
      }

module _ (S : Declarations) (c : ℕ) (item : Item) (told : Option (ℕ × ℕ)) (body : Body) (es : List Effect) (entering : Entering) (broods : List (List Seed)) (v : Parts) (x : Ending)
    (s : StartsAt S c item told body es entering broods v x) where
  abbrev P : History
  P = x.before

  abbrev e : Entry
  e = entry_of c es x

  legal : IsLegal S x.plan P
  unfolding IsLegal
  legal = s.legal.0

  pub living : HandlersLive → (state_of v).living c ≡ true
  living law = s.stands.living c ∙ stays_first S (acts P) c item es (law S x.plan P x.worker c x.took x.body es x.to x.places item s.legal)

  pub there : ComingsAreThere → (m : State) → SameQueues (state_of v) m → AreThere entering.comings m
  there law m same = law S P e entering (state_of v) m s.stands same s.entering_is

  pub below : ReceiversAreMade → IsDeclared S → (bound : ℕ) → HasRoomLeft c item told es broods bound v → AreBelow bound (state_of v)
  below law D bound room y d h q =
      let a = law S P v (record { plan = x.plan; declared = D; legal = legal; state = s.stands; numbers = s.numbers }) y d h q in
      let b = room.marks in
      omega (arith, a, b)

  module _ (w : Parts) (b : IsBegun c item body entering.comings v w) where
    nodes : (state_of w).nodes ≡ (state_of v).nodes
    nodes = b.come.tree.nodes ∙ b.puts.tree.nodes

    begun : HandlingsBegin → EnteringHasCome → StandsAt S (before_effects_of S P x.worker c x.took x.body es x.to x.places) (state_of w)
    begun law come =
        law S P x.worker c x.took item x.body es x.to x.places (state_of v) b.between (state_of w) s.taken
        (subst (λ (k : Body). ArePut (λ d. put_by_item S P d c k item) (state_of v) b.between) (sym s.body_is) (b.follows S P s.stands))
        (come S P e entering (state_of v) b.between (state_of w) s.stands b.puts.queues s.entering_is b.come) s.stands

    pub amid : HandlingsBegin → EnteringHasCome → NumbersStay → IsAmid S c item told [] es x broods w
    amid law come stay = record {
      legal = s.legal;
      taken = s.taken;
      stands = begun law come;
      numbers = stay S v w s.numbers nodes (ap (λ n. n.outs) b.room.numbers) (ap (λ n. n.counts) b.room.numbers);
      broods_are = s.broods_are;
      told_is = s.told_is;
    }

    pub counted : ComingsAreThere → PutsFollow → SameQueuesCount → ComesCount → ChannelsAreNumbered → waits_in_all w ≡ waits_in_all v + length entering.comings
    counted are follow quiet comes numbered =
        let p = with_put (start_of P) (following (state_of v) c body item) in
        let old = (numbered S (acts_at p) v s.numbers s.stands.nodes).counted in
        let a = comes S p entering.comings b.between (state_of w) (follow S (start_of P) (following (state_of v) c body item) (state_of v) b.between b.puts s.stands) (there are b.between b.puts.queues) b.come in
        let d = quiet (state_of v) b.between (total v.numbers) b.puts.queues in
        let f = ap (waits_below b.between) old in
        let g = ap (waits_below (state_of w)) old in
        let h = ap (waits_below (state_of w)) (ap total b.room.numbers) in
        omega (arith, a, d, f, g, h)
