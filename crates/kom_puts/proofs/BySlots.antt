-- What is put to the children, slot by slot.
use Rattle.std.proofs.Common.{◌≡◌, ◌≢◌, ℕ, zero, suc, ◌+◌, ◌-◌, ◌<◌, ◌≤◌, Bool, true, false, if◌then◌else◌, ◌==◌, refl, sym, ap, ◌∙◌, List, [], ◌∷◌, ◌++◌, length, take, Option, Some, None, IfSome, inl, inr, arith}
use Rattle.std.specs.List.{flat_map, enumerate_from}
use Rattle.std.specs.Option.{option_map}
use Rattle.std.proofs.lemmas.Bool.{cases_eq, ne_eqb}
use Rattle.std.proofs.lemmas.List.{append-nil, append_assoc}
use Rattle.kom_lang.specs.declared.body.Effect.{Effect}
use Rattle.kom_lang.specs.declared.body.Effect.TheVariants as effect
use Rattle.kom_record.specs.declared.item.Control.{Control as ControlItem}
use Rattle.kom_record.specs.declared.item.Control.TheVariants.{Start, Stop, Dump}
use Rattle.kom_record.specs.declared.item.Item.{Item}
use Rattle.kom_refine.proofs.OneByOne.{puts_add_up}
use Rattle.kom_refine.specs.States.{State}
use Rattle.kom_refine.specs.Steps.{ArePut}
use Rattle.kom_state.specs.Facts.{HoldsTogether}
use Rattle.kom_state.specs.Parts.{Parts, control_spare, state_of}
use Rattle.kom_state.specs.Rooms.{HasNoLess, IsSame, KeepsRoom}
use Rattle.kom_puts.specs.Puts.{HasRoomFor, HasRoomForChildren, TakesOneAtMost, items_for, put_in, to_child_in, to_children_in}
use Rattle.kom_puts.proofs.Living.{one_seat}

-- ---- one slot more

module _ {A X : Type 0} (f : ℕ → List A) where
  one_more_at : (xs : List X) (n i : ℕ) → i < length xs → flat_map (λ s. f s.0) (enumerate_from n (take (suc i) xs)) ≡ flat_map (λ s. f s.0) (enumerate_from n (take i xs)) ++ f (n + i)
  one_more_at [] n i h = absurd (omega arith)
  one_more_at (x ∷ xs) n zero h = append-nil (f n) ∙ ap f (let e : n ≡ n + 0 = omega arith in e)
  one_more_at (x ∷ xs) n (suc i) h =
      ap (λ l. f n ++ l) (one_more_at xs (n + 1) i (omega arith))
      ∙ sym (append_assoc (f n) (flat_map (λ s. f s.0) (enumerate_from (n + 1) (take i xs))) (f ((n + 1) + i)))
      ∙ ap (λ k. (f n ++ flat_map (λ s. f s.0) (enumerate_from (n + 1) (take i xs))) ++ f k) (let e : (n + 1) + i ≡ n + suc i = omega arith in e)

  pub one_more : (xs : List X) (i : ℕ) → i < length xs → flat_map (λ s. f s.0) (enumerate_from 0 (take (i + 1) xs)) ≡ flat_map (λ s. f s.0) (enumerate_from 0 (take i xs)) ++ f i
  one_more xs i h =
      ap (λ k. flat_map (λ s. f s.0) (enumerate_from 0 (take k xs))) (let e : i + 1 ≡ suc i = omega arith in e)
      ∙ one_more_at xs 0 i h
      ∙ ap (λ k. flat_map (λ s. f s.0) (enumerate_from 0 (take i xs)) ++ f k) (let e : 0 + i ≡ i = omega arith in e)

  pub all_of_them : (xs : List X) (i : ℕ) → take i xs ≡ xs → flat_map (λ s. f s.0) (enumerate_from 0 (take i xs)) ≡ flat_map (λ s. f s.0) (enumerate_from 0 xs)
  all_of_them xs i e = ap (λ l. flat_map (λ s. f s.0) (enumerate_from 0 l)) e

-- ---- room

-- the children from slot s on have the room that they had
abbrev pub AreLeft : Parts → ℕ → ℕ → Parts → Type 0
AreLeft v c s w = (k d : ℕ) → s ≤ k → (state_of v).child c k ≡ Some d → control_spare w d ≡ control_spare v d

module _ (v : Parts) (h : HoldsTogether v) (c s : ℕ) (k : ControlItem) (w u : Parts) (same : (state_of w).child c s ≡ (state_of v).child c s)
    (uses : (d : ℕ) → control_spare u d ≡ control_spare w d - length (items_for (to_child_in (state_of w) c s k) d)) where
  uses_in : (d : ℕ) → control_spare u d ≡ control_spare w d - length (items_for (to_child_in (state_of v) c s k) d)
  uses_in d = uses d ∙ ap (λ o. control_spare w d - length (items_for (option_map (λ x. (x, k)) o) d)) same

  spare_other : (d : ℕ) → ((state_of v).child c s ≡ Some d → ⊥) → control_spare u d ≡ control_spare w d
  spare_other d apart = uses_in d ∙ go ((state_of v).child c s) apart
    where
      go : (o : Option ℕ) → (o ≡ Some d → ⊥) → control_spare w d - length (items_for (option_map (λ x. (x, k)) o) d) ≡ control_spare w d
      go None a = omega arith
      go (Some x) a = ap (λ b. control_spare w d - length (if b then k ∷ [] else [])) (ne_eqb d x (λ e. a (ap Some (sym e)))) ∙ (let e : control_spare w d - 0 ≡ control_spare w d = omega arith in e)

  pub left_next : AreLeft v c s w → AreLeft v c (s + 1) u
  left_next left j d low e =
      spare_other d (λ f. absurd (let g = one_seat v h c s j d d f e refl in omega (arith, g, low)))
      ∙ left j d (omega (arith, low)) e

  -- who was not created is no child
  pub unborn_next : ((d : ℕ) → length (state_of v).nodes ≤ d → control_spare v d ≤ control_spare w d) → (d : ℕ) → length (state_of v).nodes ≤ d → control_spare v d ≤ control_spare u d
  unborn_next was d l =
      let a = spare_other d (λ f. absurd (let o = h.occupant c s d f in let g = h.made d o.0 in omega (arith, l, g))) in
      let b = was d l in
      omega (arith, a, b)

  one_fewer : (a : ℕ) (b : Bool) → a ≤ (a - length (if b then k ∷ [] else [])) + 1
  one_fewer a true = omega arith
  one_fewer a false = omega arith

  pub touched_next : AreLeft v c s w → TakesOneAtMost v w → TakesOneAtMost v u
  touched_next left touched d = go ((state_of v).child c s) refl
    where
      go : (o : Option ℕ) → (state_of v).child c s ≡ o → control_spare v d ≤ control_spare u d + 1
      go None e = let a = spare_other d (λ f. absurd (cc (e, f))) in let t = touched d in omega (arith, a, t)
      go (Some x) e = elim (cases_eq x d) [
        | inl f ↦
            let a = left s d (omega arith) (e ∙ ap Some f) in
            let b = uses_in d ∙ ap (λ o. control_spare w d - length (items_for (option_map (λ x. (x, k)) o) d)) e in
            let t = one_fewer (control_spare w d) (d == x) in
            omega (arith, a, b, t)
        | inr f ↦
            let a = spare_other d (λ g. f (let i : Some x ≡ Some d = sym e ∙ g in cc)) in
            let t = touched d in
            omega (arith, a, t)
      ]

-- the child in the next slot has room
pub next_has_room : (v w : Parts) (c s : ℕ) (slots : List (Option ℕ)) (k : ControlItem) → (state_of w).child c s ≡ (state_of v).child c s → s < length slots → HasRoomForChildren 1 (state_of v) c slots v → AreLeft v c s w
    → HasRoomFor 1 (to_child_in (state_of w) c s k) w
next_has_room v w c s slots k same low room left = go ((state_of w).child c s) refl
  where
    go : (o : Option ℕ) → (state_of w).child c s ≡ o → IfSome (option_map {U = ℕ × ControlItem} (λ d. (d, k)) o) (λ a. 1 ≤ control_spare w a.0)
    go None e = tt
    go (Some d) e =
        let f = sym same ∙ e in
        let a = left s d (omega arith) f in
        let b = room s d low f in
        omega (arith, a, b)

pub keeps_again : (a b c : Parts) → KeepsRoom a b → KeepsRoom b c → KeepsRoom a c
keeps_again a b c f g = record {
  numbers = g.numbers ∙ f.numbers;
  instances = g.instances ∙ f.instances;
  channels = g.channels ∙ f.channels;
  rows = λ d. g.rows d ∙ f.rows d;
  queues = λ x. g.queues x ∙ f.queues x;
}

pub keeps_all : (a : Parts) → KeepsRoom a a
keeps_all a = record { numbers = refl; instances = refl; channels = refl; rows = λ d. refl; queues = λ x. refl }

-- ---- what is reserved, step by step

pub same_again : (a b c : State) → IsSame a b → IsSame b c → IsSame a c
same_again a b c f g = record {
  tree = record { nodes = g.tree.nodes ∙ f.tree.nodes; living = λ d. g.tree.living d ∙ f.tree.living d; child = λ d s. g.tree.child d s ∙ f.tree.child d s };
  links = λ x. g.links x ∙ f.links x;
  queues = λ x d. g.queues x d ∙ f.queues x d;
  controls = λ d. g.controls d ∙ f.controls d;
  bodies = λ d. g.bodies d ∙ f.bodies d;
}

pub no_less_again : (a b c : Parts) → HasNoLess a b → HasNoLess b c → HasNoLess a c
no_less_again a b c f g = record {
  outs = g.outs ∙ f.outs;
  counts = g.counts ∙ f.counts;
  instances = let x = f.instances in let y = g.instances in omega (arith, x, y);
  channels = let x = f.channels in let y = g.channels in omega (arith, x, y);
  controls = λ d. let x = f.controls d in let y = g.controls d in omega (arith, x, y);
  rows = λ d h. g.rows d (f.rows d h);
  numbers = λ x d. let y = f.numbers x d in let z = g.numbers x d in omega (arith, y, z);
  queues = λ x h. g.queues x (f.queues x h);
}

-- the children below slot s have room
abbrev pub HaveRoomBelow : ℕ → State → ℕ → ℕ → Parts → Type 0
HaveRoomBelow n m c s v = (k d : ℕ) → k < s → m.child c k ≡ Some d → n ≤ control_spare v d

pub below_next : (n : ℕ) (m : State) (c s : ℕ) (child : Option ℕ) (w u : Parts) → child ≡ m.child c s → HasNoLess w u → IfSome child (λ d. n ≤ control_spare u d) → HaveRoomBelow n m c s w → HaveRoomBelow n m c (s + 1) u
below_next n m c s child w u is less one below k d low e = elim (cases_eq k s) [
  | inl f ↦ own child (is ∙ ap (m.child c) (sym f) ∙ e) one
  | inr f ↦ let a = below k d (let g : k ≢ s = f in omega (arith, low, g)) e in let b = less.controls d in omega (arith, a, b)
]
  where
    own : (o : Option ℕ) → o ≡ Some d → IfSome o (λ d. n ≤ control_spare u d) → n ≤ control_spare u d
    own None a b = absurd cc
    own (Some x) a b = let f : x ≡ d = cc in ap-le f b
      where
        ap-le : x ≡ d → n ≤ control_spare u x → n ≤ control_spare u d
        ap-le f b = let g = ap (control_spare u) f in omega (arith, g, b)

-- the item for the child in the next slot
pub put_next : (m k n : State) (c s : ℕ) (slots : List (Option ℕ)) (x : ControlItem) (to : Option (ℕ × ControlItem)) → s < length slots → to ≡ to_child_in m c s x
    → ArePut (to_children_in m c (take s slots) x) m k → ArePut (items_for to) k n → ArePut (to_children_in m c (take (s + 1) slots) x) m n
put_next m k n c s slots x to low e a b =
    puts_add_up (to_children_in m c (take s slots) x) (items_for to) (to_children_in m c (take (s + 1) slots) x) m k n
    (λ d. one_more (λ s. items_for (to_child_in m c s x) d) slots s low ∙ ap (λ o. to_children_in m c (take s slots) x d ++ items_for o d) (sym e)) a b

-- ---- effect by effect

pub put_in_same : (m n : State) (c : ℕ) (item : Item) (told : Option (ℕ × ℕ)) (e : Effect) → ((s : ℕ) → n.child c s ≡ m.child c s) → put_in n c item told e ≡ put_in m c item told e
put_in_same m n c item told (effect.Start s) h = ap (option_map {U = ℕ × ControlItem} (λ d. (d, Start))) (h s)
put_in_same m n c item told (effect.Stop s) h = ap (option_map {U = ℕ × ControlItem} (λ d. (d, Stop))) (h s)
put_in_same m n c item told (effect.Dump s) h = ap (option_map {U = ℕ × ControlItem} (λ d. (d, Dump))) (h s)
put_in_same m n c item told e h = refl

pub room_stays : (n : ℕ) (o : Option (ℕ × ControlItem)) (v w : Parts) → HasNoLess v w → HasRoomFor n o v → HasRoomFor n o w
room_stays n None v w less h = tt
room_stays n (Some a) v w less h = let b = less.controls a.0 in omega (arith, b, h)

-- an item for somebody who lives leaves the room of who was not created
pub unborn_kept : (v w : Parts) → HoldsTogether v → (to : Option (ℕ × ControlItem)) → IfSome to (λ a. (state_of v).living a.0 ≡ true) → ((d : ℕ) → control_spare w d ≡ control_spare v d - length (items_for to d))
    → (d : ℕ) → length (state_of v).nodes ≤ d → control_spare v d ≤ control_spare w d
unborn_kept v w h None live uses d l = let a = uses d in omega (arith, a)
unborn_kept v w h (Some q) live uses d l =
    let g = h.made q.0 live in
    let a = uses d in
    let n = ap (λ b. control_spare v d - length (if b then q.1 ∷ [] else [])) (ne_eqb d q.0 (λ e. absurd (omega (arith, e, g, l)))) in
    omega (arith, a, n)
