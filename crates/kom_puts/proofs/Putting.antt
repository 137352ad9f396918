-- What is put by the state is what the definitions say.
use Rattle.std.proofs.Common.{◌≡◌, ℕ, ◌≤◌, Bool, true, false, if◌then◌else◌, ◌==◌, refl, sym, ap, ◌∙◌, List, [], ◌∷◌, ◌++◌, length, Option, Some, None, IfSome, arith}
use Rattle.std.specs.List.{flat_map, enumerate_from}
use Rattle.std.specs.Option.{option_map, option_map_or, option_and_then}
use Rattle.std.proofs.lemmas.Bool.{eqb-true, eq-eqb}
use Rattle.kom_base.specs.Lists.{if_so, first}
use Rattle.kom_lang.specs.Declarations.{Declarations}
use Rattle.kom_lang.specs.declared.body.Body.{Body}
use Rattle.kom_lang.specs.declared.body.Effect.{Effect}
use Rattle.kom_lang.specs.declared.body.Effect.TheVariants as effect
use Rattle.kom_record.specs.declared.item.Control.{Control as ControlItem}
use Rattle.kom_record.specs.declared.item.Control.TheVariants.{Init, Start, Stop, Fault, Dump, Dumped}
use Rattle.kom_record.specs.declared.item.Item.{Item}
use Rattle.kom_record.specs.declared.item.Item.TheVariants.{Control, Arrival}
use Rattle.kom_record.specs.Entries.{History, acts}
use Rattle.kom_record.specs.Instances.{alive}
use Rattle.kom_record.specs.Bodies.{nearest}
use Rattle.kom_record.specs.Controls.{fault_in, put_by_effect, put_by_item, putting, to_child, to_children, to_nearest, to_parent}
use Rattle.kom_told.proofs.Telling.{lines}
use Rattle.kom_refine.specs.Points.{Point, StandsAt, acts_at, start_of}
use Rattle.kom_refine.specs.States.{State}
use Rattle.kom_refine.specs.Steps.{ArePut, IsEffect, with_items}
use Rattle.kom_state.specs.Parts.{Parts, control_spare}
use Rattle.kom_state.specs.Readings.{ancestry_at}
use Rattle.kom_state.specs.Steps.{to_one}
use Rattle.kom_puts.specs.Puts.{HasRoomFor, HasRoomForChildren, HasRoomToFollow, dumped_in, following, items_for, leaves_structure, put_in, to_child_in, to_children_in}
use Rattle.kom_puts.specs.Laws.{FaultsArePut, SameStatesFollow}
use Rattle.kom_puts.specs.Signals.{item_of, signal_in}
use Rattle.kom_puts.specs.declared.children.Signal.{Signal}

-- the same is put
pub same_puts : (put more : ℕ → List ControlItem) (m n : State) → ((d : ℕ) → put d ≡ more d) → ArePut put m n → ArePut more m n
same_puts put more m n e a = record {
  tree = a.tree;
  links = a.links;
  queues = a.queues;
  controls = λ d. a.controls d ∙ ap (λ is. option_map (with_items is) (m.controls d)) (e d);
  bodies = a.bodies;
}

turned : (a b : ℕ) → (a == b) ≡ (b == a)
turned a b = go (a == b) (b == a) refl refl
  where
    go : (s t : Bool) → (a == b) ≡ s → (b == a) ≡ t → (a == b) ≡ (b == a)
    go true t x y = x ∙ sym (eq-eqb b a (sym (eqb-true a b x)))
    go false true x y = eq-eqb a b (sym (eqb-true b a y)) ∙ sym y
    go false false x y = x ∙ sym y

one_item : (b : Bool) (k : ControlItem) → (if b then k ∷ [] else []) ≡ if_so b (k ∷ [])
one_item true k = refl
one_item false k = refl

-- the item for one component
pub item_is : (x d : ℕ) (k : ControlItem) → to_one x k d ≡ if_so (x == d) (k ∷ [])
item_is x d k = ap (λ b. if b then k ∷ [] else []) (turned d x) ∙ one_item (x == d) k

child_items : (o : Option ℕ) (k : ControlItem) (d : ℕ) → items_for (option_map (λ x. (x, k)) o) d ≡ if_so (option_map_or (λ q. q == d) o false) (k ∷ [])
child_items None k d = refl
child_items (Some x) k d = item_is x d k

pub pair_items : (o : Option (ℕ × ℕ)) (f : ℕ → ControlItem) (d : ℕ) → items_for (option_map (λ q. (q.0, f q.1)) o) d ≡ option_map_or (λ q. if_so (q.0 == d) (f q.1 ∷ [])) o []
pair_items None f d = refl
pair_items (Some q) f d = item_is q.0 d (f q.1)

-- ---- the effects

module _ (S : Declarations) (p : Point) (m n : State) (s : StandsAt S p m) (c : ℕ) (l : m.living c ≡ true) where
  lives : alive S (acts_at p) c ≡ true
  lives = sym (s.living c) ∙ l

  child_is : (x : ℕ) (k : ControlItem) (d : ℕ) → items_for (to_child_in m c x k) d ≡ to_child S (acts_at p) d c x k
  unfolding to_child
  child_is x k d = child_items (m.child c x) k d ∙ ap (λ o. if_so (option_map_or (λ q. q == d) o false) (k ∷ [])) (s.child c x lives)

  nearest_items : (o : Option ℕ) (told : Option (ℕ × ℕ)) (d : ℕ) → told ≡ nearest S p.before c
      → items_for (option_and_then (λ n. option_map {U = ℕ × ControlItem} (λ q. (q.0, Fault q.1 n)) told) o) d ≡ option_map_or (λ n. to_nearest S p.before d c n) o []
  unfolding to_nearest
  nearest_items None told d e = refl
  nearest_items (Some n) told d e = pair_items told (λ a. Fault a n) d ∙ ap (λ o. option_map_or (λ q. if_so (q.0 == d) (Fault q.1 n ∷ [])) o []) e

  pub effect_is : (item : Item) (told : Option (ℕ × ℕ)) (e : Effect) → leaves_structure e ≡ true → told ≡ nearest S p.before c → ArePut (items_for (put_in m c item told e)) m n → IsEffect S p c item e m n
  unfolding put_by_effect
  effect_is item told (effect.Hold k) h t a = absurd cc
  effect_is item told (effect.Resume k) h t a = absurd cc
  effect_is item told (effect.Plug k e place) h t a = absurd cc
  effect_is item told (effect.Unplug k e) h t a = absurd cc
  effect_is item told (effect.Create slot kind birth) h t a = absurd cc
  effect_is item told (effect.Destroy slot) h t a = absurd cc
  effect_is item told (effect.Start x) h t a = same_puts _ _ m n (child_is x Start) a
  effect_is item told (effect.Stop x) h t a = same_puts _ _ m n (child_is x Stop) a
  effect_is item told (effect.Dump x) h t a = same_puts _ _ m n (child_is x Dump) a
  effect_is item told effect.Escalate h t a = same_puts _ _ m n (λ d. nearest_items (fault_in item) told d t) a
  effect_is item told (effect.Trigger port event) h t a = a
  effect_is item told (effect.Answer event) h t a = a

-- ---- the item

flat_same : {X A : Type 0} (f g : X → List A) (xs : List X) → ((x : X) → f x ≡ g x) → flat_map f xs ≡ flat_map g xs
flat_same f g [] e = refl
flat_same f g (x ∷ xs) e = ap (λ l. l ++ flat_map f xs) (e x) ∙ ap (λ l. g x ++ l) (flat_same f g xs e)

module _ (S : Declarations) (P : History) (m n : State) (s : StandsAt S (start_of P) m) (c : ℕ) (l : m.living c ≡ true) where
  children_are : (b : Body) (k : ControlItem) (d : ℕ) → to_children_in m c b.slots k d ≡ to_children S P d c b k
  unfolding to_children
  children_are b k d = flat_same (λ x. items_for (to_child_in m c x.0 k) d) (λ x. to_child S (acts P) d c x.0 k) (enumerate_from 0 b.slots) (λ x. child_is S (start_of P) m n s c l x.0 k d)

  parent_is : (b : Body) (d : ℕ) → items_for (option_map {U = ℕ × ControlItem} (λ q. (q.0, Dumped q.1 b.vars)) (first (ancestry_at m c))) d ≡ to_parent S P d c b
  unfolding to_parent
  parent_is b d =
      pair_items (first (ancestry_at m c)) (λ a. Dumped a b.vars) d
      ∙ ap (λ line. option_map_or (λ q. if_so (q.0 == d) (Dumped q.1 b.vars ∷ [])) (first line) []) (sym (lines S (start_of P) m c s))

  pub follows_is : (b : Body) (item : Item) → ArePut (following m c b item) m n → ArePut (λ d. put_by_item S P d c b item) m n
  unfolding put_by_item
  follows_is b (Control Start) a = same_puts _ _ m n (children_are b Start) a
  follows_is b (Control Stop) a = same_puts _ _ m n (children_are b Stop) a
  follows_is b (Control Dump) a = same_puts _ _ m n (parent_is b) a
  follows_is b (Control (Init vs)) a = a
  follows_is b (Control (Fault slot number)) a = a
  follows_is b (Control (Dumped slot vs)) a = a
  follows_is b (Arrival x d number port side event back) a = a

-- ---- the item, by whether it is a signal

pub by_signal : (m : State) (c : ℕ) (b : Body) (item : Item) (d : ℕ) → option_map_or (λ g. to_children_in m c b.slots (item_of g) d) (signal_in item) (items_for (dumped_in m c b item) d) ≡ following m c b item d
by_signal m c b (Control Start) d = refl
by_signal m c b (Control Stop) d = refl
by_signal m c b (Control Dump) d = refl
by_signal m c b (Control (Init vs)) d = refl
by_signal m c b (Control (Fault slot number)) d = refl
by_signal m c b (Control (Dumped slot vs)) d = refl
by_signal m c b (Arrival x e number port side event back) d = refl

pub room_of_signal : (k : ℕ) (m : State) (c : ℕ) (b : Body) (item : Item) (g : Signal) (v : Parts) → Some g ≡ signal_in item → HasRoomToFollow k m c b item v → HasRoomForChildren k m c b.slots v
room_of_signal k m c b (Control Start) g v e h = h
room_of_signal k m c b (Control Stop) g v e h = h
room_of_signal k m c b (Control Dump) g v e h = absurd cc
room_of_signal k m c b (Control (Init vs)) g v e h = absurd cc
room_of_signal k m c b (Control (Fault slot number)) g v e h = absurd cc
room_of_signal k m c b (Control (Dumped slot vs)) g v e h = absurd cc
room_of_signal k m c b (Arrival x d number port side event back) g v e h = absurd cc

pub room_for_signal : (k : ℕ) (m : State) (c : ℕ) (b : Body) (item : Item) (g : Signal) (v : Parts) → Some g ≡ signal_in item → HasRoomForChildren k m c b.slots v → HasRoomToFollow k m c b item v
room_for_signal k m c b (Control Start) g v e h = h
room_for_signal k m c b (Control Stop) g v e h = h
room_for_signal k m c b (Control Dump) g v e h = absurd cc
room_for_signal k m c b (Control (Init vs)) g v e h = absurd cc
room_for_signal k m c b (Control (Fault slot number)) g v e h = absurd cc
room_for_signal k m c b (Control (Dumped slot vs)) g v e h = absurd cc
room_for_signal k m c b (Arrival x d number port side event back) g v e h = absurd cc

pub room_of_none : (k : ℕ) (m : State) (c : ℕ) (b : Body) (item : Item) (v : Parts) → None ≡ signal_in item → HasRoomToFollow k m c b item v → HasRoomFor k (dumped_in m c b item) v
room_of_none k m c b (Control Start) v e h = absurd cc
room_of_none k m c b (Control Stop) v e h = absurd cc
room_of_none k m c b (Control Dump) v e h = h
room_of_none k m c b (Control (Init vs)) v e h = h
room_of_none k m c b (Control (Fault slot number)) v e h = h
room_of_none k m c b (Control (Dumped slot vs)) v e h = h
room_of_none k m c b (Arrival x d number port side event back) v e h = h

pub room_for_none : (k : ℕ) (m : State) (c : ℕ) (b : Body) (item : Item) (v : Parts) → None ≡ signal_in item → HasRoomFor k (dumped_in m c b item) v → HasRoomToFollow k m c b item v
room_for_none k m c b (Control Start) v e h = absurd cc
room_for_none k m c b (Control Stop) v e h = absurd cc
room_for_none k m c b (Control Dump) v e h = h
room_for_none k m c b (Control (Init vs)) v e h = h
room_for_none k m c b (Control (Fault slot number)) v e h = h
room_for_none k m c b (Control (Dumped slot vs)) v e h = h
room_for_none k m c b (Arrival x d number port side event back) v e h = h

-- room for the component of an item
pub room_for_its_own : (k : ℕ) (o : Option (ℕ × ControlItem)) (v : Parts) → IfSome (option_map (λ a. a.0) o) (λ d. k ≤ control_spare v d) → HasRoomFor k o v
room_for_its_own k None v h = tt
room_for_its_own k (Some a) v h = h

-- one item takes room for one at most
pub one_at_most : (o : Option (ℕ × ControlItem)) (d : ℕ) → length (items_for o d) ≤ 1
one_at_most None d = omega arith
one_at_most (Some a) d = go (d == a.0)
  where
    go : (b : Bool) → length (if b then a.1 ∷ [] else []) ≤ 1
    go true = omega arith
    go false = omega arith

-- ---- a fault

pub fault_is : FaultsArePut
unfolding putting to_nearest
fault_is S P w c took number to places told m n e a = same_puts _ _ m n (λ d. pair_items told (λ s. Fault s number) d ∙ ap (λ o. option_map_or (λ q. if_so (q.0 == d) (Fault q.1 number ∷ [])) o []) e) a

-- ---- the same state

pub same_is : SameStatesFollow
same_is S p m n e s = record {
  nodes = e.tree.nodes ∙ s.nodes;
  living = λ c. e.tree.living c ∙ s.living c;
  child = λ c q l. e.tree.child c q ∙ s.child c q l;
  links = λ x. e.links x ∙ s.links x;
  queues = λ x d. e.queues x d ∙ s.queues x d;
  controls = λ c. e.controls c ∙ s.controls c;
  bodies = λ c. e.bodies c ∙ s.bodies c;
}
