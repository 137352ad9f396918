-- What one step of an entry makes of a state, part by part.
use Rattle.std.specs.Prelude.{◌≡◌, ◌∷◌, ℕ, ◌+◌, ◌-◌, nat_lt, length, map, [], Bool, true, false, not, ◌&&◌, ◌==◌, if◌then◌else◌, slice_get, List, ◌++◌, drop, Option, None}
use Rattle.std.specs.List.{list_any}
use Rattle.std.specs.Option.{option_map, option_map_or, option_and_then}
use Rattle.kom_base.specs.declared.numbers.Dir.{Dir}
use Rattle.kom_base.specs.declared.numbers.Dir.TheVariants.{Plus, Minus}
use Rattle.kom_base.specs.declared.numbers.Half.{Half}
use Rattle.kom_base.specs.declared.numbers.EntryNo.{EntryNo}
use Rattle.kom_base.specs.Numbers.{same_dir}
use Rattle.kom_record.specs.declared.item.Control.{Control as ControlItem}
use Rattle.kom_record.specs.declared.item.Item.{Item}
use Rattle.kom_record.specs.declared.item.Item.TheVariants.{Control, Arrival}
use Rattle.kom_lang.specs.declared.body.Body.{Body}
use Rattle.kom_record.specs.declared.entry.Outcome.{Outcome}
use Rattle.kom_record.specs.Reaction.{body_after}
use Rattle.kom_base.specs.Lists.{either}
use Rattle.kom_lang.specs.Declarations.{Declarations}
use Rattle.kom_lang.specs.Bodies.{first_body}
use Rattle.kom_record.specs.Entries.{Act}
use Rattle.kom_record.specs.Instances.{Instance, born, created, child_among, ancestry_of}
use Rattle.kom_record.specs.Channels.{Channel, Environment, Own, channels, half_of}
use Rattle.kom_lang.specs.declared.body.Effect.{Effect}
use Rattle.kom_lang.specs.declared.body.Effect.TheVariants as effect
use Rattle.kom_record.specs.Controls.{inits_for, put_by_effect}
use Rattle.kom_record.specs.Bodies.{catches}
use Rattle.kom_refine.specs.States.{Link, Queue, ControlRow, State}
use Rattle.kom_refine.specs.Points.{Point, acts_at, act_of, with_act, receiver_of, link_at, node_of}

-- the instances are the same
pub record SameTree (m n : State) : Type 0 where
  pub nodes : n.nodes ≡ m.nodes
  pub living : (c : ℕ) → n.living c ≡ m.living c
  pub child : (c s : ℕ) → n.child c s ≡ m.child c s

-- the channels are the same
abbrev pub SameLinks : State → State → Type 0
SameLinks m n = (x : ℕ) → n.links x ≡ m.links x

-- nothing entered or left a queue, and each receiver is the same
abbrev pub SameQueues : State → State → Type 0
SameQueues m n = (x : ℕ) (d : Dir) → n.queues x d ≡ m.queues x d

abbrev pub SameControls : State → State → Type 0
SameControls m n = (c : ℕ) → n.controls c ≡ m.controls c

abbrev pub SameBodies : State → State → Type 0
SameBodies m n = (c : ℕ) → n.bodies c ≡ m.bodies c

-- ---- a Took

abbrev pub comes_by : Item → ℕ → Dir → Bool
comes_by (Control k) x d = false
comes_by (Arrival y e n port side event back) x d = y == x && same_dir e d

abbrev pub is_control : Item → Bool
is_control (Control k) = true
is_control (Arrival y e n port side event back) = false

abbrev pub without_first : Queue → Queue
without_first q = record { numbers = drop 1 q.numbers; receiver = q.receiver }

abbrev pub without_item : ControlRow → ControlRow
without_item r = record { items = drop 1 r.items; active = r.active; catches = r.catches }

-- the item is taken out of the queue in which it waited first
pub record IsTaken (c : ℕ) (item : Item) (m n : State) : Type 0 where
  pub tree : SameTree m n
  pub links : SameLinks m n
  pub queues : (x : ℕ) (d : Dir) → n.queues x d ≡ (if comes_by item x d then option_map without_first (m.queues x d) else m.queues x d)
  pub controls : (d : ℕ) → n.controls d ≡ (if is_control item && c == d then option_map without_item (m.controls d) else m.controls d)
  pub bodies : SameBodies m n

-- ---- effects on channels

abbrev pub with_held : Bool → Link → Link
with_held held l = record { plus = l.plus; minus = l.minus; held = held }

abbrev pub with_end : Dir → Option Half → Link → Link
with_end Plus h l = record { plus = h; minus = l.minus; held = l.held }
with_end Minus h l = record { plus = l.plus; minus = h; held = l.held }

-- the receiver of a queue as its channel now says
abbrev pub received_by : Dir → Option Link → Queue → Option Queue
received_by d l q = option_map (λ k. record { numbers = q.numbers; receiver = receiver_of d k }) l

-- one channel is changed, and what waits in it gets the receivers that the channel then has
pub record IsRelinked (names : ℕ → Bool) (change : Link → Link) (m n : State) : Type 0 where
  pub tree : SameTree m n
  pub links : (x : ℕ) → n.links x ≡ (if names x then option_map change (m.links x) else m.links x)
  pub queues : (x : ℕ) (d : Dir) → n.queues x d ≡ (if names x then option_and_then (received_by d (n.links x)) (m.queues x d) else m.queues x d)
  pub controls : SameControls m n
  pub bodies : SameBodies m n

-- ---- what is put to components and into channels

abbrev pub with_items : List ControlItem → ControlRow → ControlRow
with_items more r = record { items = r.items ++ more; active = r.active; catches = r.catches }

abbrev pub with_numbers : List EntryNo → Queue → Queue
with_numbers more q = record { numbers = q.numbers ++ more; receiver = q.receiver }

-- each living component gets these control items, behind those that wait for it
pub record ArePut (put : ℕ → List ControlItem) (m n : State) : Type 0 where
  pub tree : SameTree m n
  pub links : SameLinks m n
  pub queues : SameQueues m n
  pub controls : (c : ℕ) → n.controls c ≡ option_map (with_items (put c)) (m.controls c)
  pub bodies : SameBodies m n

-- each direction gets these numbers, behind those that wait in it
pub record HaveCome (came : ℕ → Dir → List EntryNo) (m n : State) : Type 0 where
  pub tree : SameTree m n
  pub links : SameLinks m n
  pub queues : (x : ℕ) (d : Dir) → n.queues x d ≡ option_map (with_numbers (came x d)) (m.queues x d)
  pub controls : SameControls m n
  pub bodies : SameBodies m n

-- ---- the end of a handling

abbrev pub with_flags : (active catches : Bool) → ControlRow → ControlRow
with_flags active catches r = record { items = r.items; active = active; catches = catches }

-- the row of a component with this body
abbrev pub flagged : (Body → Bool) → Option ControlRow → Body → Option ControlRow
flagged catches row b = option_map (with_flags b.active (catches b)) row

-- the body of c is what the outcome leaves, and its row says whether that one is active and catches faults
pub record IsEnded (catches : Body → Bool) (c : ℕ) (o : Outcome) (m n : State) : Type 0 where
  pub tree : SameTree m n
  pub links : SameLinks m n
  pub queues : SameQueues m n
  pub controls : (d : ℕ) → n.controls d ≡ (if c == d then option_and_then (flagged catches (m.controls d)) (n.bodies d) else m.controls d)
  pub bodies : (d : ℕ) → n.bodies d ≡ (if c == d then option_map (λ b. body_after b o) (m.bodies d) else m.bodies d)

-- ---- a Destroy

-- d is the component in the slot, or one below it
abbrev pub is_below : State → ℕ → ℕ → ℕ → Bool
is_below m c slot d = option_map_or (λ node. list_any (λ q. c == q.0 && slot == q.1) node.ancestry) (slice_get m.nodes d) false

-- the component in slot `slot` of c ends with all below it, and with their channels, which `dies` names
pub record IsRemoved (dies : ℕ → Bool) (c slot : ℕ) (m n : State) : Type 0 where
  pub nodes : n.nodes ≡ m.nodes
  pub living : (d : ℕ) → n.living d ≡ (m.living d && not (is_below m c slot d))
  pub child : (d s : ℕ) → n.living d ≡ true → n.child d s ≡ (if c == d && slot == s then None else m.child d s)
  pub links : (x : ℕ) → n.links x ≡ (if dies x then None else m.links x)
  pub queues : (x : ℕ) (d : Dir) → n.queues x d ≡ (if dies x then None else m.queues x d)
  pub controls : (d : ℕ) → n.controls d ≡ (if is_below m c slot d then None else m.controls d)
  pub bodies : (d : ℕ) → n.bodies d ≡ (if is_below m c slot d then None else m.bodies d)

-- ---- a Create

abbrev pub first_body_of : Declarations → Instance → Body
first_body_of S i = first_body S i.kind i.birth (1 + length i.ancestry)

abbrev pub row_with : Declarations → List ControlItem → Body → ControlRow
row_with S items b = record { items = items; active = b.active; catches = catches S b }

abbrev pub empty_queue : Dir → Link → Queue
empty_queue d l = record { numbers = []; receiver = receiver_of d l }

-- The instances `news` are added, of which the first has the number `count`, and their channels, of
-- which the first has the number `chans`. `done` are the effects up to the Create.
pub record IsCreated (S : Declarations) (done : List Act) (count chans : ℕ) (news : List Instance) (m n : State) : Type 0 where
  pub nodes : n.nodes ≡ m.nodes ++ map node_of news
  pub living : (d : ℕ) → n.living d ≡ (if nat_lt d count then m.living d else nat_lt d (count + length news))
  pub child : (d s : ℕ) → n.living d ≡ true → n.child d s ≡ either (child_among S d s count news) (if nat_lt d count then m.child d s else None)
  pub links : (x : ℕ) → n.links x ≡ (if nat_lt x chans then m.links x else link_at S done x)
  pub queues : (x : ℕ) (d : Dir) → n.queues x d ≡ (if nat_lt x chans then m.queues x d else option_map (empty_queue d) (n.links x))
  pub controls : (d : ℕ) → n.controls d ≡ (if nat_lt d count then m.controls d else option_map (row_with S (inits_for S d count news)) (n.bodies d))
  pub bodies : (d : ℕ) → n.bodies d ≡ (if nat_lt d count then m.bodies d else option_map (first_body_of S) (slice_get news (d - count)))

-- ---- the effects

-- the channel k of the instance c
abbrev pub is_channel : ℕ → ℕ → Channel → Bool
is_channel c k (Environment q) = false
is_channel c k (Own d j) = c == d && k == j

module _ (S : Declarations) where
  -- x is the number of channel k of c
  abbrev pub names : List Act → ℕ → ℕ → ℕ → Bool
  names done c k x = option_map_or (is_channel c k) (slice_get (channels S done) x) false

  -- the channel is of the component in a slot of c, or of one below it
  abbrev pub lies_in : List Act → ℕ → ℕ → Channel → Bool
  lies_in done c slot (Environment q) = false
  lies_in done c slot (Own d j) = list_any (λ q. c == q.0 && slot == q.1) (ancestry_of S (born S done) d)

  abbrev pub dies : List Act → ℕ → ℕ → ℕ → Bool
  dies done c slot x = option_map_or (lies_in done c slot) (slice_get (channels S done) x) false

  -- what an effect of a handling of an item by c makes of the state
  abbrev pub IsEffect : Point → ℕ → Item → Effect → State → State → Type 0
  IsEffect p c item (effect.Hold k) m n = IsRelinked (names (acts_at p) c k) (with_held true) m n
  IsEffect p c item (effect.Resume k) m n = IsRelinked (names (acts_at p) c k) (with_held false) m n
  IsEffect p c item (effect.Plug k e place) m n = IsRelinked (names (acts_at p) c k) (with_end e (half_of S (acts_at p) c place)) m n
  IsEffect p c item (effect.Unplug k e) m n = IsRelinked (names (acts_at p) c k) (with_end e None) m n
  IsEffect p c item (effect.Create slot kind birth) m n =
      IsCreated S (act_of c item (effect.Create slot kind birth) ∷ acts_at p) (length (born S (acts_at p))) (length (channels S (acts_at p))) (created S (born S (acts_at p)) c slot kind birth) m n
  IsEffect p c item (effect.Destroy slot) m n = IsRemoved (dies (acts_at p) c slot) c slot m n
  IsEffect p c item e m n = ArePut (λ d. put_by_effect S p.before (acts_at p) d (act_of c item e) e) m n

  -- the effects one after another
  abbrev pub AreEffects : Point → ℕ → Item → List Effect → State → State → Type 0
  AreEffects p c item [] m n = m ≡ n
  AreEffects p c item (e ∷ es) m n = (k : State) × IsEffect p c item e m k × AreEffects (with_act S p (act_of c item e)) c item es k n
