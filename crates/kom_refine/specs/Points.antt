-- A point of a run is a record and a part of its next entry: some of its effects, some of what it
-- puts to components and into channels. The state of a run stands for such a point.
use Rattle.std.specs.Prelude.{◌≡◌, ◌<◌, ◌≤◌, ℕ, ◌+◌, true, if◌then◌else◌, List, [], ◌∷◌, ◌++◌, length, map, slice_get, Option, Some, None}
use Rattle.std.specs.List.{filter_map}
use Rattle.std.specs.Option.{option_map, option_map_or}
use Rattle.kom_base.specs.declared.numbers.Dir.{Dir}
use Rattle.kom_base.specs.declared.numbers.Dir.TheVariants.{Plus, Minus}
use Rattle.kom_base.specs.declared.numbers.EntryNo.{EntryNo}
use Rattle.kom_base.specs.Numbers.{opposite}
use Rattle.kom_lang.specs.Declarations.{Declarations}
use Rattle.kom_lang.specs.Bodies.{first_body}
use Rattle.kom_lang.specs.declared.body.Body.{Body}
use Rattle.kom_lang.specs.declared.body.Effect.{Effect}
use Rattle.kom_record.specs.declared.item.Control.{Control as ControlItem}
use Rattle.kom_record.specs.declared.item.Item.{Item}
use Rattle.kom_record.specs.declared.entry.Outcome.TheVariants as outcome
use Rattle.kom_record.specs.declared.entry.Entry.{Entry}
use Rattle.kom_record.specs.declared.entry.Entry.TheVariants.{Did}
use Rattle.kom_record.specs.Entries.{History, Act, acts, acts_of, item_at}
use Rattle.kom_record.specs.Instances.{Instance, born, alive, occupant}
use Rattle.kom_record.specs.Channels.{channels, place, held, is_living, goes_out}
use Rattle.kom_record.specs.Queues.{Envelope, waiting, entering}
use Rattle.kom_record.specs.Controls.{control_waiting, putting, put_by_effect, put_by_item}
use Rattle.kom_record.specs.Bodies.{body_after_all, outcome_of, catches}
use Rattle.kom_refine.specs.States.{Node, Link, Queue, ControlRow, State, end_of}

-- The record before the entry; the effects of the entry so far, the last one first; what the entry
-- put to each component and into each direction so far; and the entry, once its body is the one in
-- force.
pub record Point : Type 0 where
  pub before : History
  pub mine : List Act
  pub put : ℕ → List ControlItem
  pub came : ℕ → Dir → List Envelope
  pub ended : List Entry

-- a record, with nothing of a next entry
abbrev pub start_of : History → Point
start_of P = record { before = P; mine = []; put = λ c. []; came = λ x d. []; ended = [] }

-- all effects up to a point
abbrev pub acts_at : Point → List Act
acts_at p = p.mine ++ acts p.before

-- who may take what waits in direction d of a channel: the component at its destination, if the
-- channel is not held
abbrev pub receiver_of : Dir → Link → Option ℕ
receiver_of d l = if l.held then None else option_map (λ h. h.comp) (end_of l (opposite d))

-- this is put to each component, and this comes into each direction
abbrev pub with_put : Point → (ℕ → List ControlItem) → Point
with_put p more = record { before = p.before; mine = p.mine; put = λ c. p.put c ++ more c; came = p.came; ended = p.ended }

abbrev pub with_came : Point → (ℕ → Dir → List Envelope) → Point
with_came p more = record { before = p.before; mine = p.mine; put = p.put; came = λ x d. p.came x d ++ more x d; ended = p.ended }

-- the entry is there, and with it the body that its outcome leaves
abbrev pub with_entry : Point → Entry → Point
with_entry p e = record { before = p.before; mine = p.mine; put = p.put; came = p.came; ended = e ∷ p.ended }

-- the effect of a handling of an item by c
abbrev pub act_of : ℕ → Item → Effect → Act
act_of c item e = record { by = c; item = item; effect = e }

abbrev pub node_of : Instance → Node
node_of i = record { kind = i.kind; ancestry = i.ancestry }

module _ (S : Declarations) where
  -- the point at which all of an entry is done
  abbrev pub done_with : History → Entry → Point
  done_with P e = record { before = P; mine = acts_of P e; put = putting S P e; came = entering S P e; ended = e ∷ [] }

  -- one effect more, with what it puts to each component
  abbrev pub with_act : Point → Act → Point
  with_act p a = record { before = p.before; mine = a ∷ p.mine; put = λ c. p.put c ++ put_by_effect S p.before (acts_at p) c a a.effect; came = p.came; ended = p.ended }

  -- the effects of a handling of an item by c, one after another
  abbrev pub with_effects : Point → ℕ → Item → List Effect → Point
  with_effects p c item [] = p
  with_effects p c item (e ∷ es) = with_effects (with_act p (act_of c item e)) c item es

  -- the point before the effects of a handling that ends: what follows from its item is put, and
  -- what the entry offers has come into the channels
  abbrev pub before_effects_of : History → (w c took : ℕ) → Body → List Effect → Option ℕ → List ℕ → Point
  before_effects_of P w c took body effects to places =
      with_came
      (with_put (start_of P) (λ d. option_map_or (put_by_item S P d c body) (item_at P took) []))
      (entering S P (Did w c took (outcome.Done body effects) to places))

  -- a living channel after these acts
  abbrev pub link_at : List Act → ℕ → Option Link
  link_at done x = if is_living S done x then Some (record { plus = place S done x Plus; minus = place S done x Minus; held = held S done x }) else None

  -- the numbers of what waits in a direction at a point
  abbrev pub numbers_at : Point → ℕ → Dir → List EntryNo
  numbers_at p x d = map (λ q. q.no) (waiting S p.before x d ++ p.came x d)

  abbrev pub queue_at : Point → ℕ → Dir → Option Queue
  queue_at p x d = if goes_out S x d then None else option_map (λ l. record { numbers = numbers_at p x d; receiver = receiver_of d l }) (link_at (acts_at p) x)

  -- the body of c at a point; none where c was not created
  abbrev pub body_of : Point → ℕ → Option Body
  body_of p c = option_map
      (λ i. body_after_all (first_body S i.kind i.birth (1 + length i.ancestry)) (filter_map (outcome_of c) (p.ended ++ p.before)))
      (slice_get (born S (acts_at p)) c)

  -- the body of a living component
  abbrev pub living_body : Point → ℕ → Option Body
  living_body p c = if alive S (acts_at p) c then body_of p c else None

  abbrev pub controls_at : Point → ℕ → Option ControlRow
  controls_at p c = option_map (λ b. record { items = control_waiting S p.before c ++ p.put c; active = b.active; catches = catches S b }) (living_body p c)

  -- the state stands for the point
  pub record StandsAt (p : Point) (m : State) : Type 0 where
    pub nodes : m.nodes ≡ map node_of (born S (acts_at p))
    pub living : (c : ℕ) → m.living c ≡ alive S (acts_at p) c
    pub child : (c s : ℕ) → alive S (acts_at p) c ≡ true → m.child c s ≡ occupant S (acts_at p) c s
    pub links : (x : ℕ) → m.links x ≡ link_at (acts_at p) x
    pub queues : (x : ℕ) (d : Dir) → m.queues x d ≡ queue_at p x d
    pub controls : (c : ℕ) → m.controls c ≡ controls_at p c
    pub bodies : (c : ℕ) → m.bodies c ≡ living_body p c

  -- each of these effects is by a component that was created before
  abbrev pub AreByCreated : List Act → Type 0
  AreByCreated [] = Unit {0}
  AreByCreated (a ∷ done) = AreByCreated done × (a.by < length (born S done))

  -- nothing was put to, done by or came to what is not created at the point
  pub record IsFresh (p : Point) : Type 0 where
    pub by_created : AreByCreated (acts_at p)
    pub nothing_put : (d : ℕ) → length (born S (acts_at p)) ≤ d → control_waiting S p.before d ++ p.put d ≡ []
    pub nothing_done : (d : ℕ) → length (born S (acts_at p)) ≤ d → filter_map (outcome_of d) (p.ended ++ p.before) ≡ []
    pub nothing_came : (x : ℕ) (d : Dir) → length (channels S (acts_at p)) ≤ x → waiting S p.before x d ++ p.came x d ≡ []
