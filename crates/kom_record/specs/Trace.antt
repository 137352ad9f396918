-- The text of a record: a first line, the lines of each entry, and, where the record is finished,
-- two lines about its end.
use Rattle.std.specs.Prelude.{ℕ, ℤ, Bool, true, false, if◌then◌else◌, List, [], ◌∷◌, ◌++◌, length, map, slice_get, slice_index_or, Option, Some, None, codes}
use Rattle.std.specs.List.{flat_map, enumerate_from, count_by}
use Rattle.std.specs.Option.{option_map, option_map_or}
use Rattle.std.specs.Fmt.{decimal, signed_decimal, digits}
use Rattle.kom_base.specs.declared.numbers.Dir.{Dir}
use Rattle.kom_base.specs.declared.numbers.Dir.TheVariants.{Plus, Minus}
use Rattle.kom_base.specs.declared.numbers.Side.{Side}
use Rattle.kom_base.specs.declared.numbers.Side.TheVariants.{Outside, Inside}
use Rattle.kom_base.specs.declared.values.Event.{Event}
use Rattle.kom_base.specs.Lists.{either}
use Rattle.kom_lang.specs.Declarations.{Declarations, kind_of, no_kind}
use Rattle.kom_lang.specs.declared.kind.Kind.{Kind}
use Rattle.kom_lang.specs.declared.kind.Place.{Place}
use Rattle.kom_lang.specs.declared.body.Birth.{Birth}
use Rattle.kom_lang.specs.declared.body.Birth.TheVariants.{Args, State}
use Rattle.kom_lang.specs.declared.body.Effect.{Effect}
use Rattle.kom_lang.specs.declared.body.Effect.TheVariants as effect
use Rattle.kom_record.specs.declared.plan.Plan.{Plan}
use Rattle.kom_record.specs.declared.item.Back.{Back}
use Rattle.kom_record.specs.declared.item.Back.TheVariants.{To}
use Rattle.kom_record.specs.declared.item.Control.{Control as ControlItem}
use Rattle.kom_record.specs.declared.item.Control.TheVariants.{Init, Start, Stop, Fault, Dump, Dumped}
use Rattle.kom_record.specs.declared.item.Item.{Item}
use Rattle.kom_record.specs.declared.item.Item.TheVariants.{Control, Arrival}
use Rattle.kom_record.specs.declared.entry.Outcome.{Outcome}
use Rattle.kom_record.specs.declared.entry.Outcome.TheVariants as outcome
use Rattle.kom_record.specs.declared.entry.Release.{Release}
use Rattle.kom_record.specs.declared.entry.Entry.{Entry}
use Rattle.kom_record.specs.declared.entry.Entry.TheVariants.{Took, Did, Moved}
use Rattle.kom_record.specs.Entries.{History, Act, acts, acts_for, item_at}
use Rattle.kom_record.specs.Instances.{born, occupant}
use Rattle.kom_record.specs.Controls.{raised}
use Rattle.kom_record.specs.Ready.{is_took, is_moved, is_unhandled, is_idle, is_finished, queued, out}

abbrev pub Text : Type 0
Text = List ℕ

-- ---- words

-- a word with a space before it
abbrev pub word : Text → Text
word t = 32 ∷ t

abbrev pub number : ℕ → Text
number n = word (decimal n)

abbrev pub numbers : List ℤ → Text
numbers vs = flat_map (λ v. word (signed_decimal v)) vs

-- two words joined by a dot
abbrev pub dotted : Text → Text → Text
dotted a b = a ++ 46 ∷ b

-- the number of a component, or `none`
abbrev pub number_or_none : Option ℕ → Text
number_or_none None = word (codes "none")
number_or_none (Some c) = number c

abbrev pub direction : Dir → Text
direction Plus = codes "plus"
direction Minus = codes "minus"

abbrev pub side_word : Side → Text
side_word Outside = codes "outside"
side_word Inside = codes "inside"

abbrev pub status_word : Bool → Text
status_word true = codes "active"
status_word false = codes "passive"

-- ---- names

abbrev pub port_name : Kind → ℕ → Text
port_name k q = option_map_or (λ p. p.name) (slice_get k.ports q) []

abbrev pub slot_name : Kind → ℕ → Text
slot_name k s = option_map_or (λ d. d.name) (slice_get k.slots s) []

abbrev pub channel_name : Kind → ℕ → Text
channel_name k x = option_map_or (λ d. d.name) (slice_get k.channels x) []

-- the event with the name of its type; `names` are those of the event types
abbrev pub event_text : List Text → Event → Text
event_text names event = word (slice_index_or names event.kind []) ++ numbers event.values

-- ---- items

abbrev pub arrival_word : Back → Text
arrival_word (To s) = codes "reply"
arrival_word b = codes "event"

abbrev pub control_text : ControlItem → Text
control_text (Init vs) = word (codes "init") ++ numbers vs
control_text Start = word (codes "start")
control_text Stop = word (codes "stop")
control_text (Fault slot n) = word (codes "fault") ++ number slot ++ number n
control_text Dump = word (codes "dump")
control_text (Dumped slot vs) = word (codes "dumped") ++ number slot ++ numbers vs

-- an item of a component of type k
abbrev pub item_text : List Text → Kind → Item → Text
item_text names k (Control c) = control_text c
item_text names k (Arrival x d n port side event back) =
    word (arrival_word back) ++ number x ++ word (direction d)
    ++ word (dotted (decimal n.position) (decimal n.place))
    ++ word (port_name k port) ++ word (side_word side) ++ event_text names event

-- ---- lines

-- a line of something that belongs to the entry above it begins with two spaces
abbrev pub indented : Text → Text
indented t = 32 ∷ 32 ∷ t

-- a line that begins with an entry's position and its worker
abbrev pub entry_line : ℕ → ℕ → Text → Text
entry_line position w t = decimal position ++ number w ++ t

module _ (names : List Text) (S : Declarations) where
  -- the type of a component, after these acts
  abbrev pub type_of : List Act → ℕ → Kind
  type_of done c = option_map_or (λ i. kind_of S i.kind) (slice_get (born S done) c) no_kind

  -- what a component is created from: the arguments, or `state` and the values
  abbrev pub birth_text : Birth → Text
  birth_text (Args vs) = numbers vs
  birth_text (State vs) = word (codes "state") ++ numbers vs

  -- a place of c: `self` or the slot, and the port, by its name in the type that is then there
  abbrev pub place_text : List Act → ℕ → Place → Text
  place_text done c p =
      elim p.slot [
        | None ↦ dotted (codes "self") (port_name (type_of done c) p.port)
        | Some s ↦ dotted (slot_name (type_of done c) s) (option_map_or (λ q. port_name (type_of done q) p.port) (occupant S done c s) [])
      ]

  -- the line of an effect of c, after these acts; `to` is who is told of a fault that is escalated
  abbrev pub effect_text : List Act → ℕ → Option ℕ → Effect → Text
  effect_text done c to (effect.Trigger port event) = codes "trigger" ++ word (port_name (type_of done c) port) ++ event_text names event
  effect_text done c to (effect.Answer event) = codes "answer" ++ event_text names event
  effect_text done c to (effect.Create slot kind birth) =
      codes "create" ++ word (slot_name (type_of done c) slot) ++ word (kind_of S kind).name ++ number (length (born S done)) ++ birth_text birth
  effect_text done c to (effect.Start slot) = codes "start" ++ word (slot_name (type_of done c) slot)
  effect_text done c to (effect.Stop slot) = codes "stop" ++ word (slot_name (type_of done c) slot)
  effect_text done c to (effect.Destroy slot) = codes "destroy" ++ word (slot_name (type_of done c) slot)
  effect_text done c to (effect.Dump slot) = codes "dump" ++ word (slot_name (type_of done c) slot)
  effect_text done c to (effect.Hold k) = codes "hold" ++ word (channel_name (type_of done c) k)
  effect_text done c to (effect.Resume k) = codes "resume" ++ word (channel_name (type_of done c) k)
  effect_text done c to (effect.Unplug k e) = codes "unplug" ++ word (dotted (channel_name (type_of done c) k) (direction e))
  effect_text done c to (effect.Plug k e p) = codes "plug" ++ word (dotted (channel_name (type_of done c) k) (direction e)) ++ word (place_text done c p)
  effect_text done c to effect.Escalate = codes "escalate to" ++ number_or_none to

  -- the lines of effects, one after another, each after those before it
  unfoldable pub effect_lines : List Act → ℕ → Option Item → Option ℕ → List Effect → List Text
  effect_lines done c item to [] = []
  effect_lines done c item to (e ∷ es) = indented (effect_text done c to e) ∷ effect_lines (acts_for c item (e ∷ []) ++ done) c item to es

  abbrev pub outcome_text : Outcome → Option ℕ → Text
  outcome_text outcome.Void to = word (codes "void")
  outcome_text (outcome.Fault n) to = word (codes "fault") ++ number n ++ word (codes "to") ++ number_or_none to
  outcome_text (outcome.Done body effects) to = word (codes "done") ++ word (status_word body.active) ++ numbers body.vars

  abbrev pub release_line : ℕ × Release → Text
  release_line r = indented (codes "release" ++ number r.1.chan ++ number r.0 ++ event_text names r.1.event)

  abbrev pub outcome_lines : History → ℕ → Option Item → Option ℕ → Outcome → List Text
  outcome_lines P c item to (outcome.Done body effects) = effect_lines (acts P) c item to effects
  outcome_lines P c item to o = []

  -- the lines of an entry, P the record before it
  unfoldable pub entry_lines : History → Entry → List Text
  entry_lines P (Took w c item) =
      entry_line (length P) w (word (codes "took") ++ number c ++ item_text names (type_of (acts P) c) item) ∷ []
  entry_lines P (Did w c took o to places) =
      entry_line (length P) w (word (codes "did") ++ number c ++ outcome_text o to)
      ∷ outcome_lines P c (item_at P took) to o
      ++ map (λ q. indented (codes "unreached" ++ number q)) places
  entry_lines P (Moved w t released) =
      entry_line (length P) w (word (codes "moved") ++ number t) ∷ map release_line (enumerate_from 0 released)

  -- the lines of all entries, in order of position
  unfoldable pub record_lines : History → List Text
  record_lines [] = []
  record_lines (e ∷ P) = record_lines P ++ entry_lines P e

-- ---- the end

abbrev pub is_did : Entry → Bool
is_did (Did w c took o to places) = true
is_did e = false

abbrev pub fault_and_component : History → Entry → Option (ℕ × ℕ)
fault_and_component P (Did w c took o to places) = option_map (λ n. (n, c)) (raised P (Did w c took o to places))
fault_and_component P e = None

-- the number of the first fault of which no ancestor was told, and the component that raised it
unfoldable pub first_unhandled : Declarations → History → Option (ℕ × ℕ)
first_unhandled S [] = None
first_unhandled S (e ∷ P) = either (first_unhandled S P) (if is_unhandled S P e then fault_and_component P e else None)

-- how the record ended: by a fault, with something left to do, or with nothing
abbrev pub ending : Option (ℕ × ℕ) → Bool → Text
ending (Some f) idle = codes "end fault" ++ number f.0 ++ codes " comp" ++ number f.1
ending None true = codes "end quiet"
ending None false = codes "end budget"

-- the two last lines
unfoldable pub end_lines : Declarations → Plan → History → List Text
end_lines S Z R =
    ending (first_unhandled S R) (is_idle S Z R)
    ∷ (codes "took" ++ number (count_by is_took R) ++ codes " did" ++ number (count_by is_did R) ++ codes " moved" ++ number (count_by is_moved R)
    ++ codes " queued" ++ number (queued S R) ++ codes " out" ++ number (out S R))
    ∷ []

-- the lines of the text of a record
unfoldable pub trace_lines : List Text → Declarations → Plan → History → List Text
trace_lines names S Z R = codes "trace 1" ∷ record_lines names S R ++ (if is_finished S Z R then end_lines S Z R else [])

-- lines as one text: each ends with a newline
unfoldable pub joined : List Text → Text
joined lines = flat_map (λ line. line ++ 10 ∷ []) lines

unfoldable pub trace_text : List Text → Declarations → Plan → History → Text
trace_text names S Z R = joined (trace_lines names S Z R)

-- all of this at once, for proofs that compute with it
unfoldable pub tracing : Unit {0}
unfolding digits effect_lines entry_lines record_lines first_unhandled end_lines trace_lines joined trace_text
tracing = tt
