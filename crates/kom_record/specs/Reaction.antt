-- The reaction of a body to an item: which handlers run, on what, and what comes of it.
use Rattle.std.specs.Prelude.{ℕ, ℤ, pos, Bool, true, false, ◌&&◌, ◌==◌, List, [], ◌∷◌, filter}
use Rattle.std.specs.List.{filter_map}
use Rattle.std.specs.Option.{option_map, option_map_or}
use Rattle.kom_base.specs.declared.numbers.Side.TheVariants.{Outside}
use Rattle.kom_events.specs.Kin.{kin}
use Rattle.kom_lang.specs.Declarations.{Declarations, kind_of, handler_of, is_init, first_subs, numbers_of}
use Rattle.kom_lang.specs.declared.stmt.On.{On}
use Rattle.kom_lang.specs.declared.stmt.On.TheVariants as on
use Rattle.kom_lang.specs.declared.stmt.Stmt.{Stmt}
use Rattle.kom_lang.specs.declared.body.Body.{Body}
use Rattle.kom_lang.specs.Steps.{Context, Ended, Faulted, Config, start_config, Runs}
use Rattle.kom_record.specs.declared.item.Control.TheVariants.{Init, Start, Stop, Fault, Dumped}
use Rattle.kom_record.specs.declared.item.Item.{Item}
use Rattle.kom_record.specs.declared.item.Item.TheVariants.{Control, Arrival}
use Rattle.kom_record.specs.declared.entry.Outcome.{Outcome}
use Rattle.kom_record.specs.declared.entry.Outcome.TheVariants as outcome

abbrev pub with_status : Body → List ℕ → Bool → Bool → Body
with_status b subs active initialised = record { kind = b.kind; vars = b.vars; subs = subs; slots = b.slots; wires = b.wires; depth = b.depth; active = active; initialised = initialised }

abbrev pub passive : Body → Body
passive b = with_status b b.subs false b.initialised

-- The body with which the handlers begin. Init initialises it and gives it its first
-- subscriptions, Start makes it active if it is initialised, and Stop makes it passive.
unfoldable pub prepared : Declarations → Body → Item → Body
prepared S b (Control (Init vs)) = with_status b (first_subs (kind_of S b.kind)) b.active true
prepared S b (Control Start) = with_status b b.subs b.initialised b.initialised
prepared S b (Control Stop) = passive b
prepared S b item = b

-- whether a subscribed handler runs for the item. An event at the outside of a port runs those of
-- that port whose event type is the event's or an ancestor of it; one at the inside runs none.
abbrev pub handles : Declarations → Item → On → Bool
handles S (Control Start) on.Start = true
handles S (Control Stop) on.Stop = true
handles S (Control (Fault slot number)) (on.Fault a b) = true
handles S (Control (Dumped slot vs)) (on.Dumped a) = true
handles S (Arrival x d n port Outside event back) (on.Event kind q) = port == q && kin S.events event.kind kind
handles S item o = false

-- the numbers of the handlers that run, in the order in which they run: for Init the init handler,
-- else those subscribed, in order of subscription
unfoldable pub handlers : Declarations → Body → Item → List ℕ
handlers S b (Control (Init vs)) = numbers_of (λ h. is_init h.on) (kind_of S b.kind).handlers
handlers S b item = filter (λ h. option_map_or (λ x. handles S item x.on) (handler_of (kind_of S b.kind) h) false) b.subs

-- the parameters with which each handler begins
abbrev pub parameters : Item → List ℤ
parameters (Control (Init vs)) = vs
parameters (Control (Fault slot number)) = pos slot ∷ pos number ∷ []
parameters (Control (Dumped slot vs)) = pos slot ∷ []
parameters item = []

-- what `it` names: the attributes of the event
abbrev pub attributes_of : Item → List ℤ
attributes_of (Arrival x d n port side event back) = event.values
attributes_of item = []

-- what `from state` names: the variables that a Dumped carries
abbrev pub state_of : Item → List ℤ
state_of (Control (Dumped slot vs)) = vs
state_of item = []

-- what the handlers read and never change
abbrev pub context : Declarations → Item → Context
context S item = record { declarations = S; it = attributes_of item; state = state_of item }

abbrev pub blocks : Declarations → Body → Item → List (List Stmt)
blocks S b item = filter_map (λ h. option_map (λ x. x.block) (handler_of (kind_of S b.kind) h)) (handlers S b item)

-- the configuration with which a handling begins; the list of handlers is fixed before the first runs
unfoldable pub first_config : Declarations → Body → Item → Config
first_config S b item = start_config (blocks S (prepared S b item) item) (parameters item) (prepared S b item)

-- the outcome is the reaction of the body to the item: the small steps of the handling come to it
unfoldable pub Reacts : Declarations → Body → Item → Outcome → Type 0
Reacts S b item outcome.Void = ⊥
Reacts S b item (outcome.Fault n) = Runs (context S item) (first_config S b item) (Faulted n)
Reacts S b item (outcome.Done body effects) = Runs (context S item) (first_config S b item) (Ended body effects)

-- the body that an outcome leaves: after a fault the one before the handling, but passive
abbrev pub body_after : Body → Outcome → Body
body_after b outcome.Void = b
body_after b (outcome.Fault n) = passive b
body_after b (outcome.Done body effects) = body
