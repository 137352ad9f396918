-- Control items: what the entries of a record put to a component, and what it got of them.
use Rattle.std.specs.Prelude.{ℕ, false, ◌==◌, if◌then◌else◌, List, [], ◌∷◌, ◌++◌, length, drop, Option, Some, None, is_some}
use Rattle.std.specs.List.{list_any, flat_map, enumerate_from}
use Rattle.std.specs.Option.{option_and_then, option_map, option_map_or}
use Rattle.kom_base.specs.Lists.{if_so, first}
use Rattle.kom_lang.specs.Declarations.{Declarations, kind_of, has_init}
use Rattle.kom_lang.specs.declared.body.Body.{Body}
use Rattle.kom_lang.specs.declared.body.Birth.{Birth}
use Rattle.kom_lang.specs.declared.body.Birth.TheVariants.{Args, State}
use Rattle.kom_lang.specs.declared.body.Effect.{Effect}
use Rattle.kom_lang.specs.declared.body.Effect.TheVariants as effect
use Rattle.kom_lang.specs.Steps.{is_escalate}
use Rattle.kom_record.specs.declared.item.Control.{Control as ControlItem}
use Rattle.kom_record.specs.declared.item.Control.TheVariants.{Init, Start, Stop, Fault, Dump, Dumped}
use Rattle.kom_record.specs.declared.item.Item.{Item}
use Rattle.kom_record.specs.declared.item.Item.TheVariants.{Control}
use Rattle.kom_record.specs.declared.entry.Outcome.TheVariants as outcome
use Rattle.kom_record.specs.declared.entry.Entry.{Entry}
use Rattle.kom_record.specs.declared.entry.Entry.TheVariants.{Took, Did}
use Rattle.kom_record.specs.Entries.{History, Act, acts, acts_of, item_at}
use Rattle.kom_record.specs.Instances.{Instance, root_tree, born, created, ancestry_of, occupant}
use Rattle.kom_record.specs.Bodies.{nearest}

-- ---- faults that are raised

abbrev pub fault_in : Item → Option ℕ
fault_in (Control (Fault slot number)) = Some number
fault_in item = None

-- The number of the fault that an entry raises, P the record before it: that of a handling that
-- faulted, or the one in hand where its handler escalated it.
unfoldable pub raised : History → Entry → Option ℕ
raised P (Did w c took (outcome.Fault n) to unreached) = Some n
raised P (Did w c took (outcome.Done body effects) to unreached) = if list_any is_escalate effects then option_and_then fault_in (item_at P took) else None
raised P e = None

-- ---- the Init of new instances

abbrev pub inits_by : Declarations → ℕ → Birth → List ControlItem
inits_by S kind (Args vs) = if_so (has_init (kind_of S kind)) (Init vs ∷ [])
inits_by S kind (State vs) = []

-- Init, for an instance that has an init handler and was not created from a state
abbrev pub inits : Declarations → Instance → List ControlItem
inits S i = inits_by S i.kind i.birth

-- the Init for c, where c is among these instances, whose first has the number n
unfoldable pub inits_for : Declarations → ℕ → ℕ → List Instance → List ControlItem
inits_for S c n is = flat_map (λ p. if_so (p.0 == c) (inits S p.1)) (enumerate_from n is)

module _ (S : Declarations) where
  -- ---- what is put to c

  -- the item, where c is the occupant of slot s of p
  unfoldable pub to_child : List Act → ℕ → ℕ → ℕ → ControlItem → List ControlItem
  to_child done c p s k = if_so (option_map_or (λ q. q == c) (occupant S done p s) false) (k ∷ [])

  -- the Fault with number n that d raises, where c is the ancestor that is told of it
  unfoldable pub to_nearest : History → ℕ → ℕ → ℕ → List ControlItem
  to_nearest P c d n = option_map_or (λ q. if_so (q.0 == c) (Fault q.1 n ∷ [])) (nearest S P d) []

  -- what one act puts to c: P is the record before its entry, `done` the acts before this one
  unfoldable pub put_by_effect : History → List Act → ℕ → Act → Effect → List ControlItem
  put_by_effect P done c a (effect.Create slot kind birth) = inits_for S c (length (born S done)) (created S (born S done) a.by slot kind birth)
  put_by_effect P done c a (effect.Start s) = to_child done c a.by s Start
  put_by_effect P done c a (effect.Stop s) = to_child done c a.by s Stop
  put_by_effect P done c a (effect.Dump s) = to_child done c a.by s Dump
  put_by_effect P done c a effect.Escalate = option_map_or (λ n. to_nearest P c a.by n) (fault_in a.item) []
  put_by_effect P done c a e = []

  -- what the acts of one entry put to c, in order of the acts; the last act stands first in the list
  unfoldable pub put_by_acts : History → ℕ → List Act → List ControlItem
  put_by_acts P c [] = []
  put_by_acts P c (a ∷ mine) = put_by_acts P c mine ++ put_by_effect P (mine ++ acts P) c a a.effect

  -- the item for each child in the slots of p as they were before the entry, in order of slots
  unfoldable pub to_children : History → ℕ → ℕ → Body → ControlItem → List ControlItem
  to_children P c p b k = flat_map (λ s. to_child (acts P) c p s.0 k) (enumerate_from 0 b.slots)

  -- the variables that d leaves, for its parent
  unfoldable pub to_parent : History → ℕ → ℕ → Body → List ControlItem
  to_parent P c d b = option_map_or (λ q. if_so (q.0 == c) (Dumped q.1 b.vars ∷ [])) (first (ancestry_of S (born S (acts P)) d)) []

  -- what the handling of an item by d puts to c whatever the handlers do: Start and Stop go on to
  -- the children, and a Dump is answered to the parent
  unfoldable pub put_by_item : History → ℕ → ℕ → Body → Item → List ControlItem
  put_by_item P c d b (Control Start) = to_children P c d b Start
  put_by_item P c d b (Control Stop) = to_children P c d b Stop
  put_by_item P c d b (Control Dump) = to_parent P c d b
  put_by_item P c d b item = []

  -- What an entry puts to c, P the record before it: first what follows from the item, then what
  -- its effects put, in order. A fault puts only the Fault, to the nearest ancestor that catches it.
  unfoldable pub putting : History → Entry → ℕ → List ControlItem
  putting P (Did w d took (outcome.Done b effects) to unreached) c =
      option_map_or (put_by_item P c d b) (item_at P took) []
      ++ put_by_acts P c (acts_of P (Did w d took (outcome.Done b effects) to unreached))
  putting P (Did w d took (outcome.Fault n) to unreached) c = to_nearest P c d n
  putting P e c = []

  -- All control items that were ever put to c, in order. A record begins with Init for each
  -- instance that has an init handler, and Start for the root.
  unfoldable pub control_put : History → ℕ → List ControlItem
  control_put [] c = inits_for S c 0 (root_tree S) ++ if_so (c == 0) (Start ∷ [])
  control_put (e ∷ P) c = control_put P c ++ putting P e c

  -- ---- what c got

  abbrev pub control_of : Item → List ControlItem
  control_of (Control k) = k ∷ []
  control_of item = []

  unfoldable pub getting : Entry → ℕ → List ControlItem
  getting (Took w d item) c = if_so (d == c) (control_of item)
  getting e c = []

  -- the control items that c took, in order
  unfoldable pub control_got : History → ℕ → List ControlItem
  control_got [] c = []
  control_got (e ∷ P) c = control_got P c ++ getting e c

  -- the control items that wait for c: those put after as many as it got
  unfoldable pub control_waiting : History → ℕ → List ControlItem
  control_waiting P c = drop (length (control_got P c)) (control_put P c)

  -- whom an entry by c tells of the fault that it raises, if it raises one
  unfoldable pub told : History → Entry → ℕ → Option ℕ
  told P e c = if is_some (raised P e) then option_map (λ q. q.0) (nearest S P c) else None
