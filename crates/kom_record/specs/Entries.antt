-- A record as a history: the list of its entries, the newest first. The tail of the list at an
-- entry is the record before that entry, and the length of that tail is the entry's position.
use Rattle.std.specs.Prelude.{ℕ, not, ◌==◌, if◌then◌else◌, List, [], ◌∷◌, ◌++◌, length, map, filter, reverse, Option, Some, None}
use Rattle.std.specs.Option.{option_and_then}
use Rattle.kom_lang.specs.declared.body.Effect.{Effect}
use Rattle.kom_record.specs.declared.item.Item.{Item}
use Rattle.kom_record.specs.declared.entry.Outcome.TheVariants as outcome
use Rattle.kom_record.specs.declared.entry.Entry.{Entry}
use Rattle.kom_record.specs.declared.entry.Entry.TheVariants.{Took, Did, Moved}

abbrev pub History : Type 0
History = List Entry

-- the entry at a position; the oldest entry has position 0
unfoldable pub entry_at : History → ℕ → Option Entry
entry_at [] i = None
entry_at (e ∷ P) i = if length P == i then Some e else entry_at P i

-- the record before the entry at a position
unfoldable pub before : History → ℕ → History
before [] i = []
before (e ∷ P) i = if length P == i then P else before P i

abbrev pub item_of : Entry → Option Item
item_of (Took w c item) = Some item
item_of e = None

-- the item that the Took at a position took
unfoldable pub item_at : History → ℕ → Option Item
item_at P i = option_and_then item_of (entry_at P i)

-- ---- jobs in hand

-- a job: the position of its Took, the worker, the component and the item
pub record TakenJob : Type 0 where
  pub took : ℕ
  pub w : ℕ
  pub c : ℕ
  pub item : Item

-- the jobs in hand, the latest first: each Took that no later Did has ended
unfoldable pub in_hand : History → List TakenJob
in_hand [] = []
in_hand (Took w c item ∷ P) = record { took = length P; w = w; c = c; item = item } ∷ in_hand P
in_hand (Did w c took outcome to unreached ∷ P) = filter (λ job. not (job.took == took)) (in_hand P)
in_hand (Moved w t released ∷ P) = in_hand P

-- ---- acts

-- An act is one effect of the record, with the component that had it and the item that the
-- component was handling.
pub record Act : Type 0 where
  pub by : ℕ
  pub item : Item
  pub effect : Effect

abbrev pub acts_for : ℕ → Option Item → List Effect → List Act
acts_for c None effects = []
acts_for c (Some item) effects = reverse (map (λ e. record { by = c; item = item; effect = e }) effects)

-- the acts of one entry, the last effect first; P is the record before it
unfoldable pub acts_of : History → Entry → List Act
acts_of P (Did w c took (outcome.Done body effects) to unreached) = acts_for c (item_at P took) effects
acts_of P e = []

-- All acts of a record, the latest first. What the components and the channels are depends on the
-- record by its acts alone, so each tail of this list is a moment at which to ask for them: some
-- whole entries, and some effects of the next one.
unfoldable pub acts : History → List Act
acts [] = []
acts (e ∷ P) = acts_of P e ++ acts P
