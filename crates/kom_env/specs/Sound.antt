-- The indices of the releases to come.
use Rattle.std.specs.Prelude.{◌≡◌, ℕ, ◌<◌, ◌≤◌, ◌^◌, List, Some}
use Rattle.std.specs.Option.{IsSome}
use Rattle.std.specs.declared.cmp.Ordering.{Ordering}
use Rattle.kom_base.specs.declared.numbers.EntryNo.{EntryNo}
use Rattle.kom_index.specs.Entries.{Rises, value_of}
use Rattle.kom_env.specs.declared.agenda.Wait.{Wait}
use Rattle.kom_env.specs.declared.keys.Due.{Due}
use Rattle.kom_env.specs.declared.keys.Tag.{Tag}
use Rattle.kom_env.specs.Keys.{number_cmp, due_cmp, tag_cmp}
use Rattle.kom_env.specs.Waiting.{due_key, tag_key}

-- the key is that of a release which is there
pub record Holds {K : Type 0} (no : K → EntryNo) (key : EntryNo → Wait → K) (waits : List (EntryNo × Wait)) (k : K) : Type 0 where
  pub wait : Wait
  pub is : value_of number_cmp (no k) waits ≡ Some wait
  pub at : key (no k) wait ≡ k

-- the ordered keys are those of the releases
pub record Indexes {K : Type 0} (R : K → K → Ordering) (no : K → EntryNo) (key : EntryNo → Wait → K) (waits : List (EntryNo × Wait)) (keys : List (K × Unit {0})) : Type 0 where
  pub rises : Rises R keys
  pub holds : (k : K) → IsSome (value_of R k keys) → Holds no key waits k
  pub complete : (k : K) → Holds no key waits k → IsSome (value_of R k keys)

abbrev pub due_no : Due → EntryNo
due_no d = d.no

abbrev pub tag_no : Tag → EntryNo
tag_no t = t.no

-- numbers of 32 bits
abbrev pub IsBounded : List (EntryNo × Wait) → Type 0
IsBounded waits = (n : EntryNo) → IsSome (value_of number_cmp n waits) → (n.position < 2 ^ 32) × (n.place < 2 ^ 32)

pub record IsSound (waits : List (EntryNo × Wait)) (spare : ℕ) (dues : List (Due × Unit {0})) (due_room : ℕ) (tags : List (Tag × Unit {0})) (tag_room : ℕ) : Type 0 where
  pub rises : Rises number_cmp waits
  pub bounded : IsBounded waits
  pub by_due : Indexes due_cmp due_no due_key waits dues
  pub by_tag : Indexes tag_cmp tag_no tag_key waits tags
  pub due_fits : spare ≤ due_room
  pub tag_fits : spare ≤ tag_room
