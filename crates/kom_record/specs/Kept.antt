-- What contracts see of a `Record`.
use Rattle.std.specs.Prelude.{ℕ, List}
use Rattle.kom_record.specs.declared.entry.Entry.{Entry}

-- the entries, the newest first, and how many more may be added without taking memory
pub record Kept : Type 0 where
  pub history : List Entry
  pub spare : ℕ
