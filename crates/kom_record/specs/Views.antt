-- What one worker knows of a record that several workers add to.
use Rattle.std.specs.Prelude.{◌≡◌, ℕ, ◌&&◌, ◌==◌, nat_le, List, [], ◌∷◌, ◌++◌, length, Option}
use Rattle.std.specs.List.{find}
use Rattle.kom_base.specs.Lists.{if_so}
use Rattle.kom_record.specs.declared.entry.Entry.{Entry}
use Rattle.kom_record.specs.declared.entry.Entry.TheVariants.{Took, Did, Moved}
use Rattle.kom_record.specs.Entries.{History, TakenJob, in_hand}

-- A worker's number, the length of the record that it began with, the record that it has seen, the
-- positions of its own entries, its job in hand, and how often it had its turn.
pub record View : Type 0 where
  pub number : ℕ
  pub from : ℕ
  pub seen : History
  pub mine : List ℕ
  pub hand : Option TakenJob
  pub turns : ℕ

abbrev pub worker_of : Entry → ℕ
worker_of (Took w c item) = w
worker_of (Did w c took o to places) = w
worker_of (Moved w t released) = w

-- the positions, not less than `from`, of the entries of worker w, rising
unfoldable pub positions : ℕ → ℕ → History → List ℕ
positions w from [] = []
positions w from (e ∷ P) = positions w from P ++ if_so (worker_of e == w && nat_le from (length P)) (length P ∷ [])

-- the view is right about the record that it has seen
pub record IsFair (v : View) : Type 0 where
  pub mine : v.mine ≡ positions v.number v.from v.seen
  pub hand : v.hand ≡ find (λ job. job.w == v.number) (in_hand v.seen)
