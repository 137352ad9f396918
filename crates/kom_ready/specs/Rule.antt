-- The rule of a deque: what was put into it is what was taken out of it and what it holds.
use Rattle.std.specs.Prelude.{◌≡◌, ◌≤◌, ℕ, ◌+◌, List, []}
use Rattle.std.specs.List.{sum_by}
use mathlib.Core.Option.{some}
use lib.ListN.{get_elem?}
use Rattle.kom_ready.specs.declared.rule.Hand.{Hand}

-- what a pass knows: its parts, the numbers that were pushed by it, and those that it put in and took out
abbrev pub hand : ℕ → List ℕ → List ℕ → List ℕ → Hand
hand parts pushed put taken = record { parts = parts; pushed = pushed; put = put; taken = taken }

-- into how many parts the right to know the whole is cut
abbrev pub all_parts : ℕ
all_parts = 1024

-- a pass with no part has put and taken nothing
abbrev pub IdleIsEmpty : List Hand → Type 0
IdleIsEmpty views = (port : ℕ) (v : Hand) → get_elem? views port ≡ some v → v.parts ≡ 0 → (v.put ≡ []) × (v.taken ≡ [])

-- however the numbers are weighed, what was put in weighs as much as what was taken out and what the deque holds
abbrev pub Balanced : List ℕ → List Hand → Type 0
Balanced items views =
    (sum_by (λ v. v.parts) views ≡ all_parts)
    × ((h : ℕ → ℕ) → sum_by (λ v. sum_by h v.put) views ≡ sum_by (λ v. sum_by h v.taken) views + sum_by h items)
    × IdleIsEmpty views

-- a pass with every part knows the whole: this is what it put in and what it took out when the deque was empty
abbrev pub IsSettled : Hand → Type 0
IsSettled v = v.parts ≡ all_parts → (h : ℕ → ℕ) → sum_by h v.put ≡ sum_by h v.taken

-- and at any moment it has taken out no more than it put in
abbrev pub IsWithin : Hand → Type 0
IsWithin v = v.parts ≡ all_parts → (h : ℕ → ℕ) → sum_by h v.taken ≤ sum_by h v.put
