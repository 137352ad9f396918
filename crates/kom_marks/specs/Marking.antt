-- The components that a step may have given more or less to do, as a set of marks.
use Rattle.std.specs.Prelude.{◌≡◌, ◌+◌, ◌≤◌, ◌==◌, ℕ, false, length}
use Rattle.kom_comps.specs.Members.{Members, has}
use Rattle.kom_refine.specs.States.{State}
use Rattle.kom_wakes.specs.Work.{HasSameWork}

-- From the marks old to new, beside a step from m to n: who is not marked was not marked before and has the
-- same to do, and there are at most so many marks more.
pub record IsMarked (most : ℕ) (old new : Members) (m n : State) : Type 0 where
  pub leaves : (c : ℕ) → has new c ≡ false → (has old c ≡ false) × HasSameWork m n c
  pub few : length new.list ≤ length old.list + most
  pub bound : new.bound ≡ old.bound

-- a mark of c is all that a step needs that leaves all others what they have to do
abbrev pub MarksOne : ℕ → Members → Members → Type 0
MarksOne c old new = (m n : State) → ((d : ℕ) → (d == c) ≡ false → HasSameWork m n d) → IsMarked 1 old new m n

-- a step that leaves all what they have to do needs none
abbrev pub MarksStay : Type 0
MarksStay = (marks : Members) (m n : State) → ((c : ℕ) → HasSameWork m n c) → IsMarked 0 marks marks m n

-- marks of one step and of the next are marks of both
abbrev pub MarksAddUp : Type 0
MarksAddUp = (a b : ℕ) (old now new : Members) (m k n : State) → IsMarked a old now m k → IsMarked b now new k n → IsMarked (a + b) old new m n

-- fewer marks than there may be
abbrev pub MarksAreFew : Type 0
MarksAreFew = (a b : ℕ) (old new : Members) (m n : State) → a ≤ b → IsMarked a old new m n → IsMarked b old new m n
