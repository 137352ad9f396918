-- What is planted of a tree is what its creation makes of the state.
use Rattle.std.specs.Prelude.{◌≡◌, ℕ, true, List, [], ◌∷◌, length, map, None}
use Rattle.kom_lang.specs.Declarations.{Declarations, kind_of}
use Rattle.kom_lang.specs.declared.body.Birth.{Birth}
use Rattle.kom_lang.specs.declared.body.Effect.TheVariants as effect
use Rattle.kom_record.specs.declared.item.Control.TheVariants.{Start}
use Rattle.kom_record.specs.declared.item.Item.{Item}
use Rattle.kom_record.specs.Entries.{Act}
use Rattle.kom_record.specs.Instances.{Instance, alive, born, created, occupant, root_tree}
use Rattle.kom_record.specs.Channels.{channels}
use Rattle.kom_refine.specs.Points.{Point, acts_at, act_of, start_of, StandsAt, AreByCreated}
use Rattle.kom_refine.specs.States.{State}
use Rattle.kom_refine.specs.Steps.{ArePut, IsCreated}
use Rattle.kom_state.specs.Facts.{HoldsTogether}
use Rattle.kom_state.specs.Openings.{IsOpened}
use Rattle.kom_state.specs.Parts.{Parts, state_of, IsOf}
use Rattle.kom_state.specs.Steps.{to_one}
use Rattle.kom_births.specs.declared.seed.Seed.{Seed}
use Rattle.kom_births.specs.Seeds.{seeds_in}
use Rattle.kom_births.specs.Sowing.{AreSown, MaySow, TakesRooms}
use Rattle.kom_births.specs.Sprouts.{sprout_of}

-- what is planted of these instances, of which the first has the number n
abbrev pub seeds_for : Declarations → ℕ → List Instance → List Seed
seeds_for S n is = seeds_in n (map sprout_of is) S

-- what c creates in a slot after these acts
abbrev pub news_of : Declarations → List Act → ℕ → ℕ → ℕ → Birth → List Instance
news_of S done c slot kind birth = created S (born S done) c slot kind birth

-- The tree that c creates in a slot may be planted in the state, and that is the step of its creation.
-- The numbers stay those of the system.
pub record IsCreation (S : Declarations) (p : Point) (c : ℕ) (item : Item) (slot kind : ℕ) (birth : Birth) (v : Parts) : Type 0 where
  pub may : MaySow S (length (born S (acts_at p))) (length (channels S (acts_at p))) (seeds_for S (length (born S (acts_at p))) (news_of S (acts_at p) c slot kind birth)) (state_of v)
  pub created : (w : Parts) → AreSown S (length (born S (acts_at p))) (length (channels S (acts_at p))) (seeds_for S (length (born S (acts_at p))) (news_of S (acts_at p) c slot kind birth)) (state_of v) (state_of w)
      → IsCreated S (act_of c item (effect.Create slot kind birth) ∷ acts_at p) (length (born S (acts_at p))) (length (channels S (acts_at p))) (news_of S (acts_at p) c slot kind birth) (state_of v) (state_of w)
  pub numbers : (w : Parts) → IsOf S v
      → AreSown S (length (born S (acts_at p))) (length (channels S (acts_at p))) (seeds_for S (length (born S (acts_at p))) (news_of S (acts_at p) c slot kind birth)) (state_of v) (state_of w)
      → TakesRooms (seeds_for S (length (born S (acts_at p))) (news_of S (acts_at p) c slot kind birth)) (length (born S (acts_at p))) v w → IsOf S w

-- a living component creates in an empty slot
abbrev pub CreationsAreSown : Type 0
CreationsAreSown = (S : Declarations) (p : Point) (c : ℕ) (item : Item) (slot kind : ℕ) (birth : Birth) (v : Parts)
    → StandsAt S p (state_of v) → HoldsTogether v → AreByCreated S (acts_at p) → alive S (acts_at p) c ≡ true → occupant S (acts_at p) c slot ≡ None → IsCreation S p c item slot kind birth v

-- the root with all below it may be planted in the opened state, and with Start for the root the state
-- is that of the empty record
pub record IsOpening (S : Declarations) (v : Parts) : Type 0 where
  pub may : MaySow S 0 (length (kind_of S S.root.kind).ports) (seeds_for S 0 (root_tree S)) (state_of v)
  pub stands : (w : Parts) (n : State) → AreSown S 0 (length (kind_of S S.root.kind).ports) (seeds_for S 0 (root_tree S)) (state_of v) (state_of w) → ArePut (to_one 0 Start) (state_of w) n → StandsAt S (start_of []) n
  pub root_lives : (w : Parts) → AreSown S 0 (length (kind_of S S.root.kind).ports) (seeds_for S 0 (root_tree S)) (state_of v) (state_of w) → (state_of w).living 0 ≡ true
  pub numbers : (w : Parts) → IsOf S v → AreSown S 0 (length (kind_of S S.root.kind).ports) (seeds_for S 0 (root_tree S)) (state_of v) (state_of w) → TakesRooms (seeds_for S 0 (root_tree S)) 0 v w → IsOf S w

abbrev pub OpeningsAreSown : Type 0
OpeningsAreSown = (S : Declarations) (v : Parts) → IsOpened S (state_of v) → IsOpening S v
