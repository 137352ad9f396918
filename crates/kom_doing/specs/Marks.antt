-- How many components the effects of a handling mark.
use Rattle.std.specs.Prelude.{ℕ, ◌+◌, ◌&&◌, ◌==◌, List, [], ◌∷◌, length, Option}
use Rattle.std.specs.List.{list_any}
use Rattle.kom_lang.specs.Declarations.{Declarations}
use Rattle.kom_lang.specs.declared.body.Effect.{Effect}
use Rattle.kom_lang.specs.declared.body.Effect.TheVariants as effect
use Rattle.kom_record.specs.declared.item.Item.{Item}
use Rattle.kom_record.specs.Entries.{Act, acts}
use Rattle.kom_record.specs.Instances.{alive, ancestry_of, born, created}
use Rattle.kom_comps.specs.Members.{Members}
use Rattle.kom_marks.specs.Marking.{IsMarked}
use Rattle.kom_refine.specs.Points.{act_of}
use Rattle.kom_state.specs.Parts.{Parts, state_of}
use Rattle.kom_births.specs.declared.seed.Seed.{Seed}
use Rattle.kom_changes.specs.Below.{count_under}
use Rattle.kom_doing.specs.Laws.{Ending, IsAmid}

module _ (S : Declarations) where
  -- an effect of c after these acts marks at most those that it creates or ends, or else two
  abbrev pub marks_at : List Act → ℕ → Effect → ℕ
  marks_at done c (effect.Create slot kind birth) = length (created S (born S done) c slot kind birth)
  marks_at done c (effect.Destroy slot) = count_under (length (born S done)) (λ d. alive S done d && list_any (λ q. c == q.0 && slot == q.1) (ancestry_of S (born S done) d))
  marks_at done c e = 2

  -- and the effects of its handling of an item, one after another
  abbrev pub marks_of : List Act → ℕ → Item → List Effect → ℕ
  marks_of done c item [] = 0
  marks_of done c item (e ∷ es) = marks_at done c e + marks_of (act_of c item e ∷ done) c item es

-- the state is amid some handling, before its effects
pub record Begins (S : Declarations) (c : ℕ) (item : Item) (told : Option (ℕ × ℕ)) (es : List Effect) (broods : List (List Seed)) (v : Parts) : Type 0 where
  pub ending : Ending
  pub amid : IsAmid S c item told [] es ending broods v

-- from before the effects `before` of each handling for which the first state stands, to after them
abbrev pub LeadsOn : Declarations → ℕ → Item → Option (ℕ × ℕ) → List Effect → List Effect → List Effect → List (List Seed) → List (List Seed) → Parts → Parts → Type 0
LeadsOn S c item told all before rest broods left v w = (x : Ending) → IsAmid S c item told [] all x broods v → IsAmid S c item told before rest x left w

-- and the marks on the way are at most as many as the effects mark
abbrev pub MarksOn : Declarations → ℕ → Item → Option (ℕ × ℕ) → List Effect → List Effect → List (List Seed) → Members → Members → Parts → Parts → Type 0
MarksOn S c item told all before broods old new v w = (x : Ending) → IsAmid S c item told [] all x broods v → IsMarked (marks_of S (acts x.before) c item before) old new (state_of v) (state_of w)
