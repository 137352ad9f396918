-- Single facts of the examples: who is made ready, that a plan fits, that a job is well formed.
use Rattle.std.specs.Prelude.{◌≡◌, ℕ, List, [], ◌∷◌, Option, Some}
use Rattle.kom_base.specs.declared.numbers.Dir.TheVariants.{Plus}
use Rattle.kom_base.specs.declared.numbers.Side.TheVariants.{Outside}
use Rattle.kom_lang.specs.declared.body.Body.{Body}
use Rattle.kom_record.specs.declared.item.Item.{Item}
use Rattle.kom_record.specs.declared.item.Item.TheVariants.{Arrival}
use Rattle.kom_record.specs.declared.item.Back.TheVariants.{Plain}
use Rattle.kom_record.specs.Bodies.{body_at}
use Rattle.kom_record.specs.Plans.{PlanFits, IsWellFormedJob}
use Rattle.kom_record.specs.Answers.{wakes}
use Rattle.kom_rows.specs.DestroyedAtWork as destroyed
use Rattle.kom_rows.specs.Replacement as replacement

-- the Moved of `destroyed_at_work` makes component 0 ready
abbrev pub MovedWakes : Type 0
MovedWakes = wakes destroyed.S destroyed.Z destroyed.h4 destroyed.h5 ≡ 0 ∷ []

-- and its first Did after that makes components 0 and 1 ready
abbrev pub DidWakes : Type 0
DidWakes = wakes destroyed.S destroyed.Z destroyed.h6 destroyed.h7 ≡ 0 ∷ 1 ∷ []

-- the plan of `replacement` fits its system
abbrev pub PlanOfReplacement : Type 0
PlanOfReplacement = PlanFits replacement.S replacement.Z

-- the item of entry 22 of `replacement`, which the new component takes
abbrev pub item : Item
item = Arrival 2 Plus (record { position = 13; place = 0 }) 0 Outside (record { kind = 4; values = Rattle.std.specs.Prelude.pos 2 ∷ [] }) Plain

-- the job of that entry is well formed
abbrev pub JobOfReplacement : Type 0
JobOfReplacement = (b : Body) × (body_at replacement.S replacement.h22 2 ≡ Some b) × IsWellFormedJob replacement.S b item
