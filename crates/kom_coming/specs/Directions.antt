-- What the state must have where numbers come in.
use Rattle.std.specs.Prelude.{◌≡◌, ◌<◌, ℕ, List, [], ◌∷◌, Some}
use Rattle.std.specs.Option.{IsSome, option_and_then}
use Rattle.kom_base.specs.declared.numbers.Dir.{Dir}
use Rattle.kom_base.specs.declared.numbers.Half.{Half}
use Rattle.kom_entering.specs.declared.lists.Coming.{Coming}
use Rattle.kom_refine.specs.States.{State, end_of}

-- each comes into a direction that is there and does not lead out
abbrev pub AreThere : List Coming → State → Type 0
AreThere [] m = Unit {0}
AreThere (q ∷ qs) m = IsSome (m.queues q.chan q.dir) × AreThere qs m

-- whoever is at an end of a living channel has a number below the bound
abbrev pub AreBelow : ℕ → State → Type 0
AreBelow bound m = (x : ℕ) (e : Dir) (h : Half) → option_and_then (λ l. end_of l e) (m.links x) ≡ Some h → h.comp < bound
