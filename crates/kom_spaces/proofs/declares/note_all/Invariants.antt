use Rattle.std.proofs.Common.{◌≡◌, ℕ, List, map, take}
use Rattle.kom_rules.specs.Names.{earlier}
use Rattle.kom_names.specs.Found.{place_in}
use Rattle.kom_spaces.specs.Tables.{earliest}
use Rattle.kom_spaces.proofs.declares.note_all.Given as goal

abbrev pub invariant-loop-part : goal.invariant-loop-part
invariant-loop-part g l = (q : List ℕ) → place_in l.places q ≡ earlier (place_in l.initial.places q) (earliest (map g.T.Declares.named (take l.part-index l.parts)) q)
