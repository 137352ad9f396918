use Rattle.std.proofs.Common.{◌≡◌, take, fold}
use Rattle.std.specs.List.{flat_map}
use Rattle.kom_rules.specs.Names.{first_place, names_of, with_name}
use Rattle.kom_rules.specs.Declaring.{clashes, one_by_one}
use Rattle.kom_spaces.proofs.clashes.Space.introduce_all.Given as goal

abbrev pub invariant-loop-spot : goal.invariant-loop-spot
invariant-loop-spot l =
    (l.scope ≡ fold with_name l.initial.scope (names_of (take l.spot-index l.spots)))
    × (l.first ≡ first_place (flat_map (λ x. clashes l.self.part.now x.scope x.name) (one_by_one l.initial.scope (take l.spot-index l.spots))))
