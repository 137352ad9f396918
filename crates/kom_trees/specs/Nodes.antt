-- What a creation makes, seen without what the instances are created from.
use Rattle.std.specs.Prelude.{◌≡◌, ℕ, ◌+◌, List, ◌++◌, length, map, Option}
use Rattle.std.specs.Option.{option_map}
use Rattle.kom_base.specs.Lists.{first}
use Rattle.kom_lang.specs.Declarations.{Declarations}
use Rattle.kom_lang.specs.declared.kind.SlotDecl.{SlotDecl}
use Rattle.kom_record.specs.Instances.{Instance, tree, child_trees}
use Rattle.kom_trees.specs.declared.nodes.Node.{Node}
use Rattle.kom_trees.specs.declared.nodes.SlotOf.{SlotOf}

-- the slot of the parent in which an instance is created; none for the root
abbrev pub place_of : Instance → Option SlotOf
place_of i = option_map (λ q. record { comp = q.0; slot = q.1 }) (first i.ancestry)

abbrev pub node_of : Instance → Node
node_of i = record { kind = i.kind; at = place_of i }

-- the instance is of this type, in this slot
abbrev pub IsOf : ℕ → Option SlotOf → Instance → Type 0
IsOf kind at i = (i.kind ≡ kind) × (place_of i ≡ at)

-- the tree of an instance of that type in that slot stands behind the nodes that were there, of which the first has a number
abbrev pub HasTree : Declarations → ℕ → ℕ → ℕ → Option SlotOf → List Node → List Node → Type 0
HasTree S number levels kind at old new = (i : Instance) → IsOf kind at i → new ≡ old ++ map node_of (tree levels S (number + length old) i)

-- the trees of the children in some slots of an instance stand there
abbrev pub HasTrees : Declarations → ℕ → ℕ → ℕ → List (ℕ × SlotDecl) → List Node → List Node → Type 0
HasTrees S number levels parent slots old new = (ancestry : List (ℕ × ℕ)) → new ≡ old ++ map node_of (child_trees (tree levels S) parent ancestry (number + length old) slots)
