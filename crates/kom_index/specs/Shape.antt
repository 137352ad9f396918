-- What a node of the tree is seen as.
use Rattle.std.specs.Prelude.{List, [], ◌∷◌, ◌++◌, Option, Some, None}
use Rattle.kom_index.specs.declared.tree.Node.{Node}
use Rattle.kom_index.specs.declared.tree.Node.TheVariants.{Leaf, Fork}

-- the entries in order
abbrev pub entries_of : {K V : Type 0} → Node K V → List (K × V)
entries_of Leaf = []
entries_of (Fork l k v h r) = l.value ++ (k, v) ∷ r.value

-- the entries of its left side
abbrev pub left_of : {K V : Type 0} → Node K V → List (K × V)
left_of Leaf = []
left_of (Fork l k v h r) = l.value

-- the entry between its sides
abbrev pub middle_of : {K V : Type 0} → Node K V → Option (K × V)
middle_of Leaf = None
middle_of (Fork l k v h r) = Some (k, v)

-- the entries of its right side
abbrev pub right_of : {K V : Type 0} → Node K V → List (K × V)
right_of Leaf = []
right_of (Fork l k v h r) = r.value
