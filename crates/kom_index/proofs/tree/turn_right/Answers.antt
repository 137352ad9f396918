use Rattle.std.proofs.Common.{◌≡◌, [], ◌∷◌, ◌++◌, refl, sym}
use Rattle.kom_index.proofs.Order.{turned_right, twice_right_low, twice_right_high}
use Rattle.kom_index.proofs.tree.turn_right.Goals as goal

pub returns-in-Leaf : goal.returns-in-Leaf
returns-in-Leaf g c =
    let left : c.args.left.value ≡ [] = sym (rw c.in-Leaf.is at c.emptied_node-node.ensures.node) in
    rw (c.fork.ensures, c.emptied_node-node.ensures.empty, left) refl

pub branch-lower-requires : goal.branch-lower-requires
branch-lower-requires g c =
    let left : c.args.left.value ≡ c.in-Fork.outer.value ++ (c.in-Fork.k, c.in-Fork.v) ∷ c.in-Fork.inner.value = sym (rw c.in-Fork.is at c.emptied_node-node.ensures.node) in
    turned_right g.K.Ord.cmp _ _ _ _ _ (rw left at c.requires)

pub branch-lower-requires-in-Leaf-node : goal.branch-lower-requires-in-Leaf-node
branch-lower-requires-in-Leaf-node g c =
    let left : c.args.left.value ≡ c.in-Fork.outer.value ++ (c.in-Fork.k, c.in-Fork.v) ∷ c.in-Fork.inner.value = sym (rw c.in-Fork.is at c.emptied_node-node.ensures.node) in
    let inner : c.in-Fork.inner.value ≡ [] = sym (rw c.in-Leaf-node.is at c.emptied_node-node-in-Fork.ensures.node) in
    rw c.emptied_node-node-in-Fork.ensures.empty (turned_right g.K.Ord.cmp _ _ _ _ _ (rw (left, inner) at c.requires))

pub branch-low-requires : goal.branch-low-requires
branch-low-requires g c =
    let left : c.args.left.value ≡ c.in-Fork.outer.value ++ (c.in-Fork.k, c.in-Fork.v) ∷ c.in-Fork.inner.value = sym (rw c.in-Fork.is at c.emptied_node-node.ensures.node) in
    let inner : c.in-Fork.inner.value ≡ c.in-Fork-node.a.value ++ (c.in-Fork-node.m, c.in-Fork-node.w) ∷ c.in-Fork-node.b.value = sym (rw c.in-Fork-node.is at c.emptied_node-node-in-Fork.ensures.node) in
    twice_right_low g.K.Ord.cmp _ _ _ _ _ _ _ (rw (left, inner) at c.requires)

pub branch-high-requires : goal.branch-high-requires
branch-high-requires g c =
    let left : c.args.left.value ≡ c.in-Fork.outer.value ++ (c.in-Fork.k, c.in-Fork.v) ∷ c.in-Fork.inner.value = sym (rw c.in-Fork.is at c.emptied_node-node.ensures.node) in
    let inner : c.in-Fork.inner.value ≡ c.in-Fork-node.a.value ++ (c.in-Fork-node.m, c.in-Fork-node.w) ∷ c.in-Fork-node.b.value = sym (rw c.in-Fork-node.is at c.emptied_node-node-in-Fork.ensures.node) in
    twice_right_high g.K.Ord.cmp _ _ _ _ _ _ _ (rw (left, inner) at c.requires)
