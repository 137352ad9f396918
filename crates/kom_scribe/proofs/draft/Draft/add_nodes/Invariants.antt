use Rattle.std.proofs.Common.{◌≡◌, ◌++◌, take}
use Rattle.std.specs.Prelude.{map}
use Rattle.kom_scribe.specs.declared.draft.Change.TheVariants.{Born}
use Rattle.kom_scribe.proofs.draft.Draft.add_nodes.Given as goal

abbrev pub invariant-loop-node : goal.invariant-loop-node
invariant-loop-node l =
    (l.self.kinds.items ≡ l.initial.self.kinds.items ++ map (λ n. n.kind) (take l.node-index l.nodes))
    × (l.self.changes.items ≡ l.initial.self.changes.items ++ map (λ n. Born n.at) (take l.node-index l.nodes))
