use Rattle.std.proofs.Common.{sym, ap, ◌∙◌, []}
use Rattle.std.specs.Prelude.{map}
use Rattle.kom_index.specs.Entries.{value_of}
use Rattle.kom_record.specs.Instances.{tree, depth_limit}
use Rattle.kom_trees.specs.Nodes.{node_of}
use Rattle.kom_scribe.specs.Drafts.{slot_cmp}
use Rattle.kom_scribe.proofs.Changes.{begun, root_drafted}
use Rattle.kom_scribe.proofs.known.Known.begin.Goals as goal

pub returns : goal.returns
returns c =
    let S = c.args.names.now.declarations in
    let d = c.add_nodes.new.self in
    let all = root_drafted S c.new-known.result c.in_ok-nodes.nodes.items c.as_slice.result.now c.root.result.now.kind c.new-draft.result d
    (ap (λ s. s.declarations.root.kind) (sym c.system.ensures) ∙ sym (ap (λ r. r.kind) c.root.ensures))
    c.as_slice.ensures.value
    (λ i is. c.in_ok-nodes.ensures i is ∙ ap (λ s. map node_of (tree depth_limit s.declarations 0 i)) c.system-2.ensures)
    c.new-draft.ensures.kinds c.new-draft.ensures.changes c.in_ok-add_nodes.ensures in
    c.in_ok-absorb.ensures.knows S [] (begun S c.new-known.result d c.new-known.ensures.kinds (λ p s. ap (λ o. value_of slot_cmp (record { comp = p; slot = s }) o.0) c.new-known.ensures.occupants) all.0 all.1)
