use Rattle.std.proofs.Common.{ap, ◌∙◌}
use Rattle.std.specs.Prelude.{map}
use Rattle.kom_record.specs.Instances.{tree, depth_limit}
use Rattle.kom_trees.specs.Nodes.{node_of}
use Rattle.kom_scribe.proofs.Changes.{create_drafted}
use Rattle.kom_scribe.proofs.following.draft_create.Goals as goal

pub returns : goal.returns
returns c =
    create_drafted c.args.names.now.declarations c.args.known.now c.in_ok-number.number c.in_ok-nodes.nodes.items c.as_slice.result.now c.args.at c.args.kind c.args.draft.now c.add_nodes.new.self
    c.in_ok-number.ensures.count c.as_slice.ensures.value
    (λ i is. c.in_ok-nodes.ensures i is ∙ ap (λ s. map node_of (tree depth_limit s.declarations c.in_ok-number.number i)) c.system.ensures)
    c.in_ok-add_nodes.ensures
