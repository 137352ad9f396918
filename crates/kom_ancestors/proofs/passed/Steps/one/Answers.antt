use Rattle.std.proofs.Common.{◌∙◌, ◌++◌, [], List, map, take, ap}
use Rattle.std.proofs.lemmas.List.{take_all}
use Rattle.kom_rules.specs.Names.{Name}
use Rattle.kom_tables.proofs.Entries.{map_push}
use Rattle.kom_ancestors.proofs.Passing.{one_passes}
use Rattle.kom_ancestors.proofs.passed.Steps.one.Goals as goal

pub loop-list-preserved : goal.loop-list-preserved
loop-list-preserved c =
    map_push (λ (list : List Name). take 9 (take 9 [] ++ list)) c.args.own.now c.loop-list.list-index c.list-item.result _ c.loop-list.names c.push.new.self c.loop-list-test.true c.list-item.is
    (rw c.as_slice.ensures at c.in_ok-first_names.ensures) c.loop-list.invariant c.in_ok-push.ensures.ok

pub returns : goal.returns
returns c =
    one_passes c.args.parents.now c.args.own.now _ c.requires c.in_ok-from_slice.ensures
    (c.loop-list.invariant ∙ ap (map (λ (list : List Name). take 9 (take 9 [] ++ list))) (take_all c.loop-list.list-index c.args.own.now c.loop-list-test.false))
