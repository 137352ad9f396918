use Rattle.std.proofs.Common.{◌≡◌, Some, ap, sym, ◌∙◌}
use Rattle.std.specs.Prelude.{slice_get}
use Rattle.std.proofs.lemmas.Option.{slice_get-get_or}
use Rattle.kom_state.proofs.Channels.{next_spare, next_link, next_there, one_more}
use Rattle.kom_state.proofs.laying.lay.Goals as goal

pub lay_one-requires-clause-spare : goal.lay_one-requires-clause-spare
lay_one-requires-clause-spare c = next_spare c.args.numbers.now c.args.first c.args.links.now c.args.wiring.now c.args.queues.now c.loop-k.wiring c.loop-k.queues c.loop-k.k c.loop-k-test.true c.loop-k.invariant c.requires.spare

pub lay_one-requires-clause-no_link : goal.lay_one-requires-clause-no_link
lay_one-requires-clause-no_link c = next_link c.args.numbers.now c.args.first c.args.links.now c.args.wiring.now c.args.queues.now c.loop-k.wiring c.loop-k.queues c.loop-k.k c.loop-k-test.true c.loop-k.invariant

pub lay_one-requires-clause-not_there : goal.lay_one-requires-clause-not_there
lay_one-requires-clause-not_there c = next_there c.args.numbers.now c.args.first c.args.links.now c.args.wiring.now c.args.queues.now c.loop-k.wiring c.loop-k.queues c.loop-k.k c.loop-k-test.true c.loop-k.invariant

pub loop-k-preserved : goal.loop-k-preserved
loop-k-preserved c =
    let links = c.args.links.now in
    let item : slice_get links c.loop-k.k ≡ Some c.index-links-k.result = slice_get-get_or links c.loop-k.k c.index-links-k.result c.loop-k-test.true ∙ ap Some (sym c.index-links-k.is) in
    one_more c.args.numbers.now c.args.first links c.args.wiring.now c.args.queues.now c.loop-k.wiring c.loop-k.queues c.loop-k.k c.loop-k-test.true c.loop-k.invariant c.lay_one.new.wiring c.lay_one.new.queues c.index-links-k.result item c.lay_one.ensures
