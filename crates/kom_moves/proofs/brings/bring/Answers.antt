use Rattle.std.proofs.Common.{◌+◌, ◌<◌, ◌≤◌, ◌++◌, length, take, sym, ap, ◌∙◌, subst, arith}
use Rattle.std.specs.Prelude.{IsSome}
use Rattle.kom_state.specs.Parts.{queue_spare, state_of}
use Rattle.kom_state.specs.Steps.{into_one}
use Rattle.kom_moves.specs.Bringing.{brought, way_in}
use Rattle.kom_moves.proofs.Bringing.{all_brought, brought_on, less_by_one, of_it, there_still}
use Rattle.kom_moves.proofs.brings.bring.Goals as goal

pub come-requires-clause-there : goal.come-requires-clause-there
come-requires-clause-there c =
    let old = c.args.state.now in
    let r = c.index-released-k.result in
    let way = c.way_in-way.ensures ∙ ap (λ n. way_in n.outs r.chan) c.loop-k.invariant.numbers in
    subst (λ d. IsSome ((state_of c.loop-k.state).queues r.chan d)) (sym way)
    (there_still (brought old.numbers.outs c.args.position (take c.loop-k.k c.args.released.now)) (state_of old) (state_of c.loop-k.state) r.chan (way_in old.numbers.outs r.chan) c.loop-k.invariant.step
    (of_it c.args.released.now c.loop-k.k r c.loop-k-test.true c.index-released-k.is (λ q. IsSome ((state_of old).queues q.chan (way_in old.numbers.outs q.chan))) c.requires.there))

pub come-requires-clause-spare : goal.come-requires-clause-spare
come-requires-clause-spare c =
    let r = c.index-released-k.result in
    let room : length c.args.released.now ≤ queue_spare c.loop-k.state r.chan (way_in c.loop-k.state.numbers.outs r.chan) + c.loop-k.k =
    of_it c.args.released.now c.loop-k.k r c.loop-k-test.true c.index-released-k.is (λ q. length c.args.released.now ≤ queue_spare c.loop-k.state q.chan (way_in c.loop-k.state.numbers.outs q.chan) + c.loop-k.k) c.loop-k.invariant.room
    in
    subst (λ d. 0 < queue_spare c.loop-k.state r.chan d) (sym c.way_in-way.ensures) (omega (arith, room, c.loop-k-test.true))

pub loop-k-preserved : goal.loop-k-preserved
loop-k-preserved c =
    let old = c.args.state.now in
    let r = c.index-released-k.result in
    let way = c.way_in-way.ensures ∙ ap (λ n. way_in n.outs r.chan) c.loop-k.invariant.numbers in
    record {
      step = c.comes_add_up.ensures (brought old.numbers.outs c.args.position (take c.loop-k.k c.args.released.now)) (into_one r.chan c.way_in-way.result (record { position = c.args.position; place = c.loop-k.k }))
          (brought old.numbers.outs c.args.position (take (c.loop-k.k + 1) c.args.released.now)) (state_of old) (state_of c.loop-k.state) (state_of c.come.new.self)
          (λ x d. brought_on c.args.released.now c.loop-k.k r c.loop-k-test.true c.index-released-k.is old.numbers.outs c.args.position x d
          ∙ ap (λ f. brought old.numbers.outs c.args.position (take c.loop-k.k c.args.released.now) x d ++ into_one r.chan f (record { position = c.args.position; place = c.loop-k.k }) x d) (sym way))
          c.loop-k.invariant.step c.come.ensures.step;
      numbers = c.come.ensures.room.numbers ∙ c.loop-k.invariant.numbers;
      room = less_by_one r.chan c.way_in-way.result c.loop-k.state c.come.new.self c.args.released.now c.loop-k.k c.come.ensures.queues c.come.ensures.room.numbers c.loop-k-test.true c.loop-k.invariant.room;
    }

pub returns-clause-step : goal.returns-clause-step
returns-clause-step c =
    all_brought c.args.released.now c.loop-k.k c.args.state.now.numbers.outs c.args.position (state_of c.args.state.now) (state_of c.loop-k.state) (omega (arith, c.loop-k-test.false)) c.loop-k.invariant.step
