use Rattle.std.proofs.Common.{◌∙◌, arith}
use Rattle.std.proofs.Math.Logic.{∥∥₁_elim}
use Rattle.kom_env.specs.Outside.{is_later}
use Rattle.kom_going.proofs.Out.{all_out, at_most, at_place, event_is, goes_on, is_next, said, small, still_few}
use Rattle.kom_going.proofs.going.absorb_all.Goals as goal

pub absorb-requires-clause-later : goal.absorb-requires-clause-later
absorb-requires-clause-later c =
    let R = c.args.kept.now.history in
    let qs = c.args.goings.now in
    let u = c.args.env.now in
    let k = c.loop-going.going-index in
    let q = c.going-item.result in
    said (is_later c.loop-going.env.latest q.no) c.requires.will
    (λ x. is_next x.0 x.1 R qs u x.2 c.go_out_in_order.ensures k q c.loop-going.env (at_place x.0 x.1 R qs u x.2 k q c.loop-going-test.true c.going-item.is) (c.loop-going.invariant.follows x.0 x.1 x.2))

pub absorb-requires-clause-values : goal.absorb-requires-clause-values
absorb-requires-clause-values c =
    let R = c.args.kept.now.history in
    let qs = c.args.goings.now in
    let u = c.args.env.now in
    let k = c.loop-going.going-index in
    let q = c.going-item.result in
    at_most _ 8 c.requires.will
    (λ x. small x.0 x.1 R qs u x.2 c.outgoing_are_typed.ensures k q c.in-Some.event.now (at_place x.0 x.1 R qs u x.2 k q c.loop-going-test.true c.going-item.is) c.in-Some.ensures)

pub absorb-requires-clause-few : goal.absorb-requires-clause-few
absorb-requires-clause-few c =
    let R = c.args.kept.now.history in
    let qs = c.args.goings.now in
    let u = c.args.env.now in
    at_most _ 100000 c.requires.will
    (λ x. still_few x.0 x.1 R qs u x.2 c.releases_are_few.ensures c.loop-going.going-index c.loop-going.env (c.loop-going.invariant.follows x.0 x.1 x.2))

pub unreachable-requires : goal.unreachable-requires
unreachable-requires c =
    let R = c.args.kept.now.history in
    let qs = c.args.goings.now in
    let u = c.args.env.now in
    let k = c.loop-going.going-index in
    let q = c.going-item.result in
    ∥∥₁_elim c.requires.will (λ x. absurd x)
    (λ x. let e = c.in-None.ensures ∙ event_is x.0 x.1 R qs u x.2 k q (at_place x.0 x.1 R qs u x.2 k q c.loop-going-test.true c.going-item.is) in cc)

pub loop-going-preserved : goal.loop-going-preserved
loop-going-preserved c =
    let R = c.args.kept.now.history in
    let qs = c.args.goings.now in
    let u = c.args.env.now in
    let k = c.loop-going.going-index in
    let q = c.going-item.result in
    record {
      spare = (let a = c.loop-going.invariant.spare in let b = c.absorb.ensures.spare in omega (arith, a, b));
      plan = c.absorb.ensures.plan ∙ c.loop-going.invariant.plan;
      follows = λ S Z t. goes_on S Z R qs u t c.follows_a_did.ensures k q c.in-Some.event.now c.loop-going.env c.absorb.new.self (at_place S Z R qs u t k q c.loop-going-test.true c.going-item.is) c.in-Some.ensures
          (c.loop-going.invariant.follows S Z t) c.absorb.ensures.absorbs;
    }

pub returns-clause-follows : goal.returns-clause-follows
returns-clause-follows c S Z t = all_out S Z c.args.kept.now.history c.args.goings.now c.args.env.now t c.follows_a_did.ensures c.loop-going.going-index c.loop-going.env c.loop-going-test.false (c.loop-going.invariant.follows S Z t)
