use Rattle.std.proofs.Common.{rules, sym, ap, ◌∙◌, ◌≡◌, ◌∷◌, Some, None}
use Rattle.kom_exchange.specs.Later.{about_of}
use Rattle.kom_exchange.specs.declared.view.View.{View}
use Rattle.atomic_table.specs.Table.{rest}
use Rattle.kom_exchange.proofs.Steps.{draws, looks}
use Rattle.kom_exchange.proofs.Entering.{last_value, enters}
use Rattle.kom_exchange.proofs.exchange.Exchange.enter.Goals as goal

pub fetch_add-ticket-requires : goal.fetch_add-ticket-requires
fetch_add-ticket-requires g c = (search rules, search rules, draws g.T.StandsFor.history (about_of g.T.StandsFor.system g.T.StandsFor.plan) _ _ _ _ _ c.requires.1.1 c.requires.1.2)

pub loop-init : goal.loop-init
loop-init g c = let e = c.fetch_add-ticket.ensures in let d = e.2 in ((e.0, e.1), d.3 ∙ c.requires.1.0, (d.0, d.1, d.2))

pub load-serving-requires : goal.load-serving-requires
load-serving-requires g c = let i = c.loop.invariant in
    (search rules, search rules, looks g.T.StandsFor.history (about_of g.T.StandsFor.system g.T.StandsFor.plan) _ _ _ _ _ i.2.0 (ap (λ (v : View). v.stage) i.2.2) (ap (λ (v : View). v.spent) i.2.2 ∙ c.requires.1.2))

pub exchange-requires : goal.exchange-requires
exchange-requires g c = let i = c.loop.invariant in let took = (c.load-serving.ensures.2 i.2.0 (ap (λ (v : View). v.stage) i.2.2)).0 (c.if-serving-ticket.true ∙ i.2.1) in
    (search rules, (Some took.0, took.1 ∙ (λ k. (0, Some took.0) ∷ sym (ap rest took.1) k)))

pub unreachable-requires : goal.unreachable-requires
unreachable-requires g c = let i = c.loop.invariant in let took = (c.load-serving.ensures.2 i.2.0 (ap (λ (v : View). v.stage) i.2.2)).0 (c.if-serving-ticket.true ∙ i.2.1) in
    let e : Some took.0 ≡ None = last_value _ (Some took.0) c.exchange.result 0 _ _ took.1 c.exchange.ensures.2 ∙ c.in-None-exchange.is in cc

pub returns-then-serving-ticket-clause-place : goal.returns-then-serving-ticket-clause-place
returns-then-serving-ticket-clause-place g c = let i = c.loop.invariant in let took = (c.load-serving.ensures.2 i.2.0 (ap (λ (v : View). v.stage) i.2.2)).0 (c.if-serving-ticket.true ∙ i.2.1) in let x = c.exchange.ensures in
    ((x.0 ∙ (c.load-serving.ensures.0 ∙ i.0.0), x.1 ∙ (c.load-serving.ensures.1 ∙ i.0.1)), ap (λ m. m.1) x.3 ∙ (λ k. (0, None) ∷ (ap rest took.1 ∙ i.1) k))

pub returns-then-serving-ticket-clause-took : goal.returns-then-serving-ticket-clause-took
returns-then-serving-ticket-clause-took g c = let i = c.loop.invariant in let took = (c.load-serving.ensures.2 i.2.0 (ap (λ (v : View). v.stage) i.2.2)).0 (c.if-serving-ticket.true ∙ i.2.1) in let x = c.exchange.ensures in
    enters g.T.StandsFor.history (about_of g.T.StandsFor.system g.T.StandsFor.plan) c.args.place.now.me.0 c.loop.place.me c.load-serving.new.seat.me i.2.0 c.exchange.result _ _ _ i.2.2 took x.2 c.in-Some-exchange.is (ap (λ m. m.0) x.3)

pub loop-preserved : goal.loop-preserved
loop-preserved g c = let i = c.loop.invariant in let l = c.load-serving.ensures in let same = (l.2 i.2.0 (ap (λ (v : View). v.stage) i.2.2)).1 (λ hit. c.if-serving-ticket.false (hit ∙ sym i.2.1)) in
    ((l.0 ∙ i.0.0, l.1 ∙ i.0.1), ap (λ m. m.1) same ∙ i.1, (i.2.0, i.2.1, ap (λ m. m.0) same ∙ i.2.2))
