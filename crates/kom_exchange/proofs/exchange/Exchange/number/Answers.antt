use Rattle.std.proofs.Common.{rules, ap, ◌∙◌, sym, subst, ◌≡◌, arith}
use Rattle.kom_record.specs.Entries.{in_hand}
use Rattle.kom_exchange.specs.Later.{about_of}
use Rattle.kom_exchange.specs.declared.view.View.{View}
use Rattle.kom_exchange.specs.Rule.{numbered, newcomer, IsFair}
use Rattle.kom_exchange.specs.Seats.{given_to}
use Rattle.kom_exchange.proofs.Coming.{splits}
use Rattle.kom_exchange.proofs.Seating.{fresh_new, fresh_first, fresh_more, fresh_all, no_places_yet}
use Rattle.kom_exchange.proofs.exchange.Exchange.number.Goals as goal

pub split_seat-place-requires : goal.split_seat-place-requires
split_seat-place-requires g c = let i = c.loop-i.invariant in let v = ap (λ m. m.0) i.first in (
  i.table,
  search rules,
  splits g.T.StandsFor.history (about_of g.T.StandsFor.system g.T.StandsFor.plan) _ _ _ _ c.loop-i.i (ap (λ (u : View). u.spent) v) (ap (λ (u : View). u.stage) v) (ap (λ (u : View). u.next) v) (omega arith) (ap (λ (u : View). in_hand u.own.seen) v ∙ c.requires.idle),
)

pub new-requires : goal.new-requires
new-requires g c = let i = c.loop-i.invariant in let made = c.split_seat-place.ensures.4 in let v = ap (λ m. m.0) made ∙ ap (λ m. newcomer m.0) i.first in record {
  rests = (ap (λ m. m.1) made, ap (λ (u : View). u.stage) v, ap (λ (u : View). u.spent) v);
  view = (
    ap (λ (u : View). u.own.number) v,
    subst IsFair (sym v) (no_places_yet (g.T.StandsFor.history (given_to c.args.self.now)) c.loop-i.i),
  );
}

pub loop-i-preserved : goal.loop-i-preserved
loop-i-preserved g c = let i = c.loop-i.invariant in let did = c.split_seat-place.ensures in let push = c.push_reserved.ensures in
    let h = g.T.StandsFor.history (given_to c.args.self.now) in let about = (about_of g.T.StandsFor.system g.T.StandsFor.plan) (given_to c.args.self.now) in
    let v = ap (λ m. m.0) did.4 ∙ ap (λ m. newcomer m.0) i.first in record {
      from_one = omega arith;
      at_most = omega arith;
      table = did.0 ∙ i.table;
      first = did.2 ∙ ap (λ m. (numbered m.0, m.1)) i.first;
      len = let l = push.len in omega arith;
      room = push.capacity ∙ i.room;
      each = fresh_more _ h about _ c.loop-i.i _ _ _ i.each i.len (c.new.ensures.0 ∙ (did.3 ∙ i.table), c.new.ensures.1, c.new.ensures.2 ∙ v ∙ fresh_new h about _ c.loop-i.i i.from_one) push.items;
    }

pub new-requires-2 : goal.new-requires-2
new-requires-2 g c = let i = c.loop-i.invariant in let v = ap (λ m. m.0) i.first in record {
  rests = (ap (λ m. m.1) i.first, ap (λ (u : View). u.stage) v, ap (λ (u : View). u.spent) v);
  view = (
    ap (λ (u : View). u.own.number) v,
    subst IsFair (sym v) (no_places_yet (g.T.StandsFor.history (given_to c.args.self.now)) 0),
  );
}

pub returns-clause-fresh : goal.returns-clause-fresh
returns-clause-fresh g c = let i = c.loop-i.invariant in let h = g.T.StandsFor.history (given_to c.args.self.now) in let about = (about_of g.T.StandsFor.system g.T.StandsFor.plan) (given_to c.args.self.now) in let v = ap (λ m. m.0) i.first in
    let all : c.loop-i.i ≡ c.args.seats = omega arith in
    fresh_all _ h about c.args.seats c.loop-i.all.items _ c.new-2.result i.each (i.len ∙ all) (c.new-2.ensures.0 ∙ i.table, c.new-2.ensures.1, c.new-2.ensures.2 ∙ v ∙ fresh_first h about c.args.seats c.loop-i.i all) c.put_first.ensures.items
