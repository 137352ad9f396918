use Rattle.std.proofs.Common.{rules, ap, ◌∙◌}
use Rattle.kom_exchange.specs.Later.{about_of}
use Rattle.kom_exchange.specs.Rule.{joined}
use Rattle.kom_exchange.proofs.Coming.{joins}
use Rattle.kom_exchange.proofs.Seating.{joins_start, joins_left, joins_more}
use Rattle.kom_exchange.proofs.exchange.Exchange.gather.Goals as goal

pub join_seat-requires : goal.join_seat-requires
join_seat-requires g c = let j = c.loop-seat.invariant in let s = c.in-Some-pop.seat in let is = c.into_place.ensures in
    let one = joins_left _ _ _ c.pop-in-loop-seat.new.self.items s _ c.requires j c.in-Some-pop.ensures.items in (
      j.table,
      is.0 ∙ one.0,
      ap (λ m. m.1) is.2,
      search rules,
      joins g.T.StandsFor.history (about_of g.T.StandsFor.system g.T.StandsFor.plan) _ _ _ _ _ _ j.live (ap (λ m. m.0.spent) is.2 ∙ s.rests.1) j.stage (ap (λ m. m.0.stage) is.2 ∙ s.rests.0),
    )

pub loop-seat-preserved : goal.loop-seat-preserved
loop-seat-preserved g c = let j = c.loop-seat.invariant in let s = c.in-Some-pop.seat in let is = c.into_place.ensures in let did = c.join_seat.ensures in
    joins_more _ _ _ _ s _ _ c.requires j c.in-Some-pop.ensures.items did.0 (did.2 ∙ ap (λ m. (joined c.loop-seat.place.me.0 m.0, c.loop-seat.place.me.1)) is.2)

pub loop-seat-init : goal.loop-seat-init
loop-seat-init g c = let is = c.into_place-place.ensures in joins_start _ _ _ c.in-Some.last _ c.requires c.in-Some.ensures.items is.0 is.2
