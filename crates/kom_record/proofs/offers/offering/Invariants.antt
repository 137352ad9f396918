use Rattle.std.proofs.Common.{◌≡◌, filter, drop}
use Rattle.std.specs.Prelude.{slice_get}
use Rattle.kom_record.specs.Offers.{offers_event}
use Rattle.kom_record.proofs.offers.offering.Given as goal

abbrev pub invariant-loop-effect : goal.invariant-loop-effect
invariant-loop-effect l = slice_get (filter (offers_event l.to_arrival) l.effects) l.place ≡ slice_get (filter (offers_event l.to_arrival) (drop l.effect-index l.effects)) l.left
