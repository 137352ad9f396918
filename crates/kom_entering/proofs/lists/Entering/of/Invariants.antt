use Rattle.std.proofs.Common.{◌++◌, ◌≤◌, ◌+◌, length, take}
use Rattle.std.specs.List.{filter_map}
use Rattle.kom_record.specs.Offers.{offer_of, relayed}
use Rattle.kom_entering.specs.Lists.{AreNoted}
use Rattle.kom_entering.specs.Standing.{StandsAfter}
use Rattle.kom_entering.proofs.Whole.{blank}
use Rattle.kom_entering.proofs.lists.Entering.of.Given as goal

abbrev pub invariant-loop-effect : goal.invariant-loop-effect
invariant-loop-effect l = record {
  few : l.out.offers ≤ l.effect-index + 1;
  noted : StandsAfter l.fn.system.declarations l.fn.kept.history l.fn.state
      → AreNoted l.fn.system.declarations l.fn.kept.history (relayed l.fn.kept.history l.fn.c l.fn.item ++ filter_map (offer_of l.fn.c l.fn.took l.fn.item) (take l.effect-index l.fn.effects)) (blank l.fn.system.declarations l.fn.kept.history (length l.fn.kept.history)) l.out;
}
