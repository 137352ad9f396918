use Rattle.std.proofs.Common.{◌≡◌, ◌+◌, length, ◌++◌}
use Rattle.std.specs.Vec.Iter.{into_iter_items, into_iter_len}
use Rattle.kom_numbers.specs.Numbering.{total}
use Rattle.kom_state.specs.Parts.{state_of}
use Rattle.kom_births.specs.Seeds.{links_of}
use Rattle.kom_births.specs.Sowing.{AreSown, TakesRooms}
use Rattle.kom_births.proofs.brood.Brood.sow.Given as goal

abbrev pub invariant-loop-seed : goal.invariant-loop-seed
invariant-loop-seed l = record {
  rest : l.yielded ++ into_iter_items l.seed-iterator ≡ l.fn.self;
  count : into_iter_len l.seed-iterator ≡ length (into_iter_items l.seed-iterator);
  sown : AreSown l.system.declarations (length (state_of l.fn.state).nodes) (total l.fn.state.numbers) l.yielded (state_of l.fn.state) (state_of l.state);
  nodes : length (state_of l.state).nodes ≡ length (state_of l.fn.state).nodes + length l.yielded;
  chans : total l.state.numbers ≡ total l.fn.state.numbers + length (links_of l.yielded);
  took : TakesRooms l.yielded (length (state_of l.fn.state).nodes) l.fn.state l.state;
}
