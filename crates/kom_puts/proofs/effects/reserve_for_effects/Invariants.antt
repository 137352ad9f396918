use Rattle.std.proofs.Common.{ℕ, ◌<◌}
use Rattle.std.specs.Prelude.{slice_index_or}
use Rattle.kom_lang.specs.declared.body.Effect.{Effect}
use Rattle.kom_state.specs.Parts.{state_of}
use Rattle.kom_state.specs.Rooms.{HasNoLess, IsSame}
use Rattle.kom_puts.specs.Puts.{HasRoomFor, put_in}
use Rattle.kom_puts.proofs.effects.reserve_for_effects.Given as goal

abbrev pub invariant-loop-k : goal.invariant-loop-k
invariant-loop-k l = record {
  same : IsSame (state_of l.fn.state) (state_of l.state);
  not_less : HasNoLess l.fn.state l.state;
  rooms : (j : ℕ) (d : Effect) → j < l.k → HasRoomFor l.n (put_in (state_of l.fn.state) l.c l.item l.told (slice_index_or l.effects j d)) l.state;
}
