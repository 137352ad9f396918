use Rattle.std.proofs.Common.{◌≡◌, ◌≤◌, ◌+◌, ◌++◌, length}
use Rattle.kom_index.specs.Entries.{Rises}
use Rattle.kom_env.specs.Keys.{place_cmp}
use Rattle.kom_env.specs.Raised.{raises_in, ArePlaced}
use Rattle.kom_env.proofs.Placing.{AreFrom}
use Rattle.kom_env.proofs.calendar.Calendar.of.Given as goal

abbrev pub invariant-loop-raise : goal.invariant-loop-raise
invariant-loop-raise l = record {
  same : l.raises ++ raises_in l.placed.0 ≡ l.fn.raises;
  rises : Rises place_cmp l.placed.0;
  placed : ArePlaced (length l.fn.raises) l.placed.0;
  behind : AreFrom (length l.raises) l.placed.0;
  room : length l.raises ≤ l.placed.1;
}

abbrev pub decreases-loop-raise : goal.decreases-loop-raise
decreases-loop-raise l = length l.raises
