use Rattle.std.proofs.Common.{◌≡◌, ℕ, ◌+◌, ◌-◌, true, length}
use Rattle.kom_life.specs.Rows.{living_of, is_there, spare_of, has_room}
use Rattle.kom_life.proofs.life.lengthen.Given as goal

abbrev pub invariant-loop-alloc : goal.invariant-loop-alloc
invariant-loop-alloc l = record {
  same : (y : ℕ) → living_of l.rows.items y ≡ living_of l.fn.rows.items y;
  there : (y : ℕ) → is_there l.rows.items y ≡ is_there l.fn.rows.items y;
  spare : (y : ℕ) → spare_of l.rows.items y ≡ spare_of l.fn.rows.items y;
  room_stays : (y : ℕ) → has_room l.fn.rows.items y ≡ true → has_room l.rows.items y ≡ true;
}

abbrev pub decreases-loop-alloc : goal.decreases-loop-alloc
decreases-loop-alloc l = l.at + 1 - length l.rows.items
