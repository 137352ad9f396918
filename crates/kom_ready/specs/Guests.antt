-- What a lot has of a deque.
use Rattle.std.specs.Prelude.{ℕ, List, slice_get}
use Rattle.std.specs.Option.{option_map_or}
use Rattle.std.specs.List.{sum_by}
use Rattle.atomic_blocks.specs.Lent.{RowsId}
use Rattle.std.specs.declared.alloc.Global.{Global}
use Rattle.crossbeam_deque.specs.Handles.{view}
use Rattle.kom_ready.specs.declared.guest.Guest.{Guest}

-- which deque it is
abbrev pub Deque : Type 0
Deque = RowsId × Global

abbrev pub guest_deque : Guest → Deque
guest_deque g = (g.pass.rows, g.pass.heap)

-- how much the numbers weigh that were taken by it
abbrev pub taken_by : (ℕ → ℕ) → Guest → ℕ
taken_by h g = sum_by h (view g.pass).taken

-- how often the deque of a worker was found empty
abbrev pub found_in : List Guest → ℕ → ℕ
found_in guests j = option_map_or (λ g. g.found) (slice_get guests j) 0
