-- The parts of the numbers and how they agree.
use Rattle.std.specs.Prelude.{◌≡◌, ◌-◌, ◌^◌, ◌<◌, ◌≤◌, length, vec_len, vec_capacity}
use Rattle.kom_numbers.specs.declared.numbers.Numbers.TheInside.{Inside}
use Rattle.kom_numbers.specs.Numbering.{Numbering, total}
use Rattle.kom_numbers.specs.Spans.{Start, counts_of}

abbrev pub numbering_of : Inside → Numbering
numbering_of n = record { outs = n.outs.items; counts = counts_of n.spans.items; spare = vec_capacity n.spans - vec_len n.spans }

-- each span begins where those before it end, and all numbers have 32 bits
pub record IsSound (n : Inside) : Type 0 where
  pub starts : Start n.outs.items n.spans.items
  pub next : n.next ≡ total (numbering_of n)
  pub few : total (numbering_of n) < 2 ^ 32
  pub instances : length n.spans.items ≤ 4000000000
