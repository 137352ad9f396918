-- What a shelf and a sink over memory hold and answer.
use Rattle.std.specs.Prelude.{◌+◌, ◌-◌, ◌==◌, ◌||◌, ℕ, Bool, List, Option, if◌then◌else◌, is_none, length, min, nat_le, slice_get}
use Rattle.std.specs.List.{list_any}
use Rattle.std.specs.Option.{option_map, option_map_or, option_and_then}
use Rattle.kom_io.specs.declared.memory.MemoryShelf.{MemoryShelf}
use Rattle.kom_io.specs.declared.memory.MemorySink.{MemorySink}
use Rattle.kom_io.specs.declared.shelves.Opened.{Opened}
use Rattle.kom_io.specs.declared.shelves.Opened.TheVariants as opened
use Rattle.kom_io.specs.declared.shelves.Got.{Got}
use Rattle.kom_io.specs.declared.shelves.Got.TheVariants as got
use Rattle.kom_io.specs.declared.sinks.Put.{Put}
use Rattle.kom_io.specs.declared.sinks.Put.TheVariants as put
use Rattle.kom_io.specs.Faults.{last_count}
use Rattle.kom_io.specs.Files.{left_at}
use Rattle.kom_io.specs.Names.{place_of, at_name, count_at}

-- the bytes of a name
abbrev pub held : MemoryShelf → List ℕ → Option (List ℕ)
held s name = option_map (λ f. f.1.items) (at_name s.counts.names s.files.items name)

abbrev pub fault_count : MemoryShelf → List ℕ → ℕ
fault_count s name = count_at s.counts.names s.counts.faults.items name

abbrev pub name_opened : MemoryShelf → Option (List ℕ)
name_opened s = option_and_then (λ r. slice_get s.counts.names r.place) s.opened

abbrev pub bytes_left : MemoryShelf → Option (List ℕ)
bytes_left s = option_and_then (left_at s.files.items) s.opened

-- the number of this call is among those that fail
abbrev pub fails_now : MemoryShelf → Bool
fails_now s = list_any (λ k. k == s.calls) s.fails.items

-- the number of the next call
abbrev pub call_after : ℕ → ℕ
call_after calls = min (calls + 1) last_count

-- opening fails exactly where this call is to fail or the name is not held
abbrev pub open_answer : MemoryShelf → List ℕ → Opened
open_answer s name = if fails_now s || is_none (place_of s.counts.names name) then opened.Failed else opened.Ready

-- how many bytes a read gives: as many as there are, up to the piece and the buffer's length
abbrev pub given : MemoryShelf → ℕ → ℕ
given s room = min (min (option_map_or length (bytes_left s) 0) s.piece) room

-- reading fails exactly where this call is to fail
abbrev pub read_answer : MemoryShelf → ℕ → Got
read_answer s room = if fails_now s then got.Failed else (if given s room == 0 then got.End else got.Bytes (given s room))

-- a write fails exactly where this call is to fail or the room is full
abbrev pub put_answer : MemorySink → ℕ → Put
put_answer s n =
    if list_any (λ k. k == s.calls) s.fails.items || nat_le s.room (length s.bytes.items) then put.Failed
    else put.Bytes (min (min n s.piece) (s.room - length s.bytes.items))
