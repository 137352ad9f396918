-- What an answer of a shelf or a sink says of its bytes, where they are told.
use Rattle.std.specs.Prelude.{◌≡◌, ◌<◌, ◌≤◌, ◌++◌, ℕ, List, [], Option, IfSome, length, take, drop}
use Rattle.std.specs.Option.{option_map}
use Rattle.kom_io.specs.declared.shelves.Got.{Got}
use Rattle.kom_io.specs.declared.shelves.Got.TheVariants as got
use Rattle.kom_io.specs.declared.sinks.Put.{Put}
use Rattle.kom_io.specs.declared.sinks.Put.TheVariants as put

-- n bytes, at least one, came from the front of what was left to the front of the buffer
pub record TakesFront (n : ℕ) (buffer : List ℕ) (before after : Option (List ℕ)) : Type 0 where
  pub some : 0 < n
  pub fits : n ≤ length buffer
  pub rest : after ≡ option_map (drop n) before
  pub same : IfSome before (λ left. (n ≤ length left) × (take n buffer ≡ take n left))

-- before, after: what was left of the file before the call and after it
abbrev pub IsRead : Got → List ℕ → Option (List ℕ) → Option (List ℕ) → Type 0
IsRead (got.Bytes n) buffer before after = TakesFront n buffer before after
IsRead got.End buffer before after = IfSome before (λ left. left ≡ []) × (after ≡ before)
IsRead got.Failed buffer before after = after ≡ before

-- n bytes, at least one, went from the front of these to the end of what was written
pub record AddsFront (n : ℕ) (bytes : List ℕ) (before after : Option (List ℕ)) : Type 0 where
  pub some : 0 < n
  pub within : n ≤ length bytes
  pub added : after ≡ option_map (λ written. written ++ take n bytes) before

-- before, after: what was written before the call and after it
abbrev pub IsPut : Put → List ℕ → Option (List ℕ) → Option (List ℕ) → Type 0
IsPut (put.Bytes n) bytes before after = AddsFront n bytes before after
IsPut put.Failed bytes before after = after ≡ before
