-- The spans of the instances' channels.
use Rattle.std.specs.Prelude.{◌≡◌, ℕ, suc, ◌+◌, ◌<◌, ◌≤◌, ◌⊎◌, List, map, length, take, sum, slice_get, Option, Some, None}
use Rattle.kom_base.specs.declared.numbers.Dir.{Dir}
use Rattle.kom_numbers.specs.declared.numbers.Span.{Span}

abbrev pub counts_of : List Span → List ℕ
counts_of spans = map (λ s. s.count) spans

-- where the channels of the instance c begin
abbrev pub start_of : List Dir → List Span → ℕ → ℕ
start_of outs spans c = length outs + sum (take c (counts_of spans))

-- each span begins where those before it end
abbrev pub Start : List Dir → List Span → Type 0
Start outs spans = (c : ℕ) (s : Span) → slice_get spans c ≡ Some s → s.first ≡ start_of outs spans c

-- the channel x lies in the span of the instance c; none where it lies before all or after all
abbrev pub IsOwner : List Dir → List Span → ℕ → Option ℕ → Type 0
IsOwner outs spans x None = (x < length outs) ⊎ (start_of outs spans (length spans) ≤ x)
IsOwner outs spans x (Some c) = (c < length spans) × (start_of outs spans c ≤ x) × (x < start_of outs spans (suc c))
