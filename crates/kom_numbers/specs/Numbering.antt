-- Which channel has which number.
use Rattle.std.specs.Prelude.{◌≡◌, ℕ, suc, ◌+◌, ◌-◌, Bool, false, ◌&&◌, ◌==◌, nat_lt, if◌then◌else◌, List, [], ◌∷◌, length, map, take, sum, slice_get, slice_index_or, Option, Some, None}
use Rattle.std.specs.Option.{option_map, option_map_or}
use Rattle.kom_base.specs.declared.numbers.Dir.{Dir}
use Rattle.kom_base.specs.declared.numbers.Dir.TheVariants.{Plus, Minus}
use Rattle.kom_base.specs.Numbers.{same_dir}
use Rattle.kom_lang.specs.Declarations.{Declarations, kind_of}
use Rattle.kom_record.specs.Channels.{Channel, Environment, Own}

-- for each port of the root the direction of its channel that leads out, for each instance how many
-- channels it has, and for how many more instances there is room
pub record Numbering : Type 0 where
  pub outs : List Dir
  pub counts : List ℕ
  pub spare : ℕ

-- the number of the first channel of the instance c
abbrev pub first_of : Numbering → ℕ → ℕ
first_of n c = length n.outs + sum (take c n.counts)

abbrev pub count_of : Numbering → ℕ → ℕ
count_of n c = slice_index_or n.counts c 0

-- how many channels there are
abbrev pub total : Numbering → ℕ
total n = length n.outs + sum n.counts

-- the instance and the place there of the channel x, counted from the first channel of the first of
-- some instances, which has the number c
abbrev pub wire_among : ℕ → List ℕ → ℕ → Option (ℕ × ℕ)
wire_among c [] x = None
wire_among c (n ∷ ns) x = if nat_lt x n then Some (c, x) else wire_among (suc c) ns (x - n)

-- the instance whose channel has the number x, and the place of the channel there
abbrev pub wire_at : Numbering → ℕ → Option (ℕ × ℕ)
wire_at n x = if nat_lt x (length n.outs) then None else wire_among 0 n.counts (x - length n.outs)

-- the channel with the number x
abbrev pub channel_at : Numbering → ℕ → Option Channel
channel_at n x = if nat_lt x (length n.outs) then Some (Environment x) else option_map (λ q. Own q.0 q.1) (wire_at n x)

abbrev pub is_pair : ℕ → ℕ → ℕ × ℕ → Bool
is_pair c k q = c == q.0 && k == q.1

-- x is the number of the channel k of the instance c
abbrev pub is_wire : Numbering → ℕ → ℕ → ℕ → Bool
is_wire n c k x = option_map_or (is_pair c k) (wire_at n x) false

-- x is the number of a channel of the instance c
abbrev pub is_of : Numbering → ℕ → ℕ → Bool
is_of n c x = option_map_or (λ q. c == q.0) (wire_at n x) false

-- direction d of channel x leads to the environment
abbrev pub leads_out : Numbering → ℕ → Dir → Bool
leads_out n x d = option_map_or (λ e. same_dir e d) (slice_get n.outs x) false

-- what the channel of a port of the root brings to the environment leaves by the port: a provided
-- port is at the channel's plus end
abbrev pub out_of : Bool → Dir
out_of provided = if provided then Plus else Minus

-- the numbers are those of a system of which there are instances of these kinds
pub record IsNumbered (S : Declarations) (kinds : List ℕ) (n : Numbering) : Type 0 where
  pub outs : n.outs ≡ map (λ p. out_of p.provided) (kind_of S S.root.kind).ports
  pub counts : n.counts ≡ map (λ k. length (kind_of S k).channels) kinds
