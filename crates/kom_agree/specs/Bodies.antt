-- When the numbers in a body are in range, and when an instance was created as its type takes it.
use Rattle.std.specs.Prelude.{◌≡◌, ◌≤◌, ◌<◌, ℕ, ◌+◌, true, false, ◌==◌, nat_lt, not, Bool, length, slice_get, Some, None}
use Rattle.std.specs.List.{list_all}
use Rattle.std.specs.Option.{option_map_or}
use Rattle.kom_base.specs.declared.numbers.Dir.{Dir}
use Rattle.kom_lang.specs.Declarations.{Declarations, kind_of, handler_of, is_init, height_of}
use Rattle.kom_lang.specs.declared.body.Birth.{Birth}
use Rattle.kom_lang.specs.declared.body.Birth.TheVariants.{Args, State}
use Rattle.kom_lang.specs.declared.body.Body.{Body}
use Rattle.kom_lang.specs.declared.kind.Place.{Place}
use Rattle.kom_lang.specs.Steps.{child_in, end_of, port_of_channel, wire_of}
use Rattle.kom_system.specs.Fitting.{arity, takes_at}
use Rattle.kom_record.specs.Instances.{Instance}
use Rattle.kom_record.specs.Plans.{is_wire_in}

-- as many arguments as the type takes, or a state with as many values as it has variables
abbrev pub birth_fits : Declarations → ℕ → Birth → Bool
birth_fits S kind (Args vs) = length vs == arity (kind_of S kind)
birth_fits S kind (State vs) = length vs == length (kind_of S kind).vars

-- the type is declared, it was created as the type takes it, and its tree ends at depth 16 at most
pub record InstanceFits (S : Declarations) (i : Instance) : Type 0 where
  pub kind : i.kind < length S.kinds
  pub birth : birth_fits S i.kind i.birth ≡ true
  pub depth : 1 + length i.ancestry + height_of S i.kind ≤ 17

-- the parts of a body are those of its type, and each number in it names something
pub record BodyFits (S : Declarations) (b : Body) : Type 0 where
  pub kind : b.kind < length S.kinds
  pub vars : length b.vars ≡ length (kind_of S b.kind).vars
  pub slots : length b.slots ≡ length (kind_of S b.kind).slots
  pub wires : length b.wires ≡ length (kind_of S b.kind).channels
  pub subs : list_all (λ h. option_map_or (λ x. not (is_init x.on)) (handler_of (kind_of S b.kind) h) false) b.subs ≡ true
  pub children : list_all (λ s. option_map_or (λ k. nat_lt k (length S.kinds)) s true) b.slots ≡ true
  pub places : list_all (is_wire_in S b) b.wires ≡ true
  pub some_depth : 1 ≤ b.depth
  pub depth : b.depth + height_of S b.kind ≤ 17

-- an end of a channel of this port type may be plugged at the place: a port of that type, with the sign
-- of the end on that side
abbrev pub place_takes : Declarations → Body → ℕ → Dir → Place → Bool
place_takes S b type e p =
    elim p.slot [
      | None ↦ option_map_or (takes_at type e false) (slice_get (kind_of S b.kind).ports p.port) false
      | Some s ↦ option_map_or (λ k. option_map_or (takes_at type e true) (slice_get (kind_of S k).ports p.port) false) (child_in b s) false
    ]

-- each end that is plugged is so at a port that takes it
pub record EndsTake (S : Declarations) (b : Body) : Type 0 where
  pub ends : (k : ℕ) (e : Dir) (p : Place) → k < length b.wires → end_of (wire_of b k) e ≡ Some p → place_takes S b (port_of_channel S b k) e p ≡ true
