-- The first body of a component.
use Rattle.std.specs.Prelude.{ℕ, ℤ, Bool, true, false, not, ◌||◌, if◌then◌else◌, List, [], map, is_none}
use Rattle.std.specs.Option.{option_map}
use Rattle.kom_lang.specs.declared.kind.Kind.{Kind}
use Rattle.kom_lang.specs.declared.kind.ChannelDecl.{ChannelDecl}
use Rattle.kom_lang.specs.declared.body.Wire.{Wire}
use Rattle.kom_lang.specs.declared.body.Body.{Body}
use Rattle.kom_lang.specs.declared.body.Birth.{Birth}
use Rattle.kom_lang.specs.declared.body.Birth.TheVariants.{Args, State}
use Rattle.kom_lang.specs.Declarations.{Declarations, kind_of, has_init, first_subs}

-- the declared values, or the state
abbrev pub first_vars : Kind → Birth → List ℤ
first_vars kind (Args vs) = map (λ v. v.first) kind.vars
first_vars kind (State vs) = vs

-- whether the component is created from the variables of another
abbrev pub is_state : Birth → Bool
is_state (Args vs) = false
is_state (State vs) = true

-- needs no init: its type has no init handler, or it was created from a state
abbrev pub is_initialised_at_birth : Kind → Birth → Bool
is_initialised_at_birth kind birth = not (has_init kind) || is_state birth

-- a channel with a free end starts held
abbrev pub first_wire : ChannelDecl → Wire
first_wire c = record { held = is_none c.plus || is_none c.minus; plus = c.plus; minus = c.minus }

-- the body of a component of type k when it is created at that depth
abbrev pub first_body : Declarations → ℕ → Birth → ℕ → Body
first_body S k birth depth =
    let kind = kind_of S k in
    let initialised = is_initialised_at_birth kind birth in
    record {
      kind = k;
      vars = first_vars kind birth;
      subs = if initialised then first_subs kind else [];
      slots = map (λ s. option_map (λ child. child.kind) s.child) kind.slots;
      wires = map first_wire kind.channels;
      depth = depth;
      active = false;
      initialised = initialised;
    }
