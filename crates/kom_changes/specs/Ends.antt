-- Where the ends of channels are, and who is in the slots of a body.
use Rattle.std.specs.Prelude.{◌≡◌, ◌<◌, ◌⊎◌, ◌==◌, ◌||◌, ℕ, Bool, true, false, length, Option, Some}
use Rattle.std.specs.Option.{option_and_then, option_map_or}
use Rattle.kom_base.specs.declared.numbers.Dir.{Dir}
use Rattle.kom_base.specs.declared.numbers.Dir.TheVariants.{Plus, Minus}
use Rattle.kom_base.specs.declared.numbers.Half.{Half}
use Rattle.kom_lang.specs.declared.body.Body.{Body}
use Rattle.kom_numbers.specs.Numbering.{wire_at, count_of}
use Rattle.kom_refine.specs.States.{State, end_of}
use Rattle.kom_state.specs.Parts.{Parts, state_of}

-- the half at which an end of a living channel is plugged
abbrev pub end_at : State → ℕ → Dir → Option Half
end_at m x e = option_and_then (λ l. end_of l e) (m.links x)

abbrev pub is_comp : ℕ → Option Half → Bool
is_comp d o = option_map_or (λ h. d == h.comp) o false

-- an end of the channel is plugged at d
abbrev pub has_end_at : State → ℕ → ℕ → Bool
has_end_at m x d = is_comp d (end_at m x Plus) || is_comp d (end_at m x Minus)

-- the channel is there and held
abbrev pub is_held : State → ℕ → Bool
is_held m x = option_map_or (λ l. l.held) (m.links x) false

-- the ends of all living channels are at components that were created
abbrev pub EndsAreMade : State → Type 0
EndsAreMade m = (x : ℕ) (e : Dir) (h : Half) → end_at m x e ≡ Some h → h.comp < length m.nodes

-- the ends of a living channel of another component than c are at that component or at children of it
abbrev pub EndsAreOwn : ℕ → Parts → Type 0
EndsAreOwn c v = (x d k : ℕ) (e : Dir) (h : Half) → wire_at v.numbers x ≡ Some (d, k) → (d == c) ≡ false → end_at (state_of v) x e ≡ Some h
    → (h.comp ≡ d) ⊎ ((s : ℕ) × ((state_of v).child d s ≡ Some h.comp))

-- whoever lives in a slot of another component than c is in a slot of its body, and slots are few
abbrev pub ChildrenAreInSlots : ℕ → State → Type 0
ChildrenAreInSlots c m = (d s e : ℕ) (b : Body) → (d == c) ≡ false → m.bodies d ≡ Some b → m.child d s ≡ Some e → (s < length b.slots) × (s < 256)

-- c lives, and its type declares a channel k
pub record HasChannel (v : Parts) (c k : ℕ) : Type 0 where
  pub living : (state_of v).living c ≡ true
  pub declared : k < count_of v.numbers c
