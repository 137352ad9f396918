-- The raises of a plan.
use Rattle.std.specs.Prelude.{◌≡◌, ℕ, ◌+◌, ◌<◌, ◌≤◌, Bool, true, ◌==◌, nat_lt, if◌then◌else◌, List, [], ◌∷◌, map, Option, Some, None}
use Rattle.std.specs.Option.{option_map_or}
use Rattle.kom_record.specs.declared.plan.Raise.{Raise}
use Rattle.kom_record.specs.declared.entry.Release.{Release}
use Rattle.kom_env.specs.declared.keys.Place.{Place}

-- the time has not reached that of the raise
abbrev pub is_unraised : Option ℕ → Raise → Bool
is_unraised last r = option_map_or (λ t. nat_lt t r.time) last true

abbrev pub is_raised_at : ℕ → Raise → Bool
is_raised_at t r = r.time == t

abbrev pub released : Raise → Release
released r = record { chan = r.chan; event = r.event }

-- one raise more, after the last raise whose time is not greater
abbrev pub admitted : Raise → List Raise → List Raise
admitted r [] = r ∷ []
admitted r (q ∷ qs) = if nat_lt r.time q.time then r ∷ q ∷ qs else q ∷ admitted r qs

-- ---- the raises by place

abbrev pub raises_in : List (Place × Raise) → List Raise
raises_in es = map (λ e. e.1) es

abbrev pub first_place : ℕ → Place
first_place t = record { time = t; rank = 0 }

abbrev pub last_place : ℕ → Place
last_place t = record { time = t; rank = 18446744073709551615 }

abbrev pub place_after : Option ℕ → Place
place_after None = first_place 0
place_after (Some t) = last_place t

-- each raise stands at its time, with a rank below a bound
abbrev pub ArePlaced : ℕ → List (Place × Raise) → Type 0
ArePlaced n [] = Unit {0}
ArePlaced n (e ∷ es) = ((e.0.time ≡ e.1.time) × (e.0.rank < n)) × ArePlaced n es
