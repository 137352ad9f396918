-- A handling ends: the parts stay tied.
use Rattle.std.proofs.Common.{◌≡◌, ℕ, false, List, length, Option, Some, None, refl, ap, ◌∙◌, if◌then◌else◌, ◌<◌}
use Rattle.std.specs.Prelude.{is_some, ◌==◌, slice_get}
use Rattle.std.specs.Option.{IsSome, option_map, option_map_or, option_and_then}
use Rattle.std.proofs.lemmas.Option.{slice_get_within}
use Rattle.kom_lang.specs.declared.body.Body.{Body}
use Rattle.kom_record.specs.declared.entry.Outcome.TheVariants as outcome
use Rattle.kom_record.specs.Bodies.{catches}
use Rattle.kom_record.specs.Reaction.{body_after, passive}
use Rattle.kom_lang.specs.Declarations.{Declarations}
use Rattle.kom_refine.specs.Steps.{IsEnded}
use Rattle.kom_life.specs.declared.row.Row.{Row}
use Rattle.kom_life.specs.Rows as rows
use Rattle.kom_state.specs.Shelves.{Shelf, body_at}
use Rattle.kom_state.specs.Parts.{Parts, state_of}
use Rattle.kom_state.specs.Steps.{Faults}
use Rattle.kom_state.specs.Sound.{IsTied}
use Rattle.kom_state.proofs.Keeping.{with_bodies, by_same, flip, itself, is_ended}

-- who has a body is among those that were made
pub within_bodies : (bodies : List (Option Body)) (c : ℕ) → IsSome (body_at bodies c) → c < length bodies
within_bodies bodies c h = at (slice_get bodies c) refl h
  where
    at : (o : Option (Option Body)) → slice_get bodies c ≡ o → IsSome (option_and_then (λ b. b) o) → c < length bodies
    at None e h = absurd (cc)
    at (Some b) e h = slice_get_within bodies c b e

pub after_is : (f : Body → Body) (b : Body) (o : Option Body) → ((a : Body) → f a ≡ b) → IsSome o → option_map f o ≡ Some b
after_is f b None h k = absurd (cc)
after_is f b (Some a) h k = ap Some (h a)

module _ (v : Parts) (rs : List Row) (bs : Shelf) (c : ℕ) where
  pub bodies_tied : IsTied v → ((y : ℕ) → rows.is_there rs y ≡ rows.is_there v.rows y) → length bs.bodies ≡ length v.bodies.bodies
      → is_some (body_at bs.bodies c) ≡ is_some (body_at v.bodies.bodies c) → ((d : ℕ) → (d == c) ≡ false → body_at bs.bodies d ≡ body_at v.bodies.bodies d) → IsTied (with_bodies v rs bs)
  bodies_tied t there long here others = record {
    numbered = t.numbered;
    held_bodies = long ∙ t.held_bodies;
    bodies = λ d. by_same c d (λ b z. is_some (body_at bs.bodies z) ≡ is_some (body_at v.bodies.bodies z)) here (λ h. ap is_some (others d (flip d c ∙ h))) ∙ t.bodies d;
    rows = λ d. there d ∙ t.rows d;
    links = t.links;
    queues = t.queues;
  }

module _ (v : Parts) (rs : List Row) (bs : Shelf) (c : ℕ) (S : Declarations) where
  -- a fault leaves the body passive, and its flags follow it
  pub has_faulted : IsSome (body_at v.bodies.bodies c)
      → ((y : ℕ) → rows.living_of rs y ≡ (if y == c then option_map (rows.with_flags false (option_map_or (catches S) (body_at v.bodies.bodies c) false)) (rows.living_of v.rows c) else rows.living_of v.rows y))
      → ((d : ℕ) → body_at bs.bodies d ≡ (if d == c then option_map passive (body_at v.bodies.bodies d) else body_at v.bodies.bodies d))
      → Faults (catches S) c (state_of v) (state_of (with_bodies v rs bs))
  unfolding catches
  has_faulted living each bodies number = at (body_at v.bodies.bodies c) refl living
    where
      here : body_at bs.bodies c ≡ option_map passive (body_at v.bodies.bodies c)
      here = bodies c ∙ ap (λ b. if b then option_map passive (body_at v.bodies.bodies c) else body_at v.bodies.bodies c) (itself c)

      at : (o : Option Body) → body_at v.bodies.bodies c ≡ o → IsSome o → IsEnded (catches S) c (outcome.Fault number) (state_of v) (state_of (with_bodies v rs bs))
      at None e h = absurd (cc)
      at (Some a) e h = is_ended v rs bs (catches S) c (outcome.Fault number) (passive a)
          (here ∙ ap (option_map passive) e)
          (ap (option_map (λ b. body_after b (outcome.Fault number))) e)
          (λ y. each y ∙ ap (λ o. if y == c then option_map (rows.with_flags false (option_map_or (catches S) o false)) (rows.living_of v.rows c) else rows.living_of v.rows y) e)
          (λ d f. bodies d ∙ ap (λ b. if b then option_map passive (body_at v.bodies.bodies d) else body_at v.bodies.bodies d) f)
