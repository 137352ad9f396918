-- The plan of a scenario.
use Rattle.std.specs.Prelude.{◌≡◌, ℕ, ◌==◌, IsTrue, List, [], map, filter}
use Rattle.rand_pcg.specs.Lcg.{Lcg, started, increment_of}
use Rattle.rand_pcg.specs.Pcg.{multiplier_64}
use Rattle.kom_record.specs.declared.plan.Plan.{Plan}
use Rattle.kom_record.specs.declared.plan.Raise.{Raise}
use Rattle.kom_record.specs.Plans.{does_not_fall}
use Rattle.kom_scenario.specs.declared.tree.Scene.{Scene}
use Rattle.kom_expand.specs.Drawn.{events_from}

-- the generator of a seed: draws of scenarios are its stream 1
abbrev pub generator_of : ℕ → Lcg
generator_of seed = started 64 multiplier_64 seed (increment_of 64 1)

-- all events of a scenario, in the order of the text
unfoldable pub events_of : Scene → List Raise
events_of z = events_from [] z.sources (generator_of z.seed)

abbrev pub at_time : ℕ → List Raise → List Raise
at_time t xs = filter (λ r. r.time == t) xs

-- the events in order of time; those of one time keep their order
pub record InTime (events raises : List Raise) : Type 0 where
  pub rising : IsTrue (does_not_fall (map (λ r. r.time) raises))
  pub same : (t : ℕ) → at_time t raises ≡ at_time t events

pub record IsExpansion (z : Scene) (plan : Plan) : Type 0 where
  pub seed : plan.seed ≡ z.seed
  pub steps : plan.steps ≡ z.steps
  pub instants : plan.instants ≡ z.instants
  pub lo : plan.lo ≡ z.lo
  pub hi : plan.hi ≡ z.hi
  pub raises : InTime (events_of z) plan.raises
