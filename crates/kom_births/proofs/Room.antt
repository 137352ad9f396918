-- What is reserved step by step.
use Rattle.std.proofs.Common.{◌≡◌, ℕ, ◌+◌, ◌<◌, ◌≤◌, true, ap, ◌∙◌, arith}
use Rattle.kom_refine.specs.States.{State}
use Rattle.kom_state.specs.Parts.{Parts, has_queues}
use Rattle.kom_state.specs.Rooms.{HasNoLess, IsSame}
use Rattle.kom_births.proofs.Sown.{by_order}

pub same_again : (a b c : State) → IsSame a b → IsSame b c → IsSame a c
same_again a b c f g = record {
  tree = record { nodes = g.tree.nodes ∙ f.tree.nodes; living = λ d. g.tree.living d ∙ f.tree.living d; child = λ d s. g.tree.child d s ∙ f.tree.child d s };
  links = λ x. g.links x ∙ f.links x;
  queues = λ x d. g.queues x d ∙ f.queues x d;
  controls = λ d. g.controls d ∙ f.controls d;
  bodies = λ d. g.bodies d ∙ f.bodies d;
}

pub no_less_again : (a b c : Parts) → HasNoLess a b → HasNoLess b c → HasNoLess a c
no_less_again a b c f g = record {
  outs = g.outs ∙ f.outs;
  counts = g.counts ∙ f.counts;
  instances = let x = f.instances in let y = g.instances in omega (arith, x, y);
  channels = let x = f.channels in let y = g.channels in omega (arith, x, y);
  controls = λ d. let x = f.controls d in let y = g.controls d in omega (arith, x, y);
  rows = λ d h. g.rows d (f.rows d h);
  numbers = λ x d. let y = f.numbers x d in let z = g.numbers x d in omega (arith, y, z);
  queues = λ x h. g.queues x (f.queues x h);
}

-- the queues up to a channel, one more of them
pub queue_more : (first x : ℕ) (a b : Parts) → HasNoLess a b → ((y : ℕ) → first ≤ y → y < x → has_queues a y ≡ true) → has_queues b x ≡ true → (y : ℕ) → first ≤ y → y < x + 1 → has_queues b y ≡ true
queue_more first x a b keeps r h y low high = by_order y x (λ l. keeps.queues y (r y low l)) (λ e. ap (has_queues b) e ∙ h) (λ l. absurd (omega (arith, l, high)))
