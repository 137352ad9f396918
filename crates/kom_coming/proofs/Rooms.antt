-- Room for what comes, direction by direction.
use Rattle.std.proofs.Common.{◌≡◌, ◌≤◌, ℕ, Bool, true, false, if◌then◌else◌, ◌&&◌, ◌==◌, refl, ap, ◌∙◌, subst, List, [], ◌∷◌, ◌++◌, length, Some, None, ◌⊎◌, inl, inr, arith}
use Rattle.std.specs.List.{cons_option}
use Rattle.std.proofs.lemmas.Bool.{eqb-true}
use Rattle.kom_base.specs.declared.numbers.Dir.{Dir}
use Rattle.kom_base.specs.declared.numbers.Dir.TheVariants.{Plus, Minus}
use Rattle.kom_base.specs.Numbers.{same_dir}
use Rattle.kom_laws.proofs.Unaffected.{and_both}
use Rattle.kom_entering.specs.declared.lists.Coming.{Coming}
use Rattle.kom_entering.specs.Lists.{numbers_into}
use Rattle.kom_refine.specs.States.{State}
use Rattle.kom_state.specs.Parts.{Parts, queue_spare}
use Rattle.kom_state.specs.Rooms.{HasNoLess, IsSame}

-- so much room for each direction into which something comes
abbrev pub HasRooms : List Coming → ℕ → Parts → Type 0
HasRooms [] n v = Unit {0}
HasRooms (q ∷ qs) n v = (n ≤ queue_spare v q.chan q.dir) × HasRooms qs n v

pub rooms_kept : (qs : List Coming) (n : ℕ) (v w : Parts) → HasNoLess v w → HasRooms qs n v → HasRooms qs n w
rooms_kept [] n v w k h = tt
rooms_kept (q ∷ qs) n v w k h = (let a = k.numbers q.chan q.dir in let b = h.0 in omega (arith, a, b), rooms_kept qs n v w k h.1)

pub rooms_more : (qs : List Coming) (q : Coming) (n : ℕ) (v : Parts) → HasRooms qs n v → n ≤ queue_spare v q.chan q.dir → HasRooms (qs ++ q ∷ []) n v
rooms_more [] q n v h l = (l, tt)
rooms_more (p ∷ qs) q n v h l = (h.0, rooms_more qs q n v h.1 l)

pub alike : (d e : Dir) → same_dir d e ≡ true → d ≡ e
alike Plus Plus h = refl
alike Plus Minus h = absurd cc
alike Minus Plus h = absurd cc
alike Minus Minus h = refl

none_or_room : (qs : List Coming) (n : ℕ) (v : Parts) (x : ℕ) (d : Dir) → HasRooms qs n v → (numbers_into qs x d ≡ []) ⊎ (n ≤ queue_spare v x d)
none_or_room [] n v x d h = inl refl
none_or_room (q ∷ qs) n v x d h = go (q.chan == x && same_dir q.dir d) refl (none_or_room qs n v x d h.1)
  where
    go : (b : Bool) → (q.chan == x && same_dir q.dir d) ≡ b → (numbers_into qs x d ≡ []) ⊎ (n ≤ queue_spare v x d) → (numbers_into (q ∷ qs) x d ≡ []) ⊎ (n ≤ queue_spare v x d)
    go true e r =
        let w = and_both (q.chan == x) (same_dir q.dir d) e in
        inr (subst (λ y. n ≤ queue_spare v y d) (eqb-true q.chan x w.0) (subst (λ f. n ≤ queue_spare v q.chan f) (alike q.dir d w.1) h.0))
    go false e (inl r) = inl (ap (λ b. cons_option (if b then Some q.no else None) (numbers_into qs x d)) e ∙ r)
    go false e (inr r) = inr r

pub rooms_enough : (qs : List Coming) (n : ℕ) (v : Parts) (x : ℕ) (d : Dir) → length (numbers_into qs x d) ≤ n → HasRooms qs n v → length (numbers_into qs x d) ≤ queue_spare v x d
rooms_enough qs n v x d l h = go (none_or_room qs n v x d h)
  where
    go : (numbers_into qs x d ≡ []) ⊎ (n ≤ queue_spare v x d) → length (numbers_into qs x d) ≤ queue_spare v x d
    go (inl e) = let z = ap length e in omega (arith, z)
    go (inr r) = omega (arith, l, r)

pub same_again : (m k n : State) → IsSame m k → IsSame k n → IsSame m n
same_again m k n a b = record {
  tree = record { nodes = b.tree.nodes ∙ a.tree.nodes; living = λ c. b.tree.living c ∙ a.tree.living c; child = λ c s. b.tree.child c s ∙ a.tree.child c s };
  links = λ x. b.links x ∙ a.links x;
  queues = λ x d. b.queues x d ∙ a.queues x d;
  controls = λ c. b.controls c ∙ a.controls c;
  bodies = λ c. b.bodies c ∙ a.bodies c;
}

pub same_self : (m : State) → IsSame m m
same_self m = record { tree = record { nodes = refl; living = λ c. refl; child = λ c s. refl }; links = λ x. refl; queues = λ x d. refl; controls = λ c. refl; bodies = λ c. refl }

pub no_less_again : (m k n : Parts) → HasNoLess m k → HasNoLess k n → HasNoLess m n
no_less_again m k n a b = record {
  outs = b.outs ∙ a.outs;
  counts = b.counts ∙ a.counts;
  instances = (let x = a.instances in let y = b.instances in omega (arith, x, y));
  channels = (let x = a.channels in let y = b.channels in omega (arith, x, y));
  controls = λ c. (let x = a.controls c in let y = b.controls c in omega (arith, x, y));
  rows = λ c h. b.rows c (a.rows c h);
  numbers = λ x d. (let p = a.numbers x d in let q = b.numbers x d in omega (arith, p, q));
  queues = λ x h. b.queues x (a.queues x h);
}
