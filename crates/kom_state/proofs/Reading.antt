-- What the readers find in the parts is what the state has.
use Rattle.std.proofs.Common.{◌≡◌, ℕ, false, List, [], ◌∷◌, length, Option, Some, None, refl, sym, ap, ◌∙◌, ◌<◌, arith}
use Rattle.std.specs.Prelude.{slice_get, find, cond}
use Rattle.std.specs.Option.{option_map, option_map_or, option_and_then}
use Rattle.std.proofs.lemmas.List.{length-map}
use Rattle.std.proofs.lemmas.Option.{slice_get-map}
use Rattle.kom_base.specs.declared.numbers.Dir.{Dir}
use Rattle.kom_base.specs.declared.numbers.Dir.TheVariants.{Plus, Minus}
use Rattle.kom_tree.specs.Forest as forest
use Rattle.kom_wiring.specs.declared.link.Link as wiring
use Rattle.kom_wiring.specs.Wires.{link_of, place_at}
use Rattle.kom_life.specs.Rows as rows
use Rattle.kom_refine.specs.States.{Node, end_of}
use Rattle.kom_state.specs.Parts.{Parts, state_of, node_seen, link_seen, row_seen}
use Rattle.kom_state.specs.Readings.{is_active, is_catching, ancestry_at, nearest_in}

module _ (v : Parts) where
  pub made : (c : ℕ) → c < length (state_of v).nodes → c < length v.tree.instances
  unfolding state_of
  made c h = omega (arith, h, length-map v.tree.instances node_seen)

  pub alive_is : (c : ℕ) → forest.is_alive v.tree.instances c ≡ (state_of v).living c
  unfolding state_of
  alive_is c = refl

  pub child_is : (c s : ℕ) → forest.occupant v.tree.instances c s ≡ (state_of v).child c s
  unfolding state_of
  child_is c s = refl

  line_seen : (o : Option forest.Instance) → option_map_or (λ (i : forest.Instance). i.line) o [] ≡ option_map_or (λ (n : Node). n.ancestry) (option_map node_seen o) []
  line_seen None = refl
  line_seen (Some i) = refl

  pub line_is : (c : ℕ) → forest.line_of v.tree.instances c ≡ ancestry_at (state_of v) c
  unfolding state_of
  line_is c = line_seen (slice_get v.tree.instances c) ∙ ap (λ o. option_map_or (λ (n : Node). n.ancestry) o []) (sym (slice_get-map node_seen v.tree.instances c))

  pub active_is : (c : ℕ) → rows.is_active v.rows c ≡ is_active (state_of v) c
  unfolding state_of
  active_is c = at (rows.living_of v.rows c)
    where
      at : (o : Option rows.Living) → option_map_or (λ (l : rows.Living). l.active) o false ≡ option_map_or (λ r. r.active) (option_map row_seen o) false
      at None = refl
      at (Some l) = refl

  pub catching_is : (c : ℕ) → rows.is_catching v.rows c ≡ is_catching (state_of v) c
  unfolding state_of
  catching_is c = at (rows.living_of v.rows c)
    where
      at : (o : Option rows.Living) → option_map_or (λ (l : rows.Living). l.catches) o false ≡ option_map_or (λ r. r.catches) (option_map row_seen o) false
      at None = refl
      at (Some l) = refl

  found : (line : List (ℕ × ℕ)) → find (λ q. rows.is_catching v.rows q.0) line ≡ find (λ q. is_catching (state_of v) q.0) line
  found [] = refl
  found (q ∷ line) = ap (λ b. cond b (Some q) (find (λ q. rows.is_catching v.rows q.0) line)) (catching_is q.0) ∙ ap (cond (is_catching (state_of v) q.0) (Some q)) (found line)

  pub nearest_is : (c : ℕ) → rows.nearest_of v.rows (forest.line_of v.tree.instances c) ≡ nearest_in (state_of v) c
  nearest_is c = found (forest.line_of v.tree.instances c) ∙ ap (find (λ q. is_catching (state_of v) q.0)) (line_is c)

  end_seen : (o : Option wiring.Link) (e : Dir) → option_and_then (λ (l : wiring.Link). place_at l e) o ≡ option_and_then (λ l. end_of l e) (option_map link_seen o)
  end_seen None e = refl
  end_seen (Some l) Plus = refl
  end_seen (Some l) Minus = refl

  pub end_is : (x : ℕ) (e : Dir) → option_and_then (λ (l : wiring.Link). place_at l e) (link_of v.wires.links x) ≡ option_and_then (λ l. end_of l e) ((state_of v).links x)
  unfolding state_of
  end_is x e = end_seen (link_of v.wires.links x) e
