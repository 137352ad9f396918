-- How the parts of each state hold together.
use Rattle.std.proofs.Common.{◌≡◌, ℕ, ◌<◌, Bool, true, false, List, [], ◌∷◌, length, Option, Some, None, refl, sym, ap, ◌∙◌, arith, if◌then◌else◌}
use Rattle.std.specs.Prelude.{slice_get}
use Rattle.std.specs.Option.{option_map, option_map_or}
use Rattle.std.proofs.lemmas.List.{length-map}
use Rattle.std.proofs.lemmas.Option.{slice_get_within}
use Rattle.kom_base.specs.Lists.{first}
use Rattle.kom_base.specs.declared.numbers.Dir.{Dir}
use Rattle.kom_record.specs.Channels.{Channel, Environment, Own}
use Rattle.kom_tree.specs.Forest.{Instance, IsGrown, is_alive, line_of, line_under, occupant}
use Rattle.kom_wiring.specs.declared.link.Link.{Link}
use Rattle.kom_wiring.specs.Wires.{link_of}
use Rattle.kom_queues.specs.Waiting.{Waiting}
use Rattle.kom_queues.specs.Slots.{queue_of}
use Rattle.kom_life.specs.Rows.{living_of}
use Rattle.kom_numbers.specs.Numbering.{channel_at, leads_out}
use Rattle.kom_refine.specs.Points.{receiver_of}
use Rattle.kom_state.specs.Facts.{HoldsTogether, is_of_living}
use Rattle.kom_state.specs.Parts.{Parts, state_of, node_seen, link_seen, queue_seen, queue_in, row_seen}
use Rattle.kom_state.specs.Readings.{ancestry_at}
use Rattle.kom_state.specs.Sound.{IsTied, lives, aim_for}
use Rattle.kom_state.proofs.Conditions.{mapped, row_living}
use Rattle.kom_state.proofs.Reading.{line_is}

alive_within : (is : List Instance) (c : ℕ) → is_alive is c ≡ true → c < length is
alive_within is c h = at (slice_get is c) refl h
  where
    at : (o : Option Instance) → slice_get is c ≡ o → option_map_or (λ (i : Instance). i.living) o false ≡ true → c < length is
    at None e h = absurd (cc)
    at (Some i) e h = slice_get_within is c i e

whole : (line : List (ℕ × ℕ)) (q : ℕ × ℕ) → first line ≡ Some q → (rest : List (ℕ × ℕ)) × (line ≡ q ∷ rest)
whole [] q e = absurd (cc)
whole (p ∷ line) q e = let f : ◌≡◌ {A = ℕ × ℕ} p q = cc in (line, ap (λ z. z ∷ line) f)

head_is : (line rest : List (ℕ × ℕ)) (q : ℕ × ℕ) → line ≡ q ∷ rest → first line ≡ Some q
head_is line rest q e = ap first e

tail_is : (us vs : List (ℕ × ℕ)) (p q : ℕ × ℕ) → p ∷ us ≡ q ∷ vs → us ≡ vs
tail_is us vs p q e = cc

module _ (v : Parts) (t : IsTied v) (g : IsGrown v.tree.instances) where
  nobody : (c s : ℕ) → is_alive v.tree.instances c ≡ false → occupant v.tree.instances c s ≡ None
  nobody c s h = at (occupant v.tree.instances c s) refl
    where
      at : (o : Option ℕ) → occupant v.tree.instances c s ≡ o → o ≡ None
      at None e = refl
      at (Some d) e =
          let r = g.sitting c s d e in
          let a : is_alive v.tree.instances c ≡ true = g.rooted d (c, s) r.0 r.1 in
          let z : false ≡ true = sym h ∙ a in absurd (cc)

  lives_is : (o : Option Channel) → option_map_or (lives v.tree.instances) o false ≡ option_map_or (is_of_living (state_of v)) o false
  unfolding state_of
  lives_is None = refl
  lives_is (Some (Environment q)) = refl
  lives_is (Some (Own c k)) = refl

  receiver_by : (x : ℕ) (d : Dir) (b : Bool) (o : Option Waiting) (l : Option Link) → leads_out v.numbers x d ≡ b
      → option_map (λ (w : Waiting). w.aim) o ≡ option_map (aim_for v.numbers x d) l
      → option_map (λ q. q.receiver) (queue_in b o) ≡ (if b then None else option_map (receiver_of d) (option_map link_seen l))
  receiver_by x d true o l e h = refl
  receiver_by x d false o l e h = seen o ∙ h ∙ aims l
    where
      seen : (o : Option Waiting) → option_map (λ q. q.receiver) (option_map queue_seen o) ≡ option_map (λ (w : Waiting). w.aim) o
      seen None = refl
      seen (Some w) = refl

      aims : (l : Option Link) → option_map (aim_for v.numbers x d) l ≡ option_map (receiver_of d) (option_map link_seen l)
      aims None = refl
      aims (Some k) = ap (λ c. Some (if c then None else receiver_of d (link_seen k))) e

  pub holds_together : HoldsTogether v
  unfolding state_of
  holds_together = record {
    made = λ c h. omega (arith, alive_within v.tree.instances c h, length-map v.tree.instances node_seen);
    childless = nobody;
    occupant = λ c s d e.
        let r = g.sitting c s d e in
        let w = whole (line_of v.tree.instances d) (c, s) r.1 in
        (r.0, (w.0, sym (line_is v d) ∙ w.1));
    seated = λ c s d rest a e. g.seated d (c, s) a (head_is (line_of v.tree.instances d) rest (c, s) (line_is v d ∙ e));
    lines = λ c s d rest e.
        let f = head_is (line_of v.tree.instances d) rest (c, s) (line_is v d ∙ e) in
        (g.older d (c, s) f, tail_is rest (ancestry_at (state_of v) c) (c, s) (c, s) (sym e ∙ sym (line_is v d) ∙ g.lines d ∙ ap (line_under v.tree.instances) f ∙ ap (λ l. (c, s) ∷ l) (line_is v c)));
    bodies = t.bodies;
    controls = λ c. mapped row_seen (living_of v.rows c) ∙ row_living v.rows c ∙ t.rows c;
    links_living = λ x. mapped link_seen (link_of v.wires.links x) ∙ t.links x ∙ lives_is (channel_at v.numbers x);
    receivers = λ x d. receiver_by x d (leads_out v.numbers x d) (queue_of v.slots x d) (link_of v.wires.links x) refl (t.queues x d);
    numbered = t.numbered ∙ sym (length-map v.tree.instances node_seen);
  }
