-- What an effect that creates and destroys nothing leaves as it was.
use Rattle.std.proofs.Common.{◌≡◌, ℕ, ◌+◌, Bool, true, false, refl, sym, ap, ◌∙◌, List, ◌∷◌, ◌++◌, length, map, Option, Some, None, if◌then◌else◌}
use Rattle.std.specs.Prelude.{slice_get}
use Rattle.std.specs.List.{filter_map}
use Rattle.std.specs.Option.{option_map}
use Rattle.std.proofs.lemmas.List.{append_assoc}
use Rattle.kom_lang.specs.Declarations.{Declarations}
use Rattle.kom_lang.specs.Bodies.{first_body}
use Rattle.kom_lang.specs.declared.body.Body.{Body}
use Rattle.kom_lang.specs.declared.body.Effect.{Effect}
use Rattle.kom_lang.specs.declared.body.Effect.TheVariants as effect
use Rattle.kom_record.specs.Model.{model}
use Rattle.kom_record.specs.declared.item.Item.{Item}
use Rattle.kom_record.specs.declared.item.Control.{Control as ControlItem}
use Rattle.kom_record.specs.Entries.{Act}
use Rattle.kom_record.specs.Instances.{Instance, born, alive, occupant}
use Rattle.kom_record.specs.Controls.{control_waiting, put_by_effect}
use Rattle.kom_record.specs.Bodies.{body_after_all, outcome_of, catches}
use Rattle.kom_laws.proofs.InstanceLaws.{is_create, is_destroy, does}
use Rattle.kom_refine.specs.States.{State, ControlRow}
use Rattle.kom_refine.specs.Steps.{SameTree, with_items}
use Rattle.kom_refine.specs.Points.{Point, acts_at, with_act, StandsAt, living_body, controls_at, node_of}

module _ (S : Declarations) where
  -- the act creates and destroys nothing
  pub record KeepsInstances (done : List Act) (a : Act) : Type 0 where
    pub born_same : born S (a ∷ done) ≡ born S done
    pub alive_same : (c : ℕ) → alive S (a ∷ done) c ≡ alive S done c
    pub occupant_same : (c s : ℕ) → occupant S (a ∷ done) c s ≡ occupant S done c s

  pub keeps : (done : List Act) (c : ℕ) (item : Item) (e : Effect) → is_create e ≡ false → is_destroy e ≡ false → KeepsInstances done (does c item e)
  unfolding model
  keeps done c item (effect.Create slot kind birth) h k = absurd cc
  keeps done c item (effect.Destroy s) h k = absurd cc
  keeps done c item (effect.Trigger p e) h k = record { born_same = refl; alive_same = λ d. refl; occupant_same = λ d s. refl }
  keeps done c item (effect.Answer e) h k = record { born_same = refl; alive_same = λ d. refl; occupant_same = λ d s. refl }
  keeps done c item (effect.Start s) h k = record { born_same = refl; alive_same = λ d. refl; occupant_same = λ d s. refl }
  keeps done c item (effect.Stop s) h k = record { born_same = refl; alive_same = λ d. refl; occupant_same = λ d s. refl }
  keeps done c item (effect.Dump s) h k = record { born_same = refl; alive_same = λ d. refl; occupant_same = λ d s. refl }
  keeps done c item (effect.Hold j) h k = record { born_same = refl; alive_same = λ d. refl; occupant_same = λ d s. refl }
  keeps done c item (effect.Resume j) h k = record { born_same = refl; alive_same = λ d. refl; occupant_same = λ d s. refl }
  keeps done c item (effect.Unplug j f) h k = record { born_same = refl; alive_same = λ d. refl; occupant_same = λ d s. refl }
  keeps done c item (effect.Plug j f p) h k = record { born_same = refl; alive_same = λ d. refl; occupant_same = λ d s. refl }
  keeps done c item effect.Escalate h k = record { born_same = refl; alive_same = λ d. refl; occupant_same = λ d s. refl }

  -- a body by the parts that it depends on
  abbrev body_by : Point → ℕ → List Instance → Bool → Option Body
  body_by p c is l = if l then option_map (λ i. body_after_all (first_body S i.kind i.birth (1 + length i.ancestry)) (filter_map (outcome_of c) (p.ended ++ p.before))) (slice_get is c) else None

  pub body_kept : (p : Point) (a : Act) (c : ℕ) → KeepsInstances (acts_at p) a → living_body S (with_act S p a) c ≡ living_body S p c
  body_kept p a c k = ap (λ is. body_by p c is (alive S (a ∷ acts_at p) c)) k.born_same ∙ ap (body_by p c (born S (acts_at p))) (k.alive_same c)

  -- the control rows, with what the act puts to each component
  pub row_more : (u v w : List ControlItem) (o : Option Body)
      → option_map (with_items w) (option_map {U = ControlRow} (λ b. record { items = u ++ v; active = b.active; catches = catches S b }) o)
      ≡ option_map {U = ControlRow} (λ b. record { items = u ++ (v ++ w); active = b.active; catches = catches S b }) o
  row_more u v w None = refl
  row_more u v w (Some b) = ap (λ i. Some (record { items = i; active = b.active; catches = catches S b })) (append_assoc u v w)

  pub controls_kept : (p : Point) (a : Act) (c : ℕ) → KeepsInstances (acts_at p) a
      → option_map (with_items (put_by_effect S p.before (acts_at p) c a a.effect)) (controls_at S p c) ≡ controls_at S (with_act S p a) c
  controls_kept p a c k =
      row_more (control_waiting S p.before c) (p.put c) (put_by_effect S p.before (acts_at p) c a a.effect) (living_body S p c)
      ∙ ap (option_map {U = ControlRow} (λ b. record { items = control_waiting S p.before c ++ (p.put c ++ put_by_effect S p.before (acts_at p) c a a.effect); active = b.active; catches = catches S b })) (sym (body_kept p a c k))

  -- the instances of the state
  pub record StandsForTree (p : Point) (m : State) : Type 0 where
    pub nodes : m.nodes ≡ map node_of (born S (acts_at p))
    pub living : (c : ℕ) → m.living c ≡ alive S (acts_at p) c
    pub child : (c s : ℕ) → alive S (acts_at p) c ≡ true → m.child c s ≡ occupant S (acts_at p) c s

  pub tree_kept : (p : Point) (a : Act) (m n : State) → KeepsInstances (acts_at p) a → SameTree m n → StandsAt S p m → StandsForTree (with_act S p a) n
  tree_kept p a m n k t s = record {
    nodes = t.nodes ∙ s.nodes ∙ ap (map node_of) (sym k.born_same);
    living = λ c. t.living c ∙ s.living c ∙ sym (k.alive_same c);
    child = λ c q l. t.child c q ∙ s.child c q (sym (k.alive_same c) ∙ l) ∙ sym (k.occupant_same c q);
  }
