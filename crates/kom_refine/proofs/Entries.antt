-- Whole entries: from the state of a record to that of the record with the entry.
use Rattle.std.proofs.Common.{◌≡◌, ℕ, sym, ap, ◌∙◌, List, [], ◌∷◌, ◌++◌, map, Option, Some}
use Rattle.std.specs.Option.{option_map_or}
use Rattle.std.proofs.lemmas.List.{append-nil}
use Rattle.kom_lang.specs.Declarations.{Declarations}
use Rattle.kom_lang.specs.declared.body.Body.{Body}
use Rattle.kom_lang.specs.declared.body.Effect.{Effect}
use Rattle.kom_record.specs.Model.{model}
use Rattle.kom_record.specs.declared.plan.Plan.{Plan}
use Rattle.kom_record.specs.declared.item.Control.{Control as ControlItem}
use Rattle.kom_record.specs.declared.item.Item.{Item}
use Rattle.kom_record.specs.declared.entry.Outcome.TheVariants as outcome
use Rattle.kom_record.specs.declared.entry.Release.{Release}
use Rattle.kom_record.specs.declared.entry.Entry.TheVariants.{Did, Moved}
use Rattle.kom_record.specs.Entries.{History, acts_of, acts_for, item_at}
use Rattle.kom_record.specs.Queues.{entering}
use Rattle.kom_record.specs.Controls.{putting, put_by_item, put_by_acts}
use Rattle.kom_record.specs.Bodies.{catches}
use Rattle.kom_record.specs.Legal.{IsLegal}
use Rattle.kom_refine.specs.States.{State}
use Rattle.kom_refine.specs.Points.{start_of, done_with, with_entry, with_effects, before_effects_of, StandsAt}
use Rattle.kom_refine.specs.Steps.{ArePut, HaveCome, IsEnded}
use Rattle.kom_refine.proofs.Ending.{ended_follows, did_sealed, moved_sealed}
use Rattle.kom_refine.proofs.Points.{same_point, put_effects, mine_effects, before_effects, ended_effects, came_effects}
use Rattle.kom_refine.proofs.Putting.{items_follow, numbers_follow}

module _ (S : Declarations) (Z : Plan) (P : History) where
  -- time moves: what is released comes into the channels
  pub moved_follows : (w t : ℕ) (rs : List Release) (m n : State) → IsLegal S Z (Moved w t rs ∷ P)
      → HaveCome (λ x d. map (λ q. q.no) (entering S P (Moved w t rs) x d)) m n → StandsAt S (start_of P) m → StandsAt S (start_of (Moved w t rs ∷ P)) n
  unfolding model
  moved_follows w t rs m n l r s =
      let f = numbers_follow S (start_of P) m n (entering S P (Moved w t rs)) r s in
      moved_sealed S Z P w t rs n l (record { nodes = f.nodes; living = f.living; child = f.child; links = f.links; queues = f.queues; controls = f.controls; bodies = f.bodies })

  -- a handling that faults: the nearest ancestor that catches it is told
  pub fault_follows : (w c took k : ℕ) (to : Option ℕ) (places : List ℕ) (m m' n : State) → IsLegal S Z (Did w c took (outcome.Fault k) to places ∷ P)
      → ArePut (putting S P (Did w c took (outcome.Fault k) to places)) m m' → IsEnded (catches S) c (outcome.Fault k) m' n
      → StandsAt S (start_of P) m → StandsAt S (start_of (Did w c took (outcome.Fault k) to places ∷ P)) n
  unfolding model
  fault_follows w c took k to places m m' n l put end s =
      let f = items_follow S (start_of P) m m' (putting S P (Did w c took (outcome.Fault k) to places)) put s in
      let g = ended_follows S _ m' n w c took (outcome.Fault k) to places end f in
      did_sealed S Z P w c took (outcome.Fault k) to places n l (record { nodes = g.nodes; living = g.living; child = g.child; links = g.links; queues = g.queues; controls = g.controls; bodies = g.bodies })

  mine_at_end : (w c took : ℕ) (item : Item) (body : Body) (effects : List Effect) (to : Option ℕ) (places : List ℕ) → item_at P took ≡ Some item
      → (with_effects S (before_effects_of S P w c took body effects to places) c item effects).mine ≡ acts_of P (Did w c took (outcome.Done body effects) to places)
  unfolding acts_of
  mine_at_end w c took item body effects to places at =
      mine_effects S (before_effects_of S P w c took body effects to places) c item effects ∙ append-nil (acts_for c (Some item) effects) ∙ ap (λ i. acts_for c i effects) (sym at)

  put_at_end : (w c took : ℕ) (item : Item) (body : Body) (effects : List Effect) (to : Option ℕ) (places : List ℕ) (d : ℕ) → item_at P took ≡ Some item
      → (with_effects S (before_effects_of S P w c took body effects to places) c item effects).put d ≡ putting S P (Did w c took (outcome.Done body effects) to places) d
  unfolding putting put_by_acts
  put_at_end w c took item body effects to places d at =
      let p = before_effects_of S P w c took body effects to places in
      let base : ℕ → List ControlItem = λ d. option_map_or (put_by_item S P d c body) (item_at P took) [] in
      put_effects S base p c item effects (λ d. sym (append-nil (base d))) d
      ∙ ap (λ B. base d ++ put_by_acts S B d (with_effects S p c item effects).mine) (before_effects S p c item effects)
      ∙ ap (λ a. base d ++ put_by_acts S P d a) (mine_at_end w c took item body effects to places at)

  -- a handling that ends, from the point after its effects
  pub done_at_end : (w c took : ℕ) (item : Item) (body : Body) (effects : List Effect) (to : Option ℕ) (places : List ℕ) (m n : State)
      → IsLegal S Z (Did w c took (outcome.Done body effects) to places ∷ P) → item_at P took ≡ Some item
      → IsEnded (catches S) c (outcome.Done body effects) m n
      → StandsAt S (with_effects S (before_effects_of S P w c took body effects to places) c item effects) m
      → StandsAt S (start_of (Did w c took (outcome.Done body effects) to places ∷ P)) n
  done_at_end w c took item body effects to places m n l at end s =
      let e = Did w c took (outcome.Done body effects) to places in
      let p = before_effects_of S P w c took body effects to places in
      let q = with_effects S p c item effects in
      let f = ended_follows S q m n w c took (outcome.Done body effects) to places end s in
      did_sealed S Z P w c took (outcome.Done body effects) to places n l
      (same_point S (with_entry q e) (done_with S P e) n (before_effects S p c item effects) (mine_at_end w c took item body effects to places at) (ap (λ r. e ∷ r) (ended_effects S p c item effects)) (λ d. put_at_end w c took item body effects to places d at) (λ x d. came_effects S p c item effects x d) f)
