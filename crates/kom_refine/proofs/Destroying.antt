-- A Destroy: what is in the slot ends, with all below it and with their channels.
use Rattle.std.proofs.Common.{◌≡◌, ℕ, zero, suc, Bool, true, false, not, ◌&&◌, ◌==◌, refl, sym, ap, ◌∙◌, List, [], ◌∷◌, ◌++◌, map, Option, None, if◌then◌else◌}
use Rattle.std.specs.Prelude.{slice_get}
use Rattle.std.specs.List.{list_any}
use Rattle.std.specs.Option.{option_map, option_map_or}
use Rattle.std.proofs.lemmas.List.{append-nil}
use Rattle.kom_base.specs.declared.numbers.Dir.{Dir}
use Rattle.kom_base.specs.declared.numbers.Dir.TheVariants.{Plus, Minus}
use Rattle.kom_base.specs.declared.numbers.Half.{Half}
use Rattle.kom_base.specs.declared.numbers.EntryNo.{EntryNo}
use Rattle.kom_lang.specs.Declarations.{Declarations}
use Rattle.kom_lang.specs.declared.body.Body.{Body}
use Rattle.kom_lang.specs.declared.body.Effect.TheVariants as effect
use Rattle.kom_record.specs.Model.{model}
use Rattle.kom_record.specs.declared.item.Control.{Control as ControlItem}
use Rattle.kom_record.specs.declared.item.Item.{Item}
use Rattle.kom_record.specs.Entries.{Act}
use Rattle.kom_record.specs.Instances.{Instance, born, alive, ancestry_of}
use Rattle.kom_record.specs.Channels.{place, held, is_living, goes_out}
use Rattle.kom_record.specs.Controls.{control_waiting}
use Rattle.kom_record.specs.Bodies.{catches}
use Rattle.kom_laws.proofs.InstanceLaws.{does}
use Rattle.kom_laws.proofs.ChannelSteps.{living_destroy}
use Rattle.kom_refine.specs.States.{State, Link, ControlRow}
use Rattle.kom_refine.specs.Points.{Point, acts_at, with_act, StandsAt, node_of, link_at, numbers_at, living_body, body_of}
use Rattle.kom_refine.specs.Steps.{dies, IsRemoved, is_below}
use Rattle.kom_refine.proofs.Channels.{link_by, link_of_parts, place_kept, held_kept}
use Rattle.kom_refine.proofs.Relinking.{queued}

module _ (S : Declarations) where
  link_dead : (l dead h : Bool) (p m : Option Half) → link_by (l && not dead) p m h ≡ (if dead then None else link_by l p m h)
  link_dead true true h p m = refl
  link_dead true false h p m = refl
  link_dead false true h p m = refl
  link_dead false false h p m = refl

  link_destroyed : (done : List Act) (c : ℕ) (item : Item) (slot x : ℕ) → link_at S (does c item (effect.Destroy slot) ∷ done) x ≡ (if dies S done c slot x then None else link_at S done x)
  unfolding model
  link_destroyed done c item slot x =
      link_of_parts _ _ _ _ _ _ _ _ (living_destroy S done c item slot x)
      (place_kept S done (does c item (effect.Destroy slot)) refl x Plus refl) (place_kept S done (does c item (effect.Destroy slot)) refl x Minus refl)
      (held_kept S done (does c item (effect.Destroy slot)) refl x refl)
      ∙ link_dead (is_living S done x) (dies S done c slot x) (held S done x) (place S done x Plus) (place S done x Minus)

  queue_dead : (g dead : Bool) (ns : List EntryNo) (d : Dir) (l : Option Link) → (if dead then None else queued g ns d l) ≡ queued g ns d (if dead then None else l)
  queue_dead true true ns d l = refl
  queue_dead true false ns d l = refl
  queue_dead false true ns d l = refl
  queue_dead false false ns d l = refl

  below_at : (is : List Instance) (c slot d : ℕ)
      → option_map_or (λ node. list_any (λ q. c == q.0 && slot == q.1) node.ancestry) (slice_get (map node_of is) d) false
      ≡ list_any (λ q. c == q.0 && slot == q.1) (option_map_or (λ i. i.ancestry) (slice_get is d) [])
  below_at [] c slot d = refl
  below_at (i ∷ is) c slot zero = refl
  below_at (i ∷ is) c slot (suc d) = below_at is c slot d

  below_is : (p : Point) (m : State) (c slot d : ℕ) → StandsAt S p m → is_below m c slot d ≡ list_any (λ q. c == q.0 && slot == q.1) (ancestry_of S (born S (acts_at p)) d)
  unfolding ancestry_of
  below_is p m c slot d s =
      ap (λ ns. option_map_or (λ node. list_any (λ q. c == q.0 && slot == q.1) node.ancestry) (slice_get ns d) false) s.nodes ∙ below_at (born S (acts_at p)) c slot d

  body_dead : (l dead : Bool) (b : Option Body) → (if dead then None else (if l then b else None)) ≡ (if l && not dead then b else None)
  body_dead true true b = refl
  body_dead true false b = refl
  body_dead false true b = refl
  body_dead false false b = refl

  abbrev row_of : List ControlItem → Option Body → Option ControlRow
  row_of items b = option_map (λ b. record { items = items; active = b.active; catches = catches S b }) b

  row_dead : (dead : Bool) (items : List ControlItem) (b : Option Body) → (if dead then None else row_of items b) ≡ row_of items (if dead then None else b)
  row_dead true items b = refl
  row_dead false items b = refl

  pub destroy_follows : (p : Point) (m n : State) (c : ℕ) (item : Item) (slot : ℕ)
      → IsRemoved (dies S (acts_at p) c slot) c slot m n → StandsAt S p m → StandsAt S (with_act S p (does c item (effect.Destroy slot))) n
  unfolding model
  destroy_follows p m n c item slot r s =
      let below : (d : ℕ) → is_below m c slot d ≡ list_any (λ q. c == q.0 && slot == q.1) (ancestry_of S (born S (acts_at p)) d) = λ d. below_is p m c slot d s in
      let living : (d : ℕ) → n.living d ≡ alive S (does c item (effect.Destroy slot) ∷ acts_at p) d =
      λ d. r.living d ∙ ap (λ l. l && not (is_below m c slot d)) (s.living d) ∙ ap (λ b. alive S (acts_at p) d && not b) (below d) in
      let body : (d : ℕ) → (if is_below m c slot d then None else living_body S p d) ≡ living_body S (with_act S p (does c item (effect.Destroy slot))) d =
      λ d. ap (λ b. if b then None else living_body S p d) (below d) ∙ body_dead (alive S (acts_at p) d) _ (body_of S p d) in
      record {
        nodes = r.nodes ∙ s.nodes;
        living = living;
        child = λ d q l.
            r.child d q (living d ∙ l)
            ∙ ap (λ o. if c == d && slot == q then None else o) (s.child d q (and_left _ _ l));
        links = λ x. r.links x ∙ ap (λ l. if dies S (acts_at p) c slot x then None else l) (s.links x) ∙ sym (link_destroyed (acts_at p) c item slot x);
        queues = λ x d.
            r.queues x d
            ∙ ap (λ q. if dies S (acts_at p) c slot x then None else q) (s.queues x d)
            ∙ queue_dead (goes_out S x d) (dies S (acts_at p) c slot x) (numbers_at S p x d) d (link_at S (acts_at p) x)
            ∙ ap (queued (goes_out S x d) (numbers_at S p x d) d) (sym (link_destroyed (acts_at p) c item slot x));
        controls = λ d.
            r.controls d
            ∙ ap (λ k. if is_below m c slot d then None else k) (s.controls d)
            ∙ row_dead (is_below m c slot d) (control_waiting S p.before d ++ p.put d) (living_body S p d)
            ∙ ap (row_of (control_waiting S p.before d ++ p.put d)) (body d)
            ∙ ap (λ i. row_of i (living_body S (with_act S p (does c item (effect.Destroy slot))) d)) (ap (λ i. control_waiting S p.before d ++ i) (sym (append-nil (p.put d))));
        bodies = λ d. r.bodies d ∙ ap (λ b. if is_below m c slot d then None else b) (s.bodies d) ∙ body d;
      }
    where
      and_left : (a b : Bool) → (a && b) ≡ true → a ≡ true
      and_left true b e = refl
      and_left false b e = absurd cc
