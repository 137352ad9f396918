-- Hold, Resume, Plug and Unplug: one channel is changed, and the receivers of its queues with it.
use Rattle.std.proofs.Common.{◌≡◌, ℕ, Bool, true, false, refl, sym, ap, ◌∙◌, List, [], ◌∷◌, Option, Some, None, if◌then◌else◌}
use Rattle.std.specs.Option.{option_map, option_and_then}
use Rattle.std.proofs.lemmas.List.{append-nil}
use Rattle.kom_base.specs.declared.numbers.Dir.{Dir}
use Rattle.kom_base.specs.declared.numbers.EntryNo.{EntryNo}
use Rattle.kom_lang.specs.Declarations.{Declarations}
use Rattle.kom_lang.specs.declared.kind.Place.{Place}
use Rattle.kom_lang.specs.declared.body.Effect.{Effect}
use Rattle.kom_lang.specs.declared.body.Effect.TheVariants as effect
use Rattle.kom_record.specs.Model.{model}
use Rattle.kom_record.specs.declared.item.Item.{Item}
use Rattle.kom_record.specs.Entries.{History}
use Rattle.kom_record.specs.Channels.{half_of, goes_out}
use Rattle.kom_record.specs.Controls.{put_by_effect}
use Rattle.kom_laws.proofs.InstanceLaws.{does}
use Rattle.kom_refine.specs.States.{State, Link, Queue, ControlRow}
use Rattle.kom_refine.specs.Points.{Point, acts_at, with_act, StandsAt, link_at, numbers_at, controls_at, receiver_of}
use Rattle.kom_refine.specs.Steps.{names, IsRelinked, received_by, with_held, with_end, with_items}
use Rattle.kom_refine.proofs.Kept.{KeepsInstances, keeps, tree_kept, body_kept, controls_kept}
use Rattle.kom_refine.proofs.Channels.{link_hold, link_resume, link_plug, link_unplug}

abbrev pub queued : Bool → List EntryNo → Dir → Option Link → Option Queue
queued g ns d l = if g then None else option_map (λ k. record { numbers = ns; receiver = receiver_of d k }) l

-- the queue of a channel that is changed
queue_changed : (n g : Bool) (change : Link → Link) (ns : List EntryNo) (d : Dir) (l : Option Link)
    → (if n then option_and_then (received_by d (if n then option_map change l else l)) (queued g ns d l) else queued g ns d l) ≡ queued g ns d (if n then option_map change l else l)
queue_changed true true change ns d l = refl
queue_changed true false change ns d None = refl
queue_changed true false change ns d (Some k) = refl
queue_changed false g change ns d l = refl

module _ (S : Declarations) where
  -- nothing is put to a component
  row_same : (r : Option ControlRow) → option_map (with_items []) r ≡ r
  row_same None = refl
  row_same (Some r) = ap (λ i. Some (record { items = i; active = r.active; catches = r.catches })) (append-nil r.items)

  relinked : (p : Point) (m n : State) (c : ℕ) (item : Item) (e : Effect) (k : ℕ) (change : Link → Link)
      → KeepsInstances S (acts_at p) (does c item e)
      → ((P : History) (d : ℕ) → put_by_effect S P (acts_at p) d (does c item e) e ≡ [])
      → ((x : ℕ) → link_at S (does c item e ∷ acts_at p) x ≡ (if names S (acts_at p) c k x then option_map change (link_at S (acts_at p) x) else link_at S (acts_at p) x))
      → IsRelinked (names S (acts_at p) c k) change m n → StandsAt S p m → StandsAt S (with_act S p (does c item e)) n
  relinked p m n c item e k change keep none link r s =
      let t = tree_kept S p (does c item e) m n keep r.tree s in
      let links : (x : ℕ) → n.links x ≡ (if names S (acts_at p) c k x then option_map change (link_at S (acts_at p) x) else link_at S (acts_at p) x) =
      λ x. r.links x ∙ ap (λ l. if names S (acts_at p) c k x then option_map change l else l) (s.links x) in
      record {
        nodes = t.nodes;
        living = t.living;
        child = t.child;
        links = λ x. links x ∙ sym (link x);
        queues = λ x d.
            r.queues x d
            ∙ ap (λ l. if names S (acts_at p) c k x then option_and_then (received_by d l) (m.queues x d) else m.queues x d) (links x)
            ∙ ap (λ q. if names S (acts_at p) c k x then option_and_then (received_by d (if names S (acts_at p) c k x then option_map change (link_at S (acts_at p) x) else link_at S (acts_at p) x)) q else q) (s.queues x d)
            ∙ queue_changed (names S (acts_at p) c k x) (goes_out S x d) change (numbers_at S p x d) d (link_at S (acts_at p) x)
            ∙ ap (queued (goes_out S x d) (numbers_at S p x d) d) (sym (link x));
        controls = λ d.
            r.controls d ∙ s.controls d ∙ sym (row_same (controls_at S p d))
            ∙ ap (λ i. option_map (with_items i) (controls_at S p d)) (sym (none p.before d))
            ∙ controls_kept S p (does c item e) d keep;
        bodies = λ d. r.bodies d ∙ s.bodies d ∙ sym (body_kept S p (does c item e) d keep);
      }

  pub hold_follows : (p : Point) (m n : State) (c : ℕ) (item : Item) (k : ℕ)
      → IsRelinked (names S (acts_at p) c k) (with_held true) m n → StandsAt S p m → StandsAt S (with_act S p (does c item (effect.Hold k))) n
  unfolding model
  hold_follows p m n c item k r s = relinked p m n c item (effect.Hold k) k (with_held true) (keeps S (acts_at p) c item (effect.Hold k) refl refl) (λ P d. refl) (link_hold S (acts_at p) c item k) r s

  pub resume_follows : (p : Point) (m n : State) (c : ℕ) (item : Item) (k : ℕ)
      → IsRelinked (names S (acts_at p) c k) (with_held false) m n → StandsAt S p m → StandsAt S (with_act S p (does c item (effect.Resume k))) n
  unfolding model
  resume_follows p m n c item k r s = relinked p m n c item (effect.Resume k) k (with_held false) (keeps S (acts_at p) c item (effect.Resume k) refl refl) (λ P d. refl) (link_resume S (acts_at p) c item k) r s

  pub plug_follows : (p : Point) (m n : State) (c : ℕ) (item : Item) (k : ℕ) (f : Dir) (q : Place)
      → IsRelinked (names S (acts_at p) c k) (with_end f (half_of S (acts_at p) c q)) m n → StandsAt S p m → StandsAt S (with_act S p (does c item (effect.Plug k f q))) n
  unfolding model
  plug_follows p m n c item k f q r s = relinked p m n c item (effect.Plug k f q) k (with_end f (half_of S (acts_at p) c q)) (keeps S (acts_at p) c item (effect.Plug k f q) refl refl) (λ P d. refl) (link_plug S (acts_at p) c item k f q) r s

  pub unplug_follows : (p : Point) (m n : State) (c : ℕ) (item : Item) (k : ℕ) (f : Dir)
      → IsRelinked (names S (acts_at p) c k) (with_end f None) m n → StandsAt S p m → StandsAt S (with_act S p (does c item (effect.Unplug k f))) n
  unfolding model
  unplug_follows p m n c item k f r s = relinked p m n c item (effect.Unplug k f) k (with_end f None) (keeps S (acts_at p) c item (effect.Unplug k f) refl refl) (λ P d. refl) (link_unplug S (acts_at p) c item k f) r s
