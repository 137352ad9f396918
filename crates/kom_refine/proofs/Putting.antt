-- What is put to components and what comes into channels.
use Rattle.std.proofs.Common.{◌≡◌, ℕ, Bool, true, false, refl, sym, ap, ◌∙◌, List, ◌++◌, map, Option, Some, None}
use Rattle.std.specs.Option.{option_map}
use Rattle.std.proofs.lemmas.List.{append_assoc, map-append}
use Rattle.kom_base.specs.declared.numbers.Dir.{Dir}
use Rattle.kom_lang.specs.Declarations.{Declarations}
use Rattle.kom_record.specs.declared.item.Control.{Control as ControlItem}
use Rattle.kom_record.specs.Entries.{Act}
use Rattle.kom_record.specs.Channels.{goes_out}
use Rattle.kom_record.specs.Queues.{Envelope, waiting}
use Rattle.kom_record.specs.Controls.{control_waiting, put_by_effect}
use Rattle.kom_laws.proofs.ChannelLaws.{moves_ends}
use Rattle.kom_refine.specs.States.{State, Link, Queue}
use Rattle.kom_refine.specs.Points.{Point, acts_at, with_act, with_put, with_came, StandsAt, link_at, numbers_at, living_body, receiver_of}
use Rattle.kom_refine.specs.Steps.{ArePut, HaveCome, with_items, with_numbers}
use Rattle.kom_refine.proofs.Kept.{KeepsInstances, tree_kept, body_kept, controls_kept, row_more}
use Rattle.kom_refine.proofs.Channels.{moves_holds, link_kept}
use Rattle.kom_refine.proofs.Relinking.{queued}

module _ (S : Declarations) where
  -- an effect that changes no instance and no channel
  pub put_follows : (p : Point) (m n : State) (a : Act) → KeepsInstances S (acts_at p) a → moves_ends S a.effect ≡ false → moves_holds a.effect ≡ false
      → ArePut (λ c. put_by_effect S p.before (acts_at p) c a a.effect) m n → StandsAt S p m → StandsAt S (with_act S p a) n
  put_follows p m n a keep e h r s =
      let t = tree_kept S p a m n keep r.tree s in
      record {
        nodes = t.nodes;
        living = t.living;
        child = t.child;
        links = λ x. r.links x ∙ s.links x ∙ sym (link_kept S (acts_at p) a x keep e h);
        queues = λ x d. r.queues x d ∙ s.queues x d ∙ ap (queued (goes_out S x d) (numbers_at S p x d) d) (sym (link_kept S (acts_at p) a x keep e h));
        controls = λ c. r.controls c ∙ ap (option_map (with_items (put_by_effect S p.before (acts_at p) c a a.effect))) (s.controls c) ∙ controls_kept S p a c keep;
        bodies = λ c. r.bodies c ∙ s.bodies c ∙ sym (body_kept S p a c keep);
      }

  -- control items that no effect puts
  pub items_follow : (p : Point) (m n : State) (more : ℕ → List ControlItem) → ArePut more m n → StandsAt S p m → StandsAt S (with_put p more) n
  items_follow p m n more r s = record {
    nodes = r.tree.nodes ∙ s.nodes;
    living = λ c. r.tree.living c ∙ s.living c;
    child = λ c q l. r.tree.child c q ∙ s.child c q l;
    links = λ x. r.links x ∙ s.links x;
    queues = λ x d. r.queues x d ∙ s.queues x d;
    controls = λ c. r.controls c ∙ ap (option_map (with_items (more c))) (s.controls c) ∙ row_more S (control_waiting S p.before c) (p.put c) (more c) (living_body S p c);
    bodies = λ c. r.bodies c ∙ s.bodies c;
  }

  queue_more : (g : Bool) (d : Dir) (us vs ws : List Envelope) (l : Option Link)
      → option_map (with_numbers (map (λ q. q.no) ws)) (queued g (map (λ q. q.no) (us ++ vs)) d l) ≡ queued g (map (λ q. q.no) (us ++ (vs ++ ws))) d l
  queue_more true d us vs ws l = refl
  queue_more false d us vs ws None = refl
  queue_more false d us vs ws (Some l) =
      ap {B = Option Queue} (λ ns. Some (record { numbers = ns; receiver = receiver_of d l })) (sym (map-append (λ q. q.no) (us ++ vs) ws) ∙ ap (map (λ q. q.no)) (append_assoc us vs ws))

  -- what comes into the channels
  pub numbers_follow : (p : Point) (m n : State) (more : ℕ → Dir → List Envelope) → HaveCome (λ x d. map (λ q. q.no) (more x d)) m n → StandsAt S p m → StandsAt S (with_came p more) n
  numbers_follow p m n more r s = record {
    nodes = r.tree.nodes ∙ s.nodes;
    living = λ c. r.tree.living c ∙ s.living c;
    child = λ c q l. r.tree.child c q ∙ s.child c q l;
    links = λ x. r.links x ∙ s.links x;
    queues = λ x d.
        r.queues x d ∙ ap (option_map (with_numbers (map (λ q. q.no) (more x d)))) (s.queues x d)
        ∙ queue_more (goes_out S x d) d (waiting S p.before x d) (p.came x d) (more x d) (link_at S (acts_at p) x);
    controls = λ c. r.controls c ∙ s.controls c;
    bodies = λ c. r.bodies c ∙ s.bodies c;
  }
