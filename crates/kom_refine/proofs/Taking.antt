-- A Took: the item leaves the queue in which it was the first.
use Rattle.std.proofs.Common.{◌≡◌, ℕ, Bool, true, false, ◌&&◌, ◌==◌, refl, sym, ap, ◌∙◌, subst, List, [], ◌∷◌, ◌++◌, map, Option, Some, None, if◌then◌else◌}
use Rattle.std.specs.Option.{option_map}
use Rattle.std.proofs.lemmas.Bool.{eqb-true}
use Rattle.kom_base.specs.declared.numbers.Dir.{Dir}
use Rattle.kom_base.specs.Numbers.{same_dir}
use Rattle.kom_base.specs.Lists.{if_so}
use Rattle.kom_lang.specs.Declarations.{Declarations}
use Rattle.kom_lang.specs.declared.body.Body.{Body}
use Rattle.kom_record.specs.Model.{model}
use Rattle.kom_record.specs.declared.plan.Plan.{Plan}
use Rattle.kom_record.specs.declared.item.Control.{Control as ControlItem}
use Rattle.kom_record.specs.declared.item.Item.{Item}
use Rattle.kom_record.specs.declared.item.Item.TheVariants.{Control, Arrival}
use Rattle.kom_record.specs.declared.entry.Entry.TheVariants.{Took}
use Rattle.kom_record.specs.Entries.{History, acts}
use Rattle.kom_record.specs.Channels.{goes_out}
use Rattle.kom_record.specs.Queues.{Envelope, waiting, taken}
use Rattle.kom_record.specs.Controls.{control_waiting}
use Rattle.kom_record.specs.Bodies.{catches}
use Rattle.kom_record.specs.Ready.{next}
use Rattle.kom_record.specs.Legal.{IsLegal}
use Rattle.kom_laws.proofs.ControlLaws.{control_took_own, control_same, control_first}
use Rattle.kom_laws.proofs.QueueLaws.{waiting_took}
use Rattle.kom_refine.specs.States.{State, Link, ControlRow}
use Rattle.kom_refine.specs.Points.{start_of, StandsAt, queue_at, link_at, controls_at, living_body}
use Rattle.kom_refine.specs.Steps.{IsTaken, comes_by, is_control, without_first, without_item}
use Rattle.kom_refine.proofs.Relinking.{queued}

abbrev numbers : List Envelope → List Rattle.kom_base.specs.declared.numbers.EntryNo.EntryNo
numbers w = map (λ q. q.no) w

one_less : (b g : Bool) (d : Dir) (l : Option Link) (p : Envelope) (v w : List Envelope) → (g ≡ false → v ≡ (if b then p ∷ [] else []) ++ w)
    → (if b then option_map without_first (queued g (numbers (v ++ [])) d l) else queued g (numbers (v ++ [])) d l) ≡ queued g (numbers (w ++ [])) d l
one_less true true d l p v w h = refl
one_less true false d None p v w h = refl
one_less true false d (Some l) p v w h = ap (λ u. option_map without_first (queued false (numbers (u ++ [])) d (Some l))) (h refl)
one_less false true d l p v w h = refl
one_less false false d l p v w h = ap (λ u. queued false (numbers (u ++ [])) d l) (h refl)

no_control : (b : Bool) → if_so {A = ControlItem} b [] ≡ []
no_control true = refl
no_control false = refl

module _ (S : Declarations) (P : History) (w c : ℕ) where
  abbrev row : List ControlItem → Option Body → Option ControlRow
  row items b = option_map (λ b. record { items = items ++ []; active = b.active; catches = catches S b }) b

  less_row : (b : Option Body) (k : ControlItem) (u v : List ControlItem) → u ≡ k ∷ v → option_map without_item (row u b) ≡ row v b
  less_row None k u v e = refl
  less_row (Some b) k u v e = ap (λ z. option_map without_item (row z (Some b))) e

  queue_after : (item : Item) (x : ℕ) (d : Dir) → (goes_out S x d ≡ false → waiting S P x d ≡ taken S (Took w c item) x d ++ waiting S (Took w c item ∷ P) x d)
      → (if comes_by item x d then option_map without_first (queue_at S (start_of P) x d) else queue_at S (start_of P) x d) ≡ queue_at S (start_of (Took w c item ∷ P)) x d
  unfolding model
  queue_after (Control k) x d h = same (goes_out S x d) h
    where
      same : (g : Bool) → (g ≡ false → waiting S P x d ≡ waiting S (Took w c (Control k) ∷ P) x d)
          → queued g (numbers (waiting S P x d ++ [])) d (link_at S (acts P) x) ≡ queued g (numbers (waiting S (Took w c (Control k) ∷ P) x d ++ [])) d (link_at S (acts P) x)
      same true f = refl
      same false f = ap (λ u. queued false (numbers (u ++ [])) d (link_at S (acts P) x)) (f refl)
  queue_after (Arrival y e n port side event back) x d h =
      one_less (y == x && same_dir e d) (goes_out S x d) d (link_at S (acts P) x) (record { no = n; event = event; back = back }) (waiting S P x d) (waiting S (Took w c (Arrival y e n port side event back) ∷ P) x d) h

  row_after : (item : Item) (d : ℕ) → next S P c ≡ Some item
      → (if is_control item && c == d then option_map without_item (controls_at S (start_of P) d) else controls_at S (start_of P) d) ≡ controls_at S (start_of (Took w c item ∷ P)) d
  unfolding model
  row_after (Control k) d n = go (c == d) refl
    where
      go : (b : Bool) → (c == d) ≡ b
          → (if b then option_map without_item (row (control_waiting S P d) (living_body S (start_of P) d)) else row (control_waiting S P d) (living_body S (start_of P) d))
          ≡ row (control_waiting S (Took w c (Control k) ∷ P) d) (living_body S (start_of P) d)
      go true e = less_row (living_body S (start_of P) d) k _ _ (subst (λ z. control_waiting S P z ≡ k ∷ control_waiting S (Took w c (Control k) ∷ P) z) (eqb-true c d e) (control_took_own S P w c k (control_first S P c k n)))
      go false e = ap (λ u. row u (living_body S (start_of P) d)) (sym (control_same S P (Took w c (Control k)) d (ap (λ b. if_so b (k ∷ [])) e) refl))
  row_after (Arrival y e m port side event back) d n =
      ap (λ u. row u (living_body S (start_of P) d)) (sym (control_same S P (Took w c (Arrival y e m port side event back)) d (no_control (c == d)) refl))

module _ (S : Declarations) where
  pub took_follows : (Z : Plan) (P : History) (w c : ℕ) (item : Item) (m n : State) → IsLegal S Z (Took w c item ∷ P)
      → IsTaken c item m n → StandsAt S (start_of P) m → StandsAt S (start_of (Took w c item ∷ P)) n
  unfolding model
  took_follows Z P w c item m n l r s = record {
    nodes = r.tree.nodes ∙ s.nodes;
    living = λ d. r.tree.living d ∙ s.living d;
    child = λ d q k. r.tree.child d q ∙ s.child d q k;
    links = λ x. r.links x ∙ s.links x;
    queues = λ x d. r.queues x d ∙ ap (λ q. if comes_by item x d then option_map without_first q else q) (s.queues x d)
        ∙ queue_after S P w c item x d (λ h. waiting_took S x d Z P w c item h l);
    controls = λ d. r.controls d ∙ ap (λ k. if is_control item && c == d then option_map without_item k else k) (s.controls d) ∙ row_after S P w c item d l.1.next;
    bodies = λ d. r.bodies d ∙ s.bodies d;
  }
