-- Points that are the same, and the point after the effects of a handling.
use Rattle.std.proofs.Common.{◌≡◌, ℕ, refl, sym, ap, ◌∙◌, subst, List, [], ◌∷◌, ◌++◌, map, Some}
use Rattle.std.specs.Prelude.{reverse}
use Rattle.std.proofs.lemmas.List.{append_assoc, reverse-append}
use Rattle.kom_base.specs.declared.numbers.Dir.{Dir}
use Rattle.kom_lang.specs.Declarations.{Declarations}
use Rattle.kom_lang.specs.declared.body.Effect.{Effect}
use Rattle.kom_record.specs.Model.{model}
use Rattle.kom_record.specs.declared.item.Control.{Control as ControlItem}
use Rattle.kom_record.specs.declared.item.Item.{Item}
use Rattle.kom_record.specs.declared.entry.Entry.{Entry}
use Rattle.kom_record.specs.Entries.{History, Act, acts, acts_for}
use Rattle.kom_record.specs.Channels.{goes_out}
use Rattle.kom_record.specs.Queues.{Envelope, waiting}
use Rattle.kom_record.specs.Controls.{control_waiting, put_by_acts, put_by_effect}
use Rattle.kom_record.specs.Bodies.{catches}
use Rattle.kom_laws.proofs.InstanceLaws.{does}
use Rattle.kom_refine.specs.States.{State, ControlRow}
use Rattle.kom_refine.specs.Points.{Point, acts_at, with_act, with_effects, StandsAt, link_at, living_body}
use Rattle.kom_refine.proofs.Relinking.{queued}

module _ (S : Declarations) where
  abbrev point : History → List Act → (ℕ → List ControlItem) → (ℕ → Dir → List Envelope) → List Entry → Point
  point P mine put came ended = record { before = P; mine = mine; put = put; came = came; ended = ended }

  -- what a state stands for depends on what was put and came, and not on how that is written
  pub same_parts : (P : History) (mine : List Act) (f g : ℕ → List ControlItem) (u v : ℕ → Dir → List Envelope) (ended : List Entry) (m : State)
      → ((c : ℕ) → f c ≡ g c) → ((x : ℕ) (d : Dir) → u x d ≡ v x d) → StandsAt S (point P mine f u ended) m → StandsAt S (point P mine g v ended) m
  same_parts P mine f g u v ended m h k s = record {
    nodes = s.nodes;
    living = s.living;
    child = s.child;
    links = s.links;
    bodies = s.bodies;
    queues = λ x d. s.queues x d ∙ ap (λ w. queued (goes_out S x d) (map (λ q. q.no) (waiting S P x d ++ w)) d (link_at S (mine ++ acts P) x)) (k x d);
    controls = λ c. s.controls c
        ∙ ap (λ w. Rattle.std.specs.Option.option_map {U = ControlRow} (λ b. record { items = control_waiting S P c ++ w; active = b.active; catches = catches S b }) (living_body S (point P mine f u ended) c)) (h c);
  }

  pub same_point : (p q : Point) (m : State) → p.before ≡ q.before → p.mine ≡ q.mine → p.ended ≡ q.ended
      → ((c : ℕ) → p.put c ≡ q.put c) → ((x : ℕ) (d : Dir) → p.came x d ≡ q.came x d) → StandsAt S p m → StandsAt S q m
  same_point p q m b a e h k s =
      let r = subst (λ P. StandsAt S (point P p.mine p.put p.came p.ended) m) b s in
      let t = subst (λ mine. StandsAt S (point q.before mine p.put p.came p.ended) m) a r in
      let u = subst (λ ended. StandsAt S (point q.before q.mine p.put p.came ended) m) e t in
      same_parts q.before q.mine p.put q.put p.came q.came q.ended m h k u

  -- what was put is some base, and then what the effects so far put
  abbrev pub IsPut : (ℕ → List ControlItem) → Point → Type 0
  IsPut base p = (c : ℕ) → p.put c ≡ base c ++ put_by_acts S p.before c p.mine

  put_act : (base : ℕ → List ControlItem) (p : Point) (a : Act) → IsPut base p → IsPut base (with_act S p a)
  unfolding model
  put_act base p a h c =
      let more = put_by_effect S p.before (acts_at p) c a a.effect in
      ap (λ w. w ++ more) (h c) ∙ append_assoc (base c) (put_by_acts S p.before c p.mine) more

  pub put_effects : (base : ℕ → List ControlItem) (p : Point) (c : ℕ) (item : Item) (es : List Effect) → IsPut base p → IsPut base (with_effects S p c item es)
  put_effects base p c item [] h = h
  put_effects base p c item (e ∷ es) h = put_effects base (with_act S p (does c item e)) c item es (put_act base p (does c item e) h)

  abbrev act_of : ℕ → Item → Effect → Act
  act_of c item e = record { by = c; item = item; effect = e }

  pub mine_effects : (p : Point) (c : ℕ) (item : Item) (es : List Effect) → (with_effects S p c item es).mine ≡ acts_for c (Some item) es ++ p.mine
  mine_effects p c item [] = refl
  mine_effects p c item (e ∷ es) =
      mine_effects (with_act S p (does c item e)) c item es
      ∙ sym (append_assoc (reverse (map (act_of c item) es)) (act_of c item e ∷ []) p.mine)
      ∙ ap (λ r. r ++ p.mine) (sym (reverse-append (act_of c item e ∷ []) (map (act_of c item) es)))

  pub before_effects : (p : Point) (c : ℕ) (item : Item) (es : List Effect) → (with_effects S p c item es).before ≡ p.before
  before_effects p c item [] = refl
  before_effects p c item (e ∷ es) = before_effects (with_act S p (does c item e)) c item es

  pub ended_effects : (p : Point) (c : ℕ) (item : Item) (es : List Effect) → (with_effects S p c item es).ended ≡ p.ended
  ended_effects p c item [] = refl
  ended_effects p c item (e ∷ es) = ended_effects (with_act S p (does c item e)) c item es

  pub came_effects : (p : Point) (c : ℕ) (item : Item) (es : List Effect) (x : ℕ) (d : Dir) → (with_effects S p c item es).came x d ≡ p.came x d
  came_effects p c item [] x d = refl
  came_effects p c item (e ∷ es) x d = came_effects (with_act S p (does c item e)) c item es x d
