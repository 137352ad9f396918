-- The item that comes next from a channel is the first that waits there.
use Rattle.std.proofs.Common.{◌≡◌, ℕ, Bool, true, false, cond, ◌&&◌, ◌==◌, not, refl, sym, ap, ◌∙◌, subst, ◌⊎◌, inl, inr, Option, Some, None}
use Rattle.std.specs.Option.{option_and_then, option_map}
use Rattle.kom_base.specs.declared.numbers.Dir.{Dir}
use Rattle.kom_base.specs.declared.numbers.Side.{Side}
use Rattle.kom_base.specs.declared.numbers.Half.{Half}
use Rattle.kom_base.specs.declared.numbers.EntryNo.{EntryNo}
use Rattle.kom_base.specs.declared.values.Event.{Event}
use Rattle.kom_base.specs.Numbers.{is_earlier}
use Rattle.kom_base.specs.Lists.{either, first, least}
use Rattle.kom_lang.specs.Declarations.{Declarations}
use Rattle.kom_record.specs.Model.{model}
use Rattle.kom_record.specs.declared.item.Back.{Back}
use Rattle.kom_record.specs.declared.item.Item.{Item}
use Rattle.kom_record.specs.declared.item.Item.TheVariants.{Control, Arrival}
use Rattle.kom_record.specs.declared.item.Control.{Control as ControlItem}
use Rattle.kom_record.specs.Entries.{History, acts}
use Rattle.kom_record.specs.Channels.{destination, held, is_living}
use Rattle.kom_record.specs.Queues.{Envelope, waiting}
use Rattle.kom_record.specs.Controls.{control_waiting}
use Rattle.kom_record.specs.Ready.{Candidate, arriving, candidate, candidates, directions, next}
use Rattle.kom_laws.proofs.Members.{made_by, least_in, Some-injective}

-- what an arrival brings, and by which direction
abbrev pub way_of : ℕ × Dir → Item → ℕ × Dir
way_of w (Control k) = w
way_of w (Arrival x d n port side event back) = (x, d)

abbrev pub envelope_of : Envelope → Item → Envelope
envelope_of p (Control k) = p
envelope_of p (Arrival x d n port side event back) = record { no = n; event = event; back = back }

-- a choice that gives something was so chosen
pub chosen : {A : Type 0} (b : Bool) (o : Option A) (y : A) → cond b o None ≡ Some y → o ≡ Some y
unfolding model
chosen true o y e = e
chosen false o y e = absurd cc

pub mapped : {A B : Type 0} (f : A → B) (o : Option A) (y : B) → option_map f o ≡ Some y → (x : A) × (o ≡ Some x) × (f x ≡ y)
unfolding model
mapped f None y e = absurd cc
mapped f (Some x) y e = (x, refl, Some-injective e)

pub bound : {A B : Type 0} (f : A → Option B) (o : Option A) (y : B) → option_and_then f o ≡ Some y → (x : A) × (f x ≡ Some y)
unfolding model
bound f None y e = absurd cc
bound f (Some x) y e = (x, e)

module _ (S : Declarations) (P : History) (c : ℕ) where
  pub candidate_gives : (w : ℕ × Dir) (a : Candidate) → candidate S P c w ≡ Some a → (h : Half) × (p : Envelope) × (first (waiting S P w.0 w.1) ≡ Some p) × (arriving S w.0 w.1 h p ≡ a)
  unfolding model
  candidate_gives w a e =
      let b = bound _ (destination S (acts P) w.0 w.1) a e in
      let m = mapped (arriving S w.0 w.1 b.0) (first (waiting S P w.0 w.1)) a (chosen (b.0.comp == c && is_living S (acts P) w.0 && not (held S (acts P) w.0)) _ a b.1) in
      (b.0, m.0, m.1, m.2)

  pub from_control : (o : Option ControlItem) (p : Option Item) (i : Item) → either (option_map Control o) p ≡ Some i → ((k : ControlItem) × (i ≡ Control k)) ⊎ (p ≡ Some i)
  unfolding model
  from_control None p i e = inr e
  from_control (Some k) p i e = inl (k, sym (Some-injective e))

  -- where the next item is an arrival, its envelope is the first that waits in its direction
  pub first_waits : (x : ℕ) (d : Dir) (n : EntryNo) (port : ℕ) (side : Side) (event : Event) (back : Back) → next S P c ≡ Some (Arrival x d n port side event back) → first (waiting S P x d) ≡ Some (record { no = n; event = event; back = back })
  unfolding model
  first_waits x d n port side event back e = go (from_control (first (control_waiting S P c)) _ _ e)
    where
      go : ((k : ControlItem) × (Arrival x d n port side event back ≡ Control k)) ⊎ (option_map (λ a. a.item) (least (λ a b. is_earlier a.no b.no) (candidates S P c)) ≡ Some (Arrival x d n port side event back)) → first (waiting S P x d) ≡ Some (record { no = n; event = event; back = back })
      go (inl q) = absurd (let f = q.1 in cc)
      go (inr q) =
          let m = mapped (λ a. a.item) (least (λ a b. is_earlier a.no b.no) (candidates S P c)) _ q in
          let f = made_by (candidate S P c) (directions S P) m.0 (least_in _ _ _ m.1) in
          let g = candidate_gives f.0 m.0 f.1 in
          let same : (arriving S f.0.0 f.0.1 g.0 g.1).item ≡ Arrival x d n port side event back = ap (λ a. a.item) g.3 ∙ m.2 in
          let way : f.0 ≡ (x, d) = ap (way_of (x, d)) same in
          let envelope : g.1 ≡ record { no = n; event = event; back = back } = ap (envelope_of g.1) same in
          subst (λ w. first (waiting S P w.0 w.1) ≡ Some (record { no = n; event = event; back = back })) way (g.2 ∙ ap Some envelope)
