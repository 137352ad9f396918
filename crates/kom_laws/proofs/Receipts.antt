-- Each receipt is by the component at which the direction ends, and of the event that follows on
-- those that were received before.
use Rattle.std.proofs.Common.{◌≡◌, ℕ, ◌<◌, ◌≤◌, refl, sym, ap, ◌∙◌, subst, List, [], ◌∷◌, ◌++◌, length, Option, Some, None, ◌⊎◌, inl, inr, arith, ◌==◌, ◌&&◌, not}
use Rattle.std.specs.Prelude.{slice_get}
use Rattle.std.specs.Option.{option_map}
use Rattle.std.proofs.lemmas.List.{append_assoc, length-append}
use Rattle.std.proofs.lemmas.Bool.{eqb-true}
use Rattle.kom_base.specs.declared.numbers.Dir.{Dir}
use Rattle.kom_base.specs.declared.numbers.Side.{Side}
use Rattle.kom_base.specs.declared.numbers.Half.{Half}
use Rattle.kom_base.specs.declared.numbers.EntryNo.{EntryNo}
use Rattle.kom_base.specs.declared.values.Event.{Event}
use Rattle.kom_base.specs.Numbers.{is_earlier}
use Rattle.kom_base.specs.Lists.{first, least}
use Rattle.kom_lang.specs.Declarations.{Declarations}
use Rattle.kom_record.specs.declared.plan.Plan.{Plan}
use Rattle.kom_record.specs.declared.item.Back.{Back}
use Rattle.kom_record.specs.declared.item.Control.{Control as ControlItem}
use Rattle.kom_record.specs.declared.item.Item.{Item}
use Rattle.kom_record.specs.declared.item.Item.TheVariants.{Control, Arrival}
use Rattle.kom_record.specs.declared.entry.Entry.{Entry}
use Rattle.kom_record.specs.declared.entry.Entry.TheVariants.{Took}
use Rattle.kom_record.specs.Entries.{History, acts}
use Rattle.kom_record.specs.Channels.{destination, held, is_living}
use Rattle.kom_record.specs.Queues.{Envelope, entering, entered, taken_from, waiting}
use Rattle.kom_record.specs.Controls.{control_waiting}
use Rattle.kom_record.specs.Ready.{Candidate, arriving, candidate, candidates, directions, next}
use Rattle.kom_record.specs.Handed.{HandsOverReceipts}
use Rattle.kom_record.specs.Legal.{IsLegal}
use Rattle.kom_laws.proofs.Members.{made_by, least_in}
use Rattle.kom_laws.proofs.ListFacts.{get_left}
use Rattle.kom_laws.proofs.NextItem.{chosen, mapped, way_of, from_control, first_waits}
use Rattle.kom_laws.proofs.DeadChannels.{tested, and_first, entered_more}
use Rattle.kom_laws.proofs.Handlings.{legal_before, last_allowed}
use Rattle.kom_laws.proofs.QueueLaws.{rest_waits}
use Rattle.kom_laws.proofs.Woken.{stays_in}

abbrev half_at : ℕ → ℕ → Side → Half
half_at c port side = record { comp = c; port = port; side = side }

-- the half at which an arrival came, where an item is one
abbrev half_in : ℕ → Item → Half → Half
half_in c (Control k) h = h
half_in c (Arrival x d n port side event back) h = record { comp = c; port = port; side = side }

found : {A B : Type 0} (f : A → Option B) (o : Option A) (y : B) → Rattle.std.specs.Option.option_and_then f o ≡ Some y → (x : A) × (o ≡ Some x) × (f x ≡ Some y)
found f None y e = absurd cc
found f (Some x) y e = (x, refl, e)

module _ (S : Declarations) (P : History) (c : ℕ) where
  candidate_half : (w : ℕ × Dir) (a : Candidate) → candidate S P c w ≡ Some a
      → (h : Half) × (p : Envelope) × (destination S (acts P) w.0 w.1 ≡ Some h) × (h.comp ≡ c) × (arriving S w.0 w.1 h p ≡ a)
  unfolding candidate
  candidate_half w a e =
      let b = found _ (destination S (acts P) w.0 w.1) a e in
      let t = tested (b.0.comp == c && is_living S (acts P) w.0 && not (held S (acts P) w.0)) _ a b.2 in
      let m = mapped (arriving S w.0 w.1 b.0) (first (waiting S P w.0 w.1)) a (chosen (b.0.comp == c && is_living S (acts P) w.0 && not (held S (acts P) w.0)) _ a b.2) in
      (b.0, m.0, b.1, eqb-true b.0.comp c (and_first _ _ (and_first _ _ t)), m.2)

  -- the direction of the event that c takes next ends at the half of c at which it arrives
  ends_here : (x : ℕ) (d : Dir) (n : EntryNo) (port : ℕ) (side : Side) (event : Event) (back : Back)
      → next S P c ≡ Some (Arrival x d n port side event back) → destination S (acts P) x d ≡ Some (record { comp = c; port = port; side = side })
  unfolding next candidates
  ends_here x d n port side event back e = go (from_control S P c (first (control_waiting S P c)) _ _ e)
    where
      go : ((k : ControlItem) × (Arrival x d n port side event back ≡ Control k)) ⊎ (option_map (λ a. a.item) (least (λ a b. is_earlier a.no b.no) (candidates S P c)) ≡ Some (Arrival x d n port side event back))
          → destination S (acts P) x d ≡ Some (record { comp = c; port = port; side = side })
      go (inl q) = absurd (let f = q.1 in cc)
      go (inr q) =
          let m = mapped (λ a. a.item) (least (λ a b. is_earlier a.no b.no) (candidates S P c)) _ q in
          let f = made_by (candidate S P c) (directions S P) m.0 (least_in _ _ _ m.1) in
          let g = candidate_half f.0 m.0 f.1 in
          let same : (arriving S f.0.0 f.0.1 g.0 g.1).item ≡ Arrival x d n port side event back = ap (λ a. a.item) g.4 ∙ m.2 in
          let way : f.0 ≡ (x, d) = ap (way_of (x, d)) same in
          let own : g.0 ≡ record { comp = c; port = g.0.port; side = g.0.side } = ap (λ k. half_at k g.0.port g.0.side) g.3 in
          let half : record { comp = c; port = g.0.port; side = g.0.side } ≡ record { comp = c; port = port; side = side } = ap (λ i. half_in c i g.0) same in
          subst (λ w. destination S (acts P) w.0 w.1 ≡ Some (record { comp = c; port = port; side = side })) way (g.2 ∙ ap Some (own ∙ half))

module _ (S : Declarations) (Z : Plan) (x : ℕ) (d : Dir) where
  longer : (more : List Entry) (P : History) → length (entered S P x d) ≤ length (entered S (more ++ P) x d)
  longer [] P = omega arith
  longer (e ∷ more) P = omega (arith, longer more P, ap length (entered_more S Z x d e (more ++ P)), length-append (entered S (more ++ P) x d) (entering S (more ++ P) e x d))

  -- what entered so far stays at its place
  entered_stays : (more : List Entry) (P : History) (i : ℕ) → i < length (entered S P x d) → slice_get (entered S (more ++ P) x d) i ≡ slice_get (entered S P x d) i
  entered_stays [] P i h = refl
  entered_stays (e ∷ more) P i h =
      let l = longer more P in
      ap (λ q. slice_get q i) (entered_more S Z x d e (more ++ P))
      ∙ get_left (entered S (more ++ P) x d) (entering S (more ++ P) e x d) i (omega (arith, l, h))
      ∙ entered_stays more P i h

  get_at : (xs ys : List Envelope) (p : Envelope) → first ys ≡ Some p → slice_get (xs ++ ys) (length xs) ≡ Some p
  get_at [] [] p e = absurd cc
  get_at [] (y ∷ ys) p e = e
  get_at (z ∷ xs) ys p e = get_at xs ys p e

  within : (xs ys : List Envelope) (p : Envelope) → first ys ≡ Some p → length xs < length (xs ++ ys)
  within xs [] p e = absurd cc
  within xs (y ∷ ys) p e = omega (arith, length-append xs (y ∷ ys))

append_took : (more : List Entry) (w c : ℕ) (item : Item) (P : History) → more ++ Took w c item ∷ P ≡ (more ++ Took w c item ∷ []) ++ P
append_took more w c item P = sym (append_assoc more (Took w c item ∷ []) P)

pub handed_over : (S : Declarations) (Z : Plan) (R : History) → IsLegal S Z R → HandsOverReceipts S R
handed_over S Z R l P w c x d n port side event back b =
    let legal = legal_before S Z b.0 (Took w c (Arrival x d n port side event back) ∷ P) (subst (IsLegal S Z) b.1 l) in
    let may = last_allowed S Z (Took w c (Arrival x d n port side event back)) P legal in
    let ends = ends_here S P c x d n port side event back may.next in
    let comes = first_waits S P c x d n port side event back may.next in
    let split = rest_waits S x d Z P (stays_in S Z (acts P) x d _ ends) (legal_before S Z (Took w c (Arrival x d n port side event back) ∷ []) P legal) in
    let k = length (taken_from S P x d) in
    let short = within S Z x d (taken_from S P x d) (waiting S P x d) _ comes in
    let early : k < length (entered S P x d) = subst (λ q. k < length q) (sym split) short in (
      ends,
      ap (λ Q. slice_get (entered S Q x d) k) (b.1 ∙ append_took b.0 w c (Arrival x d n port side event back) P)
          ∙ entered_stays S Z x d (b.0 ++ Took w c (Arrival x d n port side event back) ∷ []) P k early
          ∙ ap (λ q. slice_get q k) split
          ∙ get_at S Z x d (taken_from S P x d) (waiting S P x d) _ comes,
    )
