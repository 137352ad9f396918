-- Bodies have as many channels as their types declare.
use Rattle.std.proofs.Common.{◌≡◌, ℕ, zero, suc, ◌+◌, ◌<◌, ◌≤◌, Bool, true, false, refl, sym, ap, ◌∙◌, List, [], ◌∷◌, ◌++◌, length, Some, inl, inr, ◌⊎◌, arith}
use Rattle.std.specs.Prelude.{nat_le, nat_lt, slice_get, slice_index_or}
use Rattle.std.specs.List.{filter_map}
use Rattle.std.proofs.lemmas.Bool.{leb-true, ltb-true, ltb-false}
use Rattle.std.proofs.lemmas.List.{append-nil, length-map}
use Rattle.kom_lang.specs.Bodies.{first_body, first_wire}
use Rattle.kom_lang.specs.Declarations.{Declarations, kind_of, no_kind}
use Rattle.kom_lang.specs.declared.kind.Kind.{Kind}
use Rattle.kom_lang.specs.declared.body.Body.{Body}
use Rattle.kom_lang.specs.declared.body.Effect.{Effect}
use Rattle.kom_system.specs.Fitting.{has_at_most, numbers_fit}
use Rattle.kom_system.specs.WellFormed.{IsDeclared}
use Rattle.kom_record.specs.declared.plan.Plan.{Plan}
use Rattle.kom_record.specs.declared.item.Item.{Item}
use Rattle.kom_record.specs.Entries.{History, Act, acts, acts_for}
use Rattle.kom_record.specs.Instances.{Instance, alive, born}
use Rattle.kom_record.specs.Bodies.{body_after_all, outcome_of}
use Rattle.kom_record.specs.Legal.{IsLegal}
use Rattle.kom_laws.proofs.InstanceLaws.{instance_stays}
use Rattle.kom_laws.proofs.ControlLaws.{nothing_done}
use Rattle.kom_lives.proofs.Lives.{both}
use Rattle.kom_agree.specs.Laws.{body_by}
use Rattle.kom_agree.proofs.Records.{good}
use Rattle.kom_typed.proofs.Ends.{chosen_true, mapped_of}
use Rattle.kom_refine.specs.Points.{Point, acts_at, act_of, before_effects_of, with_act, with_effects, body_of}
use Rattle.kom_refine.proofs.Points.{mine_effects, before_effects}
use Rattle.kom_state.proofs.Numbered.{channels_are_numbered}
use Rattle.kom_losses.specs.Laws.{WiresAreCountedWithin}

beyond : (kinds : List Kind) (k : ℕ) → (k < length kinds) ⊎ (slice_index_or kinds k no_kind ≡ no_kind)
beyond [] k = inr refl
beyond (x ∷ kinds) zero = inl (omega arith)
beyond (x ∷ kinds) (suc k) = elim (beyond kinds k) [ inl l ↦ inl (omega (arith, l)) | inr e ↦ inr e ]

-- a component type declares few channels
few_channels : (S : Declarations) (k : ℕ) → IsDeclared S → length (kind_of S k).channels ≤ 256
few_channels S k D = elim (beyond S.kinds k) [
  | inl l ↦ (
      let kind = kind_of S k in
      let fits = (both (has_at_most 16 64 32 64 64 kind) (numbers_fit S kind) (D.kinds k l).parts).0 in
      let vars = (both (nat_le (length kind.ports) 16) _ fits).1 in
      let slots = (both (nat_le (length kind.vars) 64) _ vars).1 in
      let chans = (both (nat_le (length kind.slots) 32) _ slots).1 in
      let few = leb-true (length kind.channels) 64 (both (nat_le (length kind.channels) 64) _ chans).0 in
      omega (arith, few))
  | inr e ↦ (let z = ap (λ (x : Kind). length x.channels) e in omega (arith, z))
]

module _ (S : Declarations) where
  no_more_ended : (p : Point) (c : ℕ) (item : Item) (es : List Effect) → (with_effects S p c item es).ended ≡ p.ended
  no_more_ended p c item [] = refl
  no_more_ended p c item (e ∷ es) = no_more_ended (with_act S p (act_of c item e)) c item es

  as_many_wires : (Z : Plan) → IsDeclared S → (P : History) (mine : List Act) (d : ℕ) (i : Instance) → IsLegal S Z P → slice_get (born S (mine ++ acts P)) d ≡ Some i
      → length (body_by S P d i).wires ≡ length (kind_of S i.kind).channels
  as_many_wires Z D P mine d i l g = at (nat_lt d (length (born S (acts P)))) refl
    where
      at : (b : Bool) → nat_lt d (length (born S (acts P))) ≡ b → length (body_by S P d i).wires ≡ length (kind_of S i.kind).channels
      at true t =
          let r = good S Z D P l d i (sym (instance_stays S mine (acts P) d (ltb-true d _ t)) ∙ g) in
          r.fits.wires ∙ ap (λ k. length (kind_of S k).channels) r.kind
      at false t =
          ap (λ os. length (body_after_all (first_body S i.kind i.birth (1 + length i.ancestry)) os).wires) (nothing_done S Z P d l (ltb-false d _ t))
          ∙ length-map (kind_of S i.kind).channels first_wire

pub wires_are_counted : WiresAreCountedWithin
wires_are_counted S Z P w c took item body effects before to places v D l stands of d b f =
    let begin = before_effects_of S P w c took body effects to places in
    let p = with_effects S begin c item before in
    let body_with : History → Instance → Body = λ H i. body_after_all (first_body S i.kind i.birth (1 + length i.ancestry)) (filter_map (outcome_of d) H) in
    let there = chosen_true (alive S (acts_at p) d) (body_of S p d) b (sym (stands.bodies d) ∙ f) in
    let i = mapped_of (body_with (p.ended ++ p.before)) (slice_get (born S (acts_at p)) d) b there.1 in
    let ended : p.ended ++ p.before ≡ P = ap (λ es. es ++ p.before) (no_more_ended S begin c item before) ∙ before_effects S begin c item before in
    let same : body_by S P d i.0 ≡ b = ap (λ H. body_with H i.0) (sym ended) ∙ i.2 in
    let acts_are : acts_at p ≡ acts_for c (Some item) before ++ acts P =
    ap (λ mine. mine ++ acts p.before) (mine_effects S begin c item before ∙ append-nil (acts_for c (Some item) before))
    ∙ ap (λ B. acts_for c (Some item) before ++ acts B) (before_effects S begin c item before)
    in
    let at : slice_get (born S (acts_for c (Some item) before ++ acts P)) d ≡ Some i.0 = ap (λ a. slice_get (born S a) d) (sym acts_are) ∙ i.1 in
    let many : length b.wires ≡ length (kind_of S i.0.kind).channels = ap (λ (z : Body). length z.wires) (sym same) ∙ as_many_wires S Z D P (acts_for c (Some item) before) d i.0 l at in
    let n = channels_are_numbered S (acts_at p) v of stands.nodes in
    let few = few_channels S i.0.kind D in
    (many ∙ sym (n.widths d i.0 i.1), omega (arith, many, few))
