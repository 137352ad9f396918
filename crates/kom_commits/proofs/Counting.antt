-- How many events wait, effect by effect.
use Rattle.std.proofs.Common.{◌≡◌, ℕ, zero, suc, ◌+◌, ◌<◌, ◌^◌, Bool, if◌then◌else◌, refl, ap, ◌∙◌, subst, List, ◌∷◌, ◌++◌, length, take, drop, get_or, Option, arith}
use Rattle.kom_lang.specs.Declarations.{Declarations}
use Rattle.kom_lang.specs.declared.body.Effect.{Effect}
use Rattle.kom_lang.specs.declared.body.Effect.TheVariants as effect
use Rattle.kom_system.specs.WellFormed.{IsDeclared}
use Rattle.kom_record.specs.declared.item.Item.{Item}
use Rattle.kom_record.specs.Channels.{channels}
use Rattle.kom_record.specs.Legal.{IsLegal}
use Rattle.kom_refine.specs.Points.{Point, act_of, acts_at, with_act}
use Rattle.kom_refine.specs.States.{State}
use Rattle.kom_refine.specs.Steps.{dies}
use Rattle.kom_refine.specs.Laws.{EffectFollows}
use Rattle.kom_numbers.specs.Numbering.{total}
use Rattle.kom_state.specs.Laws.{ChannelsAreNumbered}
use Rattle.kom_state.specs.Parts.{Parts, state_of}
use Rattle.kom_state.specs.Removals.{dies_with}
use Rattle.kom_births.specs.declared.seed.Seed.{Seed}
use Rattle.kom_doing.specs.Effects.{IsDoable, IsDone}
use Rattle.kom_doing.specs.Laws.{Ending, IsAmid}
use Rattle.kom_doing.proofs.Marked.{from_here}
use Rattle.kom_doing.proofs.Turn as turn
use Rattle.kom_queued.specs.Counting.{waiting_below, waiting_in}
use Rattle.kom_losses.specs.Laws.{WiresAreCountedWithin}
use Rattle.kom_losses.specs.Owned.{FewWait, WiresAreCounted}
use Rattle.kom_waits.specs.Laws.{EffectsCount}
use Rattle.kom_waits.specs.Waits.{ends_by, waits_among, waits_below, waits_in}
use Rattle.kom_commits.specs.Counted.{ChildrenFit, lost_by, waits_in_all}

below_is : (m : State) (k : ℕ) → waits_below m k ≡ waiting_below m k
below_is m zero = refl
below_is m (suc k) = let r = below_is m k in omega (arith, r)

among_is : (f g : ℕ → Bool) (m : State) → ((x : ℕ) → f x ≡ g x) → (k : ℕ) → waits_among f m k ≡ waiting_in m g k
among_is f g m h zero = refl
among_is f g m h (suc k) =
    let r = among_is f g m h k in
    let s = ap (λ b. if b then waits_in m k else 0) (h k) in
    omega (arith, r, s)

-- what is counted in 64 bits is little
pub few_wait : (v : Parts) (n : ℕ) → n < 2 ^ 64 → n ≡ waits_in_all v → FewWait v
few_wait v n l e = let a = below_is (state_of v) (total v.numbers) in omega (arith, l, e, a)

-- what may be done has what a Destroy asks
pub children_fit : (S : Declarations) (c : ℕ) (item : Item) (told : Option (ℕ × ℕ)) (e : Effect) (broods : List (List Seed)) (bound : ℕ) (v : Parts) → IsDoable S c item told e broods bound v → ChildrenFit c e (state_of v)
children_fit S c item told (effect.Destroy slot) broods bound v d = d.children
children_fit S c item told (effect.Create slot kind birth) broods bound v d = tt
children_fit S c item told (effect.Hold k) broods bound v d = tt
children_fit S c item told (effect.Resume k) broods bound v d = tt
children_fit S c item told (effect.Unplug k f) broods bound v d = tt
children_fit S c item told (effect.Plug k f q) broods bound v d = tt
children_fit S c item told (effect.Trigger port event) broods bound v d = tt
children_fit S c item told (effect.Answer event) broods bound v d = tt
children_fit S c item told (effect.Start s) broods bound v d = tt
children_fit S c item told (effect.Stop s) broods bound v d = tt
children_fit S c item told (effect.Dump s) broods bound v d = tt
children_fit S c item told effect.Escalate broods bound v d = tt

-- what ends with an effect by the acts is what ends by the state
lost_is : (S : Declarations) (p : Point) (c : ℕ) (e : Effect) (v : Parts) → length (channels S (acts_at p)) ≡ total v.numbers → ((k slot x : ℕ) → dies S (acts_at p) k slot x ≡ dies_with v k slot x)
    → ends_by S (acts_at p) c e (state_of v) ≡ lost_by v c e
lost_is S p c (effect.Destroy slot) v many same =
    ap (waits_among (dies S (acts_at p) c slot) (state_of v)) many
    ∙ among_is (dies S (acts_at p) c slot) (dies_with v c slot) (state_of v) (λ x. same c slot x) (total v.numbers)
lost_is S p c (effect.Create slot kind birth) v many same = refl
lost_is S p c (effect.Hold k) v many same = refl
lost_is S p c (effect.Resume k) v many same = refl
lost_is S p c (effect.Unplug k f) v many same = refl
lost_is S p c (effect.Plug k f q) v many same = refl
lost_is S p c (effect.Trigger port event) v many same = refl
lost_is S p c (effect.Answer event) v many same = refl
lost_is S p c (effect.Start s) v many same = refl
lost_is S p c (effect.Stop s) v many same = refl
lost_is S p c (effect.Dump s) v many same = refl
lost_is S p c effect.Escalate v many same = refl

module _ (S : Declarations) (c : ℕ) (item : Item) (told : Option (ℕ × ℕ)) (es : List Effect) (k : ℕ) (e : Effect) (l : k < length es) (here : e ≡ get_or es k e) (broods : List (List Seed)) (v : Parts)
    (D : IsDeclared S) (x : Ending) (amid : IsAmid S c item told (take k es) (drop k es) x broods v) where
  abbrev rest : List Effect
  rest = drop (k + 1) es

  now : IsAmid S c item told (take k es) (e ∷ rest) x broods v
  now = subst (λ r. IsAmid S c item told (take k es) r x broods v) (from_here es k e l here) amid

  pub wires_here : WiresAreCountedWithin → WiresAreCounted v
  unfolding IsLegal
  wires_here law = law S x.plan x.before x.worker c x.took item x.body (take k es ++ e ∷ rest) (take k es) x.to x.places v D now.legal.0 now.stands now.numbers

  pub count_next : EffectsCount → EffectFollows → ChannelsAreNumbered → (left : List (List Seed)) (w : Parts) → IsDone S c item told e broods left v w → waits_in_all w + lost_by v c e ≡ waits_in_all v
  count_next count follows numbered left w done =
      let p = turn.p S c item told (take k es) rest e x broods v D now in
      let r = turn.is_create S c item told (take k es) rest e x broods v D now left w done in
      let within = turn.within S c item told (take k es) rest e x broods v D now in
      let after = follows S p c item e (state_of v) (state_of w) within.fresh r.step now.stands in
      let old = numbered S (acts_at p) v now.numbers now.stands.nodes in
      let new = numbered S (acts_at (with_act S p (act_of c item e))) w r.numbers after.nodes in
      let a = count S p c item e (state_of v) (state_of w) now.stands r.step in
      let b = ap (waits_below (state_of v)) old.counted in
      let d = ap (waits_below (state_of w)) new.counted in
      let f = lost_is S p c e v old.counted old.dying in
      omega (arith, a, b, d, f)
