-- How many components are marked, effect by effect.
use Rattle.std.proofs.Common.{◌≡◌, ℕ, suc, ◌+◌, ◌<◌, false, ◌&&◌, ◌==◌, refl, sym, ap, ◌∙◌, List, [], ◌∷◌, ◌++◌, length, map, take, drop, get_or, Option, Some, None, arith}
use Rattle.std.specs.Prelude.{reverse, slice_get}
use Rattle.std.specs.List.{list_any}
use Rattle.std.specs.Option.{option_map, option_map_or}
use Rattle.std.proofs.lemmas.List.{append_assoc, length-map, reverse-append, take_more}
use Rattle.std.proofs.lemmas.Option.{slice_get-map}
use Rattle.std.proofs.Math.Seq.{drop-cons}
use Rattle.kom_lang.specs.Declarations.{Declarations}
use Rattle.kom_lang.specs.declared.body.Effect.{Effect}
use Rattle.kom_lang.specs.declared.body.Effect.TheVariants as effect
use Rattle.kom_record.specs.declared.item.Item.{Item}
use Rattle.kom_record.specs.Entries.{Act, acts_for}
use Rattle.kom_record.specs.Instances.{Instance, alive, ancestry_of, born}
use Rattle.kom_refine.specs.Points.{Point, acts_at, act_of, node_of, StandsAt}
use Rattle.kom_refine.specs.States.{Node, State}
use Rattle.kom_refine.specs.Steps.{is_below}
use Rattle.kom_state.specs.Parts.{Parts, state_of}
use Rattle.kom_births.specs.declared.seed.Seed.{Seed}
use Rattle.kom_births.specs.Laws.{news_of}
use Rattle.kom_births.proofs.Begun.{seeds_long}
use Rattle.kom_nursery.specs.Nurseries.{broods_of}
use Rattle.kom_changes.specs.Below.{count_under, lives_below}
use Rattle.kom_changes.proofs.Below.{count_same}
use Rattle.kom_doing.specs.Effects.{first_of, marks_by}
use Rattle.kom_doing.specs.Marks.{marks_at, marks_of}

module _ (S : Declarations) where
  below_as : (done : List Act) (m : State) (c slot d : ℕ) → m.nodes ≡ map node_of (born S done) → is_below m c slot d ≡ list_any (λ q. c == q.0 && slot == q.1) (ancestry_of S (born S done) d)
  unfolding ancestry_of
  below_as done m c slot d nodes =
      ap (λ o. option_map_or (λ (n : Node). list_any (λ q. c == q.0 && slot == q.1) n.ancestry) o false) (ap (λ ns. slice_get ns d) nodes ∙ slice_get-map node_of (born S done) d)
      ∙ at (slice_get (born S done) d)
    where
      at : (o : Option Instance) → option_map_or (λ (n : Node). list_any (λ q. c == q.0 && slot == q.1) n.ancestry) (option_map node_of o) false ≡ list_any (λ q. c == q.0 && slot == q.1) (option_map_or (λ (i : Instance). i.ancestry) o [])
      at None = refl
      at (Some i) = refl

  -- by the state as many as by the acts
  pub marks_same : (p : Point) (v : Parts) (c : ℕ) (item : Item) (e : Effect) (rest : List Effect) (broods : List (List Seed)) → StandsAt S p (state_of v) → broods ≡ broods_of S (acts_at p) c item (e ∷ rest)
      → marks_by (state_of v) c e broods ≡ marks_at S (acts_at p) c e
  marks_same p v c item (effect.Create slot kind birth) rest broods s is =
      ap (λ b. length (first_of b)) is ∙ seeds_long S (length (born S (acts_at p))) (news_of S (acts_at p) c slot kind birth)
  marks_same p v c item (effect.Destroy slot) rest broods s is =
      ap (λ n. count_under n (lives_below (state_of v) c slot)) (ap length s.nodes ∙ length-map (born S (acts_at p)) node_of)
      ∙ count_same (length (born S (acts_at p))) (lives_below (state_of v) c slot) _
      (λ d. ap (λ b. b && is_below (state_of v) c slot d) (s.living d) ∙ ap (λ b. alive S (acts_at p) d && b) (below_as (acts_at p) (state_of v) c slot d s.nodes))
  marks_same p v c item (effect.Hold k) rest broods s is = refl
  marks_same p v c item (effect.Resume k) rest broods s is = refl
  marks_same p v c item (effect.Unplug k f) rest broods s is = refl
  marks_same p v c item (effect.Plug k f q) rest broods s is = refl
  marks_same p v c item (effect.Trigger port event) rest broods s is = refl
  marks_same p v c item (effect.Answer event) rest broods s is = refl
  marks_same p v c item (effect.Start k) rest broods s is = refl
  marks_same p v c item (effect.Stop k) rest broods s is = refl
  marks_same p v c item (effect.Dump k) rest broods s is = refl
  marks_same p v c item effect.Escalate rest broods s is = refl

  first_act : (c : ℕ) (item : Item) (done : List Act) (e : Effect) (es : List Effect) → acts_for c (Some item) es ++ act_of c item e ∷ done ≡ acts_for c (Some item) (e ∷ es) ++ done
  first_act c item done e es =
      sym (append_assoc (reverse (map (act_of c item) es)) (act_of c item e ∷ []) done)
      ∙ ap (λ r. r ++ done) (sym (reverse-append (act_of c item e ∷ []) (map (act_of c item) es)))

  -- one effect more
  pub marks_next : (done : List Act) (c : ℕ) (item : Item) (before : List Effect) (e : Effect) → marks_of S done c item (before ++ e ∷ []) ≡ marks_of S done c item before + marks_at S (acts_for c (Some item) before ++ done) c e
  marks_next done c item [] e = let z : marks_at S done c e + 0 ≡ 0 + marks_at S done c e = omega arith in z
  marks_next done c item (d ∷ ds) e =
      let r = marks_next (act_of c item d ∷ done) c item ds e in
      let s = ap (λ a. marks_at S a c e) (first_act c item done d ds) in
      omega (arith, r, s)

-- an effect and those after it
pub from_here : (es : List Effect) (k : ℕ) (e : Effect) → k < length es → e ≡ get_or es k e → drop k es ≡ e ∷ drop (k + 1) es
from_here es k e l is = drop-cons es k e l ∙ (λ i. sym is i ∷ drop (let z : suc k ≡ k + 1 = omega arith in z i) es)

pub up_to_here : (es : List Effect) (k : ℕ) (e : Effect) → k < length es → e ≡ get_or es k e → take (k + 1) es ≡ take k es ++ e ∷ []
up_to_here es k e l is = take_more es k e l ∙ ap (λ z. take k es ++ z ∷ []) (sym is)
