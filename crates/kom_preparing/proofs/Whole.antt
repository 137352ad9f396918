-- All that is ready once all room was made.
use Rattle.std.proofs.Common.{◌≡◌, ℕ, ◌+◌, ◌<◌, ◌≤◌, true, sym, ap, ◌∙◌, subst, List, [], ◌∷◌, length, Option, Some, arith}
use Rattle.std.specs.Prelude.{IfSome, IsSome, is_some}
use Rattle.std.proofs.Math.Logic.{∥∥₁_map₂}
use Rattle.kom_base.specs.declared.numbers.Dir.{Dir}
use Rattle.kom_lang.specs.Declarations.{Declarations}
use Rattle.kom_lang.specs.declared.body.Body.{Body}
use Rattle.kom_lang.specs.declared.body.Effect.{Effect}
use Rattle.kom_lang.specs.declared.body.Effect.TheVariants as effect
use Rattle.kom_record.specs.declared.item.Item.{Item}
use Rattle.kom_entering.specs.Lists.{numbers_into}
use Rattle.kom_limits.specs.Laws.{NumbersAreEnough}
use Rattle.kom_numbers.specs.Numbering.{total}
use Rattle.kom_nursery.specs.Laws.{HandlingsArePrepared}
use Rattle.kom_nursery.specs.Nurseries.{AreCreatable, IsCreatable, all_of}
use Rattle.kom_state.specs.Laws.{ChannelsAreNumbered}
use Rattle.kom_system.specs.WellFormed.{IsDeclared}
use Rattle.kom_puts.specs.Puts.{HasRoomToFollow, dumped_in, is_above}
use Rattle.kom_doing.specs.Rooms.{HasRoomLeft, PutsHaveRoom}
use Rattle.kom_state.specs.Parts.{queue_spare, state_of}
use Rattle.kom_turns.specs.declared.run.Run.{Run}
use Rattle.kom_changes.specs.Ends.{ChildrenAreInSlots}
use Rattle.kom_puts.specs.Laws.{SameStatesFollow}
use Rattle.kom_refine.specs.Points.{start_of}
use Rattle.kom_turns.specs.Runs.{IsRun, Stands, history_of, system_of}
use Rattle.kom_turns.proofs.Standing.{at_most, below, said}
use Rattle.kom_preparing.specs.declared.prepared.Prepared.{Prepared}
use Rattle.kom_preparing.specs.Preparing.{HasReacted, HasRoomToEnd, WasReacted}
use Rattle.kom_preparing.specs.Spaces.{IsButForSpace}
use Rattle.kom_extents.specs.Laws.{ChildrenAreKept}
use Rattle.kom_preparing.proofs.Carried.{above_same, dumped_same}
use Rattle.kom_preparing.proofs.Ended as ended

-- ---- what is only known to be there

pub record Knows (c took : ℕ) (item : Item) (body : Body) (effects : List Effect) (v : Run) : Type 0 where
  pub stands : Stands v
  pub by : ℕ
  pub reacted : WasReacted by c took item body effects v

pub knows : (c took : ℕ) (item : Item) (body : Body) (effects : List Effect) (v : Run) → IsRun v → HasReacted c took item body effects v → ∥ Knows c took item body effects v ∥₁
knows c took item body effects v s r = ∥∥₁_map₂ s r (λ a b. record { stands = a; by = b.0; reacted = b.1 })

module _ (c took : ℕ) (item : Item) (body : Body) (effects : List Effect) (v : Run) (known : ∥ Knows c took item body effects v ∥₁) where
  pub made_by : c < length (state_of v.state).nodes
  made_by = below _ _ known (λ k. ended.made k.by c took item body effects v k.stands k.reacted)

  pub there_by : IsSome ((state_of v.state).bodies c)
  there_by = said _ known (λ k. ap is_some (ended.body_there k.by c took item body effects v k.stands k.reacted))

  module _ (D : IsDeclared (system_of v)) where
    pub slots_by : length body.slots ≤ 256
    slots_by = at_most _ _ known (λ k. ended.slots k.by c took item body effects v k.stands k.reacted D)

    module _ (law : HandlingsArePrepared) where
      pub few_by : length effects ≤ 32
      few_by = at_most _ _ known (λ k. (ended.prepared k.by c took item body effects v k.stands k.reacted D law).few)

      pub number_by : length (state_of v.state).nodes ≤ 3200001000
      number_by = at_most _ _ known (λ k. ended.few_instances k.by c took item body effects v k.stands k.reacted D law)

    pub channels_by : NumbersAreEnough → ChannelsAreNumbered → total v.state.numbers ≤ 3200001016
    channels_by enough numbered = at_most _ _ known (λ k. ended.few_channels k.by c took item body effects v k.stands k.reacted D enough numbered)

-- in a run with more room
module _ (c took : ℕ) (item : Item) (body : Body) (effects : List Effect) (v : Run) (known : ∥ Knows c took item body effects v ∥₁) (n : Run) (same : IsButForSpace v n) where
  pub living_by : (state_of n.state).living c ≡ true
  living_by = said _ known (λ k. same.state.tree.living c ∙ ended.living k.by c took item body effects v k.stands k.reacted)

  pub children_by : SameStatesFollow → ChildrenAreKept → IsDeclared (system_of v) → ChildrenAreInSlots c (state_of n.state)
  children_by follow law D d s e b apart there at = (below _ _ known (λ k. (kept k d s e b apart there at).0), below _ _ known (λ k. (kept k d s e b apart there at).1))
    where
      kept : Knows c took item body effects v → ChildrenAreInSlots c (state_of n.state)
      kept k =
          law (system_of v) v.env.plan (history_of v) c n.state D k.stands.legal
          (follow (system_of v) (start_of (history_of v)) (state_of v.state) (state_of n.state) same.state k.stands.state)

module _ {A : Type 0} (known : ∥ A ∥₁) (S : Declarations) (depth : ℕ) where
  one_by : (e : Effect) → (A → IsCreatable S depth e) → IsCreatable S depth e
  one_by (effect.Create slot kind birth) f = (below _ _ known (λ a. (f a).0), at_most _ _ known (λ a. (f a).1))
  one_by (effect.Trigger p x) f = tt
  one_by (effect.Answer x) f = tt
  one_by (effect.Start s) f = tt
  one_by (effect.Stop s) f = tt
  one_by (effect.Destroy s) f = tt
  one_by (effect.Dump s) f = tt
  one_by (effect.Hold k) f = tt
  one_by (effect.Resume k) f = tt
  one_by (effect.Unplug k d) f = tt
  one_by (effect.Plug k d p) f = tt
  one_by effect.Escalate f = tt

  pub creatable_by : (es : List Effect) → (A → AreCreatable S depth es) → AreCreatable S depth es
  creatable_by [] f = tt
  creatable_by (e ∷ es) f = (one_by e (λ a. (f a).0), creatable_by es (λ a. (f a).1))

-- ---- room

-- from the run v over the state of a to the run n
pub has_room : (c : ℕ) (item : Item) (body : Body) (es : List Effect) (p : Prepared) (v a n : Run) → IsButForSpace v n → n.state ≡ a.state
    → is_above (state_of v.state) c p.told ≡ true → length body.slots ≤ 256 → p.dumped ≡ dumped_in (state_of v.state) c body item
    → HasRoomToFollow 1 (state_of a.state) c body item a.state
    → ((x : ℕ) (d : Dir) → length (numbers_into p.entering.comings x d) ≤ queue_spare a.state x d)
    → PutsHaveRoom (1 + length es) c item p.told es a.state
    → ((bound : ℕ) → length (state_of a.state).nodes + length (all_of p.nursery) ≤ bound → HasRoomLeft c item p.told es p.nursery bound a.state)
    → length (state_of a.state).nodes + length (all_of p.nursery) ≤ n.marks.bound → n.marks.bound ≤ n.busy.bound → 1 ≤ n.kept.spare → length p.entering.goings ≤ n.env.spare
    → HasRoomToEnd c item body es p n
has_room c item body es p v a n same state above slots dumped follow come puts room marks busy kept going =
    let e = sym state in
    record {
      above = above_same (state_of v.state) (state_of n.state) same.state c p.told above;
      few = slots;
      dumped = dumped ∙ sym (dumped_same (state_of v.state) (state_of n.state) same.state c body item);
      follow = subst (λ x. HasRoomToFollow 1 (state_of x) c body item x) e follow;
      come = subst (λ x. (y : ℕ) (d : Dir) → length (numbers_into p.entering.comings y d) ≤ queue_spare x y d) e come;
      room = subst (λ x. HasRoomLeft c item p.told es p.nursery n.marks.bound x) e (room n.marks.bound marks);
      puts = subst (λ x. PutsHaveRoom (1 + length es) c item p.told es x) e puts;
      kept = kept;
      going = going;
      busy = busy;
    }
