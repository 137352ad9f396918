-- Whether a component is runnable, by the state.
use Rattle.std.proofs.Common.{◌≡◌, ℕ, Bool, true, false, not, ◌&&◌, ◌||◌, refl, sym, ap, ◌∙◌, Option, Some, None}
use Rattle.std.specs.Prelude.{is_some}
use Rattle.std.specs.Option.{option_map, option_map_or, option_and_then}
use Rattle.kom_base.specs.Lists.{first}
use Rattle.kom_comps.specs.Members.{Members, has}
use Rattle.kom_record.specs.Controls.{control_waiting}
use Rattle.kom_record.specs.Ready.{candidates, is_active, is_busy, runnable}
use Rattle.kom_refine.specs.Firsts.{Front, IsFirst}
use Rattle.kom_refine.specs.States.{ControlRow, State}
use Rattle.kom_state.specs.Readings.{first_item, is_active as active_in}
use Rattle.kom_wakes.specs.Laws.{RunnableByState}
use Rattle.kom_wakes.specs.Work.{may_run}
use Rattle.kom_turns.specs.Runs.{IsRunnableBy}
use Rattle.kom_turns.proofs.Taking.{busy_not}

pub mapped_some : {X Y : Type 0} (f : X → Y) (o : Option X) → is_some (option_map f o) ≡ is_some o
mapped_some f None = refl
mapped_some f (Some x) = refl

-- what there is to do, by the parts of the row
by_parts : (row : Option ControlRow) (f : Option Front) → (is_some (option_and_then (λ r. first r.items) row) || (option_map_or (λ r. r.active) row false && is_some f)) ≡ may_run row f
by_parts None f = refl
by_parts (Some r) f = refl

pub busy_is_not : (m : State) (busy : Members) (c : ℕ) → has busy c ≡ true → IsRunnableBy m busy c false
busy_is_not m busy c h S R s e = sym (busy_not S R c (sym e ∙ h))

pub dead_is_not : (m : State) (busy : Members) (c : ℕ) → m.living c ≡ false → IsRunnableBy m busy c false
unfolding runnable
dead_is_not m busy c h S R s e =
    sym (ap (λ a. a && not (is_busy S R c) && (is_some (first (control_waiting S R c)) || (is_active S R c && is_some (first (candidates S R c))))) (sym (s.living c) ∙ h))

pub works : RunnableByState → (m : State) (busy : Members) (c : ℕ) (f : Option Front) (b : Bool) → has busy c ≡ false → IsFirst m c f → b ≡ (is_some (first_item m c) || (active_in m c && is_some f)) → IsRunnableBy m busy c b
works law m busy c f b free least is S R s e =
    is ∙ by_parts (m.controls c) f ∙ sym (on (may_run (m.controls c) f)) ∙ ap (λ t. may_run (m.controls c) f && not t) (sym free ∙ e) ∙ sym (law S R m c f s least)
  where
    on : (b : Bool) → (b && true) ≡ b
    on true = refl
    on false = refl
