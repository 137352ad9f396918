-- One more event of a run.
use Rattle.std.proofs.Common.{◌≡◌, ℕ, suc, ◌+◌, ◌-◌, ◌<◌, refl, sym, ◌∙◌, ap, arith, add-one}
use Rattle.rand_pcg.specs.Lcg.{Lcg}
use Rattle.kom_record.specs.declared.plan.Raise.{Raise}
use Rattle.kom_scenario.specs.declared.tree.Raising.{Raising}
use Rattle.kom_expand.specs.Drawn.{drawn, event_at, Run, then_run, later_events}

abbrev with_event : (low high : ℕ) → Raising → (n index time : ℕ) → Raise × Lcg → Run
with_event low high r n index time e = then_run e.0 (later_events low high r n index time e.1)

abbrev with_gap : (low high : ℕ) → Raising → (n index time : ℕ) → ℕ × Lcg → Run
with_gap low high r n index time gap = with_event low high r n (suc index) (time + gap.0) (event_at r index (time + gap.0) gap.1)

opened : (low high : ℕ) (r : Raising) (n index time : ℕ) (g : Lcg) → later_events low high r (suc n) index time g ≡ with_gap low high r n index time (drawn low high g)
unfolding later_events
opened low high r n index time g = refl

pub later_step : (low high : ℕ) (r : Raising) (count index time gap : ℕ) (g g' g'' : Lcg) (event : Raise) → index < count → (gap, g') ≡ drawn low high g → (event, g'') ≡ event_at r index (time + gap) g'
    → later_events low high r (count - index) index time g ≡ then_run event (later_events low high r (count - (index + 1)) (index + 1) (time + gap) g'')
later_step low high r count index time gap g g' g'' event less drew made =
    let one : count - index ≡ suc (count - (index + 1)) = omega (arith, less) in
    let next : suc index ≡ index + 1 = sym (add-one index) in
    ap (λ n. later_events low high r n index time g) one ∙ opened low high r (count - (index + 1)) index time g
    ∙ ap (with_gap low high r (count - (index + 1)) index time) (sym drew)
    ∙ ap (with_event low high r (count - (index + 1)) (suc index) (time + gap)) (sym made)
    ∙ ap (λ i. then_run event (later_events low high r (count - (index + 1)) i (time + gap) g'')) next
