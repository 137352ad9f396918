-- A run whose marks are settled stands for its record.
use Rattle.std.proofs.Common.{◌≡◌, ℕ, ◌+◌, ◌<◌, Bool, true, false, not, ◌&&◌, refl, sym, ap, ◌∙◌, subst, List, ◌∷◌, length, arith}
use Rattle.std.specs.Ordering.{nat_cmp}
use Rattle.std.proofs.lemmas.Bool.{and_parts}
use Rattle.kom_base.specs.Lists.{holds_number}
use Rattle.kom_comps.specs.Members.{has}
use Rattle.kom_index.specs.Entries.{value_of}
use Rattle.kom_index.specs.Stock.{entries}
use Rattle.kom_lang.specs.Declarations.{Declarations}
use Rattle.kom_laws.proofs.InstanceLaws.{alive_born}
use Rattle.kom_record.specs.declared.plan.Plan.{Plan}
use Rattle.kom_record.specs.declared.entry.Entry.{Entry}
use Rattle.kom_record.specs.Answers.{wakes}
use Rattle.kom_record.specs.Entries.{History, acts}
use Rattle.kom_record.specs.Instances.{alive, born}
use Rattle.kom_record.specs.Ready.{instance_numbers, is_closed, ready, runnable}
use Rattle.kom_refine.specs.Points.{StandsAt, start_of}
use Rattle.kom_state.specs.Parts.{IsOf, state_of}
use Rattle.kom_times.specs.Following.{Follows}
use Rattle.kom_wakes.specs.Laws.{CountsGoOn, UntouchedStay, WakesAreMarked}
use Rattle.kom_turns.specs.declared.run.Run.{Run}
use Rattle.kom_turns.specs.Runs.{AreCounted, Stands, history_of, system_of}
use Rattle.kom_turns.proofs.Standing.{closed_is, moved}
use Rattle.kom_marks.specs.Settling.{IsRunSettled, IsUnsettled, SettledStands, UnmarkedStay, closed_by}
use Rattle.kom_marks.proofs.Rising.{those}

pub unmarked : UntouchedStay → UnmarkedStay
unmarked untouched S P e most old new m n s t marked busy c h = untouched S P (e ∷ P) m n c s t (marked.leaves c h).1 (busy c h)

off : (b : Bool) → (b && false) ≡ false
off true = refl
off false = refl

on : (b : Bool) → (b && true) ≡ b
on true = refl
on false = refl

module _ (marked : WakesAreMarked) (counts_go_on : CountsGoOn) (S : Declarations) (Z : Plan) (P : History) (e : Entry) (v n : Run) (woken : List ℕ)
    (u : IsUnsettled S Z P e v) (s : IsRunSettled v n woken) where
  abbrev Q : History
  Q = e ∷ P

  runs : (c : ℕ) → has n.runnable c ≡ runnable S Q c
  runs c = go (has v.marks c) refl
    where
      go : (b : Bool) → has v.marks c ≡ b → has n.runnable c ≡ runnable S Q c
      go true t = s.settled.again c t S Q u.state (u.busy c)
      go false t = s.settled.others c t ∙ u.runnable_were c ∙ sym (u.others_stay c t)

  abbrev is_woken : ℕ → Bool
  is_woken c = has v.marks c && (ready S Z Q c && not (ready S Z P c))

  closed_are : closed_by v.counts ≡ is_closed S Z Q
  closed_are = closed_is S Z Q v.counts u.counts_are

  -- while the record is open, who is runnable is ready
  each : (c : ℕ) → (b : Bool) → is_closed S Z Q ≡ b → holds_number woken c ≡ is_woken c
  unfolding ready
  each c true t =
      s.settled.woken_are c ∙ ap (λ b. not b && (has v.marks c && (has n.runnable c && not (has v.runnable c)))) (closed_are ∙ t)
      ∙ sym (ap (λ b. has v.marks c && (b && not (ready S Z P c))) (ap (λ b. runnable S Q c && not b) t ∙ off (runnable S Q c)) ∙ off (has v.marks c))
  each c false t =
      s.settled.woken_are c ∙ ap (λ b. not b && (has v.marks c && (has n.runnable c && not (has v.runnable c)))) (closed_are ∙ t)
      ∙ (λ i. has v.marks c && ((runs c ∙ after) i && not ((u.runnable_were c ∙ earlier) i)))
    where
      after : runnable S Q c ≡ ready S Z Q c
      after = sym (ap (λ b. runnable S Q c && not b) t ∙ on (runnable S Q c))

      open_before : is_closed S Z P ≡ false
      open_before = go (is_closed S Z P) refl
        where
          go : (b : Bool) → is_closed S Z P ≡ b → is_closed S Z P ≡ false
          go true h = absurd (cc (t, (counts_go_on S Z P e).closed h))
          go false h = h

      earlier : runnable S P c ≡ ready S Z P c
      earlier = sym (ap (λ b. runnable S P c && not b) open_before ∙ on (runnable S P c))

  made : (c : ℕ) → is_woken c ≡ true → c < 0 + length (born S (acts Q))
  unfolding ready runnable
  made c h =
      let a = (and_parts _ _ (and_parts _ _ h).1).0 in
      let l : alive S (acts Q) c ≡ true = (and_parts _ _ (and_parts _ _ (and_parts _ _ a).0).0).0 in
      let b : c < length (born S (acts Q)) = alive_born S (acts Q) c l in
      omega (arith, b)

  pub woken_are : woken ≡ wakes S Z P Q
  unfolding instance_numbers
  woken_are =
      those is_woken 0 (born S (acts Q)) woken s.settled.rise (λ c le. each c (is_closed S Z Q) refl) made
      ∙ sym (marked S Z P e (λ c. has v.marks c) u.others_stay)

  pub stands : Stands n
  stands =
      moved S (system_of n) Z n.env.plan Q (history_of n) n
      (sym (ap (λ y. y.declarations) s.system ∙ u.declarations)) (sym (ap (λ o. o.plan) s.env ∙ u.plan)) (sym (ap (λ k. k.history) s.kept ∙ u.history))
      (record {
        fits = u.fits;
        legal = u.legal;
        state = subst (λ x. StandsAt S (start_of Q) (state_of x)) (sym s.state) u.state;
        numbers = subst (λ x. IsOf S x) (sym s.state) u.numbers;
        outside = subst (λ o. Follows S Z Q o) (sym s.env) u.outside;
        jobs = λ w. ap (λ js. value_of nat_cmp w (entries js)) s.jobs ∙ u.jobs w;
        busy = λ c. ap (λ m. has m c) s.busy ∙ u.busy c;
        runnable_are = runs;
        unmarked = s.settled.unmarked;
        busy_bound = let a = ap (λ x. length (state_of x).nodes) s.state in let b = ap (λ m. m.bound) s.busy in let h = u.busy_bound in omega (arith, a, b, h);
        runnable_bound = let a = ap (λ x. length (state_of x).nodes) s.state in let b = s.settled.bound in let h = u.runnable_bound in omega (arith, a, b, h);
        marks_bound = let a = ap (λ x. length (state_of x).nodes) s.state in let b = s.settled.marks_bound in let h = u.marks_bound in omega (arith, a, b, h);
        marks_within = let a = s.settled.marks_bound in let b = s.settled.bound in let h = u.marks_within in omega (arith, a, b, h);
        counts_are = subst (λ k. AreCounted S Z Q k) (sym s.counts) u.counts_are;
      })

pub settled_stands : WakesAreMarked → CountsGoOn → SettledStands
settled_stands marked counts S Z P e v n woken u s =
    (stands marked counts S Z P e v n woken u s, woken_are marked counts S Z P e v n woken u s)
