-- What is accepted is done, and what breaks a rule is refused.
use Rattle.std.proofs.Common.{◌≡◌, ◌≤◌, ◌<◌, ◌^◌, ◌∙◌, ap, ℕ, Bool, true, false, List, Option, Some, refl, sym, subst, arith, inl, inr}
use Rattle.std.specs.Prelude.{◌&&◌, if◌then◌else◌, codes, decimal}
use Rattle.std.proofs.lemmas.Fmt.{decimal_injective}
use Rattle.kom_lang.specs.Declarations.{Declarations}
use Rattle.kom_record.specs.declared.plan.Plan.{Plan}
use Rattle.kom_record.specs.Entries.{History}
use Rattle.kom_record.specs.Kept.{Kept}
use Rattle.kom_record.specs.Ready.{has_unhandled, is_closed, has_more}
use Rattle.kom_system.specs.Contents.{Contents}
use Rattle.kom_make.specs.Texts.{system_text, scenario_text}
use Rattle.kom_loading.specs.Loading.{Stands, IsRefused, too_long, breaks}
use Rattle.kom_loading.specs.Scenarios.{IsPlanOf, IsRefusedFor}
use Rattle.kom_loading.specs.Scenarios as planning
use Rattle.kom_sysfile.proofs.Exact as systems
use Rattle.kom_scenario.proofs.Exact as scenarios
use Rattle.kompics.specs.declared.command.Form.{Form}
use Rattle.kompics.specs.declared.command.Form.TheVariants.{AsItIs, Upgraded}
use Rattle.kompics.specs.Words.{print, sim, run, make, drill, IsNoCommand, IsNoRun}
use Rattle.kompics.specs.Runs.{Drive, status_of}
use Rattle.kompics.specs.Top.{Files, AsksFiles, to_simulate, to_work, AsksRun, of_files, of_number, AsksSystem, to_print, to_run, Ends, no_command, made_system, made_scenario, printed, system_refused, scenario_refused, ran, Told, IsDone, IsAccepted, to_make_system, to_make_scenario, to_write, to_go, HasBroken, in_system, in_scenario}
use Rattle.kompics.proofs.Words.{head_is, second_is, third_is, no_sim, drill_is_no_form}

-- ---- a text is not both accepted and refused

stands_unrefused : (text : List ℕ) (S : Contents) (rule line column : ℕ) → Stands text S → IsRefused text rule line column → ⊥
stands_unrefused text S rule line column s (too_long l) = let h = s.short in omega (arith, h, l)
stands_unrefused text S rule line column s (breaks r li co h b) = systems.not_both text r b.at S b.breaks s.accepted

planned_unrefused : (S : Contents) (text : List ℕ) (Z : Plan) (rule line column : ℕ) → IsPlanOf S text Z → IsRefusedFor S text rule line column → ⊥
planned_unrefused S text Z rule line column p (planning.too_long l) = let h = p.short in omega (arith, h, l)
planned_unrefused S text Z rule line column p (planning.breaks r li co h b) = scenarios.not_both S text r b.at p.scene b.breaks p.accepted

-- ---- words ask for one thing

two_drill : (form : Form) (s : List ℕ) (n : ℕ) → print form s ≡ drill n → ⊥
two_drill AsItIs s n h = drill_is_no_form (inl (sym (head_is (codes "check") (codes "drill") _ _ h)))
two_drill Upgraded s n h = drill_is_no_form (inr (sym (head_is (codes "upgrade") (codes "drill") _ _ h)))

no_print_sim : (form : Form) (s a b : List ℕ) → print form s ≡ sim a b → ⊥
no_print_sim AsItIs s a b h = cc
no_print_sim Upgraded s a b h = cc

no_print_run : (form : Form) (s a b : List ℕ) (n : ℕ) → print form s ≡ run a b n → ⊥
no_print_run AsItIs s a b n h = cc
no_print_run Upgraded s a b n h = cc

no_print_make : (form : Form) (s : List ℕ) (n : ℕ) (what : List ℕ) → print form s ≡ make n what → ⊥
no_print_make AsItIs s n what h = cc
no_print_make Upgraded s n what h = cc

one_print : (form form' : Form) (s s' : List ℕ) → print form s ≡ print form' s' → s ≡ s'
one_print AsItIs AsItIs s s' h = second_is _ s _ s' _ _ h
one_print AsItIs Upgraded s s' h = second_is _ s _ s' _ _ h
one_print Upgraded AsItIs s s' h = second_is _ s _ s' _ _ h
one_print Upgraded Upgraded s s' h = second_is _ s _ s' _ _ h

sim_run : (a b c d : List ℕ) (n : ℕ) → sim a b ≡ run c d n → ⊥
sim_run a b c d n h = cc

sim_drill : (a b : List ℕ) (n : ℕ) → sim a b ≡ drill n → ⊥
sim_drill a b n h = cc

run_drill : (a b : List ℕ) (n m : ℕ) → run a b n ≡ drill m → ⊥
run_drill a b n m h = cc

make_run : (n : ℕ) (what a b : List ℕ) (m : ℕ) → make n what ≡ run a b m → ⊥
make_run n what a b m h = cc

make_drill : (n : ℕ) (what : List ℕ) (m : ℕ) → make n what ≡ drill m → ⊥
make_drill n what m h = cc

run_third : (a b c d : List ℕ) (n m : ℕ) → run a b n ≡ run c d m → b ≡ d
run_third a b c d n m h = cc

one_number : (n m : ℕ) → n ≤ 30 → m ≤ 30 → drill n ≡ drill m → n ≡ m
one_number n m a b h =
    let e : decimal n ≡ decimal m = second_is _ (decimal n) _ (decimal m) _ _ h in
    let p : n < 2 ^ 64 = omega (arith, a) in
    let q : m < 2 ^ 64 = omega (arith, b) in
    decimal_injective n m p q e

module _ (has_workers : Bool) (system scenario : List ℕ) (words : List (List ℕ)) (files : Files) where
  -- the words of a run of two texts
  data Source : (st zt : Option (List ℕ)) → Type 0 where
    by_sim : (s z : List ℕ) → words ≡ sim s z → Source (files s) (files z)
    by_run : (s z : List ℕ) (n : ℕ) → 1 ≤ n → n ≤ 64 → has_workers ≡ true → words ≡ run s z n → Source (files s) (files z)
    by_drill : (n : ℕ) → 1 ≤ n → n ≤ 30 → words ≡ drill n → Source (Some (system_text system n)) (Some (scenario_text scenario n))

  source_of_files : {drive : Drive} {s z : List ℕ} → AsksFiles has_workers words drive s z → Source (files s) (files z)
  source_of_files (to_simulate s z w) = by_sim s z w
  source_of_files (to_work h s z n a b w) = by_run s z n a b h w

  source : {drive : Drive} {brief : Bool} {st zt : Option (List ℕ)} → AsksRun has_workers system scenario words files drive brief st zt → Source st zt
  source (of_files drive s z asks) = source_of_files asks
  source (of_number n a b w) = by_drill n a b w

  one_source : {st zt st' zt' : Option (List ℕ)} → Source st zt → Source st' zt' → (st ≡ st') × (zt ≡ zt')
  one_source (by_sim s z w) (by_sim s' z' w') =
      let h : sim s z ≡ sim s' z' = sym w ∙ w' in
      (ap files (second_is _ s _ s' _ _ h), ap files (third_is _ _ z _ _ z' h))
  one_source (by_sim s z w) (by_run s' z' n a b e w') = absurd (sim_run s z s' z' n (sym w ∙ w'))
  one_source (by_sim s z w) (by_drill n a b w') = absurd (sim_drill s z n (sym w ∙ w'))
  one_source (by_run s z n a b e w) (by_sim s' z' w') = absurd (sim_run s' z' s z n (sym w' ∙ w))
  one_source (by_run s z n a b e w) (by_run s' z' n' a' b' e' w') =
      let h : run s z n ≡ run s' z' n' = sym w ∙ w' in
      (ap files (second_is _ s _ s' _ _ h), ap files (run_third s z s' z' n n' h))
  one_source (by_run s z n a b e w) (by_drill m a' b' w') = absurd (run_drill s z n m (sym w ∙ w'))
  one_source (by_drill n a b w) (by_sim s z w') = absurd (sim_drill s z n (sym w' ∙ w))
  one_source (by_drill n a b w) (by_run s z m a' b' e w') = absurd (run_drill s z m n (sym w' ∙ w))
  one_source (by_drill n a b w) (by_drill m a' b' w') =
      let e : n ≡ m = one_number n m b b' (sym w ∙ w') in
      (ap (λ k. Some (system_text system k)) e, ap (λ k. Some (scenario_text scenario k)) e)

  print_is_none : (form : Form) (s : List ℕ) {st zt : Option (List ℕ)} → words ≡ print form s → Source st zt → ⊥
  print_is_none form s w (by_sim a b w') = no_print_sim form s a b (sym w ∙ w')
  print_is_none form s w (by_run a b n p q e w') = no_print_run form s a b n (sym w ∙ w')
  print_is_none form s w (by_drill n p q w') = two_drill form s n (sym w ∙ w')

  make_is_none : (n : ℕ) (what : List ℕ) {st zt : Option (List ℕ)} → words ≡ make n what → Source st zt → ⊥
  make_is_none n what w (by_sim a b w') = no_sim (decimal n) what a b (sym w ∙ w')
  make_is_none n what w (by_run a b m p q e w') = make_run n what a b m (sym w ∙ w')
  make_is_none n what w (by_drill m p q w') = make_drill n what m (sym w ∙ w')

  -- the words of a command that reads a system
  data Reads : (st : Option (List ℕ)) → Type 0 where
    prints : (form : Form) (s : List ℕ) → words ≡ print form s → Reads (files s)
    runs_it : (st zt : Option (List ℕ)) → Source st zt → Reads st

  reads : {st : Option (List ℕ)} → AsksSystem has_workers system scenario words files st → Reads st
  reads (to_print form s w) = prints form s w
  reads (to_run drive brief st zt asks) = runs_it st zt (source asks)

  one_system : {st st' : Option (List ℕ)} → Reads st → Reads st' → st ≡ st'
  one_system (prints form s w) (prints form' s' w') = ap files (one_print form form' s s' (sym w ∙ w'))
  one_system (prints form s w) (runs_it st zt r) = absurd (print_is_none form s w r)
  one_system (runs_it st zt r) (prints form s w) = absurd (print_is_none form s w r)
  one_system (runs_it st zt r) (runs_it st' zt' r') = (one_source r r').0

  make_reads_none : (n : ℕ) (what : List ℕ) {st : Option (List ℕ)} → words ≡ make n what → Reads st → ⊥
  make_reads_none n what w (prints form s w') = no_print_make form s n what (sym w' ∙ w)
  make_reads_none n what w (runs_it st zt r) = make_is_none n what w r

  is_command : {st : Option (List ℕ)} → IsNoCommand words → (has_workers ≡ true → IsNoRun words) → Reads st → ⊥
  is_command c r (prints form s w) = c.no_print form s w
  is_command c r (runs_it st zt (by_sim s z w)) = c.no_sim s z w
  is_command c r (runs_it st zt (by_run s z n a b e w)) = r e s z n a b w
  is_command c r (runs_it st zt (by_drill n a b w)) = c.no_drill n a b w

  -- ---- what is told of a text is told of it

  told_of : {P : List ℕ → Type 0} {st st' : Option (List ℕ)} {text : List ℕ} → st ≡ st' → Told st P → st' ≡ Some text → P text
  told_of same told e = told _ (same ∙ e)

  same_system : {text : List ℕ} {S S' : Contents} → Stands text S → Stands text S' → S ≡ S'
  same_system s s' = systems.one_value _ _ _ s.accepted s'.accepted

  -- a scenario that is accepted for the one system is not refused for the other of the same text
  unrefused : (text scene : List ℕ) (S S' : Contents) (Z : Plan) (rule line column : ℕ)
      → Stands text S → Stands text S' → IsPlanOf S scene Z → IsRefusedFor S' scene rule line column → ⊥
  unrefused text scene S S' Z rule line column s s' p r =
      planned_unrefused S scene Z rule line column p (subst (λ (T : Contents). IsRefusedFor T scene rule line column) (sym (same_system s s')) r)

  -- ---- the status of a run

  done_by : (a b : Bool) → IsDone true (if a then 3 else (if b then 4 else 0))
  done_by true b = inr (refl, inl refl)
  done_by false true = inr (refl, inr refl)
  done_by false false = inl refl

  status_is_done : (S : Declarations) (Z : Plan) (R : History) → IsDone true (status_of S Z R)
  status_is_done S Z R = done_by (has_unhandled S R) (is_closed S Z R && has_more S Z R)

  -- ---- what is accepted is done

  to_system : (st : Option (List ℕ)) (rule line column : ℕ) → Reads st → Told st (λ text. IsRefused text rule line column)
      → (runs : Bool) → IsAccepted has_workers system scenario words files runs → ⊥
  to_system st rule line column r told false (to_make_system n a b w) = make_reads_none n _ w r
  to_system st rule line column r told false (to_make_scenario n a b w) = make_reads_none n _ w r
  to_system st rule line column r told false (to_write form s text S w e stands) =
      stands_unrefused text S rule line column stands (told_of (one_system r (prints form s w)) told e)
  to_system st rule line column r told true (to_go drive brief st' zt' text scene S Z asks e stands e' plan) =
      stands_unrefused text S rule line column stands (told_of (one_system r (runs_it st' zt' (source asks))) told e)

  to_scenario : (st zt : Option (List ℕ)) (S : Contents) (rule line column : ℕ) → Source st zt
      → Told st (λ text. Stands text S) → Told zt (λ scene. IsRefusedFor S scene rule line column)
      → (runs : Bool) → IsAccepted has_workers system scenario words files runs → ⊥
  to_scenario st zt S rule line column r told told' false (to_make_system n a b w) = make_is_none n _ w r
  to_scenario st zt S rule line column r told told' false (to_make_scenario n a b w) = make_is_none n _ w r
  to_scenario st zt S rule line column r told told' false (to_write form s text S' w e stands) = print_is_none form s w r
  to_scenario st zt S rule line column r told told' true (to_go drive brief st' zt' text scene S' Z asks e stands e' plan) =
      let same = one_source r (source asks) in
      unrefused text scene S' S Z rule line column stands (told_of (same.0) told e) plan (told_of (same.1) told' e')

  to_nothing : IsNoCommand words → (has_workers ≡ true → IsNoRun words) → (runs : Bool) → IsAccepted has_workers system scenario words files runs → ⊥
  to_nothing c r false (to_make_system n a b w) = c.no_system n a b w
  to_nothing c r false (to_make_scenario n a b w) = c.no_scenario n a b w
  to_nothing c r false (to_write form s text S w e stands) = c.no_print form s w
  to_nothing c r true (to_go drive brief st zt text scene S Z asks e stands e' plan) = is_command c r (runs_it st zt (source asks))

  of_run : {st zt : Option (List ℕ)} → Source st zt → (S : Declarations) (Z : Plan) (R : History)
      → (runs : Bool) → IsAccepted has_workers system scenario words files runs → IsDone runs (status_of S Z R)
  of_run r S Z R false (to_make_system n a b w) = absurd (make_is_none n _ w r)
  of_run r S Z R false (to_make_scenario n a b w) = absurd (make_is_none n _ w r)
  of_run r S Z R false (to_write form s text S' w e stands) = absurd (print_is_none form s w r)
  of_run r S Z R true asks = status_is_done S Z R

  pub is_done : (kept : Option Kept) (n : ℕ) (output : List ℕ) → Ends has_workers system scenario words files kept n output
      → (runs : Bool) → IsAccepted has_workers system scenario words files runs → IsDone runs n
  is_done kept n output (no_command c r) runs asks = absurd (to_nothing c r runs asks)
  is_done kept n output (made_system m a b w) runs asks = inl refl
  is_done kept n output (made_scenario m a b w) runs asks = inl refl
  is_done kept n output (printed form s S w t) runs asks = inl refl
  is_done kept n output (system_refused st rule line column r t) runs asks = absurd (to_system st rule line column (reads r) t runs asks)
  is_done kept n output (scenario_refused drive brief st zt S rule line column r t u) runs asks =
      absurd (to_scenario st zt S rule line column (source r) t u runs asks)
  is_done kept n output (ran drive brief st zt S Z k r t u rec) runs asks = of_run (source r) S.declarations Z k.history runs asks

  -- ---- what breaks a rule is refused

  broken_reads : HasBroken has_workers system scenario words files → (st : Option (List ℕ)) × Reads st
  broken_reads (in_system st text rule line column asks e r) = (st, reads asks)
  broken_reads (in_scenario drive brief st zt text scene S rule line column asks e s e' r) = (st, runs_it st zt (source asks))

  not_printed : (form : Form) (s : List ℕ) (S : Contents) → words ≡ print form s → Told (files s) (λ text. Stands text S)
      → HasBroken has_workers system scenario words files → ⊥
  not_printed form s S w t (in_system st text rule line column asks e r) =
      stands_unrefused text S rule line column (told_of (one_system (prints form s w) (reads asks)) t e) r
  not_printed form s S w t (in_scenario drive brief st zt text scene S' rule line column asks e s' e' r) = print_is_none form s w (source asks)

  not_ran : (st zt : Option (List ℕ)) (S : Contents) (Z : Plan) → Source st zt → Told st (λ text. Stands text S) → Told zt (λ scene. IsPlanOf S scene Z)
      → HasBroken has_workers system scenario words files → ⊥
  not_ran st zt S Z q t u (in_system st' text rule line column asks e r) =
      stands_unrefused text S rule line column (told_of (one_system (runs_it st zt q) (reads asks)) t e) r
  not_ran st zt S Z q t u (in_scenario drive brief st' zt' text scene S' rule line column asks e s e' r) =
      let same = one_source q (source asks) in
      unrefused text scene S S' Z rule line column (told_of (same.0) t e) s (told_of (same.1) u e') r

  pub is_refused : (kept : Option Kept) (n : ℕ) (output : List ℕ) → Ends has_workers system scenario words files kept n output
      → HasBroken has_workers system scenario words files → n ≡ 1
  is_refused kept n output (no_command c r) b = absurd (is_command c r (broken_reads b).1)
  is_refused kept n output (made_system m p q w) b = absurd (make_reads_none m _ w (broken_reads b).1)
  is_refused kept n output (made_scenario m p q w) b = absurd (make_reads_none m _ w (broken_reads b).1)
  is_refused kept n output (printed form s S w t) b = absurd (not_printed form s S w t b)
  is_refused kept n output (system_refused st rule line column r t) b = refl
  is_refused kept n output (scenario_refused drive brief st zt S rule line column r t u) b = refl
  is_refused kept n output (ran drive brief st zt S Z k r t u rec) b = absurd (not_ran st zt S Z (source r) t u b)
