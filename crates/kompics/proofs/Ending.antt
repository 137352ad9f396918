-- From what is to be written to how the call ended.
use Rattle.std.proofs.Common.{◌≡◌, ◌≤◌, ◌⊎◌, ◌∙◌, ℕ, Bool, true, false, List, Option, None, refl, sym, subst, arith, inl, inr}
use Rattle.std.specs.Prelude.{◌&&◌, if◌then◌else◌}
use Rattle.kom_io.specs.Faults.{Rose}
use Rattle.kom_io.specs.Texts.{AddsPrefix}
use Rattle.kom_lang.specs.Declarations.{Declarations}
use Rattle.kom_record.specs.declared.plan.Plan.{Plan}
use Rattle.kom_record.specs.Entries.{History}
use Rattle.kom_record.specs.Kept.{Kept}
use Rattle.kom_record.specs.Ready.{has_unhandled, is_closed, has_more}
use Rattle.kompics.specs.Runs.{status_of}
use Rattle.kompics.specs.declared.top.Ended.{Ended}
use Rattle.kompics.specs.Top.{Files, Stops, Ends, no_command, made_system, made_scenario, printed, system_refused, scenario_refused, ran, Adds, IsWritten, IsDone, IsAccepted, HasBroken, IsEnd}
use Rattle.kompics.proofs.Completing.{is_done, is_refused}

-- ---- the status of a run

least_four : (a b : Bool) → (if a then 3 else (if b then 4 else 0)) ≤ 4
least_four true b = omega arith
least_four false true = omega arith
least_four false false = omega arith

status_low : (S : Declarations) (Z : Plan) (R : History) → status_of S Z R ≤ 4
status_low S Z R = least_four (has_unhandled S R) (is_closed S Z R && has_more S Z R)

-- ---- how the call ended

module _ (has_workers : Bool) (system scenario : List ℕ) (words : List (List ℕ)) (files : Files) where
  low : (kept : Option Kept) (wanted : ℕ) (output : List ℕ) → Ends has_workers system scenario words files kept wanted output → wanted ≤ 4
  low kept wanted output (no_command w none) = omega arith
  low kept wanted output (made_system n a b w) = omega arith
  low kept wanted output (made_scenario n a b w) = omega arith
  low kept wanted output (printed form s S w t) = omega arith
  low kept wanted output (system_refused st rule line column asks t) = omega arith
  low kept wanted output (scenario_refused drive brief st zt S rule line column asks t u) = omega arith
  low kept wanted output (ran drive brief st zt S Z k asks t u r) = status_low S.declarations Z k.history

  module _ (kept : Option Kept) (status wanted : ℕ) (output : List ℕ) (w w' : Option (List ℕ)) (f f' : ℕ) (ends : Ends has_workers system scenario words files kept wanted output) where
    wanted_low : wanted ≤ 4
    wanted_low = low kept wanted output ends

    at_most : IsWritten status wanted output w w' f f' → status ≤ 7
    at_most (inl x) = let l = wanted_low in let e = x.0 in omega (arith, l, e)
    at_most (inr (inl x)) = let e = x.0 in omega (arith, e)
    at_most (inr (inr x)) = let e = x.0 in omega (arith, e)

    whole : IsWritten status wanted output w w' f f' → status ≤ 4
        → (text : List ℕ) × Ends has_workers system scenario words files kept status text × Adds text w w'
    whole (inl x) h = (output, subst (λ (n : ℕ). Ends has_workers system scenario words files kept n output) (sym (x.0)) ends, x.1)
    whole (inr (inl x)) h = absurd (let e = x.0 in omega (arith, e, h))
    whole (inr (inr x)) h = absurd (let e = x.0 in omega (arith, e, h))

    no_stop : IsWritten status wanted output w w' f f' → status ≡ 5 → ⊥
    no_stop (inl x) h = let l = wanted_low in let e = x.0 in omega (arith, l, e, h)
    no_stop (inr (inl x)) h = let e = x.0 in omega (arith, e, h)
    no_stop (inr (inr x)) h = let e = x.0 in omega (arith, e, h)

    sunk : IsWritten status wanted output w w' f f' → status ≡ 6
        → Rose f f' × ((n : ℕ) × (text : List ℕ) × Ends has_workers system scenario words files kept n text × AddsPrefix text w w')
    sunk (inl x) h = absurd (let l = wanted_low in let e = x.0 in omega (arith, l, e, h))
    sunk (inr (inl x)) h = (x.1, (wanted, output, ends, x.2))
    sunk (inr (inr x)) h = absurd (let e = x.0 in omega (arith, e, h))

    cut_short : IsWritten status wanted output w w' f f' → status ≡ 7
        → (n : ℕ) × (text : List ℕ) × Ends has_workers system scenario words files kept n text × AddsPrefix text w w'
    cut_short (inl x) h = absurd (let l = wanted_low in let e = x.0 in omega (arith, l, e, h))
    cut_short (inr (inl x)) h = absurd (let e = x.0 in omega (arith, e, h))
    cut_short (inr (inr x)) h = (wanted, output, ends, x.1)

    all_done : IsWritten status wanted output w w' f f' → (runs : Bool) → IsAccepted has_workers system scenario words files runs → IsDone runs status ⊎ (5 ≤ status)
    all_done (inl x) runs asks = inl (subst (IsDone runs) (sym (x.0)) (is_done has_workers system scenario words files kept wanted output ends runs asks))
    all_done (inr (inl x)) runs asks = inr (let e = x.0 in omega (arith, e))
    all_done (inr (inr x)) runs asks = inr (let e = x.0 in omega (arith, e))

    all_refused : IsWritten status wanted output w w' f f' → HasBroken has_workers system scenario words files → (status ≡ 1) ⊎ (5 ≤ status)
    all_refused (inl x) b = inl (x.0 ∙ is_refused has_workers system scenario words files kept wanted output ends b)
    all_refused (inr (inl x)) b = inr (let e = x.0 in omega (arith, e))
    all_refused (inr (inr x)) b = inr (let e = x.0 in omega (arith, e))

  module _ (e : Ended) (shelf shelf_after : List ℕ → ℕ) where
    pub of_written : (kept : Option Kept) (wanted : ℕ) (output : List ℕ) (w w' : Option (List ℕ)) (f f' : ℕ) → e.kept ≡ kept → Ends has_workers system scenario words files kept wanted output
        → IsWritten e.status wanted output w w' f f' → IsEnd has_workers system scenario words files e shelf shelf_after f f' w w'
    of_written kept wanted output w w' f f' same asks is =
        let ends : Ends has_workers system scenario words files e.kept wanted output = rw same asks in
        record {
          status = at_most e.kept e.status wanted output w w' f f' ends is;
          ended = λ h. whole e.kept e.status wanted output w w' f f' ends is h;
          shelf_fault = λ h. absurd (no_stop e.kept e.status wanted output w w' f f' ends is h);
          sink_fault = λ h. sunk e.kept e.status wanted output w w' f f' ends is h;
          memory = λ h. inr (cut_short e.kept e.status wanted output w w' f f' ends is h);
          complete = λ runs asks. all_done e.kept e.status wanted output w w' f f' ends is runs asks;
          refused = λ b. all_refused e.kept e.status wanted output w w' f f' ends is b;
        }

    pub of_shelf : (w : Option (List ℕ)) (f : ℕ) → e.status ≡ 5 → e.kept ≡ None → Stops has_workers words files shelf shelf_after
        → IsEnd has_workers system scenario words files e shelf shelf_after f f w w
    of_shelf w f s k stops = record {
      status = omega (arith, s);
      ended = λ h. absurd (omega (arith, s, h));
      shelf_fault = λ h. (stops, k, refl);
      sink_fault = λ h. absurd (omega (arith, s, h));
      memory = λ h. absurd (omega (arith, s, h));
      complete = λ runs asks. inr (omega (arith, s));
      refused = λ b. inr (omega (arith, s));
    }

    pub of_memory : (w : Option (List ℕ)) (f : ℕ) → e.status ≡ 7 → e.kept ≡ None
        → IsEnd has_workers system scenario words files e shelf shelf_after f f w w
    of_memory w f s k = record {
      status = omega (arith, s);
      ended = λ h. absurd (omega (arith, s, h));
      shelf_fault = λ h. absurd (omega (arith, s, h));
      sink_fault = λ h. absurd (omega (arith, s, h));
      memory = λ h. inl (k, refl);
      complete = λ runs asks. inr (omega (arith, s));
      refused = λ b. inr (omega (arith, s));
    }
