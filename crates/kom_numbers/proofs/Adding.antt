-- The numbers with the channels of one more instance.
use Rattle.std.proofs.Common.{◌≡◌, ℕ, zero, suc, ◌+◌, ◌<◌, ◌≤◌, List, [], ◌∷◌, ◌++◌, length, take, Some, refl, sym, ap, ◌∙◌, arith, inl, inr, ◌⊎◌}
use Rattle.std.specs.Prelude.{slice_get, sum}
use Rattle.std.proofs.lemmas.List.{length-map}
use Rattle.kom_base.specs.declared.numbers.Dir.{Dir}
use Rattle.kom_numbers.specs.declared.numbers.Span.{Span}
use Rattle.kom_numbers.specs.Spans.{counts_of, start_of, Start}
use Rattle.kom_numbers.proofs.Ownership.{sum_is, sum_end, take_front, at_total}

pub counts_more : (spans : List Span) (s : Span) → counts_of (spans ++ s ∷ []) ≡ counts_of spans ++ s.count ∷ []
counts_more [] s = refl
counts_more (t ∷ spans) s = ap (λ l. t.count ∷ l) (counts_more spans s)

pub total_more : (spans : List Span) (s : Span) → sum (counts_of (spans ++ s ∷ [])) ≡ sum (counts_of spans) + s.count
total_more spans s = ap sum (counts_more spans s) ∙ sum_is (counts_of spans ++ s.count ∷ []) ∙ sum_end (counts_of spans) s.count ∙ ap (λ k. k + s.count) (sym (sum_is (counts_of spans)))

start_more : (outs : List Dir) (spans : List Span) (s : Span) (c : ℕ) → c ≤ length spans → start_of outs (spans ++ s ∷ []) c ≡ start_of outs spans c
start_more outs spans s c h =
    ap (λ l. length outs + sum (take c l)) (counts_more spans s)
    ∙ ap (λ l. length outs + sum l) (take_front (counts_of spans) s.count c (omega (arith, h, length-map spans (λ (u : Span). u.count))))

-- an entry of a longer list is one of the list, or the new one
last_or : (spans : List Span) (s u : Span) (c : ℕ) → slice_get (spans ++ s ∷ []) c ≡ Some u → ((c < length spans) × (slice_get spans c ≡ Some u)) ⊎ ((c ≡ length spans) × (u ≡ s))
last_or [] s u zero h = inr (refl, cc)
last_or [] s u (suc c) h = absurd (cc)
last_or (t ∷ spans) s u zero h = inl (omega arith, h)
last_or (t ∷ spans) s u (suc c) h = elim (last_or spans s u c h) [
  | inl old ↦ inl (omega (arith, old.0), old.1)
  | inr new ↦ inr (ap suc new.0, new.1)
]

pub start_kept : (outs : List Dir) (spans : List Span) (s : Span) → Start outs spans → s.first ≡ length outs + sum (counts_of spans) → Start outs (spans ++ s ∷ [])
start_kept outs spans s old e c u h = elim (last_or spans s u c h) [
  | inl q ↦ old c u q.1 ∙ sym (start_more outs spans s c (omega (arith, q.0)))
  | inr q ↦
      ap (λ (v : Span). v.first) q.1 ∙ e
      ∙ sym (ap (start_of outs (spans ++ s ∷ [])) q.0 ∙ start_more outs spans s (length spans) (omega arith) ∙ at_total outs spans)
]
