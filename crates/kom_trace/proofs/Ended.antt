-- What the text of a record ends with, by what was counted.
use Rattle.std.proofs.Common.{◌≡◌, Bool, true, false, not, ◌&&◌, ◌||◌, ◌==◌, refl, sym, ap, ◌∙◌, [], ◌∷◌, ◌++◌}
use Rattle.std.specs.Prelude.{codes, is_some, is_none, nat_le, if◌then◌else◌}
use Rattle.std.specs.List.{count_by}
use Rattle.std.proofs.lemmas.List.{append_assoc, append-nil}
use Rattle.kom_base.specs.Lists.{first}
use Rattle.kom_lang.specs.Declarations.{Declarations}
use Rattle.kom_record.specs.declared.plan.Plan.{Plan}
use Rattle.kom_record.specs.declared.answers.Tally.{Tally}
use Rattle.kom_record.specs.Entries.{History, in_hand}
use Rattle.kom_record.specs.Ready.{is_took, has_unhandled, is_closed, is_idle, is_finished, has_more}
use Rattle.kom_record.specs.Legal.{IsLegal}
use Rattle.kom_record.specs.Trace.{Text, number, ending, end_lines, joined}
use Rattle.kom_trace.specs.declared.counts.Counts.{Counts}
use Rattle.kom_trace.specs.Counting.{HasCounted, IsTallyOf, closed_by, finished_by}
use Rattle.kom_trace.specs.Seen.{end_text}
use Rattle.kom_trace.proofs.Jobs.{none_in_hand}
use Rattle.kom_trace.proofs.Counted.{has_first}

not_not : (b : Bool) → not (not b) ≡ b
not_not true = refl
not_not false = refl

one_line : (e q a o b : Text) → e ++ (q ++ a ++ o ++ b) ≡ e ++ q ++ a ++ o ++ b
one_line e q a o b =
    sym (append_assoc e (q ++ a ++ o) b)
    ∙ ap (λ u. u ++ b) (sym (append_assoc e (q ++ a) o))
    ∙ ap (λ u. (u ++ o) ++ b) (sym (append_assoc e q a))

in_two : (start f e l : Text) → (((((start ++ f) ++ 10 ∷ []) ++ e) ++ l) ++ 10 ∷ []) ≡ start ++ ((f ++ 10 ∷ []) ++ (((e ++ l) ++ 10 ∷ []) ++ []))
in_two start f e l =
    ap (λ u. ((u ++ e) ++ l) ++ 10 ∷ []) (append_assoc start f (10 ∷ []))
    ∙ ap (λ u. u ++ 10 ∷ []) (append_assoc (start ++ (f ++ 10 ∷ [])) e l)
    ∙ append_assoc (start ++ (f ++ 10 ∷ [])) (e ++ l) (10 ∷ [])
    ∙ append_assoc start (f ++ 10 ∷ []) ((e ++ l) ++ 10 ∷ [])
    ∙ ap (λ u. start ++ ((f ++ 10 ∷ []) ++ u)) (sym (append-nil ((e ++ l) ++ 10 ∷ [])))

module _ (S : Declarations) (Z : Plan) (P : History) (n : Counts) (t : Tally) (h : HasCounted S n P) (m : IsTallyOf S Z P t) where
  idle_is : not t.more ≡ is_idle S Z P
  unfolding has_more
  idle_is = ap not m.more ∙ not_not (is_idle S Z P)

  closed_is : closed_by n Z ≡ is_closed S Z P
  unfolding is_closed
  closed_is =
      ap (λ b. b || nat_le Z.steps n.took || nat_le Z.instants n.moved) (ap is_some h.unhandled ∙ sym (has_first S P))
      ∙ ap (λ k. has_unhandled S P || nat_le Z.steps k || nat_le Z.instants n.moved) h.took
      ∙ ap (λ k. has_unhandled S P || nat_le Z.steps (count_by is_took P) || nat_le Z.instants k) h.moved

  pub finished_is : ∥ IsLegal S Z P ∥₁ → finished_by n Z t ≡ is_finished S Z P
  unfolding is_finished
  finished_is l =
      ap (λ k. k == n.did && (closed_by n Z || not t.more)) h.took
      ∙ ap (λ k. count_by is_took P == k && (closed_by n Z || not t.more)) h.did
      ∙ ap (λ b. b && (closed_by n Z || not t.more)) (sym (none_in_hand S Z P l))
      ∙ ap (λ b. is_none (first (in_hand P)) && (b || not t.more)) closed_is
      ∙ ap (λ b. is_none (first (in_hand P)) && (is_closed S Z P || b)) idle_is

  -- the parts of the two lines, one after another
  pub two_lines : (start t1 t2 t3 t4 t5 : Text)
      → t1 ≡ start ++ ending n.unhandled (not t.more)
      → t2 ≡ t1 ++ 10 ∷ []
      → t3 ≡ t2 ++ (codes "took" ++ number n.took ++ codes " did" ++ number n.did ++ codes " moved" ++ number n.moved)
      → t4 ≡ t3 ++ (codes " queued" ++ number t.queued ++ codes " out" ++ number t.out)
      → t5 ≡ t4 ++ 10 ∷ []
      → t5 ≡ start ++ joined (end_lines S Z P)
  unfolding joined end_lines
  two_lines start t1 t2 t3 t4 t5 a b c d e =
      let first = ending n.unhandled (not t.more) in
      let entries = codes "took" ++ number n.took ++ codes " did" ++ number n.did ++ codes " moved" ++ number n.moved in
      let left = codes " queued" ++ number t.queued ++ codes " out" ++ number t.out in
      e
      ∙ ap (λ u. u ++ 10 ∷ []) d
      ∙ ap (λ u. (u ++ left) ++ 10 ∷ []) c
      ∙ ap (λ u. ((u ++ entries) ++ left) ++ 10 ∷ []) b
      ∙ ap (λ u. (((u ++ 10 ∷ []) ++ entries) ++ left) ++ 10 ∷ []) a
      ∙ in_two start first entries left
      ∙ ap (λ u. start ++ ((first ++ 10 ∷ []) ++ ((u ++ 10 ∷ []) ++ []))) (one_line (codes "took" ++ number n.took ++ codes " did" ++ number n.did ++ codes " moved" ++ number n.moved) (codes " queued") (number t.queued) (codes " out") (number t.out))
      ∙ (λ x. start ++ ((ending (h.unhandled x) (idle_is x) ++ 10 ∷ [])
      ++ (((codes "took" ++ number (h.took x) ++ codes " did" ++ number (h.did x) ++ codes " moved" ++ number (h.moved x) ++ codes " queued" ++ number (m.queued x) ++ codes " out" ++ number (m.out x)) ++ 10 ∷ []) ++ [])))

pub ends_finished : (S : Declarations) (Z : Plan) (P : History) (start new : Text) → is_finished S Z P ≡ true → new ≡ start ++ joined (end_lines S Z P) → new ≡ start ++ end_text S Z P
ends_finished S Z P start new f e = e ∙ ap (λ b. start ++ joined (if b then end_lines S Z P else [])) (sym f)

pub ends_unfinished : (S : Declarations) (Z : Plan) (P : History) (start : Text) → is_finished S Z P ≡ false → start ≡ start ++ end_text S Z P
unfolding joined
ends_unfinished S Z P start f = sym (append-nil start) ∙ ap (λ b. start ++ joined (if b then end_lines S Z P else [])) (sym f)
