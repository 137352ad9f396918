-- What entered a direction has strictly rising numbers, by a test of each pair of neighbours.
use Rattle.std.proofs.Common.{◌≡◌, ℕ, Bool, true, false, ◌&&◌, ◌||◌, ◌==◌, refl, ap, ◌∙◌, List, [], ◌∷◌, inl, inr, eq-eqb}
use Rattle.std.specs.Prelude.{nat_lt}
use Rattle.std.proofs.lemmas.Bool.{lt-ltb}
use Rattle.kom_base.specs.declared.numbers.Dir.{Dir}
use Rattle.kom_base.specs.Numbers.{is_earlier}
use Rattle.kom_lang.specs.Declarations.{Declarations}
use Rattle.kom_record.specs.Entries.{History}
use Rattle.kom_record.specs.Queues.{Envelope, entered}
use Rattle.kom_laws.specs.Laws.{Rises}
use Rattle.kom_laws.proofs.Members.{here}
use Rattle.kom_laws.proofs.Rising.{Earlier, Rising}
use Rattle.kom_laws.proofs.InOrder.{entered_rises}

or_true : (b : Bool) → (b || true) ≡ true
or_true true = refl
or_true false = refl

earlier_test : (a b : Envelope) → Earlier a b → is_earlier a.no b.no ≡ true
earlier_test a b (inl h) = ap (λ t. t || (a.no.position == b.no.position && nat_lt a.no.place b.no.place)) (lt-ltb a.no.position b.no.position h)
earlier_test a b (inr h) =
    ap (λ t. nat_lt a.no.position b.no.position || (t && nat_lt a.no.place b.no.place)) (eq-eqb a.no.position b.no.position h.0)
    ∙ ap (λ t. nat_lt a.no.position b.no.position || t) (lt-ltb a.no.place b.no.place h.1)
    ∙ or_true _

neighbours : (ps : List Envelope) → Rising ps → Rises ps
neighbours [] h = tt
neighbours (p ∷ []) h = tt
neighbours (p ∷ q ∷ ps) h = (earlier_test p q (h.0 q here), neighbours (q ∷ ps) h.1)

pub rises : (S : Declarations) (R : History) (x : ℕ) (d : Dir) → Rises (entered S R x d)
rises S R x d = neighbours _ (entered_rises S x d R)
