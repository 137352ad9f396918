-- A run of small steps has one end at most.
use Rattle.std.proofs.Common.{◌≡◌, ℕ, zero, suc, refl, sym, ap, ◌∙◌}
use Rattle.kom_lang.specs.Steps.{Context, Progress, Running, Ended, Faulted, after, step}
use Rattle.kom_record.specs.Model.{model}

-- the run is over
abbrev IsOver : Progress → Type 0
IsOver (Running c) = ⊥
IsOver (Ended b es) = Unit {0}
IsOver (Faulted n) = Unit {0}

over_stays : (n : ℕ) (g : Context) (x : Progress) → IsOver x → after n g x ≡ x
unfolding model
over_stays zero g x h = refl
over_stays (suc n) g (Running c) h = absurd h
over_stays (suc n) g (Ended b es) h = over_stays n g (Ended b es) tt
over_stays (suc n) g (Faulted k) h = over_stays n g (Faulted k) tt

-- two ends of one run are the same
pub one_end : (n m : ℕ) (g : Context) (x y z : Progress) → IsOver y → IsOver z → after n g x ≡ y → after m g x ≡ z → y ≡ z
unfolding model
one_end zero m g x y z h k p q = sym (over_stays m g y h) ∙ ap (after m g) (sym p) ∙ q
one_end (suc n) zero g x y z h k p q = sym p ∙ ap (after (suc n) g) q ∙ over_stays (suc n) g z k
one_end (suc n) (suc m) g x y z h k p q = one_end n m g (step g x) y z h k p q
