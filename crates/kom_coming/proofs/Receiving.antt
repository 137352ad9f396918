-- Who may take what comes into a direction.
use Rattle.std.proofs.Common.{◌≡◌, ℕ, Bool, true, false, if◌then◌else◌, ◌&&◌, ◌==◌, refl, sym, ap, ◌∙◌, subst, List, [], ◌∷◌, Option, Some, None, ◌⊎◌, inl, inr, eq-eqb}
use Rattle.std.specs.Prelude.{is_some}
use Rattle.std.specs.Option.{option_and_then, option_map}
use Rattle.std.proofs.lemmas.Bool.{eqb-true}
use Rattle.kom_base.specs.declared.numbers.Dir.{Dir}
use Rattle.kom_base.specs.declared.numbers.Dir.TheVariants.{Plus, Minus}
use Rattle.kom_base.specs.declared.numbers.EntryNo.{EntryNo}
use Rattle.kom_base.specs.declared.numbers.Half.{Half}
use Rattle.kom_base.specs.Numbers.{opposite, same_dir}
use Rattle.kom_laws.proofs.Members.{Some-injective}
use Rattle.kom_laws.proofs.Unaffected.{and_both}
use Rattle.kom_numbers.specs.Numbering.{leads_out}
use Rattle.kom_refine.specs.Points.{receiver_of}
use Rattle.kom_refine.specs.States.{Link, Queue, State, end_of}
use Rattle.kom_refine.specs.Steps.{HaveCome}
use Rattle.kom_state.specs.Facts.{HoldsTogether}
use Rattle.kom_state.specs.Parts.{Parts, state_of}
use Rattle.kom_state.specs.Steps.{into_one}
use Rattle.kom_wakes.specs.Laws.{ComingsLeave}
use Rattle.kom_wakes.specs.Work.{HasSameWork, IsNotReceiver}

true_is_false : (b : Bool) → b ≡ true → b ≡ false → ⊥
true_is_false b e f = let g : true ≡ false = sym e ∙ f in cc

linked : (q : Option Queue) (b : Bool) (l : Option Link) (d : Dir) → option_map (λ q. q.receiver) q ≡ (if b then None else option_map (receiver_of d) l) → is_some q ≡ true → is_some l ≡ true
linked None b l d e h = absurd cc
linked (Some q) true l d e h = absurd cc
linked (Some q) false None d e h = absurd cc
linked (Some q) false (Some l) d e h = refl

taker : (b : Bool) (h : Option Half) (c : ℕ) → (if b then None else option_map (λ (h : Half). h.comp) h) ≡ Some c → (k : Half) × (h ≡ Some k) × (k.comp ≡ c)
taker true h c e = absurd cc
taker false None c e = absurd cc
taker false (Some k) c e = (k, refl, Some-injective e)

-- who receives is at the end
receives : (q : Queue) (b : Bool) (l : Option Link) (d : Dir) (c : ℕ) → option_map (λ q. q.receiver) (Some q) ≡ (if b then None else option_map (receiver_of d) l) → q.receiver ≡ Some c
    → (k : Half) × (option_and_then (λ l. end_of l (opposite d)) l ≡ Some k) × (k.comp ≡ c)
receives q true l d c e r = absurd cc
receives q false None d c e r = absurd cc
receives q false (Some l) d c e r = taker l.held (end_of l (opposite d)) c (sym (Some-injective e) ∙ r)

other_not : (q : Option Queue) (b : Bool) (l : Option Link) (d : Dir) (h : Half) (c : ℕ) → option_map (λ q. q.receiver) q ≡ (if b then None else option_map (receiver_of d) l)
    → option_and_then (λ l. end_of l (opposite d)) l ≡ Some h → (c == h.comp) ≡ false → IsNotReceiver c q
other_not None b l d h c e f n = tt
other_not (Some q) b l d h c e f n = λ r.
    let k = receives q b l d c e r in
    let same : h ≡ k.0 = Some-injective (sym f ∙ k.1) in
    true_is_false (c == h.comp) (eq-eqb c h.comp (sym k.2 ∙ sym (ap (λ z. z.comp) same))) n

none_not : (q : Option Queue) (b : Bool) (l : Option Link) (d : Dir) (c : ℕ) → option_map (λ q. q.receiver) q ≡ (if b then None else option_map (receiver_of d) l)
    → option_and_then (λ l. end_of l (opposite d)) l ≡ None → IsNotReceiver c q
none_not None b l d c e f = tt
none_not (Some q) b l d c e f = λ r. let k = receives q b l d c e r in let z : Some k.0 ≡ None = sym k.1 ∙ f in cc

alike : (d e : Dir) → same_dir d e ≡ true → d ≡ e
alike Plus Plus h = refl
alike Plus Minus h = absurd cc
alike Minus Plus h = absurd cc
alike Minus Minus h = refl

module _ (v : Parts) (t : HoldsTogether v) (x : ℕ) (d : Dir) where
  pub link_there : is_some ((state_of v).queues x d) ≡ true → is_some ((state_of v).links x) ≡ true
  link_there h = linked ((state_of v).queues x d) (leads_out v.numbers x d) ((state_of v).links x) d (t.receivers x d) h

  -- a step that brings a number there leaves who does not receive it
  leaves : (k : EntryNo) (n : State) (c : ℕ) → ComingsLeave → HaveCome (into_one x d k) (state_of v) n → IsNotReceiver c ((state_of v).queues x d) → HasSameWork (state_of v) n c
  leaves k n c law step not = law (into_one x d k) (state_of v) n c step (λ y e. go y e (y == x && same_dir d e) refl)
    where
      go : (y : ℕ) (e : Dir) (b : Bool) → (y == x && same_dir d e) ≡ b → (into_one x d k y e ≡ []) ⊎ IsNotReceiver c ((state_of v).queues y e)
      go y e false h = inl (ap (λ b. if◌then◌else◌ {A = List EntryNo} b (k ∷ []) []) h)
      go y e true h =
          let w = and_both (y == x) (same_dir d e) h in
          inr (subst (λ z. IsNotReceiver c ((state_of v).queues z e)) (sym (eqb-true y x w.0)) (subst (λ f. IsNotReceiver c ((state_of v).queues x f)) (alike d e w.1) not))

  pub others_stay : (k : EntryNo) (n : State) (h : Half) → ComingsLeave → HaveCome (into_one x d k) (state_of v) n → option_and_then (λ l. end_of l (opposite d)) ((state_of v).links x) ≡ Some h
      → (c : ℕ) → (c == h.comp) ≡ false → HasSameWork (state_of v) n c
  others_stay k n h law step f c ne = leaves k n c law step (other_not ((state_of v).queues x d) (leads_out v.numbers x d) ((state_of v).links x) d h c (t.receivers x d) f ne)

  pub all_stay : (k : EntryNo) (n : State) → ComingsLeave → HaveCome (into_one x d k) (state_of v) n → option_and_then (λ l. end_of l (opposite d)) ((state_of v).links x) ≡ None → (c : ℕ) → HasSameWork (state_of v) n c
  all_stay k n law step f c = leaves k n c law step (none_not ((state_of v).queues x d) (leads_out v.numbers x d) ((state_of v).links x) d c (t.receivers x d) f)
