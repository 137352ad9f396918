-- The change of one channel, and who receives from it.
use Rattle.std.proofs.Common.{◌≡◌, ℕ, ◌≤◌, ◌+◌, List, length, Bool, true, false, if◌then◌else◌, ◌||◌, ◌==◌, refl, sym, ap, ◌∙◌, subst, Option, Some, None, eq-eqb}
use Rattle.std.specs.Option.{IsSome, option_and_then, option_map, option_map_or}
use Rattle.std.proofs.lemmas.Bool.{eqb-true}
use Rattle.kom_base.specs.declared.numbers.Dir.{Dir}
use Rattle.kom_base.specs.declared.numbers.Dir.TheVariants.{Plus, Minus}
use Rattle.kom_base.specs.declared.numbers.Half.{Half}
use Rattle.kom_base.specs.Numbers.{opposite}
use Rattle.kom_comps.specs.Members.{Members, has}
use Rattle.kom_marks.specs.Marking.{IsMarked}
use Rattle.kom_numbers.specs.Numbering.{channel_at, is_pair, is_wire, leads_out, wire_at}
use Rattle.kom_refine.specs.Points.{receiver_of}
use Rattle.kom_refine.specs.States.{Link, Queue, State, end_of}
use Rattle.kom_lang.specs.Declarations.{Declarations}
use Rattle.kom_record.specs.Entries.{Act}
use Rattle.kom_lives.proofs.Lives.{both}
use Rattle.kom_state.specs.Laws.{AreNumbered}
use Rattle.kom_state.proofs.Keeping.{itself}
use Rattle.kom_changes.proofs.Created.{own_channel}
use Rattle.kom_refine.specs.Steps.{names, IsRelinked, received_by, with_end}
use Rattle.kom_state.specs.Facts.{HoldsTogether, is_of_living}
use Rattle.kom_state.specs.Parts.{Parts, state_of}
use Rattle.kom_wakes.specs.Laws.{RelinksLeave}
use Rattle.kom_wakes.specs.Work.{HasSameWork, IsNotReceiver}
use Rattle.kom_changes.specs.Ends.{has_end_at, is_comp, is_held}

-- the names of a step may be written another way
pub relinked_as : (f g : ℕ → Bool) (change : Link → Link) (m n : State) → ((x : ℕ) → g x ≡ f x) → IsRelinked f change m n → IsRelinked g change m n
relinked_as f g change m n same r = record {
  tree = r.tree;
  links = λ x. r.links x ∙ ap (λ b. if b then option_map change (m.links x) else m.links x) (sym (same x));
  queues = λ x d. r.queues x d ∙ ap (λ b. if b then option_and_then (received_by d (n.links x)) (m.queues x d) else m.queues x d) (sym (same x));
  controls = r.controls;
  bodies = r.bodies;
}

-- the component receives nothing from a channel whose link does not say so
pub not_receiver : (v : Parts) (x c : ℕ) (d : Dir) → HoldsTogether v → ((l : Link) → (state_of v).links x ≡ Some l → receiver_of d l ≡ Some c → ⊥) → IsNotReceiver c ((state_of v).queues x d)
not_receiver v x c d h never = go ((state_of v).queues x d) (leads_out v.numbers x d) ((state_of v).links x) refl (h.receivers x d)
  where
    go : (q : Option Queue) (b : Bool) (o : Option Link) → (state_of v).links x ≡ o → option_map (λ (q : Queue). q.receiver) q ≡ (if b then None else option_map (receiver_of d) o) → IsNotReceiver c q
    go None b o e r = tt
    go (Some q) true o e r = absurd cc
    go (Some q) false None e r = absurd cc
    go (Some q) false (Some l) e r = λ k. let same : q.receiver ≡ receiver_of d l = cc in never l e (sym same ∙ k)

comp_of : (o : Option Half) (c : ℕ) → option_map (λ (h : Half). h.comp) o ≡ Some c → is_comp c o ≡ true
comp_of None c e = absurd cc
comp_of (Some h) c e = let same : h.comp ≡ c = cc in eq-eqb c h.comp (sym same)

-- whoever receives from a channel is at an end of it
pub receiver_at : (l : Link) (d : Dir) (c : ℕ) → receiver_of d l ≡ Some c → (is_comp c l.plus || is_comp c l.minus) ≡ true
receiver_at l d c = at l.held d
  where
    right : (a b : Bool) → b ≡ true → (a || b) ≡ true
    right true b e = refl
    right false b e = e

    left : (a b : Bool) → a ≡ true → (a || b) ≡ true
    left true b e = refl
    left false b e = absurd cc

    at : (h : Bool) (d : Dir) → (if h then None else option_map (λ h. h.comp) (end_of l (opposite d))) ≡ Some c → (is_comp c l.plus || is_comp c l.minus) ≡ true
    at true d e = absurd cc
    at false Plus e = right (is_comp c l.plus) (is_comp c l.minus) (comp_of l.minus c e)
    at false Minus e = left (is_comp c l.plus) (is_comp c l.minus) (comp_of l.plus c e)

-- nobody receives from a held channel
pub none_receives : (l : Link) (d : Dir) (c : ℕ) → l.held ≡ true → receiver_of d l ≡ Some c → ⊥
none_receives l d c h e = let z : None ≡ Some c = sym (ap (λ b. if b then None else option_map (λ (h : Half). h.comp) (end_of l (opposite d))) h) ∙ e in cc

either_false : (a b : Bool) → (a || b) ≡ false → (a ≡ false) × (b ≡ false)
either_false true b e = absurd cc
either_false false b e = (refl, e)

-- a component that is at no end of the channel does not receive from it
pub not_at_ends : (v : Parts) (x c : ℕ) (d : Dir) → HoldsTogether v → has_end_at (state_of v) x c ≡ false → IsNotReceiver c ((state_of v).queues x d)
not_at_ends v x c d h away = not_receiver v x c d h (λ l e r.
    let t = receiver_at l d c r in
    let f : (is_comp c l.plus || is_comp c l.minus) ≡ false = sym (ap (λ o. is_comp c (option_and_then (λ k. end_of k Plus) o) || is_comp c (option_and_then (λ k. end_of k Minus) o)) e) ∙ away in
    absurd cc)

pub not_while_held : (v : Parts) (x c : ℕ) (d : Dir) → HoldsTogether v → is_held (state_of v) x ≡ true → IsNotReceiver c ((state_of v).queues x d)
not_while_held v x c d h held = not_receiver v x c d h (λ l e r. none_receives l d c (sym (ap (λ o. option_map_or (λ (l : Link). l.held) o false) e) ∙ held) r)

-- a channel of a living component is there
pub wire_there : (v : Parts) (c k x : ℕ) → HoldsTogether v → (state_of v).living c ≡ true → is_wire v.numbers c k x ≡ true → IsSome ((state_of v).links x)
wire_there v c k x h a w = h.links_living x ∙ at (wire_at v.numbers x) refl w
  where
    at : (o : Option (ℕ × ℕ)) → wire_at v.numbers x ≡ o → option_map_or (is_pair c k) o false ≡ true → option_map_or (is_of_living (state_of v)) (channel_at v.numbers x) false ≡ true
    at None e t = absurd cc
    at (Some q) e t =
        let same = eqb-true c q.0 (both (c == q.0) (k == q.1) t).0 in
        ap (λ o. option_map_or (is_of_living (state_of v)) o false) (own_channel v.numbers x q.0 q.1 e) ∙ ap (state_of v).living (sym same) ∙ a

-- the marks of both ends of a channel whose change is all that a step does
pub ends_marked : (v w : Parts) (old new : Members) (x : ℕ) (change : Link → Link) → RelinksLeave → HoldsTogether v → HoldsTogether w → IsRelinked (λ y. y == x) change (state_of v) (state_of w)
    → ((l : Link) → (end_of (change l) Plus ≡ end_of l Plus) × (end_of (change l) Minus ≡ end_of l Minus))
    → ((d : ℕ) → has new d ≡ (has_end_at (state_of v) x d || has old d)) → length new.list ≤ length old.list + 2 → new.bound ≡ old.bound
    → IsMarked 2 old new (state_of v) (state_of w)
ends_marked v w old new x change leave h k r same each few bound = record {
  leaves = λ c e.
      let t = either_false (has_end_at (state_of v) x c) (has old c) (sym (each c) ∙ e) in
      let u : has_end_at (state_of w) x c ≡ false = still_none c t.0 in (
        t.1,
        leave (λ y. y == x) change (state_of v) (state_of w) c r (λ y d q.
            let at = eqb-true y x q in
            subst (λ z. IsNotReceiver c ((state_of v).queues z d) × IsNotReceiver c ((state_of w).queues z d)) (sym at) (not_at_ends v x c d h t.0, not_at_ends w x c d k u)),
      );
  few = few;
  bound = bound;
}
  where
    new_link : (state_of w).links x ≡ option_map change ((state_of v).links x)
    new_link = r.links x ∙ ap (λ b. if b then option_map change ((state_of v).links x) else (state_of v).links x) (itself x)

    as_before : (c : ℕ) (o : Option Link)
        → (is_comp c (option_and_then (λ l. end_of l Plus) (option_map change o)) || is_comp c (option_and_then (λ l. end_of l Minus) (option_map change o)))
        ≡ (is_comp c (option_and_then (λ l. end_of l Plus) o) || is_comp c (option_and_then (λ l. end_of l Minus) o))
    as_before c None = refl
    as_before c (Some l) = let e = same l in ap (λ z. is_comp c z || is_comp c (end_of (change l) Minus)) e.0 ∙ ap (λ z. is_comp c (end_of l Plus) || is_comp c z) e.1

    still_none : (c : ℕ) → has_end_at (state_of v) x c ≡ false → has_end_at (state_of w) x c ≡ false
    still_none c e = ap (λ o. is_comp c (option_and_then (λ l. end_of l Plus) o) || is_comp c (option_and_then (λ l. end_of l Minus) o)) new_link ∙ as_before c ((state_of v).links x) ∙ e

-- nobody receives from a channel that is held before and after its change
pub held_leaves : (v w : Parts) (x : ℕ) (change : Link → Link) → RelinksLeave → HoldsTogether v → HoldsTogether w → IsRelinked (λ y. y == x) change (state_of v) (state_of w)
    → ((l : Link) → (change l).held ≡ l.held) → is_held (state_of v) x ≡ true → (c : ℕ) → HasSameWork (state_of v) (state_of w) c
held_leaves v w x change leave h k r same held c = leave (λ y. y == x) change (state_of v) (state_of w) c r (λ y d q.
    let at = eqb-true y x q in
    subst (λ z. IsNotReceiver c ((state_of v).queues z d) × IsNotReceiver c ((state_of w).queues z d)) (sym at) (not_while_held v x c d h held, not_while_held w x c d k still))
  where
    new_link : (state_of w).links x ≡ option_map change ((state_of v).links x)
    new_link = r.links x ∙ ap (λ b. if b then option_map change ((state_of v).links x) else (state_of v).links x) (itself x)

    as_before : (o : Option Link) → option_map_or (λ (l : Link). l.held) (option_map change o) false ≡ option_map_or (λ (l : Link). l.held) o false
    as_before None = refl
    as_before (Some l) = same l

    still : is_held (state_of w) x ≡ true
    still = ap (λ o. option_map_or (λ (l : Link). l.held) o false) new_link ∙ as_before ((state_of v).links x) ∙ held

-- the named channel is the one with that number
pub named_as : (S : Declarations) (done : List Act) (v : Parts) (c k x : ℕ) → AreNumbered S done v → ((y : ℕ) → is_wire v.numbers c k y ≡ (y == x)) → (y : ℕ) → names S done c k y ≡ (y == x)
named_as S done v c k x n e y = n.named c k y ∙ e y

-- an end that is moved leaves the hold
pub end_keeps_hold : (e : Dir) (o : Option Half) (l : Link) → (with_end e o l).held ≡ l.held
end_keeps_hold Plus o l = refl
end_keeps_hold Minus o l = refl
