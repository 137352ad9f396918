-- Who is there for an item.
use Rattle.std.proofs.Common.{◌≡◌, ℕ, ℤ, Bool, true, false, ◌||◌, ◌==◌, refl, sym, ap, ◌∙◌, List, [], ◌∷◌, Option, Some, None, IfSome}
use Rattle.std.specs.List.{find, list_any}
use Rattle.std.specs.Option.{option_map, option_map_or, option_and_then}
use Rattle.std.proofs.lemmas.Bool.{eqb-true, eq-eqb}
use Rattle.kom_base.specs.Lists.{first}
use Rattle.kom_lang.specs.declared.body.Body.{Body}
use Rattle.kom_lang.specs.declared.body.Effect.{Effect}
use Rattle.kom_lang.specs.declared.body.Effect.TheVariants as effect
use Rattle.kom_record.specs.declared.item.Control.{Control as ControlItem}
use Rattle.kom_record.specs.declared.item.Control.TheVariants.{Start, Stop, Dump, Dumped, Fault}
use Rattle.kom_record.specs.declared.item.Item.{Item}
use Rattle.kom_record.specs.declared.item.Item.TheVariants.{Control}
use Rattle.kom_record.specs.Controls.{fault_in}
use Rattle.kom_laws.proofs.Handlings.{found_in}
use Rattle.kom_laws.proofs.Members.{IsIn, here, there}
use Rattle.kom_refine.specs.States.{State}
use Rattle.kom_state.specs.Facts.{HoldsTogether}
use Rattle.kom_state.specs.Parts.{Parts, state_of}
use Rattle.kom_state.specs.Readings.{ancestry_at}
use Rattle.kom_puts.specs.Puts.{dumped_in, escalated_to, is_above, put_in, to_child_in}

on_either : (b : Bool) → (b || true) ≡ true
on_either true = refl
on_either false = refl

among : (q : ℕ × ℕ) (line : List (ℕ × ℕ)) → IsIn q line → list_any (λ a. a.0 == q.0) line ≡ true
among q [] h = elim h [ ]
among q' (q ∷ line) here = ap (λ b. b || list_any (λ a. a.0 == q.0) line) (eq-eqb q.0 q.0 refl)
among q (a ∷ line) (there h) = ap (λ b. a.0 == q.0 || b) (among q line h) ∙ on_either (a.0 == q.0)

-- whoever is found in a line is in it
pub found_above : (f : ℕ × ℕ → Bool) (line : List (ℕ × ℕ)) (told : Option (ℕ × ℕ)) → told ≡ find f line → option_map_or (λ q. list_any (λ a. a.0 == q.0) line) told true ≡ true
found_above f line None e = refl
found_above f line (Some q) e = among q line (found_in f line q (sym e)).0

module _ (v : Parts) (h : HoldsTogether v) where
  abbrev m : State
  m = state_of v

  -- the parent of a living component lives
  parent_lives : (q : ℕ × ℕ) (rest : List (ℕ × ℕ)) (c : ℕ) → m.living c ≡ true → ancestry_at m c ≡ q ∷ rest → m.living q.0 ≡ true
  parent_lives q rest c l e = go (m.living q.0) refl
    where
      go : (b : Bool) → m.living q.0 ≡ b → m.living q.0 ≡ true
      go true t = t
      go false t = absurd (let a = h.childless q.0 q.1 t in let b = h.seated q.0 q.1 c rest l e in cc (a, b))

  pub above_lives : (line : List (ℕ × ℕ)) (c x : ℕ) → m.living c ≡ true → ancestry_at m c ≡ line → list_any (λ a. a.0 == x) line ≡ true → m.living x ≡ true
  above_lives [] c x l e t = absurd cc
  above_lives (q ∷ line) c x l e t = go (q.0 == x) refl (λ u. above_lives line q.0 x (parent_lives q line c l e) (sym (h.lines q.0 q.1 c line e).1) u)
    where
      go : (b : Bool) → (q.0 == x) ≡ b → (list_any (λ a. a.0 == x) line ≡ true → m.living x ≡ true) → m.living x ≡ true
      go true s next = ap m.living (sym (eqb-true q.0 x s)) ∙ parent_lives q line c l e
      go false s next = next (sym (ap (λ b. b || list_any (λ a. a.0 == x) line) s) ∙ t)

  child_lives : (c s : ℕ) (k : ControlItem) → IfSome (to_child_in m c s k) (λ a. m.living a.0 ≡ true)
  child_lives c s k = go (m.child c s) refl
    where
      go : (o : Option ℕ) → m.child c s ≡ o → IfSome (option_map {U = ℕ × ControlItem} (λ d. (d, k)) o) (λ a. m.living a.0 ≡ true)
      go None e = tt
      go (Some d) e = (h.occupant c s d e).0

  told_lives : (c : ℕ) (item : Item) (told : Option (ℕ × ℕ)) → m.living c ≡ true → is_above m c told ≡ true → IfSome (escalated_to item told) (λ a. m.living a.0 ≡ true)
  told_lives c item told l t = go (fault_in item) told t
    where
      go : (o : Option ℕ) (told : Option (ℕ × ℕ)) → is_above m c told ≡ true → IfSome (option_and_then (λ n. option_map {U = ℕ × ControlItem} (λ q. (q.0, Fault q.1 n)) told) o) (λ a. m.living a.0 ≡ true)
      go None told t = tt
      go (Some n) None t = tt
      go (Some n) (Some q) t = above_lives (ancestry_at m c) c q.0 l refl t

  -- whoever an effect puts an item to lives
  pub receiver_lives : (c : ℕ) (item : Item) (told : Option (ℕ × ℕ)) (e : Effect) → m.living c ≡ true → is_above m c told ≡ true → IfSome (put_in m c item told e) (λ a. m.living a.0 ≡ true)
  receiver_lives c item told (effect.Start s) l t = child_lives c s Start
  receiver_lives c item told (effect.Stop s) l t = child_lives c s Stop
  receiver_lives c item told (effect.Dump s) l t = child_lives c s Dump
  receiver_lives c item told effect.Escalate l t = told_lives c item told l t
  receiver_lives c item told e l t = tt

  parent_of_lives : (c : ℕ) (vars : List ℤ) → m.living c ≡ true → IfSome (option_map {U = ℕ × ControlItem} (λ q. (q.0, Dumped q.1 vars)) (first (ancestry_at m c))) (λ a. m.living a.0 ≡ true)
  parent_of_lives c vars l = go (ancestry_at m c) refl
    where
      go : (line : List (ℕ × ℕ)) → ancestry_at m c ≡ line → IfSome (option_map {U = ℕ × ControlItem} (λ q. (q.0, Dumped q.1 vars)) (first line)) (λ a. m.living a.0 ≡ true)
      go [] e = tt
      go (q ∷ rest) e = parent_lives q rest c l e

  -- and so does whoever a Dump is answered to
  pub dumped_lives : (c : ℕ) (b : Body) (item : Item) → m.living c ≡ true → IfSome (dumped_in m c b item) (λ a. m.living a.0 ≡ true)
  dumped_lives c b (Control Dump) l = parent_of_lives c b.vars l
  dumped_lives c b item l = tt

  -- a component is in one slot only
  pub one_seat : (c s t d e : ℕ) → m.child c s ≡ Some d → m.child c t ≡ Some e → d ≡ e → s ≡ t
  one_seat c s t d e a b same =
      let p = (h.occupant c s d a).1 in
      let q = (h.occupant c t e b).1 in
      let line : ◌≡◌ {A = List (ℕ × ℕ)} ((c, s) ∷ p.0) ((c, t) ∷ q.0) = sym p.1 ∙ ap (ancestry_at m) same ∙ q.1 in
      ap {A = List (ℕ × ℕ)} (λ l. option_map_or (λ (z : ℕ × ℕ). z.1) (first l) s) line
