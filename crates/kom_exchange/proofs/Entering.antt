-- What the turn brings, as the call tells it.
use Rattle.std.proofs.Common.{◌≡◌, inl, inr, ⊎_elim, ℕ, List, [], ◌∷◌, ◌++◌, sym, refl, ap, subst, ◌∙◌, ◌≤◌, length, false}
use Rattle.std.specs.Prelude.{Option, Some}
use Rattle.atomic_table.specs.Table.{Me}
use Rattle.kom_record.specs.Entries.{History}
use Rattle.kom_record.specs.Views.{positions}
use Rattle.kom_exchange.specs.Later.{Abouts, IsLater, hand_of}
use Rattle.kom_exchange.proofs.Places.{places_own, later_self, later_trans}
use Rattle.kom_exchange.specs.declared.view.Stage.TheVariants.{Turn}
use Rattle.kom_exchange.specs.declared.view.View.{View}
use Rattle.kom_exchange.specs.Rule.{waiting, seated, told, left, Took}
use Rattle.kom_exchange.specs.Calls.{Enters, Called, Mine, Grows}

abbrev value_or : {A : Type 0} → A → List (ℕ × A) → A
value_or a [] = a
value_or a (x ∷ xs) = x.1

-- what is in the slot that was taken last
pub last_value : {A : Type 0} (l : List (ℕ × A)) (a b : A) (k : ℕ) (xs ys : List (ℕ × A)) → l ≡ (k, a) ∷ xs → l ≡ (k, b) ∷ ys → a ≡ b
last_value {A} l a b k xs ys p q = ap (value_or a) (sym p ∙ q)

mine_is : (about : Abouts) (n : ℕ) (v : View) (old new : History) → v.own.mine ≡ positions v.own.number v.own.from old → v.own.from ≤ length old → Grows about v.own.number n old new
    → Mine n old v.own.mine (positions v.own.number v.own.from new)
mine_is about n v old new is le g = ⊎_elim (λ (h : (n ≡ 0) × (new ≡ old)). inl (h.0, ap (positions v.own.number v.own.from) h.1 ∙ sym is))
    (λ h. inr (h.0, ap (positions v.own.number v.own.from) h.1.2 ∙ (places_own v.own.number v.own.from old h.1.0 h.1.1 le ∙ (λ k. sym is k ++ length old ∷ [])))) g

grown_later : (about : Abouts) (n w : ℕ) (old new : History) → Grows about w n old new → IsLater new old
grown_later about n w old new g = ⊎_elim (λ (h : (n ≡ 0) × (new ≡ old)). subst (λ (l : History). IsLater l old) (sym h.1) (later_self old)) (λ h. (h.1.0 ∷ [], h.1.2)) g

module _ {T : Type 0} (entries : T → History) (about : T → Abouts) where
  -- the station is the one that was taken
  pub enters : (v : View) (m m' : Me (Option T) View) (t : ℕ) (found : Option T) (x : T) (w : View) (more : List (ℕ × Option T)) → m.0 ≡ waiting v t → Took entries about m t m'
      → m'.1 ≡ (0, found) ∷ more → found ≡ Some x → w ≡ m'.0 → Enters entries about v x w
  enters v m m' t found x w more is took holds some same =
      let e : Some took.0 ≡ Some x = last_value m'.1 (Some took.0) found 0 m.1 more took.1 holds ∙ some in let f : took.0 ≡ x = cc in
      subst (λ (y : T). Enters entries about v y w) f record {
        ticket = t;
        now = same ∙ (took.2 ∙ ap (λ (u : View). seated u t (entries took.0)) is);
        about_is = took.3 ∙ ap (λ (u : View). u.own.about) is;
        later = subst (λ (u : View). IsLater (entries took.0) u.own.seen) is took.4;
        mine = subst (λ (u : View). u.own.mine ≡ positions u.own.number u.own.from (entries took.0)) is took.5;
        hand = subst (λ (u : View). hand_of u.own.about u.own.number u.own.seen ≡ hand_of u.own.about u.own.number (entries took.0)) is took.6;
        start = subst (λ (u : View). u.own.from ≤ length (entries took.0)) is took.7;
      }

  -- what `leave` asks of the station, at the view that `enter` gave
  pub leaves : (v w : View) (x y : T) (n : ℕ) → Enters entries about v x w → about y ≡ about x → Grows v.own.about v.own.number n (entries x) (entries y) → (about y ≡ w.own.about) × Grows w.own.about w.own.number n w.own.seen (entries y)
  leaves v w x y n e same g = subst (λ (z : View). (about y ≡ z.own.about) × Grows z.own.about z.own.number n z.own.seen (entries y)) (sym e.now) (same ∙ e.about_is, g)

  pub turn_of : (v w : View) (x : T) → v.spent ≡ false → Enters entries about v x w → ((t : ℕ) × (w.stage ≡ Turn t)) × (w.spent ≡ false)
  turn_of v w x live e = ((e.ticket, ap (λ (z : View). z.stage) e.now), ap (λ (z : View). z.spent) e.now ∙ live)

  -- a call as a whole
  pub called : (n : ℕ) (how : History → History → Type 0) (v w u : View) (x y : T) → Enters entries about v x w → Grows v.own.about v.own.number n (entries x) (entries y) → how (entries x) (entries y)
      → u ≡ left (told w (entries y)) → Called n how v u
  called n how v w u x y e g did is = let all : u ≡ left (told (seated v e.ticket (entries x)) (entries y)) = is ∙ ap (λ (z : View). left (told z (entries y))) e.now in
      subst (λ (z : View). Called n how v z) (sym all) record {
        number = refl;
        start = refl;
        about = refl;
        right = refl;
        taken = refl;
        turns = refl;
        later = later_trans (entries y) (entries x) v.own.seen (grown_later v.own.about n v.own.number (entries x) (entries y) g) e.later;
        fair = refl;
        h = entries x;
        seen = e.later;
        answer = did;
        mine = mine_is v.own.about n v (entries x) (entries y) e.mine e.start g;
      }

  -- the same as the code has it: the place that the seat sat at, what the station ensured, and the badge that was made of the place
  pub whole : (n : ℕ) (how : History → History → Type 0) (v v' w u : View) (x y : T) → v' ≡ v → Enters entries about v' x w → Grows v.own.about v.own.number n (entries x) (entries y)
      → how (entries x) (entries y) → u ≡ left (told w (entries y)) → Called n how v u
  whole n how v v' w u x y sat e grows did is = called n how v w u x y (subst (λ (z : View). Enters entries about z x w) sat e) grows did is
