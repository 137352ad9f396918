-- The event that a runnable component takes next.
use Rattle.std.proofs.Common.{◌≡◌, ℕ, Bool, true, false, if◌then◌else◌, not, ◌&&◌, ◌||◌, refl, sym, ap, ◌∙◌, List, [], ◌∷◌, Option, Some, None, arith}
use Rattle.std.specs.Prelude.{is_some, Contains}
use Rattle.std.specs.Option.{option_map, option_and_then}
use Rattle.std.proofs.lemmas.Bool.{and_parts}
use Rattle.kom_base.specs.declared.numbers.Dir.{Dir}
use Rattle.kom_base.specs.declared.numbers.Dir.TheVariants.{Plus, Minus}
use Rattle.kom_base.specs.declared.numbers.Half.{Half}
use Rattle.kom_base.specs.declared.numbers.EntryNo.{EntryNo}
use Rattle.kom_base.specs.Lists.{first}
use Rattle.kom_base.specs.Numbers.{opposite}
use Rattle.kom_lang.specs.Declarations.{Declarations}
use Rattle.kom_record.specs.declared.item.Item.{Item}
use Rattle.kom_record.specs.declared.item.Item.TheVariants.{Arrival}
use Rattle.kom_record.specs.Entries.{History, acts}
use Rattle.kom_record.specs.Channels.{destination, place, held, is_living, goes_out}
use Rattle.kom_record.specs.Queues.{Envelope}
use Rattle.kom_record.specs.Ready.{is_busy, next, runnable}
use Rattle.kom_laws.proofs.Members.{Some-injective}
use Rattle.kom_offered.specs.Laws.{WaitingIsRead, IsOfItsOffer}
use Rattle.kom_refine.specs.Firsts.{IsFirst, front_for}
use Rattle.kom_refine.specs.Laws.{NextIsFirst}
use Rattle.kom_refine.specs.Points.{StandsAt, start_of}
use Rattle.kom_refine.specs.States.{ControlRow, Link, Queue, State, end_of}
use Rattle.kom_state.specs.Readings.{first_item}
use Rattle.kom_wakes.specs.Laws.{RunnableByState}
use Rattle.kom_wakes.specs.Work.{may_run}
use Rattle.kom_turns.specs.Items.{IsArrival, half_at, event_at, back_at}
use Rattle.kom_turns.proofs.Standing.{first_item_is, runs_alive}

first_of : {X : Type 0} (xs : List X) (x : X) → first xs ≡ Some x → Contains xs x
first_of [] x e = absurd cc
first_of (y ∷ xs) x e = (0, omega arith, Some-injective e)

-- without a control item and a front there is nothing to do
no_work : (row : Option ControlRow) → option_and_then (λ r. first r.items) row ≡ None → may_run row None ≡ false
no_work None e = refl
no_work (Some r) e = ap (λ o. is_some o || (r.active && false)) e ∙ off r.active
  where
    off : (b : Bool) → (b && false) ≡ false
    off true = refl
    off false = refl

living_by : (g l : Bool) (w : Option Queue) (c : ℕ) → is_some (front_for c (if g then None else (if l then w else None))) ≡ true → l ≡ true
living_by true l w c h = absurd cc
living_by false true w c h = refl
living_by false false w c h = absurd cc

module _ (S : Declarations) (P : History) (m : State) (s : StandsAt S (start_of P) m) (c : ℕ) (runs : runnable S P c ≡ true) (none : first_item m c ≡ None) where
  -- there is a front
  pub some_front : RunnableByState → IsFirst m c None → ⊥
  some_front law f =
      let r = sym (law S P m c None s f) ∙ runs in
      cc ((and_parts (may_run (m.controls c) None) (not (is_busy S P c)) r).0, no_work (m.controls c) none)

  -- what waits there
  pub record Comes (x : ℕ) (d : Dir) (n : EntryNo) : Type 0 where
    pub half : Half
    pub envelope : Envelope
    pub at : half_at m x d ≡ Some half
    pub offered : IsOfItsOffer P envelope
    pub number : envelope.no ≡ n
    pub next_is : next S P c ≡ Some (Arrival x d n half.port half.side envelope.event envelope.back)

  link_there : (x : ℕ) (d : Dir) (n : EntryNo) → front_for c (m.queues x d) ≡ Some n → is_living S (acts P) x ≡ true
  link_there x d n f =
      living_by (goes_out S x d) (is_living S (acts P) x) _ c
      (ap is_some (sym (ap (front_for c) (s.queues x d ∙ ap (λ q. if goes_out S x d then None else q) (moved _ _ (is_living S (acts P) x)))) ∙ f))
    where
      moved : (f : Link → Queue) (k : Link) (l : Bool) → option_map f (if l then Some k else None) ≡ (if l then Some (f k) else None)
      moved f k true = refl
      moved f k false = refl

  half_is : (x : ℕ) (d : Dir) (h : Half) → is_living S (acts P) x ≡ true → destination S (acts P) x d ≡ Some h → half_at m x d ≡ Some h
  unfolding destination
  half_is x d h l e =
      ap (option_and_then (λ l. end_of l (opposite d))) (s.links x ∙ ap (λ b. if b then Some (record { plus = place S (acts P) x Plus; minus = place S (acts P) x Minus; held = held S (acts P) x }) else None) l)
      ∙ ends d ∙ e
    where
      ends : (d : Dir) → end_of (record { plus = place S (acts P) x Plus; minus = place S (acts P) x Minus; held = held S (acts P) x }) (opposite d) ≡ place S (acts P) x (opposite d)
      ends Plus = refl
      ends Minus = refl

  pub comes : NextIsFirst → WaitingIsRead → (x : ℕ) (d : Dir) (n : EntryNo) → IsFirst m c (Some (record { chan = x; dir = d; no = n })) → Comes x d n
  comes law reading x d n f =
      let t = law S P m c (Some (record { chan = x; dir = d; no = n })) s f (sym (first_item_is S P m s c (runs_alive S P m s c runs)) ∙ none) in
      record {
        half = t.0;
        envelope = t.1;
        at = half_is x d t.0 (link_there x d n f.0) t.2;
        offered = reading S P x d t.1 (first_of _ _ t.3);
        number = t.4;
        next_is = t.5;
      }

  event_there : (x : ℕ) (d : Dir) (n : EntryNo) (k : Comes x d n) → event_at P n ≡ Some k.envelope.event
  event_there x d n k = ap (event_at P) (sym k.number) ∙ k.offered.event

  back_there : (x : ℕ) (d : Dir) (n : EntryNo) (k : Comes x d n) → back_at P n ≡ Some k.envelope.back
  back_there x d n k = ap (back_at P) (sym k.number) ∙ k.offered.back

  pub half_some : (x : ℕ) (d : Dir) (n : EntryNo) → Comes x d n → is_some (half_at m x d) ≡ true
  half_some x d n k = ap is_some k.at

  pub event_some : (x : ℕ) (d : Dir) (n : EntryNo) → Comes x d n → is_some (event_at P n) ≡ true
  event_some x d n k = ap is_some (event_there x d n k)

  pub back_some : (x : ℕ) (d : Dir) (n : EntryNo) → Comes x d n → is_some (back_at P n) ≡ true
  back_some x d n k = ap is_some (back_there x d n k)

  -- so the arrival is the next item
  pub next_by : (x : ℕ) (d : Dir) (n : EntryNo) (item : Item) → Comes x d n → IsArrival m P x d n item → next S P c ≡ Some item
  next_by x d n item k a =
      let h : k.half ≡ a.half = Some-injective (sym k.at ∙ a.at) in
      let e : k.envelope.event ≡ a.event = Some-injective (sym (event_there x d n k) ∙ a.event_is) in
      let b : k.envelope.back ≡ a.back = Some-injective (sym (back_there x d n k) ∙ a.back_is) in
      k.next_is ∙ (λ i. Some (Arrival x d n (h i).port (h i).side (e i) (b i))) ∙ ap Some (sym a.item_is)
