-- What a component has to do, and which steps leave it.
use Rattle.std.proofs.Common.{◌≡◌, ℕ, ◌+◌, ◌<◌, ◌≤◌, Bool, true, false, if◌then◌else◌, not, ◌&&◌, ◌||◌, ◌==◌, refl, sym, ap, ◌∙◌, List, [], ◌++◌, length, Option, Some, None, ◌⊎◌, inl, inr, eq-eqb}
use Rattle.std.specs.Prelude.{is_some, nat_lt}
use Rattle.std.specs.List.{filter_map}
use Rattle.std.specs.Option.{option_map, option_map_or, option_and_then}
use Rattle.std.proofs.lemmas.List.{append-nil}
use Rattle.std.proofs.lemmas.Bool.{eqb-true, lt-ltb, ltb-false}
use Rattle.kom_base.specs.declared.numbers.Dir.{Dir}
use Rattle.kom_base.specs.declared.numbers.EntryNo.{EntryNo}
use Rattle.kom_base.specs.Lists.{first}
use Rattle.kom_lang.specs.Declarations.{Declarations}
use Rattle.kom_lang.specs.declared.body.Body.{Body}
use Rattle.kom_record.specs.declared.item.Control.{Control as ControlItem}
use Rattle.kom_record.specs.declared.item.Item.{Item}
use Rattle.kom_record.specs.declared.entry.Outcome.{Outcome}
use Rattle.kom_record.specs.Entries.{History, Act, acts}
use Rattle.kom_record.specs.Instances.{Instance, alive, born}
use Rattle.kom_record.specs.Bodies.{body_at, body_after_all, catches, outcome_of}
use Rattle.kom_record.specs.Channels.{held, is_living}
use Rattle.kom_record.specs.Queues.{waiting}
use Rattle.kom_lang.specs.Bodies.{first_body}
use Rattle.kom_record.specs.Controls.{control_waiting, inits_for}
use Rattle.kom_record.specs.Ready.{arriving, candidate, candidates, is_active, is_busy, runnable}
use Rattle.kom_laws.proofs.Unaffected.{IsCandidate, and_make, candidate_from, candidate_is, has_candidate}
use Rattle.kom_laws.proofs.NextItem.{mapped}
use Rattle.kom_laws.proofs.ListFacts.{got_at}
use Rattle.kom_laws.proofs.InstanceLaws.{alive_born}
use Rattle.kom_refine.specs.Firsts.{Front, IsFirst, front_for}
use Rattle.kom_refine.specs.Points.{StandsAt, start_of}
use Rattle.kom_refine.specs.States.{ControlRow, Link, Queue, State}
use Rattle.kom_refine.specs.Steps.{ArePut, HaveCome, IsCreated, IsEnded, IsRelinked, IsRemoved, IsTaken, comes_by, is_below, with_items, with_numbers, empty_queue, received_by, row_with, flagged, without_first, without_item, is_control}
use Rattle.kom_refine.proofs.Firsts.{front_is}
use Rattle.kom_wakes.specs.Work.{HasSameWork, IsNotReceiver, may_run}

same_tests : (a b : Bool) → (a ≡ true → b ≡ true) → (b ≡ true → a ≡ true) → a ≡ b
same_tests true b f g = sym (f refl)
same_tests false true f g = g refl
same_tests false false f g = refl

module _ (S : Declarations) where
  arrives : (P : History) (c x : ℕ) (d : Dir) (r : IsCandidate S P c x d) → candidate S P c (x, d) ≡ Some (arriving S x d r.half r.envelope)
  unfolding candidate
  arrives P c x d r =
      ap (option_and_then (λ h. if h.comp == c && is_living S (acts P) x && not (held S (acts P) x) then option_map (arriving S x d h) (first (waiting S P x d)) else None)) r.ends
      ∙ ap (λ b. if b then option_map (arriving S x d r.half) (first (waiting S P x d)) else None) (and_make _ _ (and_make _ _ (eq-eqb r.half.comp c r.at) r.living) (ap not r.free))
      ∙ ap (option_map (arriving S x d r.half)) r.first_is

  no_front : (P : History) (m : State) (c : ℕ) → StandsAt S (start_of P) m → ((x : ℕ) (d : Dir) → front_for c (m.queues x d) ≡ None) → is_some (first (candidates S P c)) ≡ true → ⊥
  no_front P m c s i h =
      let k = has_candidate S P c h in
      let a = arrives P c k.0 k.1 k.2 in
      let g : option_map (λ a. a.no) (candidate S P c (k.0, k.1)) ≡ None = front_is S P m c k.0 k.1 s ∙ i k.0 k.1 in
      let z : Some k.2.envelope.no ≡ None = sym (ap (option_map (λ a. a.no)) a) ∙ g in
      cc

  a_front : (P : History) (m : State) (c : ℕ) (f : Front) → StandsAt S (start_of P) m → front_for c (m.queues f.chan f.dir) ≡ Some f.no → is_some (first (candidates S P c)) ≡ true
  a_front P m c f s i =
      let g : option_map (λ a. a.no) (candidate S P c (f.chan, f.dir)) ≡ Some f.no = front_is S P m c f.chan f.dir s ∙ i in
      let a = mapped (λ a. a.no) (candidate S P c (f.chan, f.dir)) f.no g in
      candidate_from S P c f.chan f.dir (candidate_is S P c f.chan f.dir a.0 a.1)

  -- a component can receive an event exactly where there is a front for it
  has_front : (P : History) (m : State) (c : ℕ) (f : Option Front) → StandsAt S (start_of P) m → IsFirst m c f → is_some (first (candidates S P c)) ≡ is_some f
  has_front P m c None s i = same_tests _ _ (λ h. absurd (no_front P m c s i h)) (λ h. absurd cc)
  has_front P m c (Some f) s i = a_front P m c f s i.0

  and_swap : (a b : Bool) → (a && b) ≡ (b && a)
  and_swap true true = refl
  and_swap true false = refl
  and_swap false true = refl
  and_swap false false = refl

  -- the work of a component is what the record says
  abbrev waits : History → ℕ → Bool → Bool
  waits P c active = is_some (first (control_waiting S P c)) || (active && is_some (first (candidates S P c)))

  row_of : (P : History) (c : ℕ) (f : Option Front) (a : Bool) (o : Option Body) → is_some (first (candidates S P c)) ≡ is_some f → (a ≡ true → is_some o ≡ true)
      → may_run (option_map (λ b. record { items = control_waiting S P c ++ []; active = b.active; catches = catches S b }) (if a then o else None)) f ≡ (a && waits P c (option_map_or (λ b. b.active) o false))
  row_of P c f false o e h = refl
  row_of P c f true None e h = absurd (let g = h refl in cc)
  row_of P c f true (Some b) e h =
      ap (λ is. is_some (first is) || (b.active && is_some f)) (append-nil (control_waiting S P c)) ∙ ap (λ t. is_some (first (control_waiting S P c)) || (b.active && t)) (sym e)

  body_there : (P : History) (c : ℕ) → alive S (acts P) c ≡ true → is_some (body_at S P c) ≡ true
  unfolding body_at
  body_there P c h =
      let g = got_at (born S (acts P)) c (alive_born S (acts P) c h) in
      ap (λ o. is_some (option_map (λ i. body_after_all (first_body S i.kind i.birth (1 + length i.ancestry)) (filter_map (outcome_of c) P)) o)) g.1

  work_is : (P : History) (m : State) (c : ℕ) (f : Option Front) → StandsAt S (start_of P) m → IsFirst m c f → may_run (m.controls c) f ≡ (alive S (acts P) c && waits P c (is_active S P c))
  unfolding is_active body_at
  work_is P m c f s i = ap (λ r. may_run r f) (s.controls c) ∙ row_of P c f (alive S (acts P) c) (body_at S P c) (has_front P m c f s i) (body_there P c)

  pub runnable_by : (P : History) (m : State) (c : ℕ) (f : Option Front) → StandsAt S (start_of P) m → IsFirst m c f → runnable S P c ≡ (may_run (m.controls c) f && not (is_busy S P c))
  unfolding runnable
  runnable_by P m c f s i =
      at (alive S (acts P) c) (not (is_busy S P c)) (is_some (first (control_waiting S P c)) || (is_active S P c && is_some (first (candidates S P c))))
      ∙ ap (λ b. b && not (is_busy S P c)) (sym (work_is P m c f s i))
    where
      at : (a b w : Bool) → (a && b && w) ≡ ((a && w) && b)
      at true b w = and_swap b w
      at false b w = refl

  -- ---- the same work

  -- a row with an event to take or without
  abbrev runs : Option ControlRow → Bool → Bool
  runs row t = option_map_or (λ r. is_some (first r.items) || (r.active && t)) row false

  work_by : (P : History) (m : State) (c : ℕ) → StandsAt S (start_of P) m → (alive S (acts P) c && waits P c (is_active S P c)) ≡ runs (m.controls c) (is_some (first (candidates S P c)))
  unfolding is_active body_at
  work_by P m c s = sym (ap (λ r. runs r (is_some (first (candidates S P c)))) (s.controls c) ∙ go (alive S (acts P) c) (body_at S P c) (body_there P c))
    where
      go : (a : Bool) (o : Option Body) → (a ≡ true → is_some o ≡ true)
          → runs (option_map (λ b. record { items = control_waiting S P c ++ []; active = b.active; catches = catches S b }) (if a then o else None)) (is_some (first (candidates S P c))) ≡ (a && waits P c (option_map_or (λ b. b.active) o false))
      go false o h = refl
      go true None h = absurd (let g = h refl in cc)
      go true (Some b) h = ap (λ is. is_some (first is) || (b.active && is_some (first (candidates S P c)))) (append-nil (control_waiting S P c))

  -- the candidates of both records are some or none
  candidates_like : (P Q : History) (m n : State) (c : ℕ) → StandsAt S (start_of P) m → StandsAt S (start_of Q) n → ((x : ℕ) (d : Dir) → is_some (front_for c (n.queues x d)) ≡ is_some (front_for c (m.queues x d)))
      → is_some (first (candidates S Q c)) ≡ true → is_some (first (candidates S P c)) ≡ true
  candidates_like P Q m n c s t e h =
      let k = has_candidate S Q c h in
      let a = arrives Q c k.0 k.1 k.2 in
      let g : Some k.2.envelope.no ≡ front_for c (n.queues k.0 k.1) = sym (ap (option_map (λ a. a.no)) a) ∙ front_is S Q n c k.0 k.1 t in
      let f : is_some (front_for c (m.queues k.0 k.1)) ≡ true = sym (e k.0 k.1) ∙ ap is_some (sym g) in
      let z = some_no (front_for c (m.queues k.0 k.1)) f in
      a_front P m c (record { chan = k.0; dir = k.1; no = z.0 }) s z.1
    where
      some_no : (o : Option EntryNo) → is_some o ≡ true → (no : EntryNo) × (o ≡ Some no)
      some_no None e = absurd cc
      some_no (Some x) e = (x, refl)

  pub untouched : (P Q : History) (m n : State) (c : ℕ) → StandsAt S (start_of P) m → StandsAt S (start_of Q) n → HasSameWork m n c → is_busy S Q c ≡ is_busy S P c → runnable S Q c ≡ runnable S P c
  unfolding runnable
  untouched P Q m n c s t w b =
      let same = same_tests (is_some (first (candidates S Q c))) (is_some (first (candidates S P c))) (candidates_like P Q m n c s t w.fronts) (candidates_like Q P n m c t s (λ x d. sym (w.fronts x d))) in
      at (alive S (acts Q) c) (not (is_busy S Q c)) (waits Q c (is_active S Q c))
      ∙ ap (λ r. r && not (is_busy S Q c)) (work_by Q n c t ∙ ap (λ r. runs r (is_some (first (candidates S Q c)))) w.row ∙ ap (runs (m.controls c)) same ∙ sym (work_by P m c s))
      ∙ ap (λ r. (alive S (acts P) c && waits P c (is_active S P c)) && not r) b
      ∙ sym (at (alive S (acts P) c) (not (is_busy S P c)) (waits P c (is_active S P c)))
    where
      at : (a b w : Bool) → (a && b && w) ≡ ((a && w) && b)
      at true b w = and_swap b w
      at false b w = refl

-- ---- steps

pub same_itself : (m : State) (c : ℕ) → HasSameWork m m c
same_itself m c = record { row = refl; fronts = λ x d. refl }

pub same_then : (m k n : State) (c : ℕ) → HasSameWork m k c → HasSameWork k n c → HasSameWork m n c
same_then m k n c a b = record { row = b.row ∙ a.row; fronts = λ x d. b.fronts x d ∙ a.fronts x d }

-- a queue from which c does not receive has no front for it
not_for : (c : ℕ) (q : Option Queue) → IsNotReceiver c q → front_for c q ≡ None
not_for c None h = refl
not_for c (Some q) h = go (q.receiver) refl
  where
    by_test : (r : ℕ) (b : Bool) → q.receiver ≡ Some r → (r == c) ≡ b → (if b then first q.numbers else None) ≡ None
    by_test r true e t = absurd (h (e ∙ ap Some (eqb-true r c t)))
    by_test r false e t = refl

    go : (o : Option ℕ) → q.receiver ≡ o → front_for c (Some q) ≡ None
    go None e = ap (λ z. if option_map_or (λ r. r == c) z false then first q.numbers else None) e
    go (Some r) e = ap (λ z. if option_map_or (λ r. r == c) z false then first q.numbers else None) e ∙ by_test r (r == c) e refl

no_more : (r : Option ControlRow) → option_map (with_items []) r ≡ r
no_more None = refl
no_more (Some r) = ap {A = List ControlItem} {B = Option ControlRow} (λ is. Some (record { items = is; active = r.active; catches = r.catches })) (append-nil r.items)

pub puts_leave : (put : ℕ → List ControlItem) (m n : State) (c : ℕ) → ArePut put m n → put c ≡ [] → HasSameWork m n c
puts_leave put m n c s e = record { row = s.controls c ∙ ap (λ is. option_map (with_items is) (m.controls c)) e ∙ no_more (m.controls c); fronts = λ x d. ap (λ q. is_some (front_for c q)) (s.queues x d) }

no_numbers : (q : Option Queue) → option_map (with_numbers []) q ≡ q
no_numbers None = refl
no_numbers (Some q) = ap {A = List EntryNo} {B = Option Queue} (λ is. Some (record { numbers = is; receiver = q.receiver })) (append-nil q.numbers)

still_not : (c : ℕ) (more : List EntryNo) (q : Option Queue) → IsNotReceiver c q → IsNotReceiver c (option_map (with_numbers more) q)
still_not c more None h = tt
still_not c more (Some q) h = h

pub comings_leave : (came : ℕ → Dir → List EntryNo) (m n : State) (c : ℕ) → HaveCome came m n → ((x : ℕ) (d : Dir) → (came x d ≡ []) ⊎ IsNotReceiver c (m.queues x d)) → HasSameWork m n c
comings_leave came m n c s h = record {
  row = s.controls c;
  fronts = λ x d. elim (h x d) [
    | inl e ↦ ap (λ q. is_some (front_for c q)) (s.queues x d ∙ ap (λ is. option_map (with_numbers is) (m.queues x d)) e ∙ no_numbers (m.queues x d))
    | inr k ↦ ap (λ q. is_some (front_for c q)) (s.queues x d) ∙ ap is_some (not_for c (option_map (with_numbers (came x d)) (m.queues x d)) (still_not c (came x d) (m.queues x d) k)) ∙ sym (ap is_some (not_for c (m.queues x d) k))
  ];
}

pub relinks_leave : (names : ℕ → Bool) (change : Link → Link) (m n : State) (c : ℕ) → IsRelinked names change m n → ((x : ℕ) (d : Dir) → names x ≡ true → IsNotReceiver c (m.queues x d) × IsNotReceiver c (n.queues x d)) → HasSameWork m n c
relinks_leave names change m n c s h = record { row = s.controls c; fronts = λ x d. go x d (names x) refl }
  where
    go : (x : ℕ) (d : Dir) (t : Bool) → names x ≡ t → is_some (front_for c (n.queues x d)) ≡ is_some (front_for c (m.queues x d))
    go x d true e = let k = h x d e in ap is_some (not_for c (n.queues x d) k.1) ∙ sym (ap is_some (not_for c (m.queues x d) k.0))
    go x d false e = ap (λ q. is_some (front_for c q)) (s.queues x d ∙ ap (λ t. if t then option_and_then (received_by d (n.links x)) (m.queues x d) else m.queues x d) e)

pub removals_leave : (dies : ℕ → Bool) (p slot : ℕ) (m n : State) (c : ℕ) → IsRemoved dies p slot m n → is_below m p slot c ≡ false → ((x : ℕ) (d : Dir) → dies x ≡ true → IsNotReceiver c (m.queues x d)) → HasSameWork m n c
removals_leave dies p slot m n c s b h = record { row = s.controls c ∙ ap (λ t. if t then None else m.controls c) b; fronts = λ x d. go x d (dies x) refl }
  where
    go : (x : ℕ) (d : Dir) (t : Bool) → dies x ≡ t → is_some (front_for c (n.queues x d)) ≡ is_some (front_for c (m.queues x d))
    go x d true e = ap (λ q. is_some (front_for c q)) (s.queues x d ∙ ap (λ t. if t then None else m.queues x d) e) ∙ sym (ap is_some (not_for c (m.queues x d) (h x d e)))
    go x d false e = ap (λ q. is_some (front_for c q)) (s.queues x d ∙ ap (λ t. if t then None else m.queues x d) e)

nothing_in : (c : ℕ) (d : Dir) (o : Option Link) → is_some (front_for c (option_map (empty_queue d) o)) ≡ false
nothing_in c d None = refl
nothing_in c d (Some l) = go (option_map_or (λ r. r == c) (empty_queue d l).receiver false)
  where
    go : (b : Bool) → is_some {T = EntryNo} (if b then None else None) ≡ false
    go true = refl
    go false = refl

pub creations_leave : (S : Declarations) (done : List Act) (count chans : ℕ) (news : List Instance) (m n : State) (c : ℕ)
    → IsCreated S done count chans news m n → c < count → ((x : ℕ) (d : Dir) → chans ≤ x → m.queues x d ≡ None) → HasSameWork m n c
creations_leave S done count chans news m n c s l h = record {
  row = s.controls c ∙ ap (λ t. if t then m.controls c else option_map (row_with S (inits_for S c count news)) (n.bodies c)) (lt-ltb c count l);
  fronts = λ x d. go x d (nat_lt x chans) refl;
}
  where
    go : (x : ℕ) (d : Dir) (t : Bool) → nat_lt x chans ≡ t → is_some (front_for c (n.queues x d)) ≡ is_some (front_for c (m.queues x d))
    go x d true e = ap (λ q. is_some (front_for c q)) (s.queues x d ∙ ap (λ t. if t then m.queues x d else option_map (empty_queue d) (n.links x)) e)
    go x d false e =
        ap (λ q. is_some (front_for c q)) (s.queues x d ∙ ap (λ t. if t then m.queues x d else option_map (empty_queue d) (n.links x)) e)
        ∙ nothing_in c d (n.links x) ∙ sym (ap (λ q. is_some (front_for c q)) (h x d (ltb-false x chans e)))

pub ends_leave : (catches : Body → Bool) (d : ℕ) (o : Outcome) (m n : State) (c : ℕ) → IsEnded catches d o m n → (d == c) ≡ false → HasSameWork m n c
ends_leave catches d o m n c s q = record {
  row = s.controls c ∙ ap (λ t. if t then option_and_then (flagged catches (m.controls c)) (n.bodies c) else m.controls c) q;
  fronts = λ x e. ap (λ k. is_some (front_for c k)) (s.queues x e);
}

off : (a b : Bool) → b ≡ false → (a && b) ≡ false
off true b e = e
off false b e = refl

without_not : (c : ℕ) (q : Option Queue) → IsNotReceiver c q → IsNotReceiver c (option_map without_first q)
without_not c None h = tt
without_not c (Some q) h = h

pub takes_leave : (d : ℕ) (item : Item) (m n : State) (c : ℕ) → IsTaken d item m n → (d == c) ≡ false → ((x : ℕ) (e : Dir) → comes_by item x e ≡ true → IsNotReceiver c (m.queues x e)) → HasSameWork m n c
takes_leave d item m n c s q h = record {
  row = s.controls c ∙ ap (λ t. if t then option_map without_item (m.controls c) else m.controls c) (off (is_control item) (d == c) q);
  fronts = λ x e. go x e (comes_by item x e) refl;
}
  where
    go : (x : ℕ) (e : Dir) (t : Bool) → comes_by item x e ≡ t → is_some (front_for c (n.queues x e)) ≡ is_some (front_for c (m.queues x e))
    go x e true k =
        ap (λ z. is_some (front_for c z)) (s.queues x e ∙ ap (λ t. if t then option_map without_first (m.queues x e) else m.queues x e) k)
        ∙ ap is_some (not_for c (option_map without_first (m.queues x e)) (without_not c (m.queues x e) (h x e k))) ∙ sym (ap is_some (not_for c (m.queues x e) (h x e k)))
    go x e false k = ap (λ z. is_some (front_for c z)) (s.queues x e ∙ ap (λ t. if t then option_map without_first (m.queues x e) else m.queues x e) k)
