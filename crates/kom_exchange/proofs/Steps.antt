-- The five steps of the lock, and the step on the count, keep the rule.
use Rattle.std.proofs.Common.{◌≡◌, ◌⊎◌, inl, inr, ⊎_elim, ℕ, suc, ◌+◌, ◌%◌, ◌<◌, ◌≤◌, ◌≢◌, ◌==◌, Bool, true, false, List, [], ◌∷◌, length, get_or, set, sym, refl, ap, subst, ◌∙◌, arith}
use mathlib.Core.Logic.{dite}
use mathlib.Core.Option.{none, some, some-injective}
use native.Mathlib.Decide.{ℕ_discrete}
use native.Mathlib.Nat.{mod-add-mod}
use lib.ListN.{get_elem?}
use Rattle.std.specs.Prelude.{Option, Some, None}
use Rattle.atomic_table.specs.Table.{State, Me, keeps, takes, gives, put_back, Allows}
use Rattle.atomic_table.proofs.Lists.{at_set, set_here, set_else, set_again, one_turn}
use Rattle.kom_record.specs.Entries.{History}
use Rattle.kom_record.specs.Views.{positions}
use Rattle.kom_exchange.specs.Later.{Abouts, IsLater, hand_of}
use Rattle.kom_exchange.specs.declared.view.Own.{Own}
use Rattle.kom_exchange.specs.declared.view.Stage.{Stage}
use Rattle.kom_exchange.specs.declared.view.Stage.TheVariants.{Idle, Waits, Turn}
use Rattle.kom_exchange.specs.declared.view.View.{View}
use Rattle.kom_exchange.specs.Rule.{Every, total, one_if, parts_if, parts, part_count, turns_of, has_number, out_at, out_of, ticket_at, has_ticket, right_of, between, OwnOk, ViewOk, Homes, Gone, IsOut, IsHome, Kept, waiting, seated, told, left, drew, passed, counted, looked}
use Rattle.kom_exchange.specs.Calls.{Grows}
use Rattle.kom_exchange.proofs.Totals.{total_set, total_same, total_at, total_two, total_le, at_length}
use Rattle.kom_exchange.proofs.Places.{places_other, later_self, later_trans, later_length}
use Rattle.kom_exchange.proofs.Tests.{between_more, between_less, in_between, between_small, below_small, in_below, one_same, part_total, part_length, part_first, part_every, every_part, every_other, every_both}

abbrev pub M : ℕ
M = 18446744073709551616

at_most_one : (st : Stage) → out_at st ≤ 1
at_most_one Idle = omega arith
at_most_one (Waits t) = omega arith
at_most_one (Turn t) = omega arith

pub same_station : {T : Type 0} (x y : T) → (let l : List (ℕ × Option T) = (0, Some x) ∷ [] in l) ≡ (0, Some y) ∷ [] → x ≡ y
same_station {T} x y e = let pair : (let p : ℕ × Option T = (0, Some x) in p) ≡ (0, Some y) = cc in let inner : Some x ≡ Some y = ap (λ (p : ℕ × Option T). p.1) pair in cc

module _ {T : Type 0} (entries : T → History) (about : T → Abouts) (given : T) (start : ℕ) where
  abbrev pub St : Type 0
  St = State (Option T) View

  abbrev pub Ok : St → Type 0
  Ok = Kept entries about given start

  abbrev pub Seen : History → ℕ → ℕ → Homes T → View → Type 0
  Seen history serving next homes v = ViewOk history (length (entries given)) (about given) serving next (Gone homes) v

  abbrev pub Part : History → Own → Type 0
  Part history o = OwnOk history (length (entries given)) (about given) o

  -- the seat id takes a step, by which its numbers and its right stay
  pub moved : (s : St) (k : Ok s) (id : ℕ) (v w : View) (ws : List ℕ) (homes : Homes T) (history : History) (serving ticket : ℕ) → get_elem? s.views id ≡ some v
      → ((x : ℕ) → has_number x w ≡ has_number x v) → part_count w ≡ part_count v → right_of w ≡ right_of v
      → ws ≡ length history % M ∷ ticket % M ∷ serving % M ∷ [] → IsLater history (entries given)
      → ((j : ℕ) (u : View) → j ≢ id → get_elem? s.views j ≡ some u → Seen history serving k.next homes u) → Seen history serving k.next homes w
      → turns_of w + k.serving ≡ turns_of v + serving → out_of w + k.ticket + serving ≡ out_of v + ticket + k.serving
      → ((t : ℕ) → has_ticket t w + between k.serving k.ticket t ≡ has_ticket t v + between serving ticket t)
      → ((x : ℕ) → k.next ≤ x → (positions x (length (entries given)) history ≡ []) × (hand_of (about given) x history ≡ None))
      → IsHome entries about given history homes ⊎ IsOut homes (set s.views id w) → Ok record { words = ws; homes = homes; views = set s.views id w }
  moved s k id v w ws homes history serving ticket at nums count right is begun them mine turns out tickets others station = record {
    start_is = k.start_is;
    history = history;
    serving = serving;
    ticket = ticket;
    next = k.next;
    words = is;
    begun = begun;
    idle_start = k.idle_start;
    each_view = λ j u e. ⊎_elim (λ (h : (j ≡ id) × (w ≡ u)). subst (Seen history serving k.next homes) h.1 mine) (λ h. them j u h.0 h.1) (at_set s.views id j w u e);
    turns = let h = total_set turns_of s.views id v w at in let a = k.turns in omega arith;
    out = let h = total_set out_of s.views id v w at in let a = k.out in omega arith;
    tickets = λ t. let h = total_set (has_ticket t) s.views id v w at in let a = k.tickets t in let b = tickets t in omega arith;
    numbers = λ x. total_same (has_number x) s.views id v w at (nums x) ∙ k.numbers x;
    counted = total_same part_count s.views id v w at count ∙ k.counted;
    few = k.few;
    right = total_same right_of s.views id v w at right ∙ k.right;
    others = others;
    station = station;
  }

  -- ---- what the rule tells of a view

  pub mine_of : (s : St) (k : Ok s) (id : ℕ) (v : View) → get_elem? s.views id ≡ some v → v.spent ≡ false → Part k.history v.own × Every (Part k.history) v.taken
  mine_of s k id v at live = part_every (Part k.history) v.spent v.own v.taken live (k.each_view id v at).each

  -- at most 2^32 tickets are out
  no_more : (v : View) (b : Bool) → v.spent ≡ b → (b ≡ true → (v.stage ≡ Idle) × (v.next ≡ None)) → out_of v ≤ part_count v
  no_more v true is h = let st : out_of v ≡ 0 = ap out_at (h refl).0 in omega arith
  no_more v false is h = let n : part_count v ≡ suc (length v.taken) = ap (λ (b : Bool). length (parts_if b v.own v.taken)) is in let m : out_of v ≤ 1 = at_most_one v.stage in omega arith

  pub few_out : (s : St) (k : Ok s) → k.ticket ≤ k.serving + 4294967296
  few_out s k = let h = total_le out_of part_count s.views (λ i v e. no_more v v.spent refl (k.each_view i v e).spent) in let a = k.out in let b = k.counted in let c = k.few in omega arith

  pub ticket_in : (s : St) (k : Ok s) (id : ℕ) (v : View) (t : ℕ) → get_elem? s.views id ≡ some v → has_ticket t v ≡ 1 → (k.serving ≤ t) × (t < k.ticket)
  ticket_in s k id v t at has = in_between k.serving k.ticket t (let h = total_at (has_ticket t) s.views id v at in let a = k.tickets t in omega arith)

  -- no two seats have one ticket
  pub two_tickets : (s : St) (k : Ok s) (i j : ℕ) (u v : View) (t : ℕ) → i ≢ j → get_elem? s.views i ≡ some u → get_elem? s.views j ≡ some v → has_ticket t u ≡ 1 → has_ticket t v ≡ 1 → ⊥
  two_tickets s k i j u v t n a b has has' = let h = total_two (has_ticket t) s.views i j u v n a b in let p = k.tickets t in let q = between_small k.serving k.ticket t in absurd (omega arith)

  pub has_turn : (v : View) (t : ℕ) → v.stage ≡ Turn t → has_ticket t v ≡ 1
  has_turn v t st = ap (ticket_at t) st ∙ one_same t

  pub has_wait : (v : View) (t : ℕ) → v.stage ≡ Waits t → has_ticket t v ≡ 1
  has_wait v t st = ap (ticket_at t) st ∙ one_same t

  -- no two seats have the turn
  pub two_turns : (s : St) (k : Ok s) (i j : ℕ) (u v : View) (t r : ℕ) → i ≢ j → get_elem? s.views i ≡ some u → get_elem? s.views j ≡ some v → u.stage ≡ Turn t → v.stage ≡ Turn r → ⊥
  two_turns s k i j u v t r n a b st st' = let same : t ≡ r = ((k.each_view i u a).turn t st).0 ∙ sym ((k.each_view j v b).turn r st').0 in
      two_tickets s k i j u v r n a b (subst (λ (z : ℕ). has_ticket z u ≡ 1) same (has_turn u t st)) (has_turn v r st')

  -- the slot stays out where another seat steps
  pub still_out : (homes : Homes T) (views : List View) (id : ℕ) (v w : View) → get_elem? views id ≡ some v → ((t : ℕ) → v.stage ≡ Turn t → ⊥) → IsOut homes views → IsOut homes (set views id w)
  still_out homes views id v w at idle h = let j : ℕ = h.1.0 in let u : View = h.1.1 in let t : ℕ = h.1.2 in
      dite (ℕ_discrete j id)
      (λ (e : j ≡ id). absurd (idle t (subst (λ (x : View). x.stage ≡ Turn t) (some-injective u v (sym h.1.3 ∙ (ap (get_elem? views) e ∙ at))) h.1.4)))
      (λ n. (h.0, (j, u, t, set_else views id j w n ∙ h.1.3, h.1.4)))

  -- ---- draw a ticket

  pub draws : (slots id : ℕ) (me : Me (Option T) View) → me.0.stage ≡ Idle → me.0.spent ≡ false → Allows Ok slots id me 1 (λ n. (n + 1) % M) (drew me)
  draws slots id me st live s k wide at _ = let v : View = me.0 in let t : ℕ = k.ticket in let w : View = waiting v t in let ok = k.each_view id v at in
      let word : get_or s.words 1 0 ≡ t % M = ap (λ (ws : List ℕ). get_or ws 1 0) k.words in let none_out : out_of v ≡ 0 = ap out_at st in let le = k.out in (
        w,
        keeps,
        tt,
        moved s k id v w (set s.words 1 ((get_or s.words 1 0 + 1) % M)) s.homes k.history k.serving (t + 1) at (λ x. refl) refl refl
            (ap (λ (ws : List ℕ). set ws 1 ((get_or ws 1 0 + 1) % M)) k.words ∙ ap (λ (n : ℕ). length k.history % M ∷ n ∷ k.serving % M ∷ []) (mod-add-mod t M 1)) k.begun
            (λ j u _ e. k.each_view j u e)
            record { each = ok.each; spent = λ e. absurd (let f : true ≡ false = sym e ∙ live in cc); turn = λ r e. absurd (let f : Waits t ≡ Turn r = e in cc); right = ok.right }
            refl (omega arith) (λ r. let none_here : has_ticket r v ≡ 0 = ap (ticket_at r) st in let m = between_more k.serving t r (omega arith) in omega arith) k.others
            (⊎_elim (λ h. inl h) (λ h. inr (still_out s.homes s.views id v w at (λ r e. let f : Idle ≡ Turn r = sym st ∙ e in absurd cc) h)) k.station),
        (t, word, refl, refl),
      )

  -- ---- look at serving

  stays : (s : St) (k : Ok s) (id : ℕ) (v : View) → get_elem? s.views id ≡ some v → Ok record { words = set s.words 2 (get_or s.words 2 0); homes = s.homes; views = set s.views id v }
  stays s k id v at = moved s k id v v (set s.words 2 (get_or s.words 2 0)) s.homes k.history k.serving k.ticket at (λ x. refl) refl refl
      (ap (λ (ws : List ℕ). set ws 2 (get_or ws 2 0)) k.words) k.begun (λ j u _ e. k.each_view j u e) (k.each_view id v at) refl refl (λ r. refl) k.others
      (⊎_elim (λ h. inl h) (λ h. inr (subst (IsOut s.homes) (sym (set_again s.views id v at)) h)) k.station)

  -- the ticket's turn has come
  comes : (s : St) (k : Ok s) (id : ℕ) (v : View) (t : ℕ) → get_elem? s.views id ≡ some v → v.stage ≡ Waits t → k.serving % M ≡ t % M → k.serving ≡ t
  comes s k id v t at st same = let p = ticket_in s k id v t at (has_wait v t st) in let q = few_out s k in one_turn k.serving t M p.0 (omega arith) same

  -- where it has come, the station is at home
  is_home : (s : St) (k : Ok s) (id : ℕ) (v : View) (t : ℕ) → get_elem? s.views id ≡ some v → v.stage ≡ Waits t → k.serving ≡ t → IsHome entries about given k.history s.homes
  is_home s k id v t at st same = ⊎_elim (λ h. h) (λ h. let j : ℕ = h.1.0 in let u : View = h.1.1 in let r : ℕ = h.1.2 in
      let is : r ≡ t = ((k.each_view j u h.1.3).turn r h.1.4).0 ∙ same in
      dite (ℕ_discrete j id)
      (λ (e : j ≡ id). let x : u ≡ v = some-injective u v (sym h.1.3 ∙ (ap (get_elem? s.views) e ∙ at)) in let f : Waits t ≡ Turn r = sym st ∙ (ap (λ (z : View). z.stage) (sym x) ∙ h.1.4) in absurd cc)
      (λ n. absurd (two_tickets s k j id u v t n h.1.3 at (subst (λ (z : ℕ). has_ticket z u ≡ 1) is (has_turn u r h.1.4)) (has_wait v t st)))) k.station

  takes_it : (s : St) (k : Ok s) (id : ℕ) (v : View) (t : ℕ) (x : T) → get_elem? s.views id ≡ some v → v.spent ≡ false → v.stage ≡ Waits t → k.serving ≡ t → s.homes ≡ some (Some x) ∷ [] → entries x ≡ k.history
      → Ok record { words = set s.words 2 (get_or s.words 2 0); homes = set s.homes 0 none; views = set s.views id (seated v t (entries x)) }
  takes_it s k id v t x at live st same full is = let w : View = seated v t (entries x) in let homes : Homes T = set s.homes 0 none in let gone : Gone homes = ap (λ (h : Homes T). set h 0 none) full in
      let ok = k.each_view id v at in let both = mine_of s k id v at live in let o : Own = v.own in let p : Own = record o { seen = entries x } in
      let one : out_of v ≡ 1 = ap out_at st in
      moved s k id v w (set s.words 2 (get_or s.words 2 0)) homes k.history k.serving k.ticket at
      (λ y. part_total (λ (q : Own). one_if (q.number == y)) v.spent o p v.taken refl) (part_length v.spent o p v.taken) refl
      (ap (λ (ws : List ℕ). set ws 2 (get_or ws 2 0)) k.words) k.begun
      (λ j u _ e. let old = k.each_view j u e in record { each = old.each; spent = old.spent; turn = λ r f. let h = old.turn r f in (h.0, h.1, gone); right = old.right })
      record {
        each = every_part (Part k.history) v.spent p v.taken
            record { from_is = both.0.from_is; about_is = both.0.about_is; seen = subst (λ (h : History). IsLater k.history h) (sym is) (later_self k.history); fair = both.0.complete ∙ ap (positions o.number o.from) (sym is); complete = both.0.complete; hand = ap (hand_of o.about o.number) is } both.1;
        spent = λ e. absurd (let f : true ≡ false = sym e ∙ live in cc);
        turn = λ r e. (let f : Turn t ≡ Turn r = e in let g : t ≡ r = cc in sym g ∙ sym same, is, gone);
        right = ok.right;
      }
      (ap (λ (n : ℕ). n + k.serving) (part_total (λ (q : Own). q.turns) v.spent o p v.taken refl)) (omega arith) (λ r. ap (λ (n : ℕ). n + between k.serving k.ticket r) (sym (ap (ticket_at r) st))) k.others
      (inr (gone, (id, w, t, set_here s.views id w (at_length s.views id v at), refl)))

  pub looks : (slots id : ℕ) (me : Me (Option T) View) (t : ℕ) → me.0.stage ≡ Waits t → me.0.spent ≡ false → Allows Ok slots id me 2 (λ n. n) (looked entries about me)
  looks slots id me t st live s k wide at _ = let v : View = me.0 in let n : ℕ = get_or s.words 2 0 in let word : n ≡ k.serving % M = ap (λ (ws : List ℕ). get_or ws 2 0) k.words in
      dite (ℕ_discrete n (t % M))
      (λ hit. let same = comes s k id v t at st (sym word ∙ hit) in let home = is_home s k id v t at st same in let x : T = home.0 in let ok = (mine_of s k id v at live).0 in (
        seated v t (entries x),
        takes 0 (Some x),
        ap (λ (h : Homes T). get_elem? h 0) home.1,
        takes_it s k id v t x at live st same home.1 home.2,
        λ r f. let g : Waits t ≡ Waits r = sym st ∙ f in let e : t ≡ r = cc in (
          (λ _. (
            x,
            refl,
            ap (λ (z : ℕ). seated v z (entries x)) e,
            home.3 ∙ sym ok.about_is,
            subst (λ (h : History). IsLater h v.own.seen) (sym home.2) ok.seen,
            ok.complete ∙ ap (positions v.own.number v.own.from) (sym home.2),
            ok.hand ∙ ap (hand_of v.own.about v.own.number) (sym home.2),
            subst (λ (h : History). v.own.from ≤ length h) (sym home.2) (let l = later_length k.history (entries given) k.begun in let m = ok.from_is in omega arith),
          )),
          (λ miss. absurd (miss (hit ∙ ap (λ (z : ℕ). z % M) e))),
        ),
      ))
      (λ miss. (v, keeps, tt, stays s k id v at, λ r f. let g : Waits t ≡ Waits r = sym st ∙ f in let e : t ≡ r = cc in ((λ hit. absurd (miss (hit ∙ ap (λ (z : ℕ). z % M) (sym e)))), λ _. refl)))

  -- ---- add to the count

  grows_words : (n w : ℕ) (old new : History) → Grows (about given) w n old new → length new % M ≡ (length old % M + n) % M
  grows_words n w old new g = ap (λ (z : ℕ). z % M) (⊎_elim (λ (h : (n ≡ 0) × (new ≡ old)). let e : length new ≡ length old = ap length h.1 in let f : length new ≡ length old + n = omega arith in f)
      (λ h. let e : length new ≡ suc (length old) = ap length h.1.2 in let f : length new ≡ length old + n = omega arith in f) g)
      ∙ sym (mod-add-mod (length old) M n)

  grows_later : (n w : ℕ) (old new : History) → Grows (about given) w n old new → IsLater new old
  grows_later n w old new g = ⊎_elim (λ (h : (n ≡ 0) × (new ≡ old)). subst (λ (l : History). IsLater l old) (sym h.1) (later_self old)) (λ h. (h.1.0 ∷ [], h.1.2)) g

  grows_others : (n w : ℕ) (old new : History) (x from : ℕ) → x ≢ w → Grows (about given) w n old new → positions x from new ≡ positions x from old
  grows_others n w old new x from apart g = ⊎_elim (λ (h : (n ≡ 0) × (new ≡ old)). ap (positions x from) h.1)
      (λ h. ap (positions x from) h.1.2 ∙ places_other x from old h.1.0 (λ e. apart (sym e ∙ h.1.1))) g

  grows_hands : (n w : ℕ) (old new : History) (x : ℕ) → x ≢ w → Grows (about given) w n old new → hand_of (about given) x new ≡ hand_of (about given) x old
  grows_hands n w old new x apart g = ⊎_elim (λ (h : (n ≡ 0) × (new ≡ old)). ap (hand_of (about given) x) h.1) (λ h. h.1.3 x apart) g

  -- a part with another number stays as it is
  part_stays : (n w : ℕ) (old new : History) (o : Own) → Grows (about given) w n old new → Part old o → o.number ≢ w → Part new o
  part_stays n w old new o g p apart = record {
    from_is = p.from_is;
    about_is = p.about_is;
    seen = later_trans new old o.seen (grows_later n w old new g) p.seen;
    fair = p.fair;
    complete = p.complete ∙ sym (grows_others n w old new o.number o.from apart g);
    hand = p.hand ∙ (ap (λ (a : Abouts). hand_of a o.number old) p.about_is ∙ (sym (grows_hands n w old new o.number apart g) ∙ ap (λ (a : Abouts). hand_of a o.number new) (sym p.about_is)));
  }

  pub counts : (slots id : ℕ) (me : Me (Option T) View) (x : T) (t n : ℕ) → me.0.stage ≡ Turn t → me.0.spent ≡ false → me.1 ≡ (0, Some x) ∷ [] → Grows me.0.own.about me.0.own.number n me.0.own.seen (entries x)
      → Allows Ok slots id me 0 (λ y. (y + n) % M) (λ _ m'. counted entries me m')
  counts slots id me x t n st live carries grows s k wide at _ = let v : View = me.0 in let o : Own = v.own in let new : History = entries x in let w : View = told v new in let p : Own = w.own in let num : ℕ = o.number in
      let ok = k.each_view id v at in let both = mine_of s k id v at live in let turn = ok.turn t st in let old : History = k.history in
      let g : Grows (about given) num n old new = subst (λ (l : Abouts × History). Grows l.0 num n l.1 new) (λ i. (both.0.about_is i, turn.1 i)) grows in
      let has : total (λ (q : Own). one_if (q.number == num)) (parts v) ≡ one_if (num == num) + total (λ (q : Own). one_if (q.number == num)) v.taken = part_first (λ (q : Own). one_if (q.number == num)) v.spent o v.taken live in
      let one : one_if (num == num) ≡ 1 = one_same num in let most : total (has_number num) s.views ≤ 1 = subst (λ (z : ℕ). z ≤ 1) (sym (k.numbers num)) (below_small num k.next) in
      let here : has_number num v ≤ total (has_number num) s.views = total_at (has_number num) s.views id v at in
      let known : num < k.next = in_below num k.next (let h = k.numbers num in omega arith) in
      let rest_else : Every (λ (q : Own). q.number ≢ num) v.taken = every_other num v.taken (omega arith) in (
        w,
        keeps,
        tt,
        moved s k id v w (set s.words 0 ((get_or s.words 0 0 + n) % M)) s.homes new k.serving k.ticket at
            (λ y. part_total (λ (q : Own). one_if (q.number == y)) v.spent o p v.taken refl) (part_length v.spent o p v.taken) refl
            (ap (λ (ws : List ℕ). set ws 0 ((get_or ws 0 0 + n) % M)) k.words ∙ ap (λ (z : ℕ). z ∷ k.ticket % M ∷ k.serving % M ∷ []) (sym (grows_words n num old new g)))
            (later_trans new old (entries given) (grows_later n num old new g) k.begun)
            (λ j u other e. let u_ok = k.each_view j u e in
            let two : has_number num v + has_number num u ≤ total (has_number num) s.views = total_two (has_number num) s.views id j v u (λ q. other (sym q)) at e in
            let apart : Every (λ (q : Own). q.number ≢ num) (parts u) = every_other num (parts u) (omega arith) in record {
              each = every_both (Part old) (λ (q : Own). q.number ≢ num) (Part new) (parts u) (λ q a b. part_stays n num old new q g a b) u_ok.each apart;
              spent = u_ok.spent;
              turn = λ r f. absurd (two_turns s k j id u v r t other e at f st);
              right = u_ok.right;
            })
            record {
              each = every_part (Part new) v.spent p v.taken record { from_is = both.0.from_is; about_is = both.0.about_is; seen = later_self new; fair = refl; complete = refl; hand = refl }
                  (every_both (Part old) (λ (q : Own). q.number ≢ num) (Part new) v.taken (λ q a b. part_stays n num old new q g a b) both.1 rest_else);
              spent = λ e. absurd (let f : true ≡ false = sym e ∙ live in cc);
              turn = λ r f. let h = ok.turn r f in (h.0, refl, h.2);
              right = ok.right;
            }
            (ap (λ (z : ℕ). z + k.serving) (part_total (λ (q : Own). q.turns) v.spent o p v.taken refl)) refl (λ r. refl)
            (λ y le. (grows_others n num old new y (length (entries given)) (λ e. absurd (omega arith)) g ∙ (k.others y le).0, grows_hands n num old new y (λ e. absurd (omega arith)) g ∙ (k.others y le).1))
            (inr (turn.2, (id, w, t, set_here s.views id w (at_length s.views id v at), st))),
        λ y c. let e : x ≡ y = same_station x y (sym carries ∙ c) in (ap (λ (z : T). told v (entries z)) e, refl),
      )

  -- ---- pass the turn

  pub passes : (slots id : ℕ) (me : Me (Option T) View) (x : T) (t : ℕ) → me.0.stage ≡ Turn t → me.0.spent ≡ false → me.1 ≡ (0, Some x) ∷ [] → entries x ≡ me.0.own.seen → about x ≡ me.0.own.about
      → Allows Ok slots id me 2 (λ y. (y + 1) % M) (λ _ m'. passed me m')
  passes slots id me x t st live carries is same s k wide at _ = let v : View = me.0 in let o : Own = v.own in let w : View = left v in let p : Own = w.own in let ok = k.each_view id v at in let both = mine_of s k id v at live in
      let turn = ok.turn t st in let homes : Homes T = put_back s.homes me.1 in let full : homes ≡ some (Some x) ∷ [] = ap (put_back s.homes) carries ∙ ap (λ (h : Homes T). set h 0 (some (Some x))) turn.2 in
      let one : out_of v ≡ 1 = ap out_at st in let now : k.serving ≡ t = sym turn.0 in let in_range = ticket_in s k id v t at (has_turn v t st) in
      let sum : (q : Own) → total (λ (z : Own). z.turns) (parts_if v.spent q v.taken) ≡ q.turns + total (λ (z : Own). z.turns) v.taken = λ q. part_first (λ (z : Own). z.turns) v.spent q v.taken live in let old_sum = sum o in let new_sum = sum p in (
        w,
        gives,
        tt,
        moved s k id v w (set s.words 2 ((get_or s.words 2 0 + 1) % M)) homes k.history (k.serving + 1) k.ticket at
            (λ y. part_total (λ (q : Own). one_if (q.number == y)) v.spent o p v.taken refl) (part_length v.spent o p v.taken) refl
            (ap (λ (ws : List ℕ). set ws 2 ((get_or ws 2 0 + 1) % M)) k.words ∙ ap (λ (n : ℕ). length k.history % M ∷ k.ticket % M ∷ n ∷ []) (mod-add-mod k.serving M 1)) k.begun
            (λ j u other e. let u_ok = k.each_view j u e in record { each = u_ok.each; spent = u_ok.spent; turn = λ r f. absurd (two_turns s k j id u v r t other e at f st); right = u_ok.right })
            record {
              each = every_part (Part k.history) v.spent p v.taken record { from_is = both.0.from_is; about_is = both.0.about_is; seen = both.0.seen; fair = both.0.fair; complete = both.0.complete; hand = both.0.hand } both.1;
              spent = λ e. absurd (let f : true ≡ false = sym e ∙ live in cc);
              turn = λ r f. absurd (let e : Idle ≡ Turn r = f in cc);
              right = ok.right;
            }
            (omega arith) (omega arith)
            (λ r. let b = between_less k.serving k.ticket r (omega arith) in let h : has_ticket r v ≡ one_if (k.serving == r) = ap (ticket_at r) st ∙ ap (λ (z : ℕ). one_if (z == r)) turn.0 in omega arith)
            k.others (inl (x, full, is ∙ turn.1, same ∙ both.0.about_is)),
        (refl, refl),
      )
