-- How the table starts, how seats are numbered and joined, and what the end shows.
use Rattle.std.proofs.Common.{◌≡◌, ◌⊎◌, inl, inr, ⊎_elim, ℕ, zero, suc, ◌+◌, ◌<◌, ◌≤◌, ◌≢◌, ◌==◌, Bool, true, false, leb, ltb, List, [], ◌∷◌, ◌++◌, length, set, sym, refl, ap, ap₂, subst, ◌∙◌, arith, le_refl, length-append, mod-eq_of_lt, eq-eqb, ne_eqb}
use mathlib.Core.Logic.{dite}
use mathlib.Core.Option.{some, some-injective, some-ne-none}
use native.Mathlib.Decide.{ℕ_discrete}
use lib.ListN.{get_elem?}
use Rattle.std.specs.Prelude.{Option, Some, None}
use Rattle.std.proofs.lemmas.Bool.Decides.{nat_tests}
use Rattle.atomic_table.specs.Table.{State, Splits, Joins, opening, Final, Seen as SeenAt}
use Rattle.atomic_table.proofs.Lists.{at_set, at_snoc, at_longer, set_else}
use Rattle.kom_record.specs.Entries.{History, TakenJob, in_hand}
use Rattle.kom_record.specs.Views.{positions}
use Rattle.kom_exchange.specs.Later.{Abouts, IsLater, hand_of}
use Rattle.std.specs.List.{find}
use Rattle.std.specs.Option.{option_map}
use Rattle.kom_record.specs.Bodies.{body_at}
use Rattle.kom_exchange.specs.declared.view.Own.{Own}
use Rattle.kom_exchange.specs.declared.view.Stage.TheVariants.{Idle, Turn}
use Rattle.kom_exchange.specs.declared.view.View.{View}
use Rattle.kom_exchange.specs.Rule.{Every, total, one_if, parts_if, parts, part_count, turns_of, has_number, out_at, out_of, ticket_at, has_ticket, right_at, right_of, next_of, one_more, first_of, between, below, OwnOk, ViewOk, Homes, Gone, Kept, first_view, numbered, newcomer, joined, spent_view}
use Rattle.kom_exchange.proofs.Totals.{total_set, total_same, total_append, total_two, every_append}
use Rattle.kom_exchange.proofs.Places.{places_early, places_none, later_self}
use Rattle.kom_exchange.proofs.Tests.{part_first, every_part}
use Rattle.kom_exchange.proofs.Steps.{M, still_out, mine_of}

below_one : (x : ℕ) → one_if (0 == x) + 0 + 0 ≡ below x 1
below_one zero = refl
below_one (suc x) = let a : (0 == suc x) ≡ false = grind (arith, nat_tests) in let b : ltb (suc x) 1 ≡ false = grind (arith, nat_tests) in rw (a, b) refl

below_else : (x n : ℕ) → n ≢ x → (b : Bool) → ltb x n ≡ b → below x n + (one_if (n == x) + 0) ≡ below x (n + 1)
below_else x n d true e = let f : ltb x (n + 1) ≡ true = grind (arith, nat_tests) in rw (e, f, ne_eqb n x d) refl
below_else x n d false e = let f : ltb x (n + 1) ≡ false = grind (arith, nat_tests) in rw (e, f, ne_eqb n x d) refl

nothing_between : (t : ℕ) (a b : Bool) → leb 0 t ≡ a → ltb t 0 ≡ b → between 0 0 t ≡ 0
nothing_between t a true p q = let f : t < 0 = grind (arith, nat_tests) in absurd (omega arith)
nothing_between t true false p q = rw (p, q) refl
nothing_between t false false p q = rw p refl

count_sum : (v w : View) → v.spent ≡ false → part_count (joined v w) ≡ part_count v + part_count w
count_sum v w live = let a : part_count (joined v w) ≡ suc (length (v.taken ++ parts w)) = ap (λ (b : Bool). length (parts_if b v.own (v.taken ++ parts w))) live in
    let b : part_count v ≡ suc (length v.taken) = ap (λ (b : Bool). length (parts_if b v.own v.taken)) live in omega (arith, length-append v.taken (parts w))

has_part : (u : View) (t : ℕ) → u.stage ≡ Turn t → (b : Bool) → u.spent ≡ b → (b ≡ true → (u.stage ≡ Idle) × (u.next ≡ None)) → 1 ≤ part_count u
has_part u t st true is h = absurd (let g : Idle ≡ Turn t = sym (h refl).0 ∙ st in cc)
has_part u t st false is h = let n : part_count u ≡ suc (length u.taken) = ap (λ (b : Bool). length (parts_if b u.own u.taken)) is in omega arith

-- one number more was given
below_more : (x n : ℕ) → below x n + (one_if (n == x) + 0) ≡ below x (n + 1)
below_more x n = dite (ℕ_discrete n x)
    (λ e. let a : ltb x n ≡ false = grind (arith, nat_tests) in let b : ltb x (n + 1) ≡ true = grind (arith, nat_tests) in rw (a, b, eq-eqb n x e) refl)
    (λ d. below_else x n d (ltb x n) refl)

pub no_hand : (a : Abouts) (w : ℕ) (P : History) → in_hand P ≡ [] → hand_of a w P ≡ None
no_hand None w P idle = refl
no_hand (Some a) w P idle = ap (λ (l : List TakenJob). option_map (λ (h : TakenJob). (h, body_at a.system.declarations P h.c)) (find (λ (h : TakenJob). h.w == w) l)) idle

module _ {T : Type 0} (entries : T → History) (about : T → Abouts) (given : T) (start : ℕ) where
  abbrev St : Type 0
  St = State (Option T) View

  abbrev Ok : St → Type 0
  Ok = Kept entries about given start

  abbrev Sees : History → ℕ → ℕ → Homes T → View → Type 0
  Sees history serving next homes v = ViewOk history (length (entries given)) (about given) serving next (Gone homes) v

  -- ---- the start

  pub starts : (x : T) (c : ℕ) → x ≡ given → start ≡ length (entries given) → in_hand (entries given) ≡ [] → c ≡ length (entries given) → c < M → Ok (opening (c ∷ 0 ∷ 0 ∷ []) (Some x ∷ []) (first_view (entries given) (about given)))
  starts x c is start_is idle len small = let h : History = entries given in let v : View = first_view h (about given) in record {
    start_is = start_is;
    history = h;
    serving = 0;
    ticket = 0;
    next = 1;
    words = λ k. (len ∙ sym (mod-eq_of_lt (subst (λ (n : ℕ). n < M) len small))) k ∷ 0 ∷ 0 ∷ [];
    begun = later_self h;
    idle_start = idle;
    each_view = λ j u e. ⊎_elim (λ (d : get_elem? [] j ≡ some u). absurd (some-ne-none u (sym d))) (λ (d : v ≡ u). subst (Sees h 0 1 (some (Some x) ∷ [])) d record {
      each = (record { from_is = refl; about_is = refl; seen = later_self h; fair = sym (places_early 0 (length h) h (le_refl (length h))); complete = sym (places_early 0 (length h) h (le_refl (length h))); hand = refl }, tt);
      spent = λ d. absurd cc;
      turn = λ t d. absurd (let f : Idle ≡ Turn t = d in cc);
      right = λ n d. let f : Some 1 ≡ Some n = d in let g : 1 ≡ n = cc in sym g;
    }) (at_snoc [] v u j e);
    turns = refl;
    out = refl;
    tickets = λ t. sym (nothing_between t (leb 0 t) (ltb t 0) refl refl);
    numbers = λ y. below_one y;
    counted = refl;
    few = omega arith;
    right = refl;
    others = λ y le. (places_early y (length h) h (le_refl (length h)), no_hand (about given) y h idle);
    station = inl (x, refl, ap entries is, ap about is);
  }

  -- ---- a seat is numbered

  pub splits : (id : ℕ) (v : View) (n : ℕ) → v.spent ≡ false → v.stage ≡ Idle → v.next ≡ Some n → n < 4294967296 → in_hand v.own.seen ≡ [] → Splits Ok id v (numbered v) (newcomer v)
  splits id v n live st right few idle s k at = let l : View = numbered v in let r : View = newcomer v in let vs : List View = set s.views id l in let ok = k.each_view id v at in let both = mine_of entries about given start s k id v at live in
      let is : n ≡ k.next = ok.right n right in let next : ℕ = k.next + 1 in let num : r.own.number ≡ n = ap next_of right in
      let sum : (f : View → ℕ) → f l ≡ f v → total f (vs ++ r ∷ []) ≡ total f s.views + (f r + 0) = λ f e. total_append f vs (r ∷ []) ∙ ap (λ (z : ℕ). z + (f r + 0)) (total_same f s.views id v l at e) in
      let a : right_of v ≡ 1 = ap right_at right in let rs = sum right_of (ap (λ (z : Option ℕ). right_at (one_more z)) right ∙ sym a) in
      let none_here : positions n (length (entries given)) k.history ≡ [] = (k.others n (omega arith)).0 in let empty_here : hand_of (about given) n k.history ≡ None = (k.others n (omega arith)).1 in record {
        start_is = k.start_is;
        history = k.history;
        serving = k.serving;
        ticket = k.ticket;
        next = next;
        words = k.words;
        begun = k.begun;
        idle_start = k.idle_start;
        each_view = λ j u e. ⊎_elim
            (λ (d : get_elem? vs j ≡ some u). ⊎_elim
            (λ (h : (j ≡ id) × (l ≡ u)). subst (Sees k.history k.serving next s.homes) h.1 record {
              each = ok.each;
              spent = λ d. absurd (let f : true ≡ false = sym d ∙ live in cc);
              turn = ok.turn;
              right = λ m d. let f : Some (n + 1) ≡ Some m = ap one_more (sym right) ∙ d in let g : n + 1 ≡ m = cc in omega arith;
            })
            (λ h. let old = k.each_view j u h.1 in record {
              each = old.each;
              spent = old.spent;
              turn = old.turn;
              right = λ m d. let b : right_of u ≡ 1 = ap right_at d in let two = total_two right_of s.views j id u v h.0 h.1 at in let c = k.right in absurd (omega arith);
            }) (at_set s.views id j l u d))
            (λ (d : r ≡ u). subst (Sees k.history k.serving next s.homes) d record {
              each = (
                record {
                  from_is = both.0.from_is;
                  about_is = both.0.about_is;
                  seen = both.0.seen;
                  fair = sym (places_none r.own.number v.own.from k.history v.own.seen both.0.seen (ap₂ (λ (w f : ℕ). positions w f k.history) num both.0.from_is ∙ none_here));
                  complete = sym (ap₂ (λ (w f : ℕ). positions w f k.history) num both.0.from_is ∙ none_here);
                  hand = no_hand v.own.about r.own.number v.own.seen idle ∙ sym (ap₂ (λ (a : Abouts) (w : ℕ). hand_of a w k.history) both.0.about_is num ∙ empty_here);
                },
                tt,
              );
              spent = λ d. absurd cc;
              turn = λ t d. absurd (let f : Idle ≡ Turn t = d in cc);
              right = λ m d. absurd (let f : None ≡ Some m = d in cc);
            }) (at_snoc vs r u j e);
        turns = let h = sum turns_of refl in let b = k.turns in omega arith;
        out = let h = sum out_of refl in let b = k.out in omega arith;
        tickets = λ t. let h = sum (has_ticket t) refl in let b = k.tickets t in omega arith;
        numbers = λ x. sum (has_number x) refl ∙ (ap₂ (λ (a b : ℕ). a + (one_if (b == x) + 0 + 0)) (k.numbers x) (num ∙ is) ∙ (let h = below_more x k.next in omega arith));
        counted = let h = sum part_count refl in let b = k.counted in omega arith;
        few = omega arith;
        right = let b = k.right in omega arith;
        others = λ x le. k.others x (omega arith);
        station = ⊎_elim (λ h. inl h) (λ h. let o = still_out entries about given start s.homes s.views id v l at (λ t e. absurd (let f : Idle ≡ Turn t = sym st ∙ e in cc)) h in
            inr (o.0, (o.1.0, o.1.1, o.1.2, at_longer vs (r ∷ []) o.1.0 o.1.1 o.1.3, o.1.4))) k.station;
      }

  -- ---- a seat is taken over

  part_sum : (f : Own → ℕ) (v w : View) → v.spent ≡ false → total f (parts (joined v w)) ≡ total f (parts v) + total f (parts w)
  part_sum f v w live = part_first f v.spent v.own (v.taken ++ parts w) live ∙ (ap (λ (n : ℕ). f v.own + n) (total_append f v.taken (parts w)) ∙ (let h = part_first f v.spent v.own v.taken live in omega arith))

  rights : (a b : Option ℕ) → right_at a + right_at b ≤ 1 → right_at (first_of a b) ≡ right_at a + right_at b
  rights None b le = omega arith
  rights (Some n) None le = refl
  rights (Some n) (Some m) le = absurd (omega arith)

  which : (a b : Option ℕ) (n : ℕ) → first_of a b ≡ Some n → (a ≡ Some n) ⊎ (b ≡ Some n)
  which None b n e = inr e
  which (Some m) b n e = inl e

  pub joins : (id : ℕ) (v : View) (other : ℕ) (w : View) → v.spent ≡ false → w.spent ≡ false → v.stage ≡ Idle → w.stage ≡ Idle → Joins Ok id v other w (joined v w) spent_view
  joins id v other w live live' st st' s k at apart at' = let b : View = joined v w in let vs : List View = set s.views id b in let us : List View = set vs other spent_view in
      let at_w : get_elem? s.views other ≡ some w = sym (set_else s.views id other b apart) ∙ at' in
      let ok = k.each_view id v at in let ok' = k.each_view other w at_w in let mine = mine_of entries about given start s k id v at live in
      let sum : (f : View → ℕ) → f b ≡ f v + f w → f spent_view ≡ 0 → total f us ≡ total f s.views = λ f e z. let h = total_set f s.views id v b at in let h' = total_set f vs other w spent_view at' in omega arith in
      let two = total_two right_of s.views id other v w (λ e. apart (sym e)) at at_w in let one = k.right in record {
        start_is = k.start_is;
        history = k.history;
        serving = k.serving;
        ticket = k.ticket;
        next = k.next;
        words = k.words;
        begun = k.begun;
        idle_start = k.idle_start;
        each_view = λ j u e. ⊎_elim
            (λ (h : (j ≡ other) × (spent_view ≡ u)). subst (Sees k.history k.serving k.next s.homes) h.1 record { each = tt; spent = λ _. (refl, refl); turn = λ t d. absurd (let f : Idle ≡ Turn t = d in cc); right = λ n d. absurd (let f : None ≡ Some n = d in cc) })
            (λ h. ⊎_elim
            (λ (i : (j ≡ id) × (b ≡ u)). subst (Sees k.history k.serving k.next s.homes) i.1 record {
              each = every_part (OwnOk k.history (length (entries given)) (about given)) v.spent v.own (v.taken ++ parts w) mine.0 (every_append (OwnOk k.history (length (entries given)) (about given)) v.taken (parts w) mine.1 ok'.each);
              spent = λ d. absurd (let f : true ≡ false = sym d ∙ live in cc);
              turn = λ t d. absurd (let f : Idle ≡ Turn t = sym st ∙ d in cc);
              right = λ n d. ⊎_elim (ok.right n) (ok'.right n) (which v.next w.next n d);
            })
            (λ i. k.each_view j u i.1) (at_set s.views id j b u h.1)) (at_set vs other j spent_view u e);
        turns = sum turns_of (part_sum (λ o. o.turns) v w live) refl ∙ k.turns;
        out = let h = sum out_of (let z : out_of w ≡ 0 = ap out_at st' in omega arith) refl in let p = k.out in omega arith;
        tickets = λ t. sum (has_ticket t) (let z : has_ticket t w ≡ 0 = ap (ticket_at t) st' in let y : has_ticket t v ≡ has_ticket t b = refl in omega arith) refl ∙ k.tickets t;
        numbers = λ x. sum (has_number x) (part_sum (λ o. one_if (o.number == x)) v w live) refl ∙ k.numbers x;
        counted = sum part_count (count_sum v w live) refl ∙ k.counted;
        few = k.few;
        right = sum right_of (rights v.next w.next (omega arith)) refl ∙ k.right;
        others = k.others;
        station = ⊎_elim (λ h. inl h) (λ h. inr (still_out entries about given start s.homes vs other w spent_view at' (λ t d. absurd (let f : Idle ≡ Turn t = sym st' ∙ d in cc))
            (still_out entries about given start s.homes s.views id v b at (λ t d. absurd (let f : Idle ≡ Turn t = sym st ∙ d in cc)) h))) k.station;
      }

  -- ---- the end

  -- where a seat has all the numbers, no other has the turn, and the station is at home
  pub ends : (id : ℕ) (v : View) (n : ℕ) (ws : List ℕ) (xs : List (Option T)) → v.spent ≡ false → v.stage ≡ Idle → v.next ≡ Some n → part_count v ≡ n → Final (SeenAt Ok id v) ws xs
      → (x : T) × (get_elem? xs 0 ≡ some (Some x)) × (start ≡ length (entries given)) × (about x ≡ about given) × IsLater (entries x) (entries given) × Every (OwnOk (entries x) (length (entries given)) (about given)) (parts v)
      × ((y : ℕ) → n ≤ y → (positions y (length (entries given)) (entries x) ≡ []) × (hand_of (about given) y (entries x) ≡ None))
  ends id v n ws xs live st right all f = let s : St = f.0 in let k : Ok s = f.1.0 in let at = f.1.1 in let ok = k.each_view id v at in let is : n ≡ k.next = ok.right n right in
      ⊎_elim
      (λ h. let x : T = h.0 in let same : k.history ≡ entries x = sym h.2 in (
        x,
        f.4 0 (Some x) (ap (λ (l : Homes T). get_elem? l 0) h.1),
        k.start_is,
        h.3,
        subst (λ (l : History). IsLater l (entries given)) same k.begun,
        subst (λ (l : History). Every (OwnOk l (length (entries given)) (about given)) (parts v)) same ok.each,
        λ y le. let o = k.others y (omega arith) in (ap (positions y (length (entries given))) (sym same) ∙ o.0, ap (hand_of (about given) y) (sym same) ∙ o.1),
      ))
      (λ h. let j : ℕ = h.1.0 in let u : View = h.1.1 in let t : ℕ = h.1.2 in let u_ok = k.each_view j u h.1.3 in
      let apart : id ≢ j = λ e. absurd (let z : v ≡ u = some-injective v u (sym at ∙ (ap (get_elem? s.views) e ∙ h.1.3)) in let g : Idle ≡ Turn t = sym st ∙ (ap (λ (y : View). y.stage) z ∙ h.1.4) in cc) in
      let some_part : 1 ≤ part_count u = has_part u t h.1.4 u.spent refl u_ok.spent in
      let two = total_two part_count s.views id j v u apart at h.1.3 in let c = k.counted in absurd (omega arith))
      k.station

  -- the station that comes out of the slot is that one
  abbrev pub Ended : (n : ℕ) (v : View) → T → Type 0
  Ended n v x = (start ≡ length (entries given)) × (about x ≡ about given) × IsLater (entries x) (entries given) × Every (OwnOk (entries x) (length (entries given)) (about given)) (parts v)
      × ((y : ℕ) → n ≤ y → (positions y (length (entries given)) (entries x) ≡ []) × (hand_of (about given) y (entries x) ≡ None))

  pub found : (id : ℕ) (v : View) (n : ℕ) (ws : List ℕ) (xs : List (Option T)) (o : Option T) → v.spent ≡ false → v.stage ≡ Idle → v.next ≡ Some n → part_count v ≡ n → Final (SeenAt Ok id v) ws xs
      → get_elem? xs 0 ≡ some o → (x : T) × (o ≡ Some x)
  found id v n ws xs o live st right all f at = let e = ends id v n ws xs live st right all f in (e.0, some-injective o (Some e.0) (sym at ∙ e.1))

  pub ended : (id : ℕ) (v : View) (n : ℕ) (ws : List ℕ) (xs : List (Option T)) (o : Option T) (y : T) → v.spent ≡ false → v.stage ≡ Idle → v.next ≡ Some n → part_count v ≡ n → Final (SeenAt Ok id v) ws xs
      → get_elem? xs 0 ≡ some o → o ≡ Some y → Ended n v y
  ended id v n ws xs o y live st right all f at is = let e = ends id v n ws xs live st right all f in
      let same : Some e.0 ≡ Some y = some-injective (Some e.0) (Some y) (sym e.1 ∙ (at ∙ ap some is)) in let z : e.0 ≡ y = cc in
      subst (Ended n v) z (e.2, e.3, e.4, e.5, e.6)
