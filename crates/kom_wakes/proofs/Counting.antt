-- Who is busy and who is woken by one entry more, and what is counted.
use Rattle.std.proofs.Common.{◌≡◌, ℕ, suc, ◌+◌, ◌≤◌, Bool, true, false, cond, if◌then◌else◌, not, ◌&&◌, ◌||◌, ◌==◌, refl, sym, ap, ◌∙◌, List, [], ◌∷◌, ◌++◌, length, map, filter, Option, Some, None, inl, inr, arith, eq-eqb}
use Rattle.std.specs.Prelude.{slice_get}
use Rattle.std.specs.List.{cons_option, count_by, enumerate_from, filter_map, flat_map, list_any, sum_by}
use Rattle.std.specs.Option.{option_map, option_map_or}
use Rattle.std.proofs.lemmas.List.{append-nil, length-append, length-map}
use Rattle.std.proofs.lemmas.List.FromFn.{length-enumerate_from}
use Rattle.std.proofs.lemmas.List.Sums.{sum_by-append, sum_by-cons}
use Rattle.std.proofs.lemmas.Grind.{flat_map-append}
use Rattle.std.proofs.lemmas.Bool.{eqb-true}
use Rattle.std.proofs.lemmas.Bool.Decides.{eqb_tells}
use Rattle.std.proofs.lemmas.Option.{slice_get_past}
use Rattle.kom_base.specs.declared.numbers.Dir.{Dir}
use Rattle.kom_base.specs.declared.numbers.Dir.TheVariants.{Plus, Minus}
use Rattle.kom_base.specs.Numbers.{agree, is_plus, opposite}
use Rattle.kom_lang.specs.Declarations.{Declarations, kind_of}
use Rattle.kom_lang.specs.declared.kind.PortDecl.{PortDecl}
use Rattle.kom_record.specs.declared.plan.Plan.{Plan}
use Rattle.kom_record.specs.declared.entry.Outcome.{Outcome}
use Rattle.kom_record.specs.declared.entry.Entry.{Entry}
use Rattle.kom_record.specs.declared.entry.Entry.TheVariants.{Took, Did, Moved}
use Rattle.kom_record.specs.Answers.{wakes}
use Rattle.kom_record.specs.Entries.{History, TakenJob, acts, in_hand}
use Rattle.kom_record.specs.Instances.{born}
use Rattle.kom_record.specs.Channels.{Channel, Environment, channels, channels_of, goes_out, is_living, is_outer}
use Rattle.kom_record.specs.Legal.{IsLegal}
use Rattle.kom_record.specs.Offers.{Offer, offers}
use Rattle.kom_record.specs.Queues.{Envelope, entered, entering, enters, waiting}
use Rattle.kom_record.specs.Ready.{directions, has_unhandled, instance_numbers, is_busy, is_closed, is_moved, is_took, out, queued, ready, runnable}
use Rattle.kom_record.specs.Time.{Outgoing, clock, outgoing, outgoing_by, outgoing_of, outward, root_ports}
use Rattle.kom_laws.proofs.Members.{IsIn, here, there}
use Rattle.kom_laws.proofs.ListFacts.{enumerate_append}
use Rattle.kom_laws.proofs.ActLaws.{in_filter, one_job}
use Rattle.kom_laws.proofs.Handlings.{found_in, one_job_of}
use Rattle.kom_laws.proofs.Unaffected.{and_both, and_make, not_true, stays_open}
use Rattle.kom_laws.proofs.Woken.{wakes_marked}
use Rattle.kom_refine.specs.Points.{StandsAt, receiver_of, start_of}
use Rattle.kom_refine.specs.States.{Link, State}
use Rattle.kom_wakes.specs.Laws.{BusyAfter, CountsOneMore, queue_length}

true_is_false : (b : Bool) → b ≡ true → b ≡ false → ⊥
true_is_false b e f = let g : true ≡ false = sym e ∙ f in cc

-- ---- tests on lists

none_any : {X : Type 0} (f : X → Bool) (xs : List X) → ((x : X) → IsIn x xs → f x ≡ false) → list_any f xs ≡ false
none_any f [] h = refl
none_any f (x ∷ xs) h = ap (λ b. b || list_any f xs) (h x here) ∙ none_any f xs (λ y m. h y (there m))

-- a filter that keeps all that pass a test
any_kept : {X : Type 0} (f g : X → Bool) (xs : List X) → ((x : X) → IsIn x xs → f x ≡ true → g x ≡ true) → list_any f (filter g xs) ≡ list_any f xs
any_kept f g [] h = refl
any_kept f g (x ∷ xs) h = go (g x) (f x) refl refl (any_kept f g xs (λ y m. h y (there m)))
  where
    go : (a b : Bool) → g x ≡ a → f x ≡ b → list_any f (filter g xs) ≡ list_any f xs → list_any f (cond a (x ∷ filter g xs) (filter g xs)) ≡ (b || list_any f xs)
    go true b p q r = ap (λ t. t || list_any f (filter g xs)) q ∙ ap (λ t. b || t) r
    go false true p q r = absurd (true_is_false (g x) (h x here q) p)
    go false false p q r = r

module _ (S : Declarations) where
  -- ---- who is busy

  other_busy : (Z : Plan) (P : History) (w d took : ℕ) (o : Outcome) (to : Option ℕ) (places : List ℕ) (c : ℕ) → IsLegal S Z (Did w d took o to places ∷ P) → (d == c) ≡ false → is_busy S (Did w d took o to places ∷ P) c ≡ is_busy S P c
  unfolding is_busy in_hand IsLegal
  other_busy Z P w d took o to places c l q = any_kept (λ j. j.c == c) (λ j. not (j.took == took)) (in_hand P) (λ j m e. go j m e (j.took == took) refl)
    where
      go : (j : TakenJob) → IsIn j (in_hand P) → (j.c == c) ≡ true → (b : Bool) → (j.took == took) ≡ b → not b ≡ true
      go j m e false t = refl
      go j m e true t =
          let f = found_in (λ j. j.took == took) (in_hand P) l.1.job l.1.in_hand in
          let s = one_job P j l.1.job m f.0 (eqb-true j.took took t ∙ sym (eqb-true l.1.job.took took f.1)) in
          let dc : d ≡ c = sym l.1.component ∙ sym (ap (λ j. j.c) s) ∙ eqb-true j.c c e in
          absurd (true_is_false (d == c) (eq-eqb d c dc) q)

  own_free : (Z : Plan) (P : History) (w d took : ℕ) (o : Outcome) (to : Option ℕ) (places : List ℕ) (c : ℕ) → IsLegal S Z (Did w d took o to places ∷ P) → d ≡ c → is_busy S (Did w d took o to places ∷ P) c ≡ false
  unfolding is_busy in_hand IsLegal
  own_free Z P w d took o to places c l q = none_any (λ j. j.c == c) (filter (λ j. not (j.took == took)) (in_hand P)) (λ j m. go j m (j.c == c) refl)
    where
      go : (j : TakenJob) → IsIn j (filter (λ j. not (j.took == took)) (in_hand P)) → (b : Bool) → (j.c == c) ≡ b → b ≡ false
      go j m false e = refl
      go j m true e =
          let k = in_filter (λ j. not (j.took == took)) (in_hand P) j m in
          let f = found_in (λ j. j.took == took) (in_hand P) l.1.job l.1.in_hand in
          let s = one_job_of S Z c P l.0 j l.1.job k.0 f.0 (eqb-true j.c c e) (l.1.component ∙ q) in
          absurd (true_is_false (j.took == took) (ap (λ z. z.took == took) s ∙ f.1) (not_true (j.took == took) k.1))

  pub busy_after : (P : History) (c : ℕ) → BusyAfter S P c
  unfolding is_busy in_hand
  busy_after P c = record {
    took = λ w d item. refl;
    moved = λ w t rs. refl;
    did = λ Z w d took o to places l. elim (eqb_tells d c) [
      | inl e ↦ own_free Z P w d took o to places c l e.1 ∙ sym (ap (λ b. if b then false else list_any (λ j. j.c == c) (in_hand P)) e.0)
      | inr e ↦ other_busy Z P w d took o to places c l e.0 ∙ sym (ap (λ b. if b then false else list_any (λ j. j.c == c) (in_hand P)) e.0)
    ];
  }

  -- ---- who is woken

  pub wakes_by : (Z : Plan) (P : History) (e : Entry) (mark : ℕ → Bool) → ((c : ℕ) → mark c ≡ false → runnable S (e ∷ P) c ≡ runnable S P c)
      → wakes S Z P (e ∷ P) ≡ filter (λ c. mark c && (ready S Z (e ∷ P) c && not (ready S Z P c))) (instance_numbers S (e ∷ P))
  unfolding ready
  wakes_by Z P e mark h = wakes_marked S Z P e mark (λ c m r.
      let a = and_both _ _ r in
      and_make _ _ (sym (h c m) ∙ a.0) (ap not (stays_open S Z P e (not_true _ a.1))))

  -- ---- counts

  one_more : (f : Entry → Bool) (P : History) (e : Entry) → count_by f (e ∷ P) ≡ count_by f P + (if f e then 1 else 0)
  one_more f P e =
      let a : count_by f (e ∷ P) ≡ (if f e then 1 else 0) + count_by f P = sum_by-cons (λ x. cond (f x) 1 0) e P in
      omega (arith, a)

  stays_closed : (Z : Plan) (P : History) (e : Entry) (b : Bool) → is_closed S Z (e ∷ P) ≡ b → is_closed S Z P ≡ true → b ≡ true
  stays_closed Z P e true q h = refl
  stays_closed Z P e false q h = absurd (true_is_false (is_closed S Z P) h (stays_open S Z P e q))

  pub counts : (Z : Plan) (P : History) (e : Entry) → CountsOneMore S Z P e
  unfolding has_unhandled
  counts Z P e = record { took = one_more is_took P e; moved = one_more is_moved P e; unhandled = refl; closed = stays_closed Z P e (is_closed S Z (e ∷ P)) refl }

  -- ---- sums

  sum_same : {X : Type 0} (f g : X → ℕ) (xs : List X) → ((x : X) → f x ≡ g x) → sum_by f xs ≡ sum_by g xs
  sum_same f g [] h = refl
  sum_same f g (x ∷ xs) h =
      let a = sum_by-cons f x xs in let b = sum_by-cons g x xs in let c = h x in let d = sum_same f g xs h in
      omega (arith, a, b, c, d)

  sum_plus : {X : Type 0} (f g : X → ℕ) (xs : List X) → sum_by (λ x. f x + g x) xs ≡ sum_by f xs + sum_by g xs
  sum_plus f g [] = omega arith
  sum_plus f g (x ∷ xs) =
      let a = sum_by-cons (λ x. f x + g x) x xs in let b = sum_by-cons f x xs in let c = sum_by-cons g x xs in let d = sum_plus f g xs in
      omega (arith, a, b, c, d)

  sum_none : {X : Type 0} (xs : List X) → sum_by {X = X} (λ x. 0) xs ≡ 0
  sum_none [] = refl
  sum_none {X} (x ∷ xs) = let a = sum_by-cons {X = X} (λ y. 0) x xs in let b = sum_none xs in omega (arith, a, b)

  -- ---- what waits in living channels

  queue_counts : (p : Bool) (l : Bool) (w : List Envelope) (d : Dir) (k : Link)
      → (if l && not p then length w else 0) ≡ queue_length (if p then None else option_map (λ z. record { numbers = map (λ q. q.no) (w ++ []); receiver = receiver_of d z }) (if l then Some k else None))
  queue_counts true true w d k = refl
  queue_counts true false w d k = refl
  queue_counts false false w d k = refl
  queue_counts false true w d k = sym (length-map (w ++ []) (λ q. q.no) ∙ ap length (append-nil w))

  pub queued_is : (P : History) (m : State) → StandsAt S (start_of P) m → queued S P ≡ sum_by (λ x. queue_length (m.queues x.0 x.1)) (directions S P)
  unfolding queued
  queued_is P m s = sum_same (λ x. if is_living S (acts P) x.0 && not (goes_out S x.0 x.1) then length (waiting S P x.0 x.1) else 0) (λ x. queue_length (m.queues x.0 x.1)) (directions S P)
      (λ x. queue_counts (goes_out S x.0 x.1) (is_living S (acts P) x.0) (waiting S P x.0 x.1) x.1 _ ∙ ap queue_length (sym (s.queues x.0 x.1)))

  -- ---- what went out

  abbrev by_dir : History → ℕ × Dir → ℕ
  by_dir P x = if goes_out S x.0 x.1 then length (entered S P x.0 x.1) else 0

  abbrev by_port : History → ℕ × PortDecl → ℕ
  by_port P x = length (entered S P x.0 (outward x.1))

  abbrev both_ways : ℕ → List Channel → List (ℕ × Dir)
  both_ways n cs = flat_map (λ x. (x.0, Plus) ∷ (x.0, Minus) ∷ []) (enumerate_from n cs)

  one_channel : (P : History) (n : ℕ) (c : Channel) (cs : List Channel) → sum_by (by_dir P) (both_ways n (c ∷ cs)) ≡ (by_dir P (n, Plus) + by_dir P (n, Minus)) + sum_by (by_dir P) (both_ways (n + 1) cs)
  one_channel P n c cs =
      let a = sum_by-cons (by_dir P) (n, Plus) ((n, Minus) ∷ both_ways (n + 1) cs) in
      let b = sum_by-cons (by_dir P) (n, Minus) (both_ways (n + 1) cs) in
      omega (arith, a, b)

  outer_none : (n : ℕ) (d : Dir) → length (kind_of S S.root.kind).ports ≤ n → goes_out S n d ≡ false
  unfolding goes_out is_outer
  outer_none n d h = ap (λ o. option_map_or (λ p. not (agree p.provided (is_plus (opposite d)))) o false) (slice_get_past (kind_of S S.root.kind).ports n h)

  -- the channels of instances do not lead out
  own_stay : (P : History) (n : ℕ) (cs : List Channel) → length (kind_of S S.root.kind).ports ≤ n → sum_by (by_dir P) (both_ways n cs) ≡ 0
  own_stay P n [] h = refl
  own_stay P n (c ∷ cs) h =
      let a = one_channel P n c cs in
      let p : by_dir P (n, Plus) ≡ 0 = ap (λ b. if b then length (entered S P n Plus) else 0) (outer_none n Plus h) in
      let m : by_dir P (n, Minus) ≡ 0 = ap (λ b. if b then length (entered S P n Minus) else 0) (outer_none n Minus h) in
      let r = own_stay P (n + 1) cs (omega (arith, h)) in
      omega (arith, a, p, m, r)

  -- of an environment channel one direction leads out
  one_way : (P : History) (n : ℕ) (p : PortDecl) → slice_get (kind_of S S.root.kind).ports n ≡ Some p → by_dir P (n, Plus) + by_dir P (n, Minus) ≡ by_port P (n, p)
  unfolding goes_out is_outer
  one_way P n p e =
      ap (λ o. (if option_map_or (λ p. not (agree p.provided (is_plus (opposite Plus)))) o false then length (entered S P n Plus) else 0) + (if option_map_or (λ p. not (agree p.provided (is_plus (opposite Minus)))) o false then length (entered S P n Minus) else 0)) e
      ∙ go p.provided
    where
      go : (b : Bool) → (if not (agree b (is_plus (opposite Plus))) then length (entered S P n Plus) else 0) + (if not (agree b (is_plus (opposite Minus))) then length (entered S P n Minus) else 0) ≡ length (entered S P n (if b then Plus else Minus))
      go true = omega arith
      go false = omega arith

  by_ports : (P : History) (n : ℕ) (ps : List PortDecl) → ((i : ℕ) (p : PortDecl) → slice_get ps i ≡ Some p → slice_get (kind_of S S.root.kind).ports (n + i) ≡ Some p)
      → sum_by (by_dir P) (both_ways n (map (λ q. Environment q.0) (enumerate_from n ps))) ≡ sum_by (by_port P) (enumerate_from n ps)
  by_ports P n [] h = refl
  by_ports P n (p ∷ ps) h =
      let a = one_channel P n (Environment n) (map (λ q. Environment q.0) (enumerate_from (n + 1) ps)) in
      let b = one_way P n p (ap (slice_get (kind_of S S.root.kind).ports) (let f : n ≡ n + 0 = omega arith in f) ∙ h 0 p refl) in
      let c = sum_by-cons (by_port P) (n, p) (enumerate_from (n + 1) ps) in
      let r = by_ports P (n + 1) ps (λ i q e. ap (slice_get (kind_of S S.root.kind).ports) (let f : (n + 1) + i ≡ n + suc i = omega arith in f) ∙ h (suc i) q e) in
      omega (arith, a, b, c, r)

  out_by_ports : (P : History) → out S P ≡ sum_by (by_port P) (root_ports S)
  unfolding out directions channels
  out_by_ports P =
      let env = map (λ q. Environment q.0) (enumerate_from 0 (kind_of S S.root.kind).ports) in
      let own = flat_map (channels_of S) (enumerate_from 0 (born S (acts P))) in
      let split : sum_by (by_dir P) (both_ways 0 (env ++ own)) ≡ sum_by (by_dir P) (both_ways 0 env) + sum_by (by_dir P) (both_ways (0 + length env) own) =
      ap (λ l. sum_by (by_dir P) (flat_map (λ x. (x.0, Plus) ∷ (x.0, Minus) ∷ []) l)) (enumerate_append 0 env own)
      ∙ ap (sum_by (by_dir P)) (flat_map-append (λ x. (x.0, Plus) ∷ (x.0, Minus) ∷ []) (enumerate_from 0 env) (enumerate_from (0 + length env) own))
      ∙ sum_by-append (by_dir P) (both_ways 0 env) (both_ways (0 + length env) own) in
      let first = by_ports P 0 (kind_of S S.root.kind).ports (λ i p e. ap (slice_get (kind_of S S.root.kind).ports) (let f : 0 + i ≡ i = omega arith in f) ∙ e) in
      let long : length env ≡ length (kind_of S S.root.kind).ports = length-map (enumerate_from 0 (kind_of S S.root.kind).ports) (λ q. Environment q.0) ∙ length-enumerate_from 0 (kind_of S S.root.kind).ports in
      let rest = own_stay P (0 + length env) own (omega (arith, long)) in
      omega (arith, split, first, rest)

  -- what an offer makes, by ports and by directions
  made : {Y : Type 0} (b : Bool) (y : Y) (ys : List Y) → length (cons_option (if b then Some y else None) ys) ≡ (if b then 1 else 0) + length ys
  made true y ys = omega arith
  made false y ys = omega arith

  abbrev goes : History → Offer → ℕ × PortDecl → ℕ
  goes P q x = if enters S P x.0 (outward x.1) q then 1 else 0

  by_offer : (P : History) (q : ℕ × Offer) (xs : List (ℕ × PortDecl)) → length (filter_map {Y = Outgoing} (λ x. if enters S P x.0 (outward x.1) q.1 then Some (record { no = record { position = length P; place = q.0 }; chan = x.0; event = q.1.event; at = clock P }) else None) xs) ≡ sum_by (goes P q.1) xs
  by_offer P q [] = refl
  by_offer P q (x ∷ xs) =
      let a = made (enters S P x.0 (outward x.1) q.1) (record { no = record { position = length P; place = q.0 }; chan = x.0; event = q.1.event; at = clock P }) (filter_map {Y = Outgoing} (λ x. if enters S P x.0 (outward x.1) q.1 then Some (record { no = record { position = length P; place = q.0 }; chan = x.0; event = q.1.event; at = clock P }) else None) xs) in
      let b = sum_by-cons (goes P q.1) x xs in
      let r = by_offer P q xs in
      omega (arith, a, b, r)

  abbrev enter_all : History → ℕ → Dir → List (ℕ × Offer) → List Envelope
  enter_all P x d qs = filter_map (λ q. if enters S P x d q.1 then Some (record { no = record { position = length P; place = q.0 }; event = q.1.event; back = q.1.back }) else None) qs

  by_entry : (P : History) (qs : List (ℕ × Offer)) → length (flat_map (outgoing_by S P) qs) ≡ sum_by (λ x. length (enter_all P x.0 (outward x.1) qs)) (root_ports S)
  by_entry P [] = sym (sum_none (root_ports S))
  by_entry P (q ∷ qs) =
      let a = length-append (outgoing_by S P q) (flat_map (outgoing_by S P) qs) in
      let b = by_offer P q (root_ports S) in
      let r = by_entry P qs in
      let c = sum_same (λ x. length (enter_all P x.0 (outward x.1) (q ∷ qs))) (λ x. goes P q.1 x + length (enter_all P x.0 (outward x.1) qs)) (root_ports S)
      (λ x. made (enters S P x.0 (outward x.1) q.1) (record { no = record { position = length P; place = q.0 }; event = q.1.event; back = q.1.back }) (enter_all P x.0 (outward x.1) qs)) in
      let d = sum_plus (goes P q.1) (λ x. length (enter_all P x.0 (outward x.1) qs)) (root_ports S) in
      omega (arith, a, b, r, c, d)

  grown : (P : History) (e : Entry) → length (outgoing S P) ≡ sum_by (by_port P) (root_ports S)
      → length (outgoing S P ++ outgoing_of S P e) ≡ sum_by (λ x. length (entered S P x.0 (outward x.1) ++ entering S P e x.0 (outward x.1))) (root_ports S)
  unfolding outgoing_of entering
  grown P e h =
      let a = length-append (outgoing S P) (outgoing_of S P e) in
      let b = by_entry P (enumerate_from 0 (offers P e)) in
      let c = sum_same (λ x. length (entered S P x.0 (outward x.1) ++ entering S P e x.0 (outward x.1))) (λ x. by_port P x + length (enter_all P x.0 (outward x.1) (enumerate_from 0 (offers P e)))) (root_ports S)
      (λ x. length-append (entered S P x.0 (outward x.1)) (entering S P e x.0 (outward x.1))) in
      let d = sum_plus (by_port P) (λ x. length (enter_all P x.0 (outward x.1) (enumerate_from 0 (offers P e)))) (root_ports S) in
      omega (arith, h, a, b, c, d)

  outgoing_by_ports : (P : History) → length (outgoing S P) ≡ sum_by (by_port P) (root_ports S)
  unfolding outgoing entered
  outgoing_by_ports [] = sym (sum_none (root_ports S))
  outgoing_by_ports (Took w c item ∷ P) = outgoing_by_ports P
  outgoing_by_ports (Did w c took o to places ∷ P) = grown P (Did w c took o to places) (outgoing_by_ports P)
  outgoing_by_ports (Moved w t rs ∷ P) = grown P (Moved w t rs) (outgoing_by_ports P)

  pub out_is : (P : History) → out S P ≡ length (outgoing S P)
  out_is P = out_by_ports P ∙ sym (outgoing_by_ports P)
