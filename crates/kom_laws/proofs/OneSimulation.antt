-- A simulation has one record at most: in each moment one entry may follow at most, and none after
-- the end.
use Rattle.std.proofs.Common.{◌≡◌, ℕ, Bool, true, false, cond, not, ◌&&◌, ◌||◌, ◌==◌, IsTrue, refl, sym, ap, ◌∙◌, subst, List, [], ◌∷◌, ◌++◌, filter, Option, Some, None, ◌⊎◌, inl, inr, arith}
use Rattle.std.specs.Prelude.{map, nat_lt, is_none}
use Rattle.std.specs.List.{find}
use Rattle.std.specs.Option.{option_map}
use Rattle.std.proofs.lemmas.List.{append_assoc, append-nil}
use Rattle.kom_base.specs.Lists.{first, least}
use Rattle.kom_lang.specs.Declarations.{Declarations}
use Rattle.kom_lang.specs.declared.body.Body.{Body}
use Rattle.kom_lang.specs.Steps.{Running, Ended, Faulted}
use Rattle.kom_record.specs.declared.plan.Plan.{Plan}
use Rattle.kom_record.specs.declared.item.Item.{Item}
use Rattle.kom_record.specs.declared.entry.Outcome.{Outcome}
use Rattle.kom_record.specs.declared.entry.Outcome.TheVariants as outcome
use Rattle.kom_record.specs.declared.entry.Entry.{Entry}
use Rattle.kom_record.specs.declared.entry.Entry.TheVariants.{Took, Did, Moved}
use Rattle.kom_record.specs.Entries.{History, acts, in_hand}
use Rattle.kom_record.specs.Instances.{alive}
use Rattle.kom_record.specs.Reaction.{Reacts, context, first_config}
use Rattle.kom_record.specs.Bodies.{body_at}
use Rattle.kom_record.specs.Queues.{unreached}
use Rattle.kom_record.specs.Controls.{told}
use Rattle.kom_record.specs.Time.{pending, due, batch}
use Rattle.kom_record.specs.Ready.{ready, runnable, instance_numbers, ready_list, next, is_closed, is_idle, is_finished}
use Rattle.kom_record.specs.Legal.{MayDo, MayEnd, IsAllowed, IsLegal}
use Rattle.kom_record.specs.Simulated.{ready_since, is_lesser_pair, longest_ready, IsNextInOrder, IsInOrder, IsSimulated}
use Rattle.kom_record.specs.Model.{model}
use Rattle.kom_laws.proofs.Members.{Some-injective}
use Rattle.kom_laws.proofs.OneEnd.{one_end}

by_test : (r : ℕ → Bool) (b : Bool) (x : ℕ) (xs : List ℕ) (t : Bool) → r x ≡ t → cond (r x) (x ∷ filter r xs) (filter r xs) ≡ []
    → (filter r xs ≡ [] → filter (λ c. r c && b) xs ≡ []) → cond (r x && b) (x ∷ filter (λ c. r c && b) xs) (filter (λ c. r c && b) xs) ≡ []
by_test r b x xs true f e rest = absurd (let q : x ∷ filter r xs ≡ [] = ap (λ t. cond t (x ∷ filter r xs) (filter r xs)) (sym f) ∙ e in cc)
by_test r b x xs false f e rest =
    ap (λ t. cond (t && b) (x ∷ filter (λ c. r c && b) xs) (filter (λ c. r c && b) xs)) f
    ∙ rest (ap (λ t. cond t (x ∷ filter r xs) (filter r xs)) (sym f) ∙ e)

-- what a test keeps, where a weaker one keeps nothing
kept_by_weaker : (r : ℕ → Bool) (b : Bool) (xs : List ℕ) → filter r xs ≡ [] → filter (λ c. r c && b) xs ≡ []
kept_by_weaker r b [] e = refl
kept_by_weaker r b (x ∷ xs) e = by_test r b x xs (r x) refl e (kept_by_weaker r b xs)

none_first : {X : Type 0} (xs : List X) → is_none (first xs) ≡ true → xs ≡ []
none_first [] e = refl
none_first (x ∷ xs) e = absurd cc

and_first : (a b : Bool) → (a && b) ≡ true → a ≡ true
and_first true b e = refl
and_first false b e = absurd cc

and_second : (a b : Bool) → (a && b) ≡ true → b ≡ true
and_second true b e = e
and_second false b e = absurd cc

or_cases : (a b : Bool) → (a || b) ≡ true → (a ≡ true) ⊎ (b ≡ true)
or_cases true b e = inl refl
or_cases false b e = inr e

-- a list that is not empty has a last element
last_of : {X : Type 0} (x : X) (xs : List X) → (front : List X) × (y : X) × (x ∷ xs ≡ front ++ y ∷ [])
last_of x [] = ([], x, refl)
last_of x (z ∷ xs) = let r = last_of z xs in (x ∷ r.0, r.1, ap (λ l. x ∷ l) r.2)

module _ (S : Declarations) (Z : Plan) where
  same_reaction : (b : Body) (item : Item) (o p : Outcome) → Reacts S b item o → Reacts S b item p → o ≡ p
  unfolding model
  same_reaction b item outcome.Void p h k = absurd h
  same_reaction b item (outcome.Fault n) outcome.Void h k = absurd k
  same_reaction b item (outcome.Fault n) (outcome.Fault m) h k =
      let e : Faulted n ≡ Faulted m = one_end h.0 k.0 (context S item) (Running (first_config S b item)) _ _ tt tt h.1 k.1 in
      let f : n ≡ m = cc in
      ap outcome.Fault f
  same_reaction b item (outcome.Fault n) (outcome.Done c es) h k =
      let e : Faulted n ≡ Ended c es = one_end h.0 k.0 (context S item) (Running (first_config S b item)) _ _ tt tt h.1 k.1 in absurd cc
  same_reaction b item (outcome.Done c es) outcome.Void h k = absurd k
  same_reaction b item (outcome.Done c es) (outcome.Fault m) h k =
      let e : Ended c es ≡ Faulted m = one_end h.0 k.0 (context S item) (Running (first_config S b item)) _ _ tt tt h.1 k.1 in absurd cc
  same_reaction b item (outcome.Done c es) (outcome.Done d fs) h k =
      let e : Ended c es ≡ Ended d fs = one_end h.0 k.0 (context S item) (Running (first_config S b item)) _ _ tt tt h.1 k.1 in
      let f : c ≡ d = cc in
      let g : es ≡ fs = cc in
      cc

  pub same_end : (t : Bool) (b : Body) (item : Item) (o p : Outcome) → MayEnd S Z t b item o → MayEnd S Z t b item p → o ≡ p
  unfolding model
  same_end true b item o p h k = same_reaction b item o p h k
  same_end false b item o p h k = h ∙ sym k

  module _ (P : History) where
    no_job_found : (took : ℕ) (j : _) → in_hand P ≡ [] → find (λ h. h.took == took) (in_hand P) ≡ Some j → ⊥
    no_job_found took j e f = let g : find (λ h. h.took == took) [] ≡ Some j = ap (find (λ h. h.took == took)) (sym e) ∙ f in cc

    none_longest : ready_list S Z P ≡ [] → longest_ready S Z P ≡ None
    unfolding longest_ready
    none_longest e = ap (λ l. option_map (λ q. q.1) (least (is_lesser_pair S Z) (map (λ c. (ready_since S Z P c, c)) l))) e

    -- who is told, and what is unreached, depend on the outcome and not on what the entry says of them
    told_plain : (w c took : ℕ) (o : Outcome) (to : Option ℕ) (places : List ℕ) → told S P (Did w c took o to places) c ≡ told S P (Did w c took o None []) c
    unfolding model
    told_plain w c took outcome.Void to places = refl
    told_plain w c took (outcome.Fault n) to places = refl
    told_plain w c took (outcome.Done b es) to places = refl

    unreached_plain : (w c took : ℕ) (o : Outcome) (to : Option ℕ) (places : List ℕ) → unreached S P (Did w c took o to places) ≡ unreached S P (Did w c took o None [])
    unfolding model
    unreached_plain w c took outcome.Void to places = refl
    unreached_plain w c took (outcome.Fault n) to places = refl
    unreached_plain w c took (outcome.Done b es) to places = refl

    same_did : (w c took : ℕ) (o : Outcome) (to : Option ℕ) (places : List ℕ) (w' c' took' : ℕ) (o' : Outcome) (to' : Option ℕ) (places' : List ℕ)
        → w ≡ w' → took ≡ took' → MayDo S Z P w c took o to places → MayDo S Z P w' c' took' o' to' places' → Did w c took o to places ≡ Did w' c' took' o' to' places'
    same_did w c took o to places w' c' took' o' to' places' e t a b =
        let j : a.job ≡ b.job = Some-injective (sym a.in_hand ∙ ap (λ n. find (λ h. h.took == n) (in_hand P)) t ∙ b.in_hand) in
        let d : c ≡ c' = sym a.component ∙ ap (λ h. h.c) j ∙ b.component in
        let y : a.body ≡ b.body = Some-injective (sym a.body_is ∙ ap (body_at S P) d ∙ b.body_is) in
        let k : MayEnd S Z (alive S (acts P) c) a.body a.job.item o' =
        subst (λ n. MayEnd S Z (alive S (acts P) n) a.body a.job.item o') (sym d)
        (subst (λ x. MayEnd S Z (alive S (acts P) c') x a.job.item o') (sym y)
        (subst (λ h. MayEnd S Z (alive S (acts P) c') b.body h.item o') (sym j) b.outcome)) in
        let p : o ≡ o' = same_end (alive S (acts P) c) a.body a.job.item o o' a.outcome k in
        let m : to ≡ told S P (Did w c took o None []) c = a.told ∙ told_plain w c took o to places in
        let n : to' ≡ told S P (Did w' c' took' o' None []) c' = b.told ∙ told_plain w' c' took' o' to' places' in
        let u : places ≡ unreached S P (Did w c took o None []) = a.unreached ∙ unreached_plain w c took o to places in
        let v : places' ≡ unreached S P (Did w' c' took' o' None []) = b.unreached ∙ unreached_plain w' c' took' o' to' places' in
        let f : to ≡ to' = cc in
        let g : places ≡ places' = cc in
        cc

    -- one entry may follow at most
    next_is_one : (e f : Entry) → IsAllowed S Z P e → IsNextInOrder S Z P e → IsAllowed S Z P f → IsNextInOrder S Z P f → e ≡ f
    next_is_one (Took w c i) (Took w' c' i') a n b m =
        let x : w ≡ w' = n.0 ∙ sym m.0 in
        let y : c ≡ c' = Some-injective (sym n.2 ∙ m.2) in
        let z : i ≡ i' = Some-injective (sym a.next ∙ ap (next S P) y ∙ b.next) in
        cc
    next_is_one (Took w c i) (Did w' c' took o to places) a n b m = absurd (no_job_found took b.job n.1 b.in_hand)
    next_is_one (Took w c i) (Moved w' t released) a n b m = absurd (let q = sym (none_longest b.none_ready) ∙ n.2 in cc)
    next_is_one (Did w c took o to places) (Took w' c' i) a n b m = absurd (no_job_found took a.job m.1 a.in_hand)
    next_is_one (Did w c took o to places) (Did w' c' took' o' to' places') a n b m =
        same_did w c took o to places w' c' took' o' to' places' (n.0 ∙ sym m.0) (omega (arith, n.1, m.1)) a b
    next_is_one (Did w c took o to places) (Moved w' t released) a n b m = absurd (no_job_found took a.job b.no_job a.in_hand)
    next_is_one (Moved w t released) (Took w' c' i) a n b m = absurd (let q = sym (none_longest a.none_ready) ∙ m.2 in cc)
    next_is_one (Moved w t released) (Did w' c' took o to places) a n b m = absurd (no_job_found took b.job a.no_job b.in_hand)
    next_is_one (Moved w t released) (Moved w' t' released') a n b m =
        let x : w ≡ w' = n ∙ sym m in
        let y : t ≡ t' = Some-injective (sym a.due ∙ b.due) in
        let p : released ≡ batch S Z P t = a.all_released in
        let q : released' ≡ batch S Z P t' = b.all_released in
        let z : released ≡ released' = cc in
        cc

    -- ---- nothing follows on the end

    not_true : (b : Bool) → IsTrue (not b) → b ≡ true → ⊥
    not_true true h e = cc
    not_true false h e = absurd cc

    idle_none_ready : is_closed S Z P ≡ false → is_idle S Z P ≡ true → ready_list S Z P ≡ []
    unfolding ready_list ready is_idle
    idle_none_ready c i =
        let n : filter (runnable S P) (instance_numbers S P) ≡ [] = none_first _ (and_first _ _ i) in
        kept_by_weaker (runnable S P) (not (is_closed S Z P)) (instance_numbers S P) n

    idle_nothing_due : is_idle S Z P ≡ true → due S Z P ≡ None
    unfolding is_idle due
    idle_nothing_due i = ap (λ l. least nat_lt (map (λ p. p.0) l)) (none_first (pending S Z P) (and_second _ _ i))

    closed_or_idle : is_finished S Z P ≡ true → (is_closed S Z P ≡ true) ⊎ (is_idle S Z P ≡ true)
    unfolding is_finished
    closed_or_idle h = or_cases _ _ (and_second _ _ h)

    no_job : is_finished S Z P ≡ true → in_hand P ≡ []
    unfolding is_finished
    no_job h = none_first _ (and_first _ _ h)

    not_closed : (c : ℕ) → ready S Z P c ≡ true → is_closed S Z P ≡ true → ⊥
    unfolding ready
    not_closed c h e = not_true (is_closed S Z P) (and_second _ _ h) e

    closed_is : (b : Bool) → (b ≡ true → ⊥) → b ≡ false
    closed_is true h = absurd (h refl)
    closed_is false h = refl

    after_end : is_finished S Z P ≡ true → (e : Entry) → IsAllowed S Z P e → IsNextInOrder S Z P e → ⊥
    after_end h (Took w c item) a n =
        let open_still = not_closed c a.ready in
        elim (closed_or_idle h) [
          | inl k ↦ open_still k
          | inr i ↦ let q : None ≡ Some c = sym (none_longest (idle_none_ready (closed_is _ open_still) i)) ∙ n.2 in cc
        ]
    after_end h (Did w c took o to places) a n = no_job_found took a.job (no_job h) a.in_hand
    after_end h (Moved w t released) a n =
        elim (closed_or_idle h) [
          | inl k ↦ not_true (is_closed S Z P) a.not_closed k
          | inr i ↦ let q : None ≡ Some t = sym (idle_nothing_due i) ∙ a.due in cc
        ]

  -- ---- two records

  legal_before : (more P : History) → IsLegal S Z (more ++ P) → IsLegal S Z P
  unfolding IsLegal
  legal_before [] P h = h
  legal_before (e ∷ more) P h = legal_before more P h.0

  in_order_before : (more P : History) → IsInOrder S Z (more ++ P) → IsInOrder S Z P
  unfolding IsInOrder
  in_order_before [] P h = h
  in_order_before (e ∷ more) P h = in_order_before more P h.0

  abbrev IsChain : History → Type 0
  IsChain R = IsLegal S Z R × IsInOrder S Z R

  chain_before : (more P : History) → IsChain (more ++ P) → IsChain P
  chain_before more P h = (legal_before more P h.0, in_order_before more P h.1)

  -- what follows on P in a chain
  follows : (e : Entry) (P : History) → IsChain (e ∷ P) → IsAllowed S Z P e × IsNextInOrder S Z P e
  unfolding IsLegal IsInOrder
  follows e P h = (h.0.1, h.1.1)

  abbrev IsPartOf : History → History → Type 0
  IsPartOf R Q = (more : List Entry) × (Q ≡ more ++ R)

  -- where Q goes on from P, the first entry that it adds follows on P
  adds : (x : Entry) (xs : List Entry) (P Q : History) → IsChain Q → Q ≡ (x ∷ xs) ++ P
      → (front : List Entry) × (g : Entry) × (Q ≡ front ++ g ∷ P) × IsAllowed S Z P g × IsNextInOrder S Z P g
  adds x xs P Q c e =
      let l = last_of x xs in
      let q : Q ≡ l.0 ++ l.1 ∷ P = e ∙ ap (λ m. m ++ P) l.2 ∙ append_assoc l.0 (l.1 ∷ []) P in
      let f = follows l.1 P (chain_before l.0 (l.1 ∷ P) (subst IsChain q c)) in
      (l.0, l.1, q, f.0, f.1)

  one_more : (e : Entry) (P Q : History) → IsChain (e ∷ P) → IsChain Q → (more : List Entry) → Q ≡ more ++ P → IsPartOf (e ∷ P) Q ⊎ IsPartOf Q (e ∷ P)
  one_more e P Q c d [] q = inr (e ∷ [], ap (λ m. e ∷ m) (sym q))
  one_more e P Q c d (x ∷ xs) q =
      let g = adds x xs P Q d q in
      let f = follows e P c in
      let s : e ≡ g.1 = next_is_one P e g.1 f.0 f.1 g.3 g.4 in
      inl (g.0, g.2 ∙ ap (λ h. g.0 ++ h ∷ P) (sym s))

  compare_more : (e : Entry) (P Q : History) → IsChain (e ∷ P) → IsChain Q → IsPartOf P Q ⊎ IsPartOf Q P → IsPartOf (e ∷ P) Q ⊎ IsPartOf Q (e ∷ P)
  compare_more e P Q c d (inl h) = one_more e P Q c d h.0 h.1
  compare_more e P Q c d (inr h) = inr (e ∷ h.0, ap (λ m. e ∷ m) h.1)

  -- of two chains one is a part of the other
  compare : (R Q : History) → IsChain R → IsChain Q → IsPartOf R Q ⊎ IsPartOf Q R
  compare [] Q c d = inl (Q, sym (append-nil Q))
  compare (e ∷ P) Q c d = compare_more e P Q c d (compare P Q (chain_before (e ∷ []) P c) d)

  whole : (R Q : History) → is_finished S Z R ≡ true → IsChain Q → (more : List Entry) → Q ≡ more ++ R → R ≡ Q
  whole R Q f d [] e = sym e
  whole R Q f d (x ∷ xs) e = let g = adds x xs R Q d e in absurd (after_end R f g.1 g.3 g.4)

  pub one_simulation : (R Q : History) → IsSimulated S Z R → IsSimulated S Z Q → R ≡ Q
  one_simulation R Q r q =
      elim (compare R Q (r.legal, r.in_order) (q.legal, q.in_order)) [
        | inl h ↦ whole R Q r.finished (q.legal, q.in_order) h.0 h.1
        | inr h ↦ sym (whole Q R q.finished (r.legal, r.in_order) h.0 h.1)
      ]
