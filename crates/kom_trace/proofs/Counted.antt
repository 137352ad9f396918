-- What is counted of a record with one entry more.
use Rattle.std.proofs.Common.{◌≡◌, ℕ, zero, suc, ◌^◌, ◌+◌, ◌<◌, ◌≤◌, ◌==◌, ◌&&◌, ◌||◌, cond, if◌then◌else◌, Bool, true, false, refl, sym, ap, ◌∙◌, List, [], ◌∷◌, ◌++◌, length, Option, Some, None, arith, inl, inr}
use Rattle.std.specs.Prelude.{is_some, is_none, slice_get, min}
use Rattle.std.specs.List.{count_by}
use Rattle.std.specs.Option.{option_map, option_and_then}
use Rattle.std.proofs.Math.Logic.{∥∥₁_elim}
use Rattle.std.proofs.Math.Bool.{Bool-set}
use Rattle.std.proofs.lemmas.Bool.Decides.{eqb_tells}
use Rattle.std.proofs.lemmas.List.{length-append}
use Rattle.std.proofs.lemmas.List.Sums.{count_by-le-length}
use Rattle.kom_base.specs.Lists.{either}
use Rattle.kom_lang.specs.Declarations.{Declarations}
use Rattle.kom_record.specs.declared.plan.Plan.{Plan}
use Rattle.kom_record.specs.declared.entry.Outcome.{Outcome}
use Rattle.kom_record.specs.declared.entry.Outcome.TheVariants as outcome
use Rattle.kom_record.specs.declared.entry.Entry.{Entry}
use Rattle.kom_record.specs.declared.entry.Entry.TheVariants.{Took, Did, Moved}
use Rattle.kom_record.specs.Entries.{History, item_of, item_at, entry_at}
use Rattle.kom_record.specs.Bodies.{nearest}
use Rattle.kom_record.specs.Controls.{fault_in, raised, told}
use Rattle.kom_record.specs.Ready.{is_took, is_moved, is_unhandled, has_unhandled}
use Rattle.kom_record.specs.Legal.{IsLegal}
use Rattle.kom_record.specs.Trace.{is_did, first_unhandled, fault_and_component}
use Rattle.kom_record.proofs.Positions.{not_equal, equal_self}
use Rattle.kom_laws.proofs.Handlings.{last_allowed}
use Rattle.kom_trace.specs.declared.counts.Counts.{Counts}
use Rattle.kom_trace.proofs.Jobs.{count_cons}
use Rattle.kom_trace.specs.Counting.{fault_taken, fault_at, raised_by, untold, unhandled_by, HasCounted}

-- ---- the faults that were taken

same_suc : (a b : ℕ) → (suc a == suc b) ≡ (a == b)
same_suc a b = elim (eqb_tells a b) [ inl t ↦ ap (λ n. suc a == suc n) (sym t.1) ∙ equal_self (suc a) ∙ sym t.0 | inr t ↦ not_equal (suc a) (suc b) (λ e. t.1 (omega (arith, e))) ∙ sym t.0 ]

get_more : {X : Type 0} (xs : List X) (x : X) (i : ℕ) → slice_get (xs ++ x ∷ []) i ≡ (if length xs == i then Some x else slice_get xs i)
get_more [] x zero = refl
get_more [] x (suc i) = rw (not_equal 0 (suc i) (omega arith))
get_more (y ∷ xs) x zero = rw (not_equal (suc (length xs)) 0 (omega arith))
get_more (y ∷ xs) x (suc i) = rw (same_suc (length xs) i) (get_more xs x i)

abbrev flat : Option (Option ℕ) → Option ℕ
flat o = option_and_then (λ f. f) o

module _ (S : Declarations) where
  -- ---- who is told

  raised_is : (P : History) (w c took : ℕ) (o : Outcome) (to : Option ℕ) (places : List ℕ) → raised_by (option_and_then fault_in (item_at P took)) o ≡ raised P (Did w c took o to places)
  unfolding raised
  raised_is P w c took outcome.Void to places = refl
  raised_is P w c took (outcome.Fault n) to places = refl
  raised_is P w c took (outcome.Done body effects) to places = refl

  told_none : (b : Bool) (o : Option (ℕ × ℕ)) → (b && is_none o) ≡ (b && is_none (if b then option_map (λ q. q.0) o else None))
  told_none true None = refl
  told_none true (Some q) = refl
  told_none false o = refl

  -- a fault is not handled where it is raised and the entry tells nobody
  unhandled_is : (Z : Plan) (P : History) (w c took : ℕ) (o : Outcome) (to : Option ℕ) (places : List ℕ) → IsLegal S Z (Did w c took o to places ∷ P)
      → is_unhandled S P (Did w c took o to places) ≡ (is_some (raised P (Did w c took o to places)) && is_none to)
  unfolding is_unhandled told
  unhandled_is Z P w c took o to places l =
      let m = last_allowed S Z (Did w c took o to places) P l in
      let r = is_some (raised P (Did w c took o to places)) in
      told_none r (nearest S P c) ∙ ap (λ t. r && is_none t) (sym m.told)

  untold_is : (r to : Option ℕ) (c : ℕ) → (if is_some r && is_none to then option_map (λ n. (n, c)) r else None) ≡ untold r to c
  untold_is None None c = refl
  untold_is None (Some d) c = refl
  untold_is (Some n) None c = refl
  untold_is (Some n) (Some d) c = refl

  -- the fault that the entry leaves unhandled
  newly : (Z : Plan) (n : Counts) (P : History) (e : Entry) → HasCounted S n P → ∥ IsLegal S Z (e ∷ P) ∥₁ → (if is_unhandled S P e then fault_and_component P e else None) ≡ unhandled_by n e
  unfolding is_unhandled
  newly Z n P (Took w c item) h l = refl
  newly Z n P (Moved w t released) h l = refl
  newly Z n P (Did w c took o to places) h l =
      let e = Did w c took o to places in
      let r = raised P e in
      ap (λ (b : Bool). if b then option_map (λ n. (n, c)) r else None) (∥∥₁_elim l (Bool-set _ _) (λ k. unhandled_is Z P w c took o to places k))
      ∙ untold_is r to c
      ∙ ap (λ x. untold x to c) (sym (raised_is P w c took o to places) ∙ ap (λ f. raised_by f o) (sym (h.faults took)))

  -- ---- one entry more

  at_most_one : (b : Bool) → cond b 1 0 ≤ 1
  at_most_one true = omega arith
  at_most_one false = omega arith

  more_of : (p : Entry → Bool) (n : ℕ) (k : ℕ) (e : Entry) (P : History) → n ≡ count_by p P → length P < 2 ^ 63 → k ≡ count_by p (e ∷ []) → min (n + k) 18446744073709551615 ≡ count_by p (e ∷ P)
  more_of p n k e P a b d = let f = count_by-le-length p P in let g = at_most_one (p e) in let m = count_cons p e P in let o = count_cons p e [] in omega (arith, a, b, d, f, g, m, o)

  item_more : (P : History) (e : Entry) (i : ℕ) → item_at (e ∷ P) i ≡ (if length P == i then item_of e else item_at P i)
  unfolding item_at entry_at
  item_more P e i = elim (eqb_tells (length P) i) [ inl t ↦ rw t.0 refl | inr t ↦ rw t.0 refl ]

  fault_more : (n new : Counts) (P : History) (e : Entry) → HasCounted S n P → new.faults.items ≡ n.faults.items ++ fault_taken e ∷ [] → (i : ℕ) → fault_at new i ≡ option_and_then fault_in (item_at (e ∷ P) i)
  fault_more n new P e h a i =
      ap (λ xs. flat (slice_get xs i)) a
      ∙ ap flat (get_more n.faults.items (fault_taken e) i)
      ∙ ap (λ m. flat (if m == i then Some (fault_taken e) else slice_get n.faults.items i)) h.positions
      ∙ at (length P == i)
      ∙ ap (option_and_then fault_in) (sym (item_more P e i))
    where
      at : (b : Bool) → flat (if b then Some (fault_taken e) else slice_get n.faults.items i) ≡ option_and_then fault_in (if b then item_of e else item_at P i)
      at true = refl
      at false = h.faults i

  -- a fault is left unhandled exactly where there is a first one
  some_either : (a b : Option (ℕ × ℕ)) → is_some (either a b) ≡ (is_some a || is_some b)
  some_either None b = refl
  some_either (Some x) b = refl

  some_new : (P : History) (e : Entry) → is_some (if is_unhandled S P e then fault_and_component P e else None) ≡ is_unhandled S P e
  unfolding is_unhandled
  some_new P (Took w c item) = refl
  some_new P (Moved w t released) = refl
  some_new P (Did w c took o to places) = at (raised P (Did w c took o to places)) (is_none (nearest S P c))
    where
      at : (r : Option ℕ) (b : Bool) → is_some {T = ℕ × ℕ} (if is_some r && b then option_map (λ n. (n, c)) r else None) ≡ (is_some r && b)
      at None b = refl
      at (Some n) true = refl
      at (Some n) false = refl

  pub has_first : (P : History) → has_unhandled S P ≡ is_some (first_unhandled S P)
  unfolding has_unhandled first_unhandled
  has_first [] = refl
  has_first (e ∷ P) =
      ap (λ b. b || is_unhandled S P e) (has_first P)
      ∙ ap (λ b. is_some (first_unhandled S P) || b) (sym (some_new P e))
      ∙ sym (some_either (first_unhandled S P) (if is_unhandled S P e then fault_and_component P e else None))

  pub counts_unhandled : (n : Counts) (P : History) → HasCounted S n P → is_some n.unhandled ≡ has_unhandled S P
  counts_unhandled n P h = ap is_some h.unhandled ∙ sym (has_first P)

  pub counted_more : (Z : Plan) (n new : Counts) (P : History) (e : Entry) → HasCounted S n P → ∥ IsLegal S Z (e ∷ P) ∥₁ → length n.faults.items < 2 ^ 63
      → new.faults.items ≡ n.faults.items ++ fault_taken e ∷ []
      → new.took ≡ min (n.took + count_by is_took (e ∷ [])) 18446744073709551615
      → new.did ≡ min (n.did + count_by is_did (e ∷ [])) 18446744073709551615
      → new.moved ≡ min (n.moved + count_by is_moved (e ∷ [])) 18446744073709551615
      → new.unhandled ≡ either n.unhandled (unhandled_by n e)
      → HasCounted S new (e ∷ P)
  unfolding first_unhandled
  counted_more Z n new P e h l few f took did moved u =
      let short : length P < 2 ^ 63 = let q = h.positions in omega (arith, q, few) in
      record {
        positions = let q = h.positions in omega (arith, ap length f, length-append n.faults.items (fault_taken e ∷ []), q);
        faults = fault_more n new P e h f;
        took = took ∙ more_of is_took n.took (count_by is_took (e ∷ [])) e P h.took short refl;
        did = did ∙ more_of is_did n.did (count_by is_did (e ∷ [])) e P h.did short refl;
        moved = moved ∙ more_of is_moved n.moved (count_by is_moved (e ∷ [])) e P h.moved short refl;
        unhandled = u ∙ ap (λ a. either a (unhandled_by n e)) h.unhandled ∙ ap (either (first_unhandled S P)) (sym (newly Z n P e h l));
      }

  pub none_counted : (n : Counts) → n.faults.items ≡ [] → n.took ≡ 0 → n.did ≡ 0 → n.moved ≡ 0 → n.unhandled ≡ None → HasCounted S n []
  unfolding first_unhandled item_at entry_at
  none_counted n f a b c u = record {
    positions = ap length f;
    faults = λ i. ap (λ xs. flat (slice_get xs i)) f;
    took = a;
    did = b;
    moved = c;
    unhandled = u;
  }
