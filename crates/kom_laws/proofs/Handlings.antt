-- The handlings of a component alternate, and each outcome is the reaction.
use Rattle.std.proofs.Common.{◌≡◌, ℕ, Bool, true, false, cond, not, ◌&&◌, ◌||◌, ◌==◌, refl, sym, ap, ◌∙◌, subst, List, [], ◌∷◌, ◌++◌, length, filter, Option, Some, ◌⊎◌, inl, inr, eq-eqb, if◌then◌else◌}
use Rattle.std.specs.List.{find, list_any}
use Rattle.std.proofs.lemmas.Bool.{eqb-true}
use Rattle.std.proofs.lemmas.Bool.Decides.{eqb_tells}
use Rattle.kom_lang.specs.Declarations.{Declarations}
use Rattle.kom_record.specs.declared.plan.Plan.{Plan}
use Rattle.kom_record.specs.declared.item.Item.{Item}
use Rattle.kom_record.specs.declared.entry.Outcome.{Outcome}
use Rattle.kom_record.specs.declared.entry.Outcome.TheVariants as outcome
use Rattle.kom_record.specs.declared.entry.Entry.{Entry}
use Rattle.kom_record.specs.declared.entry.Entry.TheVariants.{Took, Did, Moved}
use Rattle.kom_record.specs.Entries.{History, TakenJob, in_hand, item_at, acts}
use Rattle.kom_record.specs.Instances.{alive}
use Rattle.kom_record.specs.Ready.{ready, runnable, is_busy}
use Rattle.kom_record.specs.Handed.{IsBefore}
use Rattle.kom_record.specs.Legal.{IsLegal, IsAllowed, MayDo, MayTake, MayEnd}
use Rattle.kom_laws.specs.Laws.{turns_of, Alternates, IsReaction}
use Rattle.kom_laws.proofs.Members.{IsIn, here, there, Some-injective}
use Rattle.kom_laws.proofs.ActLaws.{in_filter, to_filter, job_item, one_job}

and_first : (a b : Bool) → (a && b) ≡ true → a ≡ true
and_first true b e = refl
and_first false b e = absurd cc

and_second : (a b : Bool) → (a && b) ≡ true → b ≡ true
and_second true b e = e
and_second false b e = absurd cc

not_true : (b : Bool) → not b ≡ true → b ≡ false
not_true true e = absurd cc
not_true false e = refl

or_left : (a b : Bool) → (a || b) ≡ false → a ≡ false
or_left true b e = absurd cc
or_left false b e = refl

or_right : (a b : Bool) → (a || b) ≡ false → b ≡ false
or_right true b e = absurd cc
or_right false b e = e

-- where no element passes a test, it keeps none
none_pass : {X : Type 0} (test : X → Bool) (xs : List X) → list_any test xs ≡ false → filter test xs ≡ []
none_pass test [] e = refl
none_pass test (x ∷ xs) e = ap (λ t. cond t (x ∷ filter test xs) (filter test xs)) (or_left _ _ e) ∙ none_pass test xs (or_right _ _ e)

found_or : {X : Type 0} (test : X → Bool) (y : X) (xs : List X) (x : X) (t : Bool) → test y ≡ t → cond t (Some y) (find test xs) ≡ Some x
    → (find test xs ≡ Some x → IsIn x xs × (test x ≡ true)) → IsIn x (y ∷ xs) × (test x ≡ true)
found_or test y xs x true e f rest = let s : y ≡ x = Some-injective f in (subst (λ z. IsIn z (y ∷ xs)) s here, subst (λ z. test z ≡ true) s e)
found_or test y xs x false e f rest = let r = rest f in (there r.0, r.1)

-- what is found is there and passes
pub found_in : {X : Type 0} (test : X → Bool) (xs : List X) (x : X) → find test xs ≡ Some x → IsIn x xs × (test x ≡ true)
found_in test [] x e = absurd cc
found_in test (y ∷ xs) x e = found_or test y xs x (test y) refl e (found_in test xs x)

swap_at : {X : Type 0} (f g : X → Bool) (x : X) (xs : List X) (s t : Bool) → f x ≡ s → g x ≡ t → filter f (filter g xs) ≡ filter g (filter f xs)
    → filter f (cond t (x ∷ filter g xs) (filter g xs)) ≡ filter g (cond s (x ∷ filter f xs) (filter f xs))
swap_at f g x xs true true a b e = ap (λ u. cond u (x ∷ filter f (filter g xs)) (filter f (filter g xs))) a ∙ ap (λ l. x ∷ l) e ∙ ap (λ u. cond u (x ∷ filter g (filter f xs)) (filter g (filter f xs))) (sym b)
swap_at f g x xs true false a b e = e ∙ ap (λ u. cond u (x ∷ filter g (filter f xs)) (filter g (filter f xs))) (sym b)
swap_at f g x xs false true a b e = ap (λ u. cond u (x ∷ filter f (filter g xs)) (filter f (filter g xs))) a ∙ e
swap_at f g x xs false false a b e = e

in_one : {X : Type 0} (x y : X) → IsIn x (y ∷ []) → x ≡ y
in_one x x' here = refl
in_one x y (there h) = elim h [ ]

-- two tests in either order
swapped : {X : Type 0} (f g : X → Bool) (xs : List X) → filter f (filter g xs) ≡ filter g (filter f xs)
swapped f g [] = refl
swapped f g (x ∷ xs) = swap_at f g x xs (f x) (g x) refl refl (swapped f g xs)

module _ (S : Declarations) (Z : Plan) (c : ℕ) where
  -- the jobs of c that are in hand
  abbrev jobs : History → List TakenJob
  jobs P = filter (λ j. j.c == c) (in_hand P)

  -- c has one job in hand, and its latest entry is the Took of it
  abbrev IsBusy : History → Type 0
  IsBusy P = (turns : List Bool) × (job : TakenJob) × (turns_of c P ≡ true ∷ turns) × (jobs P ≡ job ∷ [])

  -- c has no job in hand, and its latest entry, if there is one, is a Did
  abbrev IsIdle : History → Type 0
  IsIdle P = ((turns_of c P ≡ []) ⊎ ((turns : List Bool) × (turns_of c P ≡ false ∷ turns))) × (jobs P ≡ [])

  abbrev Keeps : History → Type 0
  Keeps P = Alternates (turns_of c P) × (IsBusy P ⊎ IsIdle P)

  -- ---- a Took of c

  free : (P : History) → ready S Z P c ≡ true → jobs P ≡ []
  unfolding ready runnable is_busy
  free P r = none_pass (λ j. j.c == c) (in_hand P) (not_true _ (and_second (alive S (acts P) c) _ (and_first _ _ (and_first _ _ r))))

  idle : (P : History) → jobs P ≡ [] → IsBusy P ⊎ IsIdle P → IsIdle P
  idle P e (inl b) = absurd (let f : b.1 ∷ [] ≡ [] = sym b.3 ∙ e in cc)
  idle P e (inr i) = i

  after_idle : (ts : List Bool) → Alternates ts → (ts ≡ []) ⊎ ((us : List Bool) × (ts ≡ false ∷ us)) → Alternates (true ∷ ts)
  after_idle ts a (inl e) = subst (λ l. Alternates (true ∷ l)) (sym e) refl
  after_idle ts a (inr e) = subst (λ l. Alternates (true ∷ l)) (sym e.1) (refl, subst Alternates e.1 a)

  took : (P : History) (w d : ℕ) (item : Item) (t : Bool) → (d == c) ≡ t → MayTake S Z P w d item → Keeps P
      → Alternates ((if t then true ∷ [] else []) ++ turns_of c P)
      × (((turns : List Bool) × (job : TakenJob) × ((if t then true ∷ [] else []) ++ turns_of c P ≡ true ∷ turns) × (cond t (record { took = length P; w = w; c = d; item = item } ∷ jobs P) (jobs P) ≡ job ∷ []))
      ⊎ ((((if t then true ∷ [] else []) ++ turns_of c P ≡ []) ⊎ ((turns : List Bool) × ((if t then true ∷ [] else []) ++ turns_of c P ≡ false ∷ turns))) × (cond t (record { took = length P; w = w; c = d; item = item } ∷ jobs P) (jobs P) ≡ [])))
  took P w d item true e m k =
      let r : ready S Z P c ≡ true = subst (λ n. ready S Z P n ≡ true) (eqb-true d c e) m.ready in
      let i = idle P (free P r) k.1 in
      (after_idle (turns_of c P) k.0 i.0, inl (turns_of c P, record { took = length P; w = w; c = d; item = item }, refl, ap (λ l. record { took = length P; w = w; c = d; item = item } ∷ l) i.1))
  took P w d item false e m k = k

  -- ---- a Did of c

  -- the job that ends is the one of c that is in hand
  only : (P : History) (j h : TakenJob) → jobs P ≡ h ∷ [] → IsIn j (jobs P) → j ≡ h
  only P j h e i = in_one j h (subst (IsIn j) e i)

  not_empty : (P : History) (j : TakenJob) → jobs P ≡ [] → IsIn j (jobs P) → ⊥
  not_empty P j e i = elim (subst (IsIn j) e i) [ ]

  -- the jobs of c after the job of a Took has ended
  left : (P : History) (n : ℕ) → filter (λ j. j.c == c) (filter (λ j. not (j.took == n)) (in_hand P)) ≡ filter (λ j. not (j.took == n)) (jobs P)
  left P n = swapped (λ j. j.c == c) (λ j. not (j.took == n)) (in_hand P)

  drops : (j : TakenJob) (n : ℕ) → (j.took == n) ≡ true → filter (λ h. not (h.took == n)) (j ∷ []) ≡ []
  drops j n e = ap (λ t. cond (not t) (j ∷ []) []) e

  keeps : (j : TakenJob) (n : ℕ) → (j.took == n) ≡ false → filter (λ h. not (h.took == n)) (j ∷ []) ≡ j ∷ []
  keeps j n e = ap (λ t. cond (not t) (j ∷ []) []) e

  differ : (a b : ℕ) → (a ≡ b → ⊥) → (a == b) ≡ false
  differ a b h = elim (eqb_tells a b) [ inl t ↦ absurd (h t.1) | inr t ↦ t.0 ]

  pub did_own : (P : History) (n : ℕ) (j : TakenJob) → find (λ h. h.took == n) (in_hand P) ≡ Some j → j.c ≡ c → Keeps P
      → Alternates (false ∷ turns_of c P) × (filter (λ h. not (h.took == n)) (jobs P) ≡ [])
  did_own P n j f e k = go k.1
    where
      at : IsIn j (in_hand P) × ((j.took == n) ≡ true)
      at = found_in (λ h. h.took == n) (in_hand P) j f

      mine : IsIn j (jobs P)
      mine = to_filter (λ h. h.c == c) (in_hand P) j at.0 (eq-eqb j.c c e)

      go : IsBusy P ⊎ IsIdle P → Alternates (false ∷ turns_of c P) × (filter (λ h. not (h.took == n)) (jobs P) ≡ [])
      go (inl b) = (
        subst (λ l. Alternates (false ∷ l)) (sym b.2) (refl, subst Alternates b.2 k.0),
        ap (filter (λ h. not (h.took == n))) b.3 ∙ drops b.1 n (subst (λ h. (h.took == n) ≡ true) (only P j b.1 b.3 mine) at.1),
      )
      go (inr i) = absurd (not_empty P j i.1 mine)

  did_other : (P : History) (n : ℕ) (j : TakenJob) → find (λ h. h.took == n) (in_hand P) ≡ Some j → (j.c ≡ c → ⊥) → IsBusy P ⊎ IsIdle P
      → filter (λ h. not (h.took == n)) (jobs P) ≡ jobs P
  did_other P n j f e (inr i) = ap (filter (λ h. not (h.took == n))) i.1 ∙ sym i.1
  did_other P n j f e (inl b) =
      let at = found_in (λ h. h.took == n) (in_hand P) j f in
      let there_b : IsIn b.1 (jobs P) = subst (IsIn b.1) (sym b.3) here in
      let of = in_filter (λ h. h.c == c) (in_hand P) b.1 there_b in
      let other : (b.1.took ≡ n) → ⊥ = λ t. e (ap (λ h. h.c) (one_job P j b.1 at.0 of.0 (eqb-true j.took n at.1 ∙ sym t)) ∙ eqb-true b.1.c c of.1) in
      ap (filter (λ h. not (h.took == n))) b.3 ∙ keeps b.1 n (differ b.1.took n other) ∙ sym b.3

  did : (P : History) (w d n : ℕ) (o : Outcome) (to : Option ℕ) (places : List ℕ) (t : Bool) → (d == c) ≡ t → MayDo S Z P w d n o to places → Keeps P
      → Alternates ((if t then false ∷ [] else []) ++ turns_of c P)
      × (((turns : List Bool) × (job : TakenJob) × ((if t then false ∷ [] else []) ++ turns_of c P ≡ true ∷ turns) × (filter (λ j. j.c == c) (filter (λ j. not (j.took == n)) (in_hand P)) ≡ job ∷ []))
      ⊎ ((((if t then false ∷ [] else []) ++ turns_of c P ≡ []) ⊎ ((turns : List Bool) × ((if t then false ∷ [] else []) ++ turns_of c P ≡ false ∷ turns))) × (filter (λ j. j.c == c) (filter (λ j. not (j.took == n)) (in_hand P)) ≡ [])))
  did P w d n o to places true e m k =
      let r = did_own P n m.job m.in_hand (m.component ∙ eqb-true d c e) k in
      (r.0, inr (inr (turns_of c P, refl), left P n ∙ r.1))
  did P w d n o to places false e m k =
      let no_own : m.job.c ≡ c → ⊥ = λ f. let g : true ≡ false = sym (eq-eqb d c (sym m.component ∙ f)) ∙ e in cc in
      let s = left P n ∙ did_other P n m.job m.in_hand no_own k.1 in (
        k.0,
        elim k.1 [
          | inl b ↦ inl (b.0, b.1, b.2, s ∙ b.3)
          | inr i ↦ inr (i.0, s ∙ i.1)
        ],
      )

  -- ---- all entries

  kept : (P : History) → IsLegal S Z P → Keeps P
  unfolding IsLegal in_hand
  kept [] l = (tt, inr (inl refl, refl))
  kept (Took w d item ∷ P) l = took P w d item (d == c) refl l.1 (kept P l.0)
  kept (Did w d n o to places ∷ P) l = did P w d n o to places (d == c) refl l.1 (kept P l.0)
  kept (Moved w t released ∷ P) l = kept P l.0

  only_one : (P : History) (g h : TakenJob) → IsBusy P ⊎ IsIdle P → IsIn g (jobs P) → IsIn h (jobs P) → g ≡ h
  only_one P g h (inl b) i j = only P g b.1 b.3 i ∙ sym (only P h b.1 b.3 j)
  only_one P g h (inr d) i j = absurd (not_empty P g d.1 i)

  -- c has one job in hand at most
  pub one_job_of : (P : History) → IsLegal S Z P → (g h : TakenJob) → IsIn g (in_hand P) → IsIn h (in_hand P) → g.c ≡ c → h.c ≡ c → g ≡ h
  one_job_of P l g h i j e f =
      only_one P g h (kept P l).1 (to_filter (λ x. x.c == c) (in_hand P) g i (eq-eqb g.c c e)) (to_filter (λ x. x.c == c) (in_hand P) h j (eq-eqb h.c c f))

  pub alternate : (R : History) → IsLegal S Z R → Alternates (turns_of c R)
  alternate R l = (kept R l).0

module _ (S : Declarations) (Z : Plan) where
  pub legal_before : (more P : History) → IsLegal S Z (more ++ P) → IsLegal S Z P
  unfolding IsLegal
  legal_before [] P l = l
  legal_before (e ∷ more) P l = legal_before more P l.0

  pub last_allowed : (e : Entry) (P : History) → IsLegal S Z (e ∷ P) → IsAllowed S Z P e
  unfolding IsLegal
  last_allowed e P l = l.1

  living_reacts : (P : History) (c : ℕ) (b : _) (item : Item) (o : Outcome) → MayEnd S Z (alive S (acts P) c) b item o → alive S (acts P) c ≡ true → Rattle.kom_record.specs.Reaction.Reacts S b item o
  unfolding MayEnd
  living_reacts P c b item o m e = subst (λ t. MayEnd S Z t b item o) e m

  destroyed_void : (P : History) (c : ℕ) (b : _) (item : Item) (o : Outcome) → MayEnd S Z (alive S (acts P) c) b item o → alive S (acts P) c ≡ false → o ≡ outcome.Void
  unfolding MayEnd
  destroyed_void P c b item o m e = subst (λ t. MayEnd S Z t b item o) e m

  pub reaction : (R P : History) (w c took : ℕ) (o : Outcome) (to : Option ℕ) (places : List ℕ)
      → IsLegal S Z R → IsBefore (Did w c took o to places ∷ P) R → IsReaction S P c took o
  reaction R P w c took o to places l b =
      let m = last_allowed (Did w c took o to places) P (legal_before b.0 (Did w c took o to places ∷ P) (subst (IsLegal S Z) b.1 l)) in
      let at = found_in (λ h. h.took == took) (in_hand P) m.job m.in_hand in
      record {
        item = m.job.item;
        body = m.body;
        taken = ap (item_at P) (sym (eqb-true m.job.took took at.1)) ∙ job_item P m.job at.0;
        body_is = m.body_is;
        living = λ e. living_reacts P c m.body m.job.item o m.outcome e;
        destroyed = λ e. destroyed_void P c m.body m.job.item o m.outcome e;
      }
