-- The acts of a record, entry by entry and act by act; and the Took behind a job.
use Rattle.std.proofs.Common.{◌≡◌, ℕ, ◌<◌, Bool, true, false, cond, if◌then◌else◌, not, ◌==◌, refl, sym, ap, ◌∙◌, subst, List, [], ◌∷◌, ◌++◌, length, filter, Option, Some, inl, inr, arith, eq-eqb}
use Rattle.std.specs.Prelude.{reverse, map}
use Rattle.std.proofs.lemmas.List.{reverse-append, map-append}
use Rattle.std.proofs.lemmas.Bool.Decides.{eqb_tells}
use Rattle.std.specs.Option.{option_and_then}
use Rattle.kom_lang.specs.declared.body.Body.{Body}
use Rattle.kom_lang.specs.declared.body.Effect.{Effect}
use Rattle.kom_record.specs.Model.{model}
use Rattle.kom_record.specs.declared.item.Item.{Item}
use Rattle.kom_record.specs.declared.entry.Release.{Release}
use Rattle.kom_record.specs.declared.entry.Outcome.TheVariants as outcome
use Rattle.kom_record.specs.declared.entry.Entry.{Entry}
use Rattle.kom_record.specs.declared.entry.Entry.TheVariants.{Took, Did, Moved}
use Rattle.kom_record.specs.Entries.{History, TakenJob, acts, acts_for, item_at, entry_at, in_hand, item_of}
use Rattle.kom_laws.proofs.Members.{IsIn, here, there}

pub acts_took : (P : History) (w c : ℕ) (item : Item) → acts (Took w c item ∷ P) ≡ acts P
unfolding model
acts_took P w c item = refl

pub acts_moved : (P : History) (w t : ℕ) (released : List Release) → acts (Moved w t released ∷ P) ≡ acts P
unfolding model
acts_moved P w t released = refl

pub acts_void : (P : History) (w c took : ℕ) (to : Option ℕ) (places : List ℕ) → acts (Did w c took outcome.Void to places ∷ P) ≡ acts P
unfolding model
acts_void P w c took to places = refl

pub acts_fault : (P : History) (w c took n : ℕ) (to : Option ℕ) (places : List ℕ) → acts (Did w c took (outcome.Fault n) to places ∷ P) ≡ acts P
unfolding model
acts_fault P w c took n to places = refl

pub acts_done : (P : History) (w c took : ℕ) (body : Body) (effects : List Effect) (to : Option ℕ) (places : List ℕ) (item : Item)
    → item_at P took ≡ Some item → acts (Did w c took (outcome.Done body effects) to places ∷ P) ≡ acts_for c (Some item) effects ++ acts P
unfolding model
acts_done P w c took body effects to places item e = ap (λ i. acts_for c i effects ++ acts P) e

-- one act more
pub one_more : (c : ℕ) (item : Item) (effects : List Effect) (e : Effect) → acts_for c (Some item) (effects ++ e ∷ []) ≡ record { by = c; item = item; effect = e } ∷ acts_for c (Some item) effects
unfolding model
one_more c item effects e = ap reverse (map-append _ effects (e ∷ [])) ∙ reverse-append (map (λ x. record { by = c; item = item; effect = x }) effects) (record { by = c; item = item; effect = e } ∷ [])

-- ---- jobs

kept_or : {X : Type 0} (test : X → Bool) (xs : List X) (y x : X) (b : Bool) → test y ≡ b → (IsIn x (filter test xs) → IsIn x xs × (test x ≡ true)) → IsIn x (cond b (y ∷ filter test xs) (filter test xs)) → IsIn x (y ∷ xs) × (test x ≡ true)
unfolding model
kept_or test xs y x true e rest here = (here, e)
kept_or test xs y x true e rest (there k) = let r = rest k in (there r.0, r.1)
kept_or test xs y x false e rest k = let r = rest k in (there r.0, r.1)

pub in_filter : {X : Type 0} (test : X → Bool) (xs : List X) (x : X) → IsIn x (filter test xs) → IsIn x xs × (test x ≡ true)
unfolding model
in_filter test [] x h = elim h [ ]
in_filter test (y ∷ xs) x h = kept_or test xs y x (test y) refl (in_filter test xs x) h

pub to_filter : {X : Type 0} (test : X → Bool) (xs : List X) (x : X) → IsIn x xs → test x ≡ true → IsIn x (filter test xs)
unfolding model
to_filter test [] x h e = elim h [ ]
to_filter test (x ∷ xs) x' here e = subst (λ b. IsIn x (cond b (x ∷ filter test xs) (filter test xs))) (sym e) here
to_filter test (y ∷ xs) x (there h) e = more (test y) (to_filter test xs x h e)
  where
    more : (b : Bool) → IsIn x (filter test xs) → IsIn x (cond b (y ∷ filter test xs) (filter test xs))
    more true k = there k
    more false k = k

pub later : (P : History) (e : Entry) (i : ℕ) → i < length P → entry_at (e ∷ P) i ≡ entry_at P i
unfolding model
later P e i h = elim (eqb_tells (length P) i) [ inl t ↦ absurd (omega (arith, t.1, h)) | inr t ↦ ap (λ b. if b then Some e else entry_at P i) t.0 ]

pub latest : (P : History) (e : Entry) → entry_at (e ∷ P) (length P) ≡ Some e
unfolding model
latest P e = ap (λ b. if b then Some e else entry_at P (length P)) (eq-eqb (length P) (length P) refl)

abbrev pub IsJobOf : History → TakenJob → Type 0
IsJobOf P h = (h.took < length P) × (entry_at P h.took ≡ Some (Took h.w h.c h.item))

goes_on : (P : History) (e : Entry) (h : TakenJob) → IsJobOf P h → IsJobOf (e ∷ P) h
unfolding model
goes_on P e h r = (omega (arith, r.0), later P e h.took r.0 ∙ r.1)

-- a job in hand is that of the Took at its position
pub job_entry : (P : History) (h : TakenJob) → IsIn h (in_hand P) → IsJobOf P h
unfolding model
job_entry [] h m = elim m [ ]
job_entry (Took w c item ∷ P) h here = (omega arith, latest P (Took w c item))
job_entry (Took w c item ∷ P) h (there m) = goes_on P (Took w c item) h (job_entry P h m)
job_entry (Did w c took o to places ∷ P) h m = goes_on P (Did w c took o to places) h (job_entry P h (in_filter (λ g. not (g.took == took)) (in_hand P) h m).0)
job_entry (Moved w t released ∷ P) h m = goes_on P (Moved w t released) h (job_entry P h m)

-- so its item is known
pub job_item : (P : History) (h : TakenJob) → IsIn h (in_hand P) → item_at P h.took ≡ Some h.item
unfolding model
job_item P h m = ap (option_and_then item_of) (job_entry P h m).1

same_hand : (g h : TakenJob) → g.took ≡ h.took → g.w ≡ h.w → g.c ≡ h.c → g.item ≡ h.item → g ≡ h
unfolding model
same_hand g h a b c d =
    ap (λ t. record { took = t; w = g.w; c = g.c; item = g.item }) a
    ∙ ap (λ t. record { took = h.took; w = t; c = g.c; item = g.item }) b
    ∙ ap (λ t. record { took = h.took; w = h.w; c = t; item = g.item }) c
    ∙ ap (λ t. record { took = h.took; w = h.w; c = h.c; item = t }) d

-- two jobs of one Took are one
pub one_job : (P : History) (g h : TakenJob) → IsIn g (in_hand P) → IsIn h (in_hand P) → g.took ≡ h.took → g ≡ h
unfolding model
one_job P g h m n e =
    let a = (job_entry P g m).1 in let b = (job_entry P h n).1 in
    let s : Some (Took g.w g.c g.item) ≡ Some (Took h.w h.c h.item) = sym a ∙ ap (entry_at P) e ∙ b in
    let w : g.w ≡ h.w = cc in let c : g.c ≡ h.c = cc in let i : g.item ≡ h.item = cc in
    same_hand g h e w c i
