-- In a legal record of a well-formed system each body agrees with the effects of the record.
use Rattle.std.proofs.Common.{◌≡◌, ℕ, ◌+◌, ◌-◌, ◌<◌, ◌≤◌, Bool, true, false, if◌then◌else◌, ◌==◌, refl, sym, ap, ◌∙◌, subst, List, [], ◌∷◌, ◌++◌, length, Option, Some, None, inl, inr, arith}
use Rattle.std.specs.Prelude.{slice_get, nat_lt}
use Rattle.std.specs.List.{cons_option, filter_map}
use Rattle.std.specs.Option.{option_map, option_map_or}
use Rattle.std.proofs.lemmas.Bool.{eqb-true, ltb-true, ltb-false}
use Rattle.std.proofs.lemmas.Bool.Decides.{eqb_tells}
use Rattle.std.proofs.lemmas.List.{length-append}
use Rattle.std.proofs.lemmas.Option.{slice_get_within}
use Rattle.kom_lang.specs.Bodies.{first_body}
use Rattle.kom_lang.specs.Declarations.{Declarations}
use Rattle.kom_lang.specs.declared.body.Body.{Body}
use Rattle.kom_lang.specs.declared.body.Effect.{Effect}
use Rattle.kom_lang.specs.declared.body.Effect.TheVariants as effect
use Rattle.kom_system.specs.WellFormed.{IsDeclared}
use Rattle.kom_record.specs.Model.{model}
use Rattle.kom_record.specs.declared.plan.Plan.{Plan}
use Rattle.kom_record.specs.declared.item.Item.{Item}
use Rattle.kom_record.specs.declared.entry.Outcome.{Outcome}
use Rattle.kom_record.specs.declared.entry.Outcome.TheVariants as outcome
use Rattle.kom_record.specs.declared.entry.Entry.TheVariants.{Took, Did, Moved}
use Rattle.kom_record.specs.Entries.{History, Act, TakenJob, acts, acts_for, in_hand, item_at}
use Rattle.kom_record.specs.Instances.{Instance, alive, born, created, ancestry_of}
use Rattle.kom_record.specs.Bodies.{body_after_all, body_at, outcome_of}
use Rattle.kom_record.specs.Legal.{IsLegal, MayDo, MayEnd}
use Rattle.kom_record.specs.Reaction.{Reacts, body_after}
use Rattle.kom_laws.proofs.Members.{Some-injective}
use Rattle.kom_laws.proofs.ListFacts.{get_right}
use Rattle.kom_laws.proofs.ActLaws.{job_item}
use Rattle.kom_laws.proofs.NextItem.{mapped}
use Rattle.kom_laws.proofs.Handlings.{found_in}
use Rattle.kom_laws.proofs.InstanceLaws.{ActsByBorn, born_act, born_by, born_grows, does, instance_stays}
use Rattle.kom_laws.proofs.ControlLaws.{nothing_done}
use Rattle.kom_laws.proofs.Escalations.{acts_by_born}
use Rattle.kom_agree.specs.Agrees.{Agrees, AgreesBefore}
use Rattle.kom_agree.specs.Laws.{AgreeWithin}
use Rattle.kom_agree.specs.Bodies.{BodyFits, EndsTake, InstanceFits}
use Rattle.kom_agree.proofs.Takes.{first_takes, status_takes}
use Rattle.kom_agree.specs.Effects.{AreMet, IsMet}
use Rattle.kom_agree.proofs.Trees.{all_get}
use Rattle.kom_agree.proofs.Born.{root_agrees, root_fits, created_agrees, created_fits, first_fits}
use Rattle.kom_agree.proofs.Acts.{other_agrees}
use Rattle.kom_agree.proofs.Small.{so_far, one_first}
use Rattle.kom_agree.proofs.Handling.{IsKept}
use Rattle.kom_agree.proofs.Reacting.{reaction_kept, status_agrees, status_fits}

module _ (S : Declarations) where
  -- what holds of an instance with its body after these acts
  pub record IsGoodBody (done : List Act) (c : ℕ) (i : Instance) (b : Body) : Type 0 where
    pub instance : InstanceFits S i
    pub fits : BodyFits S b
    pub takes : EndsTake S b
    pub kind : b.kind ≡ i.kind
    pub depth : b.depth ≡ 1 + length i.ancestry
    pub agrees : Agrees S done c b

  abbrev pub first_of : Instance → Body
  first_of i = first_body S i.kind i.birth (1 + length i.ancestry)

  abbrev pub body_of : History → ℕ → Instance → Body
  body_of P c i = body_after_all (first_of i) (filter_map (outcome_of c) P)

  abbrev pub AreGood : History → Type 0
  AreGood P = (c : ℕ) (i : Instance) → slice_get (born S (acts P)) c ≡ Some i → IsGoodBody (acts P) c i (body_of P c i)

  -- ---- the effects of another component

  -- all but d have these bodies
  abbrev AreBodies : List Act → ℕ → (ℕ → Instance → Body) → Type 0
  AreBodies done d bodies = (c : ℕ) (i : Instance) → (d == c) ≡ false → slice_get (born S done) c ≡ Some i → IsGoodBody done c i (bodies c i)

  new_body : IsDeclared S → (done : List Act) (d K : ℕ) (item : Item) (e : Effect) → ActsByBorn S done → d < length (born S done) → IsMet S done d K item e
      → (j : ℕ) (i : Instance) → slice_get (born_by S done (does d item e) e) j ≡ Some i → IsGoodBody (does d item e ∷ done) (length (born S done) + j) i (first_of i)
  new_body D done d K item (effect.Create slot k birth) by lt m j i e =
      let fits = all_get S (InstanceFits S) (created S (born S done) d slot k birth) j i (created_fits S D (born S done) d slot k birth m.kind_is m.birth_is m.depth) e in
      record { instance = fits; fits = first_fits S D i fits; takes = first_takes S D i.kind i.birth (1 + length i.ancestry) fits.kind; kind = refl; depth = refl; agrees = created_agrees S D done d item slot k birth by lt m.kind_is j i (1 + length i.ancestry) e }
  new_body D done d K item (effect.Trigger p x) by lt m j i e = absurd cc
  new_body D done d K item (effect.Answer x) by lt m j i e = absurd cc
  new_body D done d K item (effect.Start s) by lt m j i e = absurd cc
  new_body D done d K item (effect.Stop s) by lt m j i e = absurd cc
  new_body D done d K item (effect.Destroy s) by lt m j i e = absurd cc
  new_body D done d K item (effect.Dump s) by lt m j i e = absurd cc
  new_body D done d K item (effect.Hold k) by lt m j i e = absurd cc
  new_body D done d K item (effect.Resume k) by lt m j i e = absurd cc
  new_body D done d K item (effect.Unplug k f) by lt m j i e = absurd cc
  new_body D done d K item (effect.Plug k f p) by lt m j i e = absurd cc
  new_body D done d K item effect.Escalate by lt m j i e = absurd cc

  one_effect : IsDeclared S → (done : List Act) (d K low : ℕ) (item : Item) (e : Effect) (bodies : ℕ → Instance → Body) → ActsByBorn S done → d < length (born S done) → low ≤ length (born S done)
      → ((c : ℕ) (i : Instance) → low ≤ c → bodies c i ≡ first_of i) → IsMet S done d K item e → AreBodies done d bodies → AreBodies (does d item e ∷ done) d bodies
  one_effect D done d K low item e bodies by lt le new m h c i q g = at (nat_lt c (length (born S done))) refl
    where
      at : (b : Bool) → nat_lt c (length (born S done)) ≡ b → IsGoodBody (does d item e ∷ done) c i (bodies c i)
      at true x =
          let l = ltb-true c (length (born S done)) x in
          let r = h c i q (sym (instance_stays S (does d item e ∷ []) done c l) ∙ g) in
          record { instance = r.instance; fits = r.fits; takes = r.takes; kind = r.kind; depth = r.depth; agrees = other_agrees S done d item e c (bodies c i) l q r.agrees }
      at false x =
          let l = ltb-false c (length (born S done)) x in
          let n = length (born S done) in
          let same : c ≡ n + (c - n) = omega (arith, l) in
          let got : slice_get (born_by S done (does d item e) e) (c - n) ≡ Some i =
          sym (get_right (born S done) (born_by S done (does d item e) e) (c - n)) ∙ ap (slice_get (born S done ++ born_by S done (does d item e) e)) (sym same) ∙ ap (λ b. slice_get b c) (sym (born_act S done (does d item e))) ∙ g in
          subst (λ b. IsGoodBody (does d item e ∷ done) c i b) (sym (new c i (omega (arith, le, l))))
          (subst (λ k. IsGoodBody (does d item e ∷ done) k i (first_of i)) (sym same) (new_body D done d K item e by lt m (c - n) i got))

  all_effects : IsDeclared S → (done : List Act) (d K low : ℕ) (item : Item) (es : List Effect) (bodies : ℕ → Instance → Body) → ActsByBorn S done → d < length (born S done) → low ≤ length (born S done)
      → ((c : ℕ) (i : Instance) → low ≤ c → bodies c i ≡ first_of i) → AreMet S done d K item es → AreBodies done d bodies → AreBodies (so_far d item done es) d bodies
  all_effects D done d K low item [] bodies by lt le new m h = h
  all_effects D done d K low item (e ∷ es) bodies by lt le new m h =
      let g = born_grows S (does d item e ∷ []) done in
      let longer : length (born S (does d item e ∷ done)) ≡ length (born S done) + length g.0 = ap length g.1 ∙ length-append (born S done) g.0 in
      subst (λ l. AreBodies l d bodies) (sym (one_first d item done e es))
      (all_effects D (does d item e ∷ done) d K low item es bodies (by, lt) (omega (arith, lt, longer)) (omega (arith, le, longer)) new m.1 (one_effect D done d K low item e bodies by lt le new m.0 h))

  -- ---- the component that acts

  module _ (Z : Plan) where
    -- what a Did ends
    pub record IsEnding (P : History) (d took : ℕ) : Type 0 where
      pub job : TakenJob
      pub item : item_at P took ≡ Some job.item
      pub instance : Instance
      pub at : slice_get (born S (acts P)) d ≡ Some instance

    found : (P : History) (w d took : ℕ) (o : Outcome) (to : Option ℕ) (places : List ℕ) → MayDo S Z P w d took o to places → IsEnding P d took
    unfolding body_at
    found P w d took o to places l =
        let f = found_in (λ j. j.took == took) (in_hand P) l.job l.in_hand in
        let m = mapped (λ i. body_of P d i) (slice_get (born S (acts P)) d) l.body l.body_is in
        record { job = l.job; item = ap (item_at P) (sym (eqb-true l.job.took took f.1)) ∙ job_item P l.job f.0; instance = m.0; at = m.1 }

    own_body : (P : History) (d : ℕ) (b : Body) (i : Instance) → body_at S P d ≡ Some b → slice_get (born S (acts P)) d ≡ Some i → body_of P d i ≡ b
    unfolding body_at
    own_body P d b i e g = Some-injective (sym (ap (option_map (λ i. body_of P d i)) g) ∙ e)

    alive_reacts : (t : Bool) (b body : Body) (item : Item) (es : List Effect) → MayEnd S Z t b item (outcome.Done body es) → Reacts S b item (outcome.Done body es)
    unfolding MayEnd
    alive_reacts false b body item es h = absurd cc
    alive_reacts true b body item es h = h

    -- a handling of the component keeps what holds of it
    pub handled : IsDeclared S → (P : History) (w d took : ℕ) (body : Body) (es : List Effect) (to : Option ℕ) (places : List ℕ) → AreGood P → (l : MayDo S Z P w d took (outcome.Done body es) to places)
        → (i : Instance) → slice_get (born S (acts P)) d ≡ Some i → IsKept S (record { done = acts P; c = d; item = l.job.item; kind = i.kind; depth = 1 + length i.ancestry }) body es
    unfolding ancestry_of
    handled D P w d took body es to places h l i g =
        let r = subst (IsGoodBody (acts P) d i) (own_body P d l.body i l.body_is g) (h d i g) in
        reaction_kept S D (record { done = acts P; c = d; item = l.job.item; kind = i.kind; depth = 1 + length i.ancestry }) l.body body es (slice_get_within (born S (acts P)) d i g)
        (ap (λ o. 1 + length (option_map_or (λ i. i.ancestry) o [])) (sym g)) r.fits r.takes r.kind r.depth r.agrees (alive_reacts (alive S (acts P) d) l.body body l.job.item es l.outcome)

    -- the body of another component is the one before
    same_body : (P : History) (w d took : ℕ) (o : Outcome) (to : Option ℕ) (places : List ℕ) (c : ℕ) (i : Instance) → (d == c) ≡ false → body_of (Did w d took o to places ∷ P) c i ≡ body_of P c i
    same_body P w d took o to places c i q = ap (λ b. body_after_all (first_of i) (cons_option (if b then Some o else None) (filter_map (outcome_of c) P))) q

    done_good : IsDeclared S → (P : History) (w d took : ℕ) (body : Body) (es : List Effect) (to : Option ℕ) (places : List ℕ) → IsLegal S Z P → AreGood P → MayDo S Z P w d took (outcome.Done body es) to places
        → AreGood (Did w d took (outcome.Done body es) to places ∷ P)
    unfolding model found
    done_good D P w d took body es to places legal h l c i g =
        let x = found P w d took (outcome.Done body es) to places l in
        let k = handled D P w d took body es to places h l x.instance x.at in
        let lt = slice_get_within (born S (acts P)) d x.instance x.at in
        let same : acts_for d (item_at P took) es ++ acts P ≡ so_far d l.job.item (acts P) es = ap (λ o. acts_for d o es ++ acts P) x.item in
        let at : slice_get (born S (so_far d l.job.item (acts P) es)) c ≡ Some i = ap (λ z. slice_get (born S z) c) (sym same) ∙ g in
        subst (λ z. IsGoodBody z c i (body_of (Did w d took (outcome.Done body es) to places ∷ P) c i)) (sym same)
        (elim (eqb_tells d c) [
          | inl e ↦
              let first : x.instance ≡ i = Some-injective (sym x.at ∙ sym (instance_stays S (acts_for d (Some l.job.item) es) (acts P) d lt) ∙ ap (slice_get (born S (so_far d l.job.item (acts P) es))) e.1 ∙ at) in
              let out : body_of (Did w d took (outcome.Done body es) to places ∷ P) c i ≡ body = ap (λ b. body_after_all (first_of i) (cons_option (if b then Some (outcome.Done body es) else None) (filter_map (outcome_of c) P))) e.0 in
              subst (IsGoodBody (so_far d l.job.item (acts P) es) c i) (sym out)
              (subst (λ z. IsGoodBody (so_far d l.job.item (acts P) es) c z body) first
              (subst (λ z. IsGoodBody (so_far d l.job.item (acts P) es) z x.instance body) e.1
              (record { instance = (h d x.instance x.at).instance; fits = k.fits; takes = k.takes; kind = k.kind; depth = k.depth; agrees = k.agrees })))
          | inr e ↦
              subst (IsGoodBody (so_far d l.job.item (acts P) es) c i) (sym (same_body P w d took (outcome.Done body es) to places c i e.0))
              (all_effects D (acts P) d x.instance.kind (length (born S (acts P))) l.job.item es (λ c i. body_of P c i) (acts_by_born S Z P legal) lt (omega arith)
              (λ c i low. ap (body_after_all (first_of i)) (nothing_done S Z P c legal low)) k.met (λ c i q g. h c i g) c i e.0 at)
        ])

    -- what changes no slot and no channel
    kept_good : (P : History) (w d took : ℕ) (o : Outcome) (to : Option ℕ) (places : List ℕ) → AreGood P → acts (Did w d took o to places ∷ P) ≡ acts P
        → ((c : ℕ) (i : Instance) (b : Body) → IsGoodBody (acts P) c i b → IsGoodBody (acts P) c i (body_after b o)) → AreGood (Did w d took o to places ∷ P)
    kept_good P w d took o to places h same after c i g =
        let at : slice_get (born S (acts P)) c ≡ Some i = ap (λ z. slice_get (born S z) c) (sym same) ∙ g in
        subst (λ z. IsGoodBody z c i (body_of (Did w d took o to places ∷ P) c i)) (sym same)
        (by_turn (d == c) (h c i at))
      where
        by_turn : (b : Bool) → IsGoodBody (acts P) c i (body_of P c i) → IsGoodBody (acts P) c i (body_after_all (first_of i) (cons_option (if b then Some o else None) (filter_map (outcome_of c) P)))
        by_turn true r = after c i (body_of P c i) r
        by_turn false r = r

    pub good : IsDeclared S → (P : History) → IsLegal S Z P → AreGood P
    unfolding model
    good D [] l = λ c i g.
        let fits = all_get S (InstanceFits S) (born S []) c i (root_fits S D) g in
        record { instance = fits; fits = first_fits S D i fits; takes = first_takes S D i.kind i.birth (1 + length i.ancestry) fits.kind; kind = refl; depth = refl; agrees = root_agrees S D c i (1 + length i.ancestry) g }
    good D (Took w d item ∷ P) l = good D P l.0
    good D (Moved w t rs ∷ P) l = good D P l.0
    good D (Did w d took outcome.Void to places ∷ P) l = kept_good P w d took outcome.Void to places (good D P l.0) refl (λ c i b r. r)
    good D (Did w d took (outcome.Fault n) to places ∷ P) l =
        kept_good P w d took (outcome.Fault n) to places (good D P l.0) refl
        (λ c i b r. record { instance = r.instance; fits = status_fits S b b.subs false b.initialised r.fits.subs r.fits; takes = status_takes S b b.subs false b.initialised r.takes; kind = r.kind; depth = r.depth; agrees = status_agrees S (acts P) c b b.subs false b.initialised r.agrees })
    good D (Did w d took (outcome.Done body es) to places ∷ P) l = done_good D P w d took body es to places l.0 (good D P l.0) l.1

    pub body_good : IsDeclared S → (P : History) (c : ℕ) (b : Body) → IsLegal S Z P → body_at S P c ≡ Some b → (i : Instance) × (slice_get (born S (acts P)) c ≡ Some i) × IsGoodBody (acts P) c i b
    unfolding body_at
    body_good D P c b l e =
        let m = mapped (λ i. body_of P c i) (slice_get (born S (acts P)) c) b e in
        (m.0, m.1, subst (IsGoodBody (acts P) c m.0) m.2 (good D P l c m.0 m.1))

    pub effects_met : IsDeclared S → (P : History) (w d took : ℕ) (body : Body) (es : List Effect) (to : Option ℕ) (places : List ℕ) (item : Item)
        → IsLegal S Z (Did w d took (outcome.Done body es) to places ∷ P) → item_at P took ≡ Some item → AreMet S (acts P) d body.kind item es
    unfolding IsLegal found
    effects_met D P w d took body es to places item l e =
        let x = found P w d took (outcome.Done body es) to places l.1 in
        let k = handled D P w d took body es to places (good D P l.0) l.1 x.instance x.at in
        let same : l.1.job.item ≡ item = Some-injective (sym x.item ∙ e) in
        subst (λ z. AreMet S (acts P) d z item es) (sym k.kind) (subst (λ z. AreMet S (acts P) d x.instance.kind z es) same k.met)

    met_front : (done : List Act) (d K : ℕ) (item : Item) (before rest : List Effect) → AreMet S done d K item (before ++ rest) → AreMet S done d K item before
    met_front done d K item [] rest m = tt
    met_front done d K item (e ∷ before) rest m = (m.0, met_front (does d item e ∷ done) d K item before rest m.1)

    pub within : IsDeclared S → (P : History) (w d took : ℕ) (body : Body) (es : List Effect) (to : Option ℕ) (places : List ℕ) (item : Item)
        → IsLegal S Z (Did w d took (outcome.Done body es) to places ∷ P) → item_at P took ≡ Some item → AgreeWithin S P d item es
    unfolding IsLegal found
    within D P w d took body es to places item l e =
        let x = found P w d took (outcome.Done body es) to places l.1 in
        let h = good D P l.0 in
        let k = handled D P w d took body es to places h l.1 x.instance x.at in
        let same : l.1.job.item ≡ item = Some-injective (sym x.item ∙ e) in
        let met = subst (λ z. AreMet S (acts P) d x.instance.kind z es) same k.met in
        record {
          own = subst (λ z. AgreesBefore S (acts P) d z es) same k.agreed;
          others = λ before rest c i q t g.
              (all_effects D (acts P) d x.instance.kind (length (born S (acts P))) item before (λ c i. body_of P c i) (acts_by_born S Z P l.0) (slice_get_within (born S (acts P)) d x.instance x.at) (omega arith)
              (λ c i low. ap (body_after_all (first_of i)) (nothing_done S Z P c l.0 low))
              (met_front (acts P) d x.instance.kind item before rest (subst (AreMet S (acts P) d x.instance.kind item) q met)) (λ c i u v. h c i v) c i t g).agrees;
        }
