-- Bodies, and control items put and got, entry by entry.
use Rattle.std.proofs.Common.{◌≡◌, ℕ, ◌+◌, ◌<◌, ◌≤◌, Bool, true, false, if◌then◌else◌, ◌==◌, refl, sym, ap, ◌∙◌, subst, List, [], ◌∷◌, ◌++◌, length, drop, Option, Some, None, arith, eq-eqb}
use Rattle.std.specs.Prelude.{slice_get}
use Rattle.std.specs.List.{filter_map, cons_option}
use Rattle.std.specs.Option.{option_map}
use Rattle.std.proofs.lemmas.List.{append-nil, length-append, drop-append-le}
use Rattle.std.proofs.lemmas.Bool.{eqb-true}
use Rattle.std.proofs.lemmas.Option.{slice_get_within}
use Rattle.kom_base.specs.Lists.{first, either, least, if_so}
use Rattle.kom_base.specs.Numbers.{is_earlier}
use Rattle.kom_lang.specs.Declarations.{Declarations}
use Rattle.kom_lang.specs.declared.body.Body.{Body}
use Rattle.kom_lang.specs.Bodies.{first_body}
use Rattle.kom_record.specs.Model.{model}
use Rattle.kom_record.specs.declared.plan.Plan.{Plan}
use Rattle.kom_record.specs.declared.item.Control.{Control as ControlItem}
use Rattle.kom_record.specs.declared.item.Item.{Item}
use Rattle.kom_record.specs.declared.item.Item.TheVariants.{Control, Arrival}
use Rattle.kom_record.specs.declared.entry.Release.{Release}
use Rattle.kom_record.specs.declared.entry.Outcome.{Outcome}
use Rattle.kom_record.specs.declared.entry.Entry.{Entry}
use Rattle.kom_record.specs.declared.entry.Entry.TheVariants.{Took, Did, Moved}
use Rattle.kom_record.specs.Entries.{History, Act, acts, acts_of}
use Rattle.kom_record.specs.Instances.{Instance, born}
use Rattle.kom_record.specs.Reaction.{body_after}
use Rattle.kom_record.specs.Bodies.{body_at, outcome_of, body_after_all}
use Rattle.kom_record.specs.Controls.{control_put, control_got, control_waiting, putting, getting, put_by_acts, put_by_effect}
use Rattle.kom_record.specs.Ready.{next, candidate, candidates, directions, arriving}
use Rattle.kom_record.specs.Legal.{IsLegal}
use Rattle.kom_laws.proofs.Members.{made_by, least_in}
use Rattle.kom_laws.proofs.ListFacts.{drop_one, drop_some}
use Rattle.kom_laws.proofs.Rising.{differs}
use Rattle.kom_laws.proofs.NextItem.{mapped, candidate_gives}
use Rattle.kom_laws.proofs.InstanceLaws.{instance_stays, born_grows}

module _ (S : Declarations) where
  -- ---- bodies

  -- a Took and a Moved leave each body as it is
  pub body_took : (P : History) (w d : ℕ) (item : Item) (c : ℕ) → body_at S (Took w d item ∷ P) c ≡ body_at S P c
  unfolding model
  body_took P w d item c = refl

  pub body_moved : (P : History) (w t : ℕ) (rs : List Release) (c : ℕ) → body_at S (Moved w t rs ∷ P) c ≡ body_at S P c
  unfolding model
  body_moved P w t rs c = refl

  body_row : List Outcome → Option Instance → Option Body
  unfolding model
  body_row os o = option_map (λ i. body_after_all (first_body S i.kind i.birth (1 + length i.ancestry)) os) o

  -- what others did leaves the body of one that was born
  pub body_other : (P : History) (e : Entry) (c : ℕ) → outcome_of c e ≡ None → c < length (born S (acts P)) → body_at S (e ∷ P) c ≡ body_at S P c
  unfolding model
  body_other P e c h b =
      ap (λ o. option_map (λ i. body_after_all (first_body S i.kind i.birth (1 + length i.ancestry)) (cons_option o (filter_map (outcome_of c) P))) (slice_get (born S (acts (e ∷ P))) c)) h
      ∙ ap (option_map (λ i. body_after_all (first_body S i.kind i.birth (1 + length i.ancestry)) (filter_map (outcome_of c) P))) (instance_stays S (acts_of P e) (acts P) c b)

  body_after_more : (o : Option Instance) (os : List Outcome) (x : Outcome)
      → option_map (λ i. body_after_all (first_body S i.kind i.birth (1 + length i.ancestry)) (x ∷ os)) o ≡ option_map (λ b. body_after b x) (option_map (λ i. body_after_all (first_body S i.kind i.birth (1 + length i.ancestry)) os) o)
  unfolding model
  body_after_more None os x = refl
  body_after_more (Some i) os x = refl

  -- what it did itself
  pub body_own : (P : History) (e : Entry) (c : ℕ) (o : Outcome) → outcome_of c e ≡ Some o → c < length (born S (acts P)) → body_at S (e ∷ P) c ≡ option_map (λ b. body_after b o) (body_at S P c)
  unfolding model
  body_own P e c o h b =
      ap (λ x. option_map (λ i. body_after_all (first_body S i.kind i.birth (1 + length i.ancestry)) (cons_option x (filter_map (outcome_of c) P))) (slice_get (born S (acts (e ∷ P))) c)) h
      ∙ ap (option_map (λ i. body_after_all (first_body S i.kind i.birth (1 + length i.ancestry)) (o ∷ filter_map (outcome_of c) P))) (instance_stays S (acts_of P e) (acts P) c b)
      ∙ body_after_more (slice_get (born S (acts P)) c) (filter_map (outcome_of c) P) o

  -- ---- control items

  -- what one entry puts, and what one act puts
  pub put_more : (P : History) (e : Entry) (c : ℕ) → control_put S (e ∷ P) c ≡ control_put S P c ++ putting S P e c
  unfolding model
  put_more P e c = refl

  pub put_one_act : (P : History) (c : ℕ) (a : Act) (mine : List Act) → put_by_acts S P c (a ∷ mine) ≡ put_by_acts S P c mine ++ put_by_effect S P (mine ++ acts P) c a a.effect
  unfolding model
  put_one_act P c a mine = refl

  pub got_did : (P : History) (w d took : ℕ) (o : Outcome) (to : Option ℕ) (places : List ℕ) (c : ℕ) → control_got S (Did w d took o to places ∷ P) c ≡ control_got S P c
  unfolding model
  got_did P w d took o to places c = append-nil _

  told_is : (P : History) (c : ℕ) (o : Option ControlItem) (k : ControlItem) → either (option_map Control o) (option_map (λ a. a.item) (least (λ a b. is_earlier a.no b.no) (candidates S P c))) ≡ Some (Control k) → o ≡ Some k
  unfolding model
  told_is P c None k e =
      let m = mapped (λ a. a.item) (least (λ a b. is_earlier a.no b.no) (candidates S P c)) (Control k) e in
      let f = made_by (candidate S P c) (directions S P) m.0 (least_in _ _ _ m.1) in
      let g = candidate_gives S P c f.0 m.0 f.1 in
      let same : (arriving S f.0.0 f.0.1 g.0 g.1).item ≡ Control k = ap (λ a. a.item) g.3 ∙ m.2 in
      absurd cc
  told_is P c (Some j) k e = cc

  -- the control item that is taken is the first that waited
  pub control_first : (P : History) (c : ℕ) (k : ControlItem) → next S P c ≡ Some (Control k) → first (control_waiting S P c) ≡ Some k
  unfolding model
  control_first P c k e = told_is P c (first (control_waiting S P c)) k e

  if_same : {X : Type 0} (d : ℕ) (xs : List X) → if_so (d == d) xs ≡ xs
  unfolding model
  if_same d xs = ap (λ b. if_so b xs) (eq-eqb d d refl)

  -- a Took of a control item takes the first
  pub control_took_own : (P : History) (w c : ℕ) (k : ControlItem) → first (control_waiting S P c) ≡ Some k → control_waiting S P c ≡ k ∷ control_waiting S (Took w c (Control k) ∷ P) c
  unfolding model
  control_took_own P w c k e =
      drop_one (length (control_got S P c)) (control_put S P c) k e
      ∙ ap (λ r. k ∷ r) (
      ap (λ n. drop n (control_put S P c)) (let f : length (control_got S P c) + 1 ≡ length (control_got S P c ++ k ∷ []) = omega (arith, length-append (control_got S P c) (k ∷ [])) in f)
      ∙ ap (λ ys. drop (length (control_got S P c ++ ys)) (control_put S P c)) (sym (if_same c (k ∷ [])))
      ∙ ap (λ xs. drop (length (control_got S P c ++ if_so (c == c) (k ∷ []))) xs) (sym (append-nil (control_put S P c))))

  -- an entry that c does not get from adds at the end
  pub control_more : (P : History) (e : Entry) (c : ℕ) → getting S e c ≡ [] → length (control_got S P c) ≤ length (control_put S P c) → control_waiting S (e ∷ P) c ≡ control_waiting S P c ++ putting S P e c
  unfolding model
  control_more P e c g h =
      ap (λ ys. drop (length (control_got S P c ++ ys)) (control_put S P c ++ putting S P e c)) g
      ∙ ap (λ ys. drop (length ys) (control_put S P c ++ putting S P e c)) (append-nil (control_got S P c))
      ∙ drop-append-le (length (control_got S P c)) (control_put S P c) (putting S P e c) h

  -- and where nothing is put, the same waits as before
  pub control_same : (P : History) (e : Entry) (c : ℕ) → getting S e c ≡ [] → putting S P e c ≡ [] → control_waiting S (e ∷ P) c ≡ control_waiting S P c
  unfolding model
  control_same P e c g h =
      ap (λ ys. drop (length (control_got S P c ++ ys)) (control_put S P c ++ putting S P e c)) g
      ∙ ap (λ ys. drop (length (control_got S P c ++ [])) (control_put S P c ++ ys)) h
      ∙ ap (λ ys. drop (length ys) (control_put S P c ++ [])) (append-nil (control_got S P c))
      ∙ ap (drop (length (control_got S P c))) (append-nil (control_put S P c))

  -- ---- laws of legal records

  if_nil : {X : Type 0} (b : Bool) → if_so {A = X} b [] ≡ []
  unfolding model
  if_nil true = refl
  if_nil false = refl

  within : (got put : List ControlItem) (b : Bool) (k : ControlItem) → length got ≤ length put → (b ≡ true → first (drop (length got) put) ≡ Some k) → length (got ++ if_so b (k ∷ [])) ≤ length (put ++ [])
  unfolding model
  within got put true k h f = let a = drop_some (length got) put k (f refl) in omega (arith, a, length-append got (k ∷ []), length-append put [])
  within got put false k h f = omega (arith, h, length-append got [], length-append put [])

  -- what is got is a beginning of what is put
  pub got_within : (Z : Plan) (P : History) (c : ℕ) → IsLegal S Z P → length (control_got S P c) ≤ length (control_put S P c)
  unfolding model
  got_within Z [] c l = omega arith
  got_within Z (Took w d (Control k) ∷ P) c l =
      within (control_got S P c) (control_put S P c) (d == c) k (got_within Z P c l.0)
      (λ t. subst (λ x. first (control_waiting S P x) ≡ Some k) (eqb-true d c t) (control_first P d k l.1.next))
  got_within Z (Took w d (Arrival x e n port side event back) ∷ P) c l =
      let r = got_within Z P c l.0 in
      let g = ap length (if_nil {X = ControlItem} (d == c)) in
      omega (arith, r, g, length-append (control_got S P c) (if_so (d == c) []), length-append (control_put S P c) [])
  got_within Z (Did w d took o to places ∷ P) c l =
      let r = got_within Z P c l.0 in
      omega (arith, r, length-append (control_got S P c) [], length-append (control_put S P c) (putting S P (Did w d took o to places) c))
  got_within Z (Moved w t rs ∷ P) c l =
      let r = got_within Z P c l.0 in
      omega (arith, r, length-append (control_got S P c) [], length-append (control_put S P c) [])

  -- who has a body was born
  pub body_born : (P : History) (c : ℕ) (b : Body) → body_at S P c ≡ Some b → c < length (born S (acts P))
  unfolding model
  body_born P c b e = let m = mapped (λ i. body_after_all (first_body S i.kind i.birth (1 + length i.ancestry)) (filter_map (outcome_of c) P)) (slice_get (born S (acts P)) c) b e in slice_get_within (born S (acts P)) c m.0 m.1

  born_less : (P : History) (e : Entry) → length (born S (acts P)) ≤ length (born S (acts (e ∷ P)))
  unfolding model
  born_less P e = let r = born_grows S (acts_of P e) (acts P) in let f = ap length r.1 in omega (arith, f, length-append (born S (acts P)) r.0)

  -- one that is not born did nothing
  pub nothing_done : (Z : Plan) (P : History) (c : ℕ) → IsLegal S Z P → length (born S (acts P)) ≤ c → filter_map (outcome_of c) P ≡ []
  unfolding model
  nothing_done Z [] c l h = refl
  nothing_done Z (Took w d item ∷ P) c l h = nothing_done Z P c l.0 h
  nothing_done Z (Did w d took o to places ∷ P) c l h =
      let g = born_less P (Did w d took o to places) in
      let b = body_born P d l.1.body l.1.body_is in
      ap (λ t. cons_option (if t then Some o else None) (filter_map (outcome_of c) P)) (differs d c (omega (arith, g, b, h)))
      ∙ nothing_done Z P c l.0 (omega (arith, g, h))
  nothing_done Z (Moved w t rs ∷ P) c l h = nothing_done Z P c l.0 h
