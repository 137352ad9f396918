-- The law of wakes for each kind of entry.
use Rattle.std.proofs.Common.{◌≡◌, ℕ, ◌+◌, ◌<◌, Bool, true, false, cond, if◌then◌else◌, not, ◌&&◌, ◌||◌, ◌==◌, refl, sym, ap, ◌∙◌, subst, List, [], ◌∷◌, ◌++◌, length, filter, Option, Some, None, ◌⊎◌, inl, inr, arith, eq-eqb}
use Rattle.std.specs.Prelude.{is_some, IsTrue}
use Rattle.std.specs.List.{list_any, find, enumerate_from}
use Rattle.std.specs.Option.{option_map}
use Rattle.std.proofs.lemmas.List.{append-nil}
use Rattle.std.proofs.lemmas.Bool.{eqb-true}
use Rattle.std.proofs.lemmas.Bool.Decides.{eqb_tells}
use Rattle.kom_base.specs.declared.numbers.Dir.{Dir}
use Rattle.kom_base.specs.declared.numbers.Half.{Half}
use Rattle.kom_base.specs.Numbers.{same_dir, same_no, is_earlier, opposite}
use Rattle.kom_base.specs.Lists.{first, least, if_so}
use Rattle.kom_base.specs.declared.numbers.EntryNo.{EntryNo}
use Rattle.kom_base.specs.declared.numbers.Side.{Side}
use Rattle.kom_base.specs.declared.values.Event.{Event}
use Rattle.kom_lang.specs.Declarations.{Declarations}
use Rattle.kom_record.specs.Model.{model}
use Rattle.kom_record.specs.declared.plan.Plan.{Plan}
use Rattle.kom_record.specs.declared.item.Control.{Control as ControlItem}
use Rattle.kom_record.specs.declared.item.Item.{Item}
use Rattle.kom_record.specs.declared.item.Item.TheVariants.{Control, Arrival}
use Rattle.kom_record.specs.declared.entry.Outcome.{Outcome}
use Rattle.kom_record.specs.declared.entry.Release.{Release}
use Rattle.kom_record.specs.declared.entry.Entry.{Entry}
use Rattle.kom_record.specs.declared.entry.Entry.TheVariants.{Took, Did, Moved}
use Rattle.kom_record.specs.Entries.{History, TakenJob, acts, in_hand, Act}
use Rattle.kom_record.specs.Instances.{born, alive}
use Rattle.kom_record.specs.Channels.{destination, held, is_living, goes_out}
use Rattle.kom_record.specs.Queues.{Envelope, entering, entered, waiting, taken, before_moved, taken_from}
use Rattle.kom_record.specs.Controls.{putting, control_of, control_waiting}
use Rattle.kom_record.specs.Ready.{is_busy, runnable, ready, next, instance_numbers, is_active, candidate, candidates, directions, arriving}
use Rattle.kom_record.specs.Legal.{MayDo, MayTake, MayMove}
use Rattle.kom_record.specs.Answers.{wakes}
use Rattle.kom_record.specs.declared.item.Back.{Back}
use Rattle.kom_laws.proofs.Members.{IsIn, here, there, Some-injective, made_by, least_in}
use Rattle.kom_laws.proofs.ListFacts.{filter_twice, in_numbered, got_at, in_map}
use Rattle.kom_laws.proofs.ControlLaws.{control_same}
use Rattle.kom_laws.proofs.ActLaws.{to_filter, one_job}
use Rattle.kom_laws.proofs.NextItem.{mapped, from_control, candidate_gives, way_of}
use Rattle.kom_laws.proofs.InOrder.{same_way}
use Rattle.kom_laws.proofs.ChannelLaws.{outer_no_end}
use Rattle.kom_laws.proofs.InstanceLaws.{alive_born}
use Rattle.kom_laws.proofs.Unaffected.{and_both, and_make, or_either, or_left, candidate_from, has_candidate, or_right, not_true, IsCandidate, candidate_is, IsUnaffected, unaffected_ready, waiting_same}

or_true : (b : Bool) → (b || true) ≡ true
unfolding model
or_true true = refl
or_true false = refl

any_at : {X : Type 0} (f : X → Bool) (x : X) (xs : List X) (b : Bool) → f x ≡ b → (b || list_any f xs) ≡ true → (list_any f xs ≡ true → (y : X) × IsIn y xs × (f y ≡ true)) → (y : X) × IsIn y (x ∷ xs) × (f y ≡ true)
unfolding model
any_at f x xs true q e rest = (x, here, q)
any_at f x xs false q e rest = let r = rest e in (r.0, there r.1, r.2)

any_in : {X : Type 0} (f : X → Bool) (xs : List X) → list_any f xs ≡ true → (x : X) × IsIn x xs × (f x ≡ true)
unfolding model
any_in f [] e = absurd cc
any_in f (x ∷ xs) e = any_at f x xs (f x) refl e (any_in f xs)

in_any : {X : Type 0} (f : X → Bool) (xs : List X) (x : X) → IsIn x xs → f x ≡ true → list_any f xs ≡ true
unfolding model
in_any f [] x h e = elim h [ ]
in_any f (x ∷ xs) x' here e = ap (λ b. b || list_any f xs) e
in_any f (y ∷ xs) x (there h) e = ap (λ b. f y || b) (in_any f xs x h e) ∙ or_true (f y)

find_at : {X : Type 0} (f : X → Bool) (x : X) (xs : List X) (y : X) (b : Bool) → f x ≡ b → (if b then Some x else find f xs) ≡ Some y → (find f xs ≡ Some y → IsIn y xs × (f y ≡ true)) → IsIn y (x ∷ xs) × (f y ≡ true)
unfolding model
find_at f x xs y true q e rest = let s = Some-injective e in (subst (λ z. IsIn z (x ∷ xs)) s here, ap f (sym s) ∙ q)
find_at f x xs y false q e rest = let r = rest e in (there r.0, r.1)

found_in : {X : Type 0} (f : X → Bool) (xs : List X) (y : X) → find f xs ≡ Some y → IsIn y xs × (f y ≡ true)
unfolding model
found_in f [] y e = absurd cc
found_in f (x ∷ xs) y e = find_at f x xs y (f x) refl e (found_in f xs y)

is_true_is : (b : Bool) → IsTrue b → b ≡ true
unfolding model
is_true_is b h = h

marked : (m a b : Bool) → (m ≡ false → a ≡ true → b ≡ true) → (a && not b) ≡ (m && (a && not b))
unfolding model
marked true a b h = refl
marked false true b h = ap not (h refl refl)
marked false false b h = refl

same_filter : {X : Type 0} (f g : X → Bool) (xs : List X) → ((x : X) → f x ≡ g x) → filter f xs ≡ filter g xs
unfolding model
same_filter f g [] h = refl
same_filter f g (x ∷ xs) h = ap (λ b. cond b (x ∷ filter f xs) (filter f xs)) (h x) ∙ ap (λ r. cond (g x) (x ∷ r) r) (same_filter f g xs h)

module _ (S : Declarations) (Z : Plan) where
  -- a component that a Did leaves untouched: another's Did, nothing is put to it, and each open direction that ends at it ended there, open, before, and nothing enters it
  pub record IsUntouched (P : History) (w d took : ℕ) (o : Outcome) (to : Option ℕ) (places : List ℕ) (c : ℕ) : Type 0 where
    pub other : (d == c) ≡ false
    pub born_before : c < length (born S (acts P))
    pub nothing_put : putting S P (Did w d took o to places) c ≡ []
    pub ends : (x : ℕ) (e : Dir) (h : Half) → destination S (acts (Did w d took o to places ∷ P)) x e ≡ Some h → h.comp ≡ c → is_living S (acts (Did w d took o to places ∷ P)) x ≡ true → held S (acts (Did w d took o to places ∷ P)) x ≡ false
        → (destination S (acts P) x e ≡ Some h) × (held S (acts P) x ≡ false) × (entering S P (Did w d took o to places) x e ≡ [])

  still_busy : (P : History) (w d took : ℕ) (o : Outcome) (to : Option ℕ) (places : List ℕ) (c : ℕ) → MayDo S Z P w d took o to places → (d == c) ≡ false → is_busy S P c ≡ true → is_busy S (Did w d took o to places ∷ P) c ≡ true
  unfolding model
  still_busy P w d took o to places c l q h =
      let a = any_in (λ g. g.c == c) (in_hand P) h in
      in_any (λ g. g.c == c) (filter (λ g. not (g.took == took)) (in_hand P)) a.0 (to_filter (λ g. not (g.took == took)) (in_hand P) a.0 a.1 (go a.0 a.1 a.2 (a.0.took == took) refl)) a.2
    where
      go : (g : TakenJob) → IsIn g (in_hand P) → (g.c == c) ≡ true → (b : Bool) → (g.took == took) ≡ b → not b ≡ true
      go g m e true t =
          let f = found_in (λ h. h.took == took) (in_hand P) l.job l.in_hand in
          let s : g ≡ l.job = one_job P g l.job m f.0 (eqb-true g.took took t ∙ sym (eqb-true l.job.took took f.1)) in
          let dc : d ≡ c = sym l.component ∙ ap (λ h. h.c) (sym s) ∙ eqb-true g.c c e in
          absurd (let x : true ≡ false = sym (eq-eqb d c dc) ∙ q in cc)
      go g m e false t = refl

  pub untouched_unaffected : (P : History) (w d took : ℕ) (o : Outcome) (to : Option ℕ) (places : List ℕ) (c : ℕ) → MayDo S Z P w d took o to places → IsUntouched P w d took o to places c → IsUnaffected S P (Did w d took o to places) c
  unfolding model
  untouched_unaffected P w d took o to places c l u = record {
    born_before = u.born_before;
    not_own = ap (λ b. if b then Some o else None) u.other;
    busy_still = still_busy P w d took o to places c l u.other;
    nothing_got = refl;
    nothing_put = u.nothing_put;
    as_before = λ x e h a b f g. let r = u.ends x e h a b f g in (r.0, r.1, waiting_same S P w d took o to places x e r.2);
  }

  -- the wakes of a Did are among the touched
  pub wakes_did : (P : History) (w d took : ℕ) (o : Outcome) (to : Option ℕ) (places : List ℕ) (c : ℕ) → MayDo S Z P w d took o to places → IsUntouched P w d took o to places c
      → ready S Z (Did w d took o to places ∷ P) c ≡ true → ready S Z P c ≡ true
  unfolding model
  wakes_did P w d took o to places c l u h = unaffected_ready S Z P (Did w d took o to places) c (untouched_unaffected P w d took o to places c l u) h

  -- the direction of the arrival that a component takes ends at it
  pub arrival_ends : (P : History) (d x : ℕ) (e : Dir) (n : EntryNo) (port : ℕ) (side : Side) (event : Event) (back : Back) → next S P d ≡ Some (Arrival x e n port side event back) → IsCandidate S P d x e
  unfolding model
  arrival_ends P d x e n port side event back h = go (from_control S P d (first (control_waiting S P d)) _ _ h)
    where
      go : ((k : ControlItem) × (Arrival x e n port side event back ≡ Control k)) ⊎ (option_map (λ a. a.item) (least (λ a b. is_earlier a.no b.no) (candidates S P d)) ≡ Some (Arrival x e n port side event back)) → IsCandidate S P d x e
      go (inl q) = absurd (let f = q.1 in cc)
      go (inr q) =
          let m = mapped (λ a. a.item) (least (λ a b. is_earlier a.no b.no) (candidates S P d)) _ q in
          let f = made_by (candidate S P d) (directions S P) m.0 (least_in _ _ _ m.1) in
          let g = candidate_gives S P d f.0 m.0 f.1 in
          let same : (arriving S f.0.0 f.0.1 g.0 g.1).item ≡ Arrival x e n port side event back = ap (λ a. a.item) g.3 ∙ m.2 in
          let way : f.0 ≡ (x, e) = ap (way_of (x, e)) same in
          subst (λ w. IsCandidate S P d w.0 w.1) way (candidate_is S P d f.0.0 f.0.1 m.0 f.1)

  takes_nothing : (P : History) (w d : ℕ) (item : Item) (x : ℕ) (e : Dir) → taken S (Took w d item) x e ≡ [] → waiting S (Took w d item ∷ P) x e ≡ waiting S P x e
  unfolding model
  takes_nothing P w d item x e h =
      ap (λ ys. filter (λ p. not (list_any (λ q. same_no q.no p.no) (if goes_out S x e then entered S (before_moved S P) x e else taken_from S P x e ++ ys))) (entered S P x e)) h
      ∙ ap (λ ys. filter (λ p. not (list_any (λ q. same_no q.no p.no) (if goes_out S x e then entered S (before_moved S P) x e else ys))) (entered S P x e)) (append-nil (taken_from S P x e))

  not_taken : (P : History) (w d c : ℕ) (item : Item) (x : ℕ) (e : Dir) (h : Half) → next S P d ≡ Some item → (d == c) ≡ false → destination S (acts P) x e ≡ Some h → h.comp ≡ c → taken S (Took w d item) x e ≡ []
  unfolding model
  not_taken P w d c (Control k) x e h n q a b = refl
  not_taken P w d c (Arrival y f n' port side event back) x e h n q a b = go (y == x && same_dir f e) refl
    where
      go : (t : Bool) → (y == x && same_dir f e) ≡ t → if◌then◌else◌ {A = List Envelope} t (record { no = n'; event = event; back = back } ∷ []) [] ≡ []
      go false r = refl
      go true r =
          let k = arrival_ends P d y f n' port side event back n in
          let way = same_way y x f e r in
          let at : destination S (acts P) x e ≡ Some k.half = subst (λ v. destination S (acts P) v.0 v.1 ≡ Some k.half) way k.ends in
          let same : k.half ≡ h = Some-injective (sym at ∙ a) in
          let dc : d ≡ c = sym k.at ∙ ap (λ j. j.comp) same ∙ b in
          absurd (let z : true ≡ false = sym (eq-eqb d c dc) ∙ q in cc)

  -- a Took wakes nobody
  pub wakes_took : (P : History) (w d : ℕ) (item : Item) (c : ℕ) → MayTake S Z P w d item → ready S Z (Took w d item ∷ P) c ≡ true → ready S Z P c ≡ true
  unfolding model
  wakes_took P w d item c l h =
      let a = (and_both _ _ h).0 in
      let b = (and_both _ _ (and_both _ _ a).0) in
      elim (eqb_tells d c) [
        | inl t ↦ absurd (let z : true ≡ false = sym (ap (λ v. v || is_busy S P c) t.0) ∙ not_true _ b.1 in cc)
        | inr t ↦ unaffected_ready S Z P (Took w d item) c (record {
          born_before = alive_born S (acts P) c b.0;
          not_own = refl;
          busy_still = λ k. or_right (d == c) (is_busy S P c) k;
          nothing_got = ap (λ v. if_so v (control_of S item)) t.0;
          nothing_put = refl;
          as_before = λ x e half i j f g. (i, g, takes_nothing P w d item x e (not_taken P w d c item x e half l.next t.0 i j));
        }) h
      ]

  -- a direction that ends at a half does not go out
  pub stays_in : (done : List Act) (x : ℕ) (e : Dir) (h : Half) → destination S done x e ≡ Some h → goes_out S x e ≡ false
  unfolding model
  stays_in done x e h k = go (goes_out S x e) refl
    where
      go : (b : Bool) → goes_out S x e ≡ b → b ≡ false
      go true q = absurd (let z : None ≡ Some h = sym (outer_no_end S done x (opposite e) q) ∙ k in cc)
      go false q = refl

  waits_moved : (P : History) (w t : ℕ) (rs : List Release) (x : ℕ) (e : Dir) → goes_out S x e ≡ false → entering S P (Moved w t rs) x e ≡ [] → waiting S (Moved w t rs ∷ P) x e ≡ waiting S P x e
  unfolding model
  waits_moved P w t rs x e g h =
      let f = λ (ps : List Envelope). filter (λ p. not (list_any (λ q. same_no q.no p.no) ps)) in
      ap (λ b. f (if b then entered S P x e else taken_from S P x e ++ []) (entered S P x e ++ entering S P (Moved w t rs) x e)) g
      ∙ ap (λ ys. f (taken_from S P x e ++ []) (entered S P x e ++ ys)) h
      ∙ ap (f (taken_from S P x e ++ [])) (append-nil (entered S P x e))
      ∙ ap (λ ys. f ys (entered S P x e)) (append-nil (taken_from S P x e))
      ∙ ap (λ b. f (if b then entered S (before_moved S P) x e else taken_from S P x e) (entered S P x e)) (sym g)

  -- before a Moved nobody is ready, so its wakes are those of the directions that something enters
  pub wakes_moved : (P : History) (w t : ℕ) (rs : List Release) (c : ℕ) → MayMove S Z P t rs → ready S Z (Moved w t rs ∷ P) c ≡ true
      → (x : ℕ) × (e : Dir) × (h : Half) × (destination S (acts P) x e ≡ Some h) × (h.comp ≡ c) × is_some (first (entering S P (Moved w t rs) x e)) ≡ true
  unfolding model
  wakes_moved P w t rs c l h =
      let a = and_both _ _ (and_both _ _ h).0 in
      let b = and_both _ _ a.0 in
      go a.1 b.0 b.1
    where
      none_runnable : runnable S P c ≡ true → alive S (acts P) c ≡ true → ⊥
      none_runnable r v =
          let i = got_at (born S (acts P)) c (alive_born S (acts P) c v) in
          let n = in_numbered 0 (born S (acts P)) c i.0 i.1 in
          let m : IsIn (0 + c) (instance_numbers S P) = in_map (λ q. q.0) (enumerate_from 0 (born S (acts P))) (0 + c, i.0) n in
          let m' : IsIn c (instance_numbers S P) = subst (λ z. IsIn z (instance_numbers S P)) (let f : 0 + c ≡ c = omega arith in f) m in
          let y : ready S Z P c ≡ true = and_make _ _ r (is_true_is _ l.not_closed) in
          let z = subst (λ cs. IsIn c cs) l.none_ready (to_filter (ready S Z P) (instance_numbers S P) c m' y) in
          elim z [ ]

      by_way : (x : ℕ) (e : Dir) → IsCandidate S (Moved w t rs ∷ P) c x e → alive S (acts P) c ≡ true → not (is_busy S P c) ≡ true → is_active S P c ≡ true → (ps : List Envelope) → entering S P (Moved w t rs) x e ≡ ps → is_some (first (entering S P (Moved w t rs) x e)) ≡ true
      by_way x e k v f g [] q =
          let k' : IsCandidate S P c x e = record { half = k.half; envelope = k.envelope; ends = k.ends; at = k.at; living = k.living; free = k.free; first_is = ap first (sym (waits_moved P w t rs x e (stays_in (acts P) x e k.half k.ends) q)) ∙ k.first_is } in
          absurd (none_runnable (and_make _ _ (and_make _ _ v f) (or_right _ _ (and_make _ _ g (candidate_from S P c x e k')))) v)
      by_way x e k v f g (p ∷ ps) q = ap (λ r. is_some (first r)) q

      go : (is_some (first (control_waiting S (Moved w t rs ∷ P) c)) || (is_active S P c && is_some (first (candidates S (Moved w t rs ∷ P) c)))) ≡ true → alive S (acts P) c ≡ true → not (is_busy S P c) ≡ true
          → (x : ℕ) × (e : Dir) × (h : Half) × (destination S (acts P) x e ≡ Some h) × (h.comp ≡ c) × is_some (first (entering S P (Moved w t rs) x e)) ≡ true
      go u v f = either_way (or_either _ _ u)
        where
          either_way : (is_some (first (control_waiting S (Moved w t rs ∷ P) c)) ≡ true) ⊎ ((is_active S P c && is_some (first (candidates S (Moved w t rs ∷ P) c))) ≡ true)
              → (x : ℕ) × (e : Dir) × (h : Half) × (destination S (acts P) x e ≡ Some h) × (h.comp ≡ c) × is_some (first (entering S P (Moved w t rs) x e)) ≡ true
          either_way (inl q) = absurd (none_runnable (and_make _ _ (and_make _ _ v f) (or_left _ _ (ap (λ cs. is_some (first cs)) (sym (control_same S P (Moved w t rs) c refl refl)) ∙ q))) v)
          either_way (inr q) =
              let y = and_both _ _ q in
              let k = has_candidate S (Moved w t rs ∷ P) c y.1 in
              (k.0, k.1, k.2.half, k.2.ends, k.2.at, by_way k.0 k.1 k.2 v f y.0 (entering S P (Moved w t rs) k.0 k.1) refl)

  -- it is enough to look at those that a test marks, where each that it does not mark stays as it was
  pub wakes_marked : (P : History) (e : Entry) (mark : ℕ → Bool) → ((c : ℕ) → mark c ≡ false → ready S Z (e ∷ P) c ≡ true → ready S Z P c ≡ true)
      → wakes S Z P (e ∷ P) ≡ filter (λ c. mark c && (ready S Z (e ∷ P) c && not (ready S Z P c))) (instance_numbers S (e ∷ P))
  unfolding model wakes
  wakes_marked P e mark h =
      filter_twice (λ c. not (ready S Z P c)) (ready S Z (e ∷ P)) (instance_numbers S (e ∷ P))
      ∙ same_filter (λ c. ready S Z (e ∷ P) c && not (ready S Z P c)) (λ c. mark c && (ready S Z (e ∷ P) c && not (ready S Z P c))) (instance_numbers S (e ∷ P)) (λ c. marked (mark c) (ready S Z (e ∷ P) c) (ready S Z P c) (h c))
