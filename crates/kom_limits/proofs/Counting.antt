-- How many effects and entries a legal record has.
use Rattle.std.proofs.Common.{◌≡◌, ℕ, suc, ◌+◌, ◌*◌, ◌<◌, ◌≤◌, ◌&&◌, ◌||◌, ◌==◌, not, Bool, true, false, refl, List, [], ◌∷◌, ◌++◌, length, map, Option, Some, None, cond, arith}
use Rattle.std.specs.Prelude.{count_by, filter, find}
use Rattle.std.proofs.lemmas.Bool.{leb-false}
use Rattle.std.proofs.lemmas.List.{length-append, length-map, length-reverse}
use Rattle.std.proofs.lemmas.List.Sums.{sum_by-cons}
use Rattle.kom_lang.specs.Declarations.{Declarations}
use Rattle.kom_lang.specs.declared.body.Body.{Body}
use Rattle.kom_lang.specs.declared.body.Effect.{Effect}
use Rattle.kom_record.specs.declared.plan.Plan.{Plan}
use Rattle.kom_record.specs.declared.item.Item.{Item}
use Rattle.kom_record.specs.declared.entry.Outcome.{Outcome}
use Rattle.kom_record.specs.declared.entry.Outcome.TheVariants as outcome
use Rattle.kom_record.specs.declared.entry.Entry.{Entry}
use Rattle.kom_record.specs.declared.entry.Entry.TheVariants.{Took, Did, Moved}
use Rattle.kom_record.specs.Entries.{Act, History, TakenJob, acts, acts_for, acts_of, in_hand, item_at}
use Rattle.kom_record.specs.Instances.{alive}
use Rattle.kom_record.specs.Legal.{IsLegal, MayDo, MayEnd, MayTake}
use Rattle.kom_record.specs.Ready.{is_closed, is_moved, is_took, ready, runnable}
use Rattle.kom_laws.proofs.EffectLaws.{bounded}
use Rattle.kom_limits.specs.Laws.{ActsAreBounded, NumbersAreEnough, RecordsAreShort}
use Rattle.kom_limits.proofs.Small.{instances_are_few}

right_of : (a b : Bool) → (a && b) ≡ true → b ≡ true
right_of true b e = e
right_of false b e = absurd cc

not_of : (b : Bool) → not b ≡ true → b ≡ false
not_of true e = absurd cc
not_of false e = refl

neither : (a b : Bool) → (a || b) ≡ false → (a ≡ false) × (b ≡ false)
neither true b e = absurd cc
neither false b e = (refl, e)

-- a filter that drops what is found makes the list shorter
filter_least : {A : Type 0} (f : A → Bool) (xs : List A) → length (filter f xs) ≤ length xs
filter_least f [] = omega arith
filter_least f (x ∷ xs) = at (f x) (filter_least f xs)
  where
    at : (b : Bool) → length (filter f xs) ≤ length xs → length (cond b (x ∷ filter f xs) (filter f xs)) ≤ suc (length xs)
    at true r = omega (arith, r)
    at false r = omega (arith, r)

dropped : {A : Type 0} (f : A → Bool) (xs : List A) (x : A) → find f xs ≡ Some x → length (filter (λ y. not (f y)) xs) + 1 ≤ length xs
dropped f [] x e = absurd cc
dropped f (y ∷ ys) x e = at (f y) (filter_least (λ z. not (f z)) ys) (dropped f ys x) e
  where
    at : (b : Bool) → length (filter (λ z. not (f z)) ys) ≤ length ys → (find f ys ≡ Some x → length (filter (λ z. not (f z)) ys) + 1 ≤ length ys)
        → cond b (Some y) (find f ys) ≡ Some x → length (cond (not b) (y ∷ filter (λ z. not (f z)) ys) (filter (λ z. not (f z)) ys)) + 1 ≤ suc (length ys)
    at true l r h = omega (arith, l)
    at false l r h = let q = r h in omega (arith, q)

module _ (S : Declarations) (Z : Plan) where
  abbrev tooks : History → ℕ
  tooks P = count_by is_took P

  abbrev moveds : History → ℕ
  moveds P = count_by is_moved P

  took_more : (e : Entry) (P : History) → tooks (e ∷ P) ≡ cond (is_took e) 1 0 + tooks P
  took_more e P = sum_by-cons (λ (x : Entry). cond (is_took x) 1 0) e P

  moved_more : (e : Entry) (P : History) → moveds (e ∷ P) ≡ cond (is_moved e) 1 0 + moveds P
  moved_more e P = sum_by-cons (λ (x : Entry). cond (is_moved x) 1 0) e P

  -- a record that is not closed has steps and instants left
  left_over : (P : History) → is_closed S Z P ≡ false → (tooks P < Z.steps) × (moveds P < Z.instants)
  unfolding is_closed
  left_over P e =
      let a = neither _ _ e in
      let b = neither _ _ a.0 in
      (leb-false Z.steps (tooks P) b.1, leb-false Z.instants (moveds P) a.1)

  open_at_take : (P : History) (w c : ℕ) (item : Item) → MayTake S Z P w c item → is_closed S Z P ≡ false
  unfolding ready
  open_at_take P w c item t = not_of (is_closed S Z P) (right_of (runnable S P c) (not (is_closed S Z P)) t.ready)

  -- the effects of one entry
  own_length : (c : ℕ) (o : Option Item) (effects : List Effect) → length (acts_for c o effects) ≤ length effects
  own_length c None effects = omega arith
  own_length c (Some item) effects =
      let f : Effect → Act = λ e. record { by = c; item = item; effect = e } in
      omega (arith, length-reverse (map f effects), length-map effects f)

  pub few_effects : (alive_now : Bool) (b : Body) (item : Item) (body : Body) (effects : List Effect) → MayEnd S Z alive_now b item (outcome.Done body effects) → length effects ≤ 32
  unfolding MayEnd
  few_effects true b item body effects r = (bounded S b item body effects r).few
  few_effects false b item body effects e = absurd cc

  few_acts : (P : History) (w c took : ℕ) (o : Outcome) (to : Option ℕ) (places : List ℕ) → MayDo S Z P w c took o to places → length (acts_of P (Did w c took o to places)) ≤ 32
  unfolding acts_of
  few_acts P w c took outcome.Void to places d = omega arith
  few_acts P w c took (outcome.Fault n) to places d = omega arith
  few_acts P w c took (outcome.Done body effects) to places d =
      let a = own_length c (item_at P took) effects in
      let b = few_effects (alive S (acts P) c) d.body d.job.item body effects d.outcome in
      omega (arith, a, b)

  record Counted (P : History) : Type 0 where
    pub effects : length (acts P) + 32 * length (in_hand P) ≤ 32 * tooks P
    pub entries : length P + length (in_hand P) ≤ 2 * tooks P + moveds P
    pub steps : tooks P ≤ Z.steps
    pub instants : moveds P ≤ Z.instants

  counted : (P : History) → IsLegal S Z P → Counted P
  unfolding IsLegal acts acts_of in_hand
  counted [] l = record { effects = omega arith; entries = omega arith; steps = omega arith; instants = omega arith }
  counted (Took w c item ∷ P) l =
      let r = counted P l.0 in
      let k = left_over P (open_at_take P w c item l.1) in
      let t = took_more (Took w c item) P in
      let m = moved_more (Took w c item) P in
      let x = r.effects in let y = r.entries in let z = k.0 in let i = r.instants in
      record { effects = omega (arith, x, t); entries = omega (arith, y, t, m); steps = omega (arith, z, t); instants = omega (arith, i, m) }
  counted (Did w c took o to places ∷ P) l =
      let r = counted P l.0 in
      let t = took_more (Did w c took o to places) P in
      let m = moved_more (Did w c took o to places) P in
      let f = dropped (λ (j : TakenJob). j.took == took) (in_hand P) l.1.job l.1.in_hand in
      let a = few_acts P w c took o to places l.1 in
      let b = length-append (acts_of P (Did w c took o to places)) (acts P) in
      let x = r.effects in let y = r.entries in let z = r.steps in let i = r.instants in
      record { effects = omega (arith, x, t, f, a, b); entries = omega (arith, y, t, m, f); steps = omega (arith, z, t); instants = omega (arith, i, m) }
  counted (Moved w t rs ∷ P) l =
      let r = counted P l.0 in
      let k = left_over P (not_of (is_closed S Z P) l.1.not_closed) in
      let u = took_more (Moved w t rs) P in
      let m = moved_more (Moved w t rs) P in
      let x = r.effects in let y = r.entries in let z = r.steps in let i = k.1 in
      record { effects = omega (arith, x, u); entries = omega (arith, y, u, m); steps = omega (arith, z, u); instants = omega (arith, i, m) }

pub acts_are_bounded : ActsAreBounded
acts_are_bounded S Z P l = let r = counted S Z P l in let x = r.effects in let y = r.steps in omega (arith, x, y)

pub records_are_short : RecordsAreShort
records_are_short S Z P l = let r = counted S Z P l in let x = r.entries in let y = r.steps in let z = r.instants in omega (arith, x, y, z)

pub numbers_are_enough : NumbersAreEnough
numbers_are_enough S Z P mine D fits l few =
    let r = counted S Z P l in
    let x = r.effects in
    let y = r.steps in
    let z = fits.steps in
    let a = length-append mine (acts P) in
    let f = instances_are_few S (mine ++ acts P) D in
    let b = f.instances in
    let c = f.channels_few in
    record { instances = omega (arith, x, y, z, a, few, b); channels_few = omega (arith, x, y, z, a, few, c) }
