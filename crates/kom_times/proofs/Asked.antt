-- What the calls of the environment ask for: numbers that rise, and few releases.
use Rattle.std.proofs.Common.{◌≡◌, ℕ, suc, ◌+◌, ◌<◌, ◌≤◌, Bool, true, false, cond, not, ◌||◌, refl, ap, ◌∙◌, subst, List, [], ◌∷◌, ◌++◌, length, Option, Some, None, if◌then◌else◌, ◌⊎◌, inl, inr, arith}
use Rattle.std.specs.Prelude.{nat_le, ◌==◌}
use Rattle.std.specs.List.{count_by}
use Rattle.std.proofs.lemmas.Bool.{leb-false}
use Rattle.std.proofs.lemmas.List.Sums.{sum_by-cons}
use Rattle.kom_base.specs.declared.numbers.EntryNo.{EntryNo}
use Rattle.kom_lang.specs.Declarations.{Declarations}
use Rattle.kom_record.specs.Model.{model}
use Rattle.kom_record.specs.declared.plan.Plan.{Plan}
use Rattle.kom_record.specs.declared.entry.Entry.{Entry}
use Rattle.kom_record.specs.declared.entry.Entry.TheVariants.{Took, Did, Moved}
use Rattle.kom_record.specs.Entries.{History}
use Rattle.kom_record.specs.Legal.{IsLegal}
use Rattle.kom_record.specs.Plans.{PlanFits}
use Rattle.kom_record.specs.Ready.{has_unhandled, is_moved, is_took}
use Rattle.kom_record.specs.Time.{Outgoing, Scheduled, outgoing_of}
use Rattle.kom_laws.proofs.Members.{Some-injective}
use Rattle.kom_env.specs.declared.service.Service.{Service}
use Rattle.kom_env.specs.declared.service.Service.TheVariants.{Timer, Network, Nothing}
use Rattle.kom_env.specs.Outside.{Outside, absorbed, clock_of, is_later, serve, service_at}
use Rattle.kom_times.specs.Following.{come_to, with_all}
use Rattle.kom_times.proofs.Outward.{Rise, outgoing_rises}
use Rattle.kom_times.proofs.Moving.{before_is}

-- an event that is absorbed is no release
waits_alone : (a b : Bool) (v : Outside) (one two : List Scheduled) → (if a then record v { waits = one } else if b then record v { waits = two } else v).releases ≡ v.releases
waits_alone true b v one two = refl
waits_alone false true v one two = refl
waits_alone false false v one two = refl

serve_releases : (s : Service) (v : Outside) (o : Outgoing) → (serve s v o).releases ≡ v.releases
serve_releases Timer v o = waits_alone (o.event.kind == 0) (o.event.kind == 1) v _ _
serve_releases Network v o = refl
serve_releases Nothing v o = refl

all_releases : (v : Outside) (os : List Outgoing) → (with_all v os).releases ≡ v.releases
all_releases v [] = refl
all_releases v (o ∷ os) = all_releases (absorbed v o.chan o.no o.event) os ∙ serve_releases (service_at v o.chan) v (record { no = o.no; chan = o.chan; event = o.event; at = clock_of v })

not_last : (a b : Bool) → (not (a || b)) ≡ true → b ≡ false
not_last true b e = absurd cc
not_last false true e = absurd cc
not_last false false e = refl

module _ (S : Declarations) (Z : Plan) where
  -- ---- releases

  few_moved : (P : History) → IsLegal S Z P → count_by is_moved P ≤ Z.instants
  unfolding model
  few_moved [] l = omega arith
  few_moved (Took w c item ∷ P) l = let a : count_by is_moved (Took w c item ∷ P) ≡ 0 + count_by is_moved P = sum_by-cons (λ x. cond (is_moved x) 1 0) (Took w c item) P in let r = few_moved P l.0 in omega (arith, a, r)
  few_moved (Did w c took o to places ∷ P) l = let a : count_by is_moved (Did w c took o to places ∷ P) ≡ 0 + count_by is_moved P = sum_by-cons (λ x. cond (is_moved x) 1 0) (Did w c took o to places) P in let r = few_moved P l.0 in omega (arith, a, r)
  few_moved (Moved w t rs ∷ P) l =
      let a : count_by is_moved (Moved w t rs ∷ P) ≡ 1 + count_by is_moved P = sum_by-cons (λ x. cond (is_moved x) 1 0) (Moved w t rs) P in
      let b = leb-false Z.instants (count_by is_moved P) (not_last (has_unhandled S P || nat_le Z.steps (count_by is_took P)) (nat_le Z.instants (count_by is_moved P)) l.1.not_closed) in
      omega (arith, a, b)

  releases_by : (P : History) → (come_to S Z P).releases ≤ count_by is_moved P
  unfolding model come_to
  releases_by [] = omega arith
  releases_by (Took w c item ∷ P) = let a : count_by is_moved (Took w c item ∷ P) ≡ 0 + count_by is_moved P = sum_by-cons (λ x. cond (is_moved x) 1 0) (Took w c item) P in let r = releases_by P in omega (arith, a, r)
  releases_by (Did w c took o to places ∷ P) =
      let a : count_by is_moved (Did w c took o to places ∷ P) ≡ 0 + count_by is_moved P = sum_by-cons (λ x. cond (is_moved x) 1 0) (Did w c took o to places) P in
      let r = releases_by P in
      let e = all_releases (come_to S Z P) (outgoing_of S P (Did w c took o to places)) in
      omega (arith, a, r, e)
  releases_by (Moved w t rs ∷ P) =
      let a : count_by is_moved (Moved w t rs ∷ P) ≡ 1 + count_by is_moved P = sum_by-cons (λ x. cond (is_moved x) 1 0) (Moved w t rs) P in
      let r = releases_by P in
      omega (arith, a, r)

  pub few : (P : History) (gone : List Outgoing) (v : Outside) → PlanFits S Z → IsLegal S Z P → v ≡ record (with_all (come_to S Z P) gone) { spare = v.spare } → v.releases ≤ 100000
  few P gone v f l h =
      let a : v.releases ≡ (with_all (come_to S Z P) gone).releases = ap (λ z. z.releases) h in
      let b = all_releases (come_to S Z P) gone in
      let c = releases_by P in
      let d = few_moved P l in
      let e = f.instants in
      omega (arith, a, b, c, d, e)

  -- ---- numbers

  -- the latest number is that of an earlier entry, or of this one in a lesser place
  abbrev IsBefore : History → ℕ → Option EntryNo → Type 0
  IsBefore P n None = Unit {0}
  IsBefore P n (Some m) = (m.position < length P) ⊎ ((m.position ≡ length P) × (m.place < n))

  later_one : (P : History) (n : ℕ) (latest : Option EntryNo) (o : EntryNo) → IsBefore P n latest → o.position ≡ length P → n ≤ o.place → is_later latest o ≡ true
  later_one P n None o h e k = refl
  later_one P n (Some m) o h e k = before_is S Z P n m o h e k

  in_order : (P : History) (n : ℕ) (gone rest : List Outgoing) (o : Outgoing) (v : Outside) → IsBefore P n v.latest → Rise S P n (gone ++ o ∷ rest) → is_later (with_all v gone).latest o.no ≡ true
  in_order P n [] rest o v h r = later_one P n v.latest o.no h r.0.position r.1
  in_order P n (g ∷ gone) rest o v h r = in_order P (g.no.place + 1) gone rest o (absorbed v g.chan g.no g.event) (inr (r.0.position, omega arith)) r.2

  all_before : (P : History) (n : ℕ) (os : List Outgoing) (v : Outside) (m : EntryNo) → IsBefore P n v.latest → Rise S P n os → (with_all v os).latest ≡ Some m → m.position < suc (length P)
  all_before P n [] v m h r e = go v.latest h e
    where
      go : (l : Option EntryNo) → IsBefore P n l → l ≡ Some m → m.position < suc (length P)
      go None h e = absurd cc
      go (Some k) (inl h) e = let f : k.position ≡ m.position = ap (λ z. z.position) (Some-injective e) in omega (arith, f, h)
      go (Some k) (inr h) e = let f : k.position ≡ m.position = ap (λ z. z.position) (Some-injective e) in let a = h.0 in omega (arith, f, a)
  all_before P n (o ∷ os) v m h r e = all_before P (o.no.place + 1) os (absorbed v o.chan o.no o.event) m (inr (r.0.position, omega arith)) r.2 e

  below_next : (P : History) (latest : Option EntryNo) (n k : ℕ) → ((m : EntryNo) → latest ≡ Some m → m.position < k) → k ≤ length P → IsBefore P n latest
  below_next P None n k h e = tt
  below_next P (Some m) n k h e = inl (let a = h m refl in omega (arith, a, e))

  latest_below : (P : History) (m : EntryNo) → (come_to S Z P).latest ≡ Some m → m.position < length P
  unfolding model come_to
  latest_below [] m e = absurd cc
  latest_below (Took w c item ∷ P) m e = let r = latest_below P m e in omega (arith, r)
  latest_below (Did w c took o to places ∷ P) m e =
      all_before P 0 (outgoing_of S P (Did w c took o to places)) (come_to S Z P) m (below_next P (come_to S Z P).latest 0 (length P) (latest_below P) (omega arith)) (outgoing_rises S P (Did w c took o to places)) e
  latest_below (Moved w t rs ∷ P) m e = let r = latest_below P m e in omega (arith, r)

  pub later : (P : History) (e : Entry) (gone rest : List Outgoing) (o : Outgoing) (v : Outside) → outgoing_of S P e ≡ gone ++ o ∷ rest → v ≡ record (with_all (come_to S Z P) gone) { spare = v.spare } → is_later v.latest o.no ≡ true
  later P e gone rest o v q h =
      ap (λ z. is_later z.latest o.no) h
      ∙ in_order P 0 gone rest o (come_to S Z P) (below_next P (come_to S Z P).latest 0 (length P) (latest_below P) (omega arith)) (subst (Rise S P 0) q (outgoing_rises S P e))
