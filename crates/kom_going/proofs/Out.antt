-- What goes out by an entry, event by event.
use Rattle.std.proofs.Common.{◌≡◌, ℕ, zero, suc, ◌+◌, ◌<◌, ◌≤◌, Bool, true, false, if◌then◌else◌, ◌==◌, refl, sym, ap, ◌∙◌, subst, List, [], ◌∷◌, ◌++◌, length, map, take, get_or, Option, Some, None, arith}
use Rattle.std.specs.Prelude.{nat_le, nat_lt, slice_get}
use Rattle.std.specs.List.{enumerate_from}
use Rattle.std.specs.Option.{option_and_then, option_map}
use Rattle.std.proofs.lemmas.Bool.{eqb-true, leb-true, ltb-true}
use Rattle.kom_base.specs.declared.values.Event.{Event}
use Rattle.kom_events.specs.Kin.{attributes}
use Rattle.kom_lang.specs.Declarations.{Declarations}
use Rattle.kom_lang.specs.declared.kind.PortDecl.{PortDecl}
use Rattle.kom_system.specs.WellFormed.{IsDeclared}
use Rattle.kom_record.specs.declared.plan.Plan.{Plan}
use Rattle.kom_record.specs.declared.entry.Entry.{Entry}
use Rattle.kom_record.specs.declared.entry.Entry.TheVariants.{Did}
use Rattle.kom_record.specs.declared.entry.Outcome.{Outcome}
use Rattle.kom_record.specs.Entries.{History, before, entry_at}
use Rattle.kom_record.specs.Offers.{Offer, offer_at, offers}
use Rattle.kom_record.specs.Plans.{is_of_its_type}
use Rattle.kom_record.specs.Queues.{enters}
use Rattle.kom_record.specs.Time.{Outgoing, clock, outgoing, outgoing_by, outgoing_of, outward, root_ports}
use Rattle.kom_record.proofs.Positions.{equal_self}
use Rattle.kom_laws.proofs.DumpsAlone.{in_contains}
use Rattle.kom_laws.proofs.ListFacts.{in_flat, numbered}
use Rattle.kom_laws.proofs.Members.{IsIn, Some-injective, here, there}
use Rattle.kom_laws.proofs.Unaffected.{and_both}
use Rattle.kom_times.proofs.Outward.{made_from}
use Rattle.kom_typed.specs.Laws.{OutgoingAreTyped}
use Rattle.std.proofs.Math.Logic.{∥∥₁_elim}
use Rattle.std.proofs.Math.Bool.{Bool-set}
use Rattle.std.proofs.lemmas.Bool.{le-leb}
use Rattle.std.proofs.lemmas.List.{length-map, take_all}
use Rattle.kom_record.specs.Legal.{IsLegal}
use Rattle.kom_env.specs.Outside.{Outside, absorbed, is_later}
use Rattle.kom_times.specs.Following.{Follows, FollowsWith, IsButForRoom}
use Rattle.kom_times.specs.Laws.{FollowsADid, GoOutInOrder, ReleasesAreFew}
use Rattle.kom_going.specs.Going.{AreToGo}
use Rattle.kom_entering.specs.declared.lists.Going.{Going}
use Rattle.kom_entering.specs.Lists.{going_of}

-- the list by a place in it
pub record IsAt (os : List Outgoing) (k : ℕ) (q : Going) : Type 0 where
  pub o : Outgoing
  pub rest : List Outgoing
  pub going : q ≡ going_of o
  pub whole : os ≡ take k os ++ o ∷ rest
  pub more : take (k + 1) os ≡ take k os ++ o ∷ []
  pub among : IsIn o os

is_at : (os : List Outgoing) (k : ℕ) (q : Going) → k < length os → q ≡ get_or (map going_of os) k q → IsAt os k q
is_at [] k q l e = absurd (omega (arith, l))
is_at (o ∷ os) zero q l e = record { o = o; rest = os; going = e; whole = refl; more = refl; among = here }
is_at (o ∷ os) (suc k) q l e =
    let r = is_at os k q (omega (arith, l)) e in
    record {
      o = r.o;
      rest = r.rest;
      going = r.going;
      whole = ap (λ l. o ∷ l) r.whole;
      more = (let s : suc k + 1 ≡ suc (k + 1) = omega arith in ap (λ n. take n (o ∷ os)) s ∙ ap (λ l. o ∷ l) r.more);
      among = there r.among;
    }

pub going_at : (os : List Outgoing) (qs : List Going) (k : ℕ) (q : Going) → qs ≡ map going_of os → k < length qs → q ≡ get_or qs k q → IsAt os k q
going_at os qs k q e l g = is_at os k q (let a = ap length e in let b = long os in omega (arith, a, b, l)) (g ∙ ap (λ l. get_or l k q) e)
  where
    long : (os : List Outgoing) → length (map going_of os) ≡ length os
    long [] = refl
    long (o ∷ os) = ap suc (long os)

module _ (S : Declarations) (P : History) (e : Entry) where
  newest : (i : ℕ) → offer_at (e ∷ P) (record { position = length P; place = i }) ≡ slice_get (offers P e) i
  unfolding offer_at entry_at before
  newest i = ap (λ b. option_and_then (λ x. slice_get (offers (if b then P else before P (length P)) x) i) (if b then Some e else entry_at P (length P))) (equal_self (length P))

  by_test : (b : Bool) (x : Outgoing) (o : Outgoing) → (if b then Some x else None) ≡ Some o → x ≡ o
  by_test true x o h = Some-injective h
  by_test false x o h = absurd cc

  read_by : (q : ℕ × Offer) (o : Outgoing) → IsIn q (enumerate_from 0 (offers P e)) → IsIn o (outgoing_by S P q) → option_map (λ (f : Offer). f.event) (offer_at (e ∷ P) o.no) ≡ Some o.event
  read_by q o h m =
      let r = made_from (λ (x : ℕ × PortDecl). if enters S P x.0 (outward x.1) q.1 then Some (record { no = record { position = length P; place = q.0 }; chan = x.0; event = q.1.event; at = clock P }) else None) (root_ports S) o m in
      let is : record { no = record { position = length P; place = q.0 }; chan = r.0.0; event = q.1.event; at = clock P } ≡ o = by_test (enters S P r.0.0 (outward r.0.1) q.1) _ o r.2 in
      let n = numbered 0 (offers P e) q h in
      let place : q.0 ≡ n.0 = omega (arith, n.1) in
      let got : slice_get (offers P e) q.0 ≡ Some q.1 = ap (slice_get (offers P e)) place ∙ n.2 in
      subst (λ (z : Outgoing). option_map (λ (f : Offer). f.event) (offer_at (e ∷ P) z.no) ≡ Some z.event) is (ap (option_map (λ (f : Offer). f.event)) (newest q.0 ∙ got))

  -- the event of what goes out is read by its number
  pub outgoing_read : (o : Outgoing) → IsIn o (outgoing_of S P e) → option_map (λ (f : Offer). f.event) (offer_at (e ∷ P) o.no) ≡ Some o.event
  unfolding outgoing_of
  outgoing_read o h = let r = in_flat (outgoing_by S P) (enumerate_from 0 (offers P e)) o h in read_by r.0 o r.1 r.2

in_more : {X : Type 0} (x : X) (xs ys : List X) → IsIn x ys → IsIn x (xs ++ ys)
in_more x [] ys h = h
in_more x (y ∷ xs) ys h = there (in_more x xs ys h)

-- an event of its type has at most eight values
pub few_values : (S : Declarations) (event : Event) → IsDeclared S → is_of_its_type S event ≡ true → length event.values ≤ 8
few_values S event d h =
    let p = and_both (nat_lt event.kind (length S.events)) (length event.values == attributes S.events event.kind) h in
    let below = ltb-true event.kind (length S.events) p.0 in
    let same = eqb-true (length event.values) (attributes S.events event.kind) p.1 in
    let f = and_both _ _ (d.events event.kind below) in
    let few = leb-true (attributes S.events event.kind) 8 (and_both _ _ f.1).1 in
    omega (arith, same, few)

pub typed_out : (S : Declarations) (P : History) (w c took : ℕ) (o : Outcome) (to : Option ℕ) (places : List ℕ) (q : Outgoing) → IsIn q (outgoing_of S P (Did w c took o to places)) → IsIn q (outgoing S (Did w c took o to places ∷ P))
unfolding outgoing
typed_out S P w c took o to places q h = in_more q (outgoing S P) (outgoing_of S P (Did w c took o to places)) h

-- ---- what the environment asks for

pub said : {A : Type 0} (b : Bool) → ∥ A ∥₁ → (A → b ≡ true) → b ≡ true
said b s f = ∥∥₁_elim s (Bool-set b true) f

pub at_most : {A : Type 0} (m n : ℕ) → ∥ A ∥₁ → (A → m ≤ n) → m ≤ n
at_most m n s f = leb-true m n (said (nat_le m n) s (λ x. le-leb m n (f x)))

module _ (S : Declarations) (Z : Plan) (R : History) (goings : List Going) (u : Outside) (t : AreToGo S Z R goings u) where
  abbrev pub the_did : Entry
  the_did = Did t.w t.c t.took t.outcome t.to t.places

  abbrev pub outs : List Outgoing
  outs = outgoing_of S t.earlier the_did

  pub at_place : (k : ℕ) (q : Going) → k < length goings → q ≡ get_or goings k q → IsAt outs k q
  at_place k q l e = going_at outs goings k q t.goings_are l e

  same_number : (k : ℕ) (q : Going) → (a : IsAt outs k q) → q.no ≡ a.o.no
  same_number k q a = ap (λ (z : Going). z.no) a.going

  earlier_legal : IsLegal S Z t.earlier
  unfolding IsLegal
  earlier_legal = (subst (λ P. IsLegal S Z P) t.record_is t.legal).0

  pub is_next : GoOutInOrder → (k : ℕ) (q : Going) (v : Outside) → IsAt outs k q → FollowsWith S Z t.earlier (take k outs) v → is_later v.latest q.no ≡ true
  is_next law k q v a f = ap (is_later v.latest) (same_number k q a) ∙ law S Z t.earlier the_did (take k outs) a.rest a.o v a.whole f

  pub still_few : ReleasesAreFew → (k : ℕ) (v : Outside) → FollowsWith S Z t.earlier (take k outs) v → v.releases ≤ 100000
  still_few law k v f = law S Z t.earlier (take k outs) v t.fits earlier_legal f

  pub event_is : (k : ℕ) (q : Going) → (a : IsAt outs k q) → option_map (λ (f : Offer). f.event) (offer_at R q.no) ≡ Some a.o.event
  event_is k q a = (λ i. option_map (λ (f : Offer). f.event) (offer_at (t.record_is i) (same_number k q a i))) ∙ outgoing_read S t.earlier the_did a.o a.among

  pub small : OutgoingAreTyped → (k : ℕ) (q : Going) (event : Event) → IsAt outs k q → Some event ≡ option_map (λ (f : Offer). f.event) (offer_at R q.no) → length event.values ≤ 8
  small law k q event a e =
      let same : event ≡ a.o.event = Some-injective (e ∙ event_is k q a) in
      let legal = subst (λ P. IsLegal S Z P) t.record_is t.legal in
      let typed = law S Z (the_did ∷ t.earlier) a.o t.declared t.fits legal (in_contains a.o (outgoing S (the_did ∷ t.earlier)) (typed_out S t.earlier t.w t.c t.took t.outcome t.to t.places a.o a.among)) in
      let few = few_values S a.o.event t.declared typed in
      let long = ap (λ (z : Event). length z.values) same in
      omega (arith, few, long)

  pub goes_on : FollowsADid → (k : ℕ) (q : Going) (event : Event) (v n : Outside) → IsAt outs k q → Some event ≡ option_map (λ (f : Offer). f.event) (offer_at R q.no)
      → FollowsWith S Z t.earlier (take k outs) v → IsButForRoom (absorbed v q.chan q.no event) n → FollowsWith S Z t.earlier (take (k + 1) outs) n
  goes_on law k q event v n a e f g =
      let same : event ≡ a.o.event = Some-injective (e ∙ event_is k q a) in
      let got : IsButForRoom (absorbed v a.o.chan a.o.no a.o.event) n =
      subst (λ (z : Going). IsButForRoom (absorbed v z.chan z.no a.o.event) n) a.going (subst (λ (z : Event). IsButForRoom (absorbed v q.chan q.no z) n) same g)
      in
      subst (λ os. FollowsWith S Z t.earlier os n) (sym a.more) ((law S Z t.earlier).1 (take k outs) a.o v n f got)

  pub all_out : FollowsADid → (k : ℕ) (v : Outside) → length goings ≤ k → FollowsWith S Z t.earlier (take k outs) v → Follows S Z R v
  all_out law k v l f =
      let long = ap length t.goings_are in
      let same = length-map outs going_of in
      subst (λ P. Follows S Z P v) (sym t.record_is)
      ((law S Z t.earlier).2 t.w t.c t.took t.outcome t.to t.places v (subst (λ os. FollowsWith S Z t.earlier os v) (take_all k outs (omega (arith, l, long, same))) f))

  pub none_out : FollowsADid → FollowsWith S Z t.earlier [] u
  none_out law = (law S Z t.earlier).0 u t.follows
