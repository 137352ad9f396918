-- What comes in by an entry comes into directions that are there.
use Rattle.std.proofs.Common.{◌≡◌, ℕ, ◌≤◌, Bool, true, false, if◌then◌else◌, ◌&&◌, ◌==◌, refl, sym, ap, ◌∙◌, List, [], ◌∷◌, length, map, Option, Some, None, arith, eq-eqb}
use Rattle.std.specs.Prelude.{is_some}
use Rattle.std.specs.List.{cons_option, enumerate_from, filter_map}
use Rattle.std.specs.Option.{option_and_then, option_map}
use Rattle.std.proofs.lemmas.List.{length-map}
use Rattle.std.proofs.lemmas.List.FromFn.{length-enumerate_from}
use Rattle.kom_base.specs.declared.numbers.Dir.{Dir}
use Rattle.kom_base.specs.declared.numbers.Dir.TheVariants.{Plus, Minus}
use Rattle.kom_base.specs.declared.numbers.Half.{Half}
use Rattle.kom_base.specs.Numbers.{same_dir}
use Rattle.kom_lang.specs.Declarations.{Declarations}
use Rattle.kom_record.specs.declared.entry.Entry.{Entry}
use Rattle.kom_record.specs.Entries.{History, acts}
use Rattle.kom_record.specs.Instances.{born}
use Rattle.kom_record.specs.Channels.{goes_out, is_living, place, held}
use Rattle.kom_record.specs.Offers.{Offer, offers}
use Rattle.kom_record.specs.Queues.{Envelope, enters, entering, fits, starts_at}
use Rattle.kom_laws.proofs.InstanceLaws.{alive_born}
use Rattle.kom_laws.proofs.ListFacts.{nothing_made}
use Rattle.kom_lives.specs.Laws.{EndsAreAtLiving}
use Rattle.kom_entering.specs.declared.lists.Coming.{Coming}
use Rattle.kom_entering.specs.declared.lists.Entering.{Entering}
use Rattle.kom_entering.specs.Lists.{IsEntering, numbers_into}
use Rattle.kom_entering.specs.Standing.{StandsAfter}
use Rattle.kom_refine.specs.Points.{StandsAt, node_of, start_of}
use Rattle.kom_refine.specs.States.{Link, Queue, State, end_of}
use Rattle.kom_refine.specs.Steps.{HaveCome, SameQueues, with_numbers}
use Rattle.kom_state.specs.Parts.{Parts, state_of}
use Rattle.kom_coming.specs.Directions.{AreThere, AreBelow}

not_none : {X : Type 0} (b : Bool) (n : X) (rest : List X) → b ≡ true → cons_option (if b then Some n else None) rest ≡ [] → ⊥
not_none true n rest h e = cc
not_none false n rest h e = cc

rest_none : {X : Type 0} (o : Option X) (rest : List X) → cons_option o rest ≡ [] → rest ≡ []
rest_none None rest e = e
rest_none (Some x) rest e = absurd cc

own : (y : ℕ) (e : Dir) → (y == y && same_dir e e) ≡ true
own y Plus = ap (λ t. t && true) (eq-eqb y y refl)
own y Minus = ap (λ t. t && true) (eq-eqb y y refl)

all_there : (qs : List Coming) (m : State) → ((x : ℕ) (d : Dir) → is_some (m.queues x d) ≡ false → numbers_into qs x d ≡ []) → AreThere qs m
all_there [] m h = tt
all_there (q ∷ qs) m h = (go (is_some (m.queues q.chan q.dir)) refl, all_there qs m (λ x d e. rest_none _ (numbers_into qs x d) (h x d e)))
  where
    go : (b : Bool) → is_some (m.queues q.chan q.dir) ≡ b → is_some (m.queues q.chan q.dir) ≡ true
    go true e = e
    go false e = absurd (not_none (q.chan == q.chan && same_dir q.dir q.dir) q.no (numbers_into qs q.chan q.dir) (own q.chan q.dir) (h q.chan q.dir e))

module _ (S : Declarations) (P : History) where
  no_link : (g l : Bool) (k : Link) (f : Link → Queue) → is_some (if g then None else option_map f (if l then Some k else None)) ≡ false → g ≡ false → l ≡ false
  no_link true l k f e h = absurd cc
  no_link false true k f e h = absurd cc
  no_link false false k f e h = refl

  and_off : (a b : Bool) → ((a && false) && b) ≡ false
  and_off true b = refl
  and_off false b = refl

  dead_enters : (x : ℕ) (d : Dir) (o : Offer) → is_living S (acts P) x ≡ false → enters S P x d o ≡ false
  unfolding enters
  dead_enters x d o e = ap (λ l. (starts_at S P x d o.origin && l) && fits S P x d o) e ∙ and_off (starts_at S P x d o.origin) (fits S P x d o)

  dead_entering : (e : Entry) (x : ℕ) (d : Dir) → is_living S (acts P) x ≡ false → entering S P e x d ≡ []
  unfolding entering
  dead_entering e x d h =
      nothing_made (λ (q : ℕ × Offer). if enters S P x d q.1 then Some (record { no = record { position = length P; place = q.0 }; event = q.1.event; back = q.1.back }) else None) (enumerate_from 0 (offers P e))
      (λ q m. ap (λ b. if◌then◌else◌ {A = Option Envelope} b (Some (record { no = record { position = length P; place = q.0 }; event = q.1.event; back = q.1.back })) None) (dead_enters x d q.1 h))

  pub comings_there : (e : Entry) (v : Entering) (m put : State) → StandsAt S (start_of P) m → SameQueues m put → IsEntering S P e v → AreThere v.comings put
  comings_there e v m put s same i = all_there v.comings put (λ x d h. go x d (sym (ap is_some (same x d)) ∙ h) (goes_out S x d) refl)
    where
      go : (x : ℕ) (d : Dir) → is_some (m.queues x d) ≡ false → (b : Bool) → goes_out S x d ≡ b → numbers_into v.comings x d ≡ []
      go x d h true g = i.none_out x d g
      go x d h false g =
          i.comings x d g ∙ ap (map (λ (q : Envelope). q.no)) (dead_entering e x d (no_link (goes_out S x d) (is_living S (acts P) x) _ _ (sym (ap is_some (s.queues x d)) ∙ h) g))

  no_queue : (b : Bool) (q : Option Queue) → b ≡ true → (if b then None else q) ≡ None
  no_queue true q e = refl
  no_queue false q e = absurd cc

  -- where a direction leads out there is no queue
  pub all_entered : (e : Entry) (v : Entering) (m put n : State) → StandsAt S (start_of P) m → SameQueues m put → IsEntering S P e v → HaveCome (numbers_into v.comings) put n
      → HaveCome (λ x d. map (λ q. q.no) (entering S P e x d)) put n
  all_entered e v m put n s same i step = record {
    tree = step.tree;
    links = step.links;
    queues = λ x d. step.queues x d ∙ go x d (goes_out S x d) refl;
    controls = step.controls;
    bodies = step.bodies;
  }
    where
      go : (x : ℕ) (d : Dir) (b : Bool) → goes_out S x d ≡ b → option_map (with_numbers (numbers_into v.comings x d)) (put.queues x d) ≡ option_map (with_numbers (map (λ (q : Envelope). q.no) (entering S P e x d))) (put.queues x d)
      go x d false g = ap (λ ns. option_map (with_numbers ns) (put.queues x d)) (i.comings x d g)
      go x d true g =
          let none : put.queues x d ≡ None = same x d ∙ s.queues x d ∙ no_queue (goes_out S x d) _ g in
          ap (option_map (with_numbers (numbers_into v.comings x d))) none ∙ sym (ap (option_map (with_numbers (map (λ (q : Envelope). q.no) (entering S P e x d)))) none)

  shorter : {X Y : Type 0} (f : X → Option Y) (xs : List X) → length (filter_map f xs) ≤ length xs
  shorter f [] = omega arith
  shorter f (x ∷ xs) = go (f x) (shorter f xs)
    where
      go : (o : Option _) → length (filter_map f xs) ≤ length xs → length (cons_option o (filter_map f xs)) ≤ length (x ∷ xs)
      go None h = omega (arith, h)
      go (Some y) h = omega (arith, h)

  entering_short : (e : Entry) (x : ℕ) (d : Dir) → length (entering S P e x d) ≤ length (offers P e)
  unfolding entering
  entering_short e x d =
      let a = shorter {Y = Envelope} (λ (q : ℕ × Offer). if enters S P x d q.1 then Some (record { no = record { position = length P; place = q.0 }; event = q.1.event; back = q.1.back }) else None) (enumerate_from 0 (offers P e)) in
      let b = length-enumerate_from 0 (offers P e) in
      omega (arith, a, b)

  pub comings_few : (e : Entry) (v : Entering) (x : ℕ) (d : Dir) → IsEntering S P e v → length (numbers_into v.comings x d) ≤ v.offers
  comings_few e v x d i = go (goes_out S x d) refl
    where
      go : (b : Bool) → goes_out S x d ≡ b → length (numbers_into v.comings x d) ≤ v.offers
      go true g = let z = ap length (i.none_out x d g) in omega (arith, z)
      go false g =
          let a = ap length (i.comings x d g) in
          let b = length-map (entering S P e x d) (λ (q : Envelope). q.no) in
          let s = entering_short e x d in
          let k = i.offers in
          omega (arith, a, b, s, k)

  ends_there : (l : Bool) (k : Link) (e : Dir) (h : Half) → option_and_then (λ l. end_of l e) (if l then Some k else None) ≡ Some h → (l ≡ true) × (end_of k e ≡ Some h)
  ends_there true k e h p = (refl, p)
  ends_there false k e h p = absurd cc

  end_is : (x : ℕ) (e : Dir) → end_of (record { plus = place S (acts P) x Plus; minus = place S (acts P) x Minus; held = held S (acts P) x }) e ≡ place S (acts P) x e
  end_is x Plus = refl
  end_is x Minus = refl

  pub made_below : (v : Parts) → EndsAreAtLiving → StandsAfter S P v → AreBelow (length (state_of v).nodes) (state_of v)
  made_below v law s x e h p =
      let t = ends_there (is_living S (acts P) x) _ e h (sym (ap (option_and_then (λ l. end_of l e)) (s.state.links x)) ∙ p) in
      let lives = law S s.plan P x e h s.declared s.legal t.0 (sym (end_is x e) ∙ t.1) in
      let made = alive_born S (acts P) h.comp lives in
      let long = ap length s.state.nodes ∙ length-map (born S (acts P)) node_of in
      omega (arith, made, long)
