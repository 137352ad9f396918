-- Which channels an offer enters.
use Rattle.std.proofs.Common.{◌≡◌, ℕ, zero, suc, ◌+◌, ◌<◌, Bool, true, false, if◌then◌else◌, ◌&&◌, ◌||◌, ◌==◌, refl, sym, ap, ◌∙◌, subst, List, [], ◌∷◌, ◌++◌, length, map, Option, Some, None, arith}
use Rattle.std.specs.Prelude.{slice_get}
use Rattle.std.specs.List.{enumerate_from, flat_map, list_any}
use Rattle.std.specs.Option.{option_map_or}
use Rattle.std.proofs.lemmas.Bool.{eqb-true}
use Rattle.std.proofs.lemmas.Option.{slice_get_within}
use Rattle.kom_base.specs.declared.numbers.Dir.{Dir}
use Rattle.kom_base.specs.declared.numbers.Dir.TheVariants.{Plus, Minus}
use Rattle.kom_base.specs.declared.numbers.EntryNo.{EntryNo}
use Rattle.kom_base.specs.declared.numbers.Half.{Half}
use Rattle.kom_base.specs.declared.numbers.Side.{Side}
use Rattle.kom_base.specs.declared.values.Event.{Event}
use Rattle.kom_base.specs.Numbers.{opposite, same_dir, same_half}
use Rattle.kom_events.specs.Selectors.{matches}
use Rattle.kom_lang.specs.Declarations.{Declarations, kind_of}
use Rattle.kom_lang.specs.declared.kind.PortDecl.{PortDecl}
use Rattle.kom_record.specs.declared.item.Back.{Back}
use Rattle.kom_record.specs.declared.item.Back.TheVariants.{Plain, To, Home}
use Rattle.kom_record.specs.declared.item.Item.TheVariants.{Arrival}
use Rattle.kom_record.specs.Entries.{History, Act, acts, item_at}
use Rattle.kom_record.specs.Instances.{born}
use Rattle.kom_record.specs.Channels.{Channel, Environment, channel_alive, channel_selector, channels, channels_of, comes_in, held, is_living, place, selector, source}
use Rattle.kom_record.specs.Offers.{AtHalf, FromOutside, Offer}
use Rattle.kom_record.specs.Queues.{came_against, enters, fits, fits_by, reaches_a_channel, starts_at}
use Rattle.kom_laws.proofs.Members.{IsIn, here, there}
use Rattle.kom_laws.proofs.ListFacts.{got_at, in_numbered}
use Rattle.kom_laws.proofs.Unaffected.{and_both}
use Rattle.kom_refine.specs.Points.{StandsAt, start_of}
use Rattle.kom_refine.specs.States.{Link, State, end_of}
use Rattle.kom_offered.specs.Laws.{EntersByState, GoesOneWay, begins_at}

true_is_false : (b : Bool) → b ≡ true → b ≡ false → ⊥
true_is_false b e f = let g : true ≡ false = sym e ∙ f in cc

module _ (S : Declarations) where
  -- ---- by the state

  link_end : (done : List Act) (x : ℕ) (d : Dir) → end_of (record { plus = place S done x Plus; minus = place S done x Minus; held = held S done x }) d ≡ place S done x d
  link_end done x Plus = refl
  link_end done x Minus = refl

  begins_by : (b l : Bool) (h : Half) (d : Dir) (k : Link) (p : Option Half) → end_of k d ≡ p → (option_map_or (same_half h) p false && l && b) ≡ (begins_at h d (if l then Some k else None) && b)
  begins_by b true h d k p e = ap (λ t. t && b) (and_true (option_map_or (same_half h) p false) ∙ ap (λ o. option_map_or (same_half h) o false) (sym e))
    where
      and_true : (a : Bool) → (a && true) ≡ a
      and_true true = refl
      and_true false = refl
  begins_by b false h d k p e = ap (λ t. t && b) (and_false (option_map_or (same_half h) p false))
    where
      and_false : (a : Bool) → (a && false) ≡ false
      and_false true = refl
      and_false false = refl

  enters_by : (P : History) (m : State) (x : ℕ) (d : Dir) (h : Half) (event : Event) (back : Back) → StandsAt S (start_of P) m
      → enters S P x d (record { origin = AtHalf h; event = event; back = back }) ≡ (begins_at h d (m.links x) && fits_by S P x d event back)
  unfolding enters starts_at source fits
  enters_by P m x d h event back s =
      begins_by (fits_by S P x d event back) (is_living S (acts P) x) h d (record { plus = place S (acts P) x Plus; minus = place S (acts P) x Minus; held = held S (acts P) x }) (place S (acts P) x d) (link_end (acts P) x d)
      ∙ ap (λ l. begins_at h d l && fits_by S P x d event back) (sym (s.links x))

  and_off : (a : Bool) → (a && false) ≡ false
  and_off true = refl
  and_off false = refl

  pub by_state : (P : History) (m : State) (x : ℕ) (d : Dir) (h : Half) (event : Event) → StandsAt S (start_of P) m → EntersByState S P m x d h event
  by_state P m x d h event s = record {
    plain = enters_by P m x d h event Plain s;
    answer = λ n. enters_by P m x d h event (To n) s;
    home = enters_by P m x d h event Home s ∙ and_off (begins_at h d (m.links x));
  }

  -- ---- releases

  environment_at : (n : ℕ) (ps : List PortDecl) (more : List Channel) (i : ℕ) → i < length ps → slice_get (map (λ q. Environment q.0) (enumerate_from n ps) ++ more) i ≡ Some (Environment (n + i))
  environment_at n [] more i h = absurd (omega (arith, h))
  environment_at n (q ∷ ps) more zero h = ap (λ m. Some (Environment m)) (let f : n ≡ n + 0 = omega arith in f)
  environment_at n (q ∷ ps) more (suc i) h = environment_at (n + 1) ps more i (omega (arith, h)) ∙ ap (λ m. Some (Environment m)) (let f : (n + 1) + i ≡ n + suc i = omega arith in f)

  is_environment : (done : List Act) (x : ℕ) → x < length (kind_of S S.root.kind).ports → slice_get (channels S done) x ≡ Some (Environment (0 + x))
  unfolding channels
  is_environment done x h = environment_at 0 (kind_of S S.root.kind).ports (flat_map (channels_of S) (enumerate_from 0 (born S done))) x h

  environment_lives : (done : List Act) (x : ℕ) → x < length (kind_of S S.root.kind).ports → is_living S done x ≡ true
  unfolding is_living
  environment_lives done x h = ap (λ o. option_map_or (channel_alive S done) o false) (is_environment done x h)

  environment_takes : (done : List Act) (x : ℕ) (d : Dir) (event : Event) → x < length (kind_of S S.root.kind).ports → matches S.events (selector S done x d) event ≡ true
  unfolding selector
  environment_takes done x d event h = ap (λ o. matches S.events (option_map_or (channel_selector S done d) o []) event) (is_environment done x h)

  pub releases_enter : (P : History) (x y : ℕ) (d : Dir) (event : Event) → y < length (kind_of S S.root.kind).ports → enters S P x d (record { origin = FromOutside y; event = event; back = Plain }) ≡ (y == x && comes_in S x d)
  unfolding enters starts_at fits
  releases_enter P x y d event h = go (y == x) refl
    where
      and_true : (a : Bool) → (a && true) ≡ a
      and_true true = refl
      and_true false = refl

      go : (b : Bool) → (y == x) ≡ b → ((y == x && comes_in S x d) && is_living S (acts P) x && matches S.events (selector S (acts P) x d) event) ≡ (y == x && comes_in S x d)
      go true e =
          let same = eqb-true y x e in
          let l = subst (λ z. z < length (kind_of S S.root.kind).ports) same h in
          ap (λ t. (y == x && comes_in S x d) && t && matches S.events (selector S (acts P) x d) event) (environment_lives (acts P) x l)
          ∙ ap (λ t. (y == x && comes_in S x d) && true && t) (environment_takes (acts P) x d event l)
          ∙ and_true ((y == x && comes_in S x d) && true) ∙ and_true (y == x && comes_in S x d)
      go false e =
          ap (λ t. (t && comes_in S x d) && is_living S (acts P) x && matches S.events (selector S (acts P) x d) event) e ∙ sym (ap (λ t. t && comes_in S x d) e)

  -- ---- answers

  either_false : (a b : Bool) → a ≡ false → b ≡ false → (a || b) ≡ false
  either_false true b e f = absurd cc
  either_false false b e f = f

  none_any : {X : Type 0} (f : X → Bool) (xs : List X) → ((x : X) → f x ≡ false) → list_any f xs ≡ false
  none_any f [] h = refl
  none_any f (x ∷ xs) h = ap (λ b. b || list_any f xs) (h x) ∙ none_any f xs h

  or_true : (b : Bool) → (b || true) ≡ true
  or_true true = refl
  or_true false = refl

  in_any : {X : Type 0} (f : X → Bool) (xs : List X) (x : X) → IsIn x xs → f x ≡ true → list_any f xs ≡ true
  in_any f [] x h e = elim h [ ]
  in_any f (x ∷ xs) x' here e = ap (λ b. b || list_any f xs) e
  in_any f (y ∷ xs) x (there h) e = ap (λ b. f y || b) (in_any f xs x h e) ∙ or_true (f y)

  answer_fits : (P : History) (x : ℕ) (d : Dir) (o : Offer) (s : ℕ) → o.back ≡ To s → fits S P x d o ≡ option_map_or (came_against S x d) (item_at P s) false
  unfolding fits
  answer_fits P x d o s e = ap (fits_by S P x d o.event) e

  not_fitting : (P : History) (x : ℕ) (d : Dir) (o : Offer) → fits S P x d o ≡ false → enters S P x d o ≡ false
  unfolding enters
  not_fitting P x d o e = ap (λ t. starts_at S P x d o.origin && is_living S (acts P) x && t) e ∙ and_off (starts_at S P x d o.origin && is_living S (acts P) x)

  none_fits : (P : History) (o : Offer) → ((x : ℕ) (d : Dir) → fits S P x d o ≡ false) → reaches_a_channel S P o ≡ false
  unfolding reaches_a_channel
  none_fits P o h =
      none_any (λ x. enters S P x.0 Plus o || enters S P x.0 Minus o) (enumerate_from 0 (channels S (acts P)))
      (λ x. either_false _ _ (not_fitting P x.0 Plus o (h x.0 Plus)) (not_fitting P x.0 Minus o (h x.0 Minus)))

  back_again : (d : Dir) → opposite (opposite d) ≡ d
  back_again Plus = refl
  back_again Minus = refl

  dir_true : (e d : Dir) → same_dir e d ≡ true → e ≡ d
  dir_true Plus Plus h = refl
  dir_true Plus Minus h = absurd cc
  dir_true Minus Plus h = absurd cc
  dir_true Minus Minus h = refl

  -- a channel that an answer enters is the one by which the event came
  way_back : (y : ℕ) (f : Dir) (n : EntryNo) (port : ℕ) (side : Side) (event : Event) (back : Back) (x : ℕ) (d : Dir) → came_against S x d (Arrival y f n port side event back) ≡ true → (y ≡ x) × (opposite f ≡ d)
  way_back y f n port side event back x d e =
      let a = and_both _ _ e in
      (eqb-true y x a.0, ap opposite (dir_true f (opposite d) a.1) ∙ back_again d)

  parts : (P : History) (x : ℕ) (d : Dir) (o : Offer) → enters S P x d o ≡ true → (is_living S (acts P) x ≡ true) × (fits S P x d o ≡ true)
  unfolding enters
  parts P x d o e = let a = and_both _ _ e in ((and_both _ _ a.0).1, a.1)

  in_range : (done : List Act) (x : ℕ) → is_living S done x ≡ true → x < length (channels S done)
  unfolding is_living
  in_range done x h = go (slice_get (channels S done) x) refl h
    where
      go : (o : Option Channel) → slice_get (channels S done) x ≡ o → option_map_or (channel_alive S done) o false ≡ true → x < length (channels S done)
      go None e k = absurd cc
      go (Some q) e k = slice_get_within (channels S done) x q e

  reaches_by : (P : History) (x : ℕ) (d : Dir) (o : Offer) → enters S P x d o ≡ true → reaches_a_channel S P o ≡ true
  unfolding reaches_a_channel
  reaches_by P x d o e =
      let g = got_at (channels S (acts P)) x (in_range (acts P) x (parts P x d o e).0) in
      let m : IsIn (x, g.0) (enumerate_from 0 (channels S (acts P))) = subst (λ i. IsIn (i, g.0) (enumerate_from 0 (channels S (acts P)))) (let f : 0 + x ≡ x = omega arith in f) (in_numbered 0 (channels S (acts P)) x g.0 g.1) in
      in_any (λ x. enters S P x.0 Plus o || enters S P x.0 Minus o) (enumerate_from 0 (channels S (acts P))) (x, g.0) m (by_dir d e)
    where
      by_dir : (d : Dir) → enters S P x d o ≡ true → (enters S P x Plus o || enters S P x Minus o) ≡ true
      by_dir Plus e = ap (λ b. b || enters S P x Minus o) e
      by_dir Minus e = ap (λ b. enters S P x Plus o || b) e ∙ or_true (enters S P x Plus o)

  only_way : (P : History) (o : Offer) (s y : ℕ) (f : Dir) (n : EntryNo) (port : ℕ) (side : Side) (event : Event) (back : Back) → o.back ≡ To s → item_at P s ≡ Some (Arrival y f n port side event back)
      → enters S P y (opposite f) o ≡ false → (x : ℕ) (d : Dir) → enters S P x d o ≡ false
  only_way P o s y f n port side event back b i e x d = go (enters S P x d o) refl
    where
      go : (t : Bool) → enters S P x d o ≡ t → t ≡ false
      go false q = refl
      go true q =
          let c : came_against S x d (Arrival y f n port side event back) ≡ true = sym (ap (λ z. option_map_or (came_against S x d) z false) i) ∙ sym (answer_fits P x d o s b) ∙ (parts P x d o q).1 in
          let w = way_back y f n port side event back x d c in
          absurd (true_is_false (enters S P x d o) q (subst (λ z. enters S P z d o ≡ false) w.0 (subst (λ z. enters S P y z o ≡ false) w.1 e)))

  pub one_way : (P : History) (o : Offer) (s : ℕ) → o.back ≡ To s → GoesOneWay S P o s
  unfolding reaches_a_channel
  one_way P o s b = record {
    arrival = λ y f n port side event back i. by_test y f n port side event back i (enters S P y (opposite f) o) refl;
    control = λ k i. none_fits P o (λ x d. answer_fits P x d o s b ∙ ap (λ z. option_map_or (came_against S x d) z false) i);
    nothing = λ i. none_fits P o (λ x d. answer_fits P x d o s b ∙ ap (λ z. option_map_or (came_against S x d) z false) i);
  }
    where
      by_test : (y : ℕ) (f : Dir) (n : EntryNo) (port : ℕ) (side : Side) (event : Event) (back : Back) → item_at P s ≡ Some (Arrival y f n port side event back) → (t : Bool) → enters S P y (opposite f) o ≡ t
          → reaches_a_channel S P o ≡ t
      by_test y f n port side event back i true e = reaches_by P y (opposite f) o e
      by_test y f n port side event back i false e =
          none_any (λ x. enters S P x.0 Plus o || enters S P x.0 Minus o) (enumerate_from 0 (channels S (acts P)))
          (λ x. either_false _ _ (only_way P o s y f n port side event back b i e x.0 Plus) (only_way P o s y f n port side event back b i e x.0 Minus))

  pub home : (P : History) (o : Offer) → o.back ≡ Home → reaches_a_channel S P o ≡ false
  unfolding fits
  home P o e = none_fits P o (λ x d. ap (fits_by S P x d o.event) e)
