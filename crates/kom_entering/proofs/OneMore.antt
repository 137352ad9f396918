-- One offer more is noted.
use Rattle.std.proofs.Common.{◌≡◌, ℕ, ◌+◌, Bool, true, false, if◌then◌else◌, not, ◌&&◌, ◌||◌, ◌==◌, refl, sym, ap, ◌∙◌, subst, List, [], ◌∷◌, ◌++◌, length, map, Option, Some, None}
use Rattle.std.specs.Option.{option_and_then, option_map_or}
use Rattle.std.proofs.lemmas.Bool.{eqb-true, eq-eqb}
use Rattle.kom_base.specs.declared.numbers.Dir.{Dir}
use Rattle.kom_base.specs.declared.numbers.Dir.TheVariants.{Plus, Minus}
use Rattle.kom_base.specs.declared.numbers.EntryNo.{EntryNo}
use Rattle.kom_base.specs.declared.numbers.Half.{Half}
use Rattle.kom_base.specs.declared.values.Event.{Event}
use Rattle.kom_base.specs.Lists.{if_so}
use Rattle.kom_base.specs.Numbers.{opposite, same_dir}
use Rattle.kom_lang.specs.Declarations.{Declarations}
use Rattle.kom_record.specs.declared.item.Back.TheVariants.{Plain, To, Home}
use Rattle.kom_record.specs.declared.item.Item.{Item}
use Rattle.kom_record.specs.declared.item.Item.TheVariants.{Control, Arrival}
use Rattle.kom_record.specs.Entries.{History, acts, item_at}
use Rattle.kom_record.specs.Channels.{goes_out, is_living}
use Rattle.kom_record.specs.Offers.{Offer}
use Rattle.kom_record.specs.Queues.{came_against, enters, fits, is_answer, reaches_a_channel, starts_at}
use Rattle.kom_record.specs.Time.{outgoing_by}
use Rattle.kom_handlings.specs.Laws.{BodiesKnowTheirPlace}
use Rattle.kom_laws.proofs.Unaffected.{and_both}
use Rattle.kom_numbers.specs.Numbering.{leads_out}
use Rattle.kom_offered.specs.Laws.{AnswersGoOneWay, GoesOneWay, OffersEnterByState, begins_at}
use Rattle.kom_state.specs.Laws.{ChannelsAreNumbered}
use Rattle.kom_state.specs.Parts.{Parts, state_of}
use Rattle.kom_times.specs.Laws.{GoesOutOnce}
use Rattle.kom_entering.specs.declared.lists.Entering.{Entering}
use Rattle.kom_entering.specs.Lists.{IsOneMore, going_of, next_number, numbers_into, offer_from}
use Rattle.kom_entering.specs.Standing.{StandsAfter}
use Rattle.kom_entering.specs.Ways.{HasGoneBy, HasMissed, HaveBeenNoted, IsNotedAs, IsWayOut, IsWayTaken, comes_into, enters_by, leaves_at, leaves_by, way_against, way_by}
use Rattle.kom_entering.proofs.Noting.{append_none}
use Rattle.kom_entering.proofs.Outward.{goes, stays}
use Rattle.kom_entering.proofs.Plain.{out_is, plain_enters}

and_off : (a : Bool) → (a && false) ≡ false
and_off true = refl
and_off false = refl

-- what goes on to the next offer
abbrev pub counted : Entering → Entering
counted v = record v { offers = v.offers + 1 }

off_noted : (b : Bool) (xs : List EntryNo) (n : EntryNo) → b ≡ false → xs ≡ xs ++ if_so b (n ∷ [])
off_noted b xs n e = sym (ap (λ t. xs ++ if_so t (n ∷ [])) e ∙ append_none xs)

-- an offer that enters nothing
module _ (once : GoesOutOnce) (S : Declarations) (P : History) (o : Offer) (v : Entering) where
  none_more : (new : Entering) → ((x : ℕ) (d : Dir) → enters S P x d o ≡ false) → new.position ≡ v.position → new.offers ≡ v.offers + 1 → new.comings ≡ v.comings → new.goings ≡ v.goings
      → new.unreached ≡ v.unreached ++ if_so (is_answer S o.back && not (reaches_a_channel S P o)) (v.offers ∷ []) → IsOneMore S P o v new
  none_more new h p k c g u = record {
    position = p;
    offers = k;
    comings = λ x d. ap (λ qs. numbers_into qs x d) c ∙ off_noted (enters S P x d o && not (goes_out S x d)) (numbers_into v.comings x d) (next_number v) (ap (λ b. b && not (goes_out S x d)) (h x d));
    goings = g ∙ sym (append_none v.goings) ∙ ap (λ l. v.goings ++ l) (sym (stays S once P o v.offers (λ x d e. h x d)));
    unreached = u;
  }

home_enters : (S : Declarations) (P : History) (x : ℕ) (d : Dir) (h : Half) (event : Event) → enters S P x d (offer_from h event Home) ≡ false
unfolding enters fits
home_enters S P x d h event = and_off (starts_at S P x d (offer_from h event Home).origin && is_living S (acts P) x)

pub home_more : (once : GoesOutOnce) (S : Declarations) (P : History) (h : Half) (event : Event) (v : Entering) → IsOneMore S P (offer_from h event Home) v (counted v)
home_more once S P h event v = none_more once S P (offer_from h event Home) v (counted v) (λ x d. home_enters S P x d h event) refl refl refl refl (sym (append_none v.unreached))

either_false : (a b : Bool) → (a || b) ≡ false → (a ≡ false) × (b ≡ false)
either_false true b e = absurd cc
either_false false b e = (refl, e)

either_true : (a b : Bool) → (a || b) ≡ true → b ≡ false → a ≡ true
either_true true b e f = refl
either_true false true e f = absurd cc
either_true false false e f = absurd cc

module _ (once : GoesOutOnce) (numbered : ChannelsAreNumbered) (know : BodiesKnowTheirPlace) (by_state : OffersEnterByState) (S : Declarations) (P : History) (v : Parts) (s : StandsAfter S P v) where
  -- ---- a plain event

  module _ (h : Half) (event : Event) where
    plain : (x : ℕ) (d : Dir) → enters S P x d (offer_from h event Plain) ≡ enters_by S v h event x d
    plain x d = plain_enters numbered know by_state S P v s x d h event

    out : (x : ℕ) (d : Dir) → goes_out S x d ≡ leads_out v.numbers x d
    out x d = out_is numbered know by_state S P v s x d

    comes_is : (x : ℕ) (d : Dir) → comes_into S v h event x d ≡ (enters S P x d (offer_from h event Plain) && not (goes_out S x d))
    comes_is x d = sym (ap (λ b. b && not (goes_out S x d)) (plain x d) ∙ ap (λ b. enters_by S v h event x d && not b) (out x d))

    by_dir : (x : ℕ) (d : Dir) → leaves_by S v h event x d ≡ true → (goes_out S x d ≡ true) × (enters S P x d (offer_from h event Plain) ≡ true)
    by_dir x d e = let b = and_both (enters_by S v h event x d) (leads_out v.numbers x d) e in (out x d ∙ b.1, plain x d ∙ b.0)

    by_channel : (x n : ℕ) → leaves_at S v h event x ≡ true → (b : Bool) → leaves_by S v h event x Minus ≡ b → map going_of (outgoing_by S P (n, offer_from h event Plain)) ≡ record { chan = x; no = record { position = length P; place = n } } ∷ []
    by_channel x n e true f = let g = by_dir x Minus f in goes S once P (offer_from h event Plain) n x Minus g.0 g.1
    by_channel x n e false f = let g = by_dir x Plus (either_true _ _ e f) in goes S once P (offer_from h event Plain) n x Plus g.0 g.1

    not_leaving : (x : ℕ) (d : Dir) → leaves_at S v h event x ≡ false → leaves_by S v h event x d ≡ false
    not_leaving x Plus e = (either_false _ _ e).0
    not_leaving x Minus e = (either_false _ _ e).1

    not_entering : (a b : Bool) → (a && b) ≡ false → b ≡ true → a ≡ false
    not_entering true b e f = sym f ∙ e
    not_entering false b e f = refl

    pub plain_more : (x : Option ℕ) → IsWayOut S v h event x → (old k new : Entering) → old.position ≡ length P → HaveBeenNoted (comes_into S v h event) old k → HasGoneBy x k new → IsOneMore S P (offer_from h event Plain) old (counted new)
    plain_more None w old k new p m g =
        subst (λ z. IsOneMore S P (offer_from h event Plain) old (counted z)) (sym g)
        (record {
          position = m.position;
          offers = ap (λ n. n + 1) m.offers;
          comings = λ x d. m.comings x d ∙ ap (λ b. numbers_into old.comings x d ++ if_so b (next_number old ∷ [])) (comes_is x d);
          goings = m.goings ∙ sym (append_none old.goings)
              ∙ ap (λ l. old.goings ++ l) (sym (stays S once P (offer_from h event Plain) old.offers (λ x d e. plain x d ∙ not_entering _ _ (not_leaving x d (w x)) (sym (out x d) ∙ e))));
          unreached = m.unreached ∙ sym (append_none old.unreached);
        })
    plain_more (Some x) w old k new p m g =
        subst (λ z. IsOneMore S P (offer_from h event Plain) old (counted z)) (sym g)
        (record {
          position = m.position;
          offers = ap (λ n. n + 1) m.offers;
          comings = λ y d. m.comings y d ∙ ap (λ b. numbers_into old.comings y d ++ if_so b (next_number old ∷ [])) (comes_is y d);
          goings = ap (λ l. l ++ record { chan = x; no = next_number k } ∷ []) m.goings
              ∙ ap (λ l. old.goings ++ l) ((λ i. record { chan = x; no = record { position = (m.position ∙ p) i; place = m.offers i } } ∷ []) ∙ sym (by_channel x old.offers w (leaves_by S v h event x Minus) refl));
          unreached = m.unreached ∙ sym (append_none old.unreached);
        })

  -- ---- an answer

  module _ (one_way : AnswersGoOneWay) (h : Half) (event : Event) (t : ℕ) where
    abbrev it : Offer
    it = offer_from h event (To t)

    by_item : (x : ℕ) (d : Dir) (o : Option Item) → item_at P t ≡ o → enters S P x d it ≡ (begins_at h d ((state_of v).links x) && option_map_or (came_against S x d) o false)
    by_item x d o e = (by_state S P (state_of v) x d h event s.state).answer t ∙ ap (λ o. begins_at h d ((state_of v).links x) && option_map_or (came_against S x d) o false) e

    goes_is : GoesOneWay S P it t
    goes_is = one_way S P it t refl

    missed : (old new : Entering) → ((x : ℕ) (d : Dir) → enters S P x d it ≡ false) → reaches_a_channel S P it ≡ false → HasMissed old new → IsOneMore S P it old (counted new)
    missed old new f r m = subst (λ z. IsOneMore S P it old (counted z)) (sym m)
        (none_more once S P it old (counted (record old { unreached = old.unreached ++ old.offers ∷ [] })) f refl refl refl refl (sym (ap (λ b. old.unreached ++ if_so (not b) (old.offers ∷ [])) r)))

    -- along a channel, against the way on which its item came
    module _ (y : ℕ) (f : Dir) where
      turned : (d : Dir) → same_dir f (opposite d) ≡ same_dir (opposite f) d
      turned d = go f d
        where
          go : (f d : Dir) → same_dir f (opposite d) ≡ same_dir (opposite f) d
          go Plus Plus = refl
          go Plus Minus = refl
          go Minus Plus = refl
          go Minus Minus = refl

      alike : (d e : Dir) → same_dir d e ≡ true → d ≡ e
      alike Plus Plus h = refl
      alike Plus Minus h = absurd cc
      alike Minus Plus h = absurd cc
      alike Minus Minus h = refl

      itself : (d : Dir) → same_dir d d ≡ true
      itself Plus = refl
      itself Minus = refl

      -- it enters that direction alone
      along : (x : ℕ) (d : Dir) (b : Bool) → begins_at h (opposite f) ((state_of v).links y) ≡ b → (begins_at h d ((state_of v).links x) && (y == x && same_dir f (opposite d))) ≡ (b && (y == x && same_dir (opposite f) d))
      along x d b e =
          ap (λ z. begins_at h d ((state_of v).links x) && (y == x && z)) (turned d) ∙ go (y == x && same_dir (opposite f) d) refl
        where
          go : (c : Bool) → (y == x && same_dir (opposite f) d) ≡ c → (begins_at h d ((state_of v).links x) && (y == x && same_dir (opposite f) d)) ≡ (b && (y == x && same_dir (opposite f) d))
          go true q =
              let w = and_both (y == x) (same_dir (opposite f) d) q in
              ap (λ z. z && (y == x && same_dir (opposite f) d))
              (sym (ap (λ z. begins_at h z ((state_of v).links x)) (alike (opposite f) d w.1)) ∙ sym (ap (λ z. begins_at h (opposite f) ((state_of v).links z)) (eqb-true y x w.0)) ∙ e)
          go false q =
              ap (λ z. begins_at h d ((state_of v).links x) && z) q ∙ and_off (begins_at h d ((state_of v).links x))
              ∙ sym (and_off b) ∙ sym (ap (λ z. b && z) q)

      at_itself : (y == y && same_dir (opposite f) (opposite f)) ≡ true
      at_itself = ap (λ b. b && same_dir (opposite f) (opposite f)) (eq-eqb y y refl) ∙ itself (opposite f)

      noted_as : (old new : Entering) (b : Bool) → leads_out v.numbers y (opposite f) ≡ b → old.position ≡ length P → ((x : ℕ) (d : Dir) → enters S P x d it ≡ (y == x && same_dir (opposite f) d)) → reaches_a_channel S P it ≡ true
          → IsNotedAs b y (opposite f) old new → IsOneMore S P it old (counted new)
      noted_as old new true l p ways r g =
          subst (λ z. IsOneMore S P it old (counted z)) (sym g)
          (record {
            position = refl;
            offers = refl;
            comings = λ x d.
                off_noted (enters S P x d it && not (goes_out S x d)) (numbers_into old.comings x d) (next_number old) (ap (λ b. b && not (goes_out S x d)) (ways x d) ∙ not_in x d (y == x && same_dir (opposite f) d) refl);
            goings = ap (λ l. old.goings ++ l) ((λ i. record { chan = y; no = record { position = p i; place = old.offers } } ∷ []) ∙ sym (goes S once P it old.offers y (opposite f) (out h event y (opposite f) ∙ l) (ways y (opposite f) ∙ at_itself)));
            unreached = sym (ap (λ b. old.unreached ++ if_so (not b) (old.offers ∷ [])) r ∙ append_none old.unreached);
          })
        where
          not_in : (x : ℕ) (d : Dir) (c : Bool) → (y == x && same_dir (opposite f) d) ≡ c → ((y == x && same_dir (opposite f) d) && not (goes_out S x d)) ≡ false
          not_in x d false q = ap (λ b. b && not (goes_out S x d)) q
          not_in x d true q =
              let w = and_both (y == x) (same_dir (opposite f) d) q in
              ap (λ b. (y == x && same_dir (opposite f) d) && not b)
              (sym (ap (λ z. goes_out S x z) (alike (opposite f) d w.1)) ∙ sym (ap (λ z. goes_out S z (opposite f)) (eqb-true y x w.0)) ∙ out h event y (opposite f) ∙ l)
              ∙ and_off (y == x && same_dir (opposite f) d)
      noted_as old new false l p ways r g = record {
        position = g.position;
        offers = ap (λ n. n + 1) g.offers;
        comings = λ x d. g.comings x d ∙ ap (λ b. numbers_into old.comings x d ++ if_so b (next_number old ∷ [])) (sym (ap (λ b. b && not (goes_out S x d)) (ways x d) ∙ stays_in x d (y == x && same_dir (opposite f) d) refl));
        goings = g.goings ∙ sym (append_none old.goings) ∙ ap (λ l. old.goings ++ l) (sym (stays S once P it old.offers (λ x d e. ways x d ∙ not_out x d e (y == x && same_dir (opposite f) d) refl)));
        unreached = g.unreached ∙ sym (ap (λ b. old.unreached ++ if_so (not b) (old.offers ∷ [])) r ∙ append_none old.unreached);
      }
        where
          at_way : (x : ℕ) (d : Dir) → (y == x && same_dir (opposite f) d) ≡ true → goes_out S x d ≡ false
          at_way x d q =
              let w = and_both (y == x) (same_dir (opposite f) d) q in
              sym (ap (λ z. goes_out S x z) (alike (opposite f) d w.1)) ∙ sym (ap (λ z. goes_out S z (opposite f)) (eqb-true y x w.0)) ∙ out h event y (opposite f) ∙ l

          stays_in : (x : ℕ) (d : Dir) (c : Bool) → (y == x && same_dir (opposite f) d) ≡ c → ((y == x && same_dir (opposite f) d) && not (goes_out S x d)) ≡ (y == x && same_dir (opposite f) d)
          stays_in x d false q = ap (λ b. b && not (goes_out S x d)) q ∙ sym q
          stays_in x d true q = ap (λ b. (y == x && same_dir (opposite f) d) && not b) (at_way x d q) ∙ ap (λ b. b && true) q ∙ sym q

          not_out : (x : ℕ) (d : Dir) → goes_out S x d ≡ true → (c : Bool) → (y == x && same_dir (opposite f) d) ≡ c → (y == x && same_dir (opposite f) d) ≡ false
          not_out x d e false q = q
          not_out x d e true q = absurd (let g : false ≡ true = sym (at_way x d q) ∙ e in cc)

    way_taken : (o : Option Item) → item_at P t ≡ o → (old new : Entering) → old.position ≡ length P → IsWayTaken v.numbers (option_and_then (way_against v h) o) old new → IsOneMore S P it old (counted new)
    way_taken None e old new p g = missed old new (λ x d. by_item x d None e ∙ and_off _) (goes_is.nothing e) g
    way_taken (Some (Control k)) e old new p g = missed old new (λ x d. by_item x d (Some (Control k)) e ∙ and_off _) (goes_is.control k e) g
    way_taken (Some (Arrival y f n port side arrived back)) e old new p g = by_begin (begins_at h (opposite f) ((state_of v).links y)) refl g
      where
        enters_so : (x : ℕ) (d : Dir) (b : Bool) → begins_at h (opposite f) ((state_of v).links y) ≡ b → enters S P x d it ≡ (b && (y == x && same_dir (opposite f) d))
        enters_so x d b q = by_item x d (Some (Arrival y f n port side arrived back)) e ∙ along y f x d b q

        by_begin : (b : Bool) → begins_at h (opposite f) ((state_of v).links y) ≡ b → IsWayTaken v.numbers (if begins_at h (opposite f) ((state_of v).links y) then Some (y, opposite f) else None) old new → IsOneMore S P it old (counted new)
        by_begin false q g =
            missed old new (λ x d. enters_so x d false q) (goes_is.arrival y f n port side arrived back e ∙ enters_so y (opposite f) false q)
            (subst (λ b. IsWayTaken v.numbers (if b then Some (y, opposite f) else None) old new) q g)
        by_begin true q g =
            noted_as y f old new (leads_out v.numbers y (opposite f)) refl p (λ x d. enters_so x d true q)
            (goes_is.arrival y f n port side arrived back e ∙ enters_so y (opposite f) true q ∙ at_itself y f)
            (subst (λ b. IsWayTaken v.numbers (if b then Some (y, opposite f) else None) old new) q g)

    pub answer_more : (old new : Entering) → old.position ≡ length P → IsWayTaken v.numbers (way_by v P h t) old new → IsOneMore S P it old (counted new)
    answer_more old new p g = way_taken (item_at P t) refl old new p g
