-- Channels are added one after another.
use Rattle.std.proofs.Common.{◌≡◌, ℕ, zero, suc, ◌+◌, ◌-◌, ◌<◌, ◌≤◌, Bool, true, false, List, [], ◌∷◌, length, take, Option, Some, None, refl, sym, ap, ◌∙◌, inl, inr, arith, if◌then◌else◌}
use Rattle.std.specs.Prelude.{slice_get, ◌==◌, is_some, nat_lt}
use Rattle.std.specs.Option.{IsSome, option_map}
use Rattle.std.proofs.lemmas.Bool.{ltb-true, ltb-false, le-ltb, ne_eqb}
use Rattle.std.proofs.lemmas.Bool.Decides.{eqb_tells}
use Rattle.std.proofs.lemmas.Option.{slice_get_past}
use Rattle.kom_base.specs.declared.numbers.Dir.{Dir}
use Rattle.kom_base.specs.declared.numbers.Dir.TheVariants.{Plus}
use Rattle.kom_base.specs.declared.numbers.EntryNo.{EntryNo}
use Rattle.kom_wiring.specs.declared.link.Link.{Link}
use Rattle.kom_wiring.specs.Wires.{Wires, link_of}
use Rattle.kom_queues.specs.declared.slot.Slot.{Slot}
use Rattle.kom_queues.specs.Waiting.{Waiting}
use Rattle.kom_queues.specs.Slots.{slot_of, queue_of, content_of, is_there}
use Rattle.kom_numbers.specs.Numbering.{Numbering}
use Rattle.kom_state.specs.Plantings.{IsLaid, IsOneLaid}
use Rattle.kom_state.specs.Sound.{aim_for}
use Rattle.kom_state.proofs.Keeping.{itself}
use Rattle.kom_state.proofs.Conditions.{mapped, slot_living}
use Rattle.kom_state.proofs.Removing.{nothing}

-- one item more
taken : {A : Type 0} (xs : List A) (k j : ℕ) (x : A) → slice_get xs k ≡ Some x → slice_get (take (suc k) xs) j ≡ (if j == k then Some x else slice_get (take k xs) j)
taken [] k j x h = absurd (cc)
taken (y ∷ xs) zero zero x h = h ∙ sym (ap (λ b. if b then Some x else None) (itself 0))
taken (y ∷ xs) zero (suc j) x h = sym (ap (λ b. if b then Some x else None) (ne_eqb (suc j) 0 (λ e. absurd (omega (arith, e)))))
taken (y ∷ xs) (suc k) zero x h = sym (ap (λ b. if b then Some x else Some y) (ne_eqb 0 (suc k) (λ e. absurd (omega (arith, e)))))
taken (y ∷ xs) (suc k) (suc j) x h = taken xs k j x h ∙ ap (λ b. if b then Some x else slice_get (take k xs) j) (same j k)
  where
    same : (a b : ℕ) → (a == b) ≡ (suc a == suc b)
    same a b = elim (eqb_tells a b) [
      | inl t ↦ t.0 ∙ sym (ap (λ z. suc z == suc b) t.1 ∙ itself (suc b))
      | inr f ↦ f.0 ∙ sym (ne_eqb (suc a) (suc b) (λ e. f.1 (omega (arith, e))))
    ]

length_take : {A : Type 0} (xs : List A) (k : ℕ) → length (take k xs) ≤ k
length_take [] zero = omega arith
length_take [] (suc k) = omega arith
length_take (x ∷ xs) zero = omega arith
length_take (x ∷ xs) (suc k) = omega (arith, length_take xs k)

length_more : {A : Type 0} (xs : List A) (k : ℕ) → k < length xs → length (take (suc k) xs) ≡ length (take k xs) + 1
length_more [] k h = absurd (omega (arith, h))
length_more (x ∷ []) zero h = omega arith
length_more (x ∷ y ∷ xs) zero h = omega arith
length_more (x ∷ xs) (suc k) h = omega (arith, length_more xs k (omega (arith, h)))

content_living : (m : List (ℕ × Slot)) (x : ℕ) (d : Dir) → is_some (content_of m x d) ≡ is_there m x
content_living m x d = mapped (λ (w : Waiting). (w.numbers, w.aim)) (queue_of m x d) ∙ slot_living m x d

not_less : (x first : ℕ) → first ≤ x → nat_lt x first ≡ false
not_less x first h = le-ltb x first h

module _ (n : Numbering) (first : ℕ) (links : List Link) (old : Wires) (was : List (ℕ × Slot)) where
  abbrev Content : Type 0
  Content = Option (List EntryNo × Option ℕ)

  abbrev fresh : ℕ → Dir → Option Link → Content
  fresh x d o = option_map {U = List EntryNo × Option ℕ} (λ l. ([], aim_for n x d l)) o

  pub none_laid : ((x : ℕ) → first ≤ x → link_of old.links x ≡ None) → ((x : ℕ) → first ≤ x → is_there was x ≡ false) → IsLaid n first [] old old was was
  none_laid no_link not_there = record {
    links_now = λ x. at x (nat_lt x first) refl;
    content = λ x d. in_it x d (nat_lt x first) refl;
    room = λ x d. omega arith;
    slots = λ x. refl;
    spare = omega arith;
  }
    where
      at : (x : ℕ) (b : Bool) → nat_lt x first ≡ b → link_of old.links x ≡ (if nat_lt x first then link_of old.links x else None)
      at x true e = sym (ap (λ b. if b then link_of old.links x else None) e)
      at x false e = no_link x (ltb-false x first e) ∙ sym (ap (λ b. if b then link_of old.links x else None) e)

      in_it : (x : ℕ) (d : Dir) (b : Bool) → nat_lt x first ≡ b → content_of was x d ≡ (if nat_lt x first then content_of was x d else None)
      in_it x d true e = sym (ap (λ b. if b then content_of was x d else None) e)
      in_it x d false e = nothing (content_of was x d) (content_living was x d ∙ not_there x (ltb-false x first e)) ∙ sym (ap (λ b. if b then content_of was x d else None) e)

  module _ (mid : Wires) (there : List (ℕ × Slot)) (k : ℕ) (within : k < length links) (laid : IsLaid n first (take k links) old mid was there) where
    past : slice_get (take k links) k ≡ None
    past = slice_get_past (take k links) k (length_take links k)

    pub next_spare : length links ≤ old.spare → 0 < mid.spare
    next_spare h = omega (arith, h, within, laid.spare, length_take links k)

    pub next_link : link_of mid.links (first + k) ≡ None
    next_link =
        let e : first + k - first ≡ k = omega arith in
        laid.links_now (first + k) ∙ ap (λ b. if b then link_of old.links (first + k) else slice_get (take k links) (first + k - first)) (not_less (first + k) first (omega arith))
        ∙ ap (slice_get (take k links)) e ∙ past

    pub next_there : is_there there (first + k) ≡ false
    next_there =
        let e : first + k - first ≡ k = omega arith in
        sym (content_living there (first + k) Plus) ∙ ap is_some
        (laid.content (first + k) Plus ∙ ap (λ b. if b then content_of was (first + k) Plus else fresh (first + k) Plus (slice_get (take k links) (first + k - first))) (not_less (first + k) first (omega arith))
        ∙ ap (λ j. fresh (first + k) Plus (slice_get (take k links) j)) e ∙ ap (fresh (first + k) Plus) past)

    pub next_slot : ((x : ℕ) → first ≤ x → x < first + length links → IsSome (slot_of was x)) → IsSome (slot_of there (first + k))
    next_slot h = laid.slots (first + k) ∙ h (first + k) (omega arith) (omega (arith, within))

    -- one channel more
    pub one_more : (new : Wires) (now : List (ℕ × Slot)) (link : Link) → slice_get links k ≡ Some link → IsOneLaid n (first + k) link mid new there now → IsLaid n first (take (k + 1) links) old new was now
    one_more new now link item one = record {
      links_now = λ y. at y (nat_lt y first) refl;
      content = λ y d. in_it y d (nat_lt y first) refl;
      room = λ y d. omega (arith, one.room y d, laid.room y d);
      slots = λ y. one.slots y ∙ laid.slots y;
      spare =
          let s : k + 1 ≡ suc k = omega arith in
          omega (arith, one.spare, laid.spare, length_more links k within, ap (λ j. length (take j links)) s);
    }
      where
        other : (y : ℕ) → y < first → (y == first + k) ≡ false
        other y h = ne_eqb y (first + k) (λ e. absurd (omega (arith, e, h)))

        shift : (y : ℕ) → first ≤ y → (y == first + k) ≡ (y - first == k)
        shift y h = elim (eqb_tells (y - first) k) [
          | inl t ↦ (let e : y ≡ first + k = omega (arith, t.1, h) in ap (λ z. z == first + k) e ∙ itself (first + k)) ∙ sym t.0
          | inr f ↦ ne_eqb y (first + k) (λ e. f.1 (omega (arith, e, h))) ∙ sym f.0
        ]

        more : (j : ℕ) → slice_get (take (k + 1) links) j ≡ (if j == k then Some link else slice_get (take k links) j)
        more j = let s : k + 1 ≡ suc k = omega arith in ap (λ i. slice_get (take i links) j) s ∙ taken links k j link item

        at : (y : ℕ) (b : Bool) → nat_lt y first ≡ b → link_of new.links y ≡ (if nat_lt y first then link_of old.links y else slice_get (take (k + 1) links) (y - first))
        at y true e =
            one.links_now y ∙ ap (λ b. if b then Some link else link_of mid.links y) (other y (ltb-true y first e)) ∙ laid.links_now y
            ∙ ap (λ b. if b then link_of old.links y else slice_get (take k links) (y - first)) e
            ∙ sym (ap (λ b. if b then link_of old.links y else slice_get (take (k + 1) links) (y - first)) e)
        at y false e =
            one.links_now y ∙ ap (λ b. if b then Some link else link_of mid.links y) (shift y (ltb-false y first e))
            ∙ ap (λ o. if y - first == k then Some link else o) (laid.links_now y ∙ ap (λ b. if b then link_of old.links y else slice_get (take k links) (y - first)) e)
            ∙ sym (more (y - first))
            ∙ sym (ap (λ b. if b then link_of old.links y else slice_get (take (k + 1) links) (y - first)) e)

        fresh_if : (y : ℕ) (d : Dir) (b : Bool) (o : Option Link) → ◌≡◌ {A = Content} (if b then Some ([], aim_for n y d link) else fresh y d o) (fresh y d (if b then Some link else o))
        fresh_if y d true o = refl
        fresh_if y d false o = refl

        in_it : (y : ℕ) (d : Dir) (b : Bool) → nat_lt y first ≡ b → content_of now y d ≡ (if nat_lt y first then content_of was y d else fresh y d (slice_get (take (k + 1) links) (y - first)))
        in_it y d true e =
            one.content y d ∙ ap (λ b. if b then Some ([], aim_for n y d link) else content_of there y d) (other y (ltb-true y first e)) ∙ laid.content y d
            ∙ ap (λ b. if b then content_of was y d else fresh y d (slice_get (take k links) (y - first))) e
            ∙ sym (ap (λ b. if b then content_of was y d else fresh y d (slice_get (take (k + 1) links) (y - first))) e)
        in_it y d false e =
            one.content y d ∙ ap (λ b. if b then Some ([], aim_for n y d link) else content_of there y d) (shift y (ltb-false y first e))
            ∙ ap (λ (o : Content). if y - first == k then Some ([], aim_for n y d link) else o) (laid.content y d ∙ ap (λ b. if b then content_of was y d else fresh y d (slice_get (take k links) (y - first))) e)
            ∙ fresh_if y d (y - first == k) (slice_get (take k links) (y - first))
            ∙ ap (fresh y d) (sym (more (y - first)))
            ∙ sym (ap (λ b. if b then content_of was y d else fresh y d (slice_get (take (k + 1) links) (y - first))) e)
