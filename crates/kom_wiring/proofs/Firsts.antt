-- The first channel from a number on that is plugged at a half.
use Rattle.std.proofs.Common.{◌≡◌, ◌≢◌, ℕ, ◌+◌, ◌<◌, ◌≤◌, ◌^◌, Bool, true, false, cond, not, ◌&&◌, ◌||◌, ◌⊎◌, inl, inr, ⊎_elim, eqb, ltb, List, [], ◌∷◌, map, length, Option, Some, None, Ordering, refl, sym, ap, ◌∙◌, subst, arith}
use Rattle.std.specs.List.{filter}
use Rattle.std.specs.Iterator.{YieldsFirst, MakesProgress, item_count}
use Rattle.std.specs.Ordering.{nat_cmp, is_lt, ordering_then, ordering_reverse}
use Rattle.std.specs.Option.{IsSome}
use Rattle.std.specs.declared.cmp.Ordering.TheVariants.{Less, Equal, Greater}
use Rattle.std.specs.Cmp.{nat_cmp_total, tied_itself}
use Rattle.std.proofs.lemmas.Cmp.{ranked}
use Rattle.std.proofs.lemmas.Bool.{eq-eqb, eqb-true, ne_eqb, lt-ltb, le-ltb, cases_lt, ltb-false}
use Rattle.kom_base.specs.Numbers.{same_side}
use Rattle.kom_base.specs.declared.numbers.Side.{Side}
use Rattle.kom_base.specs.declared.numbers.Side.TheVariants.{Outside, Inside}
use Rattle.kom_base.specs.declared.numbers.Dir.{Dir}
use Rattle.kom_base.specs.declared.numbers.Dir.TheVariants.{Plus, Minus}
use Rattle.kom_base.specs.declared.numbers.Half.{Half}
use Rattle.kom_index.specs.Entries.{AllKeys, Rises}
use Rattle.kom_wiring.specs.declared.link.Link.{Link}
use Rattle.kom_wiring.specs.declared.socket.Socket.{Socket}
use Rattle.kom_wiring.specs.Sockets.{socket_cmp, place_cmp, dir_index, place_total}
use Rattle.kom_wiring.specs.Sound.{HasSocket, IsSound}
use Rattle.kom_wiring.specs.Wires.{link_of, place_at, is_at, has_end, plugged_at, from_number, after_number, IsFirstFrom}
use Rattle.kom_wiring.proofs.Plugging.{nat_is_eq, same_or, place_tied, below, above}

-- ---- lists of numbers that rise

-- y has an end at the half
abbrev pub HasEnd : List (ℕ × Link) → Half → ℕ → Type 0
HasEnd links h y = (l : Link) × (link_of links y ≡ Some l) × (has_end h l ≡ true)

above_absent : (x : ℕ) (es : List (ℕ × Link)) → AllKeys (λ y. nat_cmp x y ≡ Less) es → (y : ℕ) → y ≤ x → link_of es y ≡ None
above_absent x [] h y le = refl
above_absent x (e ∷ es) h y le =
    let less : x < e.0 = ranked x e.0 Less (sym h.0) in
    ap (λ b. cond b (Some e.1) (link_of es y)) (nat_is_eq y e.0 ∙ ne_eqb y e.0 (λ s. absurd (omega (arith, less, le, s)))) ∙ above_absent x es h.1 y le

head_link : (e : ℕ × Link) (es : List (ℕ × Link)) (y : ℕ) → y ≡ e.0 → link_of (e ∷ es) y ≡ Some e.1
head_link e es y s = ap (λ b. cond b (Some e.1) (link_of es y)) (nat_is_eq y e.0 ∙ eq-eqb y e.0 s)

tail_link : (e : ℕ × Link) (es : List (ℕ × Link)) (y : ℕ) → y ≢ e.0 → link_of (e ∷ es) y ≡ link_of es y
tail_link e es y n = ap (λ b. cond b (Some e.1) (link_of es y)) (nat_is_eq y e.0 ∙ ne_eqb y e.0 n)

-- in a list whose numbers rise, what is there and is not the head lies in the tail
in_tail : (h : Half) (e : ℕ × Link) (es : List (ℕ × Link)) (y : ℕ) → HasEnd (e ∷ es) h y → y ≢ e.0 → HasEnd es h y
in_tail h e es y p n = (p.0, sym (tail_link e es y n) ∙ p.1, p.2)

to_whole : (h : Half) (e : ℕ × Link) (es : List (ℕ × Link)) (y : ℕ) → AllKeys (λ y. nat_cmp e.0 y ≡ Less) es → HasEnd es h y → HasEnd (e ∷ es) h y
to_whole h e es y up p = (p.0, tail_link e es y (λ s. cc (p.1, above_absent e.0 es up y (omega (arith, s)))) ∙ p.1, p.2)

abbrev pub kept : Half → ℕ → List (ℕ × Link) → List ℕ
kept h low links = from_number (Some low) (plugged_at h links)

not_there : (h : Half) (low : ℕ) (e : ℕ × Link) (es : List (ℕ × Link)) → has_end h e.1 ≡ false → kept h low (e ∷ es) ≡ kept h low es
not_there h low e es nay = ap (λ b. from_number (Some low) (map (λ (e : ℕ × Link). e.0) (cond b (e ∷ filter (λ (e : ℕ × Link). has_end h e.1) es) (filter (λ (e : ℕ × Link). has_end h e.1) es)))) nay

skip_head : (h : Half) (low : ℕ) (e : ℕ × Link) (es : List (ℕ × Link)) → (has_end h e.1 ≡ false) ⊎ (e.0 < low) → kept h low (e ∷ es) ≡ kept h low es
skip_head h low e es (inl nay) = not_there h low e es nay
skip_head h low e es (inr less) = at (has_end h e.1) refl
  where
    at : (b : Bool) → has_end h e.1 ≡ b → kept h low (e ∷ es) ≡ kept h low es
    at false t = not_there h low e es t
    at true t = ap (λ b. from_number (Some low) (map (λ (e : ℕ × Link). e.0) (cond b (e ∷ filter (λ (e : ℕ × Link). has_end h e.1) es) (filter (λ (e : ℕ × Link). has_end h e.1) es)))) t
        ∙ ap (λ b. cond (not b) (e.0 ∷ kept h low es) (kept h low es)) (lt-ltb e.0 low less)

take_head : (h : Half) (low : ℕ) (e : ℕ × Link) (es : List (ℕ × Link)) → has_end h e.1 ≡ true → low ≤ e.0 → kept h low (e ∷ es) ≡ e.0 ∷ kept h low es
take_head h low e es there le = ap (λ b. from_number (Some low) (map (λ (e : ℕ × Link). e.0) (cond b (e ∷ filter (λ (e : ℕ × Link). has_end h e.1) es) (filter (λ (e : ℕ × Link). has_end h e.1) es)))) there
    ∙ ap (λ b. cond (not b) (e.0 ∷ kept h low es) (kept h low es)) (le-ltb e.0 low le)

-- no channel from the bound on has an end there
pub none_kept : (h : Half) (low : ℕ) (links : List (ℕ × Link)) → Rises nat_cmp links → ((y : ℕ) → HasEnd links h y → y < low) → kept h low links ≡ []
none_kept h low [] r n = refl
none_kept h low (e ∷ es) r n = skip_head h low e es (at (has_end h e.1) refl) ∙ none_kept h low es r.1 (λ y p. n y (to_whole h e es y r.0 p))
  where
    at : (b : Bool) → has_end h e.1 ≡ b → (has_end h e.1 ≡ false) ⊎ (e.0 < low)
    at false t = inl t
    at true t = inr (n e.0 (e.1, head_link e es e.0 refl, t))

-- the least one from the bound on
pub first_kept : (h : Half) (low x : ℕ) (links : List (ℕ × Link)) → Rises nat_cmp links → HasEnd links h x → low ≤ x → ((y : ℕ) → HasEnd links h y → low ≤ y → x ≤ y)
    → (rest : List ℕ) × (kept h low links ≡ x ∷ rest) × (kept h (x + 1) links ≡ rest)
first_kept h low x [] r has le least = absurd (cc (has.1))
first_kept h low x (e ∷ es) r has le least = ⊎_elim (λ s. here s) (λ n. later n (first_kept h low x es r.1)) (same_or x e.0)
  where
    here : x ≡ e.0 → (rest : List ℕ) × (kept h low (e ∷ es) ≡ x ∷ rest) × (kept h (x + 1) (e ∷ es) ≡ rest)
    here s =
        let link : has.0 ≡ e.1 = cc (has.1, head_link e es x s) in
        let plugged : has_end h e.1 ≡ true = ap (has_end h) (sym link) ∙ has.2 in
        (kept h low es, take_head h low e es plugged (omega (arith, s, le)) ∙ ap (λ n. n ∷ kept h low es) (sym s), skip_head h (x + 1) e es (inr (omega (arith, s))) ∙ all_from es r.0 (omega (arith, s)))
      where
        -- all in the tail is above both bounds
        all_from : (es : List (ℕ × Link)) → AllKeys (λ y. nat_cmp e.0 y ≡ Less) es → x ≤ e.0 → kept h (x + 1) es ≡ kept h low es
        all_from [] up g = refl
        all_from (f ∷ fs) up g = go (has_end h f.1) refl (all_from fs up.1 g)
          where
            go : (b : Bool) → has_end h f.1 ≡ b → kept h (x + 1) fs ≡ kept h low fs → kept h (x + 1) (f ∷ fs) ≡ kept h low (f ∷ fs)
            go false t rest = skip_head h (x + 1) f fs (inl t) ∙ rest ∙ sym (skip_head h low f fs (inl t))
            go true t rest =
                let more : e.0 < f.0 = ranked e.0 f.0 Less (sym up.0) in
                take_head h (x + 1) f fs t (omega (arith, more, g)) ∙ ap (λ l. f.0 ∷ l) rest ∙ sym (take_head h low f fs t (omega (arith, more, g, le)))

    later : x ≢ e.0 → (HasEnd es h x → low ≤ x → ((y : ℕ) → HasEnd es h y → low ≤ y → x ≤ y) → (rest : List ℕ) × (kept h low es ≡ x ∷ rest) × (kept h (x + 1) es ≡ rest))
        → (rest : List ℕ) × (kept h low (e ∷ es) ≡ x ∷ rest) × (kept h (x + 1) (e ∷ es) ≡ rest)
    later n rest =
        let there = in_tail h e es x has n in
        let less : e.0 < x = ⊎_elim (λ l. l) (λ le. absurd (cc (there.1, above_absent e.0 es r.0 x le))) (cases_lt e.0 x) in
        let more = rest there le (λ y p. least y (to_whole h e es y r.0 p)) in
        let out : (has_end h e.1 ≡ false) ⊎ (e.0 < low) = at (has_end h e.1) refl less in
        (more.0, skip_head h low e es out ∙ more.1, skip_head h (x + 1) e es (inr (omega (arith, less))) ∙ more.2)
      where
        at : (b : Bool) → has_end h e.1 ≡ b → e.0 < x → (has_end h e.1 ≡ false) ⊎ (e.0 < low)
        at false t less = inl t
        at true t less = inr (⊎_elim (λ l. l) (λ g. absurd (omega (arith, least e.0 (e.1, head_link e es e.0 refl, t) g, less))) (cases_lt e.0 low))

pub from_zero : (xs : List ℕ) → from_number (Some 0) xs ≡ xs
from_zero [] = refl
from_zero (x ∷ xs) = ap (λ b. cond (not b) (x ∷ from_number (Some 0) xs) (from_number (Some 0) xs)) (le-ltb x 0 (omega arith)) ∙ ap (λ l. x ∷ l) (from_zero xs)

-- ---- ends at a half

both_true : (a b : Bool) → (a && b) ≡ true → (a ≡ true) × (b ≡ true)
both_true true b e = (refl, e)
both_true false b e = absurd (cc)

one_side : (a b : Side) → same_side a b ≡ true → a ≡ b
one_side Outside Outside e = refl
one_side Outside Inside e = absurd (cc)
one_side Inside Outside e = absurd (cc)
one_side Inside Inside e = refl

side_self : (a : Side) → same_side a a ≡ true
side_self Outside = refl
side_self Inside = refl

pub is_here : (h : Half) (p : Option Half) → is_at h p ≡ true → p ≡ Some h
is_here h None e = absurd (cc)
is_here h (Some k) e =
    let a = both_true _ _ e in
    let b = both_true _ _ a.0 in
    let c : h.comp ≡ k.comp = eqb-true h.comp k.comp b.0 in
    let p : h.port ≡ k.port = eqb-true h.port k.port b.1 in
    let s = one_side h.side k.side a.1 in
    ap Some (λ i. record { comp = sym c i; port = sym p i; side = sym s i })

pub here_is : (h : Half) → is_at h (Some h) ≡ true
here_is h = ap (λ b. (b && (eqb h.port h.port)) && same_side h.side h.side) (eq-eqb h.comp h.comp refl) ∙ ap (λ b. b && same_side h.side h.side) (eq-eqb h.port h.port refl) ∙ side_self h.side

end_at : (h : Half) (l : Link) → has_end h l ≡ true → (d : Dir) × (place_at l d ≡ Some h)
end_at h l e = at (is_at h l.plus) refl
  where
    at : (b : Bool) → is_at h l.plus ≡ b → (d : Dir) × (place_at l d ≡ Some h)
    at true t = (Plus, is_here h l.plus t)
    at false t = (Minus, is_here h l.minus (sym (ap (λ b. b || is_at h l.minus) t) ∙ e))

at_end : (h : Half) (l : Link) (d : Dir) → place_at l d ≡ Some h → has_end h l ≡ true
at_end h l Plus e = ap (λ b. b || is_at h l.minus) (ap (is_at h) e ∙ here_is h)
at_end h l Minus e = ap (λ b. is_at h l.plus || b) (ap (is_at h) e ∙ here_is h) ∙ or_true (is_at h l.plus)
  where
    or_true : (a : Bool) → (a || true) ≡ true
    or_true true = refl
    or_true false = refl

-- ---- the order of the sockets of one half

abbrev pub low_socket : Half → ℕ → Socket
low_socket h low = record { at = Some h; chan = low; end = Plus }

by_channel : (h : Half) (x y : ℕ) (d e : Dir) → socket_cmp (record { at = Some h; chan = x; end = d }) (record { at = Some h; chan = y; end = e }) ≡ ordering_then (nat_cmp x y) (nat_cmp (dir_index d) (dir_index e))
by_channel h x y d e = ap (λ o. ordering_then o (ordering_then (nat_cmp x y) (nat_cmp (dir_index d) (dir_index e)))) (tied_itself place_total (Some h))

-- x before y: not less where the channel is not less
not_below : (h : Half) (x y : ℕ) (d e : Dir) → is_lt (socket_cmp (record { at = Some h; chan = x; end = d }) (record { at = Some h; chan = y; end = e })) ≡ false → y ≤ x
not_below h x y d e nay = ⊎_elim
    (λ less. absurd (cc (nay, ap is_lt (by_channel h x y d e ∙ ap (λ o. ordering_then o (nat_cmp (dir_index d) (dir_index e))) (below x y less)))))
    (λ le. le) (cases_lt x y)

below_low : (h : Half) (x low : ℕ) (d : Dir) → is_lt (socket_cmp (record { at = Some h; chan = x; end = d }) (low_socket h low)) ≡ true → x < low
below_low h x low d lt = ⊎_elim (λ less. less) (λ le. ⊎_elim
    (λ same. absurd (cc (lt, ap is_lt (by_channel h x low d Plus ∙ ap (λ o. ordering_then o (nat_cmp (dir_index d) 0)) (ap (λ n. nat_cmp n low) same ∙ tied_itself nat_cmp_total low)) ∙ never d)))
    (λ other. absurd (cc (lt, ap is_lt (by_channel h x low d Plus ∙ ap (λ o. ordering_then o (nat_cmp (dir_index d) 0)) (above x low (omega (arith, le, other)))))))
    (same_or x low)) (cases_lt x low)
  where
    never : (d : Dir) → is_lt (nat_cmp (dir_index d) 0) ≡ false
    never Plus = refl
    never Minus = refl

from_low : (h : Half) (x low : ℕ) (d : Dir) → low ≤ x → is_lt (socket_cmp (record { at = Some h; chan = x; end = d }) (low_socket h low)) ≡ false
from_low h x low d le = at (is_lt (socket_cmp (record { at = Some h; chan = x; end = d }) (low_socket h low))) refl
  where
    at : (b : Bool) → is_lt (socket_cmp (record { at = Some h; chan = x; end = d }) (low_socket h low)) ≡ b → is_lt (socket_cmp (record { at = Some h; chan = x; end = d }) (low_socket h low)) ≡ false
    at false t = t
    at true t = absurd (omega (arith, below_low h x low d t, le))

module _ (links : List (ℕ × Link)) (spare : ℕ) (ends : List (Socket × Unit {0})) (room : ℕ) (sound : IsSound links spare ends room) (h : Half) (low : ℕ) where
  -- a channel with an end there has its socket
  has_socket : (y : ℕ) (p : HasEnd links h y) → HasSocket ends (record { at = Some h; chan = y; end = (end_at h p.0 p.2).0 })
  has_socket y p = sound.complete (record { at = Some h; chan = y; end = (end_at h p.0 p.2).0 }) (record { link = p.0; is = p.1; at = (end_at h p.0 p.2).1 })

  pub none_found : ((q : Socket) → HasSocket ends q → is_lt (socket_cmp q (low_socket h low)) ≡ true) → kept h low links ≡ []
  none_found all = none_kept h low links sound.rises (λ y p. below_low h y low (end_at h p.0 p.2).0 (all (record { at = Some h; chan = y; end = (end_at h p.0 p.2).0 }) (has_socket y p)))

  -- what stands after the last number of 32 bits is empty
  rest_is : (x : ℕ) → kept h (x + 1) links ≡ from_number (after_number (Some x)) (plugged_at h links)
  rest_is x = at (ltb (x + 1) (2 ^ 32)) refl
    where
      at : (b : Bool) → ltb (x + 1) (2 ^ 32) ≡ b → kept h (x + 1) links ≡ from_number (after_number (Some x)) (plugged_at h links)
      at true t = sym (ap (λ b. from_number (cond b (Some (x + 1)) None) (plugged_at h links)) t)
      at false t = none_kept h (x + 1) links sound.rises (λ y p. omega (arith, sound.bounded y (subst IsSome (sym p.1) refl), ltb-false (x + 1) (2 ^ 32) t))
          ∙ sym (ap (λ b. from_number (cond b (Some (x + 1)) None) (plugged_at h links)) t)

  pub found : (k : Socket) → HasSocket ends k → is_lt (socket_cmp k (low_socket h low)) ≡ false → ((q : Socket) → HasSocket ends q → is_lt (socket_cmp q (low_socket h low)) ≡ false → is_lt (socket_cmp q k) ≡ false)
      → IsFirstFrom (plugged_at h links) low (cond (is_at h k.at) (Some k.chan) None)
  found k has from least = at (is_at h k.at) refl
    where
      at : (b : Bool) → is_at h k.at ≡ b → IsFirstFrom (plugged_at h links) low (cond (is_at h k.at) (Some k.chan) None)
      at true t =
          let place : k.at ≡ Some h = is_here h k.at t in
          let p = sound.plugged k has in
          let k_is : k ≡ record { at = Some h; chan = k.chan; end = k.end } = λ i. record { at = place i; chan = k.chan; end = k.end } in
          let le = not_below h k.chan low k.end Plus (subst (λ k. is_lt (socket_cmp k (low_socket h low)) ≡ false) k_is from) in
          let first_of = first_kept h low k.chan links sound.rises (p.link, p.is, at_end h p.link k.end (p.at ∙ place)) le
          (λ y q g. not_below h y k.chan (end_at h q.0 q.2).0 k.end (subst (λ k. is_lt (socket_cmp (record { at = Some h; chan = y; end = (end_at h q.0 q.2).0 }) k) ≡ false) k_is
          (least (record { at = Some h; chan = y; end = (end_at h q.0 q.2).0 }) (has_socket y q) (from_low h y low (end_at h q.0 q.2).0 g)))) in
          subst (IsFirstFrom (plugged_at h links) low) (sym (ap (λ b. cond b (Some k.chan) None) t)) (first_of.1 ∙ ap (λ l. k.chan ∷ l) (sym first_of.2 ∙ rest_is k.chan))
      at false t =
          let apart : place_cmp (Some h) k.at ≢ Equal = λ e. cc (t, ap (is_at h) (sym (place_tied (Some h) k.at e)), here_is h) in
          subst (IsFirstFrom (plugged_at h links) low) (sym (ap (λ b. cond b (Some k.chan) None) t)) (none_kept h low links sound.rises (λ y p. ⊎_elim (λ l. l)
          (λ g. absurd (clash (end_at h p.0 p.2).0 y apart (least (record { at = Some h; chan = y; end = (end_at h p.0 p.2).0 }) (has_socket y p) (from_low h y low (end_at h p.0 p.2).0 g)))) (cases_lt y low)))
        where
          clash : (d : Dir) (y : ℕ) → place_cmp (Some h) k.at ≢ Equal → is_lt (socket_cmp (record { at = Some h; chan = y; end = d }) k) ≡ false → ⊥
          clash d y n nay = go (place_cmp (Some h) k.at) refl
            where
              go : (o : Ordering) → place_cmp (Some h) k.at ≡ o → ⊥
              go Less e = cc (nay, ap (λ o. is_lt (ordering_then o (ordering_then (nat_cmp y k.chan) (nat_cmp (dir_index d) (dir_index k.end))))) e)
              go Equal e = n e
              go Greater e = cc (from, ap (λ o. is_lt (ordering_then o (ordering_then (nat_cmp k.chan low) (nat_cmp (dir_index k.end) 0)))) (place_total.antisymm k.at (Some h) ∙ ap ordering_reverse e))

-- ---- a call of the iterator

pub yields : (xs s : List ℕ) (low : ℕ) (o : Option ℕ) → from_number (Some low) xs ≡ s → IsFirstFrom xs low o → YieldsFirst (λ a. a) s o (from_number (after_number o) xs)
yields xs s low None e h = (sym e ∙ h, refl)
yields xs s low (Some x) e h = sym e ∙ h

pub progresses : (s t : List ℕ) (o : Option ℕ) → YieldsFirst (λ a. a) s o t → MakesProgress (λ _. Unit {0}) (item_count (λ a. a)) s o t
progresses s t None h = record { on = λ f. tt; keeps = tt; rests = λ f. tt }
progresses s t (Some x) h = record { on = λ f. (tt, tt, omega (arith, ap length h)); keeps = tt; rests = λ f. tt }
