-- How the ordered sockets follow the channels.
use Rattle.std.proofs.Common.{◌≡◌, ◌≢◌, ℕ, ◌*◌, ◌^◌, ◌<◌, ◌≤◌, Bool, true, false, cond, ◌⊎◌, inl, inr, ⊎_elim, eqb, List, Option, Some, None, Ordering, refl, sym, ap, ◌∙◌, subst, arith}
use Rattle.std.specs.Ordering.{nat_cmp, is_eq, ordering_then}
use Rattle.std.specs.Option.{IsSome, unwrap_or}
use Rattle.std.specs.declared.cmp.Ordering.TheVariants.{Less, Equal, Greater}
use Rattle.std.specs.Cmp.{nat_cmp_total, tied_itself}
use Rattle.std.proofs.lemmas.Cmp.{ranked}
use Rattle.std.proofs.lemmas.Bool.{eq-eqb, eqb-true, ne_eqb, lt-ltb, le-ltb, cases_lt}
use Rattle.kom_base.specs.declared.numbers.Dir.{Dir}
use Rattle.kom_base.specs.declared.numbers.Dir.TheVariants.{Plus, Minus}
use Rattle.kom_base.specs.declared.numbers.Side.{Side}
use Rattle.kom_base.specs.declared.numbers.Side.TheVariants.{Outside, Inside}
use Rattle.kom_base.specs.declared.numbers.Half.{Half}
use Rattle.kom_index.specs.Entries.{Rises, value_of}
use Rattle.kom_wiring.specs.declared.link.Link.{Link}
use Rattle.kom_wiring.specs.declared.socket.Socket.{Socket}
use Rattle.kom_wiring.specs.Sockets.{socket_cmp, place_cmp, half_cmp, dir_index, side_index, socket_total}
use Rattle.kom_wiring.specs.Sound.{Plugs, HasSocket, IsSound}
use Rattle.kom_wiring.specs.Wires.{link_of, link_at, place_at, with_end, with_held}

-- ---- sockets that tie are one socket

both_equal : (a b : Ordering) → ordering_then a b ≡ Equal → (a ≡ Equal) × (b ≡ Equal)
both_equal Less b e = absurd (cc)
both_equal Equal b e = (refl, e)
both_equal Greater b e = absurd (cc)

same_nat : (x y : ℕ) → nat_cmp x y ≡ Equal → x ≡ y
same_nat x y e = ranked x y Equal (sym e)

same_side : (a b : Side) → side_index a ≡ side_index b → a ≡ b
same_side Outside Outside e = refl
same_side Outside Inside e = absurd (cc)
same_side Inside Outside e = absurd (cc)
same_side Inside Inside e = refl

pub same_dir : (a b : Dir) → dir_index a ≡ dir_index b → a ≡ b
same_dir Plus Plus e = refl
same_dir Plus Minus e = absurd (cc)
same_dir Minus Plus e = absurd (cc)
same_dir Minus Minus e = refl

pub half_tied : (h k : Half) → half_cmp h k ≡ Equal → h ≡ k
half_tied h k e =
    let a = both_equal _ _ e in
    let b = both_equal _ _ a.1 in
    let c = same_nat h.comp k.comp a.0 in
    let p = same_nat h.port k.port b.0 in
    let s = same_side h.side k.side (same_nat _ _ b.1) in
    λ i. record { comp = c i; port = p i; side = s i }

pub place_tied : (p q : Option Half) → place_cmp p q ≡ Equal → p ≡ q
place_tied None None e = refl
place_tied None (Some k) e = absurd (cc)
place_tied (Some h) None e = absurd (cc)
place_tied (Some h) (Some k) e = ap Some (half_tied h k e)

equal_of : (c : Ordering) → is_eq c ≡ true → c ≡ Equal
equal_of Less h = absurd (cc)
equal_of Equal h = refl
equal_of Greater h = absurd (cc)

pub socket_tied : (a b : Socket) → is_eq (socket_cmp a b) ≡ true → a ≡ b
socket_tied a b h =
    let x = both_equal _ _ (equal_of _ h) in
    let y = both_equal _ _ x.1 in
    let p = place_tied a.at b.at x.0 in
    let c = same_nat a.chan b.chan y.0 in
    let d = same_dir a.end b.end (same_nat _ _ y.1) in
    λ i. record { at = p i; chan = c i; end = d i }

pub socket_self : (a : Socket) → is_eq (socket_cmp a a) ≡ true
socket_self a = ap is_eq (tied_itself socket_total a)

pub nat_self : (x : ℕ) → is_eq (nat_cmp x x) ≡ true
nat_self x = ap is_eq (tied_itself nat_cmp_total x)

pub same_or : (a b : ℕ) → (a ≡ b) ⊎ (a ≢ b)
same_or a b = go (eqb a b) refl
  where
    go : (t : Bool) → eqb a b ≡ t → (a ≡ b) ⊎ (a ≢ b)
    go true e = inl (eqb-true a b e)
    go false e = inr (λ s. cc (e, eq-eqb a b s))

pub below : (x y : ℕ) → x < y → nat_cmp x y ≡ Less
below x y h = ap (λ b. cond b Less (cond (eqb x y) Equal Greater)) (lt-ltb x y h)

pub above : (x y : ℕ) → y < x → nat_cmp x y ≡ Greater
above x y h = ap (λ b. cond b Less (cond (eqb x y) Equal Greater)) (le-ltb x y (omega (arith, h))) ∙ ap (λ b. cond b Equal Greater) (ne_eqb x y (λ e. absurd (omega (arith, h, e))))

pub nat_is_eq : (x y : ℕ) → is_eq (nat_cmp x y) ≡ eqb x y
nat_is_eq x y = ⊎_elim
    (λ less. ap is_eq (below x y less) ∙ sym (ne_eqb x y (λ e. absurd (omega (arith, less, e)))))
    (λ le. ⊎_elim
    (λ same. ap (λ n. is_eq (nat_cmp x n)) (sym same) ∙ nat_self x ∙ sym (ap (eqb x) (sym same) ∙ eq-eqb x x refl))
    (λ other. ap is_eq (above x y (omega (arith, le, other))) ∙ sym (ne_eqb x y other))
    (same_or x y))
    (cases_lt x y)

-- ---- the changes of one channel leave the others

module _ (links links' : List (ℕ × Link)) (ends ends' : List (Socket × Unit {0})) (x : ℕ) where
  -- nothing of another channel is another
  pub record Elsewhere : Type 0 where
    pub linked : (y : ℕ) → y ≢ x → link_of links' y ≡ link_of links y
    pub placed : (s : Socket) → s.chan ≢ x → value_of socket_cmp s ends' ≡ value_of socket_cmp s ends

  pub sound_after : (spare room spare' room' : ℕ) → IsSound links spare ends room → Rises nat_cmp links' → (IsSome (link_of links' x) → x < 2 ^ 32) → Elsewhere → 2 * spare' ≤ room'
      → ((s : Socket) → s.chan ≡ x → HasSocket ends' s → Plugs links' s) → ((s : Socket) → s.chan ≡ x → Plugs links' s → HasSocket ends' s)
      → IsSound links' spare' ends' room'
  sound_after spare room spare' room' old rises small same fits plugged complete = record {
    rises = rises;
    bounded = λ y h. ⊎_elim (λ here. subst (λ n. n < 2 ^ 32) (sym here) (small (subst (λ n. IsSome (link_of links' n)) here h))) (λ there. old.bounded y (subst IsSome (same.linked y there) h)) (same_or y x);
    plugged = λ s has. ⊎_elim (λ here. plugged s here has)
        (λ there. let p = old.plugged s (subst IsSome (same.placed s there) has) in record { link = p.link; is = same.linked s.chan there ∙ p.is; at = p.at })
        (same_or s.chan x);
    complete = λ s p. ⊎_elim (λ here. complete s here p)
        (λ there. subst IsSome (sym (same.placed s there)) (old.complete s (record { link = p.link; is = sym (same.linked s.chan there) ∙ p.is; at = p.at })))
        (same_or s.chan x);
    fits = fits;
  }

-- a socket of another channel does not tie
apart : (s k : Socket) → s.chan ≢ k.chan → is_eq (socket_cmp s k) ≡ false
apart s k n = go (is_eq (socket_cmp s k)) refl
  where
    go : (b : Bool) → is_eq (socket_cmp s k) ≡ b → is_eq (socket_cmp s k) ≡ false
    go true t = absurd (n (ap (λ (s : Socket). s.chan) (socket_tied s k t)))
    go false t = t

not_equal : (s k : Socket) → s ≢ k → is_eq (socket_cmp s k) ≡ false
not_equal s k n = go (is_eq (socket_cmp s k)) refl
  where
    go : (b : Bool) → is_eq (socket_cmp s k) ≡ b → is_eq (socket_cmp s k) ≡ false
    go true t = absurd (n (socket_tied s k t))
    go false t = t

-- the value at every key after one more, and after one less
abbrev pub Puts : List (Socket × Unit {0}) → List (Socket × Unit {0}) → Socket → Type 0
Puts old new k = (q : Socket) → value_of socket_cmp q new ≡ cond (is_eq (socket_cmp q k)) (Some tt) (value_of socket_cmp q old)

abbrev pub Drops : List (Socket × Unit {0}) → List (Socket × Unit {0}) → Socket → Type 0
Drops old new k = (q : Socket) → value_of socket_cmp q new ≡ cond (is_eq (socket_cmp q k)) None (value_of socket_cmp q old)

abbrev pub Sets : List (ℕ × Link) → List (ℕ × Link) → ℕ → Option Link → Type 0
Sets old new x l = (y : ℕ) → link_of new y ≡ cond (is_eq (nat_cmp y x)) l (link_of old y)

pub sets_here : (old new : List (ℕ × Link)) (x : ℕ) (l : Option Link) → Sets old new x l → (y : ℕ) → y ≡ x → link_of new y ≡ l
sets_here old new x l sets y e = sets y ∙ ap (λ b. cond b l (link_of old y)) (ap (λ n. is_eq (nat_cmp n x)) e ∙ nat_self x)

pub sets_there : (old new : List (ℕ × Link)) (x : ℕ) (l : Option Link) → Sets old new x l → (y : ℕ) → y ≢ x → link_of new y ≡ link_of old y
sets_there old new x l sets y n = sets y ∙ ap (λ b. cond b l (link_of old y)) (nat_is_eq y x ∙ ne_eqb y x n)

pub sets_each : (old new : List (ℕ × Link)) (x : ℕ) (l : Option Link) → Sets old new x l → (y : ℕ) → link_of new y ≡ cond (eqb y x) l (link_of old y)
sets_each old new x l sets y = sets y ∙ ap (λ b. cond b l (link_of old y)) (nat_is_eq y x)

abbrev pub socket_at : Link → ℕ → Dir → Socket
socket_at l x d = record { at = place_at l d; chan = x; end = d }

-- a socket of the channel that is plugged as its link says
pub plugs_link : (links : List (ℕ × Link)) (l : Link) (x : ℕ) (d : Dir) → link_of links x ≡ Some l → Plugs links (socket_at l x d)
plugs_link links l x d e = record { link = l; is = e; at = refl }

is_socket : (links : List (ℕ × Link)) (l : Link) (s : Socket) → link_of links s.chan ≡ Some l → Plugs links s → s ≡ socket_at l s.chan s.end
is_socket links l s e p =
    let same : l ≡ p.link = cc (e, p.is) in
    let at : s.at ≡ place_at l s.end = sym (ap (λ l. place_at l s.end) same ∙ p.at) in
    λ i. record { at = at i; chan = s.chan; end = s.end }

yes : (b : Bool) (g : Option (Unit {0})) → IsSome g → IsSome (cond b (Some tt) g)
yes true g h = refl
yes false g h = h

pub added : (links links' : List (ℕ × Link)) (ends one two : List (Socket × Unit {0})) (x : ℕ) (l : Link) (spare room spare' room' : ℕ) → IsSound links spare ends room → link_of links x ≡ None
    → Sets links links' x (Some l) → Puts ends one (socket_at l x Plus) → Puts one two (socket_at l x Minus) → Rises nat_cmp links' → x < 2 ^ 32 → 2 * spare' ≤ room' → IsSound links' spare' two room'
added links links' ends one two x l spare room spare' room' old absent sets plus minus rises small fits = sound_after links links' ends two x spare room spare' room' old rises (λ h. small)
    (record {
      linked = sets_there links links' x (Some l) sets;
      placed = λ s n. minus s ∙ ap (λ b. cond b (Some tt) (value_of socket_cmp s one)) (apart s (socket_at l x Minus) n) ∙ plus s ∙ ap (λ b. cond b (Some tt) (value_of socket_cmp s ends)) (apart s (socket_at l x Plus) n);
    })
    fits here there
  where
    linked : (s : Socket) → s.chan ≡ x → link_of links' s.chan ≡ Some l
    linked s e = sets_here links links' x (Some l) sets s.chan e

    here : (s : Socket) → s.chan ≡ x → HasSocket two s → Plugs links' s
    here s e has = first (is_eq (socket_cmp s (socket_at l x Minus))) refl
      where
        second : is_eq (socket_cmp s (socket_at l x Minus)) ≡ false → (b : Bool) → is_eq (socket_cmp s (socket_at l x Plus)) ≡ b → Plugs links' s
        second m true t = subst (Plugs links') (sym (socket_tied s (socket_at l x Plus) t)) (plugs_link links' l x Plus (sets_here links links' x (Some l) sets x refl))
        second m false t =
            let still = subst IsSome (minus s ∙ ap (λ b. cond b (Some tt) (value_of socket_cmp s one)) m ∙ plus s ∙ ap (λ b. cond b (Some tt) (value_of socket_cmp s ends)) t) has in
            let p = old.plugged s still in
            absurd (cc (absent, p.is, ap (link_of links) e))

        first : (b : Bool) → is_eq (socket_cmp s (socket_at l x Minus)) ≡ b → Plugs links' s
        first true t = subst (Plugs links') (sym (socket_tied s (socket_at l x Minus) t)) (plugs_link links' l x Minus (sets_here links links' x (Some l) sets x refl))
        first false t = second t (is_eq (socket_cmp s (socket_at l x Plus))) refl

    there : (s : Socket) → s.chan ≡ x → Plugs links' s → HasSocket two s
    there s e p = at s.end (is_socket links' l s (linked s e) p ∙ ap (λ n. socket_at l n s.end) e)
      where
        at : (d : Dir) → s ≡ socket_at l x d → HasSocket two s
        at Plus is = subst IsSome (sym (minus s)) (yes (is_eq (socket_cmp s (socket_at l x Minus))) (value_of socket_cmp s one)
            (subst IsSome (sym (plus s ∙ ap (λ b. cond b (Some tt) (value_of socket_cmp s ends)) (ap (λ k. is_eq (socket_cmp k (socket_at l x Plus))) is ∙ socket_self (socket_at l x Plus)))) refl))
        at Minus is = subst IsSome (sym (minus s ∙ ap (λ b. cond b (Some tt) (value_of socket_cmp s one)) (ap (λ k. is_eq (socket_cmp k (socket_at l x Minus))) is ∙ socket_self (socket_at l x Minus)))) refl

pub removed : (links links' : List (ℕ × Link)) (ends one two : List (Socket × Unit {0})) (x : ℕ) (l : Link) (spare room spare' room' : ℕ) → IsSound links spare ends room → link_of links x ≡ Some l
    → Sets links links' x None → Drops ends one (socket_at l x Plus) → Drops one two (socket_at l x Minus) → Rises nat_cmp links' → 2 * spare' ≤ room' → IsSound links' spare' two room'
removed links links' ends one two x l spare room spare' room' old there sets plus minus rises fits = sound_after links links' ends two x spare room spare' room' old rises (λ h. old.bounded x (subst IsSome (sym there) refl))
    (record {
      linked = sets_there links links' x None sets;
      placed = λ s n. minus s ∙ ap (λ b. cond b None (value_of socket_cmp s one)) (apart s (socket_at l x Minus) n) ∙ plus s ∙ ap (λ b. cond b None (value_of socket_cmp s ends)) (apart s (socket_at l x Plus) n);
    })
    fits gone (λ s e p. absurd (cc (p.is, sets_here links links' x None sets s.chan e)))
  where
    gone : (s : Socket) → s.chan ≡ x → HasSocket two s → Plugs links' s
    gone s e has = first (is_eq (socket_cmp s (socket_at l x Minus))) refl
      where
        at : (d : Dir) → s ≡ socket_at l x d → is_eq (socket_cmp s (socket_at l x Minus)) ≡ false → is_eq (socket_cmp s (socket_at l x Plus)) ≡ false → Plugs links' s
        at Plus is m t = absurd (cc (ap (λ k. is_eq (socket_cmp k (socket_at l x Plus))) is ∙ socket_self (socket_at l x Plus), t))
        at Minus is m t = absurd (cc (ap (λ k. is_eq (socket_cmp k (socket_at l x Minus))) is ∙ socket_self (socket_at l x Minus), m))

        second : is_eq (socket_cmp s (socket_at l x Minus)) ≡ false → (b : Bool) → is_eq (socket_cmp s (socket_at l x Plus)) ≡ b → Plugs links' s
        second m true t = absurd (cc (has, minus s ∙ ap (λ b. cond b None (value_of socket_cmp s one)) m ∙ plus s ∙ ap (λ b. cond b None (value_of socket_cmp s ends)) t))
        second m false t =
            let still = subst IsSome (minus s ∙ ap (λ b. cond b None (value_of socket_cmp s one)) m ∙ plus s ∙ ap (λ b. cond b None (value_of socket_cmp s ends)) t) has in
            let p = old.plugged s still in
            at s.end (is_socket links l s (ap (link_of links) e ∙ there) p ∙ ap (λ n. socket_at l n s.end) e) m t

        first : (b : Bool) → is_eq (socket_cmp s (socket_at l x Minus)) ≡ b → Plugs links' s
        first true t = absurd (cc (has, minus s ∙ ap (λ b. cond b None (value_of socket_cmp s one)) t))
        first false t = second t (is_eq (socket_cmp s (socket_at l x Plus))) refl

-- an end that moves, and one that does not
data Moves (l : Link) (d : Dir) (at : Option Half) (e : Dir) : Type 0 where
  this : (same : e ≡ d) (to : place_at (with_end l d at) e ≡ at) → Moves l d at e
  other : (not : e ≢ d) (stays : place_at (with_end l d at) e ≡ place_at l e) → Moves l d at e

moves : (l : Link) (d : Dir) (at : Option Half) (e : Dir) → Moves l d at e
moves l Plus at Plus = this refl refl
moves l Plus at Minus = other (λ e. cc) refl
moves l Minus at Plus = other (λ e. cc) refl
moves l Minus at Minus = this refl refl

pub moved : (links links' : List (ℕ × Link)) (ends one two : List (Socket × Unit {0})) (x : ℕ) (l : Link) (d : Dir) (at : Option Half) (spare room spare' room' : ℕ) → IsSound links spare ends room
    → link_of links x ≡ Some l → Sets links links' x (Some (with_end l d at)) → Drops ends one (socket_at l x d) → Puts one two (socket_at (with_end l d at) x d) → Rises nat_cmp links' → 2 * spare' ≤ room'
    → IsSound links' spare' two room'
moved links links' ends one two x l d at spare room spare' room' old linked sets dropped put rises fits = sound_after links links' ends two x spare room spare' room' old rises (λ h. old.bounded x (subst IsSome (sym linked) refl))
    (record {
      linked = sets_there links links' x (Some (with_end l d at)) sets;
      placed = λ s n. put s ∙ ap (λ b. cond b (Some tt) (value_of socket_cmp s one)) (apart s (socket_at (with_end l d at) x d) n) ∙ dropped s ∙ ap (λ b. cond b None (value_of socket_cmp s ends)) (apart s (socket_at l x d) n);
    })
    fits here there
  where
    now : link_of links' x ≡ Some (with_end l d at)
    now = sets_here links links' x (Some (with_end l d at)) sets x refl

    here : (s : Socket) → s.chan ≡ x → HasSocket two s → Plugs links' s
    here s e has = first (is_eq (socket_cmp s (socket_at (with_end l d at) x d))) refl
      where
        kept : is_eq (socket_cmp s (socket_at (with_end l d at) x d)) ≡ false → (b : Bool) → is_eq (socket_cmp s (socket_at l x d)) ≡ b → Plugs links' s
        kept n true t = absurd (cc (has, put s ∙ ap (λ b. cond b (Some tt) (value_of socket_cmp s one)) n ∙ dropped s ∙ ap (λ b. cond b None (value_of socket_cmp s ends)) t))
        kept n false t =
            let still = subst IsSome (put s ∙ ap (λ b. cond b (Some tt) (value_of socket_cmp s one)) n ∙ dropped s ∙ ap (λ b. cond b None (value_of socket_cmp s ends)) t) has in
            let p = old.plugged s still in
            let is : s ≡ socket_at l x s.end = is_socket links l s (ap (link_of links) e ∙ linked) p ∙ ap (λ n. socket_at l n s.end) e in
            elim (moves l d at s.end) [
              | this same to ↦ absurd (cc (t, ap (λ k. is_eq (socket_cmp k (socket_at l x d))) (is ∙ ap (socket_at l x) same) ∙ socket_self (socket_at l x d)))
              | other not stays ↦ record { link = with_end l d at; is = ap (link_of links') e ∙ now; at = stays ∙ sym (ap (λ (k : Socket). k.at) is) }
            ]

        first : (b : Bool) → is_eq (socket_cmp s (socket_at (with_end l d at) x d)) ≡ b → Plugs links' s
        first true t = subst (Plugs links') (sym (socket_tied s (socket_at (with_end l d at) x d) t)) (plugs_link links' (with_end l d at) x d now)
        first false t = kept t (is_eq (socket_cmp s (socket_at l x d))) refl

    there : (s : Socket) → s.chan ≡ x → Plugs links' s → HasSocket two s
    there s e p =
        let is : s ≡ socket_at (with_end l d at) x s.end = is_socket links' (with_end l d at) s (ap (link_of links') e ∙ now) p ∙ ap (λ n. socket_at (with_end l d at) n s.end) e in
        elim (moves l d at s.end) [
          | this same to ↦ subst IsSome (sym (put s ∙ ap (λ b. cond b (Some tt) (value_of socket_cmp s one)) (ap (λ k. is_eq (socket_cmp k (socket_at (with_end l d at) x d))) (is ∙ ap (socket_at (with_end l d at) x) same) ∙ socket_self (socket_at (with_end l d at) x d)))) refl
          | other not stays ↦
              let was : s ≡ socket_at l x s.end = is ∙ ap (λ q. record { at = q; chan = x; end = s.end }) stays in
              let had = old.complete s (subst (Plugs links) (sym was) (plugs_link links l x s.end linked)) in
              let differs : is_eq (socket_cmp s (socket_at l x d)) ≡ false = not_equal s (socket_at l x d) (λ k. not (ap (λ (k : Socket). k.end) k)) in
              subst IsSome (sym (put s)) (yes (is_eq (socket_cmp s (socket_at (with_end l d at) x d))) (value_of socket_cmp s one)
              (subst IsSome (sym (dropped s ∙ ap (λ b. cond b None (value_of socket_cmp s ends)) differs)) had))
        ]

-- the new socket of an end that moves is not there once the old one is taken out
pub absent_moved : (links : List (ℕ × Link)) (ends one : List (Socket × Unit {0})) (x : ℕ) (l : Link) (d : Dir) (to : Option Half) (spare room : ℕ) → IsSound links spare ends room
    → link_of links x ≡ Some l → Drops ends one (socket_at l x d) → value_of socket_cmp (record { at = to; chan = x; end = d }) one ≡ None
absent_moved links ends one x l d to spare room old linked dropped = dropped (record { at = to; chan = x; end = d }) ∙ at (is_eq (socket_cmp (record { at = to; chan = x; end = d }) (socket_at l x d))) refl
  where
    gone : is_eq (socket_cmp (record { at = to; chan = x; end = d }) (socket_at l x d)) ≡ false → (g : Option (Unit {0})) → value_of socket_cmp (record { at = to; chan = x; end = d }) ends ≡ g → g ≡ None
    gone t None e = refl
    gone t (Some u) e =
        let p = old.plugged (record { at = to; chan = x; end = d }) (subst IsSome (sym e) refl) in
        let is = is_socket links l (record { at = to; chan = x; end = d }) linked p in
        absurd (cc (t, ap (λ k. is_eq (socket_cmp k (socket_at l x d))) is ∙ socket_self (socket_at l x d)))

    at : (b : Bool) → is_eq (socket_cmp (record { at = to; chan = x; end = d }) (socket_at l x d)) ≡ b → cond b None (value_of socket_cmp (record { at = to; chan = x; end = d }) ends) ≡ None
    at true t = refl
    at false t = gone t (value_of socket_cmp (record { at = to; chan = x; end = d }) ends) refl

flag_keeps : (l : Link) (held : Bool) (d : Dir) → place_at (with_held l held) d ≡ place_at l d
flag_keeps l held Plus = refl
flag_keeps l held Minus = refl

pub flagged : (links links' : List (ℕ × Link)) (ends : List (Socket × Unit {0})) (x : ℕ) (l : Link) (held : Bool) (spare room spare' room' : ℕ) → IsSound links spare ends room
    → link_of links x ≡ Some l → Sets links links' x (Some (with_held l held)) → Rises nat_cmp links' → 2 * spare' ≤ room' → IsSound links' spare' ends room'
flagged links links' ends x l held spare room spare' room' old linked sets rises fits = sound_after links links' ends ends x spare room spare' room' old rises (λ h. old.bounded x (subst IsSome (sym linked) refl))
    (record { linked = sets_there links links' x (Some (with_held l held)) sets; placed = λ s n. refl })
    fits
    (λ s e has.
    let p = old.plugged s has in
    let same : l ≡ p.link = cc (ap (link_of links) e ∙ linked, p.is) in
    record { link = with_held l held; is = sets_here links links' x (Some (with_held l held)) sets s.chan e; at = flag_keeps l held s.end ∙ ap (λ l. place_at l s.end) same ∙ p.at })
    (λ s e p.
    let same : with_held l held ≡ p.link = cc (sets_here links links' x (Some (with_held l held)) sets s.chan e, p.is) in
    old.complete s (record { link = l; is = ap (link_of links) e ∙ linked; at = sym (flag_keeps l held s.end) ∙ ap (λ l. place_at l s.end) same ∙ p.at }))

pub less_room : {links : List (ℕ × Link)} {spare : ℕ} {ends : List (Socket × Unit {0})} {room : ℕ} → IsSound links spare ends room → (spare' room' : ℕ) → 2 * spare' ≤ room' → IsSound links spare' ends room'
less_room old spare' room' fits = record { rises = old.rises; bounded = old.bounded; plugged = old.plugged; complete = old.complete; fits = fits }

-- the link of a channel that is there
pub link_is : (links : List (ℕ × Link)) (x : ℕ) (l : Link) → link_of links x ≡ Some l → link_at links x ≡ l
link_is links x l e = ap (λ g. unwrap_or g (record { plus = None; minus = None; held = false })) e
