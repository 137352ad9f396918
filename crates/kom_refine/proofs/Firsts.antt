-- The event that a component takes next is the first of the fronts of the queues that it receives.
use Rattle.std.proofs.Common.{◌≡◌, ℕ, ◌+◌, ◌<◌, ◌≤◌, Bool, true, false, not, ◌&&◌, ◌||◌, ◌==◌, refl, sym, ap, ◌∙◌, List, [], ◌∷◌, length, map, Option, Some, None, if◌then◌else◌, arith, eq-eqb, inl, inr}
use Rattle.std.specs.Prelude.{nat_lt, slice_get}
use Rattle.std.specs.List.{filter_map, cons_option, flat_map, enumerate_from}
use Rattle.std.specs.Option.{option_map, option_map_or, option_and_then}
use Rattle.std.proofs.lemmas.List.{append-nil}
use Rattle.std.proofs.lemmas.Bool.{lt-ltb}
use Rattle.kom_base.specs.declared.numbers.Dir.{Dir}
use Rattle.kom_base.specs.declared.numbers.Dir.TheVariants.{Plus, Minus}
use Rattle.kom_base.specs.declared.numbers.Half.{Half}
use Rattle.kom_base.specs.declared.numbers.EntryNo.{EntryNo}
use Rattle.kom_base.specs.Numbers.{opposite, is_plus, is_earlier}
use Rattle.kom_base.specs.Lists.{first, least, lesser, either}
use Rattle.kom_lang.specs.Declarations.{Declarations}
use Rattle.kom_record.specs.declared.item.Item.TheVariants.{Control, Arrival}
use Rattle.kom_record.specs.Entries.{History, Act, acts}
use Rattle.kom_record.specs.Channels.{Channel, channel_alive, channels, place, destination, held, is_living, goes_out}
use Rattle.kom_record.specs.Queues.{Envelope, waiting}
use Rattle.kom_record.specs.Controls.{control_waiting}
use Rattle.kom_record.specs.Ready.{Candidate, candidate, candidates, directions, arriving, next}
use Rattle.std.proofs.lemmas.Bool.Decides.{eqb_tells}
use Rattle.std.proofs.lemmas.Option.{slice_get_within}
use Rattle.kom_laws.proofs.ChannelLaws.{outer_no_end}
use Rattle.kom_laws.proofs.ListFacts.{nothing_made}
use Rattle.kom_laws.proofs.Members.{made_by, least_in, Some-injective}
use Rattle.kom_laws.proofs.NextItem.{mapped}
use Rattle.kom_laws.proofs.Unaffected.{IsCandidate, candidate_is, and_make, or_right}
use Rattle.kom_refine.specs.States.{State, Link, Queue}
use Rattle.kom_refine.specs.Points.{start_of, StandsAt, link_at, queue_at, receiver_of}
use Rattle.kom_refine.specs.Firsts.{front_for, stands_before}
use Rattle.kom_refine.specs.Laws.{NextIsFirst}
use Rattle.kom_refine.proofs.Channels.{link_by}
use Rattle.kom_refine.proofs.Relinking.{queued}

no_number : (o : Option Candidate) → option_map (λ a. a.no) o ≡ None → o ≡ None
no_number None e = refl
no_number (Some a) e = absurd cc

lesser_of : (n x : ℕ) → n ≤ x → (n == x) ≡ false → n < x
lesser_of n x h e = elim (eqb_tells n x) [ inl t ↦ absurd (let f : true ≡ false = sym t.0 ∙ e in cc) | inr t ↦ omega (arith, h, t.1) ]

-- ---- the candidate of a direction is its front

module _ (S : Declarations) (x : ℕ) (d : Dir) (c : ℕ) where
  numbers_first : (h : Half) (w : List Envelope) → option_map (λ a. a.no) (option_map (arriving S x d h) (first w)) ≡ first (map (λ q. q.no) w)
  numbers_first h [] = refl
  numbers_first h (p ∷ w) = refl

  one : (b : Bool) (h : Half) (w : List Envelope) → option_map (λ a. a.no) (if b then option_map (arriving S x d h) (first w) else None) ≡ (if b then first (map (λ q. q.no) w) else None)
  one true h w = numbers_first h w
  one false h w = refl

  and_off : (b : Bool) → (b && false) ≡ false
  and_off true = refl
  and_off false = refl

  and_on : (b : Bool) → (b && true) ≡ b
  and_on true = refl
  and_on false = refl

  -- the parts of a direction: it lives, goes out, is held; its other end; the half at its destination
  abbrev parts : Bool → Bool → List Envelope → Bool → Link → Option Queue
  parts l g w h k = if g then None else (if l then Some (record { numbers = map (λ q. q.no) w; receiver = receiver_of d k }) else None)

  by_parts : (l g hd : Bool) (p : Option Half) (w : List Envelope) → (g ≡ true → p ≡ None)
      → option_map (λ a. a.no) (option_and_then (λ h. if h.comp == c && l && not hd then option_map (arriving S x d h) (first w) else None) p)
      ≡ front_for c (if g then None else (if l then Some (record { numbers = map (λ q. q.no) w; receiver = if hd then None else option_map (λ h. h.comp) p }) else None))
  by_parts true true hd None w f = refl
  by_parts true false true None w f = refl
  by_parts true false false None w f = refl
  by_parts false true hd None w f = refl
  by_parts false false hd None w f = refl
  by_parts l true hd (Some h) w f = absurd (let z = f refl in cc)
  by_parts true false true (Some h) w f = ap (λ b. option_map (λ a. a.no) (if b then option_map (arriving S x d h) (first w) else None)) (and_off (h.comp == c && true))
  by_parts true false false (Some h) w f = ap (λ b. option_map (λ a. a.no) (if b then option_map (arriving S x d h) (first w) else None)) (and_on (h.comp == c && true) ∙ and_on (h.comp == c)) ∙ one (h.comp == c) h w
  by_parts false false hd (Some h) w f = ap (λ b. option_map (λ a. a.no) (if b && not hd then option_map (arriving S x d h) (first w) else None)) (and_off (h.comp == c))

module _ (S : Declarations) where
  ends_by : (e : Dir) (l h : Bool) (p m q : Option Half) (ns : List EntryNo) → (q ≡ (if is_plus (opposite e) then p else m))
      → option_map {U = Queue} (λ k. record { numbers = ns; receiver = receiver_of e k }) (link_by l p m h) ≡ (if l then Some (record { numbers = ns; receiver = if h then None else option_map (λ h. h.comp) q }) else None)
  ends_by Plus true h p m q ns e = ap (λ z. Some (record { numbers = ns; receiver = if h then None else option_map (λ h. h.comp) z })) (sym e)
  ends_by Minus true h p m q ns e = ap (λ z. Some (record { numbers = ns; receiver = if h then None else option_map (λ h. h.comp) z })) (sym e)
  ends_by Plus false h p m q ns e = refl
  ends_by Minus false h p m q ns e = refl

  other_end : (done : List Act) (x : ℕ) (d : Dir) → place S done x (opposite d) ≡ (if is_plus (opposite d) then place S done x Plus else place S done x Minus)
  other_end done x Plus = refl
  other_end done x Minus = refl

  candidate_front : (P : History) (c x : ℕ) (d : Dir) → option_map (λ a. a.no) (candidate S P c (x, d)) ≡ front_for c (queue_at S (start_of P) x d)
  unfolding candidate destination goes_out
  candidate_front P c x d =
      let ns = map (λ q. q.no) (waiting S P x d) in
      by_parts S x d c (is_living S (acts P) x) (goes_out S x d) (held S (acts P) x) (place S (acts P) x (opposite d)) (waiting S P x d) (outer_no_end S (acts P) x (opposite d))
      ∙ ap (λ q. front_for c (if goes_out S x d then None else q))
      (sym (ends_by d (is_living S (acts P) x) (held S (acts P) x) (place S (acts P) x Plus) (place S (acts P) x Minus) (place S (acts P) x (opposite d)) ns (other_end (acts P) x d)))
      ∙ ap (λ w. front_for c (queued (goes_out S x d) (map (λ q. q.no) w) d (link_at S (acts P) x))) (sym (append-nil (waiting S P x d)))

  -- ---- the least candidate

  module _ (P : History) (c x : ℕ) (d : Dir) (a : Candidate) (chosen : candidate S P c (x, d) ≡ Some a)
      (others : (y : ℕ) (e : Dir) (b : Candidate) → candidate S P c (y, e) ≡ Some b
      → (is_earlier b.no a.no ≡ false) × (stands_before y e x d ≡ true → is_earlier a.no b.no ≡ true)) where
    abbrev before : Candidate → Candidate → Bool
    before a b = is_earlier a.no b.no

    abbrev ways : ℕ → List Channel → List (ℕ × Dir)
    ways n cs = flat_map (λ q. (q.0, Plus) ∷ (q.0, Minus) ∷ []) (enumerate_from n cs)

    abbrev made : ℕ → List Channel → List Candidate
    made n cs = filter_map (candidate S P c) (ways n cs)

    over : (o r : Option Candidate) → r ≡ Some a → ((b : Candidate) → o ≡ Some b → before a b ≡ true) → (rest : List Candidate) → least before rest ≡ r → least before (cons_option o rest) ≡ Some a
    over None r e h rest l = l ∙ e
    over (Some b) r e h rest l = ap (λ o. Some (lesser before b o)) (l ∙ e) ∙ ap (λ t. Some (if t then a else b)) (h b refl)

    at_front : (r : Option Candidate) (rest : List Candidate) → least before rest ≡ r → ((b : Candidate) → r ≡ Some b → before b a ≡ false) → least before (a ∷ rest) ≡ Some a
    at_front None rest l h = ap (λ o. Some (lesser before a o)) l
    at_front (Some b) rest l h = ap (λ o. Some (lesser before a o)) l ∙ ap (λ t. Some (if t then b else a)) (h b refl)

    -- the chosen one before the rest
    takes : (zs : List (ℕ × Dir)) → least before (cons_option (candidate S P c (x, d)) (filter_map (candidate S P c) zs)) ≡ Some a
    takes zs =
        ap (λ o. least before (cons_option o (filter_map (candidate S P c) zs))) chosen
        ∙ at_front (least before (filter_map (candidate S P c) zs)) (filter_map (candidate S P c) zs) refl
        (λ b e. let z = made_by (candidate S P c) zs b (least_in before (filter_map (candidate S P c) zs) b e) in (others z.0.0 z.0.1 b z.1).0)

    -- one that stands before it
    passes_over : (y : ℕ) (e : Dir) (rest : List Candidate) → stands_before y e x d ≡ true → least before rest ≡ Some a → least before (cons_option (candidate S P c (y, e)) rest) ≡ Some a
    passes_over y e rest h l = over (candidate S P c (y, e)) (Some a) refl (λ b k. (others y e b k).1 h) rest l

    lesser_channel : (n : ℕ) (e : Dir) → n < x → stands_before n e x d ≡ true
    lesser_channel n e h = ap (λ t. t || (n == x && is_plus e && not (is_plus d))) (lt-ltb n x h)

    same_channel : (n : ℕ) → n ≡ x → d ≡ Minus → stands_before n Plus x d ≡ true
    same_channel n h m = or_right (nat_lt n x) _ (and_make (n == x && true) (not (is_plus d)) (and_make (n == x) true (eq-eqb n x h) refl) (ap (λ e. not (is_plus e)) m))

    here_at : (n : ℕ) (rest : List (ℕ × Dir)) (e : Dir) → d ≡ e → n ≡ x
        → least before (cons_option (candidate S P c (n, Plus)) (cons_option (candidate S P c (n, Minus)) (filter_map (candidate S P c) rest))) ≡ Some a
    here_at n rest Plus q h =
        ap (λ z. least before (cons_option (candidate S P c z) (filter_map (candidate S P c) ((n, Minus) ∷ rest)))) (let e : (n, Plus) ≡ (x, d) = cc in e)
        ∙ takes ((n, Minus) ∷ rest)
    here_at n rest Minus q h =
        passes_over n Plus (cons_option (candidate S P c (n, Minus)) (filter_map (candidate S P c) rest)) (same_channel n h q)
        (ap (λ z. least before (cons_option (candidate S P c z) (filter_map (candidate S P c) rest))) (let e : (n, Minus) ≡ (x, d) = cc in e) ∙ takes rest)

    least_from : (n : ℕ) (cs : List Channel) → n ≤ x → x < n + length cs → least before (made n cs) ≡ Some a
    least_from n [] h k = absurd (omega (arith, h, k))
    least_from n (q ∷ cs) h k = elim (eqb_tells n x) [
      | inl t ↦ here_at n (ways (n + 1) cs) d refl t.1
      | inr t ↦
          let less : n < x = lesser_of n x h t.0 in
          passes_over n Plus _ (lesser_channel n Plus less) (passes_over n Minus _ (lesser_channel n Minus less) (least_from (n + 1) cs (omega (arith, less)) (omega (arith, k))))
    ]

  -- ---- the next item

  in_range : (done : List Act) (x : ℕ) → is_living S done x ≡ true → x < length (channels S done)
  unfolding is_living
  in_range done x h = go (slice_get (channels S done) x) refl h
    where
      go : (o : Option Channel) → slice_get (channels S done) x ≡ o → option_map_or (channel_alive S done) o false ≡ true → x < length (channels S done)
      go None e k = absurd cc
      go (Some q) e k = slice_get_within (channels S done) x q e

  candidate_arrives : (P : History) (c x : ℕ) (d : Dir) (r : IsCandidate S P c x d) → candidate S P c (x, d) ≡ Some (arriving S x d r.half r.envelope)
  unfolding candidate
  candidate_arrives P c x d r =
      ap (option_and_then (λ h. if h.comp == c && is_living S (acts P) x && not (held S (acts P) x) then option_map (arriving S x d h) (first (waiting S P x d)) else None)) r.ends
      ∙ ap (λ b. if b then option_map (arriving S x d r.half) (first (waiting S P x d)) else None) (and_make _ _ (and_make _ _ (eq-eqb r.half.comp c r.at) r.living) (ap not r.free))
      ∙ ap (option_map (arriving S x d r.half)) r.first_is

  next_by : (P : History) (c : ℕ) → first (control_waiting S P c) ≡ None → next S P c ≡ option_map (λ a. a.item) (least (λ a b. is_earlier a.no b.no) (candidates S P c))
  unfolding next
  next_by P c h = ap (λ k. either (option_map Control k) (option_map (λ a. a.item) (least (λ a b. is_earlier a.no b.no) (candidates S P c)))) h

  pub front_is : (P : History) (m : State) (c x : ℕ) (d : Dir) → StandsAt S (start_of P) m → option_map (λ a. a.no) (candidate S P c (x, d)) ≡ front_for c (m.queues x d)
  front_is P m c x d s = candidate_front P c x d ∙ ap (front_for c) (sym (s.queues x d))

pub takes_next : NextIsFirst
unfolding candidates directions
takes_next S P m c None s i h =
    next_by S P c h
    ∙ ap (λ cs. option_map (λ a. a.item) (least (λ a b. is_earlier a.no b.no) cs))
    (nothing_made (candidate S P c) (directions S P) (λ z k. no_number (candidate S P c z) (front_is S P m c z.0 z.1 s ∙ i z.0 z.1)))
takes_next S P m c (Some f) s i h =
    let a = mapped (λ a. a.no) (candidate S P c (f.chan, f.dir)) f.no (front_is S P m c f.chan f.dir s ∙ i.0) in
    let r = candidate_is S P c f.chan f.dir a.0 a.1 in
    let made = candidate_arrives S P c f.chan f.dir r in
    let others : (y : ℕ) (e : Dir) (b : Candidate) → candidate S P c (y, e) ≡ Some b → (is_earlier b.no f.no ≡ false) × (stands_before y e f.chan f.dir ≡ true → is_earlier f.no b.no ≡ true) =
    λ y e b k. i.1 y e b.no (sym (front_is S P m c y e s) ∙ ap (option_map (λ z. z.no)) k) in
    let no : r.envelope.no ≡ f.no = Some-injective (sym (ap (option_map (λ z. z.no)) made) ∙ (front_is S P m c f.chan f.dir s ∙ i.0)) in
    let least_is = least_from S P c f.chan f.dir (arriving S f.chan f.dir r.half r.envelope) made (λ y e b k. let o = others y e b k in (ap (is_earlier b.no) no ∙ o.0, λ t. ap (λ n. is_earlier n b.no) no ∙ o.1 t)) 0 (channels S (acts P)) (omega arith) (omega (arith, in_range S (acts P) f.chan r.living)) in
    (r.half, r.envelope, r.ends, r.first_is, no, next_by S P c h ∙ ap (option_map (λ a. a.item)) least_is ∙ ap (λ n. Some (Arrival f.chan f.dir n r.half.port r.half.side r.envelope.event r.envelope.back)) no)
