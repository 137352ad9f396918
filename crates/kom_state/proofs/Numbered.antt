-- The numbers that the state keeps are those of the definitions of a run.
use Rattle.std.proofs.Common.{◌≡◌, ℕ, zero, suc, ◌+◌, ◌-◌, ◌<◌, Bool, true, false, ◌&&◌, List, [], ◌∷◌, ◌++◌, length, map, Option, Some, None, refl, sym, ap, ◌∙◌, arith, if◌then◌else◌}
use Rattle.std.specs.Prelude.{slice_get, slice_index_or, ◌==◌, nat_lt}
use Rattle.kom_base.specs.declared.numbers.Dir.{Dir}
use Rattle.std.specs.List.{enumerate_from, flat_map, list_any}
use Rattle.std.specs.Option.{option_map, option_map_or}
use Rattle.std.proofs.lemmas.Bool.{ltb-true, ltb-false}
use Rattle.std.proofs.lemmas.List.{length-map, length-append}
use Rattle.std.proofs.lemmas.List.FromFn.{length-enumerate_from}
use Rattle.std.proofs.lemmas.Option.{slice_get-map}
use Rattle.kom_lang.specs.Declarations.{Declarations, kind_of}
use Rattle.kom_lang.specs.declared.kind.ChannelDecl.{ChannelDecl}
use Rattle.kom_lang.specs.declared.kind.PortDecl.{PortDecl}
use Rattle.kom_record.specs.Model.{model}
use Rattle.kom_record.specs.Entries.{Act}
use Rattle.kom_record.specs.Instances.{Instance, born, ancestry_of}
use Rattle.kom_record.specs.Channels.{Channel, Environment, Own, channels, channels_of, goes_out}
use Rattle.kom_laws.proofs.ListFacts.{get_left, get_right}
use Rattle.kom_numbers.specs.Numbering.{wire_among, wire_at, channel_at, is_pair, out_of, count_of, leads_out, total}
use Rattle.kom_numbers.proofs.Ownership.{added, sum_is}
use Rattle.kom_refine.specs.States.{Node}
use Rattle.kom_refine.specs.Points.{node_of}
use Rattle.kom_refine.specs.Steps.{is_channel, lies_in, is_below}
use Rattle.kom_state.specs.Parts.{Parts, state_of, IsOf}
use Rattle.kom_state.specs.Laws.{AreNumbered, ChannelsAreNumbered, NumbersStay}
use Rattle.kom_state.proofs.Begun.{out_is}

-- the places of a numbered list
place_at : {A B : Type 0} (f : ℕ → B) (b : ℕ) (xs : List A) (y : ℕ) → y < length xs → slice_get (map (λ (q : ℕ × A). f q.0) (enumerate_from b xs)) y ≡ Some (f (b + y))
place_at f b [] y h = absurd (omega (arith, h))
place_at f b (x ∷ xs) zero h = let e : b ≡ b + 0 = omega arith in ap (λ z. Some (f z)) e
place_at f b (x ∷ xs) (suc y) h = let e : b + 1 + y ≡ b + suc y = omega arith in place_at f (b + 1) xs y (omega (arith, h)) ∙ ap (λ z. Some (f z)) e

module _ (S : Declarations) where
  abbrev count_in : Instance → ℕ
  count_in i = length (kind_of S i.kind).channels

  own_long : (b : ℕ) (i : Instance) → length (channels_of S (b, i)) ≡ count_in i
  own_long b i = length-map (enumerate_from 0 (kind_of S i.kind).channels) (λ (k : ℕ × ChannelDecl). Own b k.0) ∙ length-enumerate_from 0 (kind_of S i.kind).channels

  -- the channels of the instances from the number b on
  own_at : (b : ℕ) (is : List Instance) (y : ℕ) → slice_get (flat_map (channels_of S) (enumerate_from b is)) y ≡ option_map (λ (q : ℕ × ℕ). Own q.0 q.1) (wire_among b (map count_in is) y)
  own_at b [] y = refl
  own_at b (i ∷ is) y = at (nat_lt y (count_in i)) refl (own_at (b + 1) is (y - count_in i))
    where
      at : (t : Bool) → nat_lt y (count_in i) ≡ t
          → slice_get (flat_map (channels_of S) (enumerate_from (b + 1) is)) (y - count_in i) ≡ option_map (λ (q : ℕ × ℕ). Own q.0 q.1) (wire_among (b + 1) (map count_in is) (y - count_in i))
          → slice_get (channels_of S (b, i) ++ flat_map (channels_of S) (enumerate_from (b + 1) is)) y ≡ option_map (λ (q : ℕ × ℕ). Own q.0 q.1) (if nat_lt y (count_in i) then Some (b, y) else wire_among (suc b) (map count_in is) (y - count_in i))
      at true e rest =
          let l = ltb-true y (count_in i) e in
          let z : 0 + y ≡ y = omega arith in
          get_left (channels_of S (b, i)) (flat_map (channels_of S) (enumerate_from (b + 1) is)) y (omega (arith, l, own_long b i))
          ∙ place_at (Own b) 0 (kind_of S i.kind).channels y l ∙ ap (λ k. Some (Own b k)) z
          ∙ sym (ap (λ t. option_map (λ (q : ℕ × ℕ). Own q.0 q.1) (if t then Some (b, y) else wire_among (suc b) (map count_in is) (y - count_in i))) e)
      at false e rest =
          let l = ltb-false y (count_in i) e in
          let z : y ≡ length (channels_of S (b, i)) + (y - count_in i) = omega (arith, l, own_long b i) in
          let s : b + 1 ≡ suc b = omega arith in
          ap (slice_get (channels_of S (b, i) ++ flat_map (channels_of S) (enumerate_from (b + 1) is))) z
          ∙ get_right (channels_of S (b, i)) (flat_map (channels_of S) (enumerate_from (b + 1) is)) (y - count_in i)
          ∙ rest
          ∙ ap (λ c. option_map (λ (q : ℕ × ℕ). Own q.0 q.1) (wire_among c (map count_in is) (y - count_in i))) s
          ∙ sym (ap (λ t. option_map (λ (q : ℕ × ℕ). Own q.0 q.1) (if t then Some (b, y) else wire_among (suc b) (map count_in is) (y - count_in i))) e)

  counts_by : (is : List Instance) → map (λ k. length (kind_of S k).channels) (map (λ (n : Node). n.kind) (map node_of is)) ≡ map count_in is
  counts_by [] = refl
  counts_by (i ∷ is) = ap (λ l. count_in i ∷ l) (counts_by is)

  module _ (done : List Act) (v : Parts) (of : IsOf S v) (stands : (state_of v).nodes ≡ map node_of (born S done)) where
    abbrev ports : List PortDecl
    ports = (kind_of S S.root.kind).ports

    outs_long : length v.numbers.outs ≡ length ports
    unfolding IsOf
    outs_long = ap length of.outs ∙ length-map ports (λ (p : PortDecl). out_of p.provided)

    counts_are : v.numbers.counts ≡ map count_in (born S done)
    unfolding IsOf
    counts_are = of.counts ∙ ap (λ ns. map (λ k. length (kind_of S k).channels) (map (λ (n : Node). n.kind) ns)) stands ∙ counts_by (born S done)

    abbrev outer : List Channel
    outer = map (λ (q : ℕ × PortDecl). Environment q.0) (enumerate_from 0 ports)

    outer_long : length outer ≡ length ports
    outer_long = length-map (enumerate_from 0 ports) (λ (q : ℕ × PortDecl). Environment q.0) ∙ length-enumerate_from 0 ports

    abbrev inner : List Channel
    inner = flat_map (channels_of S) (enumerate_from 0 (born S done))

    channel_by : (x : ℕ) (t : Bool) → nat_lt x (length v.numbers.outs) ≡ t → slice_get (outer ++ inner) x ≡ channel_at v.numbers x
    channel_by x true e =
        let l = ltb-true x (length v.numbers.outs) e in
        let z : 0 + x ≡ x = omega arith in
        get_left outer inner x (omega (arith, l, outs_long, outer_long))
        ∙ place_at Environment 0 ports x (omega (arith, l, outs_long)) ∙ ap (λ k. Some (Environment k)) z
        ∙ sym (ap (λ t. if t then Some (Environment x) else option_map (λ (q : ℕ × ℕ). Own q.0 q.1) (wire_at v.numbers x)) e)
    channel_by x false e =
        let l = ltb-false x (length v.numbers.outs) e in
        let z : x ≡ length outer + (x - length v.numbers.outs) = omega (arith, l, outs_long, outer_long) in
        ap (slice_get (outer ++ inner)) z
        ∙ get_right outer inner (x - length v.numbers.outs)
        ∙ own_at 0 (born S done) (x - length v.numbers.outs)
        ∙ ap (λ ns. option_map (λ (q : ℕ × ℕ). Own q.0 q.1) (wire_among 0 ns (x - length v.numbers.outs))) (sym counts_are)
        ∙ sym (ap (λ t. if t then Some (Environment x) else option_map (λ (q : ℕ × ℕ). Own q.0 q.1) (if t then None else wire_among 0 v.numbers.counts (x - length v.numbers.outs))) e)

    channel_is : (x : ℕ) → slice_get (channels S done) x ≡ channel_at v.numbers x
    unfolding model
    channel_is x = channel_by x (nat_lt x (length v.numbers.outs)) refl

    -- what is asked of a channel by its wire
    by_wire : (f : Channel → Bool) (g : ℕ × ℕ → Bool) → ((q : ℕ) → f (Environment q) ≡ false) → ((q : ℕ × ℕ) → f (Own q.0 q.1) ≡ g q) → (x : ℕ) → option_map_or f (channel_at v.numbers x) false ≡ option_map_or g (wire_at v.numbers x) false
    by_wire f g env own x = at (nat_lt x (length v.numbers.outs)) refl
      where
        wires : (o : Option (ℕ × ℕ)) → option_map_or f (option_map (λ (q : ℕ × ℕ). Own q.0 q.1) o) false ≡ option_map_or g o false
        wires None = refl
        wires (Some q) = own q

        at : (t : Bool) → nat_lt x (length v.numbers.outs) ≡ t → option_map_or f (channel_at v.numbers x) false ≡ option_map_or g (wire_at v.numbers x) false
        at true e =
            ap (λ t. option_map_or f (if t then Some (Environment x) else option_map (λ (q : ℕ × ℕ). Own q.0 q.1) (wire_at v.numbers x)) false) e ∙ env x
            ∙ sym (ap (λ t. option_map_or g (if t then None else wire_among 0 v.numbers.counts (x - length v.numbers.outs)) false) e)
        at false e = ap (λ t. option_map_or f (if t then Some (Environment x) else option_map (λ (q : ℕ × ℕ). Own q.0 q.1) (wire_at v.numbers x)) false) e ∙ wires (wire_at v.numbers x)

    lies_is : (c slot d : ℕ) → list_any (λ q. c == q.0 && slot == q.1) (ancestry_of S (born S done) d) ≡ is_below (state_of v) c slot d
    unfolding model
    lies_is c slot d = at (slice_get (born S done) d) ∙ ap (λ o. option_map_or (λ (n : Node). list_any (λ q. c == q.0 && slot == q.1) n.ancestry) o false) (sym (slice_get-map node_of (born S done) d)) ∙ ap (λ ns. option_map_or (λ (n : Node). list_any (λ q. c == q.0 && slot == q.1) n.ancestry) (slice_get ns d) false) (sym stands)
      where
        at : (o : Option Instance) → list_any (λ q. c == q.0 && slot == q.1) (option_map_or (λ (i : Instance). i.ancestry) o []) ≡ option_map_or (λ (n : Node). list_any (λ q. c == q.0 && slot == q.1) n.ancestry) (option_map node_of o) false
        at None = refl
        at (Some i) = refl

    outer_is : (x : ℕ) (d : Dir) → goes_out S x d ≡ leads_out v.numbers x d
    unfolding IsOf
    outer_is x d = sym (out_is S v of.outs x d)

    width_at : (is : List Instance) (c : ℕ) (i : Instance) → slice_get is c ≡ Some i → slice_index_or (map count_in is) c 0 ≡ count_in i
    width_at [] c i e = absurd (cc)
    width_at (j ∷ is) zero i e = let f : ◌≡◌ {A = Instance} j i = cc in ap count_in f
    width_at (j ∷ is) (suc c) i e = width_at is c i e

    width_is : (c : ℕ) (i : Instance) → slice_get (born S done) c ≡ Some i → count_of v.numbers c ≡ count_in i
    width_is c i e = ap (λ ns. slice_index_or ns c 0) counts_are ∙ width_at (born S done) c i e

    inner_long : (b : ℕ) (is : List Instance) → length (flat_map (channels_of S) (enumerate_from b is)) ≡ added (map count_in is)
    inner_long b [] = refl
    inner_long b (i ∷ is) =
        length-append (channels_of S (b, i)) (flat_map (channels_of S) (enumerate_from (b + 1) is))
        ∙ ap (λ k. k + length (flat_map (channels_of S) (enumerate_from (b + 1) is))) (own_long b i)
        ∙ ap (λ k. count_in i + k) (inner_long (b + 1) is)

    counted_is : length (channels S done) ≡ total v.numbers
    unfolding model
    counted_is =
        length-append outer inner
        ∙ ap (λ k. k + length inner) (outer_long ∙ sym outs_long)
        ∙ ap (λ k. length v.numbers.outs + k) (inner_long 0 (born S done) ∙ ap added (sym counts_are) ∙ sym (sum_is v.numbers.counts))

    are_numbered : AreNumbered S done v
    are_numbered = record {
      channel = channel_is;
      named = λ c k x. ap (λ o. option_map_or (is_channel c k) o false) (channel_is x) ∙ by_wire (is_channel c k) (is_pair c k) (λ q. refl) (λ q. refl) x;
      dying = λ c slot x. ap (λ o. option_map_or (lies_in S done c slot) o false) (channel_is x) ∙ by_wire (lies_in S done c slot) (λ q. is_below (state_of v) c slot q.0) (λ q. refl) (λ q. lies_is c slot q.0) x;
      outer = outer_is;
      widths = width_is;
      counted = counted_is;
    }

pub channels_are_numbered : ChannelsAreNumbered
channels_are_numbered S done v of stands = are_numbered S done v of stands

pub numbers_stay : NumbersStay
unfolding IsOf
numbers_stay S v w of nodes outs counts = record {
  outs = outs ∙ of.outs;
  counts = counts ∙ of.counts ∙ ap (λ ns. map (λ k. length (kind_of S k).channels) (map (λ (n : Node). n.kind) ns)) (sym nodes);
}
