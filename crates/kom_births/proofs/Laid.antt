-- The channels that are planted with new instances are those that the definitions of a run give them.
use Rattle.std.proofs.Common.{◌≡◌, ℕ, zero, suc, ◌+◌, ◌-◌, ◌<◌, ◌≤◌, ◌||◌, true, false, refl, sym, ap, ◌∙◌, List, [], ◌∷◌, ◌++◌, length, map, Option, Some, None, if◌then◌else◌, arith}
use Rattle.std.specs.Prelude.{slice_get, is_none, ◌==◌, ◌&&◌}
use Rattle.std.specs.List.{enumerate_from, flat_map}
use Rattle.std.specs.Option.{option_map, option_map_or, option_and_then}
use Rattle.std.proofs.lemmas.List.{length-map}
use Rattle.std.proofs.lemmas.List.FromFn.{length-enumerate_from}
use Rattle.std.proofs.lemmas.Option.{slice_get-map}
use Rattle.kom_base.specs.declared.numbers.Dir.{Dir}
use Rattle.kom_base.specs.declared.numbers.Dir.TheVariants.{Plus, Minus}
use Rattle.kom_base.specs.declared.numbers.Half.{Half}
use Rattle.kom_base.specs.declared.numbers.Side.TheVariants.{Outside}
use Rattle.kom_base.specs.Lists.{either, first}
use Rattle.kom_lang.specs.Declarations.{Declarations, kind_of}
use Rattle.kom_lang.specs.declared.kind.ChannelDecl.{ChannelDecl}
use Rattle.kom_lang.specs.declared.kind.Place.{Place}
use Rattle.kom_record.specs.Model.{model}
use Rattle.kom_record.specs.Entries.{Act}
use Rattle.kom_record.specs.Instances.{Instance, alive, born, occupant, child_among}
use Rattle.kom_record.specs.Channels.{Channel, Own, channels, channels_of, channel_alive, channel_end, channel_held, half_of, declared_place, declared_end, declared_held, wire_end, wire_held}
use Rattle.kom_laws.proofs.ListFacts.{get_left, get_right, got_at}
use Rattle.kom_wiring.specs.declared.link.Link.{Link as WireLink}
use Rattle.kom_refine.specs.States.{Link}
use Rattle.kom_refine.specs.Points.{link_at}
use Rattle.kom_state.specs.Parts.{link_seen}
use Rattle.kom_births.specs.declared.sprout.Sprout.{Sprout}
use Rattle.kom_births.specs.declared.sprout.Seat.{Seat}
use Rattle.kom_births.specs.Seeds.{half_in, link_in, seed_in, links_of}
use Rattle.kom_births.specs.Sprouts.{sprout_of, seat_of, child_in, sits_in}
use Rattle.kom_births.proofs.Sown.{by_halves}

module _ (S : Declarations) where
  -- who is found among sprouts
  seat_test : (p s : ℕ) (o : Option (ℕ × ℕ)) → option_map_or (λ (q : Seat). q.comp == p && q.slot == s) (option_map (λ (q : ℕ × ℕ). record { comp = q.0; slot = q.1 }) o) false ≡ option_map_or (λ (q : ℕ × ℕ). q.0 == p && q.1 == s) o false
  seat_test p s None = refl
  seat_test p s (Some q) = refl

  pub child_is : (p s n : ℕ) (is : List Instance) → child_in p s n (map sprout_of is) ≡ child_among S p s n is
  unfolding child_among
  child_is p s n [] = refl
  child_is p s n (i ∷ is) =
      ap (λ o. either o (if sits_in p s (seat_of i) then Some n else None)) (child_is p s (suc n) is)
      ∙ ap (λ b. either (child_among S p s (suc n) is) (if b then Some n else None)) (seat_test p s (first i.ancestry))

  -- `news` are the instances from the number n on, and theirs are the channels from `chans` on
  module _ (done : List Act) (n chans : ℕ) (news : List Instance)
      (born_is : (j : ℕ) → slice_get (born S done) (n + j) ≡ slice_get news j)
      (chan_is : (y : ℕ) → slice_get (channels S done) (chans + y) ≡ slice_get (flat_map (channels_of S) (enumerate_from n news)) y)
      (end_is : (c k : ℕ) (e : Dir) → n ≤ c → wire_end S done c k e ≡ declared_end S done c k e)
      (held_is : (c k : ℕ) → n ≤ c → wire_held S done c k ≡ declared_held S done c k)
      (lives : (c : ℕ) → n ≤ c → c < n + length news → alive S done c ≡ true)
      (occupant_is : (c s : ℕ) → n ≤ c → occupant S done c s ≡ child_among S c s n news) where
    abbrev sprouts : List Sprout
    sprouts = map sprout_of news

    abbrev links_at : ℕ → Instance → List WireLink
    links_at c i = map (link_in n sprouts c) (kind_of S i.kind).channels

    abbrev own_links : ℕ → List Instance → List WireLink
    own_links c is = flat_map (λ (q : ℕ × Instance). links_at q.0 q.1) (enumerate_from c is)

    half_is : (c : ℕ) (p : Place) → n ≤ c → half_of S done c p ≡ half_in n sprouts c p
    unfolding half_of
    half_is c p h = at p.slot
      where
        at : (o : Option ℕ) → half_of S done c (record { slot = o; port = p.port }) ≡ half_in n sprouts c (record { slot = o; port = p.port })
        at None = refl
        at (Some s) = ap {B = Option Half} (option_map (λ q. record { comp = q; port = p.port; side = Outside })) (occupant_is c s h ∙ sym (child_is c s n news))

    by_half : (c : ℕ) (o : Option Place) → n ≤ c → option_and_then (half_of S done c) o ≡ option_and_then (half_in n sprouts c) o
    by_half c None h = refl
    by_half c (Some p) h = half_is c p h

    decl_at : (c k : ℕ) (i : Instance) (d : ChannelDecl) → slice_get (born S done) c ≡ Some i → slice_get (kind_of S i.kind).channels k ≡ Some d
        → option_and_then (λ i. slice_get (kind_of S i.kind).channels k) (slice_get (born S done) c) ≡ Some d
    decl_at c k i d e f = ap (option_and_then (λ (i : Instance). slice_get (kind_of S i.kind).channels k)) e ∙ f

    declared : (c k : ℕ) (i : Instance) (d : ChannelDecl) (e : Dir) → n ≤ c → slice_get (born S done) c ≡ Some i → slice_get (kind_of S i.kind).channels k ≡ Some d
        → wire_end S done c k e ≡ option_and_then (half_in n sprouts c) (declared_place d e)
    unfolding model
    declared c k i d e h b f =
        end_is c k e h
        ∙ ap (option_and_then (λ (x : ChannelDecl). option_and_then (half_of S done c) (declared_place x e))) (decl_at c k i d b f)
        ∙ by_half c (declared_place d e) h

    holding : (c k : ℕ) (i : Instance) (d : ChannelDecl) → n ≤ c → slice_get (born S done) c ≡ Some i → slice_get (kind_of S i.kind).channels k ≡ Some d
        → wire_held S done c k ≡ (is_none d.plus || is_none d.minus)
    unfolding model
    holding c k i d h b f = held_is c k h ∙ ap (λ (o : Option ChannelDecl). option_map_or (λ (x : ChannelDecl). is_none x.plus || is_none x.minus) o false) (decl_at c k i d b f)

    -- the channel by what it is
    abbrev link_by : Option Channel → Option Link
    link_by o = if option_map_or (channel_alive S done) o false
        then Some (record { plus = option_and_then (channel_end S done Plus) o; minus = option_and_then (channel_end S done Minus) o; held = option_map_or (channel_held S done) o false }) else None

    seen_by : (c k : ℕ) (i : Instance) (d : ChannelDecl) → n ≤ c → c < n + length news → slice_get (born S done) c ≡ Some i → slice_get (kind_of S i.kind).channels k ≡ Some d
        → link_by (Some (Own c k)) ≡ Some (link_seen (link_in n sprouts c d))
    seen_by c k i d h l b f =
        ap (λ t. if t then Some (record { plus = wire_end S done c k Plus; minus = wire_end S done c k Minus; held = wire_held S done c k }) else None) (lives c h l)
        ∙ ap {B = Option Link} (λ p. Some (record { plus = p; minus = wire_end S done c k Minus; held = wire_held S done c k })) (declared c k i d Plus h b f)
        ∙ ap {B = Option Link} (λ p. Some (record { plus = option_and_then (half_in n sprouts c) d.plus; minus = p; held = wire_held S done c k })) (declared c k i d Minus h b f)
        ∙ ap {B = Option Link} (λ t. Some (record { plus = option_and_then (half_in n sprouts c) d.plus; minus = option_and_then (half_in n sprouts c) d.minus; held = t })) (holding c k i d h b f)

    own_place : (c b : ℕ) (ds : List ChannelDecl) (y : ℕ) → y < length ds → slice_get (map (λ (k : ℕ × ChannelDecl). Own c k.0) (enumerate_from b ds)) y ≡ Some (Own c (b + y))
    own_place c b [] y h = absurd (omega (arith, h))
    own_place c b (d ∷ ds) zero h = ap (λ z. Some (Own c z)) (let e : b ≡ b + 0 = omega arith in e)
    own_place c b (d ∷ ds) (suc y) h = own_place c (b + 1) ds y (omega (arith, h)) ∙ ap (λ z. Some (Own c z)) (let e : (b + 1) + y ≡ b + suc y = omega arith in e)

    own_width : (c : ℕ) (i : Instance) → length (channels_of S (c, i)) ≡ length (kind_of S i.kind).channels
    own_width c i = length-map (enumerate_from 0 (kind_of S i.kind).channels) (λ (k : ℕ × ChannelDecl). Own c k.0) ∙ length-enumerate_from 0 (kind_of S i.kind).channels

    link_width : (c : ℕ) (i : Instance) → length (links_at c i) ≡ length (kind_of S i.kind).channels
    link_width c i = length-map (kind_of S i.kind).channels (link_in n sprouts c)

    within : (c : ℕ) (i : Instance) (y : ℕ) → n ≤ c → c < n + length news → slice_get (born S done) c ≡ Some i → y < length (kind_of S i.kind).channels
        → link_by (slice_get (channels_of S (c, i)) y) ≡ option_map link_seen (slice_get (links_at c i) y)
    within c i y h l b k =
        let g = got_at (kind_of S i.kind).channels y k in
        ap link_by (own_place c 0 (kind_of S i.kind).channels y k ∙ ap (λ z. Some (Own c z)) (let e : 0 + y ≡ y = omega arith in e))
        ∙ seen_by c y i g.0 h l b g.1
        ∙ ap (option_map link_seen) (sym (slice_get-map (link_in n sprouts c) (kind_of S i.kind).channels y ∙ ap (option_map (link_in n sprouts c)) g.1))

    laid_from : (j : ℕ) (is : List Instance) (y : ℕ) → ((k : ℕ) → slice_get news (j + k) ≡ slice_get is k) → j + length is ≡ length news
        → link_by (slice_get (flat_map (channels_of S) (enumerate_from (n + j) is)) y) ≡ option_map link_seen (slice_get (own_links (n + j) is) y)
    laid_from j [] y g l = refl
    laid_from j (i ∷ is) y g l =
        let c = n + j in
        let b : slice_get (born S done) c ≡ Some i = born_is j ∙ ap (slice_get news) (let e : j ≡ j + 0 = omega arith in e) ∙ g 0 in
        let ws = flat_map (channels_of S) (enumerate_from (c + 1) is) in
        let ls = own_links (c + 1) is in
        by_halves y (length (kind_of S i.kind).channels)
        (λ h.
        ap link_by (get_left (channels_of S (c, i)) ws y (omega (arith, h, own_width c i)))
        ∙ within c i y (omega arith) (omega (arith, l)) b h
        ∙ ap (option_map link_seen) (sym (get_left (links_at c i) ls y (omega (arith, h, link_width c i)))))
        (λ h.
        let z = y - length (kind_of S i.kind).channels in
        ap link_by (ap (slice_get (channels_of S (c, i) ++ ws)) (let e : y ≡ length (channels_of S (c, i)) + z = omega (arith, h, own_width c i) in e) ∙ get_right (channels_of S (c, i)) ws z)
        ∙ ap (λ m. link_by (slice_get (flat_map (channels_of S) (enumerate_from m is)) z)) (let e : (n + j) + 1 ≡ n + (j + 1) = omega arith in e)
        ∙ laid_from (j + 1) is z (λ k. ap (slice_get news) (let e : (j + 1) + k ≡ j + suc k = omega arith in e) ∙ g (suc k)) (omega (arith, l))
        ∙ ap (λ m. option_map link_seen (slice_get (own_links m is) z)) (let e : n + (j + 1) ≡ (n + j) + 1 = omega arith in e)
        ∙ ap (option_map link_seen) (sym (ap (slice_get (links_at c i ++ ls)) (let e : y ≡ length (links_at c i) + z = omega (arith, h, link_width c i) in e) ∙ get_right (links_at c i) ls z)))

    seeds_links : (c : ℕ) (is : List Instance) → links_of (map (λ (q : ℕ × Instance). seed_in n sprouts S (q.0, sprout_of q.1)) (enumerate_from c is)) ≡ own_links c is
    seeds_links c [] = refl
    seeds_links c (i ∷ is) = ap (λ l. links_at c i ++ l) (seeds_links (c + 1) is)

    pub laid : (x : ℕ) → chans ≤ x → link_at S done x ≡ option_map link_seen (slice_get (links_of (map (λ (q : ℕ × Instance). seed_in n sprouts S (q.0, sprout_of q.1)) (enumerate_from n news))) (x - chans))
    unfolding model
    laid x h =
        ap link_by (ap (slice_get (channels S done)) (let e : x ≡ chans + (x - chans) = omega (arith, h) in e) ∙ chan_is (x - chans))
        ∙ ap (λ m. link_by (slice_get (flat_map (channels_of S) (enumerate_from m news)) (x - chans))) (let e : n ≡ n + 0 = omega arith in e)
        ∙ laid_from 0 news (x - chans) (λ k. ap (slice_get news) (let e : 0 + k ≡ k = omega arith in e)) (omega arith)
        ∙ ap (λ m. option_map link_seen (slice_get (own_links m news) (x - chans))) (let e : n + 0 ≡ n = omega arith in e)
        ∙ ap (λ l. option_map link_seen (slice_get l (x - chans))) (sym (seeds_links n news))
