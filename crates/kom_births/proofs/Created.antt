-- What is planted of a tree is what its creation makes of the state.
use Rattle.std.proofs.Common.{◌≡◌, ℕ, suc, ◌+◌, ◌-◌, ◌<◌, ◌≤◌, Bool, true, false, refl, sym, ap, ◌∙◌, subst, List, [], ◌∷◌, ◌++◌, length, map, Option, Some, None, if◌then◌else◌, inl, inr, eq-eqb, arith}
use Rattle.std.specs.Prelude.{slice_get, nat_lt}
use Rattle.std.specs.List.{enumerate_from, flat_map}
use Rattle.std.specs.Option.{option_map, option_map_or}
use Rattle.std.proofs.lemmas.Bool.{lt-ltb, ne_eqb}
use Rattle.std.proofs.lemmas.List.{append-nil, length-append, length-map, map-append}
use Rattle.std.proofs.lemmas.Option.{slice_get_past, slice_get_within, slice_get-map}
use Rattle.kom_base.specs.declared.numbers.Dir.{Dir}
use Rattle.kom_base.specs.Lists.{either, first, if_so}
use Rattle.kom_lang.specs.Declarations.{Declarations, kind_of}
use Rattle.kom_lang.specs.declared.body.Body.{Body}
use Rattle.kom_lang.specs.declared.body.Birth.{Birth}
use Rattle.kom_lang.specs.declared.body.Effect.TheVariants as effect
use Rattle.kom_record.specs.Model.{model}
use Rattle.kom_record.specs.declared.item.Item.{Item}
use Rattle.kom_record.specs.Entries.{Act}
use Rattle.kom_record.specs.Instances.{Instance, depth_limit, child_among, alive, born, created, occupant, ancestry_of}
use Rattle.kom_record.specs.Channels.{channels, channels_of, channel_alive}
use Rattle.kom_record.specs.Controls.{inits, inits_for}
use Rattle.kom_laws.proofs.ChannelLaws.{channels_act}
use Rattle.kom_laws.proofs.InstanceLaws.{ActsByBorn, alive_born, born_act, occupant_unborn}
use Rattle.kom_laws.proofs.ListFacts.{get_left, get_right}
use Rattle.kom_laws.proofs.Members.{Some-injective}
use Rattle.kom_lives.proofs.Lineage.{HasParent, tree_parents}
use Rattle.kom_lives.proofs.Single.{AreSingle, none_later, single_tree}
use Rattle.kom_refine.specs.States.{Node, Link, Queue, State}
use Rattle.kom_refine.specs.Points.{Point, acts_at, act_of, node_of, link_at, StandsAt, AreByCreated}
use Rattle.kom_refine.specs.Steps.{IsCreated, first_body_of, row_with}
use Rattle.kom_refine.proofs.Creating.{before_new, by_born}
use Rattle.kom_state.specs.Facts.{HoldsTogether}
use Rattle.kom_state.specs.Parts.{Parts, state_of, IsOf}
use Rattle.kom_births.specs.declared.sprout.Seat.{Seat}
use Rattle.kom_births.specs.declared.seed.Seed.{Seed}
use Rattle.kom_births.specs.Laws.{CreationsAreSown, seeds_for, news_of}
use Rattle.kom_births.specs.Seeds.{seed_in, links_of, link_in}
use Rattle.kom_births.specs.Sowing.{AreSown, MaySow, TakesRooms}
use Rattle.kom_births.specs.Sprouts.{sprout_of}
use Rattle.kom_births.proofs.Laid.{laid}
use Rattle.kom_births.proofs.Sown.{AreFree, AreRooted, IsBare, IsFree, IsGrown, by_halves, get_before, get_middle, grown, if_above, if_below, line_in, may_sow}

pub none_after : {A : Type 0} (o : Option A) → either o None ≡ o
none_after None = refl
none_after (Some x) = refl

pair_back : (o : Option (ℕ × ℕ)) → option_map (λ (a : Seat). (a.comp, a.slot)) (option_map (λ (q : ℕ × ℕ). record { comp = q.0; slot = q.1 }) o) ≡ o
pair_back None = refl
pair_back (Some q) = refl

-- ---- the tree in order of number

module _ (S : Declarations) where
  -- each is under its parent, where the first is
  pub rooted_by : (nodes : List Node) (is : List Instance) (base : List (ℕ × ℕ)) → ((more : List Node) → base ≡ line_in (nodes ++ more) (first base))
      → ((j : ℕ) (x : Instance) → slice_get is j ≡ Some x → HasParent S (length nodes) is base j x) → AreRooted nodes is
  rooted_by nodes is base h parents xs i ys e = elim (parents (length xs) i (ap (λ l. slice_get l (length xs)) e ∙ get_middle xs i ys)) [
    | inl p ↦ p ∙ h (map node_of xs) ∙ ap (λ l. line_in (nodes ++ map node_of xs) (first l)) (sym p)
    | inr p ↦
        let at : slice_get xs p.0 ≡ Some p.1 = sym (get_left xs (i ∷ ys) p.0 p.3) ∙ ap (λ l. slice_get l p.0) (sym e) ∙ p.4 in
        let node : slice_get (nodes ++ map node_of xs) (length nodes + p.0) ≡ Some (node_of p.1) = get_right nodes (map node_of xs) p.0 ∙ slice_get-map node_of xs p.0 ∙ ap (option_map node_of) at in
        p.5
        ∙ ap (λ o. (length nodes + p.0, p.2) ∷ option_map_or (λ (n : Node). n.ancestry) o []) (sym node)
        ∙ ap (λ l. line_in (nodes ++ map node_of xs) (first l)) (sym p.5)
  ]

  -- nobody before is in the same slot
  unshared : (n : ℕ) (is xs : List Instance) (i : Instance) (ys : List Instance) (q : ℕ × ℕ) → AreSingle S is → is ≡ xs ++ i ∷ ys → first i.ancestry ≡ Some q → child_among S q.0 q.1 n xs ≡ None
  unshared n is xs i ys q single e f =
      none_later S q.0 q.1 n xs (λ k y g h.
      let same = single k (length xs) y i q (ap (λ l. slice_get l k) e ∙ get_before xs (i ∷ ys) k y g) (ap (λ l. slice_get l (length xs)) e ∙ get_middle xs i ys) h f in
      absurd (omega (arith, same, slice_get_within xs k y g)))

  pub free_by : (n : ℕ) (is : List Instance) (base : List (ℕ × ℕ)) (m : State) → AreSingle S is → ((d s : ℕ) → n ≤ d → m.child d s ≡ None)
      → ((j : ℕ) (x : Instance) → slice_get is j ≡ Some x → HasParent S n is base j x)
      → ((xs : List Instance) (i : Instance) (ys : List Instance) → is ≡ xs ++ i ∷ ys → i.ancestry ≡ base → IsFree S n xs m (first i.ancestry))
      → AreFree S n is m
  free_by n is base m single empty parents top xs i ys e = elim (parents (length xs) i (ap (λ l. slice_get l (length xs)) e ∙ get_middle xs i ys)) [
    | inl p ↦ top xs i ys e p
    | inr p ↦
        let f : first i.ancestry ≡ Some (n + p.0, p.2) = ap first p.5 in
        subst (IsFree S n xs m) (sym f)
        (inr (omega arith, omega (arith, p.3)), unshared n is xs i ys (n + p.0, p.2) single e f, empty (n + p.0) p.2 (omega arith))
  ]

  -- ---- what is planted of them

  module _ (n : ℕ) (news : List Instance) where
    abbrev pub made : ℕ → Instance → Seed
    made c i = seed_in n (map sprout_of news) S (c, sprout_of i)

    pub place_of : (c : ℕ) (i : Instance) → (made c i).place ≡ first i.ancestry
    place_of c i = pair_back (first i.ancestry)

    pub body_of : (c : ℕ) (i : Instance) → (made c i).body ≡ first_body_of S i
    body_of c i = refl

    pub init_of : (c : ℕ) (i : Instance) → (made c i).init ≡ first (inits S i)
    init_of c i = refl

    seeds_from : (c : ℕ) (is : List Instance) → map (seed_in n (map sprout_of news) S) (enumerate_from c (map sprout_of is)) ≡ map (λ (q : ℕ × Instance). made q.0 q.1) (enumerate_from c is)
    seeds_from c [] = refl
    seeds_from c (i ∷ is) = ap (λ l. made c i ∷ l) (seeds_from (c + 1) is)

    pub seeds_are : seeds_for S n news ≡ map (λ (q : ℕ × Instance). made q.0 q.1) (enumerate_from n news)
    seeds_are = seeds_from n news

    abbrev pub Grown : ℕ → State → State → Type 0
    Grown chans m k = IsGrown S made place_of body_of init_of n chans news m k

    pub grown_by : (chans : ℕ) (m k : State) → IsBare n chans m → AreRooted m.nodes news → AreSown S n chans (seeds_for S n news) m k → Grown chans m k
    grown_by chans m k b r h = grown S made place_of body_of init_of n chans news m k b r (subst (λ l. AreSown S n chans l m k) seeds_are h)

    pub sown_by : (chans : ℕ) (m : State) → IsBare n chans m → AreRooted m.nodes news → AreFree S n news m → MaySow S n chans (seeds_for S n news) m
    sown_by chans m b r f = subst (λ l. MaySow S n chans l m) (sym seeds_are) (may_sow S made place_of body_of init_of n chans news m b r f)

    -- the numbers of their channels
    widths : (c : ℕ) (is : List Instance) → map (λ (s : Seed). length s.links) (map (λ (q : ℕ × Instance). made q.0 q.1) (enumerate_from c is)) ≡ map (λ k. length (kind_of S k).channels) (map (λ (x : Node). x.kind) (map node_of is))
    widths c [] = refl
    widths c (i ∷ is) =
        ap (λ w. w ∷ map (λ (s : Seed). length s.links) (map (λ (q : ℕ × Instance). made q.0 q.1) (enumerate_from (c + 1) is))) (length-map (kind_of S i.kind).channels (link_in n (map sprout_of news) c))
        ∙ ap (λ l. length (kind_of S i.kind).channels ∷ l) (widths (c + 1) is)

    abbrev counting : ℕ → ℕ
    counting k = length (kind_of S k).channels

    abbrev kinds : List Node → List ℕ
    kinds ns = map (λ (x : Node). x.kind) ns

    pub numbers_go_on : (chans : ℕ) (v w : Parts) → Grown chans (state_of v) (state_of w) → TakesRooms (seeds_for S n news) n v w → IsOf S v → IsOf S w
    unfolding IsOf
    numbers_go_on chans v w r t of = record {
      outs = t.outs ∙ of.outs;
      counts = t.counts ∙ ap (λ l. l ++ map (λ (s : Seed). length s.links) (seeds_for S n news)) of.counts
          ∙ ap (λ l. map counting (kinds (state_of v).nodes) ++ map (λ (s : Seed). length s.links) l) seeds_are
          ∙ ap (λ l. map counting (kinds (state_of v).nodes) ++ l) (widths n news)
          ∙ sym (ap (λ ns. map counting (kinds ns)) r.nodes ∙ ap (map counting) (map-append (λ (x : Node). x.kind) (state_of v).nodes (map node_of news)) ∙ map-append counting (kinds (state_of v).nodes) (kinds (map node_of news)));
    }

  -- the Init that waits for one of them
  init_here : (d n : ℕ) (i : Instance) (is : List Instance) → d ≡ n → inits_for S d n (i ∷ is) ≡ option_map_or (inits S) (slice_get (i ∷ is) (d - n)) []
  unfolding inits_for
  init_here d n i is e =
      ap (λ t. if_so t (inits S i) ++ inits_for S d (n + 1) is) (eq-eqb n d (sym e))
      ∙ ap (λ l. inits S i ++ l) (before_new S d (n + 1) is (omega (arith, e)))
      ∙ append-nil (inits S i)
      ∙ ap (λ z. option_map_or (inits S) (slice_get (i ∷ is) z) []) (let z : 0 ≡ d - n = omega (arith, e) in z)

  init_later : (d n : ℕ) (i : Instance) (is : List Instance) → n + 1 ≤ d → inits_for S d (n + 1) is ≡ option_map_or (inits S) (slice_get is (d - (n + 1))) []
      → inits_for S d n (i ∷ is) ≡ option_map_or (inits S) (slice_get (i ∷ is) (d - n)) []
  unfolding inits_for
  init_later d n i is l r =
      ap (λ t. if_so t (inits S i) ++ inits_for S d (n + 1) is) (ne_eqb n d (λ e. absurd (omega (arith, e, l))))
      ∙ r
      ∙ ap (λ z. option_map_or (inits S) (slice_get (i ∷ is) z) []) (let z : suc (d - (n + 1)) ≡ d - n = omega (arith, l) in z)

  pub init_at : (d n : ℕ) (is : List Instance) → n ≤ d → inits_for S d n is ≡ option_map_or (inits S) (slice_get is (d - n)) []
  unfolding inits_for
  init_at d n [] h = refl
  init_at d n (i ∷ is) h = by_halves d (n + 1) (λ l. init_here d n i is (omega (arith, l, h))) (λ l. init_later d n i is l (init_at d (n + 1) is l))

  pub row_at : (d n : ℕ) (is : List Instance) → n ≤ d → option_map (λ i. row_with S (inits S i) (first_body_of S i)) (slice_get is (d - n)) ≡ option_map (row_with S (inits_for S d n is)) (option_map (first_body_of S) (slice_get is (d - n)))
  row_at d n is h = at (slice_get is (d - n)) (init_at d n is h)
    where
      at : (o : Option Instance) → inits_for S d n is ≡ option_map_or (inits S) o [] → option_map (λ i. row_with S (inits S i) (first_body_of S i)) o ≡ option_map (row_with S (inits_for S d n is)) (option_map (first_body_of S) o)
      at None e = refl
      at (Some i) e = ap (λ l. Some (row_with S l (first_body_of S i))) (sym e)

  -- ---- the creation in a slot

  module _ (p : Point) (c : ℕ) (item : Item) (slot kind : ℕ) (birth : Birth) (v : Parts) (s : StandsAt S p (state_of v)) (together : HoldsTogether v) (by : AreByCreated S (acts_at p))
      (lives : alive S (acts_at p) c ≡ true) (empty : occupant S (acts_at p) c slot ≡ None) where
    abbrev done : List Act
    done = acts_at p

    abbrev m : State
    m = state_of v

    abbrev n : ℕ
    n = length (born S done)

    abbrev chans : ℕ
    chans = length (channels S done)

    abbrev news : List Instance
    news = news_of S done c slot kind birth

    abbrev creation : Act
    creation = act_of c item (effect.Create slot kind birth)

    c_born : c < n
    c_born = alive_born S done c lives

    not_alive : (d : ℕ) → n ≤ d → alive S done d ≡ false
    not_alive d h = at (alive S done d) refl
      where
        at : (b : Bool) → alive S done d ≡ b → b ≡ false
        at true e = absurd (omega (arith, h, alive_born S done d e))
        at false e = refl

    no_link : (x : ℕ) → chans ≤ x → link_at S done x ≡ None
    unfolding model
    no_link x h = ap (λ o. if option_map_or (channel_alive S done) o false then Some (record { plus = Rattle.kom_record.specs.Channels.place S done x Rattle.kom_base.specs.declared.numbers.Dir.TheVariants.Plus; minus = Rattle.kom_record.specs.Channels.place S done x Rattle.kom_base.specs.declared.numbers.Dir.TheVariants.Minus; held = Rattle.kom_record.specs.Channels.held S done x }) else None) (slice_get_past (channels S done) x h)

    no_queue : (x : ℕ) (d : Dir) → chans ≤ x → m.queues x d ≡ None
    no_queue x d h = s.queues x d ∙ ap (λ l. if Rattle.kom_record.specs.Channels.goes_out S x d then None else option_map (λ (k : Link). record { numbers = Rattle.kom_refine.specs.Points.numbers_at S p x d; receiver = Rattle.kom_refine.specs.Points.receiver_of d k }) l) (no_link x h)
        ∙ at (Rattle.kom_record.specs.Channels.goes_out S x d)
      where
        at : (b : Bool) → ◌≡◌ {A = Option Queue} (if b then None else None) None
        at true = refl
        at false = refl

    no_body : (d : ℕ) → n ≤ d → m.bodies d ≡ None
    no_body d h = s.bodies d ∙ ap (λ l. if l then Rattle.kom_refine.specs.Points.body_of S p d else None) (not_alive d h)

    bare : IsBare n chans m
    bare = record {
      living = λ d h. s.living d ∙ not_alive d h;
      links_none = λ x h. s.links x ∙ no_link x h;
      queues = no_queue;
      controls = λ d h. s.controls d ∙ ap (option_map (λ (b : Body). record { items = Rattle.kom_record.specs.Controls.control_waiting S p.before d ++ p.put d; active = b.active; catches = Rattle.kom_record.specs.Bodies.catches S b })) (sym (s.bodies d) ∙ no_body d h);
      bodies = no_body;
    }

    long : length m.nodes ≡ n
    long = ap length s.nodes ∙ length-map (born S done) node_of

    base : List (ℕ × ℕ)
    base = (c, slot) ∷ ancestry_of S (born S done) c

    node_at : (more : List Node) → slice_get (m.nodes ++ more) c ≡ option_map node_of (slice_get (born S done) c)
    node_at more = get_left m.nodes more c (omega (arith, c_born, long)) ∙ ap (λ l. slice_get l c) s.nodes ∙ slice_get-map node_of (born S done) c

    line_of : (o : Option Instance) → option_map_or (λ (i : Instance). i.ancestry) o [] ≡ option_map_or (λ (x : Node). x.ancestry) (option_map node_of o) []
    line_of None = refl
    line_of (Some i) = refl

    base_is : (more : List Node) → (c, slot) ∷ ancestry_of S (born S done) c ≡ line_in (m.nodes ++ more) (Some (c, slot))
    unfolding model
    base_is more = ap (λ l. (c, slot) ∷ l) (line_of (slice_get (born S done) c) ∙ ap (λ o. option_map_or (λ (x : Node). x.ancestry) o []) (sym (node_at more)))

    parents : (j : ℕ) (x : Instance) → slice_get news j ≡ Some x → HasParent S n news ((c, slot) ∷ ancestry_of S (born S done) c) j x
    unfolding created
    parents j x e = tree_parents S depth_limit n (record { kind = kind; birth = birth; ancestry = (c, slot) ∷ ancestry_of S (born S done) c }) j x e

    single : AreSingle S news
    unfolding created
    single = single_tree S depth_limit n (record { kind = kind; birth = birth; ancestry = (c, slot) ∷ ancestry_of S (born S done) c }) (λ q e. let f : c ≡ q.0 = ap (λ (z : ℕ × ℕ). z.0) (Some-injective e) in omega (arith, f, c_born))

    rooted : AreRooted m.nodes news
    rooted = rooted_by m.nodes news ((c, slot) ∷ ancestry_of S (born S done) c) base_is (λ j x e. subst (λ k. HasParent S k news ((c, slot) ∷ ancestry_of S (born S done) c) j x) (sym long) (parents j x e))

    no_child : (d q : ℕ) → n ≤ d → m.child d q ≡ None
    no_child d q h = together.childless d q (bare.living d h)

    free : AreFree S n news m
    free = free_by n news ((c, slot) ∷ ancestry_of S (born S done) c) m single no_child parents (λ xs i ys e f.
        let g : first i.ancestry ≡ Some (c, slot) = ap first f in
        subst (IsFree S n xs m) (sym g) (inl (c_born, s.living c ∙ lives), unshared n news xs i ys (c, slot) single e g, s.child c slot lives ∙ empty))

    by_acts : ActsByBorn S done
    by_acts = by_born S done by

    alive_new : (d : ℕ) → n ≤ d → d < n + length news → alive S (creation ∷ done) d ≡ true
    unfolding model
    alive_new d h l = if_above d n (alive S done d) (nat_lt d (length (born S done ++ news))) h ∙ lt-ltb d (length (born S done ++ news)) (omega (arith, l, length-append (born S done) news))

    chan_is : (y : ℕ) → slice_get (channels S (creation ∷ done)) (chans + y) ≡ slice_get (flat_map (channels_of S) (enumerate_from n news)) y
    chan_is y = ap (λ l. slice_get l (chans + y)) (channels_act S done creation) ∙ get_right (channels S done) (flat_map (channels_of S) (enumerate_from n news)) y

    born_is : (j : ℕ) → slice_get (born S (creation ∷ done)) (n + j) ≡ slice_get news j
    born_is j = ap (λ l. slice_get l (n + j)) (born_act S done creation) ∙ get_right (born S done) news j

    end_new : (d k : ℕ) (e : Dir) → n ≤ d → Rattle.kom_record.specs.Channels.wire_end S (creation ∷ done) d k e ≡ Rattle.kom_record.specs.Channels.declared_end S (creation ∷ done) d k e
    unfolding model
    end_new d k e h = if_above d n (Rattle.kom_record.specs.Channels.wire_end S done d k e) (Rattle.kom_record.specs.Channels.declared_end S (creation ∷ done) d k e) h

    held_new : (d k : ℕ) → n ≤ d → Rattle.kom_record.specs.Channels.wire_held S (creation ∷ done) d k ≡ Rattle.kom_record.specs.Channels.declared_held S (creation ∷ done) d k
    unfolding model
    held_new d k h = if_above d n (Rattle.kom_record.specs.Channels.wire_held S done d k) (Rattle.kom_record.specs.Channels.declared_held S (creation ∷ done) d k) h

    occupant_new : (d q : ℕ) → n ≤ d → occupant S (creation ∷ done) d q ≡ child_among S d q n news
    unfolding model
    occupant_new d q h = ap (either (child_among S d q n news)) (occupant_unborn S done d q by_acts h) ∙ none_after (child_among S d q n news)

    new_link : (x : ℕ) → chans ≤ x → link_at S (creation ∷ done) x ≡ option_map Rattle.kom_state.specs.Parts.link_seen (slice_get (links_of (map (λ (q : ℕ × Instance). made n news q.0 q.1) (enumerate_from n news))) (x - chans))
    new_link x h = laid S (creation ∷ done) n chans news born_is chan_is end_new held_new alive_new occupant_new x h

    is_created : (k : State) → Grown n news chans m k → IsCreated S (creation ∷ done) n chans news m k
    is_created k r = record {
      nodes = r.nodes;
      living = r.living;
      child = λ d q h. r.child d q ∙ ap (either (child_among S d q n news)) (by_halves d n (λ l. sym (if_below d n (m.child d q) None l)) (λ l. no_child d q l ∙ sym (if_above d n (m.child d q) None l)));
      links = λ x. r.links_now x ∙ by_halves x chans
          (λ l. if_below x chans (m.links x) (option_map Rattle.kom_state.specs.Parts.link_seen (slice_get (links_of (map (λ (q : ℕ × Instance). made n news q.0 q.1) (enumerate_from n news))) (x - chans))) l
          ∙ sym (if_below x chans (m.links x) (link_at S (creation ∷ done) x) l))
          (λ l. if_above x chans (m.links x) (option_map Rattle.kom_state.specs.Parts.link_seen (slice_get (links_of (map (λ (q : ℕ × Instance). made n news q.0 q.1) (enumerate_from n news))) (x - chans))) l
          ∙ sym (new_link x l) ∙ sym (if_above x chans (m.links x) (link_at S (creation ∷ done) x) l));
      queues = r.queues;
      controls = λ d. r.controls d ∙ by_halves d n
          (λ l. if_below d n (m.controls d) (option_map (λ i. row_with S (inits S i) (first_body_of S i)) (slice_get news (d - n))) l
          ∙ sym (if_below d n (m.controls d) (option_map (row_with S (inits_for S d n news)) (k.bodies d)) l))
          (λ l. if_above d n (m.controls d) (option_map (λ i. row_with S (inits S i) (first_body_of S i)) (slice_get news (d - n))) l
          ∙ row_at d n news l
          ∙ ap (option_map (row_with S (inits_for S d n news))) (sym (r.bodies d ∙ if_above d n (m.bodies d) (option_map (first_body_of S) (slice_get news (d - n))) l))
          ∙ sym (if_above d n (m.controls d) (option_map (row_with S (inits_for S d n news)) (k.bodies d)) l));
      bodies = r.bodies;
    }

    is_sown : MaySow S n chans (seeds_for S n news) m
    is_sown = sown_by n news chans m bare rooted free

pub creations_are_sown : CreationsAreSown
creations_are_sown S p c item slot kind birth v s together by lives empty = record {
  may = is_sown S p c item slot kind birth v s together by lives empty;
  created = λ w h. is_created S p c item slot kind birth v s together by lives empty (state_of w)
      (grown_by S (length (born S (acts_at p))) (news_of S (acts_at p) c slot kind birth) (length (channels S (acts_at p))) (state_of v) (state_of w)
      (bare S p c item slot kind birth v s together by lives empty) (rooted S p c item slot kind birth v s together by lives empty) h);
  numbers = λ w of h t. numbers_go_on S (length (born S (acts_at p))) (news_of S (acts_at p) c slot kind birth) (length (channels S (acts_at p))) v w
      (grown_by S (length (born S (acts_at p))) (news_of S (acts_at p) c slot kind birth) (length (channels S (acts_at p))) (state_of v) (state_of w)
      (bare S p c item slot kind birth v s together by lives empty) (rooted S p c item slot kind birth v s together by lives empty) h) t of;
}
