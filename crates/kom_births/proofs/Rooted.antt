-- The opened state with the root planted is that of the empty record.
use Rattle.std.proofs.Common.{◌≡◌, ℕ, zero, suc, ◌+◌, ◌-◌, ◌<◌, ◌≤◌, Bool, true, false, refl, sym, ap, ◌∙◌, subst, List, [], ◌∷◌, ◌++◌, length, map, Option, Some, None, if◌then◌else◌, inl, inr, arith}
use Rattle.std.specs.Prelude.{slice_get, nat_lt, ◌==◌}
use Rattle.std.specs.List.{enumerate_from, flat_map}
use Rattle.std.specs.Option.{option_map, option_map_or, option_and_then}
use Rattle.std.proofs.lemmas.Bool.{lt-ltb}
use Rattle.std.proofs.lemmas.List.{append-nil, length-map}
use Rattle.std.proofs.lemmas.List.FromFn.{length-enumerate_from}
use Rattle.std.proofs.lemmas.Option.{slice_get_past}
use Rattle.kom_base.specs.declared.numbers.Dir.{Dir}
use Rattle.kom_base.specs.declared.numbers.Dir.TheVariants.{Plus, Minus}
use Rattle.kom_base.specs.Lists.{either, first, if_so}
use Rattle.kom_lang.specs.Declarations.{Declarations, kind_of}
use Rattle.kom_lang.specs.declared.kind.PortDecl.{PortDecl}
use Rattle.kom_lang.specs.declared.body.Body.{Body}
use Rattle.kom_lang.specs.declared.body.Birth.TheVariants.{Args}
use Rattle.kom_record.specs.Model.{model}
use Rattle.kom_record.specs.declared.item.Control.{Control as ControlItem}
use Rattle.kom_record.specs.declared.item.Control.TheVariants.{Start}
use Rattle.kom_record.specs.Instances.{Instance, depth_limit, child_among, alive, root_tree}
use Rattle.kom_record.specs.Channels.{Channel, Environment, Own, channels, channels_of, channel_alive, goes_out, root_end}
use Rattle.kom_record.specs.Controls.{control_waiting, inits, inits_for}
use Rattle.kom_laws.proofs.ListFacts.{get_left, get_right}
use Rattle.kom_lives.proofs.Lineage.{HasParent, row_parents, tree_parents}
use Rattle.kom_lives.proofs.Single.{AreSingle, single_tree}
use Rattle.kom_refine.specs.States.{Link, Queue, State}
use Rattle.kom_refine.specs.Points.{node_of, link_at, start_of, living_body, StandsAt}
use Rattle.kom_refine.specs.Steps.{ArePut, first_body_of, row_with, empty_queue, with_items}
use Rattle.kom_state.specs.Openings.{IsOpened}
use Rattle.kom_state.specs.Parts.{state_of, link_seen}
use Rattle.kom_state.specs.Steps.{to_one}
use Rattle.kom_births.specs.Laws.{OpeningsAreSown, seeds_for}
use Rattle.kom_births.specs.Seeds.{links_of}
use Rattle.kom_births.specs.Sowing.{MaySow}
use Rattle.kom_births.proofs.Created.{Grown, free_by, grown_by, made, none_after, numbers_go_on, row_at, rooted_by, sown_by}
use Rattle.kom_births.proofs.Laid.{laid}
use Rattle.kom_births.proofs.Sown.{AreFree, AreRooted, IsBare, IsFree, by_halves, get_middle, if_above, if_below}

module _ (S : Declarations) (m : State) (o : IsOpened S m) where
  abbrev ports : List PortDecl
  ports = (kind_of S S.root.kind).ports

  abbrev chans : ℕ
  chans = length ports

  abbrev news : List Instance
  news = root_tree S

  abbrev root : Instance
  root = record { kind = S.root.kind; birth = Args S.root.args; ancestry = [] }

  no_link : (x : ℕ) → chans ≤ x → m.links x ≡ None
  no_link x h = o.links_now x ∙ if_above x chans (Some (record { plus = root_end S x Plus; minus = root_end S x Minus; held = false })) None h

  no_queue : (x : ℕ) (d : Dir) → chans ≤ x → m.queues x d ≡ None
  no_queue x d h = o.queues x d ∙ ap (λ l. if goes_out S x d then None else option_map (empty_queue d) l) (no_link x h) ∙ at (goes_out S x d)
    where
      at : (b : Bool) → ◌≡◌ {A = Option Queue} (if b then None else None) None
      at true = refl
      at false = refl

  bare : IsBare 0 chans m
  bare = record {
    living = λ d h. o.living d;
    links_none = no_link;
    queues = no_queue;
    controls = λ d h. o.controls d;
    bodies = λ d h. o.bodies d;
  }

  parents : (j : ℕ) (x : Instance) → slice_get news j ≡ Some x → HasParent S 0 news [] j x
  unfolding root_tree
  parents j x e = tree_parents S depth_limit 0 root j x e

  single : AreSingle S news
  unfolding root_tree
  single = single_tree S depth_limit 0 root (λ q e. absurd cc)

  no_nodes : length m.nodes ≡ 0
  no_nodes = ap length o.nodes

  rooted : AreRooted m.nodes news
  rooted = rooted_by S m.nodes news [] (λ more. refl) (λ j x e. subst (λ k. HasParent S k news [] j x) (sym no_nodes) (parents j x e))

  -- all but the root have a parent
  not_first : (j : ℕ) (x : Instance) → slice_get news (suc j) ≡ Some x → x.ancestry ≡ [] → ⊥
  unfolding root_tree
  not_first j x e f = elim (row_parents S 15 (tree_parents S 15) 0 [] 1 (enumerate_from 0 (kind_of S S.root.kind).slots) j x e) [
    | inl p ↦ let z : [] ≡ (0, p.0) ∷ [] = sym f ∙ p.1 in absurd cc
    | inr p ↦ let z : [] ≡ (1 + p.0, p.2) ∷ p.1.ancestry = sym f ∙ p.5 in absurd cc
  ]

  only_first : (xs : List Instance) (i : Instance) (ys : List Instance) → news ≡ xs ++ i ∷ ys → i.ancestry ≡ [] → xs ≡ []
  only_first [] i ys e f = refl
  only_first (x ∷ xs) i ys e f = absurd (not_first (length xs) i (ap (λ l. slice_get l (suc (length xs))) e ∙ get_middle (x ∷ xs) i ys) f)

  free : AreFree S 0 news m
  free = free_by S 0 news [] m single (λ d s h. o.child d s) parents (λ xs i ys e f. subst (IsFree S 0 xs m) (sym (ap first f)) (only_first xs i ys e f, o.nodes))

  may : MaySow S 0 chans (seeds_for S 0 news) m
  may = sown_by S 0 news chans m bare rooted free

  -- ---- the state that comes of it

  outer_long : length (map (λ (q : ℕ × PortDecl). Environment q.0) (enumerate_from 0 ports)) ≡ chans
  outer_long = length-map (enumerate_from 0 ports) (λ (q : ℕ × PortDecl). Environment q.0) ∙ length-enumerate_from 0 ports

  chan_is : (y : ℕ) → slice_get (channels S []) (chans + y) ≡ slice_get (flat_map (channels_of S) (enumerate_from 0 news)) y
  unfolding model
  chan_is y =
      let outer = map (λ (q : ℕ × PortDecl). Environment q.0) (enumerate_from 0 ports) in
      let inside = flat_map (channels_of S) (enumerate_from 0 news) in
      ap (slice_get (outer ++ inside)) (let e : chans + y ≡ length outer + y = omega (arith, outer_long) in e) ∙ get_right outer inside y

  lives : (c : ℕ) → 0 ≤ c → c < 0 + length news → alive S [] c ≡ true
  unfolding alive
  lives c h l = lt-ltb c (length news) (omega (arith, l))

  new_link : (x : ℕ) → chans ≤ x → link_at S [] x ≡ option_map link_seen (slice_get (links_of (map (λ (q : ℕ × Instance). made S 0 news q.0 q.1) (enumerate_from 0 news))) (x - chans))
  unfolding model
  new_link x h = laid S [] 0 chans news (λ j. ap (slice_get news) (let e : 0 + j ≡ j = omega arith in e)) chan_is (λ c k e l. refl) (λ c k l. refl) lives (λ c s l. refl) x h

  place_at : (b : ℕ) (ps : List PortDecl) (y : ℕ) → y < length ps → slice_get (map (λ (q : ℕ × PortDecl). Environment q.0) (enumerate_from b ps)) y ≡ Some (Environment (b + y))
  place_at b [] y h = absurd (omega (arith, h))
  place_at b (p ∷ ps) zero h = ap (λ z. Some (Environment z)) (let e : b ≡ b + 0 = omega arith in e)
  place_at b (p ∷ ps) (suc y) h = place_at (b + 1) ps y (omega (arith, h)) ∙ ap (λ z. Some (Environment z)) (let e : (b + 1) + y ≡ b + suc y = omega arith in e)

  old_link : (x : ℕ) → x < chans → m.links x ≡ link_at S [] x
  unfolding model
  old_link x h =
      let outer = map (λ (q : ℕ × PortDecl). Environment q.0) (enumerate_from 0 ports) in
      let inside = flat_map (channels_of S) (enumerate_from 0 news) in
      let at : slice_get (outer ++ inside) x ≡ Some (Environment x) = get_left outer inside x (omega (arith, h, outer_long)) ∙ place_at 0 ports x h ∙ ap (λ z. Some (Environment z)) (let e : 0 + x ≡ x = omega arith in e) in
      o.links_now x ∙ if_below x chans (Some (record { plus = root_end S x Plus; minus = root_end S x Minus; held = false })) None h
      ∙ sym (ap (λ (c : Option Channel). if option_map_or (channel_alive S []) c false
      then Some (record { plus = option_and_then (Rattle.kom_record.specs.Channels.channel_end S [] Plus) c; minus = option_and_then (Rattle.kom_record.specs.Channels.channel_end S [] Minus) c; held = option_map_or (Rattle.kom_record.specs.Channels.channel_held S []) c false }) else None) at)

  module _ (k : State) (r : Grown S 0 news chans m k) where
    links_are : (x : ℕ) → k.links x ≡ link_at S [] x
    links_are x = r.links_now x ∙ by_halves x chans
        (λ l. if_below x chans (m.links x) (option_map link_seen (slice_get (links_of (map (λ (q : ℕ × Instance). made S 0 news q.0 q.1) (enumerate_from 0 news))) (x - chans))) l ∙ old_link x l)
        (λ l. if_above x chans (m.links x) (option_map link_seen (slice_get (links_of (map (λ (q : ℕ × Instance). made S 0 news q.0 q.1) (enumerate_from 0 news))) (x - chans))) l ∙ sym (new_link x l))

    abbrev queue_by : Bool → Dir → Option Link → Option Queue
    queue_by g d l = if g then None else option_map (empty_queue d) l

    not_out : (x : ℕ) (d : Dir) → chans ≤ x → goes_out S x d ≡ false
    unfolding model
    not_out x d h = ap (λ (q : Option PortDecl). option_map_or (λ (p : PortDecl). Rattle.std.specs.Prelude.not (Rattle.kom_base.specs.Numbers.agree p.provided (Rattle.kom_base.specs.Numbers.is_plus (Rattle.kom_base.specs.Numbers.opposite d)))) q false) (slice_get_past ports x h)

    queues_by : (x : ℕ) (d : Dir) → k.queues x d ≡ queue_by (goes_out S x d) d (k.links x)
    queues_by x d = r.queues x d ∙ by_halves x chans
        (λ l. if_below x chans (m.queues x d) (option_map (empty_queue d) (k.links x)) l ∙ o.queues x d ∙ ap (queue_by (goes_out S x d) d) (old_link x l ∙ sym (links_are x)))
        (λ l. if_above x chans (m.queues x d) (option_map (empty_queue d) (k.links x)) l ∙ sym (ap (λ g. queue_by g d (k.links x)) (not_out x d l)))

    body_is : (c : ℕ) → k.bodies c ≡ option_map (first_body_of S) (slice_get news c)
    body_is c = r.bodies c ∙ if_above c 0 (m.bodies c) (option_map (first_body_of S) (slice_get news (c - 0))) (omega arith) ∙ ap (λ z. option_map (first_body_of S) (slice_get news z)) (let e : c - 0 ≡ c = omega arith in e)

    row_is : (c : ℕ) → k.controls c ≡ option_map (row_with S (inits_for S c 0 news)) (option_map (first_body_of S) (slice_get news c))
    row_is c =
        r.controls c ∙ if_above c 0 (m.controls c) (option_map (λ i. row_with S (inits S i) (first_body_of S i)) (slice_get news (c - 0))) (omega arith)
        ∙ row_at S c 0 news (omega arith)
        ∙ ap (λ z. option_map (row_with S (inits_for S c 0 news)) (option_map (first_body_of S) (slice_get news z))) (let e : c - 0 ≡ c = omega arith in e)

    guarded : (c : ℕ) → option_map (first_body_of S) (slice_get news c) ≡ (if nat_lt c (length news) then option_map (first_body_of S) (slice_get news c) else None)
    guarded c = by_halves c (length news)
        (λ l. sym (if_below c (length news) (option_map (first_body_of S) (slice_get news c)) None l))
        (λ l. ap (option_map (first_body_of S)) (slice_get_past news c l) ∙ sym (if_above c (length news) (option_map (first_body_of S) (slice_get news c)) None l))

    body_stands : (c : ℕ) → option_map (first_body_of S) (slice_get news c) ≡ living_body S (start_of []) c
    unfolding model
    body_stands c = guarded c

    root_lives : k.living 0 ≡ true
    unfolding root_tree
    root_lives = r.living 0 ∙ if_above 0 0 (m.living 0) (nat_lt 0 (0 + length news)) (omega arith) ∙ lt-ltb 0 (0 + length news) (omega arith)

    starts : (c : ℕ) → inits_for S c 0 news ++ to_one 0 Start c ≡ control_waiting S [] c ++ []
    unfolding model
    starts c = ap (λ l. inits_for S c 0 news ++ l) (at (c == 0)) ∙ sym (append-nil (inits_for S c 0 news ++ if_so (c == 0) (Start ∷ [])))
      where
        at : (b : Bool) → (if b then Start ∷ [] else []) ≡ if_so b (Start ∷ [])
        at true = refl
        at false = refl

    put_on : (items more : List ControlItem) (b : Option Body) → option_map (with_items more) (option_map (row_with S items) b) ≡ option_map (row_with S (items ++ more)) b
    put_on items more None = refl
    put_on items more (Some b) = refl

    stands : (n : State) → ArePut (to_one 0 Start) k n → StandsAt S (start_of []) n
    unfolding model
    stands n a = record {
      nodes = a.tree.nodes ∙ r.nodes ∙ ap (λ l. l ++ map node_of news) o.nodes;
      living = λ c. a.tree.living c ∙ r.living c ∙ if_above c 0 (m.living c) (nat_lt c (0 + length news)) (omega arith) ∙ ap (nat_lt c) (let e : 0 + length news ≡ length news = omega arith in e);
      child = λ c s l. a.tree.child c s ∙ r.child c s ∙ ap (either (child_among S c s 0 news)) (o.child c s) ∙ none_after (child_among S c s 0 news);
      links = λ x. a.links x ∙ links_are x;
      queues = λ x d. a.queues x d ∙ queues_by x d ∙ ap (queue_by (goes_out S x d) d) (links_are x);
      controls = λ c.
          a.controls c ∙ ap (option_map (with_items (to_one 0 Start c))) (row_is c) ∙ put_on (inits_for S c 0 news) (to_one 0 Start c) (option_map (first_body_of S) (slice_get news c))
          ∙ ap (λ l. option_map (row_with S l) (option_map (first_body_of S) (slice_get news c))) (starts c)
          ∙ ap (option_map (row_with S (control_waiting S [] c ++ []))) (body_stands c);
      bodies = λ c. a.bodies c ∙ body_is c ∙ body_stands c;
    }

pub openings_are_sown : OpeningsAreSown
openings_are_sown S v o =
    let m = state_of v in
    let chans = length (kind_of S S.root.kind).ports in
    record {
      may = may S m o;
      stands = λ w n h a. stands S m o (state_of w) (grown_by S 0 (root_tree S) chans m (state_of w) (bare S m o) (rooted S m o) h) n a;
      root_lives = λ w h. root_lives S m o (state_of w) (grown_by S 0 (root_tree S) chans m (state_of w) (bare S m o) (rooted S m o) h);
      numbers = λ w of h t. numbers_go_on S 0 (root_tree S) chans v w (grown_by S 0 (root_tree S) chans m (state_of w) (bare S m o) (rooted S m o) h) t of;
    }
