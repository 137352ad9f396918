-- The opening, from the opened state to that of the empty record.
use Rattle.std.proofs.Common.{◌≡◌, ℕ, ◌+◌, ◌<◌, ◌≤◌, ◌&&◌, Bool, true, false, refl, sym, ap, ◌∙◌, subst, List, [], ◌∷◌, length, map, None, if◌then◌else◌, arith}
use Rattle.std.specs.Prelude.{sum, ◌==◌}
use Rattle.std.specs.List.{enumerate_from}
use Rattle.std.specs.Option.{option_map}
use Rattle.std.proofs.lemmas.Bool.{ltb-true}
use Rattle.std.proofs.lemmas.List.{length-append, length-map}
use Rattle.std.proofs.lemmas.List.FromFn.{length-enumerate_from}
use Rattle.std.proofs.lemmas.List.Sums.{sum_by-cons}
use Rattle.kom_lang.specs.Declarations.{Declarations, height_of, kind_of}
use Rattle.kom_lang.specs.declared.kind.PortDecl.{PortDecl}
use Rattle.kom_lang.specs.declared.body.Birth.TheVariants.{Args}
use Rattle.kom_system.specs.WellFormed.{IsDeclared}
use Rattle.kom_record.specs.Instances.{Instance, depth_limit, tree, root_tree}
use Rattle.kom_record.specs.Channels.{goes_out}
use Rattle.kom_limits.specs.Laws.{channel_count}
use Rattle.kom_limits.proofs.Small.{few_channels, few_instances, few_ports}
use Rattle.kom_numbers.specs.Numbering.{out_of, total}
use Rattle.kom_refine.specs.States.{Node, State}
use Rattle.kom_refine.specs.Steps.{empty_queue}
use Rattle.kom_state.specs.Openings.{IsOpened}
use Rattle.kom_state.specs.Parts.{Parts, state_of, IsOf}
use Rattle.kom_state.specs.Plantings.{items_of}
use Rattle.kom_state.specs.Rooms.{HasNoLess, IsSame}
use Rattle.kom_births.specs.declared.seed.Seed.{Seed}
use Rattle.kom_births.specs.Laws.{IsOpening, seeds_for}
use Rattle.kom_births.specs.Seeds.{links_of, link_in, seeds_in}
use Rattle.kom_births.specs.Sowing.{AreSown, HasOwnRooms, MaySow, TakesRooms, items_for}
use Rattle.kom_births.specs.Sprouts.{sprout_of}
use Rattle.kom_births.proofs.Created.{made, seeds_are}
use Rattle.kom_births.proofs.Sums.{items_one}

both : (a b : Bool) → (a && b) ≡ true → (a ≡ true) × (b ≡ true)
both true b e = (refl, e)
both false b e = absurd cc

pub opened_same : (S : Declarations) (m n : State) → IsOpened S m → IsSame m n → IsOpened S n
opened_same S m n o s = record {
  nodes = s.tree.nodes ∙ o.nodes;
  living = λ c. s.tree.living c ∙ o.living c;
  child = λ c q. s.tree.child c q ∙ o.child c q;
  links_now = λ x. s.links x ∙ o.links_now x;
  queues = λ x d. s.queues x d ∙ o.queues x d ∙ ap (λ l. if goes_out S x d then None else option_map (empty_queue d) l) (sym (s.links x));
  controls = λ c. s.controls c ∙ o.controls c;
  bodies = λ c. s.bodies c ∙ o.bodies c;
}

pub of_same : (S : Declarations) (v w : Parts) → IsOf S v → IsSame (state_of v) (state_of w) → HasNoLess v w → IsOf S w
unfolding IsOf
of_same S v w of s k = record {
  outs = k.outs ∙ of.outs;
  counts = k.counts ∙ of.counts ∙ ap (λ ns. map (λ k. length (kind_of S k).channels) (map (λ (n : Node). n.kind) ns)) (sym s.tree.nodes);
}

-- before the root is there, only its ports have channels
pub only_ports : (S : Declarations) (v : Parts) → IsOpened S (state_of v) → IsOf S v → total v.numbers ≡ length (kind_of S S.root.kind).ports
unfolding IsOf
only_ports S v o of =
    let a : length v.numbers.outs ≡ length (kind_of S S.root.kind).ports = ap length of.outs ∙ length-map (kind_of S S.root.kind).ports (λ (p : PortDecl). out_of p.provided) in
    let b : sum v.numbers.counts ≡ 0 = ap sum (of.counts ∙ ap (λ ns. map (λ k. length (kind_of S k).channels) (map (λ (n : Node). n.kind) ns)) o.nodes) in
    omega (arith, a, b)

pub may_begin : (S : Declarations) (v : Parts) → IsOpened S (state_of v) → IsOf S v → IsOpening S v → (seeds : List Seed) → seeds ≡ seeds_for S 0 (root_tree S)
    → MaySow S (length (state_of v).nodes) (total v.numbers) seeds (state_of v)
may_begin S v o of k seeds e =
    subst (λ l. MaySow S (length (state_of v).nodes) (total v.numbers) l (state_of v)) (sym e)
    (subst (λ z. MaySow S z (total v.numbers) (seeds_for S 0 (root_tree S)) (state_of v)) (sym (ap length o.nodes))
    (subst (λ z. MaySow S 0 z (seeds_for S 0 (root_tree S)) (state_of v)) (sym (only_ports S v o of)) k.may))

-- how many are planted, and with how many channels
pub seeds_long : (S : Declarations) (n : ℕ) (is : List Instance) → length (seeds_for S n is) ≡ length is
seeds_long S n is = ap length (seeds_are S n is) ∙ length-map (enumerate_from n is) (λ (q : ℕ × Instance). made S n is q.0 q.1) ∙ length-enumerate_from n is

links_from : (S : Declarations) (n : ℕ) (news : List Instance) (c : ℕ) (is : List Instance) → length (links_of (map (λ (q : ℕ × Instance). made S n news q.0 q.1) (enumerate_from c is))) ≡ channel_count S is
links_from S n news c [] = refl
links_from S n news c (i ∷ is) =
    let a = length-append (made S n news c i).links (links_of (map (λ (q : ℕ × Instance). made S n news q.0 q.1) (enumerate_from (c + 1) is))) in
    let b = length-map (kind_of S i.kind).channels (link_in n (map sprout_of news) c) in
    let r = links_from S n news (c + 1) is in
    omega (arith, a, b, r, sum_by-cons (λ i. length (kind_of S i.kind).channels) i is)

pub links_long : (S : Declarations) (n : ℕ) (is : List Instance) → length (links_of (seeds_for S n is)) ≡ channel_count S is
links_long S n is = ap (λ l. length (links_of l)) (seeds_are S n is) ∙ links_from S n is n is

pub few_to_begin : (S : Declarations) → IsDeclared S → length (seeds_for S 0 (root_tree S)) ≤ 1000
unfolding root_tree
few_to_begin S D = let f = few_instances S D 0 (record { kind = S.root.kind; birth = Args S.root.args; ancestry = [] }) in omega (arith, f, seeds_long S 0 (root_tree S))

pub few_links_to_begin : (S : Declarations) → IsDeclared S → length (links_of (seeds_for S 0 (root_tree S))) ≤ 1000
unfolding root_tree
few_links_to_begin S D = let f = few_channels S D 0 (record { kind = S.root.kind; birth = Args S.root.args; ancestry = [] }) in omega (arith, f, links_long S 0 (root_tree S))

-- one item waits first for each at most
pub items_least : (c n : ℕ) (xs : List Seed) → items_for c n xs ≤ 1
items_least c n [] = omega arith
items_least c n (x ∷ xs) = at (c == n) (items_least c (n + 1) xs)
  where
    at : (b : Bool) → items_for c (n + 1) xs ≤ 1 → (if b then length (items_of x.init) else items_for c (n + 1) xs) ≤ 1
    at true r = items_one x.init
    at false r = r

pub root_is : (S : Declarations) → IsDeclared S → S.root.kind < length S.kinds
root_is S D = ltb-true S.root.kind (length S.kinds) (both _ _ D.root).0

pub root_low : (S : Declarations) → IsDeclared S → 1 + height_of S S.root.kind ≤ 17
root_low S D = let h = (D.kinds S.root.kind (root_is S D)).tree.height in omega (arith, h)

-- the room for rows and queues is kept
pub own_kept : (seeds : List Seed) (n chans : ℕ) (v w : Parts) → HasNoLess v w → HasOwnRooms seeds n chans v → HasOwnRooms seeds n chans w
own_kept seeds n chans v w k r = record {
  own = record { rows = λ c low high. k.rows c (r.own.rows c low high); controls = λ c. let a = r.own.controls c in let b = k.controls c in omega (arith, a, b) };
  queues = λ x low high. k.queues x (r.queues x low high);
}

abbrev pub root_instance : Declarations → Instance
root_instance S = record { kind = S.root.kind; birth = Args S.root.args; ancestry = [] }

pub root_seeds : (S : Declarations) → seeds_in 0 (map sprout_of (tree depth_limit S 0 (root_instance S))) S ≡ seeds_for S 0 (root_tree S)
unfolding root_tree
root_seeds S = refl

-- what was planted, counted from nothing
pub sown_to_begin : (S : Declarations) (v w : Parts) → IsOpened S (state_of v) → IsOf S v → (seeds : List Seed) → seeds ≡ seeds_for S 0 (root_tree S)
    → AreSown S (length (state_of v).nodes) (total v.numbers) seeds (state_of v) (state_of w)
    → AreSown S 0 (length (kind_of S S.root.kind).ports) (seeds_for S 0 (root_tree S)) (state_of v) (state_of w)
sown_to_begin S v w o of seeds e h =
    subst (λ z. AreSown S 0 z (seeds_for S 0 (root_tree S)) (state_of v) (state_of w)) (only_ports S v o of)
    (subst (λ z. AreSown S z (total v.numbers) (seeds_for S 0 (root_tree S)) (state_of v) (state_of w)) (ap length o.nodes)
    (subst (λ l. AreSown S (length (state_of v).nodes) (total v.numbers) l (state_of v) (state_of w)) e h))

pub took_to_begin : (S : Declarations) (v w : Parts) → IsOpened S (state_of v) → (seeds : List Seed) → seeds ≡ seeds_for S 0 (root_tree S)
    → TakesRooms seeds (length (state_of v).nodes) v w → TakesRooms (seeds_for S 0 (root_tree S)) 0 v w
took_to_begin S v w o seeds e h = subst (λ z. TakesRooms (seeds_for S 0 (root_tree S)) z v w) (ap length o.nodes) (subst (λ l. TakesRooms l (length (state_of v).nodes) v w) e h)

-- the opened state, with room made for the root
pub record IsReady (S : Declarations) (v : Parts) : Type 0 where
  pub opened : IsOpened S (state_of v)
  pub numbers : IsOf S v

pub still_ready : (S : Declarations) (v w : Parts) → IsReady S v → IsSame (state_of v) (state_of w) → HasNoLess v w → IsReady S w
still_ready S v w r s k = record { opened = opened_same S (state_of v) (state_of w) r.opened s; numbers = of_same S v w r.numbers s k }

pub few_ready : (S : Declarations) (v : Parts) (seeds : List Seed) → IsDeclared S → IsReady S v → seeds ≡ seeds_for S 0 (root_tree S) → length (state_of v).nodes + length seeds ≤ 4000000000
few_ready S v seeds D r e = omega (arith, ap length r.opened.nodes, ap length e, few_to_begin S D)

pub few_links_ready : (S : Declarations) (v : Parts) (seeds : List Seed) → IsDeclared S → IsReady S v → seeds ≡ seeds_for S 0 (root_tree S) → total v.numbers + length (links_of seeds) < 4294967296
few_links_ready S v seeds D r e = omega (arith, only_ports S v r.opened r.numbers, few_ports S D, ap (λ l. length (links_of l)) e, few_links_to_begin S D)

pub few_seeds : (S : Declarations) → IsDeclared S → (n : ℕ) (i : Instance) (seeds : List Seed) → seeds ≡ seeds_in n (map sprout_of (tree depth_limit S n i)) S → (length seeds ≤ 1000) × (length (links_of seeds) ≤ 1000)
few_seeds S D n i seeds e =
    let f = few_instances S D n i in
    let g = few_channels S D n i in
    (omega (arith, ap length e, seeds_long S n (tree depth_limit S n i), f), omega (arith, ap (λ l. length (links_of l)) e, links_long S n (tree depth_limit S n i), g))
