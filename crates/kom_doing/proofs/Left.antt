-- One effect leaves room for those after it.
use Rattle.std.proofs.Common.{◌≡◌, ℕ, suc, ◌+◌, ◌-◌, ◌<◌, ◌≤◌, ◌⊎◌, inl, inr, Bool, true, false, if◌then◌else◌, not, ◌&&◌, ◌||◌, ◌==◌, refl, sym, ap, ◌∙◌, subst, List, [], ◌∷◌, ◌++◌, length, map, Option, Some, None, arith}
use Rattle.std.specs.Prelude.{nat_lt, slice_get, sum}
use Rattle.std.specs.List.{list_any}
use Rattle.std.specs.Option.{option_map, option_map_or}
use Rattle.std.proofs.lemmas.Bool.{lt-ltb, ltb-true, ltb-false}
use Rattle.std.proofs.lemmas.List.{length-append, length-map}
use Rattle.std.proofs.lemmas.List.Sums.{sum_by-cons}
use Rattle.std.proofs.lemmas.Option.{slice_get_past, slice_get-map}
use Rattle.std.proofs.lemmas.Grind.{flat_map-append}
use Rattle.kom_base.specs.Lists.{first}
use Rattle.kom_lang.specs.Declarations.{Declarations}
use Rattle.kom_lang.specs.declared.body.Birth.{Birth}
use Rattle.kom_lang.specs.declared.body.Effect.{Effect}
use Rattle.kom_lang.specs.declared.body.Effect.TheVariants as effect
use Rattle.kom_system.specs.WellFormed.{IsDeclared}
use Rattle.kom_record.specs.declared.item.Item.{Item}
use Rattle.kom_record.specs.Instances.{Instance, alive, born, created, ancestry_of, depth_limit, tree}
use Rattle.kom_laws.proofs.Members.{Some-injective}
use Rattle.kom_laws.proofs.ListFacts.{get_left, get_right, got_at}
use Rattle.kom_laws.proofs.InstanceLaws.{created_first}
use Rattle.kom_lives.proofs.Lineage.{HasParent, tree_parents}
use Rattle.kom_lives.proofs.Single.{AreSingle, single_tree}
use Rattle.kom_numbers.specs.Numbering.{total, wire_among}
use Rattle.kom_numbers.proofs.Ownership.{sum_is, unowned}
use Rattle.kom_refine.specs.Points.{Point, acts_at, node_of}
use Rattle.kom_refine.specs.States.{Node, State}
use Rattle.kom_refine.specs.Steps.{IsRemoved, SameTree, dies, is_below}
use Rattle.kom_state.specs.Facts.{HoldsTogether}
use Rattle.kom_state.specs.Parts.{Parts, control_spare, state_of}
use Rattle.kom_state.specs.Readings.{ancestry_at}
use Rattle.kom_state.specs.Removals.{dies_with}
use Rattle.kom_state.specs.Rooms.{FreesRoom}
use Rattle.kom_births.specs.declared.seed.Seed.{Seed}
use Rattle.kom_births.specs.Laws.{news_of, seeds_for}
use Rattle.kom_births.specs.Seeds.{links_of}
use Rattle.kom_births.specs.Sharing.{LeavesRoom}
use Rattle.kom_births.specs.Sowing.{HasRooms, TakesRooms}
use Rattle.kom_births.proofs.Begun.{seeds_long}
use Rattle.kom_births.proofs.OneMore.{past_items}
use Rattle.kom_births.proofs.Shared.{early_items, rooms_are_left, rooms_are_shared}
use Rattle.kom_nursery.specs.Nurseries.{all_of, broods_of}
use Rattle.kom_puts.specs.Puts.{is_above}
use Rattle.kom_changes.specs.Sown.{IsCreate}
use Rattle.kom_changes.proofs.Below.{below_by, is_slot, isnt_true, slot_older, slot_test}
use Rattle.kom_doing.specs.Effects.{IsDone, KeepsAllButOne, LeavesRoomBy, first_of}
use Rattle.kom_doing.specs.Laws.{Ending, IsAmid}
use Rattle.kom_doing.specs.Rooms.{HasRoomLeft, LeavesEnough, RoomIsLeft}
use Rattle.kom_nursery.specs.Tops.{TopsHaveRoom}
use Rattle.kom_doing.proofs.Cases.{told_older}
use Rattle.kom_doing.proofs.Rooms.{Spares, puts_left, sum_links, tops_left}
use Rattle.kom_doing.proofs.Turn as turn

sum_append : (xs ys : List ℕ) → sum (xs ++ ys) ≡ sum xs + sum ys
sum_append [] ys = let e : sum ys ≡ 0 + sum ys = omega arith in e
sum_append (x ∷ xs) ys = let a = sum_by-cons (λ x. x) x (xs ++ ys) in let b = sum_by-cons (λ x. x) x xs in let r = sum_append xs ys in omega (arith, a, b, r)

-- what is above is read off the nodes
above_by : (m n : State) (c : ℕ) (told : Option (ℕ × ℕ)) → ancestry_at n c ≡ ancestry_at m c → is_above m c told ≡ true → is_above n c told ≡ true
above_by m n c told e h = ap (λ l. option_map_or (λ q. list_any (λ a. a.0 == q.0) l) told true) e ∙ h

got_first : (l : List Instance) (i : Instance) → first l ≡ Some i → slice_get l 0 ≡ Some i
got_first [] i e = absurd cc
got_first (x ∷ l) i e = e

module _ (c : ℕ) (item : Item) (told : Option (ℕ × ℕ)) (rest : List Effect) (e : Effect) (broods left : List (List Seed)) (bound : ℕ) (v w : Parts)
    (together : HoldsTogether v) (living : (state_of v).living c ≡ true) (above : is_above (state_of v) c told ≡ true) (room : HasRoomLeft c item told (e ∷ rest) broods bound v) where
  abbrev count : ℕ
  count = length (state_of v).nodes

  abbrev chans : ℕ
  chans = total v.numbers

  -- where no instance comes to be, and nothing is taken from what has no number yet
  same_count : (state_of w).nodes ≡ (state_of v).nodes → w.numbers ≡ v.numbers → left ≡ broods → LeavesRoom count chans v w → Spares (length rest) c told v w → LeavesEnough c item told rest left bound w
  same_count nodes numbers same leaves spares =
      let long = ap length nodes in
      let wide = ap total numbers in
      let fit = rooms_are_left (all_of broods) count chans v w room.broods_fit leaves in
      record {
        room = subst (λ b. HasRoomLeft c item told rest b bound w) (sym same) (record {
          broods_fit = subst (λ n. HasRooms (all_of broods) n (total w.numbers) w) (sym long) (subst (λ n. HasRooms (all_of broods) count n w) (sym wide) fit);
          few = let a = room.few in omega (arith, a, long);
          few_channels = let a = room.few_channels in omega (arith, a, wide);
          marks = let a = room.marks in omega (arith, a, long);
          puts = puts_left (length rest) c item told v w spares rest room.puts.1;
          tops = subst (λ n. TopsHaveRoom (length rest) broods n w) (sym long) (tops_left (length rest) count broods v w leaves.controls room.tops);
        });
        above = above_by (state_of v) (state_of w) c told (ap (λ l. option_map_or (λ (n : Node). n.ancestry) (slice_get l c) []) nodes) above;
      }

  still : SameTree (state_of v) (state_of w) → left ≡ broods → KeepsAllButOne v w → LeavesEnough c item told rest left bound w
  still tree same keeps = same_count tree.nodes keeps.room.numbers same
      (record {
        instances = let a = keeps.room.instances in omega (arith, a);
        channels = let a = keeps.room.channels in omega (arith, a);
        rows = λ d l h. keeps.room.rows d ∙ h;
        controls = keeps.unborn;
        queues = λ x l h. keeps.room.queues x ∙ h;
      })
      (record { kids = λ s d h. inl (sym (tree.child c s) ∙ h, keeps.controls d); tells = λ q h. keeps.controls q.0 })

  -- ---- a Destroy

  module _ (slot : ℕ) (which : ℕ → Bool) (gone : IsRemoved which c slot (state_of v) (state_of w)) (frees : FreesRoom (is_below (state_of v) c slot) (dies_with v c slot) v w) where
    apart : (d : ℕ) → d ≤ c → is_below (state_of v) c slot d ≡ false
    apart d l = isnt_true (is_below (state_of v) c slot d) (λ t. let y = slot_older v together c slot d (sym (below_by v together c slot d) ∙ t) in omega (arith, l, y))

    unborn_apart : (d : ℕ) → count ≤ d → is_below (state_of v) c slot d ≡ false
    unborn_apart d l = ap (λ o. option_map_or (λ (n : Node). list_any (λ q. c == q.0 && slot == q.1) n.ancestry) o false) (slice_get_past (state_of v).nodes d l)

    later_live : (x : ℕ) → chans ≤ x → dies_with v c slot x ≡ false
    later_live x l = ap (λ o. option_map_or (λ (q : ℕ × ℕ). is_below (state_of v) c slot q.0) o false) (at (nat_lt x (length v.numbers.outs)))
      where
        at : (b : Bool) → (if b then None else wire_among 0 v.numbers.counts (x - length v.numbers.outs)) ≡ None
        at true = refl
        at false = unowned 0 v.numbers.counts (x - length v.numbers.outs) (let s = sum_is v.numbers.counts in omega (arith, l, s))

    c_stays : (state_of w).living c ≡ true
    c_stays = gone.living c ∙ ap (λ b. (state_of v).living c && not b) (apart c (omega arith)) ∙ ap (λ b. b && true) living

    kept_child : (s d : ℕ) → (state_of w).child c s ≡ Some d → ((state_of v).child c s ≡ Some d) × (is_below (state_of v) c slot d ≡ false)
    kept_child s d h = at (c == c && slot == s) refl (sym (gone.child c s c_stays) ∙ h)
      where
        at : (b : Bool) → (c == c && slot == s) ≡ b → (if b then None else (state_of v).child c s) ≡ Some d → ((state_of v).child c s ≡ Some d) × (is_below (state_of v) c slot d ≡ false)
        at true q k = absurd cc
        at false q k =
            let o = together.occupant c s d k in
            let up = together.lines c s d o.1.0 o.1.1 in (
              k,
              isnt_true (is_below (state_of v) c slot d) (λ t.
                  let any = sym (ap (list_any (is_slot c slot)) (o.1.1 ∙ ap (λ r. (c, s) ∷ r) up.1)) ∙ sym (below_by v together c slot d) ∙ t in
                  other (is_slot c slot (c, s)) (slot_test c slot c s ∙ q) any),
            )
          where
            other : (b : Bool) → b ≡ false → (b || list_any (is_slot c slot) (ancestry_at (state_of v) c)) ≡ true → ⊥
            other true q t = absurd cc
            other false q t = let y = slot_older v together c slot c t in omega (arith, y)

    destroyed : left ≡ broods → LeavesEnough c item told rest left bound w
    destroyed same = same_count gone.nodes frees.numbers same
        (record {
          instances = let a = frees.instances in omega (arith, a);
          channels = frees.channels;
          rows = λ d l h. frees.rows d ∙ h;
          controls = λ d l. let a = frees.controls d (unborn_apart d l) in omega (arith, a);
          queues = λ x l h. frees.queues x (later_live x l) ∙ h;
        })
        (record {
          kids = λ s d h. let k = kept_child s d h in inl (k.0, (let a = frees.controls d k.1 in omega (arith, a)));
          tells = λ q h. let l = told_older v together c living told above q h in let a = frees.controls q.0 (apart q.0 (omega (arith, l))) in omega (arith, a);
        })

  -- ---- a Create

  module _ (S : Declarations) (is : List Instance) (slot kind : ℕ) (birth : Birth) (after : HoldsTogether w) (brood : List Seed) (news : List Instance)
      (whole : broods ≡ brood ∷ left) (c_made : c < count) (news_are : news ≡ created S is c slot kind birth) (is_long : length is ≡ count) (as_many : length brood ≡ length news)
      (nodes : (state_of w).nodes ≡ (state_of v).nodes ++ map node_of news) (lives_before : (d : ℕ) → d < count → (state_of w).living d ≡ (state_of v).living d)
      (takes : TakesRooms brood count v w) where
    long : length (state_of w).nodes ≡ count + length brood
    long = let a = ap length nodes ∙ length-append (state_of v).nodes (map node_of news) in let b = length-map news node_of in omega (arith, a, b, as_many)

    wide : total w.numbers ≡ chans + length (links_of brood)
    wide =
        let a = ap length takes.outs in
        let b = ap sum takes.counts ∙ sum_append v.numbers.counts (map (λ (s : Seed). length s.links) brood) in
        let d = sum_links brood in
        omega (arith, a, b, d)

    old_line : (d : ℕ) → d < count → ancestry_at (state_of w) d ≡ ancestry_at (state_of v) d
    old_line d l = ap (λ o. option_map_or (λ (n : Node). n.ancestry) o []) (ap (λ ns. slice_get ns d) nodes ∙ get_left (state_of v).nodes (map node_of news) d l)

    base : List (ℕ × ℕ)
    base = (c, slot) ∷ ancestry_of S is c

    parents : (j : ℕ) (x : Instance) → slice_get (created S is c slot kind birth) j ≡ Some x → HasParent S (length is) (created S is c slot kind birth) ((c, slot) ∷ ancestry_of S is c) j x
    unfolding created
    parents j x e = tree_parents S depth_limit (length is) (record { kind = kind; birth = birth; ancestry = (c, slot) ∷ ancestry_of S is c }) j x e

    single : AreSingle S (created S is c slot kind birth)
    unfolding created
    single = single_tree S depth_limit (length is) (record { kind = kind; birth = birth; ancestry = (c, slot) ∷ ancestry_of S is c }) (λ q e. let f : c ≡ q.0 = ap (λ (z : ℕ × ℕ). z.0) (Some-injective e) in omega (arith, f, c_made, is_long))

    head : (x : Instance) × (slice_get (created S is c slot kind birth) 0 ≡ Some x) × (first x.ancestry ≡ Some (c, slot))
    unfolding created
    head =
        let i : Instance = record { kind = kind; birth = birth; ancestry = (c, slot) ∷ ancestry_of S is c } in
        (i, got_first (tree depth_limit S (length is) i) i (created_first S (length is) depth_limit i), refl)

    -- a new child of c is the first of all
    new_child : (s d : ℕ) → count ≤ d → (state_of w).child c s ≡ Some d → d ≡ count
    new_child s d l h =
        let o = after.occupant c s d h in
        let few = after.made d o.0 in
        let low : d - count < length news = omega (arith, l, few, long, as_many) in
        let x = got_at news (d - count) low in
        let same : d ≡ count + (d - count) = omega (arith, l) in
        let node : slice_get (state_of w).nodes d ≡ Some (node_of x.0) =
        ap (λ k. slice_get (state_of w).nodes k) same ∙ ap (λ ns. slice_get ns (count + (d - count))) nodes ∙ get_right (state_of v).nodes (map node_of news) (d - count) ∙ slice_get-map node_of news (d - count) ∙ ap (option_map node_of) x.1
        in
        let line : x.0.ancestry ≡ (c, s) ∷ o.1.0 = sym (ap (λ q. option_map_or (λ (n : Node). n.ancestry) q []) node) ∙ o.1.1 in
        let there : slice_get (created S is c slot kind birth) (d - count) ≡ Some x.0 = ap (λ ns. slice_get ns (d - count)) (sym news_are) ∙ x.1 in
        elim (parents (d - count) x.0 there) [
          | inl p ↦ (let zero = single (d - count) 0 x.0 head.0 (c, slot) there head.1 (ap first p) head.2 in omega (arith, zero, l))
          | inr p ↦ absurd (
              let heads : ◌≡◌ {A = ℕ × ℕ} (c, s) (length is + p.0, p.2) = Some-injective (sym (ap first line) ∙ ap first p.5) in
              let f : c ≡ length is + p.0 = ap (λ (z : ℕ × ℕ). z.0) heads in
              omega (arith, f, c_made, is_long))
        ]

    old_child : (s d : ℕ) → d < count → (state_of w).child c s ≡ Some d → (state_of v).child c s ≡ Some d
    old_child s d l h =
        let o = after.occupant c s d h in
        together.seated c s d o.1.0 (sym (lives_before d l) ∙ o.0) (sym (old_line d l) ∙ o.1.1)

    room_split : HasRooms (brood ++ all_of left) count chans v
    room_split = subst (λ b. HasRooms (all_of b) count chans v) whole room.broods_fit

    tops_split : TopsHaveRoom (suc (length rest)) (brood ∷ left) count v
    tops_split = subst (λ b. TopsHaveRoom (suc (length rest)) b count v) whole room.tops

    spares : Spares (length rest) c told v w
    spares = record {
      kids = λ s d h. by_age s d h (nat_lt d count) refl;
      tells = λ q h. let l = told_older v together c living told above q h in let t = takes.controls q.0 in let z = early_items q.0 count brood (omega (arith, l, c_made)) in omega (arith, t, z);
    }
      where
        by_age : (s d : ℕ) → (state_of w).child c s ≡ Some d → (b : Bool) → nat_lt d count ≡ b → (((state_of v).child c s ≡ Some d) × (control_spare v d ≤ control_spare w d + 1)) ⊎ (length rest ≤ control_spare w d)
        by_age s d h true t =
            let l = ltb-true d count t in
            let a = takes.controls d in
            let z = early_items d count brood l in
            inl (old_child s d l h, omega (arith, a, z))
        by_age s d h false t =
            let same = new_child s d (ltb-false d count t) h in
            let a = tops_split.0 in
            let k = takes.controls count in
            inr (subst (λ q. length rest ≤ control_spare w q) (sym same) (omega (arith, a, k)))

    made : LeavesEnough c item told rest left bound w
    made =
        let split : all_of broods ≡ brood ++ all_of left = ap all_of whole in
        let few = ap length split ∙ length-append brood (all_of left) in
        let links = ap (λ s. length (links_of s)) split ∙ ap length (flat_map-append (λ (s : Seed). s.links) brood (all_of left)) ∙ length-append (links_of brood) (links_of (all_of left)) in
        let fit = (rooms_are_shared brood (all_of left) count chans v room_split).then w takes in
        record {
          room = record {
            broods_fit = subst (λ n. HasRooms (all_of left) n (total w.numbers) w) (sym long) (subst (λ n. HasRooms (all_of left) (count + length brood) n w) (sym wide) fit);
            few = let a = room.few in omega (arith, a, few, long);
            few_channels = let a = room.few_channels in omega (arith, a, links, wide);
            marks = let a = room.marks in omega (arith, a, few, long);
            puts = puts_left (length rest) c item told v w spares rest room.puts.1;
            tops = subst (λ n. TopsHaveRoom (length rest) left n w) (sym long)
                (tops_left (length rest) (count + length brood) left v w (λ d l. let a = takes.controls d in let z = past_items d count brood l in omega (arith, a, z)) tops_split.1);
          };
          above = above_by (state_of v) (state_of w) c told (old_line c c_made) above;
        }

module _ (S : Declarations) (c : ℕ) (item : Item) (told : Option (ℕ × ℕ)) (before rest : List Effect) (e : Effect) (x : Ending) (broods left : List (List Seed)) (bound : ℕ) (v w : Parts)
    (D : IsDeclared S) (together : HoldsTogether v) (after : HoldsTogether w) (amid : IsAmid S c item told before (e ∷ rest) x broods v) (above : is_above (state_of v) c told ≡ true)
    (room : HasRoomLeft c item told (e ∷ rest) broods bound v) where
  abbrev p : Point
  p = turn.p S c item told before rest e x broods v D amid

  alive_now : alive S (acts_at p) c ≡ true
  alive_now = turn.lives S c item told before rest e x broods v D amid

  living : (state_of v).living c ≡ true
  living = amid.stands.living c ∙ alive_now

  kept : SameTree (state_of v) (state_of w) → left ≡ broods → KeepsAllButOne v w → LeavesEnough c item told rest left bound w
  kept = still c item told rest e broods left bound v w together living above room

  planted : (slot kind : ℕ) (birth : Birth) → IsCreate S p c item (effect.Create slot kind birth) rest left v w → broods ≡ broods_of S (acts_at p) c item (effect.Create slot kind birth ∷ rest)
      → TakesRooms (first_of broods) (length (state_of v).nodes) v w → LeavesEnough c item told rest left bound w
  planted slot kind birth r is takes =
      let known = born S (acts_at p) in
      let news = news_of S (acts_at p) c slot kind birth in
      let brood = seeds_for S (length known) news in
      let long : length (state_of v).nodes ≡ length known = ap length amid.stands.nodes ∙ length-map known node_of in
      let c_made = together.made c living in
      made c item told rest e broods left bound v w together living above room S known slot kind birth after brood news (is ∙ ap (λ l. brood ∷ l) (sym r.left_is)) c_made refl (sym long) (seeds_long S (length known) news)
      r.step.nodes (λ d l. r.step.living d ∙ ap (λ b. if b then (state_of v).living d else nat_lt d (length known + length news)) (lt-ltb d (length known) (omega (arith, l, long))))
      (subst (λ b. TakesRooms b (length (state_of v).nodes) v w) (ap first_of is) takes)

  by_case : (f : Effect) → IsCreate S p c item f rest left v w → broods ≡ broods_of S (acts_at p) c item (f ∷ rest) → LeavesRoomBy c f broods v w → LeavesEnough c item told rest left bound w
  by_case (effect.Create slot kind birth) r is leaves = planted slot kind birth r is leaves
  by_case (effect.Destroy slot) r is leaves = destroyed c item told rest e broods left bound v w together living above room slot (dies S (acts_at p) c slot) r.step leaves (r.left_is ∙ sym is)
  by_case (effect.Hold k) r is leaves = kept r.step.tree (r.left_is ∙ sym is) leaves
  by_case (effect.Resume k) r is leaves = kept r.step.tree (r.left_is ∙ sym is) leaves
  by_case (effect.Unplug k f) r is leaves = kept r.step.tree (r.left_is ∙ sym is) leaves
  by_case (effect.Plug k f q) r is leaves = kept r.step.tree (r.left_is ∙ sym is) leaves
  by_case (effect.Trigger port event) r is leaves = kept r.step.tree (r.left_is ∙ sym is) leaves
  by_case (effect.Answer event) r is leaves = kept r.step.tree (r.left_is ∙ sym is) leaves
  by_case (effect.Start s) r is leaves = kept r.step.tree (r.left_is ∙ sym is) leaves
  by_case (effect.Stop s) r is leaves = kept r.step.tree (r.left_is ∙ sym is) leaves
  by_case (effect.Dump s) r is leaves = kept r.step.tree (r.left_is ∙ sym is) leaves
  by_case effect.Escalate r is leaves = kept r.step.tree (r.left_is ∙ sym is) leaves

  pub enough : IsDone S c item told e broods left v w → LeavesRoomBy c e broods v w → LeavesEnough c item told rest left bound w
  enough d leaves = by_case e (turn.is_create S c item told before rest e x broods v D amid left w d) (turn.broods_at S c item told before rest e x broods v D amid) leaves

pub room_is_left : RoomIsLeft
room_is_left S c item told before rest e x broods left bound v w D together after amid above d leaves room = enough S c item told before rest e x broods left bound v w D together after amid above room d leaves
