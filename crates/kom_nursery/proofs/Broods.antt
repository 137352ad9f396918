-- The trees of a handling, one effect after another.
use Rattle.std.proofs.Common.{◌≡◌, ℕ, zero, suc, ◌+◌, ◌*◌, ◌<◌, ◌≤◌, refl, sym, ap, ◌∙◌, subst, List, [], ◌∷◌, ◌++◌, length, map, get_or, take, drop, Option, Some, None, arith}
use Rattle.std.specs.Prelude.{reverse}
use Rattle.std.specs.Option.{option_map_or}
use Rattle.std.proofs.lemmas.List.{append-nil, append_assoc, length-append, map-append, reverse-append, take_more, take-append-drop}
use Rattle.kom_lang.specs.Declarations.{Declarations}
use Rattle.kom_base.specs.Lists.{first}
use Rattle.kom_lang.specs.declared.body.Birth.{Birth}
use Rattle.kom_lang.specs.declared.body.Effect.{Effect}
use Rattle.kom_lang.specs.declared.body.Effect.TheVariants as effect
use Rattle.kom_record.specs.declared.item.Item.{Item}
use Rattle.kom_record.specs.Entries.{Act, acts_for}
use Rattle.kom_record.specs.Instances.{Instance, ancestry_of, born, created, depth_limit, tree}
use Rattle.kom_laws.proofs.InstanceLaws.{born_grows, instance_stays}
use Rattle.kom_refine.specs.Points.{act_of}
use Rattle.kom_state.specs.Parts.{Parts}
use Rattle.kom_state.specs.Rooms.{HasNoLess}
use Rattle.kom_births.specs.declared.seed.Seed.{Seed}
use Rattle.kom_births.specs.Laws.{news_of, seeds_for}
use Rattle.kom_births.specs.Seeds.{links_of, seeds_in}
use Rattle.kom_births.specs.Sprouts.{sprout_of}
use Rattle.kom_births.specs.Sowing.{HasOwnRooms}
use Rattle.kom_births.proofs.Begun.{own_kept, seeds_long}
use Rattle.kom_births.proofs.OneMore.{links_append, past_items}
use Rattle.kom_births.proofs.Shared.{early_items, items_append}
use Rattle.kom_births.proofs.Sown.{by_halves}
use Rattle.kom_nursery.specs.Nurseries.{AreCreatable, IsCreatable, IsNext, all_of, brood_of, broods_of, listed}

module _ (S : Declarations) (c : ℕ) (item : Item) where
  abbrev act : Effect → Act
  act e = act_of c item e

  one_first : (done : List Act) (e : Effect) (es : List Effect) → acts_for c (Some item) es ++ act e ∷ done ≡ acts_for c (Some item) (e ∷ es) ++ done
  one_first done e es = sym (append_assoc (reverse (map act es)) (act e ∷ []) done) ∙ ap (λ r. r ++ done) (sym (reverse-append (act e ∷ []) (map act es)))

  one_last : (es : List Effect) (e : Effect) → acts_for c (Some item) (es ++ e ∷ []) ≡ act e ∷ acts_for c (Some item) es
  one_last es e = ap reverse (map-append act es (e ∷ [])) ∙ reverse-append (map act es) (act e ∷ [])

  -- the trees of one effect more
  broods_more : (done : List Act) (es : List Effect) (e : Effect) → broods_of S done c item (es ++ e ∷ []) ≡ broods_of S done c item es ++ brood_of S (acts_for c (Some item) es ++ done) c e
  broods_more done [] e = append-nil (brood_of S done c e)
  broods_more done (d ∷ ds) e =
      ap (λ l. brood_of S done c d ++ l) (broods_more (act d ∷ done) ds e)
      ∙ ap (λ a. brood_of S done c d ++ (broods_of S (act d ∷ done) c item ds ++ brood_of S a c e)) (one_first done d ds)
      ∙ sym (append_assoc (brood_of S done c d) (broods_of S (act d ∷ done) c item ds) (brood_of S (acts_for c (Some item) (d ∷ ds) ++ done) c e))

  one_tree : (b : List Seed) → length (all_of (b ∷ [])) ≡ length b
  one_tree b = ap length (append-nil b)

  -- and as many instances more
  born_more : (done : List Act) (e : Effect) → length (born S (act e ∷ done)) ≡ length (born S done) + length (all_of (brood_of S done c e))
  unfolding born
  born_more done (effect.Create slot kind birth) =
      let news = news_of S done c slot kind birth in
      omega (arith, length-append (born S done) news, one_tree (seeds_for S (length (born S done)) news), seeds_long S (length (born S done)) news)
  born_more done (effect.Trigger p x) = omega arith
  born_more done (effect.Answer x) = omega arith
  born_more done (effect.Start s) = omega arith
  born_more done (effect.Stop s) = omega arith
  born_more done (effect.Destroy s) = omega arith
  born_more done (effect.Dump s) = omega arith
  born_more done (effect.Hold k) = omega arith
  born_more done (effect.Resume k) = omega arith
  born_more done (effect.Unplug k d) = omega arith
  born_more done (effect.Plug k d p) = omega arith
  born_more done effect.Escalate = omega arith

  -- after more acts, c is where it was
  stays_next : (mine done : List Act) (depth first number : ℕ) → IsNext S done c depth first → number ≡ length (born S (mine ++ done)) → IsNext S (mine ++ done) c depth number
  unfolding ancestry_of
  stays_next mine done depth first number n e =
      let g = born_grows S mine done in
      record {
        created = omega (arith, n.created, ap length g.1, length-append (born S done) g.0);
        deep = ap (λ o. 1 + length (option_map_or (λ (i : Instance). i.ancestry) o [])) (instance_stays S mine done c n.created) ∙ n.deep;
        next = sym e;
      }

all_append : (xs ys : List (List Seed)) → all_of (xs ++ ys) ≡ all_of xs ++ all_of ys
all_append [] ys = refl
all_append (x ∷ xs) ys = ap (λ l. x ++ l) (all_append xs ys) ∙ sym (append_assoc x (all_of xs) (all_of ys))

-- what is there after some of the effects
pub record IsSoFar (S : Declarations) (c depth first : ℕ) (effects : List Effect) (number : ℕ) (broods : List (List Seed)) : Type 0 where
  pub low : number ≤ first + 1000 * length effects
  pub high : first ≤ number
  pub size : length (all_of broods) ≤ 1000 * length effects
  pub wide : length (links_of (all_of broods)) ≤ 1000 * length effects
  pub counted : (done : List Act) (item : Item) → IsNext S done c depth first → number ≡ length (born S (acts_for c (Some item) effects ++ done))
  pub are : (done : List Act) (item : Item) → IsNext S done c depth first → broods ≡ broods_of S done c item effects

pub nothing_yet : (S : Declarations) (c depth first : ℕ) (broods : List (List Seed)) → broods ≡ [] → IsSoFar S c depth first [] first broods
nothing_yet S c depth first broods e = record { low = omega arith; high = omega arith; size = omega (arith, ap (λ l. length (all_of l)) e); wide = omega (arith, ap (λ l. length (links_of (all_of l))) e); counted = λ done item n. sym n.next; are = λ done item n. e }

pub one_effect : (S : Declarations) (c depth first : ℕ) (effects : List Effect) (number : ℕ) (broods : List (List Seed)) (e : Effect) (o : Option (List Seed)) (k : ℕ) (more : List (List Seed))
    → IsSoFar S c depth first effects number broods → length (all_of (listed o)) ≤ 1000 → length (links_of (all_of (listed o))) ≤ 1000
    → ((done : List Act) → IsNext S done c depth number → listed o ≡ brood_of S done c e) → k ≡ number + length (all_of (listed o)) → more ≡ broods ++ listed o
    → IsSoFar S c depth first (effects ++ e ∷ []) k more
one_effect S c depth first effects number broods e o k more r few links b kk mm = record {
  low = let a = r.low in omega (arith, a, few, kk, length-append effects (e ∷ []));
  high = let a = r.high in omega (arith, a, kk);
  size = let a = r.size in omega (arith, a, few, ap (λ l. length (all_of l)) mm, ap (length {A = Seed}) (all_append broods (listed o)), length-append (all_of broods) (all_of (listed o)), length-append effects (e ∷ []));
  wide = let a = r.wide in omega (arith, a, links, ap (λ l. length (links_of (all_of l))) mm, ap (λ l. length (links_of l)) (all_append broods (listed o)), links_append (all_of broods) (all_of (listed o)), length-append effects (e ∷ []));
  counted = λ done item n.
      let mine = acts_for c (Some item) effects in
      let next = stays_next S c item mine done depth first number n (r.counted done item n) in
      let same = ap (λ l. length (all_of l)) (b (mine ++ done) next) in
      let grown = born_more S c item (mine ++ done) e in
      let acts = ap (λ l. length (born S (l ++ done))) (one_last S c item effects e) in
      let was = r.counted done item n in
      omega (arith, kk, same, grown, acts, was);
  are = λ done item n.
      let mine = acts_for c (Some item) effects in
      let next = stays_next S c item mine done depth first number n (r.counted done item n) in
      mm ∙ ap (λ l. l ++ listed o) (r.are done item n) ∙ ap (λ l. broods_of S done c item effects ++ l) (b (mine ++ done) next) ∙ sym (broods_more S c item done effects e);
}

pub creatable_at : (S : Declarations) (depth : ℕ) (effects : List Effect) (k : ℕ) (e : Effect) → k < length effects → e ≡ get_or effects k e → AreCreatable S depth effects → IsCreatable S depth e
creatable_at S depth [] k e h f a = absurd (omega (arith, h))
creatable_at S depth (d ∷ ds) zero e h f a = subst (IsCreatable S depth) (sym f) a.0
creatable_at S depth (d ∷ ds) (suc k) e h f a = creatable_at S depth ds k e (omega (arith, h)) f a.1

pub next_part : {A : Type 0} (xs : List A) (k : ℕ) (x : A) → k < length xs → x ≡ get_or xs k x → take (k + 1) xs ≡ take k xs ++ x ∷ []
next_part xs k x h e = take_more xs k x h ∙ ap (λ z. take k xs ++ z ∷ []) (sym e)

-- ---- the room of all of them

pub all_push : (bs : List (List Seed)) (b : List Seed) → all_of (bs ++ b ∷ []) ≡ all_of bs ++ b
all_push [] b = append-nil b
all_push (x ∷ xs) b = ap (λ l. x ++ l) (all_push xs b) ∙ sym (append_assoc x (all_of xs) b)

pub own_append : (xs ys : List Seed) (n chans : ℕ) (v : Parts) → HasOwnRooms xs n chans v → HasOwnRooms ys (n + length xs) (chans + length (links_of xs)) v → HasOwnRooms (xs ++ ys) n chans v
own_append xs ys n chans v h k =
    let long = length-append xs ys in
    let wide = links_append xs ys in
    record {
      own = record {
        rows = λ c low high. by_halves c (n + length xs) (λ l. h.own.rows c low l) (λ l. k.own.rows c l (omega (arith, high, long)));
        controls = λ c.
            let e = items_append c n xs ys in
            by_halves c (n + length xs)
            (λ l. let a = h.own.controls c in let z = early_items c (n + length xs) ys l in omega (arith, a, e, z))
            (λ l. let a = k.own.controls c in let z = past_items c n xs l in omega (arith, a, e, z));
      };
      queues = λ x low high. by_halves x (chans + length (links_of xs)) (λ l. h.queues x low l) (λ l. k.queues x l (omega (arith, high, wide)));
    }

-- ---- one effect

pub one_brood : (S : Declarations) (done : List Act) (c depth number slot kind : ℕ) (birth : Birth) (b : List Seed) → IsNext S done c depth number
    → ((i : Instance) → i.kind ≡ kind → i.birth ≡ birth → first i.ancestry ≡ Some (c, slot) → 1 + length i.ancestry ≡ depth + 1 → b ≡ seeds_in number (map sprout_of (tree depth_limit S number i)) S)
    → b ∷ [] ≡ brood_of S done c (effect.Create slot kind birth)
unfolding created
one_brood S done c depth number slot kind birth b n planted =
    let i : Instance = record { kind = kind; birth = birth; ancestry = (c, slot) ∷ ancestry_of S (born S done) c } in
    let deep : 1 + length i.ancestry ≡ depth + 1 = omega (arith, n.deep) in
    ap (λ l. l ∷ []) (planted i refl refl refl deep ∙ ap (λ k. seeds_in k (map sprout_of (tree depth_limit S k i)) S) (sym n.next))

pub some_counted : (o : Option (List Seed)) (b : List Seed) (k number len : ℕ) → o ≡ Some b → k ≡ number + len → len ≡ length b → k ≡ number + length (all_of (listed o))
some_counted o b k number len e f g =
    let h : length (all_of (listed o)) ≡ length b = ap (λ z. length (all_of (listed z))) e ∙ ap length (append-nil b) in
    omega (arith, f, g, h)

pub none_counted : (o : Option (List Seed)) (k number : ℕ) → o ≡ None → k ≡ number → k ≡ number + length (all_of (listed o))
none_counted o k number e f = let h : length (all_of (listed o)) ≡ 0 = ap (λ z. length (all_of (listed z))) e in omega (arith, f, h)

pub none_added : (o : Option (List Seed)) (more old : List (List Seed)) → o ≡ None → more ≡ old → more ≡ old ++ listed o
none_added o more old e f = f ∙ sym (append-nil old) ∙ ap (λ z. old ++ listed z) (sym e)

pub some_added : (o : Option (List Seed)) (b : List Seed) (more old : List (List Seed)) → o ≡ Some b → more ≡ old ++ b ∷ [] → more ≡ old ++ listed o
some_added o b more old e f = f ∙ ap (λ z. old ++ listed z) (sym e)

-- ---- the room of the first of them

module _ (bs : List (List Seed)) (k : ℕ) (b : List Seed) (h : k < length bs) (e : b ≡ get_or bs k b) where
  pub all_next : all_of (take (k + 1) bs) ≡ all_of (take k bs) ++ b
  all_next = ap all_of (next_part bs k b h e) ∙ all_push (take k bs) b

  whole : all_of bs ≡ (all_of (take k bs) ++ b) ++ all_of (drop (k + 1) bs)
  whole = ap all_of (sym (take-append-drop (k + 1) bs)) ∙ all_append (take (k + 1) bs) (drop (k + 1) bs) ∙ ap (λ l. l ++ all_of (drop (k + 1) bs)) all_next

  pub part_few : length (all_of (take k bs)) + length b ≤ length (all_of bs)
  part_few = omega (arith, ap length whole, length-append (all_of (take k bs) ++ b) (all_of (drop (k + 1) bs)), length-append (all_of (take k bs)) b)

  pub part_links : length (links_of (all_of (take k bs))) + length (links_of b) ≤ length (links_of (all_of bs))
  part_links = omega (arith, ap (λ l. length (links_of l)) whole, links_append (all_of (take k bs) ++ b) (all_of (drop (k + 1) bs)), links_append (all_of (take k bs)) b)

  pub long_next : length (all_of (take (k + 1) bs)) ≡ length (all_of (take k bs)) + length b
  long_next = ap length all_next ∙ length-append (all_of (take k bs)) b

  pub wide_next : length (links_of (all_of (take (k + 1) bs))) ≡ length (links_of (all_of (take k bs))) + length (links_of b)
  wide_next = ap (λ l. length (links_of l)) all_next ∙ links_append (all_of (take k bs)) b

  pub own_next : (n chans first chan : ℕ) (v w : Parts) → HasNoLess v w → HasOwnRooms (all_of (take k bs)) n chans v → first ≡ n + length (all_of (take k bs)) → chan ≡ chans + length (links_of (all_of (take k bs)))
      → HasOwnRooms b first chan w → HasOwnRooms (all_of (take (k + 1) bs)) n chans w
  own_next n chans first chan v w keeps r f g own =
      subst (λ l. HasOwnRooms l n chans w) (sym all_next)
      (own_append (all_of (take k bs)) b n chans w (own_kept (all_of (take k bs)) n chans v w keeps r)
      (subst (λ z. HasOwnRooms b (n + length (all_of (take k bs))) z w) g (subst (λ z. HasOwnRooms b z chan w) f own)))
