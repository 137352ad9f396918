-- What is known of the instances, with a draft, after one act more.
use Rattle.std.proofs.Common.{◌≡◌, ℕ, suc, ◌+◌, Bool, true, false, ◌&&◌, ◌==◌, if◌then◌else◌, refl, sym, ap, ◌∙◌, subst, List, [], ◌∷◌, ◌++◌, length, Option, Some, None, arith}
use Rattle.std.specs.Prelude.{map, Result, Ok, Err, OnErr}
use Rattle.std.specs.Option.{option_map, option_map_or}
use Rattle.std.proofs.lemmas.List.{append_assoc, append-nil, map-append, length-append}
use Rattle.kom_base.specs.Lists.{either, first}
use Rattle.kom_lang.specs.Declarations.{Declarations}
use Rattle.kom_lang.specs.declared.body.Birth.{Birth}
use Rattle.kom_lang.specs.declared.body.Birth.TheVariants.{Args}
use Rattle.kom_lang.specs.declared.body.Effect.{Effect}
use Rattle.kom_lang.specs.declared.body.Effect.TheVariants as effect
use Rattle.kom_record.specs.declared.item.Item.{Item}
use Rattle.kom_record.specs.Entries.{Act, acts_for}
use Rattle.kom_record.specs.Instances.{Instance, tree, depth_limit, root_tree, ancestry_of, created, born, is_child, child_among, occupant}
use Rattle.kom_trees.specs.declared.nodes.Node.{Node}
use Rattle.kom_trees.specs.declared.nodes.SlotOf.{SlotOf}
use Rattle.kom_trees.specs.Nodes.{node_of, place_of, IsOf}
use Rattle.kom_scribe.specs.declared.draft.Change.TheVariants.{Born, Gone}
use Rattle.kom_scribe.specs.declared.draft.Draft.{Draft}
use Rattle.kom_scribe.specs.declared.known.Known.{Known}
use Rattle.kom_scribe.specs.Drafts.{is_at, occupant_in, births, known_occupant, kinds_with, HasBesides, Creates, IsAfter, Knows}
use Rattle.kom_scribe.proofs.Slots.{occupant_split, births_split}

-- ---- the instances of a tree, and their slots

length_map : {X Y : Type 0} (f : X → Y) (xs : List X) → length (map f xs) ≡ length xs
length_map f [] = refl
length_map f (x ∷ xs) = let e = length_map f xs in omega (arith, e)

kinds_of_nodes : (is : List Instance) → map (λ (n : Node). n.kind) (map node_of is) ≡ map (λ (i : Instance). i.kind) is
kinds_of_nodes [] = refl
kinds_of_nodes (i ∷ is) = ap (λ ks. i.kind ∷ ks) (kinds_of_nodes is)

births_of_nodes : (ns : List Node) → births (map (λ n. Born n.at) ns) ≡ length ns
births_of_nodes [] = refl
births_of_nodes (n ∷ ns) = let e = births_of_nodes ns in omega (arith, e)

at_place : (p s : ℕ) (o : Option (ℕ × ℕ)) → is_at p s (option_map (λ q. record { comp = q.0; slot = q.1 }) o) ≡ option_map_or (λ q. q.0 == p && q.1 == s) o false
at_place p s None = refl
at_place p s (Some q) = refl

either_assoc : (a b c : Option ℕ) → either (either a b) c ≡ either a (either b c)
either_assoc None b c = refl
either_assoc (Some x) b c = refl

either_none : (a : Option ℕ) → either a None ≡ a
either_none None = refl
either_none (Some x) = refl

seat : (b : Bool) (n : ℕ) (old : Option ℕ) → (if b then Some n else old) ≡ either (if b then Some n else None) old
seat true n old = refl
seat false n old = refl

-- the occupant of a slot after these instances were created
seated : (S : Declarations) (p s n : ℕ) (old : Option ℕ) (is : List Instance) → occupant_in p s n old (map (λ (x : Node). Born x.at) (map node_of is)) ≡ either (child_among S p s n is) old
unfolding child_among
seated S p s n old [] = refl
seated S p s n old (i ∷ is) =
    let rest = child_among S p s (suc n) is in
    seated S p s (suc n) (if is_at p s (place_of i) then Some n else old) is
    ∙ ap (λ (b : Bool). either rest (if b then Some n else old)) (at_place p s (first i.ancestry))
    ∙ ap (either rest) (seat (is_child S p s i) n old)
    ∙ sym (either_assoc rest (if is_child S p s i then Some n else None) old)

-- what stands after an error
pub on_err : {T E P : Type 0} (r : Result T E) → P → OnErr r P
on_err (Ok x) p = tt
on_err (Err e) p = p

-- ---- one act more

module _ (S : Declarations) (k : Known) where
  -- as many instances are known as were born
  pub counted_as_born : (d : Draft) (done : List Act) → IsAfter S k d done → length (kinds_with k d) ≡ length (born S done)
  counted_as_born d done h = ap length h.kinds ∙ length_map (λ i. i.kind) (born S done)

  -- the instances with a list more
  besides : (d new : Draft) (done more : List Act) (is : List Instance) → IsAfter S k d done → HasBesides (map node_of is) d new
      → born S more ≡ born S done ++ is
      → ((p s : ℕ) → occupant S more p s ≡ either (child_among S p s (length (born S done)) is) (occupant S done p s))
      → IsAfter S k new more
  besides d new done more is h b born_is there = record {
    kinds = ap (λ ks. k.kinds.items ++ ks) b.kinds ∙ sym (append_assoc k.kinds.items d.kinds.items (map (λ n. n.kind) (map node_of is)))
        ∙ ap (λ ks. ks ++ map (λ n. n.kind) (map node_of is)) h.kinds
        ∙ ap (λ ks. map (λ i. i.kind) (born S done) ++ ks) (kinds_of_nodes is)
        ∙ sym (map-append (λ i. i.kind) (born S done) is) ∙ ap (map (λ i. i.kind)) (sym born_is);
    occupants = λ p s.
        ap (occupant_in p s (length k.kinds.items) (known_occupant k p s)) b.changes
        ∙ occupant_split p s (length k.kinds.items) (known_occupant k p s) d.changes.items (map (λ n. Born n.at) (map node_of is))
        ∙ ap (λ n. occupant_in p s n (occupant_in p s (length k.kinds.items) (known_occupant k p s) d.changes.items) (map (λ n. Born n.at) (map node_of is))) next
        ∙ ap (λ o. occupant_in p s (length (born S done)) o (map (λ n. Born n.at) (map node_of is))) (h.occupants p s)
        ∙ seated S p s (length (born S done)) (occupant S done p s) is
        ∙ sym (there p s);
    counted = omega (arith, ap births b.changes, births_split d.changes.items (map (λ n. Born n.at) (map node_of is)), births_of_nodes (map node_of is), h.counted, ap length b.kinds, length-append d.kinds.items (map (λ (n : Node). n.kind) (map node_of is)), length_map (λ (n : Node). n.kind) (map node_of is));
  }
    where
      next : length k.kinds.items + births d.changes.items ≡ length (born S done)
      next = let e = counted_as_born d done h in let l = length-append k.kinds.items d.kinds.items in let c = h.counted in omega (arith, e, l, c)

  pub create_drafted : (number : ℕ) (nodes slice : List Node) (at : SlotOf) (kind : ℕ) (d new : Draft) → number ≡ length (kinds_with k d) → slice ≡ nodes
      → ((i : Instance) → IsOf kind (Some at) i → nodes ≡ map node_of (tree depth_limit S number i))
      → (new.kinds.items ≡ d.kinds.items ++ map (λ n. n.kind) slice) × (new.changes.items ≡ d.changes.items ++ map (λ n. Born n.at) slice)
      → Creates S k at kind d new
  create_drafted number nodes slice at kind d new e f g h i is =
      let all : slice ≡ map node_of (tree depth_limit S (length (kinds_with k d)) i) = f ∙ g i is ∙ ap (λ n. map node_of (tree depth_limit S n i)) e in
      record {
        kinds = h.0 ∙ ap (λ ns. d.kinds.items ++ map (λ (n : Node). n.kind) ns) all;
        changes = h.1 ∙ ap (λ ns. d.changes.items ++ map (λ (n : Node). Born n.at) ns) all;
      }

  pub after_create : (d new : Draft) (done : List Act) (c p slot kind : ℕ) (birth : Birth) (item : Item) → p ≡ c → IsAfter S k d done → Creates S k (record { comp = p; slot = slot }) kind d new
      → IsAfter S k new (acts_for c (Some item) (effect.Create slot kind birth ∷ []) ++ done)
  unfolding born created occupant
  after_create d new done c p slot kind birth item e h m =
      let i : Instance = record { kind = kind; birth = birth; ancestry = (c, slot) ∷ ancestry_of S (born S done) c } in
      besides d new done (record { by = c; item = item; effect = effect.Create slot kind birth } ∷ done) (created S (born S done) c slot kind birth) h
      (subst (λ n. HasBesides (map node_of (tree depth_limit S n i)) d new) (counted_as_born d done h) (m i (refl, ap (λ q. Some (record { comp = q; slot = slot })) (sym e)))) refl (λ p s. refl)

  pub after_destroy : (d new : Draft) (done : List Act) (c p slot : ℕ) (item : Item) → p ≡ c → IsAfter S k d done
      → (new.kinds.items ≡ d.kinds.items) × (new.changes.items ≡ d.changes.items ++ Gone (record { comp = p; slot = slot }) ∷ [])
      → IsAfter S k new (acts_for c (Some item) (effect.Destroy slot ∷ []) ++ done)
  unfolding born occupant
  after_destroy d new done c p slot item e h g = record {
    kinds = ap (λ ks. k.kinds.items ++ ks) g.0 ∙ h.kinds;
    occupants = λ q s.
        ap (occupant_in q s (length k.kinds.items) (known_occupant k q s)) g.1
        ∙ occupant_split q s (length k.kinds.items) (known_occupant k q s) d.changes.items (Gone (record { comp = p; slot = slot }) ∷ [])
        ∙ ap (λ (o : Option ℕ). if p == q && slot == s then None else o) (h.occupants q s)
        ∙ ap (λ (n : ℕ). if n == q && slot == s then None else occupant S done q s) e;
    counted = omega (arith, ap births g.1, births_split d.changes.items (Gone (record { comp = p; slot = slot }) ∷ []), h.counted, ap length g.0);
  }

  -- other effects change nothing of it
  abbrev pub IsQuiet : Effect → Type 0
  IsQuiet (effect.Create slot kind birth) = ⊥
  IsQuiet (effect.Destroy slot) = ⊥
  IsQuiet e = Unit {0}

  pub quiet : (e : Effect) → ((slot kind : ℕ) (birth : Birth) → e ≡ effect.Create slot kind birth → ⊥) → ((slot : ℕ) → e ≡ effect.Destroy slot → ⊥) → IsQuiet e
  quiet (effect.Create slot kind birth) f g = f slot kind birth refl
  quiet (effect.Destroy slot) f g = g slot refl
  quiet (effect.Trigger port event) f g = tt
  quiet (effect.Answer event) f g = tt
  quiet (effect.Start slot) f g = tt
  quiet (effect.Stop slot) f g = tt
  quiet (effect.Dump slot) f g = tt
  quiet (effect.Hold x) f g = tt
  quiet (effect.Resume x) f g = tt
  quiet (effect.Unplug x e) f g = tt
  quiet (effect.Plug x e p) f g = tt
  quiet effect.Escalate f g = tt

  pub after_quiet : (d : Draft) (done : List Act) (c : ℕ) (e : Effect) (item : Item) → IsAfter S k d done → IsQuiet e → IsAfter S k d (acts_for c (Some item) (e ∷ []) ++ done)
  unfolding born occupant
  after_quiet d done c (effect.Create slot kind birth) item h q = absurd q
  after_quiet d done c (effect.Destroy slot) item h q = absurd q
  after_quiet d done c (effect.Trigger port event) item h q = record { kinds = h.kinds; occupants = h.occupants; counted = h.counted }
  after_quiet d done c (effect.Answer event) item h q = record { kinds = h.kinds; occupants = h.occupants; counted = h.counted }
  after_quiet d done c (effect.Start slot) item h q = record { kinds = h.kinds; occupants = h.occupants; counted = h.counted }
  after_quiet d done c (effect.Stop slot) item h q = record { kinds = h.kinds; occupants = h.occupants; counted = h.counted }
  after_quiet d done c (effect.Dump slot) item h q = record { kinds = h.kinds; occupants = h.occupants; counted = h.counted }
  after_quiet d done c (effect.Hold x) item h q = record { kinds = h.kinds; occupants = h.occupants; counted = h.counted }
  after_quiet d done c (effect.Resume x) item h q = record { kinds = h.kinds; occupants = h.occupants; counted = h.counted }
  after_quiet d done c (effect.Unplug x e) item h q = record { kinds = h.kinds; occupants = h.occupants; counted = h.counted }
  after_quiet d done c (effect.Plug x e p) item h q = record { kinds = h.kinds; occupants = h.occupants; counted = h.counted }
  after_quiet d done c effect.Escalate item h q = record { kinds = h.kinds; occupants = h.occupants; counted = h.counted }

  -- ---- a draft that is taken over

  -- the record begins with the root's tree
  pub begun : (d : Draft) → k.kinds.items ≡ [] → ((p s : ℕ) → known_occupant k p s ≡ None) → d.kinds.items ≡ map (λ n. n.kind) (map node_of (root_tree S)) → d.changes.items ≡ map (λ n. Born n.at) (map node_of (root_tree S))
      → IsAfter S k d []
  unfolding born occupant
  begun d e o f g = record {
    kinds = ap (λ ks. ks ++ d.kinds.items) e ∙ f ∙ kinds_of_nodes (root_tree S);
    occupants = λ p s.
        ap (λ ks. occupant_in p s (length ks) (known_occupant k p s) d.changes.items) e
        ∙ ap (λ old. occupant_in p s 0 old d.changes.items) (o p s)
        ∙ ap (occupant_in p s 0 None) g
        ∙ seated S p s 0 None (root_tree S)
        ∙ either_none (child_among S p s 0 (root_tree S));
    counted = ap births g ∙ births_of_nodes (map node_of (root_tree S)) ∙ sym (length_map (λ (n : Node). n.kind) (map node_of (root_tree S))) ∙ sym (ap length f);
  }

  pub root_drafted : (nodes slice : List Node) (kind : ℕ) (old d : Draft) → S.root.kind ≡ kind → slice ≡ nodes
      → ((i : Instance) → IsOf kind None i → nodes ≡ map node_of (tree depth_limit S 0 i)) → old.kinds.items ≡ [] → old.changes.items ≡ []
      → (d.kinds.items ≡ old.kinds.items ++ map (λ n. n.kind) slice) × (d.changes.items ≡ old.changes.items ++ map (λ n. Born n.at) slice)
      → (d.kinds.items ≡ map (λ n. n.kind) (map node_of (root_tree S))) × (d.changes.items ≡ map (λ n. Born n.at) (map node_of (root_tree S)))
  unfolding root_tree
  root_drafted nodes slice kind old d k e f g h m =
      let all : slice ≡ map node_of (root_tree S) = e ∙ f (record { kind = S.root.kind; birth = Args S.root.args; ancestry = [] }) (k, refl) in
      (m.0 ∙ ap (λ ks. ks ++ map (λ (n : Node). n.kind) slice) g ∙ ap (map (λ (n : Node). n.kind)) all, m.1 ∙ ap (λ cs. cs ++ map (λ (n : Node). Born n.at) slice) h ∙ ap (map (λ (n : Node). Born n.at)) all)

  pub absorbed : (new : Known) (d : Draft) (done : List Act) → IsAfter S k d done → new.kinds.items ≡ k.kinds.items ++ d.kinds.items
      → ((p s : ℕ) → known_occupant new p s ≡ occupant_in p s (length k.kinds.items) (known_occupant k p s) d.changes.items) → Knows S new done
  absorbed new d done h e o = record { kinds = e ∙ h.kinds; occupants = λ p s. o p s ∙ h.occupants p s }

  -- an empty draft
  pub with_nothing : (d : Draft) (done : List Act) → Knows S k done → d.kinds.items ≡ [] → d.changes.items ≡ [] → IsAfter S k d done
  with_nothing d done h e f = record {
    kinds = ap (λ ks. k.kinds.items ++ ks) e ∙ append-nil k.kinds.items ∙ h.kinds;
    occupants = λ p s. ap (occupant_in p s (length k.kinds.items) (known_occupant k p s)) f ∙ h.occupants p s;
    counted = ap births f ∙ sym (ap length e);
  }
