-- What is known of the instances, and what the effects of an entry change of it.
use Rattle.std.specs.Prelude.{◌≡◌, ℕ, suc, Bool, false, ◌&&◌, ◌==◌, if◌then◌else◌, List, [], ◌∷◌, ◌++◌, length, map, slice_get, Option, Some, None}
use Rattle.std.specs.Option.{option_map_or}
use Rattle.std.specs.Ordering.{nat_cmp, on, then_cmp}
use Rattle.std.specs.declared.cmp.Ordering.{Ordering}
use Rattle.kom_index.specs.Entries.{value_of}
use Rattle.kom_lang.specs.Declarations.{Declarations, kind_of, no_kind}
use Rattle.kom_lang.specs.declared.kind.Kind.{Kind}
use Rattle.kom_record.specs.Entries.{Act}
use Rattle.kom_record.specs.Instances.{Instance, tree, depth_limit, born, occupant}
use Rattle.kom_trees.specs.declared.nodes.Node.{Node}
use Rattle.kom_trees.specs.Nodes.{node_of, IsOf}
use Rattle.kom_trees.specs.declared.nodes.SlotOf.{SlotOf}
use Rattle.kom_scribe.specs.declared.draft.Change.{Change}
use Rattle.kom_scribe.specs.declared.draft.Change.TheVariants.{Born, Gone}
use Rattle.kom_scribe.specs.declared.draft.Draft.{Draft}
use Rattle.kom_scribe.specs.declared.known.Known.{Known}

abbrev pub slot_cmp : SlotOf → SlotOf → Ordering
slot_cmp = then_cmp (on (λ q. q.comp) nat_cmp) (on (λ q. q.slot) nat_cmp)

-- ---- slots

abbrev pub is_at : ℕ → ℕ → Option SlotOf → Bool
is_at p s at = option_map_or (λ q. q.comp == p && q.slot == s) at false

-- the occupant of slot s of p after some changes, where `old` is the one before them and the next new
-- instance has the number n
abbrev pub occupant_in : ℕ → ℕ → ℕ → Option ℕ → List Change → Option ℕ
occupant_in p s n old [] = old
occupant_in p s n old (Born at ∷ changes) = occupant_in p s (suc n) (if is_at p s at then Some n else old) changes
occupant_in p s n old (Gone at ∷ changes) = occupant_in p s n (if is_at p s (Some at) then None else old) changes

-- how many instances are new
abbrev pub births : List Change → ℕ
births [] = 0
births (Born at ∷ changes) = suc (births changes)
births (Gone at ∷ changes) = births changes

-- ---- what is known

-- the occupant of slot s of p
abbrev pub known_occupant : Known → ℕ → ℕ → Option ℕ
known_occupant k p s = value_of slot_cmp (record { comp = p; slot = s }) k.occupants.0

-- the types of all instances, with those of a draft
abbrev pub kinds_with : Known → Draft → List ℕ
kinds_with k d = k.kinds.items ++ d.kinds.items

abbrev pub type_among : Declarations → List ℕ → ℕ → Kind
type_among S kinds c = option_map_or (kind_of S) (slice_get kinds c) no_kind

-- a draft has besides these instances
pub record HasBesides (nodes : List Node) (old new : Draft) : Type 0 where
  pub kinds : new.kinds.items ≡ old.kinds.items ++ map (λ n. n.kind) nodes
  pub changes : new.changes.items ≡ old.changes.items ++ map (λ n. Born n.at) nodes

-- what is known, with a draft, is how it is after some acts
pub record IsAfter (S : Declarations) (k : Known) (d : Draft) (done : List Act) : Type 0 where
  pub kinds : kinds_with k d ≡ map (λ i. i.kind) (born S done)
  pub occupants : (p s : ℕ) → occupant_in p s (length k.kinds.items) (known_occupant k p s) d.changes.items ≡ occupant S done p s
  pub counted : births d.changes.items ≡ length d.kinds.items

-- what is known is how it is after some acts
pub record Knows (S : Declarations) (k : Known) (done : List Act) : Type 0 where
  pub kinds : k.kinds.items ≡ map (λ i. i.kind) (born S done)
  pub occupants : (p s : ℕ) → known_occupant k p s ≡ occupant S done p s

-- a draft has besides the instances that a creation in a slot makes
abbrev pub Creates : Declarations → Known → SlotOf → ℕ → Draft → Draft → Type 0
Creates S k at kind d new = (i : Instance) → IsOf kind (Some at) i → HasBesides (map node_of (tree depth_limit S (length (kinds_with k d)) i)) d new
