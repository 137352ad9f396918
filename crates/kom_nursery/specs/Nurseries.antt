-- What is planted of the trees that a handling creates.
use Rattle.std.specs.Prelude.{◌≡◌, ◌≤◌, ◌<◌, ℕ, ◌+◌, List, [], ◌∷◌, ◌++◌, length, Option, Some, None}
use Rattle.std.specs.List.{flat_map}
use Rattle.kom_lang.specs.Declarations.{Declarations, height_of}
use Rattle.kom_lang.specs.declared.body.Effect.{Effect}
use Rattle.kom_lang.specs.declared.body.Effect.TheVariants as effect
use Rattle.kom_record.specs.declared.item.Item.{Item}
use Rattle.kom_record.specs.Entries.{Act}
use Rattle.kom_record.specs.Instances.{ancestry_of, born}
use Rattle.kom_refine.specs.Points.{act_of}
use Rattle.kom_births.specs.declared.seed.Seed.{Seed}
use Rattle.kom_births.specs.Laws.{news_of, seeds_for}

-- what is planted of the tree that an effect of c creates after these acts; nothing where it is no Create
abbrev pub brood_of : Declarations → List Act → ℕ → Effect → List (List Seed)
brood_of S done c (effect.Create slot kind birth) = seeds_for S (length (born S done)) (news_of S done c slot kind birth) ∷ []
brood_of S done c e = []

-- of the trees that the effects of a handling of an item by c create, in order
abbrev pub broods_of : Declarations → List Act → ℕ → Item → List Effect → List (List Seed)
broods_of S done c item [] = []
broods_of S done c item (e ∷ es) = brood_of S done c e ++ broods_of S (act_of c item e ∷ done) c item es

-- a component of a depth may create the type: it is declared, and its tree ends at depth 16 at most
abbrev pub IsCreatable : Declarations → ℕ → Effect → Type 0
IsCreatable S depth (effect.Create slot kind birth) = (kind < length S.kinds) × (depth + 1 + height_of S kind ≤ 17)
IsCreatable S depth e = Unit {0}

abbrev pub AreCreatable : Declarations → ℕ → List Effect → Type 0
AreCreatable S depth [] = Unit {0}
AreCreatable S depth (e ∷ es) = IsCreatable S depth e × AreCreatable S depth es

-- c was created at that depth, and the next instance gets the number
pub record IsNext (S : Declarations) (done : List Act) (c depth number : ℕ) : Type 0 where
  pub created : c < length (born S done)
  pub deep : 1 + length (ancestry_of S (born S done) c) ≡ depth
  pub next : length (born S done) ≡ number

-- all that is planted, one after another
abbrev pub all_of : List (List Seed) → List Seed
all_of broods = flat_map (λ b. b) broods

abbrev pub listed : Option (List Seed) → List (List Seed)
listed None = []
listed (Some b) = b ∷ []
