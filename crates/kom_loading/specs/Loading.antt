-- What the system file of a name comes to.
use Rattle.std.specs.Prelude.{◌≡◌, ◌<◌, ◌≤◌, ◌++◌, ℕ, List, [], ◌∷◌, length, Option, Some, codes, decimal}
use Rattle.kom_system.specs.Contents.{Contents}
use Rattle.kom_sysfile.specs.Answers.{IsSystem, IsRefusal}
use Rattle.kom_loading.specs.declared.system.Loaded.{Loaded}
use Rattle.kom_loading.specs.declared.system.Loaded.TheVariants as loaded

-- the greatest length of a file, in bytes
abbrev pub file_limit : ℕ
file_limit = 1048576

-- a text within the limit that breaks no rule, and the system that it stands for
pub record Stands (text : List ℕ) (system : Contents) : Type 0 where
  pub short : length text ≤ file_limit
  pub accepted : IsSystem text system

-- the least rule that a text breaks, with the line and the column where it breaks it first; a text over
-- the limit breaks the first rule at its beginning
pub data IsRefused (text : List ℕ) : (rule line column : ℕ) → Type 0 where
  too_long : file_limit < length text → IsRefused text 1 1 1
  breaks : (rule line column : ℕ) → length text ≤ file_limit → IsRefusal text rule line column → IsRefused text rule line column

-- what is found of a text; a text within the limit is no fault
abbrev pub IsRead : List ℕ → Loaded → Type 0
IsRead text (loaded.System system) = Stands text system
IsRead text (loaded.Refused rule line column) = IsRefused text rule line column
IsRead text loaded.ShelfFault = ⊥
IsRead text loaded.Memory = Unit {0}

-- what is found of a file, where its bytes are told
abbrev pub IsLoaded : Loaded → Option (List ℕ) → Type 0
IsLoaded (loaded.System system) file = (text : List ℕ) → file ≡ Some text → Stands text system
IsLoaded (loaded.Refused rule line column) file = (text : List ℕ) → file ≡ Some text → IsRefused text rule line column
IsLoaded loaded.ShelfFault file = Unit {0}
IsLoaded loaded.Memory file = Unit {0}

-- the line that names a broken rule of a file of this kind
abbrev pub refusal_line : List ℕ → (rule line column : ℕ) → List ℕ
refusal_line kind rule line column =
    codes "refused " ++ (kind ++ (codes " rule " ++ (decimal rule ++ (codes " at " ++ (decimal line ++ (codes ":" ++ (decimal column ++ (10 ∷ []))))))))
