-- A template whose whole words are replaced.
use Rattle.std.specs.Prelude.{ℕ, zero, suc, ◌+◌, ◌-◌, ◌*◌, ◌%◌, Bool, false, ◌&&◌, ◌||◌, ◌==◌, if◌then◌else◌, List, [], ◌∷◌, ◌++◌, Option, Some, None, unwrap_or, codes, decimal, bytes_eq}
use Rattle.std.specs.List.{list_any, flat_map}
use Rattle.std.specs.Char.{is_ascii_digit, is_ascii_alphabetic}
use Rattle.kom_make.specs.declared.fill.Place.{Place}
use Rattle.kom_make.specs.declared.fill.Place.TheVariants.{Line, Load}

-- ---- lines and words

-- letters, digits and `_`
abbrev pub is_word_byte : ℕ → Bool
is_word_byte b = is_ascii_alphabetic b || b == 95 || is_ascii_digit b

abbrev pub first_is_word : List ℕ → Bool
first_is_word [] = false
first_is_word (b ∷ bs) = is_word_byte b

-- a byte before parts: it joins the first part where both are of a word
abbrev pub joined : ℕ → List (List ℕ) → List (List ℕ)
joined b [] = (b ∷ []) ∷ []
joined b (w ∷ ws) = if is_word_byte b && first_is_word w then (b ∷ w) ∷ ws else (b ∷ []) ∷ w ∷ ws

-- a text as its whole words, and each other byte on its own
abbrev pub words : List ℕ → List (List ℕ)
words [] = []
words (b ∷ bs) = joined b (words bs)

abbrev pub begun : ℕ → List (List ℕ) → List (List ℕ)
begun b [] = (b ∷ []) ∷ []
begun b (l ∷ ls) = (b ∷ l) ∷ ls

-- the lines of a text, each with the newline that ends it
abbrev pub lines : List ℕ → List (List ℕ)
lines [] = []
lines (b ∷ bs) = if b == 10 then (b ∷ []) ∷ lines bs else begun b (lines bs)

-- ---- what stands for a word

abbrev pub numbered : List ℕ → ℕ → Option (List ℕ)
numbered name number = Some (name ++ decimal number)

-- in line i of n, and in the scenario of n
abbrev pub replaced : Place → List ℕ → Option (List ℕ)
replaced (Line n i) w =
    if bytes_eq w (codes "ri") then numbered (codes "r") i
    else (if bytes_eq w (codes "ci") then numbered (codes "c") i
    else (if bytes_eq w (codes "rj") then numbered (codes "r") ((i + 1) % n)
    else (if bytes_eq w (codes "cz") then numbered (codes "c") (n - 1)
    else None)))
replaced (Load n) w =
    if bytes_eq w (codes "S") then numbered [] n
    else (if bytes_eq w (codes "T") then numbered [] (100 * n)
    else (if bytes_eq w (codes "U") then numbered [] (10 * n - 1)
    else None))

abbrev pub filled : Place → List ℕ → List ℕ
filled place text = flat_map (λ w. unwrap_or (replaced place w) w) (words text)

-- ---- the texts

-- `ri` or `ci` stands in the line as a whole word
abbrev pub is_repeated : List ℕ → Bool
is_repeated line = list_any (λ w. bytes_eq w (codes "ri") || bytes_eq w (codes "ci")) (words line)

-- the line once for each of the first k numbers
abbrev pub copies : ℕ → List ℕ → ℕ → List ℕ
copies n line zero = []
copies n line (suc k) = copies n line k ++ filled (Line n k) line

abbrev pub system_line : ℕ → List ℕ → List ℕ
system_line n line = if is_repeated line then copies n line n else filled (Line n 0) line

abbrev pub system_text : List ℕ → ℕ → List ℕ
system_text template n = flat_map (system_line n) (lines template)

abbrev pub scenario_text : List ℕ → ℕ → List ℕ
scenario_text template n = filled (Load n) template
