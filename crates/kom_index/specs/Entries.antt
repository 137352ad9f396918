-- Lists of entries, each a key and a value, and the order of their keys.
use Rattle.std.specs.Prelude.{◌≡◌, Bool, true, false, not, ◌&&◌, List, [], ◌∷◌, filter, find, map, if◌then◌else◌, Option, Some, None}
use Rattle.std.specs.Ordering.{is_lt, is_eq}
use Rattle.std.specs.Option.{IsSome}
use Rattle.std.specs.declared.cmp.Ordering.{Ordering}
use Rattle.std.specs.declared.cmp.Ordering.TheVariants.{Less}

-- each key has P
abbrev pub AllKeys : {K V : Type 0} → (K → Type 0) → List (K × V) → Type 0
AllKeys P [] = Unit {0}
AllKeys P (e ∷ es) = P e.0 × AllKeys P es

module _ {K V : Type 0} (R : K → K → Ordering) where
  -- each key is above all before it
  abbrev pub Rises : List (K × V) → Type 0
  Rises [] = Unit {0}
  Rises (e ∷ es) = AllKeys (λ y. R e.0 y ≡ Less) es × Rises es

  -- the entry has this key
  abbrev pub has_key : K → K × V → Bool
  has_key k e = is_eq (R k e.0)

  -- the value at a key
  abbrev pub value_of : K → List (K × V) → Option V
  value_of k [] = None
  value_of k (e ∷ es) = if has_key k e then Some e.1 else value_of k es

  -- the entries without that of a key
  abbrev pub without : K → List (K × V) → List (K × V)
  without k es = filter (λ e. not (has_key k e)) es

  -- the entries with another value at a key
  abbrev pub revalued : K → V → List (K × V) → List (K × V)
  revalued k v es = map (λ e. if has_key k e then (e.0, v) else e) es

  -- the entries with one more, before the first whose key is above
  abbrev pub inserted : K → V → List (K × V) → List (K × V)
  inserted k v [] = (k, v) ∷ []
  inserted k v (e ∷ es) = if is_lt (R k e.0) then (k, v) ∷ e ∷ es else e ∷ inserted k v es

  -- the first entry whose key is not below a bound
  abbrev pub first_from : K → List (K × V) → Option (K × V)
  first_from low es = find (λ e. not (is_lt (R e.0 low))) es

  -- a key that is there, and the least that is not below a bound; none where all are below it
  abbrev pub IsFirstFrom : K → List (K × V) → Option K → Type 0
  IsFirstFrom low es None = (q : K) → IsSome (value_of q es) → is_lt (R q low) ≡ true
  IsFirstFrom low es (Some k) = IsSome (value_of k es) × (is_lt (R k low) ≡ false) × ((q : K) → IsSome (value_of q es) → is_lt (R q low) ≡ false → is_lt (R q k) ≡ false)

  -- the key lies between two bounds, or is one of them
  abbrev pub is_between : K → K → K × V → Bool
  is_between low high e = not (is_lt (R e.0 low)) && not (is_lt (R high e.0))

  -- the entries whose keys lie between two bounds, or are one of them
  abbrev pub between : K → K → List (K × V) → List (K × V)
  between low high es = filter (is_between low high) es
