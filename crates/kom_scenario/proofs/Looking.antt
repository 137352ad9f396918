-- What a map of names finds.
use Rattle.std.proofs.Common.{◌≡◌, ℕ, Bool, true, false, List, [], ◌∷◌, Option, Some, None, refl, ap, if◌then◌else◌}
use Rattle.std.specs.Prelude.{bytes_eq, is_some}
use Rattle.std.specs.Borrow.{Bor}
use Rattle.std.specs.Map.{lookup}
use Rattle.std.proofs.lemmas.Slice.Eq.{bytes_eq-Decides}
use Rattle.indexmap.specs.IndexMap.{insert_entry}
use Rattle.kom_base.specs.Lists.{either}
use Rattle.kom_scenario.specs.Names.{listed, found}

abbrev pub Entries : Type 0
Entries = List (Bor (List ℕ) × ℕ)

pub found_lookup : (es : Entries) (q : List ℕ) → found (listed es) q ≡ lookup (λ (k : Bor (List ℕ)). bytes_eq q k.now) es
found_lookup [] q = refl
found_lookup (e ∷ es) q = ap (λ r. if bytes_eq q e.0.now then Some e.1 else r) (found_lookup es q)

-- a name that is not there goes last
pub found_insert : (es : Entries) (k : Bor (List ℕ)) (n : ℕ) → is_some (found (listed es) k.now) ≡ false
    → (q : List ℕ) → found (listed (insert_entry (λ (a b : Bor (List ℕ)). bytes_eq a.now b.now) es k n)) q ≡ either (found (listed es) q) (if bytes_eq q k.now then Some n else None)
found_insert [] k n e q = refl
found_insert (x ∷ es) k n e q = by_case (bytes_eq k.now x.0.now) refl (λ h. found_insert es k n h q) where
  there : (b : Bool) → bytes_eq q x.0.now ≡ b → (found (listed (insert_entry (λ (a b : Bor (List ℕ)). bytes_eq a.now b.now) es k n)) q ≡ either (found (listed es) q) (if bytes_eq q k.now then Some n else None))
      → found (listed (x ∷ insert_entry (λ (a b : Bor (List ℕ)). bytes_eq a.now b.now) es k n)) q ≡ either (found (listed (x ∷ es)) q) (if bytes_eq q k.now then Some n else None)
  there true h ih = rw h refl
  there false h ih = rw h ih

  by_case : (b : Bool) → bytes_eq k.now x.0.now ≡ b
      → (is_some (found (listed es) k.now) ≡ false → found (listed (insert_entry (λ (a b : Bor (List ℕ)). bytes_eq a.now b.now) es k n)) q ≡ either (found (listed es) q) (if bytes_eq q k.now then Some n else None))
      → found (listed (insert_entry (λ (a b : Bor (List ℕ)). bytes_eq a.now b.now) (x ∷ es) k n)) q ≡ either (found (listed (x ∷ es)) q) (if bytes_eq q k.now then Some n else None)
  by_case true h ih = absurd (let e' = rw h at e in cc)
  by_case false h ih = rw h (there (bytes_eq q x.0.now) refl (ih (rw h at e)))

-- a name that is there keeps its number
pub found_there : (es : List (List ℕ × ℕ)) (k : List ℕ) (n : ℕ) → is_some (found es k) ≡ true → (q : List ℕ) → found es q ≡ either (found es q) (if bytes_eq q k then Some n else None)
found_there es k n e q = by_found (found es q) refl where
  by_test : (b : Bool) → bytes_eq q k ≡ b → found es q ≡ None → None ≡ (if bytes_eq q k then Some n else None)
  by_test false h f = rw h refl
  by_test true h f =
      let same : q ≡ k = (bytes_eq-Decides q k).0 h in
      absurd (let e' : is_some (found es q) ≡ true = rw same e in let e'' = rw f at e' in cc)

  by_found : (o : Option ℕ) → found es q ≡ o → found es q ≡ either (found es q) (if bytes_eq q k then Some n else None)
  by_found (Some m) f = rw f refl
  by_found None f = rw f (by_test (bytes_eq q k) refl f)
