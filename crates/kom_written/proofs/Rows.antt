-- Rows of several kinds of items, which are written kind by kind.
use Rattle.std.proofs.Common.{◌≡◌, List, [], ◌∷◌, ◌++◌, map, Option, Some, None, refl, sym, ap, ◌∙◌, subst, append_assoc}
use Rattle.std.specs.List.{flat_map, filter_map}
use Rattle.kom_parse.specs.Lexemes.{Lexeme}
use Rattle.kom_parse.specs.Spelled.{SpellsRow, end, next}
use Rattle.kom_spaced.specs.Spaced.{Written}
use Rattle.kom_written.specs.Again.{AreSound, IsAgain}
use Rattle.kom_written.proofs.Steps.{behind, placed-append, stand-append, sound-left, sound-right}

-- what holds of each item of a list
abbrev pub Each : {A : Type 0} → (A → Type 0) → List A → Type 0
Each Q [] = Unit {0}
Each Q (x ∷ xs) = Q x × Each Q xs

pub each_more : {A : Type 0} (Q R : A → Type 0) (xs : List A) → ((x : A) → Q x → R x) → Each Q xs → Each R xs
each_more Q R [] h q = tt
each_more Q R (x ∷ xs) h q = (h x q.0, each_more Q R xs h q.1)

pub each_and : {A : Type 0} (Q R : A → Type 0) (xs : List A) → Each Q xs → Each R xs → Each (λ x. Q x × R x) xs
each_and Q R [] q r = tt
each_and Q R (x ∷ xs) q r = ((q.0, r.0), each_and Q R xs q.1 r.1)

pub each_first : {A : Type 0} (Q : A → Type 0) (xs ys : List A) → Each Q (xs ++ ys) → Each Q xs
each_first Q [] ys all = tt
each_first Q (x ∷ xs) ys all = (all.0, each_first Q xs ys all.1)

pub each_second : {A : Type 0} (Q : A → Type 0) (xs ys : List A) → Each Q (xs ++ ys) → Each Q ys
each_second Q [] ys all = all
each_second Q (x ∷ xs) ys all = each_second Q xs ys all.1

-- each item of a row
pub each_of : {I : Type 0} (Spells : List Lexeme → I → Type 0) (Q : I → Type 0) → ((t : List Lexeme) (x : I) → Spells t x → AreSound t → Q x)
    → {t : List Lexeme} {xs : List I} → SpellsRow Spells t xs → AreSound t → Each Q xs
each_of Spells Q one end sound = tt
each_of Spells Q one (next {t = t} {ts = ts} {x = x} {xs = xs} d ds) sound = (one t x d (sound-left t ts sound), each_of Spells Q one ds (sound-right t ts sound))

-- those of one kind
pub each_in : {I X : Type 0} (kind : I → Option X) (Q : I → Type 0) (R : X → Type 0) → ((x : I) (v : X) → kind x ≡ Some v → Q x → R v) → (xs : List I) → Each Q xs → Each R (filter_map kind xs)
each_in kind Q R one [] all = tt
each_in {I = I} {X = X} kind Q R one (x ∷ xs) all = by_case (kind x) refl (each_in kind Q R one xs all.1)
  where
    by_case : (o : Option X) → kind x ≡ o → Each R (filter_map kind xs) → Each R (filter_map kind (x ∷ xs))
    by_case None e rest = rw e rest
    by_case (Some v) e rest = rw e (one x v e all.0, rest)

-- items of one kind in a row
pub row_of : {X : Type 0} (Spells : List Lexeme → X → Type 0) (same : X → X) (f : X → List Written) (xs : List X) → Each (λ x. IsAgain Spells same (f x) x) xs
    → IsAgain (SpellsRow Spells) (map same) (flat_map f xs) xs
row_of Spells same f [] all = record { stand = refl; spell = λ at. ([], end, refl) }
row_of Spells same f (x ∷ xs) all =
    let h = all.0 in
    let k = row_of Spells same f xs all.1 in
    record {
      stand = stand-append (f x) (flat_map f xs) h.stand k.stand;
      spell = λ at. (
          let r = h.spell at in
          let r' = k.spell (behind at (f x)) in
          (r.0 ∷ r'.0, rw (placed-append at (f x) (flat_map f xs)) (next r.1 r'.1), ap (λ z. z ∷ map same r'.0) r.2 ∙ ap (λ zs. same x ∷ zs) r'.2));
    }

-- a row of one kind is a row of items
pub row_map : {I X : Type 0} (Spells : List Lexeme → I → Type 0) (make : X → I) {t : List Lexeme} {ys : List X} → SpellsRow (λ ls y. Spells ls (make y)) t ys → SpellsRow Spells t (map make ys)
row_map Spells make end = end
row_map Spells make (next d ds) = next d (row_map Spells make ds)

-- a row behind a row
pub row_append : {I : Type 0} (Spells : List Lexeme → I → Type 0) {t u : List Lexeme} {xs ys : List I} → SpellsRow Spells t xs → SpellsRow Spells u ys → SpellsRow Spells (t ++ u) (xs ++ ys)
row_append Spells end k = k
row_append Spells {u = u} {ys = ys} (next {t = t} {ts = ts} {x = x} {xs = xs} d ds) k =
    let P : List Lexeme → Type 0 = λ ls. SpellsRow Spells ls (x ∷ (xs ++ ys)) in
    subst P (sym (append_assoc t ts u)) (next d (row_append Spells ds k))

-- ---- the kinds among items that were made

pub own_kind : {I X : Type 0} (kind : I → Option X) (make : X → I) → ((x : X) → kind (make x) ≡ Some x) → (ys : List X) (rest : List I) → filter_map kind (map make ys ++ rest) ≡ ys ++ filter_map kind rest
own_kind kind make is [] rest = refl
own_kind kind make is (y ∷ ys) rest = rw (is y) (ap (λ zs. y ∷ zs) (own_kind kind make is ys rest))

pub other_kind : {I X Y : Type 0} (kind : I → Option X) (make : Y → I) → ((y : Y) → kind (make y) ≡ None) → (ys : List Y) (rest : List I) → filter_map kind (map make ys ++ rest) ≡ filter_map kind rest
other_kind kind make is [] rest = refl
other_kind kind make is (y ∷ ys) rest = rw (is y) (other_kind kind make is ys rest)
