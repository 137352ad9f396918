-- Texts that grow by one piece at each turn of a loop.
use Rattle.std.proofs.Common.{◌≡◌, ℕ, ◌+◌, ◌<◌, ◌≤◌, sym, ap, ◌∙◌, List, [], ◌∷◌, ◌++◌, length, get_or, take, Some, arith}
use Rattle.std.specs.Prelude.{slice_get}
use Rattle.std.proofs.lemmas.Option.{slice_get-get_or, get_or_from_slice_get}
use Rattle.std.specs.List.{flat_map, enumerate_from}
use Rattle.std.proofs.lemmas.List.{append_assoc, take_all, take_more, flat_map_more}
use Rattle.std.proofs.lemmas.List.FromFn.{get_or-enumerate_from, length-enumerate_from}
use Rattle.kom_record.specs.Trace.{Text}

-- one more item
pub one_more : {X : Type 0} (f : X → Text) (xs : List X) (i : ℕ) (x : X) (start now next : Text) → i < length xs → x ≡ get_or xs i x → now ≡ start ++ flat_map f (take i xs) → next ≡ now ++ f x → next ≡ start ++ flat_map f (take (i + 1) xs)
one_more f xs i x start now next l is e own =
    own ∙ ap (λ t. t ++ f x) e ∙ flat_map_more f start (take i xs) x ∙ ap (λ y. start ++ flat_map f (take i xs ++ y ∷ [])) is ∙ ap (λ ys. start ++ flat_map f ys) (sym (take_more xs i x l))

-- one more item of a list whose items know their places
pub one_more_placed : {X : Type 0} (f : ℕ × X → Text) (xs : List X) (i : ℕ) (d : X) (start now next : Text) → i < length xs → now ≡ start ++ flat_map f (take i (enumerate_from 0 xs)) → ((x : X) → slice_get xs i ≡ Some x → next ≡ now ++ f (i, x))
    → next ≡ start ++ flat_map f (take (i + 1) (enumerate_from 0 xs))
one_more_placed f xs i d start now next l e g =
    let at : get_or (enumerate_from 0 xs) i (0, d) ≡ (i, get_or xs i d) = get_or-enumerate_from 0 xs i (0, d) l ∙ ap (λ n. (n, get_or xs i d)) (let z : 0 + i ≡ i = omega arith in z) in
    g (get_or xs i d) (slice_get-get_or xs i d l) ∙ ap (λ t. t ++ f (i, get_or xs i d)) e ∙ flat_map_more f start (take i (enumerate_from 0 xs)) (i, get_or xs i d)
    ∙ ap (λ q. start ++ flat_map f (take i (enumerate_from 0 xs) ++ q ∷ [])) (sym at)
    ∙ ap (λ ys. start ++ flat_map f ys) (sym (take_more (enumerate_from 0 xs) i (0, d) (omega (arith, l, length-enumerate_from 0 xs))))

-- all items
pub all_placed : {X : Type 0} (f : ℕ × X → Text) (xs : List X) (i : ℕ) (start now : Text) → length xs ≤ i → now ≡ start ++ flat_map f (take i (enumerate_from 0 xs)) → now ≡ start ++ flat_map f (enumerate_from 0 xs)
all_placed f xs i start now l e = e ∙ ap (λ ys. start ++ flat_map f ys) (take_all i (enumerate_from 0 xs) (omega (arith, l, length-enumerate_from 0 xs)))

-- one more item, whose place is the index of the loop
pub one_more_at : {X : Type 0} (f : ℕ × X → Text) (xs : List X) (i : ℕ) (x : X) (start now next : Text) → i < length xs → x ≡ get_or xs i x → now ≡ start ++ flat_map f (take i (enumerate_from 0 xs)) → next ≡ now ++ f (i, x)
    → next ≡ start ++ flat_map f (take (i + 1) (enumerate_from 0 xs))
one_more_at f xs i x start now next l is e own =
    let at : get_or (enumerate_from 0 xs) i (0, x) ≡ (i, x) = get_or-enumerate_from 0 xs i (0, x) l ∙ ap (λ n. (n, get_or xs i x)) (let z : 0 + i ≡ i = omega arith in z) ∙ ap (λ y. (i, y)) (sym is) in
    own ∙ ap (λ t. t ++ f (i, x)) e ∙ flat_map_more f start (take i (enumerate_from 0 xs)) (i, x)
    ∙ ap (λ q. start ++ flat_map f (take i (enumerate_from 0 xs) ++ q ∷ [])) (sym at)
    ∙ ap (λ ys. start ++ flat_map f ys) (sym (take_more (enumerate_from 0 xs) i (0, x) (omega (arith, l, length-enumerate_from 0 xs))))

-- an item that is there is read whatever stands for what is not
pub got_again : {X : Type 0} (xs : List X) (i : ℕ) (d : X) → i < length xs → get_or xs i d ≡ get_or xs i (get_or xs i d)
got_again xs i d l = sym (get_or_from_slice_get xs i (get_or xs i d) (get_or xs i d) (slice_get-get_or xs i d l))

-- five texts, one after another
pub five_parts : (t a b c d e t1 t2 t3 t4 t5 : Text) → t1 ≡ t ++ a → t2 ≡ t1 ++ b → t3 ≡ t2 ++ c → t4 ≡ t3 ++ d → t5 ≡ t4 ++ e → t5 ≡ t ++ ((((a ++ b) ++ c) ++ d) ++ e)
five_parts t a b c d e t1 t2 t3 t4 t5 h1 h2 h3 h4 h5 =
    h5 ∙ ap (λ u. u ++ e) (h4 ∙ ap (λ u. u ++ d) (h3 ∙ ap (λ u. u ++ c) (h2 ∙ ap (λ u. u ++ b) h1 ∙ append_assoc t a b) ∙ append_assoc t (a ++ b) c) ∙ append_assoc t ((a ++ b) ++ c) d) ∙ append_assoc t (((a ++ b) ++ c) ++ d) e
