-- Texts that grow by one piece at each turn of a loop.
use Rattle.std.proofs.Common.{◌≡◌, ℕ, ◌+◌, ◌<◌, ◌≤◌, sym, ap, ◌∙◌, List, [], ◌∷◌, ◌++◌, length, get_or, take, Some, arith}
use Rattle.std.specs.Prelude.{map, slice_get}
use Rattle.std.proofs.lemmas.Option.{slice_get-get_or}
use Rattle.std.specs.List.{flat_map, enumerate_from}
use Rattle.std.proofs.lemmas.List.{append_assoc, take_all, take_more, flat_map_more}
use Rattle.std.proofs.lemmas.List.Folds.{flat_map-map}
use Rattle.std.proofs.lemmas.List.FromFn.{get_or-enumerate_from, length-enumerate_from}
use Rattle.kom_record.specs.Trace.{Text, joined}

-- the pieces of one more element, whatever a turn adds for it
pub one_more : {X : Type 0} (f : X → Text) (xs : List X) (i : ℕ) (d : X) (start now next : Text) → i < length xs → now ≡ start ++ flat_map f (take i xs) → ((x : X) → slice_get xs i ≡ Some x → next ≡ now ++ f x) → next ≡ start ++ flat_map f (take (i + 1) xs)
one_more f xs i d start now next l e g =
    g (get_or xs i d) (slice_get-get_or xs i d l) ∙ ap (λ t. t ++ f (get_or xs i d)) e ∙ flat_map_more f start (take i xs) (get_or xs i d) ∙ ap (λ ys. start ++ flat_map f ys) (sym (take_more xs i d l))

-- the same of pieces that know their place
pub one_more_placed : {X : Type 0} (f : ℕ × X → Text) (xs : List X) (i : ℕ) (d : X) (start now next : Text) → i < length xs → now ≡ start ++ flat_map f (take i (enumerate_from 0 xs)) → ((x : X) → slice_get xs i ≡ Some x → next ≡ now ++ f (i, x))
    → next ≡ start ++ flat_map f (take (i + 1) (enumerate_from 0 xs))
one_more_placed f xs i d start now next l e g =
    let at : get_or (enumerate_from 0 xs) i (0, d) ≡ (i, get_or xs i d) = get_or-enumerate_from 0 xs i (0, d) l ∙ ap (λ n. (n, get_or xs i d)) (let z : 0 + i ≡ i = omega arith in z) in
    g (get_or xs i d) (slice_get-get_or xs i d l) ∙ ap (λ t. t ++ f (i, get_or xs i d)) e ∙ flat_map_more f start (take i (enumerate_from 0 xs)) (i, get_or xs i d)
    ∙ ap (λ q. start ++ flat_map f (take i (enumerate_from 0 xs) ++ q ∷ [])) (sym at)
    ∙ ap (λ ys. start ++ flat_map f ys) (sym (take_more (enumerate_from 0 xs) i (0, d) (omega (arith, l, length-enumerate_from 0 xs))))

-- lines one after another
as_lines : {X : Type 0} (f : X → Text) (xs : List X) → flat_map (λ x. f x ++ 10 ∷ []) xs ≡ joined (map f xs)
unfolding joined
as_lines f xs = sym (flat_map-map (λ line. line ++ 10 ∷ []) f xs)

-- all pieces, each of which is a line
pub all_lines : {X : Type 0} (f : X → Text) (xs : List X) (i : ℕ) (start now : Text) → length xs ≤ i → now ≡ start ++ flat_map (λ x. f x ++ 10 ∷ []) (take i xs) → now ≡ start ++ joined (map f xs)
all_lines f xs i start now l e = e ∙ ap (λ ys. start ++ flat_map (λ x. f x ++ 10 ∷ []) ys) (take_all i xs l) ∙ ap (λ t. start ++ t) (as_lines f xs)

-- a line of two words and a number
pub joined_words : (t a b n e : Text) → (((t ++ a) ++ b) ++ n) ++ e ≡ t ++ ((a ++ (b ++ n)) ++ e)
joined_words t a b n e =
    append_assoc ((t ++ a) ++ b) n e
    ∙ append_assoc (t ++ a) b (n ++ e)
    ∙ append_assoc t a (b ++ (n ++ e))
    ∙ ap (λ u. t ++ (a ++ u)) (sym (append_assoc b n e))
    ∙ ap (λ u. t ++ u) (sym (append_assoc a (b ++ n) e))
