-- Keys that tie are one key.
use Rattle.std.proofs.Common.{◌≡◌, ◌≢◌, ℕ, ◌≤◌, ℤ, pos, negsuc, Bool, true, false, ◌&&◌, leb, arith, Ordering, refl, sym, ap, ◌∙◌}
use Rattle.std.specs.Ordering.{nat_cmp, int_cmp, is_eq, is_lt, ordering_then, ordering_reverse}
use Rattle.std.specs.declared.cmp.Ordering.TheVariants.{Less, Equal, Greater}
use Rattle.std.specs.Cmp.{IsTotalOrder, tied_itself, ranked, int_ranked}
use Rattle.std.proofs.lemmas.Bool.{le-leb, leb-true}
use Rattle.kom_base.specs.Numbers.{same_int}
use Rattle.kom_base.specs.declared.numbers.EntryNo.{EntryNo}
use Rattle.kom_env.specs.declared.keys.Due.{Due}
use Rattle.kom_env.specs.declared.keys.Place.{Place}
use Rattle.kom_env.specs.declared.keys.Tag.{Tag}
use Rattle.kom_env.specs.Keys.{number_cmp, number_total, place_cmp, due_cmp, due_total, tag_cmp, tag_total}

pub both_equal : (a b : Ordering) → ordering_then a b ≡ Equal → (a ≡ Equal) × (b ≡ Equal)
both_equal Less b e = absurd (cc)
both_equal Equal b e = (refl, e)
both_equal Greater b e = absurd (cc)

pub same_nat : (x y : ℕ) → nat_cmp x y ≡ Equal → x ≡ y
same_nat x y e = ranked x y Equal (sym e)

pub same_int_is : (x y : ℤ) → int_cmp x y ≡ Equal → x ≡ y
same_int_is x y e = int_ranked x y Equal (sym e)

pub equal_of : (c : Ordering) → is_eq c ≡ true → c ≡ Equal
equal_of Less h = absurd (cc)
equal_of Equal h = refl
equal_of Greater h = absurd (cc)

pub lt_less : (c : Ordering) → is_lt c ≡ true → c ≡ Less
lt_less Less h = refl
lt_less Equal h = absurd (cc)
lt_less Greater h = absurd (cc)

pub number_same : (n m : EntryNo) → number_cmp n m ≡ Equal → n ≡ m
number_same n m e =
    let a = both_equal _ _ e in
    let p = same_nat n.position m.position a.0 in
    let q = same_nat n.place m.place a.1 in
    λ i. record { position = p i; place = q i }

pub number_tied : (n m : EntryNo) → is_eq (number_cmp n m) ≡ true → n ≡ m
number_tied n m h = number_same n m (equal_of _ h)

pub number_self : (n : EntryNo) → is_eq (number_cmp n n) ≡ true
number_self n = ap is_eq (tied_itself number_total n)

pub due_tied : (a b : Due) → is_eq (due_cmp a b) ≡ true → a ≡ b
due_tied a b h =
    let x = both_equal _ _ (equal_of _ h) in
    let t = same_nat a.time b.time x.0 in
    let n = number_same a.no b.no x.1 in
    λ i. record { time = t i; no = n i }

pub tag_tied : (a b : Tag) → is_eq (tag_cmp a b) ≡ true → a ≡ b
tag_tied a b h =
    let x = both_equal _ _ (equal_of _ h) in
    let y = both_equal _ _ x.1 in
    let c = same_nat a.chan b.chan x.0 in
    let d = same_int_is a.id b.id y.0 in
    let n = number_same a.no b.no y.1 in
    λ i. record { chan = c i; id = d i; no = n i }

pub place_tied : (a b : Place) → is_eq (place_cmp a b) ≡ true → a ≡ b
place_tied a b h =
    let x = both_equal _ _ (equal_of _ h) in
    let t = same_nat a.time b.time x.0 in
    let n = same_nat a.rank b.rank x.1 in
    λ i. record { time = t i; rank = n i }

pub int_self : (a : ℤ) → same_int a a ≡ true
int_self (pos n) = ap (λ b. b && leb n n) (le-leb n n (omega arith)) ∙ le-leb n n (omega arith)
int_self (negsuc n) = ap (λ b. b && leb n n) (le-leb n n (omega arith)) ∙ le-leb n n (omega arith)

pub and_left : (a b : Bool) → (a && b) ≡ true → a ≡ true
and_left true b e = refl
and_left false b e = absurd (cc)

pub and_right : (a b : Bool) → (a && b) ≡ true → b ≡ true
and_right true b e = e
and_right false b e = absurd (cc)

pub one_int : (a b : ℤ) → same_int a b ≡ true → a ≡ b
one_int (pos n) (pos m) e = ap pos (let le : n ≤ m = leb-true n m (and_left _ _ e) in let ge : m ≤ n = leb-true m n (and_right (leb n m) _ e) in omega arith)
one_int (pos n) (negsuc m) e = absurd (cc)
one_int (negsuc n) (pos m) e = absurd (cc)
one_int (negsuc n) (negsuc m) e = ap negsuc (let ge : m ≤ n = leb-true m n (and_left _ _ e) in let le : n ≤ m = leb-true n m (and_right (leb m n) _ e) in omega arith)
