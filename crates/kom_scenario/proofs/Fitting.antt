-- What a system's being well formed says of its numbers.
use Rattle.std.proofs.Common.{◌≡◌, ℕ, zero, suc, ◌+◌, ◌<◌, ◌≤◌, ◌^◌, Bool, true, false, ◌&&◌, List, [], ◌∷◌, ◌++◌, length, take, Option, Some, None, refl, sym, ◌∙◌, ap, arith, get_or, if◌then◌else◌}
use Rattle.std.specs.Prelude.{nat_lt, nat_le, slice_get, bytes_eq, unwrap_or}
use Rattle.std.proofs.lemmas.List.{take_more, length-take-le}
use Rattle.std.proofs.lemmas.Option.{slice_get_within, get_or_from_slice_get}
use Rattle.std.proofs.lemmas.Bool.Decides.{nat_tests}
use Rattle.kom_base.specs.Lists.{either}
use Rattle.kom_events.specs.Kin.{attributes}
use Rattle.kom_system.specs.Contents.{Contents}
use Rattle.kom_system.specs.WellFormed.{IsWellFormed}
use Rattle.kom_lang.specs.Declarations.{kind_of}
use Rattle.kom_lang.specs.declared.kind.PortDecl.{PortDecl}
use Rattle.kom_scengram.specs.declared.parts.SourcePart.{SourcePart}
use Rattle.kom_scenario.specs.Named.{number_from, kind_number, is_process, process_number, port_number, root_ports}

both : (a b : Bool) → (a && b) ≡ true → (a ≡ true) × (b ≡ true)
both true true e = (refl, refl)
both true false e = absurd cc
both false b e = absurd cc

pub root_within : (c : Contents) → IsWellFormed c → c.declarations.root.kind < length c.declarations.kinds
root_within c w = let e = (both (nat_lt c.declarations.root.kind (length c.declarations.kinds)) _ w.declared.root).0 in grind (arith, nat_tests)

pub few_kinds : (c : Contents) → IsWellFormed c → length c.declarations.events ≤ 260
few_kinds c w = w.declared.event_count

pub named_kinds : (c : Contents) → IsWellFormed c → length c.event_names ≡ length c.declarations.events
named_kinds c w = w.event_names

-- ---- numbers of names

pub number_within : {A : Type 0} (test : A → Bool) (n k : ℕ) (xs : List A) → number_from test n xs ≡ Some k → k < n + length xs
number_within test n k [] e = absurd cc
number_within test n k (x ∷ xs) e = by_case (test x) refl (number_within test (suc n) k xs) where
  by_case : (b : Bool) → test x ≡ b → (number_from test (suc n) xs ≡ Some k → k < suc n + length xs) → k < n + length (x ∷ xs)
  by_case true h ih = let e' = rw h at e in let same : n ≡ k = cc in omega arith
  by_case false h ih = let less = ih (rw h at e) in omega arith

pub kind_within : (c : Contents) (q : List ℕ) (k : ℕ) → IsWellFormed c → kind_number c q ≡ Some k → k < length c.declarations.events
unfolding kind_number
kind_within c q k w e = omega (arith, number_within (bytes_eq q) 0 k c.event_names e, w.event_names)

pub kind_small : (c : Contents) (q : List ℕ) (k : ℕ) → IsWellFormed c → kind_number c q ≡ Some k → k < 2 ^ 16
kind_small c q k w e = omega (arith, kind_within c q k w e, w.declared.event_count)

either-assoc : {A : Type 0} (o p r : Option A) → either o (either p r) ≡ either (either o p) r
either-assoc None p r = refl
either-assoc (Some x) p r = refl

pub number_onto : {A : Type 0} (test : A → Bool) (n : ℕ) (xs : List A) (x : A) → number_from test n (xs ++ x ∷ []) ≡ either (number_from test n xs) (if test x then Some (n + length xs) else None)
number_onto test n [] x = by_case (test x) refl where
  by_case : (b : Bool) → test x ≡ b → (if test x then Some n else None) ≡ (if test x then Some (n + 0) else None)
  by_case true h = rw h (ap Some (omega arith))
  by_case false h = rw h refl
number_onto test n (y ∷ ys) x = by_case (test y) refl (number_onto test (suc n) ys x) where
  by_case : (b : Bool) → test y ≡ b → (number_from test (suc n) (ys ++ x ∷ []) ≡ either (number_from test (suc n) ys) (if test x then Some (suc n + length ys) else None))
      → number_from test n (y ∷ ys ++ x ∷ []) ≡ either (number_from test n (y ∷ ys)) (if test x then Some (n + length (y ∷ ys)) else None)
  by_case true h ih = rw h refl
  by_case false h ih = rw h (let e : suc n + length ys ≡ n + suc (length ys) = omega arith in rw e at ih)

pub number_more : {A : Type 0} (test : A → Bool) (xs : List A) (i : ℕ) (d : A) → i < length xs → number_from test 0 (take (i + 1) xs) ≡ either (number_from test 0 (take i xs)) (if test (get_or xs i d) then Some i else None)
number_more test xs i d less =
    let e : 0 + length (take i xs) ≡ i = omega (arith, length-take-le i xs (omega arith)) in
    rw (take_more xs i d less, number_onto test 0 (take i xs) (get_or xs i d), e) refl

pub number_more_at : {A : Type 0} (test : A → Bool) (xs : List A) (i : ℕ) (x : A) → slice_get xs i ≡ Some x → number_from test 0 (take (i + 1) xs) ≡ either (number_from test 0 (take i xs)) (if test x then Some i else None)
number_more_at test xs i x e =
    number_more test xs i x (slice_get_within xs i x e) ∙ ap (λ y. either (number_from test 0 (take i xs)) (if test y then Some i else None)) (get_or_from_slice_get xs i x x e)

pub attributes_named : (c : Contents) (k : ℕ) (names : List (List ℕ)) → IsWellFormed c → k < length c.declarations.events → slice_get c.attr_names k ≡ Some names → length names ≡ attributes c.declarations.events k
attributes_named c k names w less e = ap length (sym (get_or_from_slice_get c.attr_names k names [] e)) ∙ w.attr_counts k less

-- the same for an element that is known
pub number_is : {A : Type 0} (test : A → Bool) (xs : List A) (i : ℕ) (x : A) → i < length xs → x ≡ get_or xs i x → number_from test 0 (take (i + 1) xs) ≡ either (number_from test 0 (take i xs)) (if test x then Some i else None)
number_is test xs i x less is = number_more test xs i x less ∙ ap (λ y. either (number_from test 0 (take i xs)) (if test y then Some i else None)) (sym is)

-- a process that comes next
pub process_more : (xs : List SourcePart) (i : ℕ) (x : SourcePart) (q : List ℕ) → i < length xs → x ≡ get_or xs i x
    → process_number (take (i + 1) xs) q ≡ either (process_number (take i xs) q) (if is_process q x then Some i else None)
unfolding process_number
process_more xs i x q less is = number_is (is_process q) xs i x less is

-- a list up to its end
pub take_all : {A : Type 0} (xs : List A) (i : ℕ) → length xs ≤ i → take i xs ≡ xs
take_all [] zero less = refl
take_all [] (suc i) less = refl
take_all (x ∷ xs) zero less = absurd (omega (arith, less))
take_all (x ∷ xs) (suc i) less = ap (λ r. x ∷ r) (take_all xs i (omega (arith, less)))

-- ---- small numbers

pub port_small : (c : Contents) (q : List ℕ) (k : ℕ) → IsWellFormed c → port_number c q ≡ Some k → k < 2 ^ 8
unfolding port_number
port_small c q k w e =
    let S = c.declarations in
    let kind = kind_of S S.root.kind in
    let fits = (w.declared.kinds S.root.kind (root_within c w)).parts in
    let most = (both _ _ fits).0 in
    let few : nat_le (length kind.ports) 16 ≡ true = (both _ _ most).0 in
    let few' : length kind.ports ≤ 16 = grind (arith, nat_tests) in
    omega (arith, number_within (λ (p : PortDecl). bytes_eq q p.name) 0 k (root_ports c) e, few')

pub number_or_zero : (o : Option ℕ) (n : ℕ) → 0 < n → ((k : ℕ) → o ≡ Some k → k < n) → unwrap_or o 0 < n
number_or_zero None n some f = some
number_or_zero (Some k) n some f = f k refl
