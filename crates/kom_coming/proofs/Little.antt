-- Numbers come in one after another.
use Rattle.std.proofs.Common.{◌≡◌, ℕ, zero, suc, ◌+◌, ◌-◌, ◌<◌, ◌≤◌, Bool, true, false, if◌then◌else◌, ◌&&◌, ◌==◌, refl, sym, ap, ◌∙◌, subst, List, [], ◌∷◌, ◌++◌, length, take, get_or, Option, Some, None, inl, inr, arith, eq-eqb}
use Rattle.std.specs.List.{cons_option}
use Rattle.std.specs.Option.{IsSome, option_map}
use Rattle.std.proofs.lemmas.Bool.{cases_eq, ne_eqb}
use Rattle.std.proofs.lemmas.List.{length-append, take_more}
use Rattle.kom_base.specs.declared.numbers.Dir.{Dir}
use Rattle.kom_base.specs.declared.numbers.Dir.TheVariants.{Plus, Minus}
use Rattle.kom_base.specs.declared.numbers.EntryNo.{EntryNo}
use Rattle.kom_base.specs.Lists.{if_so}
use Rattle.kom_base.specs.Numbers.{same_dir}
use Rattle.kom_entering.specs.declared.lists.Coming.{Coming}
use Rattle.kom_entering.specs.Lists.{number_into, numbers_into}
use Rattle.kom_entering.proofs.Noting.{came_one}
use Rattle.kom_refine.specs.States.{Queue, State}
use Rattle.kom_refine.specs.Steps.{HaveCome, with_numbers}
use Rattle.kom_state.specs.Parts.{Parts, queue_spare}
use Rattle.kom_state.specs.Rooms.{KeepsRoom}
use Rattle.kom_state.specs.Steps.{UsesQueue, into_one}
use Rattle.kom_coming.specs.Directions.{AreThere}

pub taken_more : (qs : List Coming) (i : ℕ) (q : Coming) → i < length qs → q ≡ get_or qs i q → take (i + 1) qs ≡ take i qs ++ q ∷ []
taken_more qs i q l e = take_more qs i q l ∙ ap (λ y. take i qs ++ y ∷ []) (sym e)

pub there_at : (qs : List Coming) (m : State) (i : ℕ) (q : Coming) → AreThere qs m → i < length qs → q ≡ get_or qs i q → IsSome (m.queues q.chan q.dir)
there_at [] m i q t l e = absurd (omega (arith, l))
there_at (p ∷ qs) m zero q t l e = subst (λ (z : Coming). IsSome (m.queues z.chan z.dir)) (sym e) t.0
there_at (p ∷ qs) m (suc i) q t l e = there_at qs m i q t.1 (omega (arith, l)) e

some_kept : (f : Queue → Queue) (o p : Option Queue) → p ≡ option_map f o → IsSome o → IsSome p
some_kept f None p e h = absurd cc
some_kept f (Some q) p e h = subst IsSome (sym e) refl

pub still_there : (came : ℕ → Dir → List EntryNo) (m n : State) (x : ℕ) (d : Dir) → HaveCome came m n → IsSome (m.queues x d) → IsSome (n.queues x d)
still_there came m n x d s h = some_kept (with_numbers (came x d)) (m.queues x d) (n.queues x d) (s.queues x d) h

turned : (a b : ℕ) → (a == b) ≡ (b == a)
turned a b = elim (cases_eq a b) [ inl e ↦ eq-eqb a b e ∙ sym (eq-eqb b a (sym e)) | inr n ↦ ne_eqb a b n ∙ sym (ne_eqb b a (λ e. n (sym e))) ]

so_is_if : (b : Bool) (n : EntryNo) → if_so b (n ∷ []) ≡ (if b then n ∷ [] else [])
so_is_if true n = refl
so_is_if false n = refl

-- one number more comes into its direction
pub one_more_into : (qs : List Coming) (i : ℕ) (q : Coming) → i < length qs → q ≡ get_or qs i q → (x : ℕ) (d : Dir) → numbers_into (take (i + 1) qs) x d ≡ numbers_into (take i qs) x d ++ into_one q.chan q.dir q.no x d
one_more_into qs i q l e x d =
    ap (λ os. numbers_into os x d) (taken_more qs i q l e) ∙ came_one (take i qs) q x d
    ∙ ap (λ ns. numbers_into (take i qs) x d ++ ns) (so_is_if (q.chan == x && same_dir q.dir d) q.no ∙ ap (λ b. if b && same_dir q.dir d then q.no ∷ [] else []) (turned q.chan x))

longer_option : {X : Type 0} (o : Option X) (xs ys : List X) → length xs ≤ length ys → length (cons_option o xs) ≤ length (cons_option o ys)
longer_option None xs ys h = h
longer_option (Some x) xs ys h = omega (arith, h)

option_longer : {X : Type 0} (o : Option X) (ys : List X) → 0 ≤ length (cons_option o ys)
option_longer o ys = omega arith

into_take : (qs : List Coming) (i : ℕ) (x : ℕ) (d : Dir) → length (numbers_into (take i qs) x d) ≤ length (numbers_into qs x d)
into_take qs zero x d = omega arith
into_take [] (suc i) x d = omega arith
into_take (q ∷ qs) (suc i) x d = longer_option (number_into x d q) (numbers_into (take i qs) x d) (numbers_into qs x d) (into_take qs i x d)

own : (y : ℕ) (e : Dir) → (y == y && same_dir e e) ≡ true
own y Plus = ap (λ t. t && true) (eq-eqb y y refl)
own y Minus = ap (λ t. t && true) (eq-eqb y y refl)

-- there is room for one more
pub one_room : (qs : List Coming) (i : ℕ) (q : Coming) (old now : ℕ) → i < length qs → q ≡ get_or qs i q → now + length (numbers_into (take i qs) q.chan q.dir) ≡ old → length (numbers_into qs q.chan q.dir) ≤ old → 0 < now
one_room qs i q old now l e a b =
    let more = ap length (one_more_into qs i q l e q.chan q.dir ∙ ap (λ t. numbers_into (take i qs) q.chan q.dir ++ (if t then q.no ∷ [] else [])) (own q.chan q.dir)) in
    let long = length-append (numbers_into (take i qs) q.chan q.dir) (q.no ∷ []) in
    let most = into_take qs (i + 1) q.chan q.dir in
    omega (arith, more, long, most, a, b)

used : (b : Bool) (k n : ℕ) (ns : List EntryNo) (no1 : EntryNo) → n ≡ (if b then k - 1 else k) → (b ≡ true → 0 < k) → n + length (ns ++ (if b then no1 ∷ [] else [])) ≡ k + length ns
used true k n ns no1 e h = let p = h refl in let l = length-append ns (no1 ∷ []) in omega (arith, e, p, l)
used false k n ns no1 e h = let l = length-append ns [] in omega (arith, e, l)

-- and it is used
pub one_used : (qs : List Coming) (i : ℕ) (q : Coming) (old k n : Parts) → i < length qs → q ≡ get_or qs i q → ((x : ℕ) (d : Dir) → queue_spare k x d + length (numbers_into (take i qs) x d) ≡ queue_spare old x d)
    → UsesQueue q.chan q.dir k n → ((x : ℕ) (d : Dir) → (x == q.chan && same_dir q.dir d) ≡ true → 0 < queue_spare k x d) → (x : ℕ) (d : Dir) → queue_spare n x d + length (numbers_into (take (i + 1) qs) x d) ≡ queue_spare old x d
one_used qs i q old k n l e was uses room x d =
    ap (λ ns. queue_spare n x d + length ns) (one_more_into qs i q l e x d)
    ∙ used (x == q.chan && same_dir q.dir d) (queue_spare k x d) (queue_spare n x d) (numbers_into (take i qs) x d) q.no (uses x d) (room x d)
    ∙ was x d

pub keeps_again : (m k n : Parts) → KeepsRoom m k → KeepsRoom k n → KeepsRoom m n
keeps_again m k n a b = record {
  numbers = b.numbers ∙ a.numbers;
  instances = b.instances ∙ a.instances;
  channels = b.channels ∙ a.channels;
  rows = λ c. b.rows c ∙ a.rows c;
  queues = λ x. b.queues x ∙ a.queues x;
}
