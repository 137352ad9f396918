-- Marks that are kept, added and counted.
use Rattle.std.proofs.Common.{◌≡◌, ℕ, ◌+◌, ◌≤◌, Bool, true, false, if◌then◌else◌, ◌||◌, ◌==◌, refl, sym, ap, ◌∙◌, length, arith}
use Rattle.kom_comps.specs.Members.{Members, has}
use Rattle.kom_wakes.specs.Laws.{SameWorkGoesOn}
use Rattle.kom_wakes.specs.Work.{HasSameWork}
use Rattle.kom_marks.specs.Marking.{MarksAddUp, MarksAreFew, MarksOne, MarksStay}

pub stay : MarksStay
stay marks m n same = record {
  leaves = λ c e. (e, same c);
  few = omega arith;
  bound = refl;
}

pub add_up : SameWorkGoesOn → MarksAddUp
add_up work a b old now new m k n first next = record {
  leaves = λ c e.
      let t = next.leaves c e in
      let s = first.leaves c t.0 in
      (s.0, work.1 m k n c s.1 t.1);
  few = let p = first.few in let q = next.few in omega (arith, p, q);
  bound = next.bound ∙ first.bound;
}

pub fewer : MarksAreFew
fewer a b old new m n le marked = record {
  leaves = marked.leaves;
  few = let p = marked.few in omega (arith, p, le);
  bound = marked.bound;
}

-- a set with one number more
pub put_in : (old new : Members) (c d : ℕ) → has new d ≡ (if d == c then true else has old d) → has new d ≡ (d == c || has old d)
put_in old new c d e = e ∙ either (d == c) (has old d)
  where
    either : (a b : Bool) → (if a then true else b) ≡ (a || b)
    either true b = refl
    either false b = refl

pub at_most_one : (a b : ℕ) (h : Bool) → a + (if h then 1 else 0) ≡ b + 1 → a ≤ b + 1
at_most_one a b true e = omega (arith, e)
at_most_one a b false e = omega (arith, e)

pub one : (old new : Members) (c : ℕ) → ((d : ℕ) → has new d ≡ (if d == c then true else has old d)) → length new.list ≤ length old.list + 1 → new.bound ≡ old.bound → MarksOne c old new
one old new c each few bound m n same = record {
  leaves = λ d e. go d e (d == c) refl;
  few = few;
  bound = bound;
}
  where
    go : (d : ℕ) → has new d ≡ false → (t : Bool) → (d == c) ≡ t → (has old d ≡ false) × HasSameWork m n d
    go d e true t = absurd (cc (e, each d, ap (λ b. if b then true else has old d) t))
    go d e false t = (sym (each d ∙ ap (λ b. if b then true else has old d) t) ∙ e, same d t)
