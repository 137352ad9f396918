-- What a sink was given in two pieces.
use Rattle.std.proofs.Common.{◌≡◌, ◌+◌, ◌++◌, ℕ, List, Option, Some, None, take, drop, length, ◌-◌, ◌≤◌, arith, sym, ◌∙◌, ap, subst, append_assoc, length-drop}
use Rattle.std.specs.Option.{option_map}
use Rattle.std.proofs.Math.Seq.{take-add}
use Rattle.std.proofs.lemmas.Grind.{common_steps}
use Rattle.kom_io.specs.Answers.{AddsFront}

-- two pieces in a row are one
pub adds_twice : (d n : ℕ) (bytes : List ℕ) (start mid after : Option (List ℕ)) → mid ≡ option_map (λ w. w ++ take d bytes) start → after ≡ option_map (λ w. w ++ take n (drop d bytes)) mid → after ≡ option_map (λ w. w ++ take (d + n) bytes) start
adds_twice d n bytes None mid after p q = cc
adds_twice d n bytes (Some w) mid after p q =
    q ∙ ap (option_map (λ w. w ++ take n (drop d bytes))) p
    ∙ ap Some (append_assoc w (take d bytes) (take n (drop d bytes)) ∙ ap (λ x. w ++ x) (sym (take-add d n bytes)))

rest_of : (d : ℕ) (bytes : List ℕ) → d ≤ length bytes → take (length bytes - d) (drop d bytes) ≡ drop d bytes
rest_of d bytes h = grind (arith, common_steps)

-- a piece of the rest was added
pub record IsOneMore (d n : ℕ) (bytes : List ℕ) (start after : Option (List ℕ)) : Type 0 where
  pub within : d + n ≤ length bytes
  pub added : after ≡ option_map (λ w. w ++ take (d + n) bytes) start

pub one_more : (d n : ℕ) (bytes : List ℕ) (start mid after : Option (List ℕ)) → d ≤ length bytes → mid ≡ option_map (λ w. w ++ take d bytes) start → AddsFront n (take (length bytes - d) (drop d bytes)) mid after → IsOneMore d n bytes start after
one_more d n bytes start mid after h p a =
    let e = rest_of d bytes h in
    record {
      within = let w : n ≤ length (drop d bytes) = subst (λ (x : List ℕ). n ≤ length x) e a.within in omega (arith, length-drop d bytes);
      added = adds_twice d n bytes start mid after p (a.added ∙ ap (λ x. option_map (λ w. w ++ take n x) mid) e);
    }
