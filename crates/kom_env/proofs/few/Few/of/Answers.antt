use Rattle.std.proofs.Common.{◌≡◌, ℕ, ℤ, ◌<◌, ◌+◌, ◌++◌, ◌∷◌, [], List, length, take, get_or, set, pos, refl, sym, ap, ◌∙◌, arith, length-set, add-one, w64}
use Rattle.std.proofs.Math.Seq.{take-suc-set}
use Rattle.std.proofs.lemmas.List.{take_more}
use Rattle.std.proofs.lemmas.Int.{to_z-of_z}
use Rattle.kom_env.proofs.few.Few.of.Goals as goal

-- one value more
one_more : (xs ys : List ℤ) (i : ℕ) (v : ℤ) → i < length xs → i < length ys → take i xs ≡ take i ys → v ≡ get_or ys i (pos 0) → take (i + 1) (set xs i v) ≡ take (i + 1) ys
one_more xs ys i v h g same is =
    ap (λ n. take n (set xs i v)) (add-one i) ∙ take-suc-set xs i v h ∙ ap (λ l. l ++ v ∷ []) same ∙ ap (λ x. take i ys ++ x ∷ []) is ∙ sym (take_more ys i (pos 0) g)

pub loop-i-preserved : goal.loop-i-preserved
loop-i-preserved c =
    let v = to_z-of_z w64 c.value_at.result (record { sfits = c.value_at.type_inv }) in
    record {
      long = length-set c.loop-i.items c.loop-i.i _ ∙ c.loop-i.invariant.long;
      same = one_more c.loop-i.items c.args.values.now c.loop-i.i _ (omega (arith, c.loop-i.invariant.long, c.loop-i-test.true, c.len-len.ensures, c.requires)) (omega arith) c.loop-i.invariant.same (v ∙ c.value_at.ensures);
    }
