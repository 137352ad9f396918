use Rattle.std.proofs.Common.{◌≤◌, ◌∙◌, ◌∷◌, ◌++◌, [], length, map, arith, ap, sym}
use Rattle.std.proofs.lemmas.List.{take_all}
use Rattle.kom_io.specs.Names.{count_at}
use Rattle.kom_io.proofs.Files.{unfaulted, take_next, zeros_next}
use Rattle.kom_io.proofs.counts.Counts.of_words.Goals as goal
use Rattle.kom_io.proofs.counts.Counts.of_words.Goals.{in-Some+in_ok-add, in_default}

pub loop-i-preserved : goal.loop-i-preserved
loop-i-preserved c =
    elim c.match-at.branch [
      | in-Some+in_ok-add w ↦ record {
        names = ap (λ s. s.names) w.counts-is ∙ w.in_ok-add.ensures.names ∙ ap (λ x. x ++ w.in-Some.word.now ∷ []) c.loop-i.invariant.names ∙ sym (take_next c.args.words.now c.loop-i.i w.in-Some.word.now w.in-Some.ensures);
        faults = ap (λ s. s.faults.items) w.counts-is ∙ w.in_ok-add.ensures.faults ∙ ap (λ x. x ++ 0 ∷ []) c.loop-i.invariant.faults ∙ sym (zeros_next c.args.words.now c.loop-i.i w.in-Some.word.now w.in-Some.ensures);
      }
      | in_default w ↦ absurd (omega (arith, w.in_default.ensures))
    ]

pub returns : goal.returns
returns c n =
    let within : length c.args.words.now ≤ c.loop-i.i = omega arith in
    let all = take_all c.loop-i.i c.args.words.now within in
    ap (λ x. count_at x c.loop-i.counts.faults.items n) (c.loop-i.invariant.names ∙ all)
    ∙ ap (λ x. count_at c.args.words.now x n) (c.loop-i.invariant.faults ∙ ap (map (λ _. 0)) all)
    ∙ unfaulted c.args.words.now n
