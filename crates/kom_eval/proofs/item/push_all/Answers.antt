use Rattle.std.proofs.Common.{pos, ◌<◌, length, rules, ap, sym, ◌∙◌, ◌++◌, ◌∷◌, [], List, ℤ, unwrap_or, get_or, append_assoc, take, w64}
use Rattle.std.proofs.lemmas.List.{take_more}
use Rattle.std.proofs.lemmas.Int.{to_z-of_z}
use Rattle.std.proofs.lemmas.Option.{unwrap_or-slice_get}
use mir.Val.{SFits}
use Rattle.kom_eval.proofs.item.push_all.Goals as goal

pub loop-i-preserved : goal.loop-i-preserved
loop-i-preserved c =
    let lt : c.loop-i.i < length c.args.values.now = search rules in
    let more = take_more c.args.values.now c.loop-i.i (pos 0) lt in
    let f : SFits w64 c.unwrap_or.result = search rules in
    let same = to_z-of_z w64 c.unwrap_or.result f in
    let value = c.unwrap_or.ensures ∙ ap (λ o. unwrap_or o (pos 0)) c.at.ensures ∙ unwrap_or-slice_get c.args.values.now c.loop-i.i (pos 0) in
    c.in_ok-push.ensures.ok
    ∙ ap (λ (v : ℤ). c.loop-i.scope ++ v ∷ []) (same ∙ value)
    ∙ ap (λ (vs : List ℤ). vs ++ get_or c.args.values.now c.loop-i.i (pos 0) ∷ []) c.loop-i.invariant
    ∙ append_assoc c.args.scope.now (take c.loop-i.i c.args.values.now) (get_or c.args.values.now c.loop-i.i (pos 0) ∷ [])
    ∙ ap (λ (vs : List ℤ). c.args.scope.now ++ vs) (sym more)
