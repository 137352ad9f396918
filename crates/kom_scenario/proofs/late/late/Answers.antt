use Rattle.std.proofs.Common.{◌≡◌, ◌<◌, ◌≤◌, ◌++◌, ◌∷◌, [], length, ◌∙◌, ap, arith, add-one}
use Rattle.kom_scenario.specs.Sound.{latest, longest}
use Rattle.kom_scenario.proofs.Lateness.{early_onto, in_order, late_step, not_late}
use Rattle.kom_scenario.proofs.late.late.Goals as goal

pub loop-k-preserved : goal.loop-k-preserved
loop-k-preserved c =
    let spans = c.loop-k.spans.items in
    let z = c.index-sources-k.result in
    let less : c.loop-k.k < length c.args.sources.now = omega arith in
    let span : c.latest-span.result ≡ latest spans z = c.latest-span.ensures ∙ ap (λ s. latest s z) c.as_slice.ensures.value in
    let end : (latest spans z).1 ≤ longest = omega (arith, ap (λ x. x.1) span, c.if-span-gt-LONGEST.false) in
    let begin : (latest spans z).0 ≤ longest = omega (arith, in_order spans z, end) in
    let items : c.push.new.self.items ≡ spans ++ latest spans z ∷ [] = c.in_ok-push.ensures.items ∙ ap (λ x. spans ++ x ∷ []) span in
    record {
      early = rw items (early_onto longest longest spans (latest spans z) c.loop-k.invariant.early (omega arith) begin end);
      same = c.loop-k.invariant.same ∙ rw (items, add-one)
          (late_step spans c.args.parts.now c.args.sources.now c.loop-k.k z c.requires.paired less c.index-sources-k.is (not_late (latest spans z).1 end));
    }
