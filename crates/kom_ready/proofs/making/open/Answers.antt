use Rattle.std.proofs.Common.{◌≡◌, sym, ap, ◌∙◌, ◌++◌, [], ◌∷◌, List, length, map, subst, arith}
use Rattle.std.proofs.lemmas.List.{length-append}
use Rattle.kom_ready.specs.Guests.{Deque}
use Rattle.kom_ready.specs.declared.lots.Lot.{Lot}
use Rattle.std.specs.List.{sum_by}
use Rattle.std.proofs.lemmas.List.Sums.{sum_by_push}
use Rattle.crossbeam_deque.specs.Handles.{stealer_deque, stealer_flavor, worker_deque}
use Rattle.kom_ready.specs.Lots.{AreLent}
use Rattle.kom_ready.proofs.Guested.{long_map}
use Rattle.kom_ready.proofs.Lending.{map_end, opened}
use Rattle.kom_ready.proofs.making.open.Goals as goal

pub loop-number-preserved : goal.loop-number-preserved
loop-number-preserved c =
    let inv = c.loop-number.invariant in
    let thieves = c.loop-number.thieves.items in
    let ds = map stealer_deque thieves in
    let own = c.in_ok-own.own in
    let thief = c.in_ok-stealer.field-0 in
    let items = c.in_ok-push.ensures.items in
    let count = inv.count in
    let lots = inv.lent.count in
    let long = long_map stealer_deque thieves in
    let deques : ds ++ worker_deque own ∷ [] ≡ map stealer_deque c.push.new.self.items
    = sym (ap (map stealer_deque) items ∙ map_end stealer_deque thieves thief ∙ (λ k. ds ++ c.in_ok-stealer.ensures.0 k ∷ [])) in
    record {
      lent = subst (λ (q : List Deque × List Lot). AreLent q.0 0 0 0 q.1) (λ k. (deques k, sym c.in_ok-push-2.ensures.items k))
          (opened ds c.loop-number.lots.items _ inv.lent (omega (arith, count, lots, long)) c.in_ok-own.ensures.4 c.new-guests.ensures.items);
      count = let e = ap length items in let l = length-append thieves (thief ∷ []) in omega (arith, e, l, count);
      fifo = let e = ap (sum_by stealer_flavor) items in let l = sum_by_push stealer_flavor thieves thief in let f = inv.fifo in let z = c.in_ok-stealer.ensures.1 in let w = c.in_ok-own.ensures.1 in omega (arith, e, l, f, z, w);
    }
