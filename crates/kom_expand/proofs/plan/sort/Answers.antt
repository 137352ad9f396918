use Rattle.std.proofs.Common.{rules}
use Rattle.std.proofs.lemmas.List.Sorted.{answers_always, IsNonDecreasingBy-from_sort_by_key}
use Rattle.kom_expand.proofs.Sorting.{rises, same_times}
use Rattle.kom_expand.proofs.plan.sort.Goals as goal

pub returns-clause-in_time : goal.returns-clause-in_time
returns-clause-in_time c = record {
  rising = rises _ (IsNonDecreasingBy-from_sort_by_key (λ r. r.time) _ c.in_ok-sort_by_key.ensures.sorted (λ a r q k. search rules));
  same = same_times _ _ (c.in_ok-sort_by_key.ensures.stable (λ r. r.time) (answers_always _ _ _ (λ f a r g h. search rules)));
}
