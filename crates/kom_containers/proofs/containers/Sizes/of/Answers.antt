use Rattle.std.proofs.Common.{◌∙◌, ap, ℕ, List, min}
use Rattle.kom_containers.specs.Nested.{levels_of, total_of, children_table}
use Rattle.kom_containers.proofs.containers.Sizes.of.Goals as goal

pub returns : goal.returns
returns c = record {
  heights = λ k. c.in_ok-heights.ensures k ∙ ap (λ (ch : List (List ℕ)). levels_of 17 ch k) (c.as_slice.ensures ∙ c.in_ok-children.ensures);
  instances = λ k. c.in_ok-totals.ensures k
      ∙ ap (λ (ch : List (List ℕ)). min (total_of 16 ch c.as_slice-3.result.now k) 1001) (c.as_slice-2.ensures ∙ c.in_ok-children.ensures)
      ∙ ap (λ (own : List ℕ). min (total_of 16 (children_table c.args.parts.now) own k) 1001) (c.as_slice-3.ensures ∙ c.in_ok-one_each.ensures);
  channels = λ k. c.in_ok-totals-2.ensures k
      ∙ ap (λ (ch : List (List ℕ)). min (total_of 16 ch c.as_slice-5.result.now k) 1001) (c.as_slice-4.ensures ∙ c.in_ok-children.ensures)
      ∙ ap (λ (own : List ℕ). min (total_of 16 (children_table c.args.parts.now) own k) 1001) (c.as_slice-5.ensures ∙ c.in_ok-wires.ensures);
}
