use Rattle.std.proofs.Common.{◌∙◌, ap, map, arith}
use Rattle.std.specs.List.{range_with_len}
use Rattle.kom_rules.specs.Spaces.{attribute_names}
use Rattle.kom_resolve.proofs.Gathered.{gathered}
use Rattle.kom_resolve.proofs.Rows.{listed}
use Rattle.kom_resolve.proofs.system.resolve.Goals as goal

pub invariant_of-whole : goal.invariant_of-whole
invariant_of-whole c = record {
  tabled = c.in_ok-tables.ensures;
  counted = c.requires;
  attributed = c.in_ok-events.ensures.attributes;
}

pub returns : goal.returns
returns c =
    gathered c.args.parts.now _ _ _ _ _ _ _
    (c.in_ok-build.ensures ∙ c.as_slice.ensures.value ∙ c.in_ok-rows.ensures)
    c.in_ok-event_names.ensures
    (listed (attribute_names c.args.parts.now) c.in_ok-events.events.attributes 0 (λ k. c.in_ok-events.ensures.attributes k ∙ ap (attribute_names c.args.parts.now) (omega arith)) ∙ ap (λ n. map (attribute_names c.args.parts.now) (range_with_len 0 n)) c.in_ok-events.ensures.count)
    (c.in_ok-build-2.ensures ∙ c.in_ok-port_rows.ensures)
    c.in_ok-port_type_names.ensures
    c.in_ok-kinds.ensures
    c.in_ok-root.ensures
