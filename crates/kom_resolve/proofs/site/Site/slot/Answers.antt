use Rattle.std.proofs.Common.{◌∙◌, arith}
use Rattle.kom_rules.specs.Names.{names_of}
use Rattle.kom_rules.specs.Spaces.{slot_spots}
use Rattle.kom_resolve.proofs.Numbered.{few, names_long, short}
use Rattle.kom_resolve.proofs.site.Site.slot.Goals as goal

pub overflow_cast-result : goal.overflow_cast-result
overflow_cast-result c =
    let s = c.args.self.now in
    let is = c.number_or.ensures (names_of (slot_spots s.part.now)) s.named.slots (c.len.ensures ∙ names_long (λ x. x.name) s.part.now.slots) in
    omega (arith, few (λ x. x.name) s.part.now.slots c.args.spot.now.name c.number_or.result (short s.part.now s.short).slots is)
