use Rattle.std.proofs.Common.{◌∙◌, arith}
use Rattle.kom_rules.specs.Names.{names_of}
use Rattle.kom_rules.specs.Spaces.{channel_spots}
use Rattle.kom_resolve.proofs.Numbered.{few, names_long, short}
use Rattle.kom_resolve.proofs.site.Site.channel.Goals as goal

pub overflow_cast-result : goal.overflow_cast-result
overflow_cast-result c =
    let s = c.args.self.now in
    let is = c.number_or.ensures (names_of (channel_spots s.part.now)) s.named.channels (c.len.ensures ∙ names_long (λ x. x.name) s.part.now.channels) in
    omega (arith, few (λ x. x.name) s.part.now.channels c.args.spot.now.name c.number_or.result (short s.part.now s.short).channels is)
