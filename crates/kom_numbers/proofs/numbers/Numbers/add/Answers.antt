use Rattle.std.proofs.Common.{◌∷◌, [], arith}
use Rattle.std.proofs.lemmas.List.{length-append, length-map}
use Rattle.kom_numbers.specs.declared.numbers.Span.{Span}
use Rattle.kom_numbers.proofs.Adding.{start_kept, total_more}
use Rattle.kom_numbers.proofs.numbers.Numbers.add.Goals as goal

pub put-requires : goal.put-requires
put-requires c = let r = rw (← c.self.view_is) at c.requires.spare in omega (arith, r)

pub invariant_of-self : goal.invariant_of-self
invariant_of-self c =
    let outs = c.self.inside.outs.items in
    let spans = c.self.inside.spans.items in
    let s : Span = record { first = c.self.inside.next; count = c.args.count } in
    let more = c.put.ensures.items in
    let few = rw (← c.self.view_is) at c.requires.few in
    let instances = rw (← c.self.view_is) at c.requires.instances in
    record {
      starts = rw more (start_kept outs spans s c.self.invariant.starts c.self.invariant.next);
      next = rw more (omega (arith, c.self.invariant.next, total_more spans s));
      few = rw more (omega (arith, few, total_more spans s));
      instances = rw more (omega (arith, instances, length-append spans (s ∷ []), length-map spans (λ (u : Span). u.count)));
    }
