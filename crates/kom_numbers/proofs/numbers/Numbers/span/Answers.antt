use Rattle.std.proofs.Common.{◌≡◌, Some, suc, ◌<◌, length, arith, ap, sym, ◌∙◌}
use Rattle.std.specs.Prelude.{slice_get, nat_le, nat_lt, ◌&&◌, ◌+◌}
use Rattle.std.proofs.lemmas.Option.{slice_get-get_or}
use Rattle.std.proofs.lemmas.List.{length-map}
use Rattle.kom_numbers.specs.declared.numbers.Span.{Span}
use Rattle.kom_numbers.specs.Sound.{numbering_of}
use Rattle.kom_numbers.specs.Spans.{start_of}
use Rattle.kom_numbers.proofs.Ownership.{ends_at, below_total, owns, count_is}
use Rattle.kom_numbers.proofs.numbers.Numbers.span.Goals as goal

pub returns-clause-few : goal.returns-clause-few
returns-clause-few c =
    let outs = c.self.inside.outs.items in
    let spans = c.self.inside.spans.items in
    let s = c.index-span.result.now in
    let made = rw (← c.self.view_is) at c.requires in
    let within : c.c.inside.0 < length spans = omega (arith, made, c.c.view_is, length-map spans (λ (u : Span). u.count)) in
    let here : slice_get spans c.c.inside.0 ≡ Some s = slice_get-get_or spans c.c.inside.0 s within ∙ ap Some (sym c.index-span.ensures) in
    omega (arith, c.self.invariant.starts c.c.inside.0 s here, ends_at outs spans c.c.inside.0 s here, below_total outs spans (suc c.c.inside.0), c.self.invariant.few)

pub returns-clause-owns : goal.returns-clause-owns
returns-clause-owns c = λ x.
    let outs = c.self.inside.outs.items in
    let spans = c.self.inside.spans.items in
    let s = c.index-span.result.now in
    let made = rw (← c.self.view_is) at c.requires in
    let within : c.c.inside.0 < length spans = omega (arith, made, c.c.view_is, length-map spans (λ (u : Span). u.count)) in
    let here : slice_get spans c.c.inside.0 ≡ Some s = slice_get-get_or spans c.c.inside.0 s within ∙ ap Some (sym c.index-span.ensures) in
    rw (← c.self.view_is, ← c.c.view_is, c.self.invariant.starts c.c.inside.0 s here)
    (owns (numbering_of c.self.inside) c.c.inside.0 x (omega (arith, within, length-map spans (λ (u : Span). u.count)))
    ∙ ap (λ k. nat_le (start_of outs spans c.c.inside.0) x && nat_lt x (start_of outs spans c.c.inside.0 + k)) (count_is spans c.c.inside.0 s here))
