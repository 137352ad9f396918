use Rattle.std.proofs.Common.{◌≡◌, Some, None, ap, sym, ◌∙◌, ◌-◌, ◌<◌, refl, length, subst, List, ℕ, Option}
use Rattle.std.specs.Prelude.{slice_get}
use Rattle.std.proofs.lemmas.Option.{slice_get-get_or}
use Rattle.kom_base.specs.declared.numbers.Dir.{Dir}
use Rattle.kom_numbers.specs.declared.numbers.Span.{Span}
use Rattle.kom_numbers.specs.Numbering.{Numbering, wire_at}
use Rattle.kom_numbers.specs.Sound.{numbering_of}
use Rattle.kom_numbers.specs.Spans.{counts_of, start_of, IsOwner, Start}
use Rattle.kom_numbers.proofs.Ownership.{wire_is, wire_none}
use Rattle.kom_numbers.proofs.numbers.Numbers.wire_of.Goals as goal

none_here : (outs all : List Dir) (spans these : List Span) (n : Numbering) (x : ℕ) → all ≡ outs → these ≡ spans → n.outs ≡ outs → n.counts ≡ counts_of spans → IsOwner all these x None → None ≡ wire_at n x
none_here outs all spans these n x a b e f h =
    let g : IsOwner n.outs spans x None = let P = λ (o : List Dir). IsOwner o spans x None in subst P (a ∙ sym e) (let Q = λ (s : List Span). IsOwner all s x None in subst Q b h) in
    sym (wire_none n spans x f g)

some_here : (outs all : List Dir) (spans these : List Span) (n : Numbering) (c x : ℕ) (s : Span) → all ≡ outs → these ≡ spans → n.outs ≡ outs → n.counts ≡ counts_of spans → Start outs spans → slice_get spans c ≡ Some s → IsOwner all these x (Some c) → ◌≡◌ {A = Option (ℕ × ℕ)} (Some (c, x - s.first)) (wire_at n x)
some_here outs all spans these n c x s a b e f starts at h =
    let g : IsOwner n.outs spans x (Some c) = let P = λ (o : List Dir). IsOwner o spans x (Some c) in subst P (a ∙ sym e) (let Q = λ (s : List Span). IsOwner all s x (Some c) in subst Q b h) in
    let k : s.first ≡ start_of n.outs spans c = starts c s at ∙ ap (λ o. start_of o spans c) (sym e) in
    ap {B = Option (ℕ × ℕ)} (λ z. Some (c, x - z)) k ∙ sym (wire_is n spans c x f g.0 g.1 g.2)

pub returns-in-None : goal.returns-in-None
returns-in-None c =
    let i = c.self.inside in
    rw (← c.x.view_is, ← c.self.view_is) (none_here i.outs.items c.deref.result.now i.spans.items c.deref-2.result.now (numbering_of i) c.x.inside.0 c.deref.ensures.value c.deref-2.ensures.value refl refl c.in-None.ensures)

pub returns-in-Some : goal.returns-in-Some
returns-in-Some c =
    let i = c.self.inside in
    let s = c.index.result.now in
    let own = c.in-Some.ensures in
    let within : c.in-Some.c < length i.spans.items = subst (λ (l : List Span). c.in-Some.c < length l) c.deref-2.ensures.value own.0 in
    let at : slice_get i.spans.items c.in-Some.c ≡ Some s = slice_get-get_or i.spans.items c.in-Some.c s within ∙ ap Some (sym c.index.ensures) in
    rw (← c.x.view_is, ← c.self.view_is) (some_here i.outs.items c.deref.result.now i.spans.items c.deref-2.result.now (numbering_of i) c.in-Some.c c.x.inside.0 s c.deref.ensures.value c.deref-2.ensures.value refl refl c.self.invariant.starts at own)
