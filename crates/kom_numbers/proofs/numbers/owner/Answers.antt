use Rattle.std.proofs.Common.{◌≡◌, ◌+◌, ◌-◌, ◌/◌, ◌≤◌, suc, Some, arith, inl, inr, ap, get_or}
use Rattle.std.specs.Prelude.{slice_get}
use Rattle.std.proofs.lemmas.Option.{slice_get-get_or}
use Rattle.kom_numbers.specs.Spans.{start_of}
use Rattle.kom_numbers.proofs.Ownership.{begins_later, ends_at}
use Rattle.kom_numbers.proofs.numbers.owner.Goals as goal
use Rattle.kom_numbers.proofs.numbers.owner.Goals.{then-spans-low, else-spans-low}

pub loop-rest-preserved : goal.loop-rest-preserved
loop-rest-preserved c =
    let outs = c.args.outs.now in
    let spans = c.args.spans.now in
    let low = c.loop-rest.low in
    let rest = c.loop-rest.rest in
    let at = c.loop-rest.invariant in
    let m = low + rest / 2 in
    let s = get_or spans m (record { first = 0; count = 0 }) in
    let here : slice_get spans m ≡ Some s = slice_get-get_or spans m (record { first = 0; count = 0 }) (omega (arith, c.loop-rest-test.true, at.within)) in
    let begin : s.first ≡ start_of outs spans m = c.requires m s here in
    elim c.if-spans-low.branch [
      | then-spans-low w ↦
          let e : c.if-spans-low.low + (rest - rest / 2) ≡ low + rest = omega (arith, w.low-is) in
          let f = ap (start_of outs spans) w.low-is in
          let g = ap (start_of outs spans) e in
          record {
            some = omega (arith, c.loop-rest-test.true);
            within = omega (arith, e, at.within);
            begins = omega (arith, begin, f, w.if-spans-low.true);
            ends = elim at.ends [ inl all ↦ inl (omega (arith, e, all)) | inr below ↦ inr (omega (arith, g, below)) ];
          }
      | else-spans-low w ↦
          let f = ap (start_of outs spans) w.low-is in
          let later = begins_later outs spans m (c.if-spans-low.low + (rest - rest / 2)) (omega (arith, w.low-is)) in
          record {
            some = omega (arith, c.loop-rest-test.true);
            within = omega (arith, w.low-is, at.within);
            begins = omega (arith, f, at.begins);
            ends = inr (omega (arith, begin, later, w.if-spans-low.false));
          }
    ]

pub overflow_sub-x : goal.overflow_sub-x
overflow_sub-x c =
    let outs = c.args.outs.now in
    let spans = c.args.spans.now in
    let low = c.loop-rest.low in
    let at = c.loop-rest.invariant in
    let s = get_or spans low (record { first = 0; count = 0 }) in
    let here : slice_get spans low ≡ Some s = slice_get-get_or spans low (record { first = 0; count = 0 }) (omega (arith, at.some, at.within)) in
    omega (arith, c.requires low s here, at.begins)

pub returns-then-x-span : goal.returns-then-x-span
returns-then-x-span c =
    let outs = c.args.outs.now in
    let spans = c.args.spans.now in
    let low = c.loop-rest.low in
    let at = c.loop-rest.invariant in
    let s = get_or spans low (record { first = 0; count = 0 }) in
    let here : slice_get spans low ≡ Some s = slice_get-get_or spans low (record { first = 0; count = 0 }) (omega (arith, at.some, at.within)) in
    (omega (arith, at.some, at.within), at.begins, omega (arith, c.requires low s here, ends_at outs spans low s here, c.if-x-span.true, at.begins))

pub returns-else-x-span : goal.returns-else-x-span
returns-else-x-span c =
    let outs = c.args.outs.now in
    let spans = c.args.spans.now in
    let low = c.loop-rest.low in
    let at = c.loop-rest.invariant in
    let s = get_or spans low (record { first = 0; count = 0 }) in
    let here : slice_get spans low ≡ Some s = slice_get-get_or spans low (record { first = 0; count = 0 }) (omega (arith, at.some, at.within)) in
    let past : start_of outs spans (suc low) ≤ c.args.x = omega (arith, c.requires low s here, ends_at outs spans low s here, c.if-x-span.false, at.begins) in
    let one : low + c.loop-rest.rest ≡ suc low = omega (arith, at.some, c.loop-rest-test.false) in
    let e = ap (start_of outs spans) one in
    elim at.ends [
      | inl all ↦ (let f = ap (start_of outs spans) all in inr (omega (arith, e, f, past)))
      | inr below ↦ absurd (omega (arith, e, past, below))
    ]
