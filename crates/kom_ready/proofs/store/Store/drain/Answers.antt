use Rattle.std.proofs.Common.{◌∷◌, [], ◌∙◌, ap, length, arith}
use Rattle.std.proofs.lemmas.List.{length-append}
use Rattle.kom_ready.specs.Stores.{store_view}
use Rattle.kom_ready.proofs.Guested.{ones}
use Rattle.kom_ready.proofs.store.Store.drain.Goals as goal

pub push_reserved-requires : goal.push_reserved-requires
push_reserved-requires c =
    let inv = c.loop-c.invariant in
    let was = store_view c.loop-c.self in
    let now = store_view c.pop.new.self in
    let view = c.in-Some.ensures.0 in
    let w = c.in-Some.ensures.1 (ap (λ v. v.parts) view ∙ inv.full) (λ _. 1) in
    let t = ones now.taken in
    let p = ones now.put in
    let taken = ap (λ v. length v.taken) view in
    let more = length-append was.taken (c.in-Some.c ∷ []) in
    let put = ap (λ v. length v.put) view in
    let room = inv.room in
    omega (arith, w, t, p, taken, more, put, room)
