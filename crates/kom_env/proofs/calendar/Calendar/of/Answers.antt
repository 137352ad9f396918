use Rattle.std.proofs.Common.{◌≡◌, length, refl, sym, ap, ◌∙◌, arith, ◌∷◌, [], length-append}
use Rattle.kom_index.specs.Stock.{entries}
use Rattle.kom_env.proofs.Placing.{place_free, one_placed}
use Rattle.kom_env.proofs.calendar.Calendar.of.Goals as goal

pub insert-requires-clause-absent : goal.insert-requires-clause-absent
insert-requires-clause-absent c =
    let v = c.loop-raise.invariant in
    rw (c.place_of.ensures, c.len.ensures) (place_free c.args.raises c.loop-raise.raises c.pop.new.self c.in-Some.raise (entries c.loop-raise.placed) c.in-Some.ensures v.same c.requires.in_order v.rises v.placed v.behind)

pub loop-raise-preserved : goal.loop-raise-preserved
loop-raise-preserved c =
    let v = c.loop-raise.invariant in
    let new = rw (c.place_of.ensures, c.len.ensures) at c.insert.ensures.new in
    let p = one_placed c.args.raises c.loop-raise.raises c.pop.new.self c.in-Some.raise (entries c.loop-raise.placed) c.in-Some.ensures v.same c.requires.in_order v.rises v.placed v.behind (entries c.insert.new.self) new in
    record { same = p.same; rises = p.rises; placed = p.placed; behind = p.from; room = omega (arith, v.room, c.insert.ensures.spare, ap length c.in-Some.ensures, length-append c.pop.new.self (c.in-Some.raise ∷ [])) }
