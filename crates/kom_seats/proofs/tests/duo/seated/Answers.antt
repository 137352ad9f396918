use Rattle.std.proofs.Common.{◌∷◌, ◌∙◌, ap, arith}
use Rattle.kom_seats.proofs.Duos.{begun}
use Rattle.kom_seats.proofs.tests.duo.seated.Goals as goal

pub returns : goal.returns
returns c =
    let zero = c.placed-zero in
    let one = c.placed-one in
    let room = c.requires.room in
    let first = zero.ensures.room in
    let second = one.ensures.room in
    begun c.args.exchange _ c.args.plan zero.result one.result c.args.seats.items one.new.seats.items _ c.requires.run.0 c.requires.run.1 c.requires.run.2 c.requires.fresh
    (zero.ensures.seat ∙ ap (λ l. zero.result.seat ∷ l) one.ensures.seat) zero.ensures.job one.ensures.job (omega (arith, room, first, second))
