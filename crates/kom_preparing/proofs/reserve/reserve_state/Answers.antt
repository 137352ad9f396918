use Rattle.std.proofs.Common.{◌≡◌, ◌+◌, ◌≤◌, ◌<◌, ap, ◌∙◌, sym, subst, length, arith}
use Rattle.std.specs.Prelude.{sum}
use Rattle.kom_numbers.specs.Numbering.{total}
use Rattle.kom_nursery.specs.Nurseries.{IsNext}
use Rattle.kom_state.specs.Parts.{state_of}
use Rattle.kom_puts.proofs.BySlots.{no_less_again, same_again}
use Rattle.kom_preparing.proofs.Carried.{follow_stays, puts_kept}
use Rattle.kom_preparing.proofs.reserve.reserve_state.Goals as goal

pub reserve_effects-requires-clause-made : goal.reserve_effects-requires-clause-made
reserve_effects-requires-clause-made c = let a = ap length c.reserve_puts.ensures.same.tree.nodes in let b = c.requires.made in omega (arith, a, b)

pub reserve_effects-requires-clause-number : goal.reserve_effects-requires-clause-number
reserve_effects-requires-clause-number c = let a = ap length c.reserve_puts.ensures.same.tree.nodes in let b = c.requires.number in omega (arith, a, b)

pub reserve_effects-requires-clause-channels : goal.reserve_effects-requires-clause-channels
reserve_effects-requires-clause-channels c =
    let less = c.reserve_puts.ensures.not_less in
    let a : total c.reserve_puts.new.state.numbers ≡ total c.args.state.now.numbers = (λ i. length (less.outs i) + sum (less.counts i)) in
    let b = c.requires.channels in
    omega (arith, a, b)

pub returns-in_err-nursery-clause-same : goal.returns-in_err-nursery-clause-same
returns-in_err-nursery-clause-same c = same_again (state_of c.args.state.now) (state_of c.reserve_puts.new.state) (state_of c.reserve_effects.new.state) c.reserve_puts.ensures.same c.reserve_effects.ensures.same

pub returns-in_err-nursery-clause-not_less : goal.returns-in_err-nursery-clause-not_less
returns-in_err-nursery-clause-not_less c = no_less_again c.args.state.now c.reserve_puts.new.state c.reserve_effects.new.state c.reserve_puts.ensures.not_less c.reserve_effects.ensures.not_less

pub returns-clause-same : goal.returns-clause-same
returns-clause-same c = same_again (state_of c.args.state.now) (state_of c.reserve_puts.new.state) (state_of c.reserve_effects.new.state) c.reserve_puts.ensures.same c.reserve_effects.ensures.same

pub returns-clause-not_less : goal.returns-clause-not_less
returns-clause-not_less c = no_less_again c.args.state.now c.reserve_puts.new.state c.reserve_effects.new.state c.reserve_puts.ensures.not_less c.reserve_effects.ensures.not_less

pub returns-clause-follow : goal.returns-clause-follow
returns-clause-follow c =
    let a = c.reserve_puts.new.state in
    follow_stays (state_of a) a c.reserve_effects.new.state c.reserve_effects.ensures.same c.reserve_effects.ensures.not_less c.args.c 1 c.args.body.now c.args.item.now c.in_ok-reserve_puts.ensures.follow

pub returns-clause-come : goal.returns-clause-come
returns-clause-come c x d = let a = c.in_ok-reserve_puts.ensures.come x d in let b = c.reserve_effects.ensures.not_less.numbers x d in omega (arith, a, b)

pub returns-clause-puts : goal.returns-clause-puts
returns-clause-puts c =
    puts_kept (1 + length c.args.effects.now) c.args.c c.args.item.now c.args.told.now c.args.effects.now c.reserve_puts.new.state c.reserve_effects.new.state c.reserve_effects.ensures.same c.reserve_effects.ensures.not_less
    c.in_ok-reserve_puts.ensures.puts

pub returns-clause-planted : goal.returns-clause-planted
returns-clause-planted c done i next =
    c.in_ok-nursery.ensures.planted done i (subst (λ n. IsNext c.args.system.now.declarations done c.args.c c.args.depth n) (sym (ap length c.reserve_puts.ensures.same.tree.nodes)) next)

pub returns-clause-room : goal.returns-clause-room
returns-clause-room c bound most = c.in_ok-nursery.ensures.room bound (let a = ap length c.reserve_puts.ensures.same.tree.nodes in omega (arith, a, most))
