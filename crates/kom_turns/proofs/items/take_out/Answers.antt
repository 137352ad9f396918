use Rattle.std.proofs.Common.{◌≡◌, ◌&&◌, refl, sym, ap, subst}
use Rattle.kom_base.specs.declared.numbers.Dir.{Dir}
use Rattle.kom_base.specs.declared.numbers.Dir.TheVariants.{Plus, Minus}
use Rattle.kom_base.specs.Numbers.{same_dir}
use Rattle.kom_record.specs.declared.item.Item.TheVariants.{Arrival}
use Rattle.kom_refine.specs.Steps.{IsTaken}
use Rattle.kom_state.specs.Parts.{state_of}
use Rattle.kom_turns.proofs.Taking.{turned}
use Rattle.kom_turns.proofs.items.take_out.Goals as goal

same_turned : (d e : Dir) → same_dir d e ≡ same_dir e d
same_turned Plus Plus = refl
same_turned Plus Minus = refl
same_turned Minus Plus = refl
same_turned Minus Minus = refl

pub returns-in-Arrival-clause-step : goal.returns-in-Arrival-clause-step
returns-in-Arrival-clause-step c =
    let a = c.in-Arrival in
    subst (λ i. IsTaken c.args.c i (state_of c.args.state.now) (state_of c.take_arrival.new.self)) (sym a.is)
    (c.take_arrival.ensures.step c.args.c (Arrival a.chan a.dir a.no a.port a.side a.event a.back) refl (λ y e. ap (λ b. b && same_dir a.dir e) (turned a.chan y)))
