use Rattle.std.proofs.Common.{◌∙◌, sym, length, ◌≤◌, arith}
use Rattle.kom_state.specs.Parts.{state_of}
use Rattle.kom_state.specs.Plantings.{items_of}
use Rattle.kom_births.proofs.Room.{no_less_again, same_again}
use Rattle.kom_births.proofs.Sums.{items_none, items_one, rows_all, rows_more}
use Rattle.kom_births.proofs.rooms.reserve_rows.Goals as goal
use Rattle.kom_births.proofs.rooms.reserve_rows.Goals.{then-is_some, else-is_some}

pub loop-k-preserved : goal.loop-k-preserved
loop-k-preserved c = record {
  same = same_again (state_of c.args.state.now) (state_of c.loop-k.state) (state_of c.reserve_controls.new.self) c.loop-k.invariant.same c.in_ok-reserve_controls.ensures.same;
  not_less = no_less_again c.args.state.now c.loop-k.state c.reserve_controls.new.self c.loop-k.invariant.not_less c.in_ok-reserve_controls.ensures.not_less;
  rows = rows_more c.args.seeds.now c.loop-k.k c.index-seeds-k.result c.loop-k-test.true c.index-seeds-k.is c.args.first c.loop-k.state c.reserve_controls.new.self c.in_ok-reserve_controls.ensures.not_less c.loop-k.invariant.rows c.in_ok-reserve_controls.ensures.row
      (let fits : length (items_of c.index-seeds-k.result.init) ≤ c.if-is_some.items = elim c.if-is_some.branch [
        | then-is_some w ↦ (let i = items_one c.index-seeds-k.result.init in omega (arith, i, w.items-is))
        | else-is_some w ↦ (let i = items_none c.index-seeds-k.result.init (sym c.is_some.ensures ∙ w.if-is_some.false) in omega (arith, i))
      ] in omega (arith, fits, c.in_ok-reserve_controls.ensures.ok));
}

pub returns-in_err-reserve_controls-clause-same : goal.returns-in_err-reserve_controls-clause-same
returns-in_err-reserve_controls-clause-same c = same_again (state_of c.args.state.now) (state_of c.loop-k.state) (state_of c.reserve_controls.new.self) c.loop-k.invariant.same c.reserve_controls.ensures.same

pub returns-in_err-reserve_controls-clause-not_less : goal.returns-in_err-reserve_controls-clause-not_less
returns-in_err-reserve_controls-clause-not_less c = no_less_again c.args.state.now c.loop-k.state c.reserve_controls.new.self c.loop-k.invariant.not_less c.reserve_controls.ensures.not_less

pub returns-clause-ok : goal.returns-clause-ok
returns-clause-ok c = rows_all c.args.seeds.now c.loop-k.k c.args.first c.loop-k.state (omega (arith, c.loop-k-test.false)) c.loop-k.invariant.rows
