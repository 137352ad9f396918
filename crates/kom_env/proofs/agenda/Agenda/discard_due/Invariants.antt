use Rattle.std.proofs.Common.{◌≡◌, ◌≤◌, not, length}
use Rattle.std.specs.List.{filter}
use Rattle.kom_index.specs.Stock.{entries, spare}
use Rattle.kom_env.specs.Waiting.{is_due}
use Rattle.kom_env.proofs.agenda.Agenda.discard_due.Given as goal

abbrev pub invariant-loop-no : goal.invariant-loop-no
invariant-loop-no l = record {
  same : filter (λ e. not (is_due l.fn.time e)) (entries l.self) ≡ filter (λ e. not (is_due l.fn.time e)) (entries l.fn.self);
  room : spare l.fn.self ≤ spare l.self;
}

abbrev pub decreases-loop-no : goal.decreases-loop-no
decreases-loop-no l = length (entries l.self)
