use Rattle.std.proofs.Common.{◌≡◌, ◌++◌, map, take}
use Rattle.std.specs.List.{filter}
use Rattle.kom_index.specs.Stock.{entries}
use Rattle.kom_env.specs.Waiting.{is_due, release_of}
use Rattle.kom_env.proofs.agenda.Agenda.release_at.Given as goal

abbrev pub invariant-loop-due : goal.invariant-loop-due
invariant-loop-due l = l.out.items ≡ l.fn.out.items ++ map release_of (take l.due-index (filter (is_due l.fn.time) (entries l.self)))
