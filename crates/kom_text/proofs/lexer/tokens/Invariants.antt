use Rattle.std.proofs.Common.{length, ◌<◌}
use Rattle.kom_text.specs.Answers.{IsReadTo}
use Rattle.kom_text.proofs.lexer.tokens.Given as goal

abbrev pub invariant-loop-rest : goal.invariant-loop-rest
invariant-loop-rest l = record { few : length l.text < 4294967295; read : IsReadTo l.text l.rest l.list.items l.too_big l.from }

abbrev pub decreases-loop-rest : goal.decreases-loop-rest
decreases-loop-rest l = length l.rest
