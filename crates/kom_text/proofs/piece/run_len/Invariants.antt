use Rattle.std.proofs.Common.{◌≡◌, ◌+◌, drop}
use Rattle.kom_text.specs.Places.{lead}
use Rattle.kom_text.specs.Found.{is_in}
use Rattle.kom_text.proofs.piece.run_len.Given as goal

abbrev pub invariant-loop-i : goal.invariant-loop-i
invariant-loop-i l = lead (is_in l.run) l.text ≡ l.i + lead (is_in l.run) (drop l.i l.text)
