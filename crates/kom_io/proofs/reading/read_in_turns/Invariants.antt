use Rattle.std.proofs.Common.{◌≡◌, ◌≤◌, ◌++◌, ◌-◌, ℕ, List, Some, vec_len}
use Rattle.std.specs.Option.{option_map}
use Rattle.kom_io.specs.Faults.{RisesOnlyAt}
use Rattle.kom_io.proofs.reading.read_in_turns.Given as goal

-- the text and what is left of the file are the whole file
abbrev pub invariant-turns : goal.invariant-turns
invariant-turns g l = record {
  opened : g.S.Shelf.opened l.shelf ≡ Some l.name;
  within : vec_len l.text ≤ l.limit;
  told : option_map (λ left. l.text.items ++ left) (g.S.Shelf.left l.shelf) ≡ g.S.Shelf.file l.fn.shelf l.name;
  counts : RisesOnlyAt l.name (g.S.Shelf.count l.fn.shelf) (g.S.Shelf.count l.shelf);
  files : (n : List ℕ) → g.S.Shelf.file l.shelf n ≡ g.S.Shelf.file l.fn.shelf n;
  turns : l.before_last ≤ vec_len l.text;
}

abbrev pub decreases-turns : goal.decreases-turns
decreases-turns g l = l.limit - vec_len l.text
