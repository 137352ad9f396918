use Rattle.std.proofs.Common.{false, refl}
use Rattle.kom_parse.specs.Spelled.{end, next, empty}
use Rattle.kom_grammar.specs.Words.{name}
use Rattle.kom_grammar.specs.Files.{child, component, root, file}
use Rattle.kom_grammar.proofs.example.smallest_file.Goals as goal

pub returns : goal.returns
returns c = file 0 7 8 false (next (component 10 25 27 (name 20 refl) end) (next (root 29 40 (child 38 39 (name 34 refl) empty)) end))
