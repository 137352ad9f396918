use Rattle.std.proofs.Common.{sym, ◌∙◌, ap, length}
use Rattle.kom_parse.proofs.Covered.{length-lexemes}
use Rattle.kom_parse.proofs.reader.Reader.left.Goals as goal

pub returns : goal.returns
returns c = sym (length-lexemes _ _) ∙ ap length c.self.view_is
