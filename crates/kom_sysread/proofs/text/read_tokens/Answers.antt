use Rattle.kom_sysread.proofs.Exact.{not_begun_left, breaks_header, no_file_left, breaks_grammar, is_tree}
use Rattle.kom_sysread.proofs.text.read_tokens.Goals as goal

pub refused-requires : goal.refused-requires
refused-requires c = not_begun_left c.args.text.now c.args.tokens.now c.requires.cut _ (rw c.new-reader.ensures at (c.in-Err-Refused.ensures c.in-Err-Refused.field-0-is))

pub returns-in-Err-Refused : goal.returns-in-Err-Refused
returns-in-Err-Refused c =
    rw c.refused.ensures (breaks_header c.args.text.now c.args.tokens.now c.requires.cut _ (rw c.new-reader.ensures at (c.in-Err-Refused.ensures c.in-Err-Refused.field-0-is)))

pub refused-requires-in-Err-Refused-decls : goal.refused-requires-in-Err-Refused-decls
refused-requires-in-Err-Refused-decls c =
    no_file_left c.args.text.now c.args.tokens.now c.requires.cut _ _ _ (rw c.new-reader.ensures at c.in-Ok.ensures) (c.in-Err-Refused-decls.ensures.reads c.in-Err-Refused-decls.field-0-is)

pub returns-in-Ok-decls : goal.returns-in-Ok-decls
returns-in-Ok-decls c =
    is_tree c.args.text.now c.args.tokens.now c.requires.cut _ _ _ (rw c.new-reader.ensures at c.in-Ok.ensures) _ c.in-Ok-decls.ensures.end c.in-Ok-decls.ensures.reads

pub returns-in-Err-Refused-decls : goal.returns-in-Err-Refused-decls
returns-in-Err-Refused-decls c =
    rw c.refused-in-Err-Refused-decls.ensures (breaks_grammar c.args.text.now c.args.tokens.now c.requires.cut _ _ _ (rw c.new-reader.ensures at c.in-Ok.ensures)
    (c.in-Err-Refused-decls.ensures.reads c.in-Err-Refused-decls.field-0-is))
