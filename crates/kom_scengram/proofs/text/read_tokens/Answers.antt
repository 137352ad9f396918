use Rattle.kom_scengram.proofs.Exact.{not_begun_left, breaks_header, no_file_left, breaks_grammar, is_tree}
use Rattle.kom_scengram.proofs.text.read_tokens.Goals as goal

pub place_of_next-at-requires : goal.place_of_next-at-requires
place_of_next-at-requires c = not_begun_left c.args.text.now c.args.tokens.now c.requires.cut _ (rw c.new-reader.ensures at (c.in-Err-Refused.ensures c.in-Err-Refused.field-0-is))

pub returns-in-Err-Refused : goal.returns-in-Err-Refused
returns-in-Err-Refused c =
    rw c.place_of_next-at.ensures (breaks_header c.args.text.now c.args.tokens.now c.requires.cut _ (rw c.new-reader.ensures at (c.in-Err-Refused.ensures c.in-Err-Refused.field-0-is)))

pub place_of_next-at-requires-in-Err-Refused-body : goal.place_of_next-at-requires-in-Err-Refused-body
place_of_next-at-requires-in-Err-Refused-body c =
    no_file_left c.args.text.now c.args.tokens.now c.requires.cut _ _ _ (rw c.new-reader.ensures at c.in-Ok.ensures) (c.in-Err-Refused-body.ensures.reads c.in-Err-Refused-body.field-0-is)

pub returns-in-Ok-body : goal.returns-in-Ok-body
returns-in-Ok-body c =
    is_tree c.args.text.now c.args.tokens.now c.requires.cut _ _ _ (rw c.new-reader.ensures at c.in-Ok.ensures) _ c.in-Ok-body.ensures.end c.in-Ok-body.ensures.reads

pub returns-in-Err-Refused-body : goal.returns-in-Err-Refused-body
returns-in-Err-Refused-body c =
    rw c.place_of_next-at-in-Err-Refused-body.ensures (breaks_grammar c.args.text.now c.args.tokens.now c.requires.cut _ _ _ (rw c.new-reader.ensures at c.in-Ok.ensures)
    (c.in-Err-Refused-body.ensures.reads c.in-Err-Refused-body.field-0-is))
