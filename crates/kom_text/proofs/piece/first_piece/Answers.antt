use Rattle.kom_text.proofs.Firsts.{first-found-in}
use Rattle.kom_text.proofs.piece.first_piece.Goals as goal

pub returns-in-len1-up : goal.returns-in-len1-up
returns-in-len1-up c = rw c.find_piece.ensures (first-found-in c.args.text.now c.in-len1-up.len_at_least)
