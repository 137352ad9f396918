use Rattle.kom_make.proofs.Cutting.{line}
use Rattle.kom_make.proofs.make.split_line.Goals as goal

pub returns : goal.returns
returns c = rw (c.split_at.ensures.front, c.split_at.ensures.back, c.line_len.ensures.value) (line c.args.text.now c.requires)
