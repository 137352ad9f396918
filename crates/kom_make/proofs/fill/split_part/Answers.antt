use Rattle.kom_make.proofs.Cutting.{part}
use Rattle.kom_make.proofs.fill.split_part.Goals as goal

pub returns : goal.returns
returns c = rw (c.split_at.ensures.front, c.split_at.ensures.back, c.max.ensures, c.run_len.ensures.value) (part c.args.text.now c.requires)
