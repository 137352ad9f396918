use Rattle.std.proofs.Common.{refl}
use Rattle.kom_sysfile.specs.Answers.{in_the_text}
use Rattle.kom_sysfile.proofs.text.answer.Goals as goal

pub returns-in-Refused : goal.returns-in-Refused
returns-in-Refused c = rw c.refused.ensures (record {
  at = c.in-Refused.at;
  breaks = in_the_text c.in-Refused.rule c.in-Refused.at c.in-Refused.ensures.answer;
  line_is = refl;
  column_is = refl;
})
