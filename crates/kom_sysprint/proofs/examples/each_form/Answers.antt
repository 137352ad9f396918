use Rattle.kom_sysprint.proofs.ExamplesShown.{each_form_shown}
use Rattle.kom_sysprint.proofs.examples.each_form.Goals as goal

pub returns : goal.returns
returns c = each_form_shown
