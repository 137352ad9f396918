use Rattle.std.proofs.Common.{◌&&◌, ◌==◌, [], ◌∷◌, ◌++◌, refl, ap, ◌∙◌}
use Rattle.std.proofs.lemmas.Result.{on_ok_weaker}
use Rattle.kom_base.specs.Lists.{if_so}
use Rattle.kom_base.specs.Numbers.{same_dir}
use Rattle.kom_entering.specs.Lists.{numbers_into}
use Rattle.kom_entering.proofs.Noting.{came_one}
use Rattle.kom_entering.proofs.lists.Entering.come.Goals as goal

pub returns : goal.returns
returns c = on_ok_weaker c.push.result (λ e. record {
  position = refl;
  offers = refl;
  goings = refl;
  unreached = refl;
  comings = λ y d.
      ap (λ qs. numbers_into qs y d) e
      ∙ came_one c.args.self.now.comings (record { chan = c.args.x; dir = c.args.d; no = c.number-no.result }) y d
      ∙ ap (λ n. numbers_into c.args.self.now.comings y d ++ if_so (c.args.x == y && same_dir c.args.d d) (n ∷ [])) c.number-no.ensures;
}) c.push.ensures.ok
