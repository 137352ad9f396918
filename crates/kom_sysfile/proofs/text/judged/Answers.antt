use Rattle.std.proofs.Common.{refl}
use Rattle.kom_sysfile.specs.Answers.{in_the_tree}
use Rattle.kom_sysfile.proofs.Exact.{has_version}
use Rattle.kom_sysfile.proofs.text.judged.Goals as goal

pub check-requires : goal.check-requires
check-requires c = let version = has_version c.args.text.now c.args.tree.now c.requires.spelled in record { low = version.0; high = version.1 }

pub returns-in-System : goal.returns-in-System
returns-in-System c = record {
  tree = c.args.tree.now;
  spelled = c.requires.spelled;
  unbroken = (rw c.in-System.is at c.check.ensures).0;
  value = (rw c.in-System.is at c.check.ensures).1;
}

pub returns-in-Rule : goal.returns-in-Rule
returns-in-Rule c = rw c.refused.ensures (record {
  at = c.in-Rule.at;
  breaks = in_the_tree c.in-Rule.number c.in-Rule.at c.args.tree.now c.requires.spelled (rw c.in-Rule.is at c.check.ensures);
  line_is = refl;
  column_is = refl;
})
