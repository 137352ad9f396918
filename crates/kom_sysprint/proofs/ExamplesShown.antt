-- The expected texts, by computing.
use Rattle.std.proofs.Common.{refl}
use Rattle.std.specs.Fmt.{digits}
use Rattle.kom_lang.specs.Compute.{computing}
use Rattle.kom_sysprint.specs.Examples.{Smallest, SmallestUpgraded, EachForm}

pub smallest_shown : Smallest
unfolding digits
smallest_shown = refl

pub upgraded_shown : SmallestUpgraded
unfolding digits
upgraded_shown = refl

pub each_form_shown : EachForm
unfolding digits computing
each_form_shown = refl
