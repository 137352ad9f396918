use Rattle.std.proofs.Common.{refl, lit<, lit≤}
use Rattle.kom_record.specs.Model.{model}
use Rattle.kom_record.specs.Plans.{comes_in_at}
use Rattle.kom_record.specs.Answers.{wakes}
use Rattle.kom_rows.specs.Facts.{MovedWakes, DidWakes, PlanOfReplacement, JobOfReplacement}

pub moved_wakes : MovedWakes
unfolding model wakes
moved_wakes = refl

pub did_wakes : DidWakes
unfolding model wakes
did_wakes = refl

pub plan_fits : PlanOfReplacement
unfolding comes_in_at
plan_fits = record {
  some_step = lit≤ tt;
  steps = lit≤ tt;
  some_instant = lit≤ tt;
  instants = lit≤ tt;
  pair = lit≤ tt;
  greatest = lit≤ tt;
  raises = lit≤ tt;
  in_order = refl;
  times = refl;
  come_in = refl;
}

pub job_is_well_formed : JobOfReplacement
unfolding model
job_is_well_formed = (
  _,
  refl,
  record {
    kind = lit< tt;
    vars = refl;
    slots = refl;
    wires = refl;
    subs = refl;
    children = refl;
    places = refl;
    some_depth = lit≤ tt;
    depth = lit≤ tt;
    fitting = refl;
  },
)
