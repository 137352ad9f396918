use Rattle.std.proofs.Common.{◌≡◌, ◌∙◌, length, refl}
use Rattle.kom_rules.specs.Spaces.{event_rows}
use Rattle.kom_tables.specs.Ancestry.{parents_in}
use Rattle.kom_ancestors.specs.Far.{LeadsFar}
use Rattle.kom_ancestors.proofs.Rounds.{marked_is_on_cycle, as_many}
use Rattle.kom_ancestors.proofs.ancestors.on_cycles.Goals as goal

pub returns : goal.returns
returns c k h =
    let rows = event_rows c.args.parts.now in
    let far : LeadsFar c.in_ok-far.far (parents_in rows) = rw (c.as_slice-2.ensures, c.in_ok-parents.ensures) at c.in_ok-far.ensures in
    let many : length c.in_ok-far.far ≡ length rows = as_many rows (parents_in rows) c.in_ok-far.far refl far in
    (rw c.as_slice-3.ensures at c.in_ok-marks.ensures) k (rw many h) ∙ marked_is_on_cycle rows c.in_ok-far.far k far h
