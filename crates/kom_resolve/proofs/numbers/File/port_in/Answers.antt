use Rattle.std.proofs.Common.{◌≡◌, ◌∙◌, sym, ap, arith, Some, slice_get, length}
use Rattle.std.specs.Option.{option_copied}
use Rattle.kom_rules.specs.Names.{number_in}
use Rattle.kom_rules.specs.Spaces.{component_names}
use Rattle.kom_resolve.specs.Counted.{has_short_lists}
use Rattle.kom_resolve.proofs.Numbered.{number_within, passes_at, short}
use Rattle.kom_resolve.proofs.numbers.File.port_in.Goals as goal

pub overflow_cast-result : goal.overflow_cast-result
overflow_cast-result c =
    let s = c.args.self.now in
    let part = c.in-Some-find_by.part.now in
    let found = c.find_by.ensures (rw c.as_slice-components.ensures s.tabled.components) in
    let there : slice_get s.parts.now.components (number_in (component_names s.parts.now) c.in-Some.child.kind.name) ≡ Some part =
    sym (rw c.as_slice-components.ensures at found) ∙ ap option_copied c.in-Some-find_by.is in
    let small = short part (passes_at has_short_lists s.parts.now.components (number_in (component_names s.parts.now) c.in-Some.child.kind.name) part s.counted.inside there) in
    omega (arith, small.ports, number_within (λ x. x.name) c.as_slice.result.now c.args.port.now.name, c.number_of.ensures, ap length c.as_slice.ensures)
