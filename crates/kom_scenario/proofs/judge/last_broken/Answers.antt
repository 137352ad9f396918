use Rattle.std.proofs.Common.{[], None, sym, ◌∙◌, ap}
use Rattle.kom_scenario.specs.Rules.{first_place, late_from, broken_at}
use Rattle.kom_scenario.proofs.Soundness.{fine, sources_sound, broken_last}
use Rattle.kom_scenario.proofs.judge.last_broken.Goals as goal

pub scene_of-requires-clause-settings : goal.scene_of-requires-clause-settings
scene_of-requires-clause-settings c = (fine c.args.known.now.system.now c.args.tree.now c.requires.unbroken).settings

pub scene_of-requires-clause-sources : goal.scene_of-requires-clause-sources
scene_of-requires-clause-sources c = (fine c.args.known.now.system.now c.args.tree.now c.requires.unbroken).sources

pub late-requires-clause-sound : goal.late-requires-clause-sound
late-requires-clause-sound c =
    let s = c.args.known.now.system.now in
    let t = c.args.tree.now in
    rw (c.as_slice-2.ensures ∙ ap (λ z. z.sources) c.in_ok-scene.ensures) (sources_sound s t.sources t.sources (fine s t c.requires.unbroken).sources)

pub returns-in-Some : goal.returns-in-Some
returns-in-Some c =
    let s = c.args.known.now.system.now in
    let t = c.args.tree.now in
    let same = c.as_slice-2.ensures ∙ ap (λ z. z.sources) c.in_ok-scene.ensures in
    let place = ap (λ xs. first_place (late_from [] t.sources xs)) (sym same) ∙ ap (λ xs. first_place (late_from [] xs c.as_slice-2.result.now)) (sym c.as_slice.ensures) ∙ sym c.in_ok-place.ensures in
    broken_last s t c.in_ok-place.place c.requires.unbroken place ∙ ap (λ o. broken_at 12 o None) c.in-Some.is

pub returns-in-None : goal.returns-in-None
returns-in-None c =
    let s = c.args.known.now.system.now in
    let t = c.args.tree.now in
    let same = c.as_slice-2.ensures ∙ ap (λ z. z.sources) c.in_ok-scene.ensures in
    let place = ap (λ xs. first_place (late_from [] t.sources xs)) (sym same) ∙ ap (λ xs. first_place (late_from [] xs c.as_slice-2.result.now)) (sym c.as_slice.ensures) ∙ sym c.in_ok-place.ensures in
    (broken_last s t c.in_ok-place.place c.requires.unbroken place ∙ ap (λ o. broken_at 12 o None) c.in-None.is, c.in_ok-scene.ensures)
