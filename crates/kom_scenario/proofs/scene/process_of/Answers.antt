use Rattle.std.proofs.Common.{refl}
use Rattle.kom_scenario.proofs.scene.process_of.Goals as goal

pub returns : goal.returns
returns c = λ all known. rw (c.start_of.ensures c.args.known.now.system.now all known, c.few.ensures, c.short.ensures, c.short-2.ensures, c.in_ok-raising.ensures) refl
