use Rattle.std.proofs.Common.{sym, ◌∙◌}
use Rattle.kom_turns.proofs.Standing.{same_test}
use Rattle.kom_core.proofs.ends.end.Goals as goal

pub end_living-requires-clause-lives : goal.end_living-requires-clause-lives
end_living-requires-clause-lives c =
    let at = c.args.ran.now.job.c in
    same_test _ _ c.requires.run (λ s. sym (s.state.living at) ∙ sym c.alive.ensures ∙ c.if-alive.true)

pub end_void-requires-clause-destroyed : goal.end_void-requires-clause-destroyed
end_void-requires-clause-destroyed c =
    let at = c.args.ran.now.job.c in
    same_test _ _ c.requires.run (λ s. sym (s.state.living at) ∙ sym c.alive.ensures ∙ c.if-alive.false)
