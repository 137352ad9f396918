use Rattle.std.proofs.Common.{◌≡◌, ◌+◌, ap, ◌∙◌, arith}
use Rattle.std.specs.Prelude.{◌==◌}
use Rattle.kom_numbers.specs.Numbering.{first_of}
use Rattle.kom_numbers.proofs.Ownership.{names_one}
use Rattle.kom_numbers.proofs.numbers.Numbers.channel.Goals as goal

pub returns-clause-names : goal.returns-clause-names
returns-clause-names c = λ x.
    let n = c.args.self.now in
    let e : first_of n c.args.c + c.args.wire ≡ c.first.inside.0 + c.from.result = omega (arith, c.span-first.ensures.first, c.from.ensures, c.first.view_is) in
    names_one n c.args.c c.args.wire x c.requires.declared ∙ ap (λ u. x == u) e
