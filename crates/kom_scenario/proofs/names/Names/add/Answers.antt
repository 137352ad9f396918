use Rattle.std.proofs.Common.{◌≡◌, Some, None, false, true, sym, ◌∙◌, ap, if◌then◌else◌}
use Rattle.std.specs.Prelude.{is_some, bytes_eq}
use Rattle.kom_base.specs.Lists.{either}
use Rattle.kom_scenario.specs.Names.{listed, found}
use Rattle.kom_scenario.proofs.Looking.{found_lookup, found_insert, found_there}
use Rattle.kom_scenario.proofs.names.Names.add.Goals as goal

pub returns-in_ok-insert : goal.returns-in_ok-insert
returns-in_ok-insert c =
    let es = c.self.inside.map.entries in
    let absent : is_some (found (listed es) c.args.name.now) ≡ false = ap is_some (found_lookup es c.args.name.now) ∙ sym c.contains_key.ensures ∙ c.if-not-contains_key.true in
    λ q. ap (λ es. found (listed es) q) c.in_ok-insert.ensures.entries ∙ found_insert es c.args.name c.args.number absent q
    ∙ ap (λ m. either (found m q) (if bytes_eq q c.args.name.now then Some c.args.number else None)) c.self.view_is

pub returns-else-not-contains_key : goal.returns-else-not-contains_key
returns-else-not-contains_key c =
    let es = c.self.inside.map.entries in
    let there : is_some (found c.args.self.now c.args.name.now) ≡ true =
    ap (λ m. is_some (found m c.args.name.now)) (sym c.self.view_is) ∙ ap is_some (found_lookup es c.args.name.now) ∙ sym c.contains_key.ensures ∙ c.if-not-contains_key.false in
    λ q. found_there c.args.self.now c.args.name.now c.args.number there q
