use Rattle.std.proofs.Common.{ap, ◌∙◌, sym, subst, List, [], ◌∷◌, ◌++◌, Some, length}
use Rattle.std.specs.Prelude.{Option}
use Rattle.atomic_table.specs.Table.{opening}
use Rattle.kom_exchange.specs.Later.{about_of}
use Rattle.kom_exchange.specs.Rule.{Kept, first_view}
use Rattle.kom_record.specs.Entries.{in_hand}
use Rattle.kom_exchange.specs.Seats.{AreFresh}
use Rattle.kom_exchange.proofs.Coming.{starts}
use Rattle.kom_exchange.proofs.begin.Exchange+T.begin.Goals as goal

pub new-requires : goal.new-requires
new-requires g c = let x = c.args.station in let given = c.of.result.value in let items = c.push_reserved.ensures.items ∙ ap (λ (l : List (Option g.row.T.Denot)). l ++ Some x ∷ []) c.in-Ok-with_capacity.ensures.items in
    let is = c.of.ensures in let len = c.len-from.ensures ∙ (ap length c.kept.ensures ∙ ap (λ (y : g.row.T.Denot). length (g.T.StandsFor.history y)) (sym is)) in
    subst (λ (l : List (Option g.row.T.Denot)). Kept g.T.StandsFor.history (about_of g.T.StandsFor.system g.T.StandsFor.plan) given c.len-from.result (opening (c.len-from.result ∷ 0 ∷ 0 ∷ []) l (first_view (g.T.StandsFor.history given) ((about_of g.T.StandsFor.system g.T.StandsFor.plan) given)))) (sym items)
    (starts g.T.StandsFor.history (about_of g.T.StandsFor.system g.T.StandsFor.plan) given c.len-from.result x c.len-from.result (sym is) len
    (ap (λ (y : g.row.T.Denot). in_hand (g.T.StandsFor.history y)) is ∙ c.requires.idle) len c.len-from.type_inv)

pub returns-in-Ok-new : goal.returns-in-Ok-new
returns-in-Ok-new g c = let key = ap (λ k. k.given.value) c.in-Ok-new.ensures.ok.5 ∙ c.of.ensures in
    (key, c.number-all.ensures.room, subst (λ (y : g.row.T.Denot). AreFresh c.in-Ok-new.table.shared.table_id (g.T.StandsFor.history y) ((about_of g.T.StandsFor.system g.T.StandsFor.plan) y) c.args.seats c.number-all.result.items) key c.number-all.ensures.fresh)
