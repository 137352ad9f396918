use Rattle.std.proofs.Common.{rules, sym, ap, subst, ◌∙◌, ◌∷◌, Some}
use Rattle.kom_exchange.specs.Later.{about_of}
use Rattle.kom_exchange.specs.declared.view.View.{View}
use Rattle.kom_exchange.specs.Calls.{Grows}
use Rattle.atomic_table.specs.Table.{rest}
use Rattle.kom_exchange.proofs.Steps.{counts, passes}
use Rattle.kom_exchange.proofs.exchange.Exchange.leave.Goals as goal

pub fetch_add-requires : goal.fetch_add-requires
fetch_add-requires g c = let x = c.args.station in let p = c.requires.place in let e = c.exchange.ensures.3 in let turn = p.1 in let same = ap (λ m. m.0) e in
    let carries = ap (λ m. m.1) e ∙ (λ k. (0, Some x) ∷ ap rest p.2 k) in (
      search rules,
      search rules,
      counts g.T.StandsFor.history (about_of g.T.StandsFor.system g.T.StandsFor.plan) _ _ _ _ c.exchange.new.seat.me x turn.0.0 c.args.added (ap (λ (v : View). v.stage) same ∙ turn.0.1) (ap (λ (v : View). v.spent) same ∙ turn.1) carries
          (subst (λ (v : View). Grows v.own.about v.own.number c.args.added v.own.seen (g.T.StandsFor.history x)) (sym same) c.requires.station.1),
    )

pub fetch_add-requires-2 : goal.fetch_add-requires-2
fetch_add-requires-2 g c = let x = c.args.station in let p = c.requires.place in let e = c.exchange.ensures.3 in let turn = p.1 in let same = ap (λ m. m.0) e in
    let carries = ap (λ m. m.1) e ∙ (λ k. (0, Some x) ∷ ap rest p.2 k) in let did = c.fetch_add.ensures.2 x carries in (
      search rules,
      search rules,
      passes g.T.StandsFor.history (about_of g.T.StandsFor.system g.T.StandsFor.plan) _ _ _ _ c.fetch_add.new.seat.me x turn.0.0 (ap (λ (v : View). v.stage) did.0 ∙ (ap (λ (v : View). v.stage) same ∙ turn.0.1))
          (ap (λ (v : View). v.spent) did.0 ∙ (ap (λ (v : View). v.spent) same ∙ turn.1)) (did.1 ∙ carries) (ap (λ (v : View). v.own.seen) (sym did.0))
          (c.requires.station.0 ∙ ap (λ (v : View). v.own.about) (sym same) ∙ ap (λ (v : View). v.own.about) (sym did.0)),
    )
