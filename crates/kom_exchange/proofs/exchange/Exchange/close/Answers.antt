use Rattle.std.proofs.Common.{◌≡◌, ap, ap₂, ◌∙◌, sym, subst, ℕ}
use Rattle.kom_record.specs.Views.{positions}
use Rattle.kom_record.specs.Answers.{job_of}
use Rattle.kom_exchange.specs.Later.{about_of, Abouts, hand_of}
use Rattle.kom_exchange.specs.Rule.{OwnOk}
use Rattle.kom_exchange.specs.Seats.{given_to, view}
use Rattle.kom_exchange.proofs.Coming.{found, ended}
use Rattle.kom_record.specs.Legal.{IsLegal}
use Rattle.kom_system.specs.declared.system.System.{System}
use Rattle.kom_record.specs.declared.plan.Plan.{Plan}
use Rattle.kom_exchange.proofs.Answering.{same_about, same_job, no_hand}
use Rattle.kom_exchange.proofs.Seating.{every_among}
use Rattle.kom_exchange.proofs.exchange.Exchange.close.Goals as goal

pub unreachable-requires : goal.unreachable-requires
unreachable-requires g c = let j = c.gather-place.ensures in
    let e = found g.T.StandsFor.history (about_of g.T.StandsFor.system g.T.StandsFor.plan) _ _ _ _ _ _ _ _ j.live j.stage j.right j.count c.close_with-closed.ensures.values.2 c.take.ensures.value in c.in_default.not-Some e.0 e.1

pub returns-clause-station : goal.returns-clause-station
returns-clause-station g c = let j = c.gather-place.ensures in
    let e = ended g.T.StandsFor.history (about_of g.T.StandsFor.system g.T.StandsFor.plan) _ _ _ _ _ _ _ _ c.in-Some.station j.live j.stage j.right j.count c.close_with-closed.ensures.values.2 c.take.ensures.value c.in-Some.is in
    same_about g.T.StandsFor.system g.T.StandsFor.plan g.T.StandsFor.history c.in-Some.station (given_to c.args.self) e.1

pub returns-clause-legal : goal.returns-clause-legal
returns-clause-legal g c = let st = returns-clause-station g c in
    subst (λ (p : System × Plan). ∥ IsLegal p.0.declarations p.1 (g.T.StandsFor.history c.in-Some.station) ∥₁) (λ k. (st.0 k, st.1 k)) (g.met.T.Station.legal c.in-Some.station)

pub returns-clause-start : goal.returns-clause-start
returns-clause-start g c = let j = c.gather-place.ensures in
    let e = ended g.T.StandsFor.history (about_of g.T.StandsFor.system g.T.StandsFor.plan) _ _ _ _ _ _ _ _ c.in-Some.station j.live j.stage j.right j.count c.close_with-closed.ensures.values.2 c.take.ensures.value c.in-Some.is in
    (c.args.self.from_is ∙ e.0, e.2)

pub returns-clause-seen : goal.returns-clause-seen
returns-clause-seen g c k s at = let j = c.gather-place.ensures in
    let e = ended g.T.StandsFor.history (about_of g.T.StandsFor.system g.T.StandsFor.plan) _ _ _ _ _ _ _ _ c.in-Some.station j.live j.stage j.right j.count c.close_with-closed.ensures.values.2 c.take.ensures.value c.in-Some.is in
    (every_among (OwnOk (g.T.StandsFor.history c.in-Some.station) _ _) _ (view s).own e.3 (j.each k s at)).seen

pub returns-clause-mine : goal.returns-clause-mine
returns-clause-mine g c k s at = let j = c.gather-place.ensures in
    let e = ended g.T.StandsFor.history (about_of g.T.StandsFor.system g.T.StandsFor.plan) _ _ _ _ _ _ _ _ c.in-Some.station j.live j.stage j.right j.count c.close_with-closed.ensures.values.2 c.take.ensures.value c.in-Some.is in
    let o = every_among (OwnOk (g.T.StandsFor.history c.in-Some.station) _ _) _ (view s).own e.3 (j.each k s at) in
    o.complete ∙ ap₂ (λ (w f : ℕ). positions w f (g.T.StandsFor.history c.in-Some.station)) (s.numbered ∙ (c.requires.1 k s at).1) (o.from_is ∙ sym (c.args.self.from_is ∙ e.0))

pub returns-clause-others : goal.returns-clause-others
returns-clause-others g c = let j = c.gather-place.ensures in
    let e = ended g.T.StandsFor.history (about_of g.T.StandsFor.system g.T.StandsFor.plan) _ _ _ _ _ _ _ _ c.in-Some.station j.live j.stage j.right j.count c.close_with-closed.ensures.values.2 c.take.ensures.value c.in-Some.is in
    λ w le. ap (λ (f : ℕ). positions w f (g.T.StandsFor.history c.in-Some.station)) (c.args.self.from_is ∙ e.0) ∙ (e.4 w le).0

pub returns-clause-hands : goal.returns-clause-hands
returns-clause-hands g c k s at = let j = c.gather-place.ensures in let given = given_to c.args.self in
    let e = ended g.T.StandsFor.history (about_of g.T.StandsFor.system g.T.StandsFor.plan) _ _ _ _ _ _ _ _ c.in-Some.station j.live j.stage j.right j.count c.close_with-closed.ensures.values.2 c.take.ensures.value c.in-Some.is in
    let o = every_among (OwnOk (g.T.StandsFor.history c.in-Some.station) _ _) _ (view s).own e.3 (j.each k s at) in
    let number = s.numbered ∙ (c.requires.1 k s at).1 in
    same_job (g.T.StandsFor.system given) (g.T.StandsFor.plan given) k (view s).own.seen (g.T.StandsFor.history c.in-Some.station)
    (subst (λ (w : ℕ). hand_of (about_of g.T.StandsFor.system g.T.StandsFor.plan given) w (view s).own.seen ≡ hand_of (about_of g.T.StandsFor.system g.T.StandsFor.plan given) w (g.T.StandsFor.history c.in-Some.station)) number
    (subst (λ (a : Abouts). hand_of a (view s).own.number (view s).own.seen ≡ hand_of a (view s).own.number (g.T.StandsFor.history c.in-Some.station)) o.about_is o.hand))

pub returns-clause-free : goal.returns-clause-free
returns-clause-free g c = let j = c.gather-place.ensures in let given = given_to c.args.self in
    let e = ended g.T.StandsFor.history (about_of g.T.StandsFor.system g.T.StandsFor.plan) _ _ _ _ _ _ _ _ c.in-Some.station j.live j.stage j.right j.count c.close_with-closed.ensures.values.2 c.take.ensures.value c.in-Some.is in
    λ w le. no_hand (g.T.StandsFor.system given) (g.T.StandsFor.plan given) w (g.T.StandsFor.history c.in-Some.station) (e.4 w le).1
