-- One effect of a handling after another.
use Rattle.std.proofs.Common.{◌≡◌, ℕ, ◌+◌, true, refl, sym, ap, ◌∙◌, subst, List, [], ◌∷◌, ◌++◌, length, map, Option, Some, None}
use Rattle.std.specs.Prelude.{reverse, slice_get}
use Rattle.std.specs.Option.{option_map, option_map_or}
use Rattle.std.proofs.lemmas.List.{append_assoc, reverse-append}
use Rattle.kom_lang.specs.Declarations.{Declarations}
use Rattle.kom_lang.specs.declared.body.Effect.{Effect}
use Rattle.kom_record.specs.declared.item.Item.{Item}
use Rattle.kom_record.specs.Entries.{Act, acts, acts_for}
use Rattle.kom_record.specs.Instances.{Instance, alive, ancestry_of, born}
use Rattle.kom_record.specs.Bodies.{body_at}
use Rattle.kom_laws.proofs.Members.{Some-injective}
use Rattle.kom_agree.specs.Effects.{AreMet, IsMet}
use Rattle.kom_agree.proofs.Records.{body_of, effects_met, good}
use Rattle.kom_lives.specs.Living.{StaysAlive}
use Rattle.kom_lives.proofs.Lives.{handler_lives}
use Rattle.kom_handlings.specs.Laws.{BodiesKnowTheirPlace, EffectsComeInTurn, KnowsItsPlace}

module _ (S : Declarations) (c : ℕ) (item : Item) where
  abbrev act : Effect → Act
  act e = record { by = c; item = item; effect = e }

  one_first : (done : List Act) (e : Effect) (es : List Effect) → acts_for c (Some item) es ++ act e ∷ done ≡ acts_for c (Some item) (e ∷ es) ++ done
  one_first done e es =
      sym (append_assoc (reverse (map act es)) (act e ∷ []) done)
      ∙ ap (λ r. r ++ done) (sym (reverse-append (act e ∷ []) (map act es)))

  met_at : (done : List Act) (kind : ℕ) (before : List Effect) (e : Effect) (rest : List Effect) → AreMet S done c kind item (before ++ e ∷ rest) → IsMet S (acts_for c (Some item) before ++ done) c kind item e
  met_at done kind [] e rest m = m.0
  met_at done kind (d ∷ ds) e rest m = subst (λ l. IsMet S l c kind item e) (one_first done d ds) (met_at (act d ∷ done) kind ds e rest m.1)

  lives_at : (done : List Act) (before : List Effect) (e : Effect) (rest : List Effect) → StaysAlive S done c item (before ++ e ∷ rest) → alive S (acts_for c (Some item) before ++ done) c ≡ true
  lives_at done [] e rest h = h.0
  lives_at done (d ∷ ds) e rest h = subst (λ l. alive S l c ≡ true) (one_first done d ds) (lives_at (act d ∷ done) ds e rest h.1)

pub effects_come_in_turn : EffectsComeInTurn
effects_come_in_turn S Z P w c took item body effects before e rest to places D l at f = record {
  lives = lives_at S c item (acts P) before e rest (subst (StaysAlive S (acts P) c item) f (handler_lives S Z P w c took body effects to places item l));
  met = met_at S c item (acts P) body.kind before e rest (subst (AreMet S (acts P) c body.kind item) f (effects_met S Z D P w c took body effects to places item l at));
}

pub bodies_know_their_place : BodiesKnowTheirPlace
unfolding body_at ancestry_of
bodies_know_their_place S Z P c b D l e = go (slice_get (born S (acts P)) c) refl e
  where
    go : (o : Option Instance) → slice_get (born S (acts P)) c ≡ o → option_map (λ i. body_of S P c i) o ≡ Some b → KnowsItsPlace S P c b
    go None g h = absurd cc
    go (Some i) g h =
        let r = good S Z D P l c i g in
        let same : body_of S P c i ≡ b = Some-injective h in
        record {
          instance = i;
          at = g;
          kind = ap (λ x. x.kind) (sym same) ∙ r.kind;
          depth = ap (λ x. x.depth) (sym same) ∙ r.depth ∙ ap (λ o. 1 + length (option_map_or (λ (j : Instance). j.ancestry) o [])) (sym g);
        }
