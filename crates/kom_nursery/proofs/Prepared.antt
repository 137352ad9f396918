-- What is known where the broods of a handling are made.
use Rattle.std.proofs.Common.{◌≡◌, ℕ, ◌+◌, ◌<◌, refl, sym, ap, ◌∙◌, List, [], ◌∷◌, length, arith}
use Rattle.std.specs.Option.{option_map_or}
use Rattle.std.proofs.lemmas.List.{length-append}
use Rattle.std.proofs.lemmas.Option.{slice_get_within}
use Rattle.kom_lang.specs.Declarations.{Declarations}
use Rattle.kom_lang.specs.declared.body.Effect.{Effect}
use Rattle.kom_lang.specs.declared.body.Effect.TheVariants as effect
use Rattle.kom_record.specs.declared.item.Item.{Item}
use Rattle.kom_record.specs.Entries.{Act, acts}
use Rattle.kom_record.specs.Instances.{Instance, alive, ancestry_of, born}
use Rattle.kom_record.specs.Legal.{IsLegal}
use Rattle.kom_laws.proofs.InstanceLaws.{born_grows, instance_stays}
use Rattle.kom_agree.specs.Effects.{AreMet, IsMet}
use Rattle.kom_agree.proofs.Records.{effects_met}
use Rattle.kom_handlings.proofs.Turns.{bodies_know_their_place}
use Rattle.kom_limits.proofs.Counting.{few_effects, numbers_are_enough}
use Rattle.kom_refine.specs.Points.{act_of}
use Rattle.kom_nursery.specs.Laws.{HandlingsArePrepared}
use Rattle.kom_nursery.specs.Nurseries.{AreCreatable, IsCreatable}

module _ (S : Declarations) (c kind depth : ℕ) (item : Item) where
  one : (done : List Act) (e : Effect) → 1 + length (ancestry_of S (born S done) c) ≡ depth → IsMet S done c kind item e → IsCreatable S depth e
  one done (effect.Create slot k birth) d m = let low = m.depth in (m.kind_is, omega (arith, d, low))
  one done (effect.Trigger p x) d m = tt
  one done (effect.Answer x) d m = tt
  one done (effect.Start s) d m = tt
  one done (effect.Stop s) d m = tt
  one done (effect.Destroy s) d m = tt
  one done (effect.Dump s) d m = tt
  one done (effect.Hold k) d m = tt
  one done (effect.Resume k) d m = tt
  one done (effect.Unplug k f) d m = tt
  one done (effect.Plug k f p) d m = tt
  one done effect.Escalate d m = tt

  same_line : (done : List Act) (a : Act) → c < length (born S done) → 1 + length (ancestry_of S (born S (a ∷ done)) c) ≡ 1 + length (ancestry_of S (born S done) c)
  unfolding ancestry_of
  same_line done a h = ap (λ o. 1 + length (option_map_or (λ (i : Instance). i.ancestry) o [])) (instance_stays S (a ∷ []) done c h)

  later : (done : List Act) (a : Act) → c < length (born S done) → c < length (born S (a ∷ done))
  later done a h = let g = born_grows S (a ∷ []) done in omega (arith, h, ap length g.1, length-append (born S done) g.0)

  all : (done : List Act) (es : List Effect) → c < length (born S done) → 1 + length (ancestry_of S (born S done) c) ≡ depth → AreMet S done c kind item es → AreCreatable S depth es
  all done [] h d m = tt
  all done (e ∷ es) h d m = (one done e d m.0, all (act_of c item e ∷ done) es (later done (act_of c item e) h) (same_line done (act_of c item e) h ∙ d) m.1)

pub handlings_are_prepared : HandlingsArePrepared
unfolding IsLegal
handlings_are_prepared S Z P w c took item body b effects to places D fits l at is =
    let place = bodies_know_their_place S Z P c b D l.0 is in
    let within = slice_get_within (born S (acts P)) c place.instance place.at in
    let met = effects_met S Z D P w c took body effects to places item l at in
    let n = numbers_are_enough S Z P [] D fits l.0 (omega arith) in
    record {
      creatable = all S c body.kind b.depth item (acts P) effects within (sym place.depth) met;
      next = record { created = within; deep = sym place.depth; next = refl };
      some_depth = let d = place.depth in omega (arith, d);
      few = few_effects S Z (alive S (acts P) c) l.1.body l.1.job.item body effects l.1.outcome;
      number = n.instances;
    }
