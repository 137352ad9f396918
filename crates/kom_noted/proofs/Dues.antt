-- What is known of the state where the end of a handling is noted.
use Rattle.std.proofs.Common.{◌≡◌, ◌==◌, ℕ, ◌≤◌, refl, sym, ap, ◌∙◌, subst, List, ◌∷◌, Option, Some, arith}
use Rattle.kom_lang.specs.declared.body.Body.{Body}
use Rattle.kom_lang.specs.declared.body.Effect.{Effect}
use Rattle.kom_record.specs.declared.item.Item.{Item}
use Rattle.kom_record.specs.declared.entry.Entry.{Entry}
use Rattle.kom_record.specs.Answers.{job_of}
use Rattle.kom_record.specs.Entries.{TakenJob, acts, in_hand, item_at}
use Rattle.kom_laws.proofs.ActLaws.{job_item}
use Rattle.kom_laws.proofs.Handlings.{found_in}
use Rattle.kom_entering.specs.declared.lists.Entering.{Entering}
use Rattle.kom_births.specs.declared.seed.Seed.{Seed}
use Rattle.kom_state.specs.Laws.{ChannelsAreNumbered}
use Rattle.kom_state.specs.Parts.{state_of}
use Rattle.kom_doing.specs.Laws.{Ending}
use Rattle.kom_waits.specs.Laws.{QueuedIsBelow}
use Rattle.kom_waits.specs.Waits.{waits_below}
use Rattle.kom_turns.specs.declared.run.Run.{Run}
use Rattle.kom_turns.specs.Runs.{history_of, system_of}
use Rattle.kom_commits.specs.Acting.{StartsAt}
use Rattle.kom_commits.specs.Counted.{waits_in_all}
use Rattle.kom_system.specs.WellFormed.{IsDeclared}
use Rattle.kom_record.specs.declared.entry.Outcome.TheVariants as outcome
use Rattle.kom_record.specs.Legal.{IsLegal}
use Rattle.kom_record.specs.Time.{outgoing_of}
use Rattle.kom_batches.specs.Laws.{QueuesAreShort}
use Rattle.kom_dones.specs.Dones.{done_by}
use Rattle.kom_entering.specs.declared.lists.Going.{Going}
use Rattle.kom_env.specs.Outside.{Outside}
use Rattle.kom_going.specs.Going.{AreToGo}
use Rattle.kom_times.specs.Following.{Follows, FollowsWith, come_to}
use Rattle.kom_noted.specs.Noting.{IsToNote}

module _ (w c : ℕ) (item : Item) (told : Option (ℕ × ℕ)) (body : Body) (es : List Effect) (entering : Entering) (broods : List (List Seed)) (did : Entry) (hand : TakenJob) (old : Body) (to : Option ℕ) (places : List ℕ) (v : Run)
    (t : IsToNote w c item told body es entering broods did hand old to places v) where
  abbrev pub ending : Ending
  ending = record { plan = v.env.plan; before = history_of v; worker = w; took = hand.took; body = body; to = to; places = places }

  taken : item_at (history_of v) hand.took ≡ Some item
  unfolding job_of
  taken = job_item (history_of v) hand (found_in (λ j. j.w == w) (in_hand (history_of v)) hand t.due.found).0 ∙ ap Some t.item_is

  pub starts : StartsAt (system_of v) c item told body es entering broods v.state ending
  starts = record {
    body_is = refl;
    legal = t.legal;
    taken = taken;
    stands = t.stands.state;
    numbers = t.stands.numbers;
    entering_is = t.entering_is;
    broods_are = t.broods_are;
    told_is = t.due.near_is;
  }

  pub waits : QueuedIsBelow → ChannelsAreNumbered → v.counts.queued ≡ waits_in_all v.state
  waits law numbered =
      t.stands.counts_are.queued_are ∙ law (system_of v) (history_of v) (state_of v.state) t.stands.state
      ∙ ap (waits_below (state_of v.state)) (numbered (system_of v) (acts (history_of v)) v.state t.stands.numbers t.stands.state.nodes).counted

  pub short : QueuesAreShort → IsDeclared (system_of v) → v.counts.queued ≤ 100000000000000000
  short law D = let a = law (system_of v) v.env.plan (history_of v) D t.stands.fits t.stands.legal in let b = t.stands.counts_are.queued_are in omega (arith, a, b)

  module _ (n : Run) (history : history_of n ≡ did ∷ history_of v) (env : n.env ≡ v.env) where
    pub added : history_of n ≡ done_by w c hand body es to places ∷ history_of v
    added = history ∙ ap (λ e. e ∷ history_of v) t.did_is

    pub to_go : IsDeclared (system_of v) → (goings : List Going) → goings ≡ entering.goings → AreToGo (system_of v) v.env.plan (history_of n) goings n.env
    to_go D goings same = record {
      earlier = history_of v;
      w = w;
      c = c;
      took = hand.took;
      outcome = outcome.Done body es;
      to = to;
      places = places;
      record_is = added;
      declared = D;
      fits = t.stands.fits;
      legal = subst (λ R. IsLegal (system_of v) v.env.plan R) (sym added) t.legal;
      goings_are = same ∙ t.entering_is.goings;
      follows = subst (λ o. Follows (system_of v) v.env.plan (history_of v) o) (sym env) t.stands.outside;
    }

    pub followed : (u : Outside) → Follows (system_of v) v.env.plan (history_of n) u → FollowsWith (system_of v) v.env.plan (history_of v) (outgoing_of (system_of v) (history_of v) (done_by w c hand body es to places)) u
    unfolding come_to
    followed u f = subst (λ R. Follows (system_of v) v.env.plan R u) added f
