use Rattle.std.proofs.Common.{◌≡◌, ◌≤◌, ◌+◌, take}
use Rattle.kom_lang.specs.Declarations.{Declarations}
use Rattle.kom_record.specs.declared.entry.Entry.TheVariants.{Did}
use Rattle.kom_record.specs.declared.plan.Plan.{Plan}
use Rattle.kom_record.specs.Time.{outgoing_of}
use Rattle.kom_times.specs.Following.{FollowsWith}
use Rattle.kom_going.specs.Going.{AreToGo}
use Rattle.kom_going.proofs.going.absorb_all.Given as goal

abbrev pub invariant-loop-going : goal.invariant-loop-going
invariant-loop-going l = record {
  spare : l.fn.env.spare ≤ l.env.spare + l.going-index;
  plan : l.env.plan ≡ l.fn.env.plan;
  follows : (S : Declarations) (Z : Plan) (t : AreToGo S Z l.fn.kept.history l.fn.goings l.fn.env) → FollowsWith S Z t.earlier (take l.going-index (outgoing_of S t.earlier (Did t.w t.c t.took t.outcome t.to t.places))) l.env;
}
