-- What the parts of the environment mean, and what holds of them.
use Rattle.std.specs.Prelude.{◌≡◌, ℕ, ◌+◌, ◌*◌, ◌≤◌, min, false, List, [], ◌∷◌, map, Option, Some, None, unwrap_or}
use Rattle.std.specs.Ordering.{is_lt}
use Rattle.kom_base.specs.declared.numbers.EntryNo.{EntryNo}
use Rattle.kom_index.specs.Entries.{AllKeys}
use Rattle.kom_record.specs.declared.plan.Raise.{Raise}
use Rattle.kom_env.specs.declared.agenda.Wait.{Wait}
use Rattle.kom_env.specs.declared.env.Env.TheInside.{Inside}
use Rattle.kom_env.specs.Keys.{number_cmp}
use Rattle.kom_env.specs.Outside.{Outside}
use Rattle.kom_env.specs.Waiting.{scheduled}

abbrev pub outside_of : Inside → Outside
outside_of e = record {
  services = e.services.items;
  plan = record e.plan { raises = e.calendar.0 };
  last = e.last;
  waits = map scheduled e.agenda.0;
  latest = e.latest;
  generator = e.generator;
  releases = e.releases;
  spare = min e.agenda.1 e.calendar.1;
}

-- no number is after the latest
abbrev pub AreUpTo : Option EntryNo → List (EntryNo × Wait) → Type 0
AreUpTo None es = es ≡ []
AreUpTo (Some m) es = AllKeys (λ n. is_lt (number_cmp m n) ≡ false) es

abbrev pub AreDueBy : ℕ → List (EntryNo × Wait) → Type 0
AreDueBy t [] = Unit {0}
AreDueBy t (e ∷ es) = (e.1.due ≤ t) × AreDueBy t es

abbrev pub AreRaisedBy : ℕ → List Raise → Type 0
AreRaisedBy t [] = Unit {0}
AreRaisedBy t (r ∷ rs) = (r.time ≤ t) × AreRaisedBy t rs

-- the clock after so many releases: a release goes to the time of a raise, or at most the longest delay on
abbrev pub farthest : ℕ → ℕ
farthest releases = 4611686018427387904 + 1000000000 * releases

pub record IsSound (e : Inside) : Type 0 where
  pub pair : e.plan.lo ≤ e.plan.hi
  pub most : e.plan.hi ≤ 1000000000
  pub raised : AreRaisedBy 4611686018427387904 e.calendar.0
  pub up_to : AreUpTo e.latest e.agenda.0
  pub due_by : AreDueBy (farthest (e.releases + 1)) e.agenda.0
  pub clock : unwrap_or e.last 0 ≤ farthest e.releases
