-- Where the releases of a batch are, and how many there can be.
use Rattle.std.specs.Prelude.{◌≡◌, ◌≤◌, ℕ, true, List, length}
use Rattle.std.specs.List.{sum_by}
use Rattle.kom_lang.specs.Declarations.{Declarations}
use Rattle.kom_offered.specs.Laws.{are_at_ports}
use Rattle.kom_record.specs.declared.plan.Plan.{Plan}
use Rattle.kom_record.specs.declared.entry.Release.{Release}
use Rattle.kom_record.specs.declared.entry.Entry.TheVariants.{Moved}
use Rattle.kom_record.specs.Entries.{History}
use Rattle.kom_record.specs.Legal.{IsLegal}
use Rattle.kom_record.specs.Plans.{PlanFits}
use Rattle.kom_record.specs.Queues.{entering}
use Rattle.kom_record.specs.Ready.{directions, out, queued}
use Rattle.kom_record.specs.Time.{batch}
use Rattle.kom_system.specs.WellFormed.{IsDeclared}

-- raises are at ports of the root, and what went out went out by one
abbrev pub BatchesAreAtPorts : Type 0
BatchesAreAtPorts = (S : Declarations) (Z : Plan) (P : History) (t : ℕ) → PlanFits S Z → are_at_ports S (batch S Z P t) ≡ true

-- the raises of the plan, and at most two for each event that went out
abbrev pub BatchesAreShort : Type 0
BatchesAreShort = (S : Declarations) (Z : Plan) (P : History) (t : ℕ) → PlanFits S Z → IsLegal S Z P → length (batch S Z P t) ≤ 2007000000

-- each release comes into one direction of one channel
abbrev pub ReleasesAreCounted : Type 0
ReleasesAreCounted = (S : Declarations) (P : History) (w t : ℕ) (released : List Release) → are_at_ports S released ≡ true
    → sum_by (λ x. length (entering S P (Moved w t released) x.0 x.1)) (directions S P) ≡ length released

-- an offer enters each direction at most once
abbrev pub QueuesAreShort : Type 0
QueuesAreShort = (S : Declarations) (Z : Plan) (P : History) → IsDeclared S → PlanFits S Z → IsLegal S Z P → queued S P ≤ 100000000000000000

-- so does one that goes out
abbrev pub OutsAreShort : Type 0
OutsAreShort = (S : Declarations) (Z : Plan) (P : History) → IsDeclared S → PlanFits S Z → IsLegal S Z P → out S P ≤ 100000000000000000
