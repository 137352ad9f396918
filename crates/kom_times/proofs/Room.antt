-- Calls of the environment do not depend on its room.
use Rattle.std.proofs.Common.{◌≡◌, ℕ, Bool, true, false, if◌then◌else◌, refl, sym, ap, ◌∙◌, List, [], ◌∷◌, ◌++◌, Some}
use Rattle.std.specs.Prelude.{◌==◌}
use Rattle.kom_base.specs.declared.numbers.EntryNo.{EntryNo}
use Rattle.kom_base.specs.declared.values.Event.{Event}
use Rattle.kom_record.specs.Time.{Scheduled, Outgoing}
use Rattle.kom_env.specs.declared.service.Service.{Service}
use Rattle.kom_env.specs.declared.service.Service.TheVariants.{Timer, Network, Nothing}
use Rattle.kom_env.specs.Outside.{Outside, absorbed, serve, service_at, clock_of, moved_on}
use Rattle.kom_times.specs.Following.{with_all, IsButForRoom}

abbrev pub with_room : ℕ → Outside → Outside
with_room n v = record v { spare = n }

timer_room : (a b : Bool) (v : Outside) (n : ℕ) (one two : List Scheduled)
    → (if a then record (with_room n v) { waits = one } else if b then record (with_room n v) { waits = two } else with_room n v)
    ≡ with_room n (if a then record v { waits = one } else if b then record v { waits = two } else v)
timer_room true b v n one two = refl
timer_room false true v n one two = refl
timer_room false false v n one two = refl

serve_room : (s : Service) (v : Outside) (n : ℕ) (o : Outgoing) → serve s (with_room n v) o ≡ with_room n (serve s v o)
serve_room Timer v n o = timer_room (o.event.kind == 0) (o.event.kind == 1) v n _ _
serve_room Network v n o = refl
serve_room Nothing v n o = refl

pub absorbed_room : (v : Outside) (n x : ℕ) (m : EntryNo) (event : Event) → absorbed (with_room n v) x m event ≡ with_room n (absorbed v x m event)
absorbed_room v n x m event =
    ap {A = Outside} {B = Outside} (λ u. record u { latest = Some m }) (serve_room (service_at v x) v n (record { no = m; chan = x; event = event; at = clock_of v }))

pub all_append : (v : Outside) (os ps : List Outgoing) → with_all v (os ++ ps) ≡ with_all (with_all v os) ps
all_append v [] ps = refl
all_append v (o ∷ os) ps = all_append (absorbed v o.chan o.no o.event) os ps

pub absorbs : (c v u : Outside) (gone : List Outgoing) (o : Outgoing) → IsButForRoom (with_all c gone) v → IsButForRoom (absorbed v o.chan o.no o.event) u → IsButForRoom (with_all c (gone ++ o ∷ [])) u
absorbs c v u gone o h k =
    k
    ∙ ap (λ z. with_room u.spare (absorbed z o.chan o.no o.event)) h
    ∙ ap (with_room u.spare) (absorbed_room (with_all c gone) v.spare o.chan o.no o.event)
    ∙ ap (with_room u.spare) (sym (all_append c gone (o ∷ [])))

pub moves : (c v u : Outside) → IsButForRoom c v → IsButForRoom (moved_on v) u → IsButForRoom (moved_on c) u
moves c v u h k = k ∙ ap (λ z. with_room u.spare (moved_on z)) h
