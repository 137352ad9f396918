-- Histories, and what a worker has of one.
use Rattle.std.specs.Prelude.{◌≡◌, ℕ, ◌==◌, ◌++◌, Option, Some, None}
use Rattle.std.specs.Option.{option_map}
use Rattle.kom_lang.specs.declared.body.Body.{Body}
use Rattle.kom_record.specs.Bodies.{body_at}
use Rattle.std.specs.List.{find}
use Rattle.kom_system.specs.declared.system.System.{System}
use Rattle.kom_record.specs.declared.plan.Plan.{Plan}
use Rattle.kom_record.specs.Entries.{History, TakenJob, in_hand}
use Rattle.kom_exchange.specs.declared.view.About.{About}

-- the first is the second with newer entries
abbrev pub IsLater : History → History → Type 0
IsLater after before = (newer : History) × (after ≡ newer ++ before)

abbrev pub Abouts : Type 0
Abouts = Option About

abbrev pub about_of : {T : Type 0} → (T → System) → (T → Plan) → T → Abouts
about_of system plan x = let a : About = record { system = system x; plan = plan x } in Some a

-- the job of w that is in hand, with its component's body
abbrev pub hand_of : Abouts → ℕ → History → Option (TakenJob × Option Body)
hand_of None w P = None
hand_of (Some a) w P = option_map (λ h. (h, body_at a.system.declarations P h.c)) (find (λ h. h.w == w) (in_hand P))
