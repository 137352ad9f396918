-- What the entry of a handling that ended raises.
use Rattle.std.proofs.Common.{◌≡◌, ℕ, Bool, true, false, if◌then◌else◌, ◌&&◌, refl, sym, ap, ◌∙◌, Option, Some, None}
use Rattle.std.specs.Prelude.{is_none, is_some}
use Rattle.std.specs.List.{list_any}
use Rattle.std.specs.Option.{option_map, option_and_then}
use Rattle.kom_lang.specs.Steps.{is_escalate}
use Rattle.kom_record.specs.Bodies.{nearest}
use Rattle.kom_record.specs.Controls.{fault_in, raised, told}
use Rattle.kom_record.specs.Entries.{item_at}
use Rattle.kom_record.specs.Ready.{is_unhandled}
use Rattle.kom_raised.specs.Raised.{DonesAreTold, is_raised}

some_if : (b : Bool) (o : Option ℕ) → is_some (if b then o else None) ≡ (is_some o && b)
some_if true None = refl
some_if true (Some n) = refl
some_if false None = refl
some_if false (Some n) = refl

pub dones : DonesAreTold
unfolding told is_unhandled raised
dones S P w c took item body effects to places near at is =
    let r : is_some (if list_any is_escalate effects then option_and_then fault_in (item_at P took) else None) ≡ is_raised item effects =
    ap (λ o. is_some (if list_any is_escalate effects then option_and_then fault_in o else None)) at ∙ some_if (list_any is_escalate effects) (fault_in item)
    in
    record {
      told_is = ap (λ b. if b then option_map (λ q. q.0) (nearest S P c) else None) r ∙ ap (λ o. if is_raised item effects then option_map (λ q. q.0) o else None) (sym is);
      unhandled = ap (λ b. b && is_none (nearest S P c)) r ∙ ap (λ o. is_raised item effects && is_none o) (sym is);
    }
