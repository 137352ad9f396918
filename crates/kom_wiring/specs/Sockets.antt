-- The order of the sockets, and which of them a wiring has.
use Rattle.std.specs.Prelude.{◌≡◌, ℕ, Option, Some, None}
use Rattle.std.proofs.Common.{refl}
use Rattle.std.specs.Ordering.{nat_cmp, on, then_cmp, ordering_reverse}
use Rattle.std.specs.Cmp.{IsTotalOrder, nat_cmp_total, on_total, then_total}
use Rattle.std.specs.declared.cmp.Ordering.{Ordering}
use Rattle.std.specs.declared.cmp.Ordering.TheVariants.{Less, Equal, Greater}
use Rattle.kom_base.specs.declared.numbers.Dir.{Dir}
use Rattle.kom_base.specs.declared.numbers.Dir.TheVariants.{Plus, Minus}
use Rattle.kom_base.specs.declared.numbers.Side.{Side}
use Rattle.kom_base.specs.declared.numbers.Side.TheVariants.{Outside, Inside}
use Rattle.kom_base.specs.declared.numbers.Half.{Half}
use Rattle.kom_wiring.specs.declared.socket.Socket.{Socket}

abbrev pub side_index : Side → ℕ
side_index Outside = 0
side_index Inside = 1

abbrev pub dir_index : Dir → ℕ
dir_index Plus = 0
dir_index Minus = 1

-- by component, port and side
abbrev pub half_cmp : Half → Half → Ordering
half_cmp = then_cmp (on (λ h. h.comp) nat_cmp) (then_cmp (on (λ h. h.port) nat_cmp) (on (λ h. side_index h.side) nat_cmp))

-- what is free before what is plugged
abbrev pub place_cmp : Option Half → Option Half → Ordering
place_cmp None None = Equal
place_cmp None (Some k) = Less
place_cmp (Some h) None = Greater
place_cmp (Some h) (Some k) = half_cmp h k

-- by place, then channel, then end
abbrev pub socket_cmp : Socket → Socket → Ordering
socket_cmp = then_cmp (on (λ s. s.at) place_cmp) (then_cmp (on (λ s. s.chan) nat_cmp) (on (λ s. dir_index s.end) nat_cmp))

pub half_total : IsTotalOrder half_cmp
half_total = then_total (on_total (λ (h : Half). h.comp) nat_cmp_total) (then_total (on_total (λ (h : Half). h.port) nat_cmp_total) (on_total (λ (h : Half). side_index h.side) nat_cmp_total))

place_antisymm : (p q : Option Half) → place_cmp p q ≡ ordering_reverse (place_cmp q p)
place_antisymm None None = refl
place_antisymm None (Some k) = refl
place_antisymm (Some h) None = refl
place_antisymm (Some h) (Some k) = half_total.antisymm h k

place_trans : (p q r : Option Half) → place_cmp p q ≡ Less → place_cmp q r ≡ Less → place_cmp p r ≡ Less
place_trans None None r a b = b
place_trans None (Some k) None a b = absurd (cc)
place_trans None (Some k) (Some l) a b = refl
place_trans (Some h) None r a b = absurd (cc)
place_trans (Some h) (Some k) None a b = absurd (cc)
place_trans (Some h) (Some k) (Some l) a b = half_total.trans h k l a b

place_congr : (p q r : Option Half) → place_cmp p q ≡ Equal → place_cmp p r ≡ place_cmp q r
place_congr None None r a = refl
place_congr None (Some k) r a = absurd (cc)
place_congr (Some h) None r a = absurd (cc)
place_congr (Some h) (Some k) None a = refl
place_congr (Some h) (Some k) (Some l) a = half_total.congr h k l a

pub place_total : IsTotalOrder place_cmp
place_total = record { antisymm = place_antisymm; trans = place_trans; congr = place_congr }

pub socket_total : IsTotalOrder socket_cmp
socket_total = then_total (on_total (λ (s : Socket). s.at) place_total) (then_total (on_total (λ (s : Socket). s.chan) nat_cmp_total) (on_total (λ (s : Socket). dir_index s.end) nat_cmp_total))
