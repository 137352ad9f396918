-- The order of the fronts.
use Rattle.std.specs.Prelude.{◌≡◌, ℕ, ◌==◌, if◌then◌else◌, Option, Some, None}
use Rattle.std.specs.Option.{option_and_then}
use Rattle.std.proofs.Common.{refl}
use Rattle.std.specs.Ordering.{nat_cmp, on, then_cmp, ordering_reverse}
use Rattle.std.specs.Cmp.{IsTotalOrder, nat_cmp_total, on_total, then_total}
use Rattle.std.specs.declared.cmp.Ordering.{Ordering}
use Rattle.std.specs.declared.cmp.Ordering.TheVariants.{Less, Equal, Greater}
use Rattle.kom_base.specs.declared.numbers.Dir.{Dir}
use Rattle.kom_base.specs.declared.numbers.Dir.TheVariants.{Plus, Minus}
use Rattle.kom_base.specs.declared.numbers.EntryNo.{EntryNo}
use Rattle.kom_queues.specs.declared.front.Arrival.{Arrival}
use Rattle.kom_queues.specs.declared.front.Front.{Front}

abbrev pub dir_index : Dir → ℕ
dir_index Plus = 0
dir_index Minus = 1

abbrev pub number_cmp : EntryNo → EntryNo → Ordering
number_cmp = then_cmp (on (λ n. n.position) nat_cmp) (on (λ n. n.place) nat_cmp)

-- by component, then number
abbrev pub arrival_cmp : Arrival → Arrival → Ordering
arrival_cmp = then_cmp (on (λ a. a.comp) nat_cmp) (on (λ a. a.no) number_cmp)

-- what waits for nobody before what waits
abbrev pub place_cmp : Option Arrival → Option Arrival → Ordering
place_cmp None None = Equal
place_cmp None (Some k) = Less
place_cmp (Some h) None = Greater
place_cmp (Some h) (Some k) = arrival_cmp h k

-- by what waits, then channel, then direction
abbrev pub front_cmp : Front → Front → Ordering
front_cmp = then_cmp (on (λ s. s.at) place_cmp) (then_cmp (on (λ s. s.chan) nat_cmp) (on (λ s. dir_index s.dir) nat_cmp))

pub number_total : IsTotalOrder number_cmp
number_total = then_total (on_total (λ (n : EntryNo). n.position) nat_cmp_total) (on_total (λ (n : EntryNo). n.place) nat_cmp_total)

pub arrival_total : IsTotalOrder arrival_cmp
arrival_total = then_total (on_total (λ (a : Arrival). a.comp) nat_cmp_total) (on_total (λ (a : Arrival). a.no) number_total)

place_antisymm : (p q : Option Arrival) → place_cmp p q ≡ ordering_reverse (place_cmp q p)
place_antisymm None None = refl
place_antisymm None (Some k) = refl
place_antisymm (Some h) None = refl
place_antisymm (Some h) (Some k) = arrival_total.antisymm h k

place_trans : (p q r : Option Arrival) → place_cmp p q ≡ Less → place_cmp q r ≡ Less → place_cmp p r ≡ Less
place_trans None None r a b = b
place_trans None (Some k) None a b = absurd (cc)
place_trans None (Some k) (Some l) a b = refl
place_trans (Some h) None r a b = absurd (cc)
place_trans (Some h) (Some k) None a b = absurd (cc)
place_trans (Some h) (Some k) (Some l) a b = arrival_total.trans h k l a b

place_congr : (p q r : Option Arrival) → place_cmp p q ≡ Equal → place_cmp p r ≡ place_cmp q r
place_congr None None r a = refl
place_congr None (Some k) r a = absurd (cc)
place_congr (Some h) None r a = absurd (cc)
place_congr (Some h) (Some k) None a = refl
place_congr (Some h) (Some k) (Some l) a = arrival_total.congr h k l a

pub place_total : IsTotalOrder place_cmp
place_total = record { antisymm = place_antisymm; trans = place_trans; congr = place_congr }

pub front_total : IsTotalOrder front_cmp
front_total = then_total (on_total (λ (s : Front). s.at) place_total) (then_total (on_total (λ (s : Front). s.chan) nat_cmp_total) (on_total (λ (s : Front). dir_index s.dir) nat_cmp_total))

abbrev pub front_of : Option Arrival → ℕ → Dir → Front
front_of at x d = record { at = at; chan = x; dir = d }

-- the channel, direction and number of a front that waits for c
abbrev pub waits_for : Front → ℕ → Option (ℕ × Dir × EntryNo)
waits_for f c = option_and_then (λ a. if a.comp == c then Some (f.chan, f.dir, a.no) else None) f.at
