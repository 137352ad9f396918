-- The orders of the keys.
use Rattle.std.specs.Prelude.{ℕ}
use Rattle.std.specs.Ordering.{nat_cmp, int_cmp, on, then_cmp}
use Rattle.std.specs.Cmp.{IsTotalOrder, nat_cmp_total, int_cmp_total, on_total, then_total}
use Rattle.std.specs.declared.cmp.Ordering.{Ordering}
use Rattle.kom_base.specs.declared.numbers.EntryNo.{EntryNo}
use Rattle.kom_env.specs.declared.keys.Due.{Due}
use Rattle.kom_env.specs.declared.keys.Place.{Place}
use Rattle.kom_env.specs.declared.keys.Tag.{Tag}

abbrev pub first_no : EntryNo
first_no = record { position = 0; place = 0 }

abbrev pub number_cmp : EntryNo → EntryNo → Ordering
number_cmp = then_cmp (on (λ n. n.position) nat_cmp) (on (λ n. n.place) nat_cmp)

abbrev pub place_cmp : Place → Place → Ordering
place_cmp = then_cmp (on (λ p. p.time) nat_cmp) (on (λ p. p.rank) nat_cmp)

abbrev pub due_cmp : Due → Due → Ordering
due_cmp = then_cmp (on (λ d. d.time) nat_cmp) (on (λ d. d.no) number_cmp)

abbrev pub tag_cmp : Tag → Tag → Ordering
tag_cmp = then_cmp (on (λ t. t.chan) nat_cmp) (then_cmp (on (λ t. t.id) int_cmp) (on (λ t. t.no) number_cmp))

pub number_total : IsTotalOrder number_cmp
number_total = then_total (on_total (λ (n : EntryNo). n.position) nat_cmp_total) (on_total (λ (n : EntryNo). n.place) nat_cmp_total)

pub place_total : IsTotalOrder place_cmp
place_total = then_total (on_total (λ (p : Place). p.time) nat_cmp_total) (on_total (λ (p : Place). p.rank) nat_cmp_total)

pub due_total : IsTotalOrder due_cmp
due_total = then_total (on_total (λ (d : Due). d.time) nat_cmp_total) (on_total (λ (d : Due). d.no) number_total)

pub tag_total : IsTotalOrder tag_cmp
tag_total = then_total (on_total (λ (t : Tag). t.chan) nat_cmp_total) (then_total (on_total (λ (t : Tag). t.id) int_cmp_total) (on_total (λ (t : Tag). t.no) number_total))
