-- An event type is its own ancestor exactly where many steps lead to it from somewhere.
use Rattle.std.proofs.Common.{◌≡◌, ℕ, zero, suc, ◌+◌, ◌-◌, ◌*◌, ◌<◌, ◌≤◌, Bool, true, false, ◌||◌, List, [], ◌∷◌, length, map, slice_get, Option, Some, None, refl, sym, ap, ◌∙◌, arith, inl, inr}
use Rattle.std.specs.List.{list_any}
use Rattle.std.specs.Option.{option_map, option_and_then, option_map_or}
use Rattle.std.proofs.lemmas.List.{length-map}
use Rattle.std.proofs.lemmas.Option.{slice_get-get_or}
use Rattle.std.proofs.lemmas.Bool.{both_ways, or_cases, eqb-true, eq-eqb}
use Rattle.kom_events.specs.declared.event_types.EventRow.{EventRow}
use Rattle.kom_events.specs.Kin.{kin, parent_of, is_on_cycle}
use Rattle.kom_system.specs.declared.parts.Parts.{Parts}
use Rattle.kom_rules.specs.Spaces.{event_row, event_rows}
use Rattle.kom_kin.proofs.Descents.{nth, nth-add, nth-descends, member-nth, kin-descends}
use Rattle.kom_tables.specs.Ancestry.{parents_in}
use Rattle.kom_ancestors.specs.Far.{to, up, LeadsFar, leads_to}

no_some : {A : Type 0} {x : A} → None ≡ Some x → ⊥
no_some e = cc

same_some : (a b : ℕ) → Some a ≡ Some b → a ≡ b
same_some a b e = cc

parent_at : (rows : List EventRow) (a : ℕ) → to (parents_in rows) a ≡ parent_of rows a
parent_at [] a = refl
parent_at (row ∷ rows) zero = refl
parent_at (row ∷ rows) (suc a) = parent_at rows a

-- ---- steps by the table of parents and by the rows

is_row : (rows : List EventRow) (a : ℕ) → a < length rows → nth 0 rows a ≡ Some a
is_row rows a h = ap (option_map (λ (row : EventRow). a)) (slice_get-get_or rows a (record { parent = None; own = 0 }) h)

up_next : (m : ℕ) (rows : List EventRow) (a : ℕ) (o : Option ℕ) → ((p : ℕ) → up m (parents_in rows) p ≡ Some a → nth m rows p ≡ Some a) → option_and_then (up m (parents_in rows)) o ≡ Some a → option_and_then (nth m rows) o ≡ Some a
up_next m rows a None rest e = absurd (no_some e)
up_next m rows a (Some p) rest e = rest p e

up_nth : (m : ℕ) (rows : List EventRow) (c a : ℕ) → a < length rows → up m (parents_in rows) c ≡ Some a → nth m rows c ≡ Some a
up_nth zero rows c a h e = let same : a ≡ c = sym (same_some c a e) in rw (← same) (is_row rows a h)
up_nth (suc m) rows c a h e = up_next m rows a (parent_of rows c) (λ p. up_nth m rows p a h) (rw (parent_at rows c) at e)

nth_next : (m : ℕ) (rows : List EventRow) (a : ℕ) (o : Option ℕ) → ((p : ℕ) → nth m rows p ≡ Some a → up m (parents_in rows) p ≡ Some a) → option_and_then (nth m rows) o ≡ Some a → option_and_then (up m (parents_in rows)) o ≡ Some a
nth_next m rows a None rest e = absurd (no_some e)
nth_next m rows a (Some p) rest e = rest p e

here : (c a : ℕ) (got : Option EventRow) → option_map (λ row. c) got ≡ Some a → Some c ≡ Some a
here c a None e = absurd (no_some e)
here c a (Some row) e = e

nth_up : (m : ℕ) (rows : List EventRow) (c a : ℕ) → nth m rows c ≡ Some a → up m (parents_in rows) c ≡ Some a
nth_up zero rows c a e = here c a (slice_get rows c) e
nth_up (suc m) rows c a e = ap (option_and_then (up m (parents_in rows))) (parent_at rows c) ∙ nth_next m rows a (parent_of rows c) (λ p. nth_up m rows p a) e

-- ---- steps in two parts

gone_row : (n : ℕ) (rows : List EventRow) (a : ℕ) (got : Option EventRow) → slice_get rows a ≡ got → option_map (λ row. a) got ≡ None → nth n rows a ≡ None
gone_row zero rows a None e h = ap (option_map (λ (row : EventRow). a)) e
gone_row (suc n) rows a None e h = ap (λ (o : Option EventRow). option_and_then (nth n rows) (option_and_then (λ row. row.parent) o)) e
gone_row n rows a (Some row) e h = absurd (no_some (sym h))

gone_next : (r n : ℕ) (rows : List EventRow) (o : Option ℕ) → ((p : ℕ) → nth r rows p ≡ None → nth (r + n) rows p ≡ None) → option_and_then (nth r rows) o ≡ None → option_and_then (nth (r + n) rows) o ≡ None
gone_next r n rows None rest e = refl
gone_next r n rows (Some p) rest e = rest p e

gone : (r n : ℕ) (rows : List EventRow) (a : ℕ) → nth r rows a ≡ None → nth (r + n) rows a ≡ None
gone zero n rows a e = let s : 0 + n ≡ n = omega arith in ap (λ k. nth k rows a) s ∙ gone_row n rows a (slice_get rows a) refl e
gone (suc r) n rows a e = let s : suc r + n ≡ suc (r + n) = omega arith in ap (λ k. nth k rows a) s ∙ gone_next r n rows (parent_of rows a) (λ p. gone r n rows p) e

parted : (r n : ℕ) (rows : List EventRow) (a b : ℕ) (o : Option ℕ) → nth r rows a ≡ o → nth (r + n) rows a ≡ Some b → (c : ℕ) × (nth n rows c ≡ Some b)
parted r n rows a b None e h = absurd (no_some (sym (gone r n rows a e) ∙ h))
parted r n rows a b (Some c) e h = (c, sym (nth-add r n rows a c e) ∙ h)

-- round a cycle as often as one likes
round : (n d : ℕ) (rows : List EventRow) (a : ℕ) → a < length rows → nth d rows a ≡ Some a → nth (n * d) rows a ≡ Some a
round zero d rows a h e = let s : 0 * d ≡ 0 = omega arith in ap (λ k. nth k rows a) s ∙ is_row rows a h
round (suc n) d rows a h e = let s : suc n * d ≡ d + n * d = grind arith in ap (λ k. nth k rows a) s ∙ nth-add d (n * d) rows a a e ∙ round n d rows a h e

-- ---- cycles

on_cycle : (m : ℕ) (rows : List EventRow) (a : ℕ) (up : Option ℕ) → option_and_then (nth m rows) up ≡ Some a → option_map_or (λ p. kin rows p a) up false ≡ true
on_cycle m rows a None e = absurd (no_some e)
on_cycle m rows a (Some p) e = (kin-descends rows p a).1 (nth-descends m rows p a e)

-- many steps that lead to a type go round
goes_round : (n : ℕ) (rows : List EventRow) (c a : ℕ) → length rows ≤ n → nth n rows c ≡ Some a → is_on_cycle rows a ≡ true
goes_round n rows c a h e =
    let f = member-nth (length rows) rows c a ((kin-descends rows c a).1 (nth-descends n rows c a e)) in
    let few : f.0 < length rows = f.1 in
    let s : n ≡ f.0 + suc (n - f.0 - 1) = omega arith in
    let back : nth (suc (n - f.0 - 1)) rows a ≡ Some a = sym (nth-add f.0 (suc (n - f.0 - 1)) rows c a f.2) ∙ ap (λ k. nth k rows c) (sym s) ∙ e in
    on_cycle (n - f.0 - 1) rows a (parent_of rows a) back

back_again : (rows : List EventRow) (a : ℕ) (up : Option ℕ) → option_map_or (λ p. kin rows p a) up false ≡ true → (j : ℕ) × (option_and_then (nth j rows) up ≡ Some a)
back_again rows a None e = absurd (both_ways false refl e)
back_again rows a (Some p) e = let f = member-nth (length rows) rows p a e in (f.0, f.2)

led_to : (n : ℕ) (rows : List EventRow) (a : ℕ) → a < length rows → is_on_cycle rows a ≡ true → (c : ℕ) × (nth n rows c ≡ Some a)
led_to n rows a h e =
    let f = back_again rows a (parent_of rows a) e in
    let around : nth (suc f.0) rows a ≡ Some a = f.1 in
    let s : n * suc f.0 ≡ n * f.0 + n = grind arith in
    parted (n * f.0) n rows a a (nth (n * f.0) rows a) refl (ap (λ k. nth k rows a) (sym s) ∙ round n (suc f.0) rows a h around)

-- ---- marks

leads_is : (a : ℕ) (o : Option ℕ) → leads_to a o ≡ true → o ≡ Some a
leads_is a None e = absurd (both_ways false refl e)
leads_is a (Some c) e = ap Some (eqb-true c a e)

is_leads : (a : ℕ) (o : Option ℕ) → o ≡ Some a → leads_to a o ≡ true
is_leads a None e = absurd (no_some e)
is_leads a (Some c) e = eq-eqb c a (same_some c a e)

any_at : (a : ℕ) (table : List (Option ℕ)) → list_any (leads_to a) table ≡ true → (c : ℕ) × (to table c ≡ Some a)
any_at a [] e = absurd (both_ways false refl e)
any_at a (o ∷ table) e = elim (or_cases (leads_to a o) (list_any (leads_to a) table) e) [
  | inl first ↦ (0, leads_is a o first)
  | inr more ↦ let f = any_at a table more in (suc f.0, f.1)
]

or_true : (b : Bool) → b || true ≡ true
or_true true = refl
or_true false = refl

at_any : (a : ℕ) (table : List (Option ℕ)) (c : ℕ) → to table c ≡ Some a → list_any (leads_to a) table ≡ true
at_any a [] c e = absurd (no_some e)
at_any a (o ∷ table) zero e = ap (λ b. b || list_any (leads_to a) table) (is_leads a o e)
at_any a (o ∷ table) (suc c) e = ap (λ b. leads_to a o || b) (at_any a table c e) ∙ or_true (leads_to a o)

alike : (p q : Bool) → (p ≡ true → q ≡ true) → (q ≡ true → p ≡ true) → p ≡ q
alike true q f g = sym (f refl)
alike false true f g = g refl
alike false false f g = refl

pub marked_is_on_cycle : (rows : List EventRow) (table : List (Option ℕ)) (a : ℕ) → LeadsFar table (parents_in rows) → a < length rows → list_any (leads_to a) table ≡ is_on_cycle rows a
marked_is_on_cycle rows table a far h =
    let many : length (parents_in rows) ≡ length rows = length-map rows (λ row. row.parent) in
    let enough : length rows ≤ far.steps = omega (arith, far.enough) in
    alike (list_any (leads_to a) table) (is_on_cycle rows a)
    (λ e. let f = any_at a table e in goes_round far.steps rows f.0 a enough (up_nth far.steps rows f.0 a h (sym (far.leads f.0) ∙ f.1)))
    (λ e. let f = led_to far.steps rows a h e in at_any a table f.0 (far.leads f.0 ∙ nth_up far.steps rows f.0 a f.1))

pub as_many : (rows : List EventRow) (parents table : List (Option ℕ)) → parents ≡ parents_in rows → LeadsFar table parents → length table ≡ length rows
as_many rows parents table e far = far.count ∙ ap length e ∙ length-map rows (λ row. row.parent)

-- a declared type is among all
pub is_declared : (P : Parts) (i : ℕ) → i < length P.events → 4 + i < length (event_rows P)
is_declared P i h =
    let many : length (map (event_row P) P.events) ≡ length P.events = length-map P.events (event_row P) in
    omega arith
