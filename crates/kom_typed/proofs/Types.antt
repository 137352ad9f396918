-- Events that may leave by a port, and those of the environment, are of their types.
use Rattle.std.proofs.Common.{◌≡◌, ℕ, ℤ, zero, suc, ◌+◌, ◌<◌, Bool, true, false, ◌||◌, ◌==◌, refl, sym, ap, ◌∙◌, List, [], ◌∷◌, length, Option, Some, None, arith, eq-eqb}
use Rattle.std.specs.Prelude.{slice_get, take}
use Rattle.std.specs.List.{list_any, sum_by}
use Rattle.std.proofs.lemmas.List.Sums.{sum_by-cons}
use Rattle.std.specs.Option.{option_map_or}
use Rattle.std.proofs.lemmas.Bool.{lt-ltb}
use Rattle.std.proofs.lemmas.Option.{slice_get_within}
use Rattle.kom_base.specs.declared.numbers.Dir.{Dir}
use Rattle.kom_base.specs.declared.values.Event.{Event}
use Rattle.kom_events.specs.declared.event_types.EventRow.{EventRow}
use Rattle.kom_events.specs.declared.port_types.PortRow.{PortRow}
use Rattle.kom_events.specs.Kin.{ancestors, attributes, kin, own_attributes}
use Rattle.kom_events.specs.Ports.{listed, lists, passes}
use Rattle.kom_lang.specs.Declarations.{Declarations, kind_of}
use Rattle.kom_system.specs.Fitting.{built_in_events}
use Rattle.kom_system.specs.Statements.{event_leaves, outwards}
use Rattle.kom_system.specs.WellFormed.{IsDeclared}
use Rattle.kom_record.specs.Plans.{is_of_its_type}
use Rattle.kom_agree.specs.Effects.{may_leave}
use Rattle.kom_agree.proofs.Born.{both, both_of, some_of}

-- a type that has ancestors is declared
known : (n : ℕ) (rows : List EventRow) (a b : ℕ) → list_any (λ c. c == b) (ancestors n rows a) ≡ true → a < length rows
known zero rows a b e = absurd cc
known (suc n) rows a b e = go (slice_get rows a) refl e
  where
    go : (o : Option EventRow) → slice_get rows a ≡ o → list_any (λ c. c == b) (option_map_or (λ row. a ∷ option_map_or (ancestors n rows) row.parent []) o []) ≡ true → a < length rows
    go None q e = absurd cc
    go (Some row) q e = slice_get_within rows a row q

any_known : (rows : List EventRow) (kinds : List ℕ) (a : ℕ) → list_any (kin rows a) kinds ≡ true → a < length rows
any_known rows [] a e = absurd cc
any_known rows (b ∷ kinds) a e = go (kin rows a b) refl e (any_known rows kinds a)
  where
    go : (t : Bool) → kin rows a b ≡ t → (t || list_any (kin rows a) kinds) ≡ true → (list_any (kin rows a) kinds ≡ true → a < length rows) → a < length rows
    go true q e rest = known (length rows) rows a b q
    go false q e rest = rest e

-- a type that passes a port is declared
pub passes_known : (rows : List EventRow) (ports : List PortRow) (port : ℕ) (d : Dir) (kind : ℕ) → passes rows ports port d kind ≡ true → kind < length rows
passes_known rows ports port d kind e =
    let r = some_of (λ row. lists rows (listed row d) kind) (slice_get ports port) e in
    any_known rows (listed r.0 d) kind r.2

module _ (S : Declarations) where
  -- an event that may leave by a port is of its type
  pub leaving_typed : (kind port : ℕ) (event : Event) → may_leave S kind port event ≡ true → is_of_its_type S event ≡ true
  leaving_typed kind port event e =
      let r = some_of (event_leaves S event.kind (length event.values)) (slice_get (kind_of S kind).ports port) e in
      let q = both _ _ r.2 in
      both_of _ _ (lt-ltb event.kind (length S.events) (passes_known S.events S.ports r.0.port (outwards r.0.provided) event.kind q.0)) q.1

  pub third_at : (rows : List EventRow) → take 4 rows ≡ built_in_events → slice_get rows 2 ≡ Some (record { parent = None; own = 1 })
  third_at [] e = absurd cc
  third_at (a ∷ []) e = absurd cc
  third_at (a ∷ b ∷ []) e = absurd cc
  third_at (a ∷ b ∷ c ∷ rows) e = ap (λ l. slice_get l 2) e

  -- a type without a parent has its own attributes alone
  alone_at : (n : ℕ) (rows : List EventRow) (row : EventRow) (a : ℕ) → a < n → slice_get rows a ≡ Some row → row.parent ≡ None → sum_by (own_attributes rows) (ancestors n rows a) ≡ row.own
  alone_at zero rows row a h e p = absurd (omega (arith, h))
  alone_at (suc n) rows row a h e p =
      let line : ancestors (suc n) rows a ≡ a ∷ [] = ap (λ o. option_map_or (λ row. a ∷ option_map_or (ancestors n rows) row.parent []) o []) e ∙ ap (λ o. a ∷ option_map_or (ancestors n rows) o []) p in
      let one : own_attributes rows a ≡ row.own = ap (λ o. option_map_or (λ row. row.own) o 0) e in
      let all : sum_by (own_attributes rows) (ancestors (suc n) rows a) ≡ sum_by (own_attributes rows) (a ∷ []) = ap (sum_by (own_attributes rows)) line in
      let sum : sum_by (own_attributes rows) (a ∷ []) ≡ own_attributes rows a + 0 = sum_by-cons (own_attributes rows) a [] in
      omega (arith, one, all, sum)

  alone : (rows : List EventRow) (row : EventRow) (a : ℕ) → slice_get rows a ≡ Some row → row.parent ≡ None → attributes rows a ≡ row.own
  alone rows row a e p = alone_at (length rows) rows row a (slice_get_within rows a row e) e p

  -- a Timeout is of its type
  pub timeout_typed : IsDeclared S → (v : ℤ) → is_of_its_type S (record { kind = 2; values = v ∷ [] }) ≡ true
  timeout_typed D v =
      let e = third_at S.events D.built_in_events_first in
      both_of _ _ (lt-ltb 2 (length S.events) (slice_get_within S.events 2 (record { parent = None; own = 1 }) e))
      (eq-eqb 1 (attributes S.events 2) (sym (alone S.events (record { parent = None; own = 1 }) 2 e refl)))
