-- The rules that a scenario may break for a system, each by the places where it is broken.
use Rattle.std.specs.Prelude.{ℕ, ◌+◌, Bool, false, not, ◌==◌, nat_lt, List, [], ◌∷◌, ◌++◌, length, slice_get, map, Option, Some, None, is_some, is_none, if◌then◌else◌}
use Rattle.std.specs.List.{list_any, flat_map}
use Rattle.std.specs.Option.{option_map_or}
use Rattle.kom_base.specs.Lists.{lesser, least}
use Rattle.kom_events.specs.Kin.{attributes}
use Rattle.kom_events.specs.Ports.{passes}
use Rattle.kom_record.specs.Plans.{inward}
use Rattle.kom_system.specs.Contents.{Contents}
use Rattle.kom_scengram.specs.declared.parts.SettingPart.{SettingPart}
use Rattle.kom_scengram.specs.declared.parts.SettingPart.TheVariants as setting
use Rattle.kom_scengram.specs.declared.parts.RaisePart.{RaisePart}
use Rattle.kom_scengram.specs.declared.parts.StartPart.{StartPart}
use Rattle.kom_scengram.specs.declared.parts.StartPart.TheVariants as st
use Rattle.kom_scengram.specs.declared.parts.SourcePart.{SourcePart}
use Rattle.kom_scengram.specs.declared.parts.SourcePart.TheVariants as s
use Rattle.kom_scengram.specs.declared.parts.ScenarioParts.{ScenarioParts}
use Rattle.kom_scenario.specs.declared.tree.Source.{Source}
use Rattle.kom_scenario.specs.Named.{kind_number, root_ports, port_number, process_number}
use Rattle.kom_scenario.specs.Scenes.{size, setting_of, same_setting, source_of}
use Rattle.kom_scenario.specs.Sound.{longest, most, Span, latest}
use Rattle.kom_scenario.specs.Numbers.{place_if, setting_numbers, source_numbers}

-- what holds of each element, by those before it
abbrev pub along : {A : Type 0} → (List A → A → List ℕ) → List A → List A → List ℕ
along f before [] = []
along f before (x ∷ xs) = f before x ++ along f (before ++ x ∷ []) xs

-- ---- rule 6: a setting twice, or two processes of one name

abbrev pub setting_at : SettingPart → ℕ
setting_at (setting.Seed at n) = at
setting_at (setting.Steps at n) = at
setting_at (setting.Instants at n) = at
setting_at (setting.Network at n m) = at

abbrev pub set_twice : List SettingPart → SettingPart → List ℕ
set_twice before x = place_if (list_any (λ y. same_setting (setting_of y) (setting_of x)) before) (setting_at x)

abbrev pub named_twice : List SourcePart → SourcePart → List ℕ
named_twice before (s.At at n r) = []
named_twice before (s.Process p) = place_if (is_some (process_number before p.name.name)) p.name.at

unfoldable pub twice : ScenarioParts → List ℕ
twice t = along set_twice [] t.settings ++ along named_twice [] t.sources

-- ---- rule 7: a name that stands for nothing

abbrev pub raise_of : SourcePart → RaisePart
raise_of (s.At at n r) = r
raise_of (s.Process p) = p.raise

-- a process that no source before it is
abbrev pub start_unknown : List SourcePart → StartPart → List ℕ
start_unknown before (st.At n) = []
start_unknown before (st.After m n by) = place_if (is_none (process_number before n.name)) n.at

abbrev pub process_unknown : List SourcePart → SourcePart → List ℕ
process_unknown before (s.At at n r) = []
process_unknown before (s.Process p) = start_unknown before p.start

module _ (c : Contents) where
  abbrev pub raise_unknown : RaisePart → List ℕ
  raise_unknown r = place_if (is_none (kind_number c r.kind.name)) r.kind.at ++ place_if (is_none (port_number c r.port.name)) r.port.at

  unfoldable pub unknown : ScenarioParts → List ℕ
  unknown t = flat_map (λ x. raise_unknown (raise_of x)) t.sources ++ along process_unknown [] t.sources

-- ---- rule 8: a number out of its range

unfoldable pub numbers : ScenarioParts → List ℕ
numbers t = flat_map setting_numbers t.settings ++ flat_map source_numbers t.sources

module _ (c : Contents) where
  -- ---- rule 9: a type that does not come in at the port

  abbrev pub comes_in : ℕ → ℕ → Bool
  comes_in q kind = option_map_or (λ p. passes c.declarations.events c.declarations.ports p.port (inward p) kind) (slice_get (root_ports c) q) false

  -- the type's place, where the test fails of the type and the port
  abbrev pub raise_fails : (ℕ → ℕ → Bool) → Option ℕ → Option ℕ → ℕ → List ℕ
  raise_fails test (Some kind) (Some q) at = place_if (not (test q kind)) at
  raise_fails test _ _ at = []

  abbrev pub not_in : RaisePart → List ℕ
  not_in r = raise_fails comes_in (kind_number c r.kind.name) (port_number c r.port.name) r.kind.at

  unfoldable pub misplaced : ScenarioParts → List ℕ
  misplaced t = flat_map (λ x. not_in (raise_of x)) t.sources

  -- ---- rule 10: a count of arguments that is not that of the attributes

  abbrev pub miscounted : RaisePart → List ℕ
  miscounted r = raise_fails (λ q kind. length r.args == attributes c.declarations.events kind) (kind_number c r.kind.name) (port_number c r.port.name) r.kind.at

  unfoldable pub unmatched : ScenarioParts → List ℕ
  unmatched t = flat_map (λ x. miscounted (raise_of x)) t.sources

-- ---- rule 11: too many events in all

abbrev pub events_in : SourcePart → ℕ
events_in (s.At at n r) = 1
events_in (s.Process p) = size p.count

-- where the events of a source are counted
abbrev pub count_place : SourcePart → ℕ
count_place (s.At at n r) = at
count_place (s.Process p) = p.count.at

-- the place by which the events, n so far, go over
unfoldable pub crowded : ℕ → List SourcePart → List ℕ
crowded n [] = []
crowded n (x ∷ xs) = if nat_lt most (n + events_in x) then count_place x ∷ [] else crowded (n + events_in x) xs

-- ---- rule 12: a latest time that is too late

abbrev pub late_place : SourcePart → ℕ
late_place (s.At at n r) = n.at
late_place (s.Process p) = p.name.at

-- the first source that may still raise too late; of those before it the latest moments are given
unfoldable pub late_from : List Span → List SourcePart → List Source → List ℕ
late_from before (x ∷ xs) (z ∷ zs) = if nat_lt longest (latest before z).1 then late_place x ∷ [] else late_from (before ++ latest before z ∷ []) xs zs
late_from before _ _ = []

-- ---- the least broken rule

-- a rule by its number, with the places where it is broken
abbrev pub first_rules : Contents → ScenarioParts → List (ℕ × List ℕ)
first_rules c t =
    (6, twice t)
    ∷ (7, unknown c t)
    ∷ (8, numbers t)
    ∷ (9, misplaced c t)
    ∷ (10, unmatched c t)
    ∷ (11, crowded 0 t.sources)
    ∷ []

-- the last rule speaks of the numbers that names stand for
abbrev pub last_rule : Contents → ScenarioParts → ℕ × List ℕ
last_rule c t = (12, late_from [] t.sources (map (source_of c t.sources) t.sources))

-- the least place
abbrev pub first_place : List ℕ → Option ℕ
first_place xs = least nat_lt xs

-- the earlier of two places that may be there
abbrev pub earlier : Option ℕ → Option ℕ → Option ℕ
earlier None o = o
earlier (Some x) o = Some (lesser nat_lt x o)

abbrev pub broken_at : ℕ → Option ℕ → Option (ℕ × ℕ) → Option (ℕ × ℕ)
broken_at rule (Some at) o = Some (rule, at)
broken_at rule None o = o

abbrev pub least_broken : List (ℕ × List ℕ) → Option (ℕ × ℕ)
least_broken [] = None
least_broken (x ∷ xs) = broken_at x.0 (first_place x.1) (least_broken xs)

-- the least broken rule with its least place
unfoldable pub broken : Contents → ScenarioParts → Option (ℕ × ℕ)
broken c t = least_broken (first_rules c t ++ last_rule c t ∷ [])
