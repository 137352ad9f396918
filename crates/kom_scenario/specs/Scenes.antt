-- The tree of a file with names replaced by numbers.
use Rattle.std.specs.Prelude.{ℤ, pos, negsuc, ℕ, Bool, true, false, List, map, Option, Some, unwrap_or}
use Rattle.std.specs.List.{find}
use Rattle.kom_parse.specs.declared.numeral.Numeral.{Numeral}
use Rattle.kom_system.specs.Contents.{Contents}
use Rattle.kom_scengram.specs.declared.parts.SettingPart.{SettingPart}
use Rattle.kom_scengram.specs.declared.parts.SettingPart.TheVariants as setting
use Rattle.kom_scengram.specs.declared.parts.ArgPart.{ArgPart}
use Rattle.kom_scengram.specs.declared.parts.ArgPart.TheVariants as a
use Rattle.kom_scengram.specs.declared.parts.RaisePart.{RaisePart}
use Rattle.kom_scengram.specs.declared.parts.StartPart.{StartPart}
use Rattle.kom_scengram.specs.declared.parts.StartPart.TheVariants as st
use Rattle.kom_scengram.specs.declared.parts.ProcessPart.{ProcessPart}
use Rattle.kom_scengram.specs.declared.parts.SourcePart.{SourcePart}
use Rattle.kom_scengram.specs.declared.parts.SourcePart.TheVariants as s
use Rattle.kom_scengram.specs.declared.parts.ScenarioParts.{ScenarioParts}
use Rattle.kom_scenario.specs.declared.settings.Setting.{Setting}
use Rattle.kom_scenario.specs.declared.settings.Setting.TheVariants as word
use Rattle.kom_scenario.specs.declared.tree.Arg.{Arg}
use Rattle.kom_scenario.specs.declared.tree.Arg.TheVariants as arg
use Rattle.kom_scenario.specs.declared.tree.Raising.{Raising}
use Rattle.kom_scenario.specs.declared.tree.Start.{Start}
use Rattle.kom_scenario.specs.declared.tree.Start.TheVariants as start
use Rattle.kom_scenario.specs.declared.tree.Process.{Process}
use Rattle.kom_scenario.specs.declared.tree.Source.{Source}
use Rattle.kom_scenario.specs.declared.tree.Source.TheVariants as source
use Rattle.kom_scenario.specs.declared.tree.Scene.{Scene}
use Rattle.kom_scenario.specs.Named.{kind_number, port_number, process_number}

-- the value of a number that is written without a sign
abbrev pub whole : ℤ → ℕ
whole (pos n) = n
whole (negsuc n) = 0

abbrev pub size : Numeral → ℕ
size n = whole n.value

-- ---- settings

abbrev pub setting_of : SettingPart → Setting
setting_of (setting.Seed at n) = word.Seed
setting_of (setting.Steps at n) = word.Steps
setting_of (setting.Instants at n) = word.Instants
setting_of (setting.Network at n m) = word.Network

abbrev pub same_setting : Setting → Setting → Bool
same_setting word.Seed word.Seed = true
same_setting word.Steps word.Steps = true
same_setting word.Instants word.Instants = true
same_setting word.Network word.Network = true
same_setting _ _ = false

-- the first setting with this word
unfoldable pub set : List SettingPart → Setting → Option SettingPart
set xs x = find (λ p. same_setting (setting_of p) x) xs

abbrev pub seed_by : Option SettingPart → ℕ
seed_by (Some (setting.Seed at n)) = size n
seed_by _ = 0

abbrev pub steps_by : Option SettingPart → ℕ
steps_by (Some (setting.Steps at n)) = size n
steps_by _ = 100_000

abbrev pub instants_by : Option SettingPart → ℕ
instants_by (Some (setting.Instants at n)) = size n
instants_by _ = 100_000

abbrev pub lo_by : Option SettingPart → ℕ
lo_by (Some (setting.Network at n m)) = size n
lo_by _ = 1

abbrev pub hi_by : Option SettingPart → ℕ
hi_by (Some (setting.Network at n m)) = size m
hi_by _ = 1

-- ---- sources

abbrev pub arg_of : ArgPart → Arg
arg_of (a.Number i) = arg.Number i
arg_of a.Index = arg.Index
arg_of (a.Draw low high) = arg.Draw (size low) (size high)

abbrev pub raising_of : Contents → RaisePart → Raising
raising_of c r = record { kind = unwrap_or (kind_number c r.kind.name) 0; args = map arg_of r.args; port = unwrap_or (port_number c r.port.name) 0 }

module _ (c : Contents) (all : List SourcePart) where
  abbrev pub start_of : StartPart → Start
  start_of (st.At n) = start.At (size n)
  start_of (st.After m n by) = start.After m (unwrap_or (process_number all n.name) 0) (size by)

  abbrev pub process_of : ProcessPart → Process
  process_of p = record { start = start_of p.start; count = size p.count; low = size p.low; high = size p.high; raising = raising_of c p.raise }

  abbrev pub source_of : SourcePart → Source
  source_of (s.At at n r) = source.At (size n) (raising_of c r)
  source_of (s.Process p) = source.Process (process_of p)

abbrev pub scene_of : Contents → ScenarioParts → Scene
scene_of c t = record {
  seed = seed_by (set t.settings word.Seed);
  steps = steps_by (set t.settings word.Steps);
  instants = instants_by (set t.settings word.Instants);
  lo = lo_by (set t.settings word.Network);
  hi = hi_by (set t.settings word.Network);
  sources = map (source_of c t.sources) t.sources;
}
