-- The numbers that are out of their range, by their places.
use Rattle.std.specs.Prelude.{ℕ, Bool, ◌||◌, nat_lt, List, [], ◌∷◌, ◌++◌}
use Rattle.std.specs.List.{flat_map}
use Rattle.kom_base.specs.Lists.{if_so}
use Rattle.kom_parse.specs.declared.numeral.Numeral.{Numeral}
use Rattle.kom_scengram.specs.declared.parts.SettingPart.{SettingPart}
use Rattle.kom_scengram.specs.declared.parts.SettingPart.TheVariants as setting
use Rattle.kom_scengram.specs.declared.parts.ArgPart.{ArgPart}
use Rattle.kom_scengram.specs.declared.parts.ArgPart.TheVariants as a
use Rattle.kom_scengram.specs.declared.parts.StartPart.{StartPart}
use Rattle.kom_scengram.specs.declared.parts.StartPart.TheVariants as st
use Rattle.kom_scengram.specs.declared.parts.ProcessPart.{ProcessPart}
use Rattle.kom_scengram.specs.declared.parts.SourcePart.{SourcePart}
use Rattle.kom_scengram.specs.declared.parts.SourcePart.TheVariants as s
use Rattle.kom_scenario.specs.Scenes.{size}
use Rattle.kom_scenario.specs.Sound.{longest, most}

-- a place, where the test holds
abbrev pub place_if : Bool → ℕ → List ℕ
place_if test at = if_so test (at ∷ [])

-- over the longest time
abbrev pub too_long : Numeral → List ℕ
too_long n = place_if (nat_lt longest (size n)) n.at

-- not from 1 to the most
abbrev pub not_so_many : Numeral → List ℕ
not_so_many n = place_if (nat_lt (size n) 1 || nat_lt most (size n)) n.at

-- two numbers that a draw lies between: the second is named where the first is greater
abbrev pub no_pair : Numeral → Numeral → List ℕ
no_pair low high = too_long low ++ (too_long high ++ place_if (nat_lt (size high) (size low)) high.at)

abbrev pub setting_numbers : SettingPart → List ℕ
setting_numbers (setting.Seed at n) = []
setting_numbers (setting.Steps at n) = not_so_many n
setting_numbers (setting.Instants at n) = not_so_many n
setting_numbers (setting.Network at n m) = no_pair n m

abbrev pub arg_numbers : ArgPart → List ℕ
arg_numbers (a.Number i) = []
arg_numbers a.Index = []
arg_numbers (a.Draw low high) = no_pair low high

abbrev pub start_numbers : StartPart → List ℕ
start_numbers (st.At n) = too_long n
start_numbers (st.After m n by) = too_long by

abbrev pub process_numbers : ProcessPart → List ℕ
process_numbers p = start_numbers p.start ++ (not_so_many p.count ++ (no_pair p.low p.high ++ flat_map arg_numbers p.raise.args))

abbrev pub source_numbers : SourcePart → List ℕ
source_numbers (s.At at n r) = too_long n ++ flat_map arg_numbers r.args
source_numbers (s.Process p) = process_numbers p
