-- The rules that are looked at by number.
use Rattle.std.specs.Prelude.{ℕ, Bool, ◌&&◌, nat_le}

abbrev pub is_known : ℕ → Bool
is_known number = nat_le 6 number && nat_le number 32
