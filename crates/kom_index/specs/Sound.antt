-- What holds of the parts of every ordered map.
use Rattle.std.specs.Prelude.{◌≡◌, ◌+◌, ◌*◌, ◌≤◌, length, vec_len, vec_capacity}
use Rattle.kom_index.specs.declared.ordered.Ordered.TheInside.{Inside}

pub record IsSound {K V : Type 0} (m : Inside K V) : Type 0 where
  pub counted : m.len ≡ length m.tree
  pub paired : vec_len m.sides ≡ 2 * m.spare
  pub fits : 2 * (m.spare + m.len) ≤ vec_capacity m.sides
