-- What holds of the parts of every tree.
use Rattle.std.specs.Prelude.{◌≡◌, ◌≤◌, [], length, vec_capacity}
use Rattle.kom_tree.specs.declared.tree.Tree.TheInside.{Inside}
use Rattle.kom_tree.specs.Parts.{IsForest, IsChained}

pub record IsSound (t : Inside) : Type 0 where
  pub forest : IsForest t.family.origins.items t.living.items
  pub chained : IsChained t.family.origins.items t.living.items t.family.links.items
  pub idle : t.pending.items ≡ []
  pub fits : length t.family.origins.items ≤ t.room
  pub in_origins : t.room ≤ vec_capacity t.family.origins
  pub in_links : t.room ≤ vec_capacity t.family.links
  pub in_living : t.room ≤ vec_capacity t.living
  pub in_pending : t.room ≤ vec_capacity t.pending
