-- What holds of the parts of every calendar.
use Rattle.std.specs.Prelude.{◌≡◌, ◌+◌, ◌≤◌, [], length, vec_capacity}
use Rattle.kom_index.specs.Entries.{Rises}
use Rattle.kom_env.specs.declared.calendar.Calendar.TheInside.{Inside}
use Rattle.kom_env.specs.Keys.{place_cmp}
use Rattle.kom_env.specs.Raised.{ArePlaced}

pub record IsSound (c : Inside) : Type 0 where
  pub rises : Rises place_cmp c.raises.0
  pub placed : ArePlaced c.count c.raises.0
  pub counted : length c.raises.0 ≡ c.count
  pub few : c.count ≤ 2000000000
  pub stocked : c.spare ≤ c.raises.1
  pub empty : c.room.items ≡ []
  pub roomy : c.count + c.spare ≤ vec_capacity c.room
