-- What ties the parts of a run's state to one another.
use Rattle.std.specs.Prelude.{◌≡◌, ℕ, Bool, true, false, if◌then◌else◌, List, length, Option, None, is_some}
use Rattle.std.specs.Option.{option_map, option_map_or}
use Rattle.kom_base.specs.declared.numbers.Dir.{Dir}
use Rattle.kom_record.specs.Channels.{Channel, Environment, Own}
use Rattle.kom_tree.specs.Forest.{Instance, is_alive}
use Rattle.kom_wiring.specs.declared.link.Link as wiring
use Rattle.kom_wiring.specs.Wires.{link_of}
use Rattle.kom_queues.specs.Slots.{queue_of}
use Rattle.kom_life.specs.Rows.{is_there}
use Rattle.kom_numbers.specs.Numbering.{Numbering, leads_out, channel_at}
use Rattle.kom_refine.specs.Points.{receiver_of}
use Rattle.kom_state.specs.Shelves.{body_at}
use Rattle.kom_state.specs.Parts.{Parts, link_seen}

-- whom a direction of a channel waits for: nobody where it leads out or the channel is held, else the
-- component at its destination
abbrev pub aim_for : Numbering → ℕ → Dir → wiring.Link → Option ℕ
aim_for n x d l = if leads_out n x d then None else receiver_of d (link_seen l)

abbrev pub lives : List Instance → Channel → Bool
lives is (Environment q) = true
lives is (Own c k) = is_alive is c

-- the parts are of the same instances and channels: those that live, and each direction of a living
-- channel waits for whom its channel says
pub record IsTied (v : Parts) : Type 0 where
  pub numbered : length v.numbers.counts ≡ length v.tree.instances
  pub held_bodies : length v.bodies.bodies ≡ length v.tree.instances
  pub bodies : (c : ℕ) → is_some (body_at v.bodies.bodies c) ≡ is_alive v.tree.instances c
  pub rows : (c : ℕ) → is_there v.rows c ≡ is_alive v.tree.instances c
  pub links : (x : ℕ) → is_some (link_of v.wires.links x) ≡ option_map_or (lives v.tree.instances) (channel_at v.numbers x) false
  pub queues : (x : ℕ) (d : Dir) → option_map (λ w. w.aim) (queue_of v.slots x d) ≡ option_map (aim_for v.numbers x d) (link_of v.wires.links x)
