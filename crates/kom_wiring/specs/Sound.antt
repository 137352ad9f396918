-- What holds of the parts of every wiring.
use Rattle.std.specs.Prelude.{◌≡◌, ℕ, ◌*◌, ◌^◌, ◌<◌, ◌≤◌, List, Some}
use Rattle.std.specs.Option.{IsSome}
use Rattle.std.specs.Ordering.{nat_cmp}
use Rattle.kom_index.specs.Entries.{Rises, value_of}
use Rattle.kom_wiring.specs.declared.link.Link.{Link}
use Rattle.kom_wiring.specs.declared.socket.Socket.{Socket}
use Rattle.kom_wiring.specs.Sockets.{socket_cmp}
use Rattle.kom_wiring.specs.Wires.{link_of, place_at}

-- the socket's end of its channel is plugged at its place
pub record Plugs (links : List (ℕ × Link)) (s : Socket) : Type 0 where
  pub link : Link
  pub is : link_of links s.chan ≡ Some link
  pub at : place_at link s.end ≡ s.at

abbrev pub HasSocket : List (Socket × Unit {0}) → Socket → Type 0
HasSocket ends s = IsSome (value_of socket_cmp s ends)

-- the ordered sockets are those of the channels, two for each, and there is room for two more for each channel that there is room for
pub record IsSound (links : List (ℕ × Link)) (spare : ℕ) (ends : List (Socket × Unit {0})) (room : ℕ) : Type 0 where
  pub rises : Rises nat_cmp links
  pub bounded : (x : ℕ) → IsSome (link_of links x) → x < 2 ^ 32
  pub plugged : (s : Socket) → HasSocket ends s → Plugs links s
  pub complete : (s : Socket) → Plugs links s → HasSocket ends s
  pub fits : 2 * spare ≤ room
