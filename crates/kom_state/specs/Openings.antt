-- The state before the root is created.
use Rattle.std.specs.Prelude.{◌≡◌, ℕ, suc, Bool, false, nat_lt, if◌then◌else◌, List, [], ◌∷◌, length, map, slice_get, Option, Some, None}
use Rattle.kom_base.specs.Numbers.{is_plus}
use Rattle.std.specs.Option.{option_map}
use Rattle.kom_base.specs.declared.numbers.Dir.{Dir}
use Rattle.kom_base.specs.declared.numbers.Dir.TheVariants.{Plus, Minus}
use Rattle.kom_base.specs.declared.numbers.Half.{Half}
use Rattle.kom_base.specs.declared.numbers.Side.TheVariants.{Outside}
use Rattle.kom_lang.specs.Declarations.{Declarations, kind_of}
use Rattle.kom_lang.specs.declared.kind.PortDecl.{PortDecl}
use Rattle.kom_record.specs.Channels.{root_end, goes_out}
use Rattle.kom_wiring.specs.declared.link.Link as wiring
use Rattle.kom_numbers.specs.Numbering.{out_of}
use Rattle.kom_base.specs.declared.numbers.EntryNo.{EntryNo}
use Rattle.kom_wiring.specs.Wires.{link_of}
use Rattle.kom_queues.specs.Slots.{content_of}
use Rattle.kom_state.specs.Parts.{Parts}
use Rattle.kom_state.specs.Sound.{aim_for}
use Rattle.kom_refine.specs.States.{State}
use Rattle.kom_refine.specs.Steps.{empty_queue}

-- the root's half at a port
abbrev pub root_half : ℕ → Half
root_half q = record { comp = 0; port = q; side = Outside }

-- the channel of a port of the root: at its plus end where the port is provided, else at its minus end
abbrev pub port_link : ℕ → Bool → wiring.Link
port_link q provided = record { plus = if provided then Some (root_half q) else None; minus = if provided then None else Some (root_half q); held = false }

abbrev pub port_outs : List PortDecl → List Dir
port_outs ports = map (λ p. out_of p.provided) ports

abbrev pub link_out : ℕ → Dir → wiring.Link
link_out q out = port_link q (is_plus out)

-- the channels of the ports from the number q on
abbrev pub links_from : ℕ → List Dir → List wiring.Link
links_from q [] = []
links_from q (out ∷ outs) = link_out q out ∷ links_from (suc q) outs

abbrev pub port_links : List Dir → List wiring.Link
port_links outs = links_from 0 outs

-- there is no instance, and of the channels those of the root's ports, with nothing in them
pub record IsOpened (S : Declarations) (m : State) : Type 0 where
  pub nodes : m.nodes ≡ []
  pub living : (c : ℕ) → m.living c ≡ false
  pub child : (c s : ℕ) → m.child c s ≡ None
  pub links_now : (x : ℕ) → m.links x ≡ (if nat_lt x (length (kind_of S S.root.kind).ports) then Some (record { plus = root_end S x Plus; minus = root_end S x Minus; held = false }) else None)
  pub queues : (x : ℕ) (d : Dir) → m.queues x d ≡ (if goes_out S x d then None else option_map (empty_queue d) (m.links x))
  pub controls : (c : ℕ) → m.controls c ≡ None
  pub bodies : (c : ℕ) → m.bodies c ≡ None

-- the channels have these links, and nothing waits in them
pub record AreOpened (links : List wiring.Link) (v : Parts) : Type 0 where
  pub links_now : (x : ℕ) → link_of v.wires.links x ≡ slice_get links x
  pub content : (x : ℕ) (d : Dir) → content_of v.slots x d ≡ option_map {U = List EntryNo × Option ℕ} (λ l. ([], aim_for v.numbers x d l)) (slice_get links x)
