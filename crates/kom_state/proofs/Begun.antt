-- The state with the channels of the root's ports alone.
use Rattle.std.proofs.Common.{◌≡◌, ℕ, zero, suc, ◌+◌, ◌-◌, ◌<◌, ◌≤◌, Bool, true, false, List, [], ◌∷◌, length, get_or, map, take, not, Option, Some, None, refl, sym, ap, ◌∙◌, arith, if◌then◌else◌}
use Rattle.std.specs.Prelude.{slice_get, is_some, nat_lt}
use Rattle.std.specs.Option.{option_map, option_map_or, option_and_then}
use Rattle.std.proofs.lemmas.Bool.{le-ltb}
use Rattle.std.proofs.lemmas.Option.{slice_get-map, slice_get-get_or}
use Rattle.kom_base.specs.declared.numbers.Dir.{Dir}
use Rattle.kom_base.specs.declared.numbers.Dir.TheVariants.{Plus, Minus}
use Rattle.kom_base.specs.declared.numbers.EntryNo.{EntryNo}
use Rattle.kom_base.specs.Numbers.{same_dir, opposite, agree, is_plus}
use Rattle.kom_lang.specs.Declarations.{Declarations, kind_of}
use Rattle.kom_lang.specs.declared.kind.PortDecl.{PortDecl}
use Rattle.kom_record.specs.Model.{model}
use Rattle.kom_record.specs.Channels.{Environment, Own, root_end, goes_out}
use Rattle.kom_tree.specs.Forest.{Forest, is_alive, occupant}
use Rattle.kom_life.specs.Rows.{living_of}
use Rattle.kom_wiring.specs.declared.link.Link.{Link}
use Rattle.kom_wiring.specs.Wires.{Wires, link_of}
use Rattle.kom_queues.specs.declared.slot.Slot.{Slot}
use Rattle.kom_queues.specs.Waiting.{Waiting}
use Rattle.kom_queues.specs.Slots.{queue_of, content_of}
use Rattle.kom_numbers.specs.Numbering.{Numbering, out_of, leads_out, channel_at}
use Rattle.kom_refine.specs.Points.{receiver_of}
use Rattle.kom_refine.specs.Steps.{empty_queue}
use Rattle.kom_refine.specs.States.{Queue, Node}
use Rattle.kom_state.specs.Openings.{root_half, link_out, links_from, port_links, port_outs, AreOpened, IsOpened}
use Rattle.kom_state.specs.Plantings.{IsLaid}
use Rattle.kom_state.specs.Shelves.{Shelf, body_at}
use Rattle.kom_state.specs.Parts.{Parts, state_of, IsOf, node_seen, link_seen, row_seen, queue_in}
use Rattle.kom_state.specs.Sound.{IsTied, lives, aim_for}
use Rattle.kom_state.proofs.Creating.{get_some}

links_long : (q : ℕ) (outs : List Dir) → length (links_from q outs) ≡ length outs
links_long q [] = refl
links_long q (out ∷ outs) = ap suc (links_long (suc q) outs)

link_from : (b : ℕ) (outs : List Dir) (k : ℕ) → slice_get (links_from b outs) k ≡ option_map (link_out (b + k)) (slice_get outs k)
link_from b [] k = refl
link_from b (out ∷ outs) zero = let e : b ≡ b + 0 = omega arith in ap (λ q. Some (link_out q out)) e
link_from b (out ∷ outs) (suc k) = let e : suc b + k ≡ b + suc k = omega arith in link_from (suc b) outs k ∙ ap (λ q. option_map (link_out q) (slice_get outs k)) e

pub take_all : {A : Type 0} (xs : List A) (k : ℕ) → length xs ≤ k → take k xs ≡ xs
take_all [] zero h = refl
take_all [] (suc k) h = refl
take_all (x ∷ xs) zero h = absurd (omega (arith, h))
take_all (x ∷ xs) (suc k) h = ap (λ l. x ∷ l) (take_all xs k (omega (arith, h)))

module _ (outs : List Dir) where
  pub long : length (port_links outs) ≡ length outs
  long = links_long 0 outs

  pub link_at : (x : ℕ) → slice_get (port_links outs) x ≡ option_map (link_out x) (slice_get outs x)
  link_at x = let e : 0 + x ≡ x = omega arith in link_from 0 outs x ∙ ap (λ q. option_map (link_out q) (slice_get outs x)) e

  pub item_of : (x : ℕ) (d : Dir) → x < length outs → slice_get (port_links outs) x ≡ Some (link_out x (get_or outs x d))
  item_of x d h = link_at x ∙ ap (option_map (link_out x)) (slice_get-get_or outs x d h)

  abbrev links : List Link
  links = port_links outs

  module _ (n : Numbering) (same : n.outs ≡ outs) (none : n.counts ≡ []) (old new : Wires) (was now : List (ℕ × Slot)) (laid : IsLaid n 0 links old new was now) (empty : old.links ≡ []) (shelf : Shelf) (no_bodies : shelf.bodies ≡ []) where
    abbrev pub bare : Parts
    bare = record { tree = record { instances = []; spare = 0 }; wires = new; slots = now; rows = []; bodies = shelf; numbers = n }

    not_less : (x : ℕ) → nat_lt x 0 ≡ false
    not_less x = le-ltb x 0 (omega arith)

    link_now : (x : ℕ) → link_of new.links x ≡ slice_get links x
    link_now x = laid.links_now x ∙ ap (λ b. if b then link_of old.links x else slice_get links (x - 0)) (not_less x) ∙ (let e : x - 0 ≡ x = omega arith in ap (slice_get links) e)

    content_now : (x : ℕ) (d : Dir) → content_of now x d ≡ option_map {U = List EntryNo × Option ℕ} (λ l. ([], aim_for n x d l)) (slice_get links x)
    content_now x d = laid.content x d ∙ ap (λ b. if b then content_of was x d else option_map {U = List EntryNo × Option ℕ} (λ l. ([], aim_for n x d l)) (slice_get links (x - 0))) (not_less x)
        ∙ (let e : x - 0 ≡ x = omega arith in ap (λ j. option_map {U = List EntryNo × Option ℕ} (λ l. ([], aim_for n x d l)) (slice_get links j)) e)

    pub are_opened : AreOpened links bare
    are_opened = record { links_now = link_now; content = content_now }

    aim_of_content : (o : Option Waiting) → option_map (λ (w : Waiting). w.aim) o ≡ option_map (λ (z : List EntryNo × Option ℕ). z.1) (option_map {U = List EntryNo × Option ℕ} (λ (w : Waiting). (w.numbers, w.aim)) o)
    aim_of_content None = refl
    aim_of_content (Some w) = refl

    aims_of : (x : ℕ) (d : Dir) (o : Option Link) → option_map (λ (z : List EntryNo × Option ℕ). z.1) (option_map {U = List EntryNo × Option ℕ} (λ l. ([], aim_for n x d l)) o) ≡ option_map (aim_for n x d) o
    aims_of x d None = refl
    aims_of x d (Some l) = refl

    living : (x : ℕ) → nat_lt x (length outs) ≡ option_map_or (lives []) (channel_at n x) false
    living x =
        at (nat_lt x (length outs))
        ∙ sym (ap (λ os. option_map_or (lives []) (channel_at (record { outs = os; counts = n.counts; spare = n.spare }) x) false) same
        ∙ ap (λ cs. option_map_or (lives []) (channel_at (record { outs = outs; counts = cs; spare = n.spare }) x) false) none)
      where
        at : (b : Bool) → b ≡ option_map_or (lives []) (if b then Some (Environment x) else option_map (λ (q : ℕ × ℕ). Own q.0 q.1) (if b then None else None)) false
        at true = refl
        at false = refl

    pub bare_tied : IsTied bare
    bare_tied = record {
      numbered = ap length none;
      held_bodies = ap length no_bodies;
      bodies = λ c. ap (λ b. is_some (body_at b c)) no_bodies;
      rows = λ c. refl;
      links = λ x. ap is_some (link_now x) ∙ get_some links x ∙ ap (nat_lt x) long ∙ living x;
      queues = λ x d. aim_of_content (queue_of now x d) ∙ ap (option_map (λ (z : List EntryNo × Option ℕ). z.1)) (content_now x d) ∙ aims_of x d (slice_get links x) ∙ ap (option_map (aim_for n x d)) (sym (link_now x));
    }

-- ---- which directions lead out

module _ (S : Declarations) (v : Parts) where
  abbrev root_ports : List PortDecl
  root_ports = (kind_of S S.root.kind).ports

  pub out_at : (x : ℕ) → slice_get (port_outs root_ports) x ≡ option_map (λ (p : PortDecl). out_of p.provided) (slice_get root_ports x)
  out_at x = slice_get-map (λ (p : PortDecl). out_of p.provided) root_ports x

  pub out_is : v.numbers.outs ≡ port_outs root_ports → (x : ℕ) (d : Dir) → leads_out v.numbers x d ≡ goes_out S x d
  unfolding model
  out_is outs x d =
      ap (λ os. option_map_or (λ e. same_dir e d) (slice_get os x) false) outs ∙ ap (λ o. option_map_or (λ e. same_dir e d) o false) (out_at x) ∙ at d (slice_get root_ports x)
    where
      by : (d : Dir) (b : Bool) → same_dir (out_of b) d ≡ not (agree b (is_plus (opposite d)))
      by Plus true = refl
      by Plus false = refl
      by Minus true = refl
      by Minus false = refl

      at : (d : Dir) (o : Option PortDecl) → option_map_or (λ e. same_dir e d) (option_map (λ (p : PortDecl). out_of p.provided) o) false ≡ option_map_or (λ (p : PortDecl). not (agree p.provided (is_plus (opposite d)))) o false
      at d None = refl
      at d (Some p) = by d p.provided

-- ---- what it is for a system

module _ (S : Declarations) (v : Parts) (tree : v.tree ≡ record { instances = []; spare = 0 }) (no_rows : v.rows ≡ []) (no_bodies : v.bodies.bodies ≡ []) where
  abbrev ports : List PortDecl
  ports = (kind_of S S.root.kind).ports

  module _ (outs : v.numbers.outs ≡ port_outs ports) (counts : v.numbers.counts ≡ []) (opened : AreOpened (port_links (port_outs ports)) v) where
    link_is : (x : ℕ) → link_of v.wires.links x ≡ option_map (λ (p : PortDecl). link_out x (out_of p.provided)) (slice_get ports x)
    link_is x = opened.links_now x ∙ link_at (port_outs ports) x ∙ ap (option_map (link_out x)) (out_at S v x) ∙ at (slice_get ports x)
      where
        at : (o : Option PortDecl) → option_map (link_out x) (option_map (λ (p : PortDecl). out_of p.provided) o) ≡ option_map (λ (p : PortDecl). link_out x (out_of p.provided)) o
        at None = refl
        at (Some p) = refl

    seen_link : (x : ℕ) → option_map link_seen (link_of v.wires.links x) ≡ (if nat_lt x (length ports) then Some (record { plus = root_end S x Plus; minus = root_end S x Minus; held = false }) else None)
    unfolding model
    seen_link x =
        ap (option_map link_seen) (link_is x) ∙ at (slice_get ports x)
        ∙ ap (λ b. if b then Some (record { plus = root_end S x Plus; minus = root_end S x Minus; held = false }) else None) (get_some ports x)
      where
        by : (b : Bool) → Some (link_seen (link_out x (out_of b))) ≡ Some (record { plus = if agree b true then Some (root_half x) else None; minus = if agree b false then Some (root_half x) else None; held = false })
        by true = refl
        by false = refl

        at : (o : Option PortDecl) → option_map link_seen (option_map (λ (p : PortDecl). link_out x (out_of p.provided)) o)
            ≡ (if is_some o then Some (record { plus = option_and_then (λ (p : PortDecl). if agree p.provided true then Some (root_half x) else None) o; minus = option_and_then (λ (p : PortDecl). if agree p.provided false then Some (root_half x) else None) o; held = false }) else None)
        at None = refl
        at (Some p) = by p.provided

    abbrev queue_by : Bool → Option (List EntryNo × Option ℕ) → Option Queue
    queue_by out z = if out then None else option_map (λ (z : List EntryNo × Option ℕ). record { numbers = z.0; receiver = z.1 }) z

    seen_by : (out : Bool) (o : Option Waiting) → queue_in out o ≡ queue_by out (option_map {U = List EntryNo × Option ℕ} (λ (w : Waiting). (w.numbers, w.aim)) o)
    seen_by true o = refl
    seen_by false None = refl
    seen_by false (Some w) = refl

    fresh_queue : (x : ℕ) (d : Dir) (b : Bool) (o : Option Link) → leads_out v.numbers x d ≡ b
        → queue_by b (option_map {U = List EntryNo × Option ℕ} (λ l. ([], aim_for v.numbers x d l)) o) ≡ (if b then None else option_map (empty_queue d) (option_map link_seen o))
    fresh_queue x d true o h = refl
    fresh_queue x d false None h = refl
    fresh_queue x d false (Some l) h = ap (λ b. Some (record { numbers = []; receiver = if b then None else receiver_of d (link_seen l) })) h

    pub is_opened : IsOpened S (state_of v)
    unfolding state_of
    is_opened = record {
      nodes = ap (λ (t : Forest). map node_seen t.instances) tree;
      living = λ c. ap (λ (t : Forest). is_alive t.instances c) tree;
      child = λ c s. ap (λ (t : Forest). occupant t.instances c s) tree;
      links_now = seen_link;
      queues = λ x d.
          seen_by (leads_out v.numbers x d) (queue_of v.slots x d) ∙ ap (queue_by (leads_out v.numbers x d)) (opened.content x d)
          ∙ fresh_queue x d (leads_out v.numbers x d) (slice_get (port_links (port_outs ports)) x) refl
          ∙ ap (λ o. if leads_out v.numbers x d then None else option_map (empty_queue d) (option_map link_seen o)) (sym (opened.links_now x))
          ∙ ap (λ b. if b then None else option_map (empty_queue d) (option_map link_seen (link_of v.wires.links x))) (out_is S v outs x d);
      controls = λ c. ap (λ rs. option_map row_seen (living_of rs c)) no_rows;
      bodies = λ c. ap (λ b. body_at b c) no_bodies;
    }

    pub is_of : IsOf S v
    unfolding IsOf state_of
    is_of = record { outs = outs; counts = counts ∙ sym (ap (λ (t : Forest). map (λ k. length (kind_of S k).channels) (map (λ (n : Node). n.kind) (map node_seen t.instances))) tree) }
