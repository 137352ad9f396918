-- What is planted of the instances of a tree.
use Rattle.std.specs.Prelude.{ℕ, ◌||◌, List, map, Option, Some, None, is_none}
use Rattle.std.specs.List.{enumerate_from, flat_map}
use Rattle.std.specs.Option.{option_map, option_and_then}
use Rattle.kom_base.specs.declared.numbers.Half.{Half}
use Rattle.kom_base.specs.declared.numbers.Side.TheVariants.{Outside, Inside}
use Rattle.kom_base.specs.Lists.{first}
use Rattle.kom_lang.specs.Declarations.{Declarations, kind_of}
use Rattle.kom_lang.specs.Bodies.{first_body}
use Rattle.kom_lang.specs.declared.kind.ChannelDecl.{ChannelDecl}
use Rattle.kom_lang.specs.declared.kind.Place.{Place}
use Rattle.kom_record.specs.Controls.{inits_by}
use Rattle.kom_wiring.specs.declared.link.Link.{Link}
use Rattle.kom_births.specs.declared.seed.Seed.{Seed}
use Rattle.kom_births.specs.declared.sprout.Sprout.{Sprout}
use Rattle.kom_births.specs.Sprouts.{child_in}

-- the first of the sprouts has the number n
module _ (n : ℕ) (sprouts : List Sprout) where
  -- the half that a place of the instance c names: the inside of an own port, or the outside of a port of
  -- the child that c is created with in a slot
  abbrev pub half_in : ℕ → Place → Option Half
  half_in c p =
      elim p.slot [
        | None ↦ Some (record { comp = c; port = p.port; side = Inside })
        | Some s ↦ option_map (λ q. record { comp = q; port = p.port; side = Outside }) (child_in c s n sprouts)
      ]

  -- a channel as it is declared; with a free end it is held
  abbrev pub link_in : ℕ → ChannelDecl → Link
  link_in c d = record { plus = option_and_then (half_in c) d.plus; minus = option_and_then (half_in c) d.minus; held = is_none d.plus || is_none d.minus }

  abbrev pub seed_in : Declarations → ℕ × Sprout → Seed
  seed_in S q = record {
    place = option_map (λ a. (a.comp, a.slot)) q.1.seat;
    body = first_body S q.1.kind q.1.birth q.1.depth;
    init = first (inits_by S q.1.kind q.1.birth);
    links = map (link_in q.0) (kind_of S q.1.kind).channels;
  }

  -- what is planted of all of them
  abbrev pub seeds_in : Declarations → List Seed
  seeds_in S = map (seed_in S) (enumerate_from n sprouts)

-- the channels of what is planted, one after another
abbrev pub links_of : List Seed → List Link
links_of seeds = flat_map (λ s. s.links) seeds
