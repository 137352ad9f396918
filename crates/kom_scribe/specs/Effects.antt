-- The text of an effect by what it is made of.
use Rattle.std.specs.Prelude.{ℕ, List, [], ◌++◌, length, Option, Some, None, codes}
use Rattle.std.specs.Option.{option_map_or}
use Rattle.kom_base.specs.declared.numbers.Dir.{Dir}
use Rattle.kom_lang.specs.Declarations.{Declarations, kind_of}
use Rattle.kom_lang.specs.declared.kind.Kind.{Kind}
use Rattle.kom_lang.specs.declared.kind.Place.{Place}
use Rattle.kom_lang.specs.declared.body.Birth.{Birth}
use Rattle.kom_lang.specs.declared.body.Effect.{Effect}
use Rattle.kom_lang.specs.declared.body.Effect.TheVariants as effect
use Rattle.kom_record.specs.Trace.{Text, word, number, dotted, direction, number_or_none, port_name, slot_name, channel_name, event_text, birth_text}
use Rattle.kom_scribe.specs.declared.draft.Draft.{Draft}
use Rattle.kom_scribe.specs.declared.known.Known.{Known}
use Rattle.kom_scribe.specs.Drafts.{occupant_in, known_occupant, kinds_with, type_among}

-- the occupant of slot s of p, with a draft
abbrev pub occupant_with : Known → Draft → ℕ → ℕ → Option ℕ
occupant_with k d p s = occupant_in p s (length k.kinds.items) (known_occupant k p s) d.changes.items

-- a place of an instance c of type `kind`; `occupant` gives who is in a slot of c, `type` the type of an instance
abbrev pub place_by : (ℕ → Option ℕ) → (ℕ → Kind) → Kind → Place → Text
place_by occupant type kind p =
    elim p.slot [
      | None ↦ dotted (codes "self") (port_name kind p.port)
      | Some s ↦ dotted (slot_name kind s) (option_map_or (λ q. port_name (type q) p.port) (occupant s) [])
    ]

module _ (names : List Text) (S : Declarations) where
  abbrev pub create_by : Text → Text → ℕ → Birth → Text
  create_by slot kind n birth = codes "create" ++ word slot ++ word kind ++ number n ++ birth_text names S birth

  abbrev pub end_by : Text → Text → Dir → Text
  end_by verb channel e = verb ++ word (dotted channel (direction e))

  -- an effect of an instance of type `kind`, where the next new instance has the number n and `place` gives the text of a place
  abbrev pub effect_by : Kind → ℕ → (Place → Text) → Option ℕ → Effect → Text
  effect_by kind n place to (effect.Trigger port event) = codes "trigger" ++ word (port_name kind port) ++ event_text names event
  effect_by kind n place to (effect.Answer event) = codes "answer" ++ event_text names event
  effect_by kind n place to (effect.Create slot created birth) = create_by (slot_name kind slot) (kind_of S created).name n birth
  effect_by kind n place to (effect.Start slot) = codes "start" ++ word (slot_name kind slot)
  effect_by kind n place to (effect.Stop slot) = codes "stop" ++ word (slot_name kind slot)
  effect_by kind n place to (effect.Destroy slot) = codes "destroy" ++ word (slot_name kind slot)
  effect_by kind n place to (effect.Dump slot) = codes "dump" ++ word (slot_name kind slot)
  effect_by kind n place to (effect.Hold k) = codes "hold" ++ word (channel_name kind k)
  effect_by kind n place to (effect.Resume k) = codes "resume" ++ word (channel_name kind k)
  effect_by kind n place to (effect.Unplug k e) = end_by (codes "unplug") (channel_name kind k) e
  effect_by kind n place to (effect.Plug k e p) = end_by (codes "plug") (channel_name kind k) e ++ word (place p)
  effect_by kind n place to effect.Escalate = codes "escalate to" ++ number_or_none to

  -- the same with what is known and a draft
  abbrev pub effect_with : Known → Draft → ℕ → Option ℕ → Effect → Text
  effect_with k d c to e =
      effect_by (type_among S (kinds_with k d) c) (length (kinds_with k d))
      (place_by (occupant_with k d c) (type_among S (kinds_with k d)) (type_among S (kinds_with k d) c)) to e
