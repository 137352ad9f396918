-- The bodies that a record leaves, and who is told of a fault.
use Rattle.std.specs.Prelude.{ℕ, ◌+◌, Bool, false, ◌==◌, if◌then◌else◌, List, [], ◌∷◌, length, slice_get, Option, Some, None}
use Rattle.std.specs.List.{list_any, find, filter_map}
use Rattle.std.specs.Option.{option_map, option_map_or}
use Rattle.kom_lang.specs.Declarations.{Declarations, kind_of, handler_of, is_fault}
use Rattle.kom_lang.specs.Bodies.{first_body}
use Rattle.kom_lang.specs.declared.body.Body.{Body}
use Rattle.kom_record.specs.declared.entry.Outcome.{Outcome}
use Rattle.kom_record.specs.declared.entry.Entry.{Entry}
use Rattle.kom_record.specs.declared.entry.Entry.TheVariants.{Did}
use Rattle.kom_record.specs.Entries.{History, acts}
use Rattle.kom_record.specs.Instances.{born, ancestry_of}
use Rattle.kom_record.specs.Reaction.{body_after}

-- the outcome of the entry, where it is a Did of c
abbrev pub outcome_of : ℕ → Entry → Option Outcome
outcome_of c (Did w d took outcome to unreached) = if d == c then Some outcome else None
outcome_of c e = None

-- the body after these outcomes, of which the latest stands first
abbrev pub body_after_all : Body → List Outcome → Body
body_after_all b [] = b
body_after_all b (o ∷ os) = body_after (body_after_all b os) o

module _ (S : Declarations) where
  -- the body of c after its first one went through each of its outcomes; none where c was not created
  unfoldable pub body_at : History → ℕ → Option Body
  body_at P c = option_map
      (λ i. body_after_all (first_body S i.kind i.birth (1 + length i.ancestry)) (filter_map (outcome_of c) P))
      (slice_get (born S (acts P)) c)

  -- the body has a fault handler subscribed
  unfoldable pub catches : Body → Bool
  catches b = list_any (λ h. option_map_or (λ x. is_fault x.on) (handler_of (kind_of S b.kind) h) false) b.subs

  unfoldable pub catches_at : History → ℕ → Bool
  catches_at P c = option_map_or catches (body_at P c) false

  -- who is told of a fault of c: the closest proper ancestor that has a fault handler subscribed,
  -- with the number of its slot that contains c; none where no ancestor has one
  unfoldable pub nearest : History → ℕ → Option (ℕ × ℕ)
  nearest P c = find (λ q. catches_at P q.0) (ancestry_of S (born S (acts P)) c)
