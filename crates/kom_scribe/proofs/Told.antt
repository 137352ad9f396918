-- The text of effects by what is known is that of the definition.
use Rattle.std.proofs.Common.{◌≡◌, ℕ, zero, suc, ◌+◌, ◌<◌, refl, sym, subst, ap, ◌∙◌, List, [], ◌∷◌, ◌++◌, length, take, get_or, Option, Some}
use Rattle.std.specs.Prelude.{map, reverse, slice_get}
use Rattle.std.specs.Option.{option_map_or}
use Rattle.std.proofs.lemmas.List.{append_assoc, append-nil, reverse-append, take_more, flat_map_more}
use Rattle.kom_lang.specs.Declarations.{Declarations, kind_of, no_kind}
use Rattle.kom_lang.specs.declared.body.Effect.{Effect}
use Rattle.kom_lang.specs.declared.body.Effect.TheVariants as effect
use Rattle.kom_record.specs.declared.item.Item.{Item}
use Rattle.kom_record.specs.Entries.{Act, acts_for}
use Rattle.kom_record.specs.Instances.{Instance, born, occupant}
use Rattle.kom_record.specs.Trace.{Text, indented, joined, type_of, effect_text, effect_lines}
use Rattle.kom_scribe.specs.declared.draft.Draft.{Draft}
use Rattle.kom_scribe.specs.declared.known.Known.{Known}
use Rattle.kom_scribe.specs.Drafts.{kinds_with, type_among, IsAfter}
use Rattle.kom_scribe.specs.Effects.{place_by, effect_by, effect_with}
use Rattle.kom_scribe.proofs.Changes.{counted_as_born}

kind_at : (S : Declarations) (is : List Instance) (c : ℕ) → type_among S (map (λ (i : Instance). i.kind) is) c ≡ option_map_or (λ (i : Instance). kind_of S i.kind) (slice_get is c) no_kind
kind_at S [] c = refl
kind_at S (i ∷ is) zero = refl
kind_at S (i ∷ is) (suc c) = kind_at S is c

-- a line is made of its indent, its text and its end
pub line_of : (t t1 t2 t3 x y : Text) → t1 ≡ t ++ 32 ∷ 32 ∷ [] → t2 ≡ t1 ++ x → t3 ≡ t2 ++ 10 ∷ [] → x ≡ y → t3 ≡ t ++ (indented y ++ 10 ∷ [])
line_of t t1 t2 t3 x y a b d e =
    d ∙ ap (λ u. u ++ 10 ∷ []) b ∙ ap (λ u. (u ++ x) ++ 10 ∷ []) a ∙ ap (λ u. u ++ 10 ∷ []) (append_assoc t (32 ∷ 32 ∷ []) x) ∙ append_assoc t (indented x) (10 ∷ []) ∙ ap (λ u. t ++ (indented u ++ 10 ∷ [])) e

pub no_lines : (t : Text) → t ≡ t ++ joined []
unfolding joined
no_lines t = sym (append-nil t)

module _ (names : List Text) (S : Declarations) where
  pub type_is : (k : Known) (d : Draft) (done : List Act) (c : ℕ) → IsAfter S k d done → type_among S (kinds_with k d) c ≡ type_of names S done c
  type_is k d done c h = ap (λ ks. type_among S ks c) h.kinds ∙ kind_at S (born S done) c

  same : (done : List Act) (c : ℕ) (to : Option ℕ) (e : Effect)
      → effect_by names S (type_of names S done c) (length (born S done)) (place_by (occupant S done c) (type_of names S done) (type_of names S done c)) to e ≡ effect_text names S done c to e
  same done c to (effect.Trigger port event) = refl
  same done c to (effect.Answer event) = refl
  same done c to (effect.Create slot kind birth) = refl
  same done c to (effect.Start slot) = refl
  same done c to (effect.Stop slot) = refl
  same done c to (effect.Destroy slot) = refl
  same done c to (effect.Dump slot) = refl
  same done c to (effect.Hold x) = refl
  same done c to (effect.Resume x) = refl
  same done c to (effect.Unplug x e) = refl
  same done c to (effect.Plug x e p) = refl
  same done c to effect.Escalate = refl

  pub told : (k : Known) (d : Draft) (done : List Act) (c : ℕ) (to : Option ℕ) (e : Effect) → IsAfter S k d done → effect_with names S k d c to e ≡ effect_text names S done c to e
  told k d done c to e h =
      (λ t. effect_by names S (type_is k d done c h t) (counted_as_born S k d done h t) (place_by (λ s. h.occupants c s t) (λ q. type_is k d done q h t) (type_is k d done c h t)) to e)
      ∙ same done c to e

  pub nothing_told : (done : List Act) (c : ℕ) (item : Item) (to : Option ℕ) (t : Text) → t ≡ t ++ joined (effect_lines names S done c (Some item) to [])
  unfolding effect_lines
  nothing_told done c item to t = no_lines t

  -- ---- the lines of one effect more

  pub first_act : (c : ℕ) (item : Item) (e : Effect) (es : List Effect) (done : List Act) → acts_for c (Some item) es ++ (acts_for c (Some item) (e ∷ []) ++ done) ≡ acts_for c (Some item) (e ∷ es) ++ done
  first_act c item e es done =
      let act : Effect → Act = λ x. record { by = c; item = item; effect = x } in
      sym (append_assoc (reverse (map act es)) (reverse (act e ∷ [])) done) ∙ ap (λ l. l ++ done) (sym (reverse-append (act e ∷ []) (map act es)))

  last_act : (c : ℕ) (item : Item) (es : List Effect) (e : Effect) (done : List Act) → acts_for c (Some item) (e ∷ []) ++ (acts_for c (Some item) es ++ done) ≡ acts_for c (Some item) (es ++ e ∷ []) ++ done
  last_act c item [] e done = refl
  last_act c item (x ∷ es) e done =
      ap (λ l. acts_for c (Some item) (e ∷ []) ++ l) (sym (first_act c item x es done))
      ∙ last_act c item es e (acts_for c (Some item) (x ∷ []) ++ done)
      ∙ first_act c item x (es ++ e ∷ []) done

  lines_more : (done : List Act) (c : ℕ) (item : Item) (to : Option ℕ) (es : List Effect) (e : Effect)
      → effect_lines names S done c (Some item) to (es ++ e ∷ []) ≡ effect_lines names S done c (Some item) to es ++ indented (effect_text names S (acts_for c (Some item) es ++ done) c to e) ∷ []
  unfolding effect_lines
  lines_more done c item to [] e = refl
  lines_more done c item to (x ∷ es) e =
      ap (λ ls. indented (effect_text names S done c to x) ∷ ls)
      (lines_more (acts_for c (Some item) (x ∷ []) ++ done) c item to es e
      ∙ ap (λ l. effect_lines names S (acts_for c (Some item) (x ∷ []) ++ done) c (Some item) to es ++ indented (effect_text names S l c to e) ∷ []) (first_act c item x es done))

  joined_more : (start : Text) (lines : List Text) (line : Text) → (start ++ joined lines) ++ (line ++ 10 ∷ []) ≡ start ++ joined (lines ++ line ∷ [])
  unfolding joined
  joined_more start lines line = flat_map_more (λ (l : Text). l ++ 10 ∷ []) start lines line

  -- a turn of a loop over effects
  pub one_line_more : (done : List Act) (c : ℕ) (item : Item) (to : Option ℕ) (es : List Effect) (i : ℕ) (x : Effect) (start now next : Text) → i < length es
      → now ≡ start ++ joined (effect_lines names S done c (Some item) to (take i es))
      → next ≡ now ++ (indented (effect_text names S (acts_for c (Some item) (take i es) ++ done) c to (get_or es i x)) ++ 10 ∷ [])
      → next ≡ start ++ joined (effect_lines names S done c (Some item) to (take (i + 1) es))
  one_line_more done c item to es i x start now next l e f =
      f
      ∙ ap (λ t. t ++ (indented (effect_text names S (acts_for c (Some item) (take i es) ++ done) c to (get_or es i x)) ++ 10 ∷ [])) e
      ∙ joined_more start (effect_lines names S done c (Some item) to (take i es)) (indented (effect_text names S (acts_for c (Some item) (take i es) ++ done) c to (get_or es i x)))
      ∙ ap (λ ls. start ++ joined ls) (sym (lines_more done c item to (take i es) (get_or es i x)))
      ∙ ap (λ ys. start ++ joined (effect_lines names S done c (Some item) to ys)) (sym (take_more es i x l))

  pub one_act_more : (k : Known) (d : Draft) (done : List Act) (c : ℕ) (item : Item) (es : List Effect) (i : ℕ) (x : Effect) → i < length es
      → IsAfter S k d (acts_for c (Some item) (get_or es i x ∷ []) ++ (acts_for c (Some item) (take i es) ++ done)) → IsAfter S k d (acts_for c (Some item) (take (i + 1) es) ++ done)
  one_act_more k d done c item es i x l h =
      subst (IsAfter S k d) (last_act c item (take i es) (get_or es i x) done ∙ ap (λ ys. acts_for c (Some item) ys ++ done) (sym (take_more es i x l))) h
