-- The lines of an entry, by what is known and the parts of its text.
use Rattle.std.proofs.Common.{◌≡◌, ℕ, true, refl, sym, ap, ◌∙◌, List, [], ◌∷◌, ◌++◌, length, Option, Some, None, ◌⊎◌, inl, inr}
use Rattle.std.specs.Prelude.{map, codes, is_some}
use Rattle.std.specs.List.{enumerate_from}
use Rattle.std.proofs.lemmas.List.{append_assoc, append-nil}
use Rattle.std.proofs.lemmas.Grind.{flat_map-append}
use Rattle.kom_lang.specs.Declarations.{Declarations}
use Rattle.kom_lang.specs.declared.kind.Kind.{Kind}
use Rattle.kom_record.specs.declared.item.Item.{Item}
use Rattle.kom_record.specs.declared.entry.Outcome.{Outcome}
use Rattle.kom_record.specs.declared.entry.Outcome.TheVariants as outcome
use Rattle.kom_record.specs.declared.entry.Release.{Release}
use Rattle.kom_record.specs.declared.entry.Entry.TheVariants.{Took, Did, Moved}
use Rattle.kom_record.specs.Entries.{History, acts, acts_for, item_at}
use Rattle.kom_record.specs.Trace.{Text, word, number, indented, joined, item_text, entry_line, outcome_text, outcome_lines, entry_lines, release_line, type_of}
use Rattle.kom_laws.proofs.ActLaws.{acts_void, acts_fault, acts_done}
use Rattle.kom_scribe.specs.declared.draft.Draft.{Draft}
use Rattle.kom_scribe.specs.declared.known.Known.{Known}
use Rattle.kom_scribe.specs.Drafts.{kinds_with, type_among, IsAfter}
use Rattle.kom_scribe.specs.Entries.{EndsTaken, effects_of}
use Rattle.kom_scribe.proofs.Told.{type_is, no_lines}

there_is : (o : Option Item) → is_some o ≡ true → (x : Item) × (o ≡ Some x)
there_is None e = absurd cc
there_is (Some x) e = (x, refl)

-- the item whose job is ended
pub item_taken : (P : History) (w c took : ℕ) (o : Outcome) (to : Option ℕ) (places : List ℕ) → EndsTaken P (Did w c took o to places) → (item : Item) × (item_at P took ≡ Some item)
item_taken P w c took o to places e = there_is (item_at P took) e

module _ (names : List Text) (S : Declarations) (P : History) where
  joined_both : (a b : List Text) → joined (a ++ b) ≡ joined a ++ joined b
  unfolding joined
  joined_both a b = flat_map-append (λ line. line ++ 10 ∷ []) a b

  pub no_outcome_lines : (c : ℕ) (item : Item) (to : Option ℕ) (o : Outcome) (t : Text) → (o ≡ outcome.Void) ⊎ ((n : ℕ) × (o ≡ outcome.Fault n)) → t ≡ t ++ joined (outcome_lines names S P c (Some item) to o)
  no_outcome_lines c item to o t (inl e) = no_lines t ∙ ap (λ x. t ++ joined (outcome_lines names S P c (Some item) to x)) (sym e)
  no_outcome_lines c item to o t (inr e) = no_lines t ∙ ap (λ x. t ++ joined (outcome_lines names S P c (Some item) to x)) (sym e.1)

  pub took_lines : (k : Known) (d : Draft) (w c p m position : ℕ) (item : Item) (kind : Kind) (t new : Text) → p ≡ c → m ≡ c → length P ≡ position → IsAfter S k d (acts P) → kind ≡ type_among S (kinds_with k d) p
      → new ≡ t ++ (entry_line position w (word (codes "took") ++ number m ++ item_text names kind item) ++ 10 ∷ [])
      → new ≡ t ++ joined (entry_lines names S P (Took w c item))
  unfolding entry_lines joined
  took_lines k d w c p m position item kind t new pc mc at h e f =
      f
      ∙ ap (λ n. t ++ (entry_line position w (word (codes "took") ++ number n ++ item_text names kind item) ++ 10 ∷ [])) mc
      ∙ ap (λ (x : Kind). t ++ (entry_line position w (word (codes "took") ++ number c ++ item_text names x item) ++ 10 ∷ [])) (e ∙ ap (type_among S (kinds_with k d)) pc ∙ type_is names S k d (acts P) c h)
      ∙ ap (λ n. t ++ (entry_line n w (word (codes "took") ++ number c ++ item_text names (type_of names S (acts P) c) item) ++ 10 ∷ [])) (sym at)
      ∙ ap (λ u. t ++ u) (sym (append-nil (entry_line (length P) w (word (codes "took") ++ number c ++ item_text names (type_of names S (acts P) c) item) ++ 10 ∷ [])))

  pub moved_lines : (w time position : ℕ) (released : List Release) (t new : Text) → length P ≡ position
      → new ≡ t ++ ((entry_line position w (word (codes "moved") ++ number time) ++ 10 ∷ []) ++ joined (map (release_line names S) (enumerate_from 0 released)))
      → new ≡ t ++ joined (entry_lines names S P (Moved w time released))
  unfolding entry_lines joined
  moved_lines w time position released t new at f =
      f ∙ ap (λ n. t ++ ((entry_line n w (word (codes "moved") ++ number time) ++ 10 ∷ []) ++ joined (map (release_line names S) (enumerate_from 0 released)))) (sym at)

  pub did_lines : (w c took position : ℕ) (o : Outcome) (to : Option ℕ) (places : List ℕ) (item : Item) (t t1 t2 t3 : Text) → length P ≡ position → item_at P took ≡ Some item
      → t1 ≡ t ++ (entry_line position w (word (codes "did") ++ number c ++ outcome_text names S o to) ++ 10 ∷ [])
      → t2 ≡ t1 ++ joined (outcome_lines names S P c (Some item) to o)
      → t3 ≡ t2 ++ joined (map (λ q. indented (codes "unreached" ++ number q)) places)
      → t3 ≡ t ++ joined (entry_lines names S P (Did w c took o to places))
  unfolding entry_lines joined
  did_lines w c took position o to places item t t1 t2 t3 at it e f g =
      let head = λ (n : ℕ). entry_line n w (word (codes "did") ++ number c ++ outcome_text names S o to) in
      let mid = λ (i : Option Item). outcome_lines names S P c i to o in
      let last = map (λ q. indented (codes "unreached" ++ number q)) places in
      g
      ∙ ap (λ u. u ++ joined last) f
      ∙ ap (λ u. (u ++ joined (mid (Some item))) ++ joined last) e
      ∙ ap (λ n. ((t ++ (head n ++ 10 ∷ [])) ++ joined (mid (Some item))) ++ joined last) (sym at)
      ∙ ap (λ i. ((t ++ (head (length P) ++ 10 ∷ [])) ++ joined (mid i)) ++ joined last) (sym it)
      ∙ ap (λ u. u ++ joined last) (append_assoc t (head (length P) ++ 10 ∷ []) (joined (mid (item_at P took))))
      ∙ append_assoc t ((head (length P) ++ 10 ∷ []) ++ joined (mid (item_at P took))) (joined last)
      ∙ ap (λ u. t ++ u) (sym (joined_both (head (length P) ∷ mid (item_at P took)) last))

  -- ---- the acts of an entry

  pub did_acts : (w c took : ℕ) (o : Outcome) (to : Option ℕ) (places : List ℕ) (item : Item) → item_at P took ≡ Some item → acts_for c (Some item) (effects_of o) ++ acts P ≡ acts (Did w c took o to places ∷ P)
  did_acts w c took outcome.Void to places item e = sym (acts_void P w c took to places)
  did_acts w c took (outcome.Fault n) to places item e = sym (acts_fault P w c took n to places)
  did_acts w c took (outcome.Done body effects) to places item e = sym (acts_done P w c took body effects to places item e)
