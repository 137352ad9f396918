-- Texts that are written piece by piece.
use Rattle.std.proofs.Common.{◌≡◌, ℕ, zero, suc, ◌+◌, ◌<◌, ◌≤◌, refl, sym, ap, ◌∙◌, subst, List, [], ◌∷◌, ◌++◌, length, take, drop, get_or, Option, Some, None, arith}
use Rattle.std.specs.Prelude.{reverse, slice_get, codes, if◌then◌else◌}
use Rattle.std.specs.Option.{option_map}
use Rattle.std.proofs.Math.Logic.{∥∥₁_map}
use Rattle.std.proofs.Math.Seq.{take-append-add}
use Rattle.std.proofs.lemmas.List.{append_assoc, append-nil, length-append, take_more, take_all, take-append-drop, take-append-le, reverse-append, reverse-reverse, length-reverse}
use Rattle.std.proofs.lemmas.Grind.{flat_map-append}
use Rattle.std.proofs.lemmas.Option.{get_or_from_slice_get}
use Rattle.kom_io.specs.Texts.{AddsPrefix}
use Rattle.kom_lang.specs.Declarations.{Declarations}
use Rattle.kom_record.specs.declared.plan.Plan.{Plan}
use Rattle.kom_record.specs.declared.entry.Entry.{Entry}
use Rattle.kom_record.specs.Entries.{History, entry_at}
use Rattle.kom_record.specs.Legal.{IsLegal}
use Rattle.kom_record.specs.Trace.{Text, entry_lines, record_lines, end_lines, joined, trace_lines, trace_text}
use Rattle.kom_record.specs.Ready.{is_finished}
use Rattle.kom_record.proofs.Positions.{entry_at-reverse}
use Rattle.kom_laws.proofs.Handlings.{legal_before}
use Rattle.kom_trace.specs.declared.writing.Traced.{Traced}
use Rattle.kom_trace.specs.declared.writing.Traced.TheVariants.{Whole, WriteFault, Memory}
use Rattle.kom_trace.specs.Counting.{first_entries}
use Rattle.kom_trace.specs.Seen.{end_text, Traces, Gathers}

-- ---- pieces

added_twice : (w : Option (List ℕ)) (a b : List ℕ) → option_map (λ (t : List ℕ). t ++ b) (option_map (λ (t : List ℕ). t ++ a) w) ≡ option_map (λ (t : List ℕ). t ++ (a ++ b)) w
added_twice None a b = refl
added_twice (Some t) a b = ap Some (append_assoc t a b)

added_nothing : (w : Option (List ℕ)) → option_map (λ (t : List ℕ). t ++ []) w ≡ w
added_nothing None = refl
added_nothing (Some t) = ap Some (append-nil t)

-- nothing is a prefix
pub nothing : (text : Text) (w : Option (List ℕ)) → AddsPrefix text w w
nothing text w = (0, omega arith, sym (added_nothing w))

-- a prefix of the first piece is one of all
pub front : (a b : Text) (before after : Option (List ℕ)) → AddsPrefix a before after → AddsPrefix (a ++ b) before after
front a b before after h = (h.0, omega (arith, h.1, length-append a b), h.2 ∙ ap (λ t. option_map (λ (w : List ℕ). w ++ t) before) (sym (take-append-le h.0 a b h.1)))

-- a piece, and a prefix of what follows
behind : (a b : Text) (before mid after : Option (List ℕ)) → mid ≡ option_map (λ (w : List ℕ). w ++ a) before → AddsPrefix b mid after → AddsPrefix (a ++ b) before after
behind a b before mid after e h = (
  length a + h.0,
  omega (arith, h.1, length-append a b),
  h.2 ∙ ap (option_map (λ (w : List ℕ). w ++ take h.0 b)) e ∙ added_twice before a (take h.0 b) ∙ ap (λ t. option_map (λ (w : List ℕ). w ++ t) before) (sym (take-append-add a b h.0)),
)

pub next_piece : (r : Traced) (a b : Text) (before mid after : Option (List ℕ)) → mid ≡ option_map (λ (w : List ℕ). w ++ a) before → Traces r b mid after → Traces r (a ++ b) before after
next_piece Whole a b before mid after e h = h ∙ ap (option_map (λ (w : List ℕ). w ++ b)) e ∙ added_twice before a b
next_piece WriteFault a b before mid after e h = behind a b before mid after e h
next_piece Memory a b before mid after e h = behind a b before mid after e h

-- ---- the entries, the oldest first

-- the first entries and those behind them
split_at : (n : ℕ) (R : History) → R ≡ reverse (drop n (reverse R)) ++ first_entries n R
split_at n R = sym (reverse-reverse R) ∙ ap reverse (sym (take-append-drop n (reverse R))) ∙ reverse-append (take n (reverse R)) (drop n (reverse R))

pub first_legal : (S : Declarations) (Z : Plan) (n : ℕ) (R : History) → ∥ IsLegal S Z R ∥₁ → ∥ IsLegal S Z (first_entries n R) ∥₁
first_legal S Z n R l = ∥∥₁_map l (λ k. legal_before S Z (reverse (drop n (reverse R))) (first_entries n R) (subst (IsLegal S Z) (split_at n R) k))

past : (xs : List Entry) (i : ℕ) → slice_get xs i ≡ None → length xs ≤ i
past [] i e = omega arith
past (x ∷ xs) zero e = absurd cc
past (x ∷ xs) (suc i) e = let l = past xs i e in omega (arith, l)

-- there is an entry at each position below the length
pub there_is : (R : History) (i : ℕ) → i < length R → entry_at R i ≡ None → ⊥
there_is R i l e = let p = past (reverse R) i (entry_at-reverse R i ∙ e) in absurd (omega (arith, l, p, length-reverse R))

-- one entry more
pub first_more : (n : ℕ) (R : History) (e : Entry) → n < length R → entry_at R n ≡ Some e → first_entries (n + 1) R ≡ e ∷ first_entries n R
first_more n R e l h =
    ap reverse (take_more (reverse R) n e (omega (arith, l, length-reverse R)))
    ∙ reverse-append (take n (reverse R)) (get_or (reverse R) n e ∷ [])
    ∙ ap (λ x. x ∷ first_entries n R) (get_or_from_slice_get (reverse R) n e e (entry_at-reverse R n ∙ h))

pub first_all : (n : ℕ) (R : History) → length R ≤ n → first_entries n R ≡ R
first_all n R l = ap reverse (take_all n (reverse R) (omega (arith, l, length-reverse R))) ∙ reverse-reverse R

pub entry_there : (R : History) (i : ℕ) → i < length R → (e : Entry) × (entry_at R i ≡ Some e)
entry_there R i l = at (entry_at R i) refl
  where
    at : (o : Option Entry) → entry_at R i ≡ o → (e : Entry) × (entry_at R i ≡ Some e)
    at None q = absurd (there_is R i l q)
    at (Some e) q = (e, q)

pub next_legal : (S : Declarations) (Z : Plan) (n : ℕ) (R : History) (e : Entry) → n < length R → entry_at R n ≡ Some e → ∥ IsLegal S Z R ∥₁ → ∥ IsLegal S Z (e ∷ first_entries n R) ∥₁
next_legal S Z n R e l h legal = subst (λ (Q : History). ∥ IsLegal S Z Q ∥₁) (first_more n R e l h) (first_legal S Z (n + 1) R legal)

-- ---- the lines of a record

module _ (names : List Text) (S : Declarations) where
  joined_both : (a b : List Text) → joined (a ++ b) ≡ joined a ++ joined b
  unfolding joined
  joined_both a b = flat_map-append (λ line. line ++ 10 ∷ []) a b

  pub lines_one_more : (e : Entry) (P : History) → joined (record_lines names S (e ∷ P)) ≡ joined (record_lines names S P) ++ joined (entry_lines names S P e)
  unfolding record_lines
  lines_one_more e P = joined_both (record_lines names S P) (entry_lines names S P e)

  -- the lines of the first entries are the front of all lines
  rest_of : (more P : History) → (rest : Text) × (joined (record_lines names S (more ++ P)) ≡ joined (record_lines names S P) ++ rest)
  rest_of [] P = ([], sym (append-nil (joined (record_lines names S P))))
  rest_of (e ∷ more) P =
      let r = rest_of more P in
      (r.0 ++ joined (entry_lines names S (more ++ P) e), lines_one_more e (more ++ P) ∙ ap (λ t. t ++ joined (entry_lines names S (more ++ P) e)) r.1 ∙ append_assoc (joined (record_lines names S P)) r.0 (joined (entry_lines names S (more ++ P) e)))

  pub lines_go_on : (n : ℕ) (R : History) → (rest : Text) × (joined (record_lines names S R) ≡ joined (record_lines names S (first_entries n R)) ++ rest)
  lines_go_on n R =
      let r = rest_of (reverse (drop n (reverse R))) (first_entries n R) in
      (r.0, ap (λ Q. joined (record_lines names S Q)) (split_at n R) ∙ r.1)

  pub text_is : (Z : Plan) (R : History) → trace_text names S Z R ≡ (codes "trace 1" ++ 10 ∷ []) ++ (joined (record_lines names S R) ++ end_text S Z R)
  unfolding trace_text trace_lines joined
  text_is Z R = ap (λ t. (codes "trace 1" ++ 10 ∷ []) ++ t) (joined_both (record_lines names S R) (if is_finished S Z R then end_lines S Z R else []))

  pub nothing_gathered : (t : Text) (w : Option (List ℕ)) → t ≡ [] → Gathers Whole (joined (record_lines names S [])) t w w
  unfolding record_lines joined
  nothing_gathered t w e = ([], sym e, sym (added_nothing w))

  module _ (n : ℕ) (R : History) (e : Entry) (within : n < length R) (at : entry_at R n ≡ Some e) (before mid after : Option (List ℕ)) (text kept : Text)
      (so_far : Gathers Whole (joined (record_lines names S (first_entries n R))) text before mid) where
    lines_next : joined (record_lines names S (first_entries (n + 1) R)) ≡ so_far.0 ++ (text ++ joined (entry_lines names S (first_entries n R) e))
    lines_next = ap (λ Q. joined (record_lines names S Q)) (first_more n R e within at) ∙ lines_one_more e (first_entries n R) ∙ ap (λ t. t ++ joined (entry_lines names S (first_entries n R) e)) so_far.1 ∙ append_assoc so_far.0 text (joined (entry_lines names S (first_entries n R) e))

    -- the lines of one entry more
    pub gathered_next : Gathers Whole (text ++ joined (entry_lines names S (first_entries n R) e)) kept mid after
        → Gathers Whole (joined (record_lines names S (first_entries (n + 1) R))) kept before after
    gathered_next h = (
      so_far.0 ++ h.0,
      lines_next ∙ ap (λ t. so_far.0 ++ t) h.1 ∙ sym (append_assoc so_far.0 h.0 kept),
      h.2 ∙ ap (option_map (λ (t : List ℕ). t ++ h.0)) so_far.2 ∙ added_twice before so_far.0 h.0,
    )

    -- the front of them, where the writing stops
    pub gathered_front : AddsPrefix (text ++ joined (entry_lines names S (first_entries n R) e)) mid after → AddsPrefix (joined (record_lines names S R)) before after
    gathered_front h =
        let rest = lines_go_on (n + 1) R in
        let more : AddsPrefix (joined (record_lines names S (first_entries (n + 1) R))) before after = subst (λ (t : Text). AddsPrefix t before after) (sym lines_next) (behind so_far.0 (text ++ joined (entry_lines names S (first_entries n R) e)) before mid after so_far.2 h) in
        subst (λ (t : Text). AddsPrefix t before after) (sym rest.1) (front (joined (record_lines names S (first_entries (n + 1) R))) rest.0 before after more)

-- what was gathered, and then the rest
pub gathered_all : (r : Traced) (text kept : Text) (before mid after : Option (List ℕ)) → Gathers Whole text kept before mid → Traces r kept mid after → Traces r text before after
gathered_all r text kept before mid after g h = subst (λ t. Traces r t before after) (sym g.1) (next_piece r g.0 kept before mid after g.2 h)
