-- Expressions of a tree as they are written.
use Rattle.std.proofs.Common.{◌≡◌, ℕ, zero, suc, Bool, true, false, not, List, [], ◌∷◌, ◌++◌, map, refl, sym, ap, ◌∙◌, append_assoc}
use Rattle.std.specs.Prelude.{codes, if◌then◌else◌}
use Rattle.std.specs.List.{flat_map}
use Rattle.kom_lang.specs.Compute.{computing}
use Rattle.kom_lang.specs.declared.expr.Binary.{Binary}
use Rattle.kom_lang.specs.declared.expr.Binary.TheVariants as op
use Rattle.kom_lang.specs.declared.expr.Expr.{Expr}
use Rattle.kom_lang.specs.declared.expr.Expr.TheVariants as expr
use Rattle.kom_lang.specs.declared.kind.Kind.{Kind}
use Rattle.kom_lang.specs.declared.stmt.On.{On}
use Rattle.kom_system.specs.Contents.{Contents}
use Rattle.kom_system.specs.declared.parts.Spot.{Spot}
use Rattle.kom_system.specs.declared.parts.ExprPart.{ExprPart, Number, Name, It, Neg', Not', Pair', more_of-ExprPart}
use Rattle.kom_system.specs.declared.parts.OnPart.{OnPart}
use Rattle.kom_system.specs.declared.parts.OnPart.TheVariants as on
use Rattle.kom_system.specs.declared.parts.ComponentPart.{ComponentPart}
use Rattle.kom_system.specs.declared.parts.Parts.{Parts}
use Rattle.kom_record.specs.Trace.{Text}
use Rattle.kom_grammar.specs.Words.{sign_of}
use Rattle.kom_rules.specs.Names as names
use Rattle.kom_rules.specs.Names.{names_of, number_in, is_among, at_if}
use Rattle.kom_rules.specs.Spaces.{var_spots, event_number, attribute_names}
use Rattle.kom_rules.specs.Walks.{in_expr}
use Rattle.kom_rules.specs.Declaring.{unknown_value, unknown_in_on, unknown_event, unknown_port}
use Rattle.kom_rules.specs.Handling.{is_event, it_lacks, lacks}
use Rattle.kom_resolve.specs.Resolved.{resolved, kind_value, on_value, expr_in, named_value, attributes_of_it}
use Rattle.kom_sysprint.specs.Canonical as text
use Rattle.kom_sysprint.specs.Canonical.{expr_text, in_parentheses, operator, it_name}
use Rattle.kom_accept.proofs.Lists.{known, not_at, not_true, first_empty, second_empty}
use Rattle.kom_accept.proofs.Kept.{Keeps}
use Rattle.kom_spaced.specs.Spaced.{Written, text_of}
use Rattle.kom_written.specs.Tokens.{word, sign, called, integer, expr_tokens}
use Rattle.kom_written.proofs.Rows.{Each}
use Rattle.kom_spelling.proofs.Names.{name_found, var_found, attribute_found, among_either}
use Rattle.kom_spelling.proofs.Texts.{text-append, integer_spelled}

module _ (C : Contents) (D : Kind) (O : On) (scope : List Text) where
  neg_text : (e : Expr) → expr_text C D O scope (expr.Neg e) ≡ in_parentheses (codes "- " ++ expr_text C D O scope e)
  unfolding computing
  neg_text e = refl

  not_text : (e : Expr) → expr_text C D O scope (expr.Not e) ≡ in_parentheses (codes "! " ++ expr_text C D O scope e)
  unfolding computing
  not_text e = refl

  pair_text : (b : Binary) (x y : Expr) → expr_text C D O scope (expr.Pair b x y) ≡ in_parentheses (expr_text C D O scope x ++ text.word (operator b) ++ expr_text C D O scope y)
  unfolding computing
  pair_text b x y = refl

operator_is : (b : Binary) → operator b ≡ sign_of b
operator_is op.Or = refl
operator_is _ = refl

-- one operand in parentheses
enclosed : (X : List Written) → text_of X ++ codes ") " ≡ text_of (X ++ sign (codes ")") ∷ [])
enclosed X = sym (text-append X (sign (codes ")") ∷ []))

paired : (b : Binary) (X Y : List Written) → text_of X ++ text.word (operator b) ++ text_of Y ≡ text_of (X ++ sign (sign_of b) ∷ Y)
paired b X Y =
    append_assoc (text_of X) (text.word (operator b)) (text_of Y)
    ∙ ap (λ t. text_of X ++ (text.word t ++ text_of Y)) (operator_is b)
    ∙ ap (λ t. text_of X ++ t) (append_assoc (sign_of b) (codes " ") (text_of Y))
    ∙ sym (text-append X (sign (sign_of b) ∷ Y))

-- an expression of a tree as it is printed
abbrev pub spelled : Parts → ComponentPart → OnPart → List names.Name → ExprPart → Text
spelled P c o scope e = expr_text (resolved P) (kind_value P c) (on_value P c o) scope (expr_in P c o scope e)

module _ (P : Parts) (K : Keeps P) (c : ComponentPart) (o : OnPart) (u_on : unknown_in_on P c o ≡ []) where
  -- what the rules say of an expression
  abbrev pub Named : List names.Name → ExprPart → Type 0
  Named scope e = in_expr (unknown_value c scope) (λ a s. []) e ≡ []

  abbrev pub Evented : ExprPart → Type 0
  Evented e = in_expr (λ s. []) (λ a s. at_if (not (is_event o)) a) e ≡ []

  abbrev pub Had : ExprPart → Type 0
  Had e = in_expr (λ s. []) (λ a s. it_lacks P o s) e ≡ []

  named_spelled : (scope : List names.Name) (s : Spot) (b : Bool) → is_among (names_of (var_spots c)) s.name ≡ b → is_among (names_of (var_spots c) ++ scope) s.name ≡ true
      → expr_text (resolved P) (kind_value P c) (on_value P c o) scope (if b then expr.Var (number_in (names_of (var_spots c)) s.name) else expr.Local (number_in scope s.name)) ≡ text_of (called s ∷ [])
  named_spelled scope s true e h = ap text.word (var_found P c s.name e)
  named_spelled scope s false e h = ap text.word (name_found scope s.name (among_either (names_of (var_spots c)) scope s.name h e))

  it_found : (q : OnPart) (a : ℕ) (s : Spot) → unknown_in_on P c q ≡ [] → at_if (not (is_event q)) a ≡ [] → it_lacks P q s ≡ [] → it_name (resolved P) (on_value P c q) (number_in (attributes_of_it P q) s.name) ≡ s.name
  it_found (on.Event kind port) a s u e l =
      let A = attribute_names P (event_number P kind) in
      attribute_found P K kind s.name (first_empty (unknown_event P kind) (unknown_port c port) u) (not_true (is_among A s.name) (not_at (not (is_among A s.name)) s.at l))
  it_found (on.Init spots) a s u e l = absurd cc
  it_found on.Start a s u e l = absurd cc
  it_found on.Stop a s u e l = absurd cc
  it_found (on.Fault slot number) a s u e l = absurd cc
  it_found (on.Dumped slot) a s u e l = absurd cc

  pub expr_spelled : (scope : List names.Name) (e : ExprPart) → Named scope e → Evented e → Had e → spelled P c o scope e ≡ text_of (expr_tokens e)
  expr_spelled scope (Number n) u v w = integer_spelled n
  expr_spelled scope (Name s) u v w = named_spelled scope s (is_among (names_of (var_spots c)) s.name) refl (known (names_of (var_spots c) ++ scope) s u)
  expr_spelled scope (It a s) u v w = ap (λ t. codes "it . " ++ text.word t) (it_found o a s u_on v w)
  expr_spelled scope (Neg' p (more_of-ExprPart e r)) u v w =
      neg_text (resolved P) (kind_value P c) (on_value P c o) scope (expr_in P c o scope e)
      ∙ ap (λ t. in_parentheses (codes "- " ++ t)) (expr_spelled scope e u v w) ∙ ap (λ t. codes "( - " ++ t) (enclosed (expr_tokens e))
  expr_spelled scope (Not' p (more_of-ExprPart e r)) u v w =
      not_text (resolved P) (kind_value P c) (on_value P c o) scope (expr_in P c o scope e)
      ∙ ap (λ t. in_parentheses (codes "! " ++ t)) (expr_spelled scope e u v w) ∙ ap (λ t. codes "( ! " ++ t) (enclosed (expr_tokens e))
  expr_spelled scope (Pair' b p (more_of-ExprPart left r) q (more_of-ExprPart right r')) u v w =
      let U = in_expr (unknown_value c scope) (λ a s. []) in
      let V = in_expr (λ s. []) (λ a s. at_if (not (is_event o)) a) in
      let W = in_expr (λ s. []) (λ a s. it_lacks P o s) in
      let L = expr_spelled scope left (first_empty (U left) (U right) u) (first_empty (V left) (V right) v) (first_empty (W left) (W right) w) in
      let R = expr_spelled scope right (second_empty (U left) (U right) u) (second_empty (V left) (V right) v) (second_empty (W left) (W right) w) in
      pair_text (resolved P) (kind_value P c) (on_value P c o) scope b (expr_in P c o scope left) (expr_in P c o scope right)
      ∙ ap (λ t. in_parentheses (t ++ text.word (operator b) ++ spelled P c o scope right)) L ∙ ap (λ t. in_parentheses (text_of (expr_tokens left) ++ text.word (operator b) ++ t)) R
      ∙ ap in_parentheses (paired b (expr_tokens left) (expr_tokens right)) ∙ ap (λ t. codes "( " ++ t) (enclosed (expr_tokens left ++ sign (sign_of b) ∷ expr_tokens right))

  pub exprs_spelled : (scope : List names.Name) (es : List ExprPart) → flat_map (in_expr (unknown_value c scope) (λ a s. [])) es ≡ [] → flat_map (in_expr (λ s. []) (λ a s. at_if (not (is_event o)) a)) es ≡ [] → flat_map (in_expr (λ s. []) (λ a s. it_lacks P o s)) es ≡ []
      → Each (λ e. spelled P c o scope e ≡ text_of (expr_tokens e)) es
  exprs_spelled scope [] u v w = tt
  exprs_spelled scope (e ∷ es) u v w =
      let U = in_expr (unknown_value c scope) (λ a s. []) in
      let V = in_expr (λ s. []) (λ a s. at_if (not (is_event o)) a) in
      let W = in_expr (λ s. []) (λ a s. it_lacks P o s) in (
        expr_spelled scope e (first_empty (U e) (flat_map U es) u) (first_empty (V e) (flat_map V es) v) (first_empty (W e) (flat_map W es) w),
        exprs_spelled scope es (second_empty (U e) (flat_map U es) u) (second_empty (V e) (flat_map V es) v) (second_empty (W e) (flat_map W es) w),
      )
