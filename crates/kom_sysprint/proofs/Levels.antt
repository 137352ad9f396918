-- The text of an expression, one level at a time.
use Rattle.std.proofs.Common.{◌≡◌, List, ◌++◌, refl, sym, ap, ◌∙◌, codes}
use Rattle.std.proofs.lemmas.List.{append_assoc}
use Rattle.kom_lang.specs.Compute.{computing}
use Rattle.kom_lang.specs.declared.expr.Binary.{Binary}
use Rattle.kom_lang.specs.declared.expr.Expr.{Expr}
use Rattle.kom_lang.specs.declared.expr.Expr.TheVariants.{Neg, Not, Pair}
use Rattle.kom_lang.specs.declared.kind.Kind.{Kind}
use Rattle.kom_lang.specs.declared.stmt.On.{On}
use Rattle.kom_record.specs.Trace.{Text}
use Rattle.kom_system.specs.Contents.{Contents}
use Rattle.kom_sysprint.specs.Canonical.{expr_text, in_parentheses, operator, word}

three : (s p t q : Text) → ((s ++ p) ++ t) ++ q ≡ s ++ ((p ++ t) ++ q)
three s p t q = append_assoc (s ++ p) t q ∙ append_assoc s p (t ++ q) ∙ ap (λ u. s ++ u) (sym (append_assoc p t q))

five : (s p l w r q : Text) → ((((s ++ p) ++ l) ++ w) ++ r) ++ q ≡ s ++ ((p ++ ((l ++ w) ++ r)) ++ q)
five s p l w r q =
    ap (λ u. u ++ q) (append_assoc ((s ++ p) ++ l) w r ∙ append_assoc (s ++ p) l (w ++ r) ∙ ap (λ u. (s ++ p) ++ u) (sym (append_assoc l w r)))
    ∙ three s p ((l ++ w) ++ r) q

module _ (C : Contents) (K : Kind) (o : On) (scope : List Text) where
  neg_text : (e : Expr) → expr_text C K o scope (Neg e) ≡ in_parentheses (codes "- " ++ expr_text C K o scope e)
  unfolding computing
  neg_text e = refl

  not_text : (e : Expr) → expr_text C K o scope (Not e) ≡ in_parentheses (codes "! " ++ expr_text C K o scope e)
  unfolding computing
  not_text e = refl

  pair_text : (op : Binary) (a b : Expr) → expr_text C K o scope (Pair op a b) ≡ in_parentheses (expr_text C K o scope a ++ word (operator op) ++ expr_text C K o scope b)
  unfolding computing
  pair_text op a b = refl

  pub neg : (e a : Expr) (start opened inner last : Text) → e ≡ Neg a → opened ≡ start ++ codes "( - " → inner ≡ opened ++ expr_text C K o scope a → last ≡ inner ++ codes ") " → last ≡ start ++ expr_text C K o scope e
  neg e a start opened inner last is x y z =
      z ∙ ap (λ t. t ++ codes ") ") (y ∙ ap (λ t. t ++ expr_text C K o scope a) x) ∙ three start (codes "( - ") (expr_text C K o scope a) (codes ") ") ∙ ap (λ t. start ++ t) (sym (ap (expr_text C K o scope) is ∙ neg_text a))

  pub not : (e a : Expr) (start opened inner last : Text) → e ≡ Not a → opened ≡ start ++ codes "( ! " → inner ≡ opened ++ expr_text C K o scope a → last ≡ inner ++ codes ") " → last ≡ start ++ expr_text C K o scope e
  not e a start opened inner last is x y z =
      z ∙ ap (λ t. t ++ codes ") ") (y ∙ ap (λ t. t ++ expr_text C K o scope a) x) ∙ three start (codes "( ! ") (expr_text C K o scope a) (codes ") ") ∙ ap (λ t. start ++ t) (sym (ap (expr_text C K o scope) is ∙ not_text a))

  pub pair : (op : Binary) (e a b : Expr) (start opened left middle right last : Text) → e ≡ Pair op a b → opened ≡ start ++ codes "( " → left ≡ opened ++ expr_text C K o scope a → middle ≡ left ++ word (operator op)
      → right ≡ middle ++ expr_text C K o scope b → last ≡ right ++ codes ") " → last ≡ start ++ expr_text C K o scope e
  pair op e a b start opened left middle right last is v w x y z =
      z ∙ ap (λ t. t ++ codes ") ") (y ∙ ap (λ t. t ++ expr_text C K o scope b) (x ∙ ap (λ t. t ++ word (operator op)) (w ∙ ap (λ t. t ++ expr_text C K o scope a) v)))
      ∙ five start (codes "( ") (expr_text C K o scope a) (word (operator op)) (expr_text C K o scope b) (codes ") ")
      ∙ ap (λ t. start ++ t) (sym (ap (expr_text C K o scope) is ∙ pair_text op a b))
