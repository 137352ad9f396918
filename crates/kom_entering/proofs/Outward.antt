-- What goes out, by the state.
use Rattle.std.proofs.Common.{◌≡◌, ℕ, Bool, true, false, if◌then◌else◌, not, refl, ap, ◌∙◌, subst, [], ◌∷◌, length, map, Option, Some, None}
use Rattle.std.specs.Prelude.{slice_get}
use Rattle.std.specs.Option.{option_map_or}
use Rattle.kom_base.specs.declared.numbers.Dir.{Dir}
use Rattle.kom_base.specs.declared.numbers.Dir.TheVariants.{Plus, Minus}
use Rattle.kom_base.specs.Numbers.{agree, is_plus, opposite}
use Rattle.kom_lang.specs.Declarations.{Declarations, kind_of}
use Rattle.kom_lang.specs.declared.kind.PortDecl.{PortDecl}
use Rattle.kom_record.specs.Entries.{History}
use Rattle.kom_record.specs.Channels.{goes_out, is_outer}
use Rattle.kom_record.specs.Offers.{Offer}
use Rattle.kom_record.specs.Queues.{enters}
use Rattle.kom_record.specs.Time.{outgoing_by, outward}
use Rattle.kom_times.specs.Laws.{GoesOutOnce}
use Rattle.kom_entering.specs.Lists.{going_of}

way_of : (d : Dir) (b : Bool) → not (agree b (is_plus (opposite d))) ≡ true → d ≡ (if b then Plus else Minus)
way_of Plus true e = refl
way_of Plus false e = absurd cc
way_of Minus true e = absurd cc
way_of Minus false e = refl

way_out : (b : Bool) → not (agree b (is_plus (opposite (if b then Plus else Minus)))) ≡ true
way_out true = refl
way_out false = refl

held_by : {X : Type 0} (f : X → Bool) (o : Option X) → option_map_or f o false ≡ true → (x : X) × (o ≡ Some x) × (f x ≡ true)
held_by f None e = absurd cc
held_by f (Some x) e = (x, refl, e)

module _ (S : Declarations) where
  port_of : (x : ℕ) (d : Dir) → goes_out S x d ≡ true → (p : PortDecl) × (slice_get (kind_of S S.root.kind).ports x ≡ Some p) × (d ≡ outward p)
  unfolding goes_out is_outer
  port_of x d e =
      let h = held_by (λ (p : PortDecl). not (agree p.provided (is_plus (opposite d)))) (slice_get (kind_of S S.root.kind).ports x) e in
      (h.0, h.1, way_of d h.0.provided h.2)

  port_out : (x : ℕ) (p : PortDecl) → slice_get (kind_of S S.root.kind).ports x ≡ Some p → goes_out S x (outward p) ≡ true
  unfolding goes_out is_outer
  port_out x p e = ap (λ o. option_map_or (λ (q : PortDecl). not (agree q.provided (is_plus (opposite (outward p))))) o false) e ∙ way_out p.provided

  module _ (once : GoesOutOnce) (P : History) (o : Offer) (n : ℕ) where
    pub goes : (x : ℕ) (d : Dir) → goes_out S x d ≡ true → enters S P x d o ≡ true → map going_of (outgoing_by S P (n, o)) ≡ record { chan = x; no = record { position = length P; place = n } } ∷ []
    goes x d e h =
        let p = port_of x d e in
        ap (map going_of) ((once S P (n, o)).0 x p.0 p.1 (subst (λ f. enters S P x f o ≡ true) p.2 h))

    pub stays : ((x : ℕ) (d : Dir) → goes_out S x d ≡ true → enters S P x d o ≡ false) → map going_of (outgoing_by S P (n, o)) ≡ []
    stays h = ap (map going_of) ((once S P (n, o)).1 (λ x p e. h x (outward p) (port_out x p e)))
