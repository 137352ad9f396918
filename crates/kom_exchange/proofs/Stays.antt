-- While a worker has a job in hand, no other worker changes its component's body.
use Rattle.std.proofs.Common.{◌≡◌, ◌≢◌, ℕ, ◌<◌, ◌==◌, ◌&&◌, ◌||◌, not, cond, Bool, true, false, List, [], ◌∷◌, ◌++◌, length, sym, refl, ap, subst, ◌∙◌, arith, ne_eqb, eq-eqb, length-append}
use Rattle.std.specs.Prelude.{Option, Some, None, IsTrue}
use Rattle.std.specs.List.{list_any}
use Rattle.kom_exchange.proofs.Totals.{every_map}
use mathlib.Core.Logic.{dite}
use native.Mathlib.Decide.{ℕ_discrete}
use Rattle.kom_lang.specs.Declarations.{Declarations}
use Rattle.kom_laws.proofs.InstanceLaws.{born_grows, alive_born}
use Rattle.kom_laws.proofs.ControlLaws.{body_other}
use Rattle.kom_record.specs.Ready.{ready, runnable, is_busy}
use Rattle.kom_record.specs.declared.plan.Plan.{Plan}
use Rattle.kom_record.specs.declared.entry.Outcome.{Outcome}
use Rattle.kom_record.specs.declared.entry.Entry.TheVariants.{Took, Did, Moved}
use Rattle.kom_record.specs.Entries.{History, TakenJob, Act, in_hand, acts, acts_of}
use Rattle.kom_record.specs.Instances.{born}
use Rattle.kom_record.specs.Bodies.{body_at}
use Rattle.kom_record.specs.Ready.{ready, is_busy}
use Rattle.kom_record.specs.Legal.{IsLegal}
use Rattle.kom_exchange.specs.Rule.{Every}
use Rattle.kom_exchange.proofs.Hands.{others, of, falls, found_by}

left_true : (a b : Bool) → IsTrue (a && b) → IsTrue a
left_true true b h = refl
left_true false b h = h

right_true : (a b : Bool) → IsTrue (a && b) → IsTrue b
right_true true b h = h
right_true false b h = let f : false ≡ true = h in absurd cc

none_of : (c : ℕ) (hs : List TakenJob) → IsTrue (not (list_any (λ (h : TakenJob). h.c == c) hs)) → Every (λ (h : TakenJob). c ≢ h.c) hs
none_of c [] t = tt
none_of c (h ∷ hs) t = dite (ℕ_discrete h.c c)
    (λ e. let f : false ≡ true = subst (λ (b : Bool). IsTrue (not (b || list_any (λ (x : TakenJob). x.c == c) hs))) (eq-eqb h.c c e) t in absurd cc)
    (λ d. ((λ e. d (sym e)), none_of c hs (subst (λ (b : Bool). IsTrue (not (b || list_any (λ (x : TakenJob). x.c == c) hs))) (ne_eqb h.c c d) t)))

every_filter : (P : TakenJob → Type 0) (took : ℕ) (hs : List TakenJob) → Every P hs → Every P (others took hs)
every_filter P took [] e = tt
every_filter P took (h ∷ hs) e = dite (ℕ_discrete h.took took)
    (λ q. rw (eq-eqb h.took took q) (every_filter P took hs e.1))
    (λ d. rw (ne_eqb h.took took d) (e.0, every_filter P took hs e.1))

-- no two hands are of one component
abbrev Apart : List TakenJob → Type 0
Apart [] = Unit {0}
Apart (h ∷ hs) = Every (λ (k : TakenJob). h.c ≢ k.c) hs × Apart hs

apart_filter : (took : ℕ) (hs : List TakenJob) → Apart hs → Apart (others took hs)
apart_filter took [] e = tt
apart_filter took (h ∷ hs) e = dite (ℕ_discrete h.took took)
    (λ q. rw (eq-eqb h.took took q) (apart_filter took hs e.1))
    (λ d. rw (ne_eqb h.took took d) (every_filter (λ (k : TakenJob). h.c ≢ k.c) took hs e.0, apart_filter took hs e.1))

every_found : (P : TakenJob → Type 0) (w : ℕ) (hs : List TakenJob) (h : TakenJob) → Every P hs → of w hs ≡ Some h → P h
every_found P w [] h e is = absurd cc
every_found P w (k ∷ hs) h e is = dite (ℕ_discrete k.w w)
    (λ q. let at : Some k ≡ Some h = sym (ap (λ (b : Bool). cond b (Some k) (of w hs)) (eq-eqb k.w w q)) ∙ is in let same : k ≡ h = cc in subst P same e.0)
    (λ d. every_found P w hs h e.1 (sym (ap (λ (b : Bool). cond b (Some k) (of w hs)) (ne_eqb k.w w d)) ∙ is))

two_found : (w x : ℕ) (hs : List TakenJob) (j h : TakenJob) → x ≢ w → Apart hs → of w hs ≡ Some j → of x hs ≡ Some h → j.c ≢ h.c
two_found w x [] j h n a p q = absurd cc
two_found w x (k ∷ hs) j h n a p q = dite (ℕ_discrete k.w w)
    (λ e. let at : Some k ≡ Some j = sym (ap (λ (b : Bool). cond b (Some k) (of w hs)) (eq-eqb k.w w e)) ∙ p in let same : k ≡ j = cc in
    let d : k.w ≢ x = λ z. n (sym z ∙ e) in let more = sym (ap (λ (b : Bool). cond b (Some k) (of x hs)) (ne_eqb k.w x d)) ∙ q in
    subst (λ (y : TakenJob). y.c ≢ h.c) same (every_found (λ (y : TakenJob). k.c ≢ y.c) x hs h a.0 more))
    (λ d. let more = sym (ap (λ (b : Bool). cond b (Some k) (of w hs)) (ne_eqb k.w w d)) ∙ p in dite (ℕ_discrete k.w x)
    (λ e. let at : Some k ≡ Some h = sym (ap (λ (b : Bool). cond b (Some k) (of x hs)) (eq-eqb k.w x e)) ∙ q in let same : k ≡ h = cc in
    subst (λ (y : TakenJob). j.c ≢ y.c) same (λ z. every_found (λ (y : TakenJob). k.c ≢ y.c) w hs j a.0 more (sym z)))
    (λ e. two_found w x hs j h n a.1 more (sym (ap (λ (b : Bool). cond b (Some k) (of x hs)) (ne_eqb k.w x e)) ∙ q)))

true_of : (b : Bool) → IsTrue b → b ≡ true
true_of true t = refl
true_of false t = let f : false ≡ true = t in f

module _ (S : Declarations) (Z : Plan) where
  longer : (news done : List Act) (c : ℕ) → c < length (born S done) → c < length (born S (news ++ done))
  longer news done c lt = let r = born_grows S news done in let e = ap length r.1 ∙ length-append (born S done) r.0 in omega arith

  hands_ok : (P : History) → IsLegal S Z P → Every (λ (h : TakenJob). h.c < length (born S (acts P))) (in_hand P) × Apart (in_hand P)
  unfolding IsLegal in_hand acts acts_of ready runnable is_busy
  hands_ok [] l = (tt, tt)
  hands_ok (Took w c item ∷ P) l = let r = hands_ok P l.0 in let may = l.1 in
      let run = left_true _ _ may.ready in let first = left_true _ _ run in
      ((alive_born S (acts P) c (true_of _ (left_true _ _ first)), r.0), (none_of c (in_hand P) (right_true _ _ first), r.1))
  hands_ok (Did w c took o to unreached ∷ P) l = let r = hands_ok P l.0 in let news = acts_of P (Did w c took o to unreached) in
      (every_filter (λ (h : TakenJob). h.c < length (born S (news ++ acts P))) took (in_hand P) (every_map (λ (h : TakenJob). h.c < length (born S (acts P))) (λ (h : TakenJob). h.c < length (born S (news ++ acts P))) (in_hand P) (λ h lt. longer news (acts P) h.c lt) r.0), apart_filter took (in_hand P) r.1)
  hands_ok (Moved w t released ∷ P) l = hands_ok P l.0

  pub stays : (P : History) (w c x : ℕ) (j h : TakenJob) (o : Outcome) (to : Option ℕ) (unreached : List ℕ) → x ≢ w → of w (in_hand P) ≡ Some j → of x (in_hand P) ≡ Some h
      → IsLegal S Z (Did w c j.took o to unreached ∷ P) → body_at S (Did w c j.took o to unreached ∷ P) h.c ≡ body_at S P h.c
  unfolding IsLegal
  stays P w c x j h o to unreached apart found has legal = let ok = hands_ok P legal.0 in let may = legal.1 in
      let by = found_by (length P) w (in_hand P) j (falls P) found in let both : Some may.job ≡ Some j = sym may.in_hand ∙ by in let same : may.job ≡ j = cc in
      let is_c : j.c ≡ c = ap (λ (y : TakenJob). y.c) (sym same) ∙ may.component in
      let d : c ≢ h.c = λ e. two_found w x (in_hand P) j h apart ok.1 found has (is_c ∙ e) in
      body_other S P (Did w c j.took o to unreached) h.c (ap (λ (b : Bool). cond b (Some o) None) (ne_eqb c h.c d)) (every_found (λ (y : TakenJob). y.c < length (born S (acts P))) x (in_hand P) h ok.0 has)
