-- What holds of each rule's reading, and how it follows from that of its parts.
use Rattle.std.proofs.Common.{◌≡◌, ℕ, zero, suc, ◌<◌, Bool, true, false, List, [], ◌∷◌, ◌++◌, length, Option, Some, None, refl, sym, ◌∙◌, ap, subst, append_assoc, ◌⊎◌, inl, inr, arith, length-append, if◌then◌else◌}
use Rattle.std.specs.Prelude.{is_some}
use Rattle.std.proofs.lemmas.List.{append-nil}
use Rattle.kom_parse.specs.Lexemes.{Lexeme}
use Rattle.kom_parse.specs.Input.{Outcome, Read, Refuse, Parser, and_then, ◌>>=◌, pure, refuse, first, rest, by_next, want, eat_if, may, turns_from, turns, loop}

-- What was read up to after is a value's text, and would be read alike before whatever begins alike.
pub record Took {A : Type 0} (p : Parser A) (L : List Lexeme → A → Type 0) (ts : List Lexeme) (a : A) (after : List Lexeme) : Type 0 where
  pub text : List Lexeme
  pub split : ts ≡ text ++ after
  pub spells : L text a
  pub again : (other : List Lexeme) → first other ≡ first after → p (text ++ other) ≡ Read a other

-- What was read before the refused token begins a value's text, and the token is refused whatever follows.
pub record Left {A : Type 0} (p : Parser A) (L : List Lexeme → A → Type 0) (ts : List Lexeme) (after : List Lexeme) : Type 0 where
  pub text : List Lexeme
  pub split : ts ≡ text ++ after
  pub value : A
  pub more : List Lexeme
  pub spells : L (text ++ more) value
  pub again : (other : List Lexeme) → first other ≡ first after → p (text ++ other) ≡ Refuse other

pub record IsReader {A : Type 0} (p : Parser A) (L : List Lexeme → A → Type 0) : Type 0 where
  pub reads : (ts : List Lexeme) (a : A) (after : List Lexeme) → p ts ≡ Read a after → Took p L ts a after
  pub refuses : (ts : List Lexeme) (after : List Lexeme) → p ts ≡ Refuse after → Left p L ts after
  -- some text
  pub text : List Lexeme
  pub value : A
  pub spells : L text value

-- ---- outcomes

pub record BothRead {A B : Type 0} (o : Outcome A) (f : A → Parser B) (b : B) (after : List Lexeme) : Type 0 where
  pub value : A
  pub between : List Lexeme
  pub one : o ≡ Read value between
  pub two : f value between ≡ Read b after

pub and_then_read : {A B : Type 0} (o : Outcome A) (f : A → Parser B) (b : B) (after : List Lexeme) → and_then o f ≡ Read b after → BothRead o f b after
and_then_read (Read a ts) f b after e = record { value = a; between = ts; one = refl; two = e }
and_then_read (Refuse ts) f b after e = absurd cc

pub record SecondRefused {A B : Type 0} (o : Outcome A) (f : A → Parser B) (after : List Lexeme) : Type 0 where
  pub value : A
  pub between : List Lexeme
  pub one : o ≡ Read value between
  pub two : f value between ≡ Refuse after

pub and_then_refused : {A B : Type 0} (o : Outcome A) (f : A → Parser B) (after : List Lexeme) → and_then o f ≡ Refuse after → (o ≡ Refuse after) ⊎ SecondRefused o f after
and_then_refused (Read a ts) f after e = inr (record { value = a; between = ts; one = refl; two = e })
and_then_refused (Refuse ts) f after e = inl (let same : ts ≡ after = cc in ap Refuse same)

pub first-append : (t x y : List Lexeme) → first x ≡ first y → first (t ++ x) ≡ first (t ++ y)
first-append [] x y e = e
first-append (a ∷ t) x y e = refl

-- ---- one after another

module _ {A B : Type 0} (p : Parser A) (q : A → Parser B) (P : List Lexeme → A → Type 0) (L : List Lexeme → B → Type 0) where
  bind_took : (ts between after : List Lexeme) (a : A) (b : B) (one : Took p P ts a between) → Took (q a) (λ u b'. L (one.text ++ u) b') between b after
      → Took (p >>= q) L ts b after
  bind_took ts between after a b one two = record {
    text = one.text ++ two.text;
    split = one.split ∙ ap (λ u. one.text ++ u) two.split ∙ sym (append_assoc one.text two.text after);
    spells = two.spells;
    again = λ other same.
        let there : first (two.text ++ other) ≡ first between = first-append two.text other after same ∙ ap first (sym two.split) in
        let start : p (one.text ++ (two.text ++ other)) ≡ Read a (two.text ++ other) = one.again (two.text ++ other) there in
        rw append_assoc (rw start (two.again other same));
  }

  bind_left : (ts between after : List Lexeme) (a : A) (one : Took p P ts a between) → Left (q a) (λ u b'. L (one.text ++ u) b') between after
      → Left (p >>= q) L ts after
  bind_left ts between after a one two = record {
    text = one.text ++ two.text;
    split = one.split ∙ ap (λ u. one.text ++ u) two.split ∙ sym (append_assoc one.text two.text after);
    value = two.value;
    more = two.more;
    spells = rw append_assoc two.spells;
    again = λ other same.
        let there : first (two.text ++ other) ≡ first between = first-append two.text other after same ∙ ap first (sym two.split) in
        let start : p (one.text ++ (two.text ++ other)) ≡ Read a (two.text ++ other) = one.again (two.text ++ other) there in
        rw append_assoc (rw start (two.again other same));
  }

  module _ (rp : IsReader p P) (rq : (a : A) (t : List Lexeme) → P t a → IsReader (q a) (λ u b. L (t ++ u) b)) where
    bind_left_early : (ts after : List Lexeme) → p ts ≡ Refuse after → Left (p >>= q) L ts after
    bind_left_early ts after e =
        let one = rp.refuses ts after e in
        let two = rq one.value (one.text ++ one.more) one.spells in
        record {
          text = one.text;
          split = one.split;
          value = two.value;
          more = one.more ++ two.text;
          spells = rw (← append_assoc) two.spells;
          again = λ other same. rw (one.again other same) refl;
        }

    pub bind : IsReader (p >>= q) L
    bind = record {
      reads = λ ts b after e.
          let both = and_then_read (p ts) q b after e in
          let one = rp.reads ts both.value both.between both.one in
          bind_took ts both.between after both.value b one ((rq both.value one.text one.spells).reads both.between b after both.two);
      refuses = λ ts after e. elim (and_then_refused (p ts) q after e) [
        | inl e' ↦ bind_left_early ts after e'
        | inr both ↦
            let one = rp.reads ts both.value both.between both.one in
            bind_left ts both.between after both.value one ((rq both.value one.text one.spells).refuses both.between after both.two)
      ];
      text = rp.text ++ (rq rp.value rp.text rp.spells).text;
      value = (rq rp.value rp.text rp.spells).value;
      spells = (rq rp.value rp.text rp.spells).spells;
    }

-- ---- single steps

pub pure_reader : {A : Type 0} (L : List Lexeme → A → Type 0) (a : A) → L [] a → IsReader (pure a) L
pure_reader L a l = record {
  reads = λ ts b after e.
      let v : a ≡ b = cc in
      let s : ts ≡ after = cc in
      record { text = []; split = s; spells = subst (λ x. L [] x) v l; again = λ other same. rw v refl };
  refuses = λ ts after e. absurd cc;
  text = [];
  value = a;
  spells = l;
}

pub refuse_reader : {A : Type 0} (L : List Lexeme → A → Type 0) (t : List Lexeme) (a : A) → L t a → IsReader refuse L
refuse_reader L t a l = record {
  reads = λ ts b after e. absurd cc;
  refuses = λ ts after e.
      let s : ts ≡ after = cc in
      record { text = []; split = s; value = a; more = t; spells = l; again = λ other same. refl };
  text = t;
  value = a;
  spells = l;
}

pub by_next_reader : {A : Type 0} (f : Option Lexeme → Parser A) (L : List Lexeme → A → Type 0) → ((o : Option Lexeme) → IsReader (f o) L) → IsReader (by_next f) L
by_next_reader f L r = record {
  reads = λ ts b after e.
      let k = (r (first ts)).reads ts b after e in
      record {
        text = k.text;
        split = k.split;
        spells = k.spells;
        again = λ other same.
            let there : first (k.text ++ other) ≡ first ts = first-append k.text other after same ∙ ap first (sym k.split) in
            rw there (k.again other same);
      };
  refuses = λ ts after e.
      let k = (r (first ts)).refuses ts after e in
      record {
        text = k.text;
        split = k.split;
        value = k.value;
        more = k.more;
        spells = k.spells;
        again = λ other same.
            let there : first (k.text ++ other) ≡ first ts = first-append k.text other after same ∙ ap first (sym k.split) in
            rw there (k.again other same);
      };
  text = (r None).text;
  value = (r None).value;
  spells = (r None).spells;
}

-- one token that is wanted
pub record Wanted {A : Type 0} (accept : Option Lexeme → Option A) (t : List Lexeme) (a : A) : Type 0 where
  pub token : Lexeme
  pub is : t ≡ token ∷ []
  pub accepted : accept (Some token) ≡ Some a

module _ {A : Type 0} (accept : Option Lexeme → Option A) (none : accept None ≡ None) where
  want_reads : (ts : List Lexeme) (a : A) (after : List Lexeme) → want accept ts ≡ Read a after → Took (want accept) (Wanted accept) ts a after
  unfolding want
  want_reads [] a after e = absurd (let e' = rw none at e in cc)
  want_reads (t ∷ ts) a after e = by_case (accept (Some t)) refl where
    by_case : (o : Option A) → accept (Some t) ≡ o → Took (want accept) (Wanted accept) (t ∷ ts) a after
    by_case None fails = absurd (let e' = rw fails at e in cc)
    by_case (Some b) holds =
        let e' = rw holds at e in
        let v : b ≡ a = cc in
        let s : ts ≡ after = cc in
        record { text = t ∷ []; split = ap (λ u. t ∷ u) s; spells = record { token = t; is = refl; accepted = holds ∙ ap Some v }; again = λ other same. rw (holds, v) refl }

  want_refuses : (tok : Lexeme) (a : A) → accept (Some tok) ≡ Some a → (ts : List Lexeme) (after : List Lexeme) → want accept ts ≡ Refuse after → Left (want accept) (Wanted accept) ts after
  unfolding want
  want_refuses tok a ok ts after e = by_case (accept (first ts)) refl where
    by_case : (o : Option A) → accept (first ts) ≡ o → Left (want accept) (Wanted accept) ts after
    by_case (Some b) holds = absurd (let e' = rw holds at e in cc)
    by_case None fails =
        let e' = rw fails at e in
        let s : ts ≡ after = cc in
        record {
          text = [];
          split = s;
          value = a;
          more = tok ∷ [];
          spells = record { token = tok; is = refl; accepted = ok };
          again = λ other same. rw (same ∙ ap first (sym s), fails) refl;
        }

  pub want_reader : (tok : Lexeme) (a : A) → accept (Some tok) ≡ Some a → IsReader (want accept) (Wanted accept)
  want_reader tok a ok = record {
    reads = want_reads;
    refuses = want_refuses tok a ok;
    text = tok ∷ [];
    value = a;
    spells = record { token = tok; is = refl; accepted = ok };
  }

  pub want_then : {B : Type 0} (q : A → Parser B) (L : List Lexeme → B → Type 0) (tok : Lexeme) (a : A) → accept (Some tok) ≡ Some a
      → ((token : Lexeme) (v : A) → accept (Some token) ≡ Some v → IsReader (q v) (λ u b. L (token ∷ u) b)) → IsReader (want accept >>= q) L
  want_then q L tok a ok r = bind (want accept) q (Wanted accept) L (want_reader tok a ok)
      (λ v t w. subst (λ x. IsReader (q v) (λ u b. L (x ++ u) b)) (sym w.is) (r w.token v w.accepted))

-- a token that may come
abbrev pub EatenBy : (Option Lexeme → Bool) → List Lexeme → Bool → Type 0
EatenBy test t true = (token : Lexeme) × (t ≡ token ∷ []) × (test (Some token) ≡ true)
EatenBy test t false = t ≡ []

pub record Eaten (test : Option Lexeme → Bool) (t : List Lexeme) (b : Bool) : Type 0 where
  pub is : EatenBy test t b

pub eat_misses : (test : Option Lexeme → Bool) (other : List Lexeme) → test (first other) ≡ false → eat_if test other ≡ Read false other
unfolding eat_if
eat_misses test other e = rw e refl

pub eat_takes : (test : Option Lexeme → Bool) (token : Lexeme) (other : List Lexeme) → test (Some token) ≡ true → eat_if test (token ∷ other) ≡ Read true other
unfolding eat_if
eat_takes test token other e = rw e refl

module _ (test : Option Lexeme → Bool) (none : test None ≡ false) where
  eat_reads_by : (ts : List Lexeme) (b : Bool) → test (first ts) ≡ b → Took (eat_if test) (Eaten test) ts b (if b then rest ts else ts)
  eat_reads_by ts false e = record {
    text = [];
    split = refl;
    spells = record { is = refl };
    again = λ other same. eat_misses test other (ap test same ∙ e);
  }
  eat_reads_by [] true e = absurd (let e' : false ≡ true = sym none ∙ e in cc)
  eat_reads_by (t ∷ ts) true e = record {
    text = t ∷ [];
    split = refl;
    spells = record { is = (t, refl, e) };
    again = λ other same. eat_takes test t other e;
  }

  eat_is : (ts : List Lexeme) (b : Bool) (after : List Lexeme) → eat_if test ts ≡ Read b after → (test (first ts) ≡ b) × ((if b then rest ts else ts) ≡ after)
  unfolding eat_if
  eat_is ts b after e =
      let v : test (first ts) ≡ b = cc in
      let s : (if test (first ts) then rest ts else ts) ≡ after = cc in
      (v, rw v at s)

  not_refused : (ts : List Lexeme) (after : List Lexeme) → eat_if test ts ≡ Refuse after → ⊥
  unfolding eat_if
  not_refused ts after e = cc

  pub eat_reader : IsReader (eat_if test) (Eaten test)
  eat_reader = record {
    reads = λ ts b after e. let k = eat_is ts b after e in subst (λ x. Took (eat_if test) (Eaten test) ts b x) k.1 (eat_reads_by ts b k.0);
    refuses = λ ts after e. absurd (not_refused ts after e);
    text = [];
    value = false;
    spells = record { is = refl };
  }

  pub eat_then : {B : Type 0} (q : Bool → Parser B) (L : List Lexeme → B → Type 0)
      → ((token : Lexeme) → test (Some token) ≡ true → IsReader (q true) (λ u b. L (token ∷ u) b)) → IsReader (q false) L → IsReader (eat_if test >>= q) L
  eat_then q L yes' no' = bind (eat_if test) q (Eaten test) L eat_reader by_case where
    by_case : (v : Bool) (t : List Lexeme) → Eaten test t v → IsReader (q v) (λ u b. L (t ++ u) b)
    by_case true t w = subst (λ x. IsReader (q true) (λ u b. L (x ++ u) b)) (sym w.is.1) (yes' w.is.0 w.is.2)
    by_case false t w = subst (λ x. IsReader (q false) (λ u b. L (x ++ u) b)) (sym w.is) no'

-- a token that may come, and what it stands for
abbrev pub MayBeBy : {A : Type 0} → (Option Lexeme → Option A) → List Lexeme → Option A → Type 0
MayBeBy accept t (Some a) = (token : Lexeme) × (t ≡ token ∷ []) × (accept (Some token) ≡ Some a)
MayBeBy accept t None = t ≡ []

pub record MayBe {A : Type 0} (accept : Option Lexeme → Option A) (t : List Lexeme) (o : Option A) : Type 0 where
  pub is : MayBeBy accept t o

pub may_misses : {A : Type 0} (accept : Option Lexeme → Option A) (other : List Lexeme) → accept (first other) ≡ None → may accept other ≡ Read None other
unfolding may
may_misses accept other e = rw e refl

pub may_takes : {A : Type 0} (accept : Option Lexeme → Option A) (token : Lexeme) (a : A) (other : List Lexeme) → accept (Some token) ≡ Some a → may accept (token ∷ other) ≡ Read (Some a) other
unfolding may
may_takes accept token a other e = rw e refl

module _ {A : Type 0} (accept : Option Lexeme → Option A) (none : accept None ≡ None) where
  may_reads_by : (ts : List Lexeme) (o : Option A) → accept (first ts) ≡ o → Took (may accept) (MayBe accept) ts o (if is_some o then rest ts else ts)
  may_reads_by ts None e = record {
    text = [];
    split = refl;
    spells = record { is = refl };
    again = λ other same. may_misses accept other (ap accept same ∙ e);
  }
  may_reads_by [] (Some a) e = absurd (let e' : None ≡ Some a = sym none ∙ e in cc)
  may_reads_by (t ∷ ts) (Some a) e = record {
    text = t ∷ [];
    split = refl;
    spells = record { is = (t, refl, e) };
    again = λ other same. may_takes accept t a other e;
  }

  may_is : (ts : List Lexeme) (o : Option A) (after : List Lexeme) → may accept ts ≡ Read o after → (accept (first ts) ≡ o) × ((if is_some o then rest ts else ts) ≡ after)
  unfolding may
  may_is ts o after e =
      let v : accept (first ts) ≡ o = cc in
      let s : (if is_some (accept (first ts)) then rest ts else ts) ≡ after = cc in
      (v, rw v at s)

  may_not_refused : (ts : List Lexeme) (after : List Lexeme) → may accept ts ≡ Refuse after → ⊥
  unfolding may
  may_not_refused ts after e = cc

  pub may_reader : IsReader (may accept) (MayBe accept)
  may_reader = record {
    reads = λ ts o after e. let k = may_is ts o after e in subst (λ x. Took (may accept) (MayBe accept) ts o x) k.1 (may_reads_by ts o k.0);
    refuses = λ ts after e. absurd (may_not_refused ts after e);
    text = [];
    value = None;
    spells = record { is = refl };
  }

  pub may_then : {B : Type 0} (q : Option A → Parser B) (L : List Lexeme → B → Type 0)
      → ((token : Lexeme) (a : A) → accept (Some token) ≡ Some a → IsReader (q (Some a)) (λ u b. L (token ∷ u) b)) → IsReader (q None) L → IsReader (may accept >>= q) L
  may_then q L some' none' = bind (may accept) q (MayBe accept) L may_reader by_case where
    by_case : (o : Option A) (t : List Lexeme) → MayBe accept t o → IsReader (q o) (λ u b. L (t ++ u) b)
    by_case (Some a) t w = subst (λ x. IsReader (q (Some a)) (λ u b. L (x ++ u) b)) (sym w.is.1) (some' w.is.0 a w.is.2)
    by_case None t w = subst (λ x. IsReader (q None) (λ u b. L (x ++ u) b)) (sym w.is) none'

-- ---- loops

-- What a turn reads: nothing more, or what goes before the text of the next state.
abbrev pub Turned : {A : Type 0} → (A → List Lexeme → A → Type 0) → A → List Lexeme → Option A → Type 0
Turned L a t None = L a t a
Turned L a t (Some b) = (0 < length t) × ((u : List Lexeme) (c : _) → L b u c → L a (t ++ u) c)

module _ {A : Type 0} (turn : A → Parser (Option A)) (L : A → List Lexeme → A → Type 0) (rt : (a : A) → IsReader (turn a) (Turned L a)) (stop : (a : A) → L a [] a) where
  record Turns (a : A) (ts : List Lexeme) (c : A) (after : List Lexeme) : Type 0 where
    text : List Lexeme
    split : ts ≡ text ++ after
    spells : L a text c
    again : (m : ℕ) (other : List Lexeme) → first other ≡ first after → length (text ++ other) < m → turns turn m a (text ++ other) ≡ Read c other

  record Stuck (a : A) (ts : List Lexeme) (after : List Lexeme) : Type 0 where
    text : List Lexeme
    split : ts ≡ text ++ after
    value : A
    more : List Lexeme
    spells : L a (text ++ more) value
    again : (m : ℕ) (other : List Lexeme) → first other ≡ first after → length (text ++ other) < m → turns turn m a (text ++ other) ≡ Refuse other

  last_again : (a : A) (t other : List Lexeme) (m : ℕ) → turn a (t ++ other) ≡ Read None other → length (t ++ other) < m → turns turn m a (t ++ other) ≡ Read a other
  unfolding turns
  last_again a t other zero e h = absurd (omega arith)
  last_again a t other (suc m) e h = rw e refl

  stuck_again : (a : A) (t other : List Lexeme) (m : ℕ) → turn a (t ++ other) ≡ Refuse other → length (t ++ other) < m → turns turn m a (t ++ other) ≡ Refuse other
  unfolding turns
  stuck_again a t other zero e h = absurd (omega arith)
  stuck_again a t other (suc m) e h = rw e refl

  next_again : (a b : A) (t u other : List Lexeme) (m : ℕ) (o : Outcome A) → turn a (t ++ (u ++ other)) ≡ Read (Some b) (u ++ other) → 0 < length t
      → ((k : ℕ) → length (u ++ other) < k → turns turn k b (u ++ other) ≡ o) → length ((t ++ u) ++ other) < m → turns turn m a ((t ++ u) ++ other) ≡ o
  unfolding turns
  next_again a b t u other zero o e h f less = absurd (omega arith)
  next_again a b t u other (suc m) o e h f less =
      rw append_assoc (rw e (f m (omega (arith, less, h, length-append t u, length-append (t ++ u) other, length-append u other))))

  next_less : (t ts between : List Lexeme) (n : ℕ) → ts ≡ t ++ between → 0 < length t → length ts < suc n → length between < n
  next_less t ts between n s h less = omega (arith, ap length s, length-append t between, h, less)

  turns_read : (n : ℕ) (a : A) (ts : List Lexeme) (c : A) (after : List Lexeme) → length ts < n → turns turn n a ts ≡ Read c after → Turns a ts c after
  unfolding turns
  turns_read zero a ts c after less e = absurd (omega arith)
  turns_read (suc n) a ts c after less e =
      let both = and_then_read (turn a ts) (turns_from turn (turns turn n) a) c after e in
      by_case both.value both.between both.one both.two (λ b between less' e'. turns_read n b between c after less' e') where
        by_case : (o : Option A) (between : List Lexeme) → turn a ts ≡ Read o between → turns_from turn (turns turn n) a o between ≡ Read c after
            → ((b : A) (between : List Lexeme) → length between < n → turns turn n b between ≡ Read c after → Turns b between c after) → Turns a ts c after
        by_case None between one two ih =
            let k = (rt a).reads ts None between one in
            let v : a ≡ c = cc in
            let s : between ≡ after = cc in
            record {
              text = k.text;
              split = k.split ∙ ap (λ u. k.text ++ u) s;
              spells = subst (λ x. L a k.text x) v k.spells;
              again = λ m other same h. last_again a k.text other m (k.again other (same ∙ ap first (sym s))) h ∙ ap (λ x. Read x other) v;
            }
        by_case (Some b) between one two ih =
            let k = (rt a).reads ts (Some b) between one in
            let r = ih b between (next_less k.text ts between n k.split k.spells.0 less) two in
            record {
              text = k.text ++ r.text;
              split = k.split ∙ ap (λ u. k.text ++ u) r.split ∙ sym (append_assoc k.text r.text after);
              spells = k.spells.1 r.text c r.spells;
              again = λ m other same h. next_again a b k.text r.text other m (Read c other)
                  (k.again (r.text ++ other) (first-append r.text other after same ∙ ap first (sym r.split))) k.spells.0 (λ j less'. r.again j other same less') h;
            }

  turns_refused : (n : ℕ) (a : A) (ts : List Lexeme) (after : List Lexeme) → length ts < n → turns turn n a ts ≡ Refuse after → Stuck a ts after
  unfolding turns
  turns_refused zero a ts after less e = absurd (omega arith)
  turns_refused (suc n) a ts after less e =
      by_side (and_then_refused (turn a ts) (turns_from turn (turns turn n) a) after e) (λ b between less' e'. turns_refused n b between after less' e') where
        ended : (t more : List Lexeme) (o : Option A) → Turned L a (t ++ more) o → (c : A) × (m : List Lexeme) × L a (t ++ m) c
        ended t more None w = (a, more, w)
        ended t more (Some b) w = (b, more ++ [], rw (← append_assoc) (w.1 [] b (stop b)))

        by_case : (o : Option A) (between : List Lexeme) → turn a ts ≡ Read o between → turns_from turn (turns turn n) a o between ≡ Refuse after
            → ((b : A) (between : List Lexeme) → length between < n → turns turn n b between ≡ Refuse after → Stuck b between after) → Stuck a ts after
        by_case None between one two ih = absurd cc
        by_case (Some b) between one two ih =
            let k = (rt a).reads ts (Some b) between one in
            let r = ih b between (next_less k.text ts between n k.split k.spells.0 less) two in
            record {
              text = k.text ++ r.text;
              split = k.split ∙ ap (λ u. k.text ++ u) r.split ∙ sym (append_assoc k.text r.text after);
              value = r.value;
              more = r.more;
              spells = rw append_assoc (k.spells.1 (r.text ++ r.more) r.value r.spells);
              again = λ m other same h. next_again a b k.text r.text other m (Refuse other)
                  (k.again (r.text ++ other) (first-append r.text other after same ∙ ap first (sym r.split))) k.spells.0 (λ j less'. r.again j other same less') h;
            }

        by_side : (turn a ts ≡ Refuse after) ⊎ SecondRefused (turn a ts) (turns_from turn (turns turn n) a) after
            → ((b : A) (between : List Lexeme) → length between < n → turns turn n b between ≡ Refuse after → Stuck b between after) → Stuck a ts after
        by_side (inl one) ih =
            let k = (rt a).refuses ts after one in
            let w = ended k.text k.more k.value k.spells in
            record { text = k.text; split = k.split; value = w.0; more = w.1; spells = w.2; again = λ m other same h. stuck_again a k.text other m (k.again other same) h }
        by_side (inr both) ih = by_case both.value both.between both.one both.two ih

  pub loop_reader : (a : A) → IsReader (loop turn a) (L a)
  unfolding loop
  loop_reader a = record {
    reads = λ ts c after e.
        let k = turns_read (suc (length ts)) a ts c after (omega arith) e in
        record { text = k.text; split = k.split; spells = k.spells; again = λ other same. k.again (suc (length (k.text ++ other))) other same (omega arith) };
    refuses = λ ts after e.
        let k = turns_refused (suc (length ts)) a ts after (omega arith) e in
        record {
          text = k.text;
          split = k.split;
          value = k.value;
          more = k.more;
          spells = k.spells;
          again = λ other same. k.again (suc (length (k.text ++ other))) other same (omega arith);
        };
    text = [];
    value = a;
    spells = stop a;
  }

  -- any count of turns above that of the tokens gives the same
  turns_same_by : (n m : ℕ) (a : A) (ts : List Lexeme) (o : Outcome A) → length ts < n → length ts < m → turns turn n a ts ≡ o → turns turn m a ts ≡ o
  turns_same_by n m a ts (Read c after) less less' e =
      let k = turns_read n a ts c after less e in
      let again = k.again m after refl in
      rw (← k.split) at again less'
  turns_same_by n m a ts (Refuse after) less less' e =
      let k = turns_refused n a ts after less e in
      let again = k.again m after refl in
      rw (← k.split) at again less'

  pub loop_goes : (a b : A) (ts after : List Lexeme) → turn a ts ≡ Read (Some b) after → loop turn a ts ≡ loop turn b after
  unfolding loop turns
  loop_goes a b ts after e =
      let k = (rt a).reads ts (Some b) after e in
      rw e (turns_same_by (suc (length after)) (length ts) b after (loop turn b after) (omega arith) (next_less k.text ts after (length ts) k.split k.spells.0 (omega arith)) refl)

  -- a turn takes a token
  pub loop_shorter : (a b : A) (ts after : List Lexeme) → turn a ts ≡ Read (Some b) after → length after < length ts
  loop_shorter a b ts after e = let k = (rt a).reads ts (Some b) after e in next_less k.text ts after (length ts) k.split k.spells.0 (omega arith)

pub loop_stops : {A : Type 0} (turn : A → Parser (Option A)) (a : A) (ts after : List Lexeme) → turn a ts ≡ Read None after → loop turn a ts ≡ Read a after
unfolding loop turns
loop_stops turn a ts after e = rw e refl

pub loop_refuses : {A : Type 0} (turn : A → Parser (Option A)) (a : A) (ts after : List Lexeme) → turn a ts ≡ Refuse after → loop turn a ts ≡ Refuse after
unfolding loop turns
loop_refuses turn a ts after e = rw e refl

-- ---- other texts, and a value made of the one that was read

pub wider : {A : Type 0} {p : Parser A} (P L : List Lexeme → A → Type 0) → IsReader p P → ((t : List Lexeme) (a : A) → P t a → L t a) → IsReader p L
wider P L r f = record {
  reads = λ ts a after e. let k = r.reads ts a after e in record { text = k.text; split = k.split; spells = f k.text a k.spells; again = k.again };
  refuses = λ ts after e. let k = r.refuses ts after e in
      record { text = k.text; split = k.split; value = k.value; more = k.more; spells = f (k.text ++ k.more) k.value k.spells; again = k.again };
  text = r.text;
  value = r.value;
  spells = f r.text r.value r.spells;
}

pub then_give : {A B : Type 0} {p : Parser A} (P : List Lexeme → A → Type 0) (g : A → B) (L : List Lexeme → B → Type 0) → IsReader p P
    → ((t : List Lexeme) (a : A) → P t a → L t (g a)) → IsReader (p >>= (λ a. pure (g a))) L
then_give {p = p} P g L r f = bind p (λ a. pure (g a)) P L r (λ a t w. pure_reader (λ u b. L (t ++ u) b) (g a) (rw append-nil (f t a w)))

pub if_reader : {A : Type 0} {p q : Parser A} (L : List Lexeme → A → Type 0) (b : Bool) → IsReader p L → IsReader q L → IsReader (if b then p else q) L
if_reader L true r r' = r
if_reader L false r r' = r'
