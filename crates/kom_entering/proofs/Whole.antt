-- All offers of an entry, noted one after another.
use Rattle.std.proofs.Common.{◌≡◌, ℕ, ◌+◌, Bool, true, false, if◌then◌else◌, not, ◌&&◌, refl, sym, ap, ◌∙◌, subst, List, [], ◌∷◌, ◌++◌, length, map, Option, Some, None, arith}
use Rattle.std.proofs.Common.{take, get_or, ◌<◌}
use Rattle.std.proofs.lemmas.List.{take_more}
use Rattle.std.specs.List.{cons_option, enumerate_from, filter_map, flat_map}
use Rattle.kom_base.specs.declared.numbers.Dir.{Dir}
use Rattle.kom_base.specs.declared.numbers.EntryNo.{EntryNo}
use Rattle.kom_base.specs.Lists.{if_so}
use Rattle.kom_lang.specs.Declarations.{Declarations}
use Rattle.kom_lang.specs.declared.body.Body.{Body}
use Rattle.kom_lang.specs.declared.body.Effect.{Effect}
use Rattle.kom_record.specs.declared.entry.Entry.{Entry}
use Rattle.kom_record.specs.declared.entry.Entry.TheVariants.{Did}
use Rattle.kom_record.specs.declared.entry.Outcome.TheVariants.{Done}
use Rattle.kom_record.specs.declared.item.Item.{Item}
use Rattle.kom_record.specs.Channels.{goes_out}
use Rattle.kom_record.specs.Entries.{History, item_at}
use Rattle.kom_record.specs.Offers.{Offer, offer_of, offers, offers_for, relayed}
use Rattle.kom_record.specs.Queues.{Envelope, enters, entering, is_answer, reaches_a_channel, unreached}
use Rattle.kom_record.specs.Time.{outgoing_by, outgoing_of}
use Rattle.kom_entering.specs.declared.lists.Entering.{Entering}
use Rattle.kom_entering.specs.Lists.{AreNoted, IsEntering, IsOneMore, going_of, listed, next_number, numbers_into}
use Rattle.kom_entering.proofs.Noting.{append_none, made_append}

append_same : {X : Type 0} (xs ys zs : List X) → (xs ++ ys) ++ zs ≡ xs ++ (ys ++ zs)
append_same [] ys zs = refl
append_same (x ∷ xs) ys zs = ap (λ l. x ∷ l) (append_same xs ys zs)

map_append : {X Y : Type 0} (f : X → Y) (xs ys : List X) → map f (xs ++ ys) ≡ map f xs ++ map f ys
map_append f [] ys = refl
map_append f (x ∷ xs) ys = ap (λ l. f x ∷ l) (map_append f xs ys)

module _ (S : Declarations) (P : History) where
  -- ---- after some offers

  -- these were noted, and then those
  pub noted_more : (os ps : List Offer) (a b c : Entering) → AreNoted S P os a b → AreNoted S P ps b c → AreNoted S P (os ++ ps) a c
  noted_more [] ps a b c m n = subst (λ z. AreNoted S P ps z c) (sym m) n
  noted_more (o ∷ os) ps a b c m n = (m.0, m.1, noted_more os ps m.0 b c m.2 n)

  pub noted_one : (o : Offer) (a b : Entering) → IsOneMore S P o a b → AreNoted S P (o ∷ []) a b
  noted_one o a b m = (b, m, refl)

  pub same_position : (os : List Offer) (a b : Entering) → AreNoted S P os a b → b.position ≡ a.position
  same_position [] a b m = ap (λ (z : Entering). z.position) (sym m)
  same_position (o ∷ os) a b m = same_position os m.0 b m.2 ∙ m.1.position

  -- what these offers from a place on bring into a direction
  abbrev envelope : ℕ → Dir → ℕ × Offer → Option Envelope
  envelope x d q = if enters S P x d q.1 then Some (record { no = record { position = length P; place = q.0 }; event = q.1.event; back = q.1.back }) else None

  one_comes : (b : Bool) (k : EntryNo) (o : Offer) (rest : List Envelope) (before : List EntryNo)
      → (before ++ if_so (b && true) (k ∷ [])) ++ map (λ (q : Envelope). q.no) rest ≡ before ++ map (λ (q : Envelope). q.no) (cons_option (if b then Some (record { no = k; event = o.event; back = o.back }) else None) rest)
  one_comes true k o rest before = append_same before (k ∷ []) (map (λ (q : Envelope). q.no) rest)
  one_comes false k o rest before = ap (λ l. l ++ map (λ (q : Envelope). q.no) rest) (append_none before)

  abbrev place_of : ℕ × Offer → Option ℕ
  place_of q = if is_answer S q.1.back && not (reaches_a_channel S P q.1) then Some q.0 else None

  one_missed : (b : Bool) (n : ℕ) (rest before : List ℕ) → (before ++ if_so b (n ∷ [])) ++ rest ≡ before ++ cons_option (if b then Some n else None) rest
  one_missed true n rest before = append_same before (n ∷ []) rest
  one_missed false n rest before = ap (λ l. l ++ rest) (append_none before)

  and_off : (a : Bool) → (a && false) ≡ false
  and_off true = refl
  and_off false = refl

  come_from : (os : List Offer) (n : ℕ) (a b : Entering) (x : ℕ) (d : Dir) → goes_out S x d ≡ false → a.position ≡ length P → a.offers ≡ n → AreNoted S P os a b
      → numbers_into b.comings x d ≡ numbers_into a.comings x d ++ map (λ q. q.no) (filter_map (envelope x d) (enumerate_from n os))
  come_from [] n a b x d out p k m = ap (λ (z : Entering). numbers_into z.comings x d) (sym m) ∙ sym (append_none (numbers_into a.comings x d))
  come_from (o ∷ os) n a b x d out p k m =
      let one = m.1 in
      come_from os (n + 1) m.0 b x d out (one.position ∙ p) (one.offers ∙ ap (λ z. z + 1) k) m.2
      ∙ ap (λ l. l ++ map (λ (q : Envelope). q.no) (filter_map (envelope x d) (enumerate_from (n + 1) os))) (one.comings x d)
      ∙ (λ i. (numbers_into a.comings x d ++ if_so (enters S P x d o && not (out i)) (record { position = p i; place = k i } ∷ [])) ++ map (λ (q : Envelope). q.no) (filter_map (envelope x d) (enumerate_from (n + 1) os)))
      ∙ one_comes (enters S P x d o) (record { position = length P; place = n }) o (filter_map (envelope x d) (enumerate_from (n + 1) os)) (numbers_into a.comings x d)

  none_come : (os : List Offer) (a b : Entering) (x : ℕ) (d : Dir) → goes_out S x d ≡ true → AreNoted S P os a b → numbers_into b.comings x d ≡ numbers_into a.comings x d
  none_come [] a b x d out m = ap (λ (z : Entering). numbers_into z.comings x d) (sym m)
  none_come (o ∷ os) a b x d out m =
      none_come os m.0 b x d out m.2 ∙ m.1.comings x d
      ∙ ap (λ t. numbers_into a.comings x d ++ if_so (enters S P x d o && not t) (next_number a ∷ [])) out
      ∙ ap (λ t. numbers_into a.comings x d ++ if_so t (next_number a ∷ [])) (and_off (enters S P x d o))
      ∙ append_none (numbers_into a.comings x d)

  go_from : (os : List Offer) (n : ℕ) (a b : Entering) → a.offers ≡ n → AreNoted S P os a b → b.goings ≡ a.goings ++ map going_of (flat_map (outgoing_by S P) (enumerate_from n os))
  go_from [] n a b k m = ap (λ (z : Entering). z.goings) (sym m) ∙ sym (append_none a.goings)
  go_from (o ∷ os) n a b k m =
      let more = flat_map (outgoing_by S P) (enumerate_from (n + 1) os) in
      go_from os (n + 1) m.0 b (m.1.offers ∙ ap (λ z. z + 1) k) m.2
      ∙ ap (λ l. l ++ map going_of more) (m.1.goings ∙ ap (λ z. a.goings ++ map going_of (outgoing_by S P (z, o))) k)
      ∙ append_same a.goings (map going_of (outgoing_by S P (n, o))) (map going_of more)
      ∙ ap (λ l. a.goings ++ l) (sym (map_append going_of (outgoing_by S P (n, o)) more))

  miss_from : (os : List Offer) (n : ℕ) (a b : Entering) → a.offers ≡ n → AreNoted S P os a b → b.unreached ≡ a.unreached ++ filter_map place_of (enumerate_from n os)
  miss_from [] n a b k m = ap (λ (z : Entering). z.unreached) (sym m) ∙ sym (append_none a.unreached)
  miss_from (o ∷ os) n a b k m =
      let more = filter_map place_of (enumerate_from (n + 1) os) in
      miss_from os (n + 1) m.0 b (m.1.offers ∙ ap (λ z. z + 1) k) m.2
      ∙ ap (λ l. l ++ more) (m.1.unreached ∙ ap (λ z. a.unreached ++ if_so (is_answer S o.back && not (reaches_a_channel S P o)) (z ∷ [])) k)
      ∙ one_missed (is_answer S o.back && not (reaches_a_channel S P o)) n more a.unreached

  count_from : (os : List Offer) (a b : Entering) → AreNoted S P os a b → b.offers ≡ a.offers + length os
  count_from [] a b m = ap (λ (z : Entering). z.offers) (sym m) ∙ (let e : a.offers ≡ a.offers + 0 = omega arith in e)
  count_from (o ∷ os) a b m = let r = count_from os m.0 b m.2 in let k = m.1.offers in omega (arith, r, k)

  -- ---- after all of them

  abbrev pub blank : ℕ → Entering
  blank n = record { position = n; offers = 0; comings = []; goings = []; unreached = [] }

  pub entering_is : (e : Entry) (v : Entering) → AreNoted S P (offers P e) (blank (length P)) v → IsEntering S P e v
  unfolding entering outgoing_of unreached
  entering_is e v m = record {
    offers = (let r = count_from (offers P e) (blank (length P)) v m in omega (arith, r));
    comings = λ x d out. come_from (offers P e) 0 (blank (length P)) v x d out refl refl m;
    none_out = λ x d out. none_come (offers P e) (blank (length P)) v x d out m;
    goings = go_from (offers P e) 0 (blank (length P)) v refl m;
    unreached = miss_from (offers P e) 0 (blank (length P)) v refl m;
  }

  pub done_is : (w c took : ℕ) (item : Item) (body : Body) (effects : List Effect) (to : Option ℕ) (places : List ℕ) (v : Entering) → item_at P took ≡ Some item
      → AreNoted S P (relayed P c item ++ filter_map (offer_of c took item) effects) (blank (length P)) v → IsEntering S P (Did w c took (Done body effects) to places) v
  unfolding offers
  done_is w c took item body effects to places v e m =
      entering_is (Did w c took (Done body effects) to places) v (subst (λ o. AreNoted S P (offers_for P c took effects o) (blank (length P)) v) (sym e) m)

  -- ---- effect by effect

  made_one : {X Y : Type 0} (f : X → Option Y) (xs : List X) (x : X) (k : ℕ) → k < length xs → x ≡ get_or xs k x → filter_map f (take (k + 1) xs) ≡ filter_map f (take k xs) ++ cons_option (f x) []
  made_one f xs x k l e = ap (filter_map f) (take_more xs k x l ∙ ap (λ y. take k xs ++ y ∷ []) (sym e)) ∙ made_append f (take k xs) (x ∷ [])

  pub noted_next : (c took : ℕ) (item : Item) (effects : List Effect) (effect : Effect) (k : ℕ) (a b d : Entering) → k < length effects → effect ≡ get_or effects k effect
      → AreNoted S P (relayed P c item ++ filter_map (offer_of c took item) (take k effects)) a b → AreNoted S P (listed (offer_of c took item effect)) b d
      → AreNoted S P (relayed P c item ++ filter_map (offer_of c took item) (take (k + 1) effects)) a d
  noted_next c took item effects effect k a b d l e m n =
      subst (λ os. AreNoted S P os a d)
      (append_same (relayed P c item) (filter_map (offer_of c took item) (take k effects)) (listed (offer_of c took item effect))
      ∙ ap (λ os. relayed P c item ++ os) (ap (λ os. filter_map (offer_of c took item) (take k effects) ++ os) (as_listed (offer_of c took item effect)) ∙ sym (made_one (offer_of c took item) effects effect k l e)))
      (noted_more (relayed P c item ++ filter_map (offer_of c took item) (take k effects)) (listed (offer_of c took item effect)) a b d m n)
    where
      as_listed : (o : Option Offer) → listed o ≡ cons_option o []
      as_listed None = refl
      as_listed (Some x) = refl
