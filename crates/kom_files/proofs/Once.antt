-- A text has one answer.
use Rattle.std.proofs.Common.{◌≡◌, ℕ, List, [], length, Option, Some, None, refl, sym, ◌∙◌, ap, subst, arith, length-append}
use Rattle.kom_text.specs.declared.token.Token.{Token}
use Rattle.kom_text.specs.declared.token.Tokens.TheVariants.{BadByte, NumberTooBig}
use Rattle.kom_text.specs.Pieces.{IsBad}
use Rattle.kom_text.specs.Answers.{tokens_from, too_big_from, end_from, IsReadTo, IsAnswer as IsTokenized}
use Rattle.kom_text.proofs.Once.{cut-once}
use Rattle.kom_parse.specs.Lexemes.{Lexeme, lexemes}
use Rattle.kom_parse.specs.Input.{Read, Parser}
use Rattle.kom_parse.specs.Spelled.{IsBrokenAt}
use Rattle.kom_parse.proofs.Broken as broken
use Rattle.kom_parse.proofs.Laws.{IsReader}
use Rattle.kom_files.specs.declared.file.FileRead.{FileRead}
use Rattle.kom_files.specs.declared.file.FileRead.TheVariants.{Tree, Refused, Memory}
use Rattle.kom_files.specs.Files.{AreTokens, place_at, Breaks, bad_byte, number_too_big, not_begun, no_file, IsTreeOf, IsAnswer, Gives, Refuses}

ends_bad : IsBad []
ends_bad q rest h e = omega (arith, ap length e, length-append q.bytes rest)

record Same (ts ts' : List Token) (n n' : Option ℕ) (a a' : ℕ) : Type 0 where
  tokens : ts ≡ ts'
  too_big : n ≡ n'
  end : a ≡ a'

read_once : (text rest rest' : List ℕ) (ts ts' : List Token) (n n' : Option ℕ) (a a' : ℕ) → IsReadTo text rest ts n a → IsBad rest → IsReadTo text rest' ts' n' a' → IsBad rest' → Same ts ts' n n' a a'
read_once text rest rest' ts ts' n n' a a' r bad r' bad' =
    let one = cut-once r.pieces r'.pieces text rest rest' r.cut r'.cut bad bad' in
    record {
      tokens = r.found_is ∙ ap (tokens_from 0) (one.0) ∙ sym r'.found_is;
      too_big = r.too_big_is ∙ ap (too_big_from 0) (one.0) ∙ sym r'.too_big_is;
      end = r.end_is ∙ ap (end_from 0) (one.0) ∙ sym r'.end_is;
    }

-- ---- of the answers of `tokens` one at most

module _ (text : List ℕ) where
  bad_not_whole : (a : ℕ) → IsTokenized text (BadByte a) → (ts : List Token) (n : Option ℕ) → IsReadTo text [] ts n (length text) → ⊥
  bad_not_whole a (rest, us, m, r, less, bad) ts n r' =
      let same = read_once text rest [] us ts m n a (length text) r bad r' ends_bad in
      omega (arith, same.end, less)

  bad_once : (a a' : ℕ) → IsTokenized text (BadByte a) → IsTokenized text (BadByte a') → a ≡ a'
  bad_once a a' (rest, us, m, r, less, bad) (rest', us', m', r', less', bad') = (read_once text rest rest' us us' m m' a a' r bad r' bad').end

  whole_once : (ts ts' : List Token) (n n' : Option ℕ) → IsReadTo text [] ts n (length text) → IsReadTo text [] ts' n' (length text) → Same ts ts' n n' (length text) (length text)
  whole_once ts ts' n n' r r' = read_once text [] [] ts ts' n n' (length text) (length text) r ends_bad r' ends_bad

  big_not_list : (a : ℕ) → IsTokenized text (NumberTooBig a) → (ts : List Token) → AreTokens text ts → ⊥
  big_not_list a (us, r) ts cut =
      let same : Some a ≡ None = (whole_once us ts (Some a) None r cut).too_big in
      cc

  big_once : (a a' : ℕ) → IsTokenized text (NumberTooBig a) → IsTokenized text (NumberTooBig a') → a ≡ a'
  big_once a a' (us, r) (us', r') =
      let same : Some a ≡ Some a' = (whole_once us us' (Some a) (Some a') r r').too_big in
      cc

  tokens_once : (ts ts' : List Token) → AreTokens text ts → AreTokens text ts' → ts ≡ ts'
  tokens_once ts ts' cut cut' = (whole_once ts ts' None None cut cut').tokens

  -- ---- and of the rules

  module _ {A : Type 0} (file : Parser A) (Spells : List Lexeme → A → Type 0) (wrong : List Lexeme → Option ℕ) (reader : IsReader file Spells) (whole : (ts : List Lexeme) (x : A) → Spells ts x → file ts ≡ Read x [])
      (headed : (ts : List Lexeme) (x : A) → Spells ts x → wrong ts ≡ None) where
    headers : (ts ts' : List Token) (o o' : Option ℕ) → AreTokens text ts → AreTokens text ts' → wrong (lexemes text ts) ≡ o → wrong (lexemes text ts') ≡ o' → o ≡ o'
    headers ts ts' o o' cut cut' e e' = sym e ∙ ap (λ u. wrong (lexemes text u)) (tokens_once ts ts' cut cut') ∙ e'

    same_place : (ts ts' : List Token) (k k' : ℕ) → AreTokens text ts → AreTokens text ts' → k ≡ k' → place_at ts (length text) k ≡ place_at ts' (length text) k'
    same_place ts ts' k k' cut cut' e = ap (λ u. place_at u (length text) k) (tokens_once ts ts' cut cut') ∙ ap (place_at ts' (length text)) e

    not_both : (ts ts' : List Token) (k : ℕ) → AreTokens text ts → AreTokens text ts' → wrong (lexemes text ts) ≡ Some k → wrong (lexemes text ts') ≡ None → ⊥
    not_both ts ts' k cut cut' e e' = let both : Some k ≡ None = headers ts ts' (Some k) None cut cut' e e' in cc

    pub breaks_once : {r a r' a' : ℕ} → Breaks Spells wrong text r a → Breaks Spells wrong text r' a' → (r ≡ r') × (a ≡ a')
    breaks_once (bad_byte a t) (bad_byte a' t') = (refl, bad_once a a' t t')
    breaks_once (bad_byte a t) (number_too_big a' (us, r)) = absurd (bad_not_whole a t us (Some a') r)
    breaks_once (bad_byte a t) (not_begun ts k cut e) = absurd (bad_not_whole a t ts None cut)
    breaks_once (bad_byte a t) (no_file ts k cut e b) = absurd (bad_not_whole a t ts None cut)
    breaks_once (number_too_big a' (us, r)) (bad_byte a t) = absurd (bad_not_whole a t us (Some a') r)
    breaks_once (number_too_big a t) (number_too_big a' t') = (refl, big_once a a' t t')
    breaks_once (number_too_big a t) (not_begun ts k cut e) = absurd (big_not_list a t ts cut)
    breaks_once (number_too_big a t) (no_file ts k cut e b) = absurd (big_not_list a t ts cut)
    breaks_once (not_begun ts k cut e) (bad_byte a t) = absurd (bad_not_whole a t ts None cut)
    breaks_once (not_begun ts k cut e) (number_too_big a t) = absurd (big_not_list a t ts cut)
    breaks_once (not_begun ts k cut e) (not_begun ts' k' cut' e') =
        let both : Some k ≡ Some k' = headers ts ts' (Some k) (Some k') cut cut' e e' in
        (refl, same_place ts ts' k k' cut cut' cc)
    breaks_once (not_begun ts k cut e) (no_file ts' k' cut' e' b) = absurd (not_both ts ts' k cut cut' e e')
    breaks_once (no_file ts k cut e b) (bad_byte a t) = absurd (bad_not_whole a t ts None cut)
    breaks_once (no_file ts k cut e b) (number_too_big a t) = absurd (big_not_list a t ts cut)
    breaks_once (no_file ts k cut e b) (not_begun ts' k' cut' e') = absurd (not_both ts' ts k' cut' cut e' e)
    breaks_once (no_file ts k cut e b) (no_file ts' k' cut' e' b') = (
      refl,
      same_place ts ts' k k' cut cut' (broken.one_place file Spells reader whole (lexemes text ts) k k' b
          (subst (λ u. IsBrokenAt (Spells) (lexemes text u) k') (sym (tokens_once ts ts' cut cut')) b')),
    )

    spelled_by : (ts ts' : List Token) (tree : A) → AreTokens text ts → AreTokens text ts' → Spells (lexemes text ts') tree → Spells (lexemes text ts) tree
    spelled_by ts ts' tree cut cut' d = subst (λ u. Spells (lexemes text u) tree) (sym (tokens_once ts ts' cut cut')) d

    pub breaks_no_tree : {r a : ℕ} {tree : A} → Breaks Spells wrong text r a → IsTreeOf Spells text tree → ⊥
    breaks_no_tree (bad_byte a t) d = bad_not_whole a t d.tokens None d.cut
    breaks_no_tree (number_too_big a t) d = big_not_list a t d.tokens d.cut
    breaks_no_tree (not_begun ts k cut e) d = not_both ts d.tokens k cut d.cut e (headed (lexemes text d.tokens) _ d.spells)
    breaks_no_tree {tree = tree} (no_file ts k cut e b) d =
        broken.no_file file Spells reader whole (lexemes text ts) k tree b (spelled_by ts d.tokens tree cut d.cut d.spells)

    pub tree_once : {tree tree' : A} → IsTreeOf Spells text tree → IsTreeOf Spells text tree' → tree ≡ tree'
    tree_once {tree} {tree'} d d' =
        let one : file (lexemes text d.tokens) ≡ Read tree [] = whole (lexemes text d.tokens) tree d.spells in
        let two : file (lexemes text d.tokens) ≡ Read tree' [] = whole (lexemes text d.tokens) tree' (spelled_by d.tokens d'.tokens tree' d.cut d'.cut d'.spells) in
        let both : Read tree [] ≡ Read tree' [] = sym one ∙ two in
        cc

    -- ---- so what is answered is all

    pub gives_all : (result : FileRead A) (tree : A) → IsAnswer Spells wrong text result → IsTreeOf Spells text tree → Gives result tree
    gives_all (Tree found) tree d d' = tree_once d d'
    gives_all (Refused r a) tree b d = breaks_no_tree b d
    gives_all Memory tree b d = tt

    pub refuses_all : (result : FileRead A) (rule at : ℕ) → IsAnswer Spells wrong text result → Breaks Spells wrong text rule at → Refuses result rule at
    refuses_all (Tree found) rule at d b = breaks_no_tree b d
    refuses_all (Refused r a) rule at b b' = breaks_once b b'
    refuses_all Memory rule at b b' = tt
