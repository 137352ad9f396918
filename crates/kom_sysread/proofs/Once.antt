-- A text has one answer.
use Rattle.std.proofs.Common.{◌≡◌, ℕ, List, [], length, Option, Some, None, refl, sym, ◌∙◌, ap, subst, arith, length-append}
use Rattle.kom_system.specs.declared.parts.Parts.{Parts as Tree}
use Rattle.kom_text.specs.declared.token.Token.{Token}
use Rattle.kom_text.specs.declared.token.Tokens.TheVariants.{BadByte, NumberTooBig}
use Rattle.kom_text.specs.Pieces.{IsBad}
use Rattle.kom_text.specs.Answers.{tokens_from, too_big_from, end_from, IsReadTo, IsAnswer as IsTokenized}
use Rattle.kom_text.proofs.Once.{cut-once}
use Rattle.kom_parse.specs.Lexemes.{lexemes}
use Rattle.kom_parse.specs.Input.{Read}
use Rattle.kom_parse.specs.Spelled.{IsBrokenAt}
use Rattle.kom_parse.proofs.Broken as broken
use Rattle.kom_grammar.specs.Files.{SpellsFile}
use Rattle.kom_sysread.specs.declared.text.PartsRead.{PartsRead}
use Rattle.kom_sysread.specs.declared.text.PartsRead.TheVariants.{Parts, Refused, Memory}
use Rattle.kom_sysread.specs.Answers.{AreTokens, place_at, header_break, Breaks, bad_byte, number_too_big, not_begun, no_file, IsTreeOf, IsAnswer, Gives, Refuses}
use Rattle.kom_sysread.specs.Reading.{file}
use Rattle.kom_sysread.proofs.FileReads.{file_reader}
use Rattle.kom_sysread.proofs.FileWhole.{file_whole}
use Rattle.kom_sysread.proofs.Exact.{file_headed}

ends_bad : IsBad []
ends_bad q rest h e = omega (arith, ap length e, length-append q.bytes rest)

record Same (ts ts' : List Token) (n n' : Option ℕ) (a a' : ℕ) : Type 0 where
  tokens : ts ≡ ts'
  too_big : n ≡ n'
  end : a ≡ a'

read_once : (text rest rest' : List ℕ) (ts ts' : List Token) (n n' : Option ℕ) (a a' : ℕ) → IsReadTo text rest ts n a → IsBad rest → IsReadTo text rest' ts' n' a' → IsBad rest' → Same ts ts' n n' a a'
read_once text rest rest' ts ts' n n' a a' r bad r' bad' =
    let one = cut-once r.pieces r'.pieces text rest rest' r.cut r'.cut bad bad' in
    record {
      tokens = r.found_is ∙ ap (tokens_from 0) (one.0) ∙ sym r'.found_is;
      too_big = r.too_big_is ∙ ap (too_big_from 0) (one.0) ∙ sym r'.too_big_is;
      end = r.end_is ∙ ap (end_from 0) (one.0) ∙ sym r'.end_is;
    }

-- ---- of the answers of `tokens` one at most

module _ (text : List ℕ) where
  bad_not_whole : (a : ℕ) → IsTokenized text (BadByte a) → (ts : List Token) (n : Option ℕ) → IsReadTo text [] ts n (length text) → ⊥
  bad_not_whole a (rest, us, m, r, less, bad) ts n r' =
      let same = read_once text rest [] us ts m n a (length text) r bad r' ends_bad in
      omega (arith, same.end, less)

  bad_once : (a a' : ℕ) → IsTokenized text (BadByte a) → IsTokenized text (BadByte a') → a ≡ a'
  bad_once a a' (rest, us, m, r, less, bad) (rest', us', m', r', less', bad') = (read_once text rest rest' us us' m m' a a' r bad r' bad').end

  whole_once : (ts ts' : List Token) (n n' : Option ℕ) → IsReadTo text [] ts n (length text) → IsReadTo text [] ts' n' (length text) → Same ts ts' n n' (length text) (length text)
  whole_once ts ts' n n' r r' = read_once text [] [] ts ts' n n' (length text) (length text) r ends_bad r' ends_bad

  big_not_list : (a : ℕ) → IsTokenized text (NumberTooBig a) → (ts : List Token) → AreTokens text ts → ⊥
  big_not_list a (us, r) ts cut =
      let same : Some a ≡ None = (whole_once us ts (Some a) None r cut).too_big in
      cc

  big_once : (a a' : ℕ) → IsTokenized text (NumberTooBig a) → IsTokenized text (NumberTooBig a') → a ≡ a'
  big_once a a' (us, r) (us', r') =
      let same : Some a ≡ Some a' = (whole_once us us' (Some a) (Some a') r r').too_big in
      cc

  tokens_once : (ts ts' : List Token) → AreTokens text ts → AreTokens text ts' → ts ≡ ts'
  tokens_once ts ts' cut cut' = (whole_once ts ts' None None cut cut').tokens

  -- ---- and of the rules

  headers : (ts ts' : List Token) (o o' : Option ℕ) → AreTokens text ts → AreTokens text ts' → header_break (lexemes text ts) ≡ o → header_break (lexemes text ts') ≡ o' → o ≡ o'
  headers ts ts' o o' cut cut' e e' = sym e ∙ ap (λ u. header_break (lexemes text u)) (tokens_once ts ts' cut cut') ∙ e'

  same_place : (ts ts' : List Token) (k k' : ℕ) → AreTokens text ts → AreTokens text ts' → k ≡ k' → place_at ts (length text) k ≡ place_at ts' (length text) k'
  same_place ts ts' k k' cut cut' e = ap (λ u. place_at u (length text) k) (tokens_once ts ts' cut cut') ∙ ap (place_at ts' (length text)) e

  not_both : (ts ts' : List Token) (k : ℕ) → AreTokens text ts → AreTokens text ts' → header_break (lexemes text ts) ≡ Some k → header_break (lexemes text ts') ≡ None → ⊥
  not_both ts ts' k cut cut' e e' = let both : Some k ≡ None = headers ts ts' (Some k) None cut cut' e e' in cc

  pub breaks_once : {r a r' a' : ℕ} → Breaks text r a → Breaks text r' a' → (r ≡ r') × (a ≡ a')
  breaks_once (bad_byte a t) (bad_byte a' t') = (refl, bad_once a a' t t')
  breaks_once (bad_byte a t) (number_too_big a' (us, r)) = absurd (bad_not_whole a t us (Some a') r)
  breaks_once (bad_byte a t) (not_begun ts k cut e) = absurd (bad_not_whole a t ts None cut)
  breaks_once (bad_byte a t) (no_file ts k cut e b) = absurd (bad_not_whole a t ts None cut)
  breaks_once (number_too_big a' (us, r)) (bad_byte a t) = absurd (bad_not_whole a t us (Some a') r)
  breaks_once (number_too_big a t) (number_too_big a' t') = (refl, big_once a a' t t')
  breaks_once (number_too_big a t) (not_begun ts k cut e) = absurd (big_not_list a t ts cut)
  breaks_once (number_too_big a t) (no_file ts k cut e b) = absurd (big_not_list a t ts cut)
  breaks_once (not_begun ts k cut e) (bad_byte a t) = absurd (bad_not_whole a t ts None cut)
  breaks_once (not_begun ts k cut e) (number_too_big a t) = absurd (big_not_list a t ts cut)
  breaks_once (not_begun ts k cut e) (not_begun ts' k' cut' e') =
      let both : Some k ≡ Some k' = headers ts ts' (Some k) (Some k') cut cut' e e' in
      (refl, same_place ts ts' k k' cut cut' cc)
  breaks_once (not_begun ts k cut e) (no_file ts' k' cut' e' b) = absurd (not_both ts ts' k cut cut' e e')
  breaks_once (no_file ts k cut e b) (bad_byte a t) = absurd (bad_not_whole a t ts None cut)
  breaks_once (no_file ts k cut e b) (number_too_big a t) = absurd (big_not_list a t ts cut)
  breaks_once (no_file ts k cut e b) (not_begun ts' k' cut' e') = absurd (not_both ts' ts k' cut' cut e' e)
  breaks_once (no_file ts k cut e b) (no_file ts' k' cut' e' b') = (
    refl,
    same_place ts ts' k k' cut cut' (broken.one_place (file (length text)) (SpellsFile (length text)) (file_reader (length text)) (file_whole (length text)) (lexemes text ts) k k' b
        (subst (λ u. IsBrokenAt (SpellsFile (length text)) (lexemes text u) k') (sym (tokens_once ts ts' cut cut')) b')),
  )

  spelled_by : (ts ts' : List Token) (tree : Tree) → AreTokens text ts → AreTokens text ts' → SpellsFile (length text) (lexemes text ts') tree → SpellsFile (length text) (lexemes text ts) tree
  spelled_by ts ts' tree cut cut' d = subst (λ u. SpellsFile (length text) (lexemes text u) tree) (sym (tokens_once ts ts' cut cut')) d

  pub breaks_no_tree : {r a : ℕ} {tree : Tree} → Breaks text r a → IsTreeOf text tree → ⊥
  breaks_no_tree (bad_byte a t) d = bad_not_whole a t d.tokens None d.cut
  breaks_no_tree (number_too_big a t) d = big_not_list a t d.tokens d.cut
  breaks_no_tree (not_begun ts k cut e) d = not_both ts d.tokens k cut d.cut e (file_headed (length text) (lexemes text d.tokens) _ d.spells)
  breaks_no_tree {tree = tree} (no_file ts k cut e b) d =
      broken.no_file (file (length text)) (SpellsFile (length text)) (file_reader (length text)) (file_whole (length text)) (lexemes text ts) k tree b (spelled_by ts d.tokens tree cut d.cut d.spells)

  pub tree_once : {tree tree' : Tree} → IsTreeOf text tree → IsTreeOf text tree' → tree ≡ tree'
  tree_once {tree} {tree'} d d' =
      let one : file (length text) (lexemes text d.tokens) ≡ Read tree [] = file_whole (length text) (lexemes text d.tokens) tree d.spells in
      let two : file (length text) (lexemes text d.tokens) ≡ Read tree' [] = file_whole (length text) (lexemes text d.tokens) tree' (spelled_by d.tokens d'.tokens tree' d.cut d'.cut d'.spells) in
      let both : Read tree [] ≡ Read tree' [] = sym one ∙ two in
      cc

-- ---- so what is answered is all

pub gives_all : (text : List ℕ) (result : PartsRead) (tree : Tree) → IsAnswer text result → IsTreeOf text tree → Gives result tree
gives_all text (Parts found) tree d d' = tree_once text d d'
gives_all text (Refused r a) tree b d = breaks_no_tree text b d
gives_all text Memory tree b d = tt

pub refuses_all : (text : List ℕ) (result : PartsRead) (rule at : ℕ) → IsAnswer text result → Breaks text rule at → Refuses result rule at
refuses_all text (Parts found) rule at d b = breaks_no_tree text b d
refuses_all text (Refused r a) rule at b b' = breaks_once text b b'
refuses_all text Memory rule at b b' = tt
