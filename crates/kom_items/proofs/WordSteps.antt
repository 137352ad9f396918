-- What the reader's own tests say of words and comparisons.
use Rattle.std.proofs.Common.{◌≡◌, true, false, List, Some, None}
use Rattle.std.specs.Prelude.{is_some}
use Rattle.kom_events.specs.declared.selector.Op.{Op}
use Rattle.kom_parse.specs.Lexemes.{Lexeme}
use Rattle.kom_parse.specs.Input.{Read, Refuse, first, rest, may}
use Rattle.kom_parse.specs.Rules.{word_among}
use Rattle.kom_parse.proofs.Steps.{want_found, want_missing, may_found, may_missing}
use Rattle.kom_items.specs.declared.words.ItemWord.{ItemWord}
use Rattle.kom_items.specs.Reading.{item_words, item_word, on_words, relation_in, relation}

pub item_word_found : (ts : List Lexeme) (x : ItemWord) → word_among item_words (first ts) ≡ Some x → item_word ts ≡ Read x (rest ts)
unfolding item_word
item_word_found ts x e = want_found (word_among item_words) x ts e

pub item_word_missing : (ts : List Lexeme) → word_among item_words (first ts) ≡ None → item_word ts ≡ Refuse ts
unfolding item_word
item_word_missing ts e = want_missing (word_among item_words) ts e

pub on_word_found : (ts : List Lexeme) → is_some (word_among on_words (first ts)) ≡ true → may (word_among on_words) ts ≡ Read (word_among on_words (first ts)) (rest ts)
on_word_found ts e = may_found (word_among on_words) ts e

pub on_word_missing : (ts : List Lexeme) → is_some (word_among on_words (first ts)) ≡ false → may (word_among on_words) ts ≡ Read (word_among on_words (first ts)) ts
on_word_missing ts e = may_missing (word_among on_words) ts e

pub relation_found : (ts : List Lexeme) (op : Op) → relation_in (first ts) ≡ Some op → relation ts ≡ Read op (rest ts)
unfolding relation
relation_found ts op e = want_found relation_in op ts e

pub relation_missing : (ts : List Lexeme) → relation_in (first ts) ≡ None → relation ts ≡ Refuse ts
unfolding relation
relation_missing ts e = want_missing relation_in ts e
