-- What the reader's own tests say of the keywords.
use Rattle.std.proofs.Common.{◌≡◌, ℕ, true, false, List, Some, None}
use Rattle.std.specs.Prelude.{is_some}
use Rattle.kom_base.specs.declared.numbers.Dir.{Dir}
use Rattle.kom_parse.specs.Lexemes.{Lexeme}
use Rattle.kom_parse.specs.Input.{Read, Refuse, first, rest, may}
use Rattle.kom_parse.specs.Rules.{word_among}
use Rattle.kom_parse.proofs.Steps.{want_found, want_missing, may_found, may_missing}
use Rattle.kom_stmts.specs.Reading.{keywords, directions, direction}

pub keyword_found : (levels : ℕ) (ts : List Lexeme) → is_some (word_among (keywords levels) (first ts)) ≡ true
    → may (word_among (keywords levels)) ts ≡ Read (word_among (keywords levels) (first ts)) (rest ts)
keyword_found levels ts e = may_found (word_among (keywords levels)) ts e

pub keyword_missing : (levels : ℕ) (ts : List Lexeme) → is_some (word_among (keywords levels) (first ts)) ≡ false
    → may (word_among (keywords levels)) ts ≡ Read (word_among (keywords levels) (first ts)) ts
keyword_missing levels ts e = may_missing (word_among (keywords levels)) ts e

pub direction_found : (ts : List Lexeme) (d : Dir) → word_among directions (first ts) ≡ Some d → direction ts ≡ Read d (rest ts)
unfolding direction
direction_found ts d e = want_found (word_among directions) d ts e

pub direction_missing : (ts : List Lexeme) → word_among directions (first ts) ≡ None → direction ts ≡ Refuse ts
unfolding direction
direction_missing ts e = want_missing (word_among directions) ts e
