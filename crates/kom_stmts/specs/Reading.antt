-- How statements are read from left to right, a function for each method.
use Rattle.std.specs.Prelude.{ℕ, zero, suc, Bool, true, false, not, ◌&&◌, List, [], ◌∷◌, Option, Some, None, codes, bytes_eq}
use Rattle.kom_base.specs.declared.numbers.Dir.{Dir}
use Rattle.kom_base.specs.declared.numbers.Dir.TheVariants.{Plus, Minus}
use Rattle.kom_system.specs.declared.parts.Spot.{Spot}
use Rattle.kom_system.specs.declared.parts.ExprPart.{ExprPart}
use Rattle.kom_system.specs.declared.parts.TargetPart.{TargetPart}
use Rattle.kom_system.specs.declared.parts.TargetPart.TheVariants as to
use Rattle.kom_system.specs.declared.parts.StmtPart.{StmtPart}
use Rattle.kom_system.specs.declared.parts.StmtPart.TheVariants as st
use Rattle.kom_text.specs.declared.token.TokenKind.TheVariants.{Word, Sign}
use Rattle.kom_parse.specs.Lexemes.{Lexeme}
use Rattle.kom_parse.specs.Input.{Parser, ◌>>=◌, ◌>>◌, pure, refuse, by_next, may, want, loop}
use Rattle.kom_parse.specs.Rules.{is_exactly, exactly, eat, name, number, word_among, onto, in_parens, row_turn}
use Rattle.kom_grammar.specs.Words.{is_name}
use Rattle.kom_exprs.specs.Reading.{expr}
use Rattle.kom_stmts.specs.declared.keywords.Command.{Command}
use Rattle.kom_stmts.specs.declared.keywords.Command.TheVariants as c
use Rattle.kom_stmts.specs.declared.keywords.Keyword.{Keyword}
use Rattle.kom_stmts.specs.declared.keywords.Keyword.TheVariants as k

-- ---- words

abbrev pub command_word : Command → List ℕ
command_word c.Start = codes "start"
command_word c.Stop = codes "stop"
command_word c.Destroy = codes "destroy"
command_word c.Dump = codes "dump"
command_word c.Hold = codes "hold"
command_word c.Resume = codes "resume"
command_word c.Subscribe = codes "subscribe"
command_word c.Unsubscribe = codes "unsubscribe"

abbrev pub keyword_word : Keyword → List ℕ
keyword_word k.If = codes "if"
keyword_word k.While = codes "while"
keyword_word k.Let = codes "let"
keyword_word k.Trigger = codes "trigger"
keyword_word k.Create = codes "create"
keyword_word k.Unplug = codes "unplug"
keyword_word k.Plug = codes "plug"
keyword_word k.Fail = codes "fail"
keyword_word (k.Command x) = command_word x

abbrev pub commands : List (List ℕ × Keyword)
commands =
    (codes "start", k.Command c.Start) ∷ (codes "stop", k.Command c.Stop) ∷ (codes "destroy", k.Command c.Destroy) ∷ (codes "dump", k.Command c.Dump)
    ∷ (codes "hold", k.Command c.Hold) ∷ (codes "resume", k.Command c.Resume) ∷ (codes "subscribe", k.Command c.Subscribe)
    ∷ (codes "unsubscribe", k.Command c.Unsubscribe) ∷ []

-- those of statements without blocks
abbrev pub flat_keywords : List (List ℕ × Keyword)
flat_keywords =
    (codes "let", k.Let) ∷ (codes "trigger", k.Trigger) ∷ (codes "create", k.Create) ∷ (codes "unplug", k.Unplug) ∷ (codes "plug", k.Plug)
    ∷ (codes "fail", k.Fail) ∷ commands

-- where no level of blocks is left, no `if` is
abbrev pub keywords : ℕ → List (List ℕ × Keyword)
keywords zero = flat_keywords
keywords (suc levels) = (codes "if", k.If) ∷ (codes "while", k.While) ∷ flat_keywords

abbrev pub directions : List (List ℕ × Dir)
directions = (codes "plus", Plus) ∷ (codes "minus", Minus) ∷ []

unfoldable pub direction : Parser Dir
direction = want (word_among directions)

-- ---- statements without blocks

abbrev pub target_by : Bool → Parser TargetPart
target_by true = exactly Sign (codes ".") >> (name is_name >>= (λ q. pure (to.Own q)))
target_by false = do
  n ← name is_name
  exactly Sign (codes ".")
  q ← name is_name
  pure (to.Child n q)

unfoldable pub target : Parser TargetPart
target = eat Word (codes "self") >>= target_by

-- what a name is given
unfoldable pub value : Parser ExprPart
value = do
  exactly Sign (codes "=")
  x ← expr
  exactly Sign (codes ";")
  pure x

unfoldable pub let_stmt : Parser StmtPart
let_stmt = do
  n ← name is_name
  x ← value
  pure (st.Let n x)

unfoldable pub trigger : Parser StmtPart
trigger = do
  n ← name is_name
  xs ← in_parens expr
  exactly Word (codes "at")
  q ← name is_name
  exactly Sign (codes ";")
  pure (st.Trigger n xs q)

unfoldable pub answer : ℕ → Parser StmtPart
answer a = do
  n ← name is_name
  xs ← in_parens expr
  exactly Sign (codes ";")
  pure (st.Answer a n xs)

unfoldable pub from_state : Spot → Spot → Parser StmtPart
from_state n m = do
  a ← exactly Word (codes "state")
  exactly Sign (codes ";")
  pure (st.CreateFromState n m a)

unfoldable pub with_args : Spot → Spot → Parser StmtPart
with_args n m = do
  xs ← in_parens expr
  exactly Sign (codes ";")
  pure (st.Create n m xs)

abbrev pub create_by : Spot → Spot → Bool → Parser StmtPart
create_by n m true = from_state n m
create_by n m false = with_args n m

unfoldable pub create : Parser StmtPart
create = do
  n ← name is_name
  exactly Sign (codes ":")
  m ← name is_name
  from ← eat Word (codes "from")
  create_by n m from

unfoldable pub unplug : Parser StmtPart
unplug = do
  n ← name is_name
  exactly Sign (codes ".")
  d ← direction
  exactly Sign (codes ";")
  pure (st.Unplug n d)

unfoldable pub plug : Parser StmtPart
plug = do
  n ← name is_name
  exactly Sign (codes ".")
  d ← direction
  exactly Word (codes "at")
  t ← target
  exactly Sign (codes ";")
  pure (st.Plug n d t)

unfoldable pub fail : Parser StmtPart
fail = do
  n ← number
  exactly Sign (codes ";")
  pure (st.Fail n.value n.at)

abbrev pub with_name : Command → Spot → StmtPart
with_name c.Start n = st.Start n
with_name c.Stop n = st.Stop n
with_name c.Destroy n = st.Destroy n
with_name c.Dump n = st.Dump n
with_name c.Hold n = st.Hold n
with_name c.Resume n = st.Resume n
with_name c.Subscribe n = st.Subscribe n
with_name c.Unsubscribe n = st.Unsubscribe n

unfoldable pub command_stmt : Command → Parser StmtPart
command_stmt word = do
  n ← name is_name
  exactly Sign (codes ";")
  pure (with_name word n)

-- ---- statements that begin with a name

unfoldable pub set : Spot → Parser StmtPart
set n = value >>= (λ x. pure (st.Set n x))

unfoldable pub escalate : ℕ → Parser StmtPart
escalate a = exactly Sign (codes ";") >> pure (st.Escalate a)

-- `answer` is a name, and what follows it says which
abbrev pub is_answer : Spot → Option Lexeme → Bool
is_answer n o = bytes_eq n.name (codes "answer") && not (is_exactly Sign (codes "=") o)

abbrev pub is_escalate : Bool → Spot → Option Lexeme → Bool
is_escalate two n o = two && bytes_eq n.name (codes "escalate") && is_exactly Sign (codes ";") o

abbrev pub named_by : Spot → Bool → Bool → Parser StmtPart
named_by n true escalates = answer n.at
named_by n false true = escalate n.at
named_by n false false = set n

unfoldable pub named : Bool → Parser StmtPart
named two = name is_name >>= (λ n. by_next (λ o. named_by n (is_answer n o) (is_escalate two n o)))

-- ---- statements with blocks

module _ (block : Parser (List StmtPart)) where
  abbrev pub else_by : Bool → Parser (Option (List StmtPart))
  else_by true = block >>= (λ zs. pure (Some zs))
  else_by false = pure None

  unfoldable pub else_part : Parser (Option (List StmtPart))
  else_part = eat Word (codes "else") >>= else_by

  unfoldable pub if_stmt : Parser StmtPart
  if_stmt = do
    x ← expr
    ys ← block
    zs ← else_part
    pure (st.If x ys zs)

  unfoldable pub while_stmt : Parser StmtPart
  while_stmt = do
    x ← expr
    ys ← block
    pure (st.While x ys)

  -- what stands behind a keyword
  abbrev pub stmt_by : Bool → Option Keyword → Parser StmtPart
  stmt_by two None = named two
  stmt_by two (Some k.If) = if_stmt
  stmt_by two (Some k.While) = while_stmt
  stmt_by two (Some k.Let) = let_stmt
  stmt_by two (Some k.Trigger) = trigger
  stmt_by two (Some k.Create) = create
  stmt_by two (Some k.Unplug) = unplug
  stmt_by two (Some k.Plug) = plug
  stmt_by two (Some k.Fail) = fail
  stmt_by two (Some (k.Command word)) = command_stmt word

  unfoldable pub stmt_with : Bool → ℕ → Parser StmtPart
  stmt_with two levels = may (word_among (keywords levels)) >>= stmt_by two

abbrev pub ends_block : Option Lexeme → Bool
ends_block o = is_exactly Sign (codes "}") o

-- what is left of a block after these statements
abbrev pub rest_of : Parser StmtPart → List StmtPart → Parser (List StmtPart)
rest_of stmt xs = do
  all ← loop (row_turn ends_block stmt onto) xs
  exactly Sign (codes "}")
  pure all

unfoldable pub block_of : Parser StmtPart → Parser (List StmtPart)
block_of stmt = exactly Sign (codes "{") >> rest_of stmt []

-- a statement that has so many levels of blocks below it
unfoldable pub stmt : Bool → ℕ → Parser StmtPart
stmt two zero = stmt_with refuse two zero
stmt two (suc levels) = stmt_with (block_of (stmt two levels)) two (suc levels)

unfoldable pub block : Bool → ℕ → Parser (List StmtPart)
block two zero = refuse
block two (suc levels) = block_of (stmt two levels)

unfoldable pub block_rest : Bool → ℕ → List StmtPart → Parser (List StmtPart)
block_rest two levels xs = rest_of (stmt two levels) xs
