-- How declarations of a component type are read from left to right, a function for each method.
use Rattle.std.specs.Prelude.{ℕ, ℤ, pos, Bool, true, false, ◌&&◌, List, [], ◌∷◌, Option, Some, None, codes, option_and_then}
use Rattle.kom_events.specs.declared.selector.Op.{Op}
use Rattle.kom_events.specs.declared.selector.Op.TheVariants as rel
use Rattle.kom_system.specs.declared.parts.OnPart.{OnPart}
use Rattle.kom_system.specs.declared.parts.OnPart.TheVariants as on
use Rattle.kom_system.specs.declared.parts.HandlerPart.{HandlerPart}
use Rattle.kom_system.specs.declared.parts.ChildPart.{ChildPart}
use Rattle.kom_system.specs.declared.parts.TargetPart.{TargetPart}
use Rattle.kom_system.specs.declared.parts.TargetPart.TheVariants as to
use Rattle.kom_system.specs.declared.parts.EndPart.{EndPart}
use Rattle.kom_system.specs.declared.parts.EndPart.TheVariants as at
use Rattle.kom_system.specs.declared.parts.TestPart.{TestPart}
use Rattle.kom_system.specs.declared.parts.ChannelPart.{ChannelPart}
use Rattle.kom_grammar.specs.declared.items.ItemPart.{ItemPart}
use Rattle.kom_grammar.specs.declared.items.ItemPart.TheVariants as i
use Rattle.kom_text.specs.declared.token.TokenKind.TheVariants.{Word, Sign}
use Rattle.kom_parse.specs.Lexemes.{Lexeme}
use Rattle.kom_parse.specs.Input.{Parser, ◌>>=◌, ◌>>◌, pure, may, want, eat_if, loop}
use Rattle.kom_parse.specs.Rules.{is_exactly, sign_in, exactly, eat, name, by_bytes, word_among, in_parens, more}
use Rattle.kom_grammar.specs.Words.{is_name}
use Rattle.kom_grammar.specs.Statements.{max_blocks}
use Rattle.kom_exprs.specs.Reading.{int}
use Rattle.kom_stmts.specs.Reading.{target, block}
use Rattle.kom_items.specs.declared.words.ItemWord.{ItemWord}
use Rattle.kom_items.specs.declared.words.ItemWord.TheVariants as item_word_is
use Rattle.kom_items.specs.declared.words.OnWord.{OnWord}
use Rattle.kom_items.specs.declared.words.OnWord.TheVariants as on_word_is

-- ---- words

abbrev pub spelling_of_item : ItemWord → List ℕ
spelling_of_item item_word_is.Provides = codes "provides"
spelling_of_item item_word_is.Requires = codes "requires"
spelling_of_item item_word_is.Var = codes "var"
spelling_of_item item_word_is.Slot = codes "slot"
spelling_of_item item_word_is.Channel = codes "channel"
spelling_of_item item_word_is.On = codes "on"

abbrev pub item_words : List (List ℕ × ItemWord)
item_words =
    (codes "provides", item_word_is.Provides) ∷ (codes "requires", item_word_is.Requires) ∷ (codes "var", item_word_is.Var) ∷ (codes "slot", item_word_is.Slot)
    ∷ (codes "channel", item_word_is.Channel) ∷ (codes "on", item_word_is.On) ∷ []

unfoldable pub item_word : Parser ItemWord
item_word = want (word_among item_words)

abbrev pub spelling_of_on : OnWord → List ℕ
spelling_of_on on_word_is.Init = codes "init"
spelling_of_on on_word_is.Start = codes "start"
spelling_of_on on_word_is.Stop = codes "stop"
spelling_of_on on_word_is.Fault = codes "fault"
spelling_of_on on_word_is.Dumped = codes "dumped"

abbrev pub on_words : List (List ℕ × OnWord)
on_words =
    (codes "init", on_word_is.Init) ∷ (codes "start", on_word_is.Start) ∷ (codes "stop", on_word_is.Stop) ∷ (codes "fault", on_word_is.Fault)
    ∷ (codes "dumped", on_word_is.Dumped) ∷ []

abbrev pub relations : List (List ℕ × Op)
relations = (codes "==", rel.Eq) ∷ (codes "!=", rel.Ne) ∷ (codes "<", rel.Lt) ∷ (codes "<=", rel.Le) ∷ (codes ">", rel.Gt) ∷ (codes ">=", rel.Ge) ∷ []

abbrev pub relation_in : Option Lexeme → Option Op
relation_in o = option_and_then (λ (bytes : List ℕ). by_bytes bytes relations) (sign_in o)

unfoldable pub relation : Parser Op
relation = want relation_in

-- ---- component types with arguments

unfoldable pub child : Parser ChildPart
child = do
  n ← name is_name
  vs ← in_parens int
  pure (record { kind = n; args = vs })

-- ---- channels

abbrev pub end_at : TargetPart → EndPart
end_at (to.Own q) = at.Own q
end_at (to.Child n q) = at.Child n q

abbrev pub end_by : Bool → Parser EndPart
end_by true = pure at.Free
end_by false = target >>= (λ t. pure (end_at t))

unfoldable pub end : Parser EndPart
end = eat Word (codes "free") >>= end_by

unfoldable pub test : Parser TestPart
test = do
  n ← name is_name
  exactly Sign (codes ".")
  m ← name is_name
  op ← relation
  i ← int
  pure (record { kind = n; attr = m; op = op; number = i })

-- what stands between tests, by version 2
abbrev pub is_and : Bool → Option Lexeme → Bool
is_and two o = two && is_exactly Sign (codes "&&") o

unfoldable pub eat_and : Bool → Parser Bool
eat_and two = eat_if (is_and two)

unfoldable pub tests : Bool → Parser (List TestPart)
tests two = test >>= (λ x. loop (more (is_and two) test) (x ∷ []))

abbrev pub selector_by : Bool → Bool → Parser (List TestPart)
selector_by two true = exactly Word (codes "when") >> tests two
selector_by two false = pure []

unfoldable pub selector : Bool → List ℕ → Parser (List TestPart)
selector two direction = eat Word direction >>= selector_by two

unfoldable pub channel : Bool → Parser ChannelPart
channel two = do
  n ← name is_name
  exactly Sign (codes ":")
  m ← name is_name
  exactly Word (codes "from")
  p ← end
  exactly Word (codes "to")
  q ← end
  ps ← selector two (codes "plus")
  qs ← selector two (codes "minus")
  exactly Sign (codes ";")
  pure (record { name = n; port = m; plus = p; minus = q; plus_when = ps; minus_when = qs })

-- ---- handlers

unfoldable pub on_event : Parser OnPart
on_event = do
  n ← name is_name
  exactly Word (codes "at")
  q ← name is_name
  pure (on.Event n q)

unfoldable pub on_init : Parser OnPart
on_init = in_parens (name is_name) >>= (λ ns. pure (on.Init ns))

unfoldable pub on_fault : Parser OnPart
on_fault = do
  exactly Sign (codes "(")
  n ← name is_name
  exactly Sign (codes ",")
  m ← name is_name
  exactly Sign (codes ")")
  pure (on.Fault n m)

unfoldable pub on_dumped : Parser OnPart
on_dumped = do
  exactly Sign (codes "(")
  n ← name is_name
  exactly Sign (codes ")")
  pure (on.Dumped n)

abbrev pub handled_by : Option OnWord → Parser OnPart
handled_by None = on_event
handled_by (Some on_word_is.Init) = on_init
handled_by (Some on_word_is.Start) = pure on.Start
handled_by (Some on_word_is.Stop) = pure on.Stop
handled_by (Some on_word_is.Fault) = on_fault
handled_by (Some on_word_is.Dumped) = on_dumped

-- what is handled
unfoldable pub handled : Parser OnPart
handled = may (word_among on_words) >>= handled_by

-- an init handler is never off
abbrev pub off : OnPart → Parser Bool
off (on.Init ns) = pure false
off (on.Event n q) = eat Word (codes "off")
off on.Start = eat Word (codes "off")
off on.Stop = eat Word (codes "off")
off (on.Fault n m) = eat Word (codes "off")
off (on.Dumped n) = eat Word (codes "off")

unfoldable pub handler : Bool → Parser HandlerPart
handler two = do
  o ← handled
  exactly Word (codes "as")
  n ← name is_name
  is_off ← off o
  xs ← block two max_blocks
  pure (record { name = n; on = o; off = is_off; block = xs })

-- ---- all declarations

unfoldable pub port : Bool → Parser ItemPart
port provided = do
  n ← name is_name
  exactly Sign (codes ":")
  m ← name is_name
  exactly Sign (codes ";")
  pure (i.Port (record { name = n; port = m; provided = provided }))

abbrev pub first_value_by : Bool → Parser ℤ
first_value_by true = int
first_value_by false = pure (pos 0)

unfoldable pub first_value : Parser ℤ
first_value = eat Sign (codes "=") >>= first_value_by

unfoldable pub var : Parser ItemPart
var = do
  n ← name is_name
  v ← first_value
  exactly Sign (codes ";")
  pure (i.Var (record { name = n; first = v }))

abbrev pub first_child_by : Bool → Parser (Option ChildPart)
first_child_by true = child >>= (λ x. pure (Some x))
first_child_by false = pure None

unfoldable pub first_child : Parser (Option ChildPart)
first_child = eat Sign (codes ":") >>= first_child_by

unfoldable pub slot : Parser ItemPart
slot = do
  n ← name is_name
  x ← first_child
  exactly Sign (codes ";")
  pure (i.Slot (record { name = n; child = x }))

-- behind the word
abbrev pub item_by : Bool → ItemWord → Parser ItemPart
item_by two item_word_is.Provides = port true
item_by two item_word_is.Requires = port false
item_by two item_word_is.Var = var
item_by two item_word_is.Slot = slot
item_by two item_word_is.Channel = channel two >>= (λ x. pure (i.Channel x))
item_by two item_word_is.On = handler two >>= (λ x. pure (i.Handler x))

unfoldable pub item : Bool → Parser ItemPart
item two = item_word >>= item_by two
