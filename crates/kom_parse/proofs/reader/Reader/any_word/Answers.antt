use Rattle.kom_parse.proofs.Steps.{word_found}
use Rattle.kom_parse.proofs.reader.Reader.any_word.Goals as goal

pub returns-in_ok-name-in-Some : goal.returns-in_ok-name-in-Some
returns-in_ok-name-in-Some c = rw (c.skip.ensures, c.in_ok-name-in-Some.ensures {u = tt}) (word_found _ c.in-Some.word _ c.in-Some.is c.next_word.ensures)
