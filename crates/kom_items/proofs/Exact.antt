-- What the readers of declarations give is what the grammar says.
use Rattle.std.proofs.Common.{◌≡◌, Bool, List, [], Result}
use Rattle.std.proofs.lemmas.List.{append-nil}
use Rattle.kom_system.specs.declared.parts.ChildPart.{ChildPart}
use Rattle.kom_grammar.specs.declared.items.ItemPart.{ItemPart}
use Rattle.kom_parse.specs.declared.stop.Stop.{Stop}
use Rattle.kom_parse.specs.Lexemes.{Lexeme}
use Rattle.kom_parse.specs.Input.{Read, Reads}
use Rattle.kom_parse.specs.Answers.{IsAnswer}
use Rattle.kom_parse.proofs.Exact.{exact}
use Rattle.kom_grammar.specs.Files.{SpellsChild, SpellsItem}
use Rattle.kom_items.specs.Reading.{child, item}
use Rattle.kom_items.proofs.ItemReads.{child_reader, item_reader}
use Rattle.kom_items.proofs.ItemWhole.{child_whole, item_whole}

-- to the end
child_to_end : (t : List Lexeme) (x : ChildPart) → SpellsChild t x → child t ≡ Read x []
child_to_end t x d = let e = child_whole d [] in rw append-nil at e

pub child_exact : (tokens : List Lexeme) (r : Result ChildPart Stop) (rest : List Lexeme) → Reads (child tokens) r rest → IsAnswer SpellsChild tokens r rest
child_exact tokens r rest e = exact child SpellsChild child_reader child_to_end tokens r rest e

item_to_end : (two : Bool) (t : List Lexeme) (x : ItemPart) → SpellsItem two t x → item two t ≡ Read x []
item_to_end two t x d = let e = item_whole d [] in rw append-nil at e

pub item_exact : (two : Bool) (tokens : List Lexeme) (r : Result ItemPart Stop) (rest : List Lexeme) → Reads (item two tokens) r rest → IsAnswer (SpellsItem two) tokens r rest
item_exact two tokens r rest e = exact (item two) (SpellsItem two) (item_reader two) (item_to_end two) tokens r rest e
