use Rattle.kom_files.specs.Files.{bad_byte, number_too_big}
use Rattle.kom_scengram.proofs.text.read_text.Goals as goal

pub returns-in-BadByte : goal.returns-in-BadByte
returns-in-BadByte c = bad_byte _ c.in-BadByte.ensures

pub returns-in-NumberTooBig : goal.returns-in-NumberTooBig
returns-in-NumberTooBig c = number_too_big _ c.in-NumberTooBig.ensures
