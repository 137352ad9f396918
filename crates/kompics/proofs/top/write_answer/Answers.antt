use Rattle.kompics.proofs.Ending.{of_written, of_shelf, of_memory}
use Rattle.kompics.proofs.top.write_answer.Goals as goal

pub returns-in-Run-clause-end : goal.returns-in-Run-clause-end
returns-in-Run-clause-end g c = λ has_workers system scenario words files before after is.
    of_written has_workers system scenario words files c.write_run.result before after _ _ _ _ _ _ _ c.write_run.ensures.kept (rw c.in-Run.is at is) c.write_run.ensures.written

pub returns-in-ShelfFault-clause-end : goal.returns-in-ShelfFault-clause-end
returns-in-ShelfFault-clause-end g c = λ has_workers system scenario words files before after is.
    of_shelf has_workers system scenario words files c.without_record.result before after _ _ c.without_record.ensures.status c.without_record.ensures.kept (rw c.in-ShelfFault.is at is)

pub returns-in-NoCommand-clause-end : goal.returns-in-NoCommand-clause-end
returns-in-NoCommand-clause-end g c = λ has_workers system scenario words files before after is.
    of_written has_workers system scenario words files c.say.result before after _ _ _ _ _ _ _ c.say.ensures.kept (rw c.in-NoCommand.is at is) c.say.ensures.written

pub returns-in-Text-clause-end : goal.returns-in-Text-clause-end
returns-in-Text-clause-end g c = λ has_workers system scenario words files before after is.
    of_written has_workers system scenario words files c.say-in-Text.result before after _ _ _ _ _ _ _ c.say-in-Text.ensures.kept (rw c.in-Text.is at is) (rw c.as_slice.ensures.value at c.say-in-Text.ensures.written)

pub returns-in-Refused-clause-end : goal.returns-in-Refused-clause-end
returns-in-Refused-clause-end g c = λ has_workers system scenario words files before after is.
    of_written has_workers system scenario words files c.say-in-Refused.result before after _ _ _ _ _ _ _ c.say-in-Refused.ensures.kept (rw c.in-Refused.is at is) (rw c.as_bytes.ensures.value at c.say-in-Refused.ensures.written)

pub returns-in-Memory-clause-end : goal.returns-in-Memory-clause-end
returns-in-Memory-clause-end g c = λ has_workers system scenario words files before after is.
    of_memory has_workers system scenario words files c.without_record-in-Memory.result before after _ _ c.without_record-in-Memory.ensures.status c.without_record-in-Memory.ensures.kept
