use Rattle.std.proofs.Common.{Some, None, ◌∙◌, ap}
use Rattle.kom_stmts.proofs.StmtSteps.{stmt_reads}
use Rattle.kom_stmts.proofs.stmt.+stmt.Goals as goal

pub statement-returns-in_default : goal.statement-returns-in_default
statement-returns-in_default t c = stmt_reads _ _ _ _ _ None _ _ c.in_default.is c.take_keyword.ensures c.named.ensures

pub statement-returns-in-If : goal.statement-returns-in-If
statement-returns-in-If t c = stmt_reads _ _ _ _ _ _ _ _ (c.in-Some.is ∙ ap Some c.in-If.is) c.take_keyword.ensures c.if_stmt.ensures

pub statement-returns-in-While : goal.statement-returns-in-While
statement-returns-in-While t c = stmt_reads _ _ _ _ _ _ _ _ (c.in-Some.is ∙ ap Some c.in-While.is) c.take_keyword.ensures c.while_stmt.ensures

pub statement-returns-in-Let : goal.statement-returns-in-Let
statement-returns-in-Let t c = stmt_reads _ _ _ _ _ _ _ _ (c.in-Some.is ∙ ap Some c.in-Let.is) c.take_keyword.ensures c.let_stmt.ensures

pub statement-returns-in-Trigger : goal.statement-returns-in-Trigger
statement-returns-in-Trigger t c = stmt_reads _ _ _ _ _ _ _ _ (c.in-Some.is ∙ ap Some c.in-Trigger.is) c.take_keyword.ensures c.trigger.ensures

pub statement-returns-in-Create : goal.statement-returns-in-Create
statement-returns-in-Create t c = stmt_reads _ _ _ _ _ _ _ _ (c.in-Some.is ∙ ap Some c.in-Create.is) c.take_keyword.ensures c.create.ensures

pub statement-returns-in-Unplug : goal.statement-returns-in-Unplug
statement-returns-in-Unplug t c = stmt_reads _ _ _ _ _ _ _ _ (c.in-Some.is ∙ ap Some c.in-Unplug.is) c.take_keyword.ensures c.unplug.ensures

pub statement-returns-in-Plug : goal.statement-returns-in-Plug
statement-returns-in-Plug t c = stmt_reads _ _ _ _ _ _ _ _ (c.in-Some.is ∙ ap Some c.in-Plug.is) c.take_keyword.ensures c.plug.ensures

pub statement-returns-in-Fail : goal.statement-returns-in-Fail
statement-returns-in-Fail t c = stmt_reads _ _ _ _ _ _ _ _ (c.in-Some.is ∙ ap Some c.in-Fail.is) c.take_keyword.ensures c.fail.ensures

pub statement-returns-in-Command : goal.statement-returns-in-Command
statement-returns-in-Command t c = stmt_reads _ _ _ _ _ _ _ _ (c.in-Some.is ∙ ap Some c.in-Command.is) c.take_keyword.ensures c.command_stmt.ensures
