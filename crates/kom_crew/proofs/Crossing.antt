-- A worker, and all that it may have in hand, may cross threads: what a job shares holds no more than expressions and
-- statements, which reach themselves, and lists of numbers.
use denote.RattleType.{RattleType}
use denote.Enum.Declared.{row}
use denote.Hole.FixSend.{fix_send, fix_sync, Sends, Syncs}
use denote.Param.Send.{IsSend, IsSync, sendable, plain_send, view_send, view_sync}
use denote.Param.SendFields.{variants_send, variants_sync, as_row_send, as_row_sync}
use denote.Builtin.{u8}
use denote.Param.SendFields.{declared_send as record_send, declared_sync as record_sync}
use Rattle.std.proofs.Crossing.{crosses}
use Rattle.sqlite_items.specs.contracts.items.Items as Items
use Rattle.kom_lang.proofs.expr.Binary.TheSendSync as binary
use Rattle.kom_base.proofs.numbers.Dir.TheSendSync as dir
use Rattle.kom_lang.proofs.stmt.Target.TheSendSync as target
use Rattle.kom_lang.proofs.name.Name.TheSendSync as name
use Rattle.kom_lang.specs.contracts.expr.Expr as expr
use Rattle.kom_lang.specs.contracts.expr.Expr.TheKnot as exprs
use Rattle.kom_lang.specs.contracts.stmt.Stmt as stmt
use Rattle.kom_lang.specs.contracts.stmt.Stmt.TheKnot as stmts
use Rattle.kom_lang.specs.contracts.stmt.Handler as handler
use Rattle.kom_lang.specs.contracts.kind.Kind as kind
use Rattle.kom_lang.proofs.kind.PortDecl.TheSendSync as port
use Rattle.kom_lang.proofs.kind.VarDecl.TheSendSync as var
use Rattle.kom_lang.proofs.kind.SlotDecl.TheSendSync as slot
use Rattle.kom_lang.proofs.kind.ChannelDecl.TheSendSync as channel
use Rattle.kom_lang.proofs.body.Body.TheSendSync as body
use Rattle.kom_events.proofs.EventTypes.TheSendSync as events
use Rattle.kom_events.proofs.PortTypes.TheSendSync as ports
use Rattle.kom_system.specs.contracts.declared.Declared as declared
use Rattle.kom_system.specs.contracts.system.System as system
use Rattle.kom_record.proofs.item.Item.TheSendSync as item
use Rattle.kom_record.proofs.entry.Outcome.TheSendSync as outcome
use Rattle.kom_exchange.proofs.exchange.Seat.TheSendSync as seat
use Rattle.kom_ready.proofs.lots.Lot.TheSendSync as lot
use Rattle.kom_record.specs.contracts.job.Job as job
use Rattle.kom_record.specs.contracts.job.Ran as ran
use Rattle.kom_crew.specs.contracts.worker.Left as left
use Rattle.kom_crew.specs.contracts.worker.Worker as worker

-- ---- expressions

layer_send : (h : exprs.the_members → RattleType) → IsSend (h expr.the_member) → IsSend (row (expr.the_layer h))
layer_send h s = search (sendable, crosses, binary.the_send) depth 40

layer_sync : (h : exprs.the_members → RattleType) → IsSync (h expr.the_member) → IsSync (row (expr.the_layer h))
layer_sync h s = search (sendable, crosses, binary.the_sync) depth 40

hole_send : IsSend expr.the_hole
hole_send = fix_send expr.the_ring (expr.by_members (Sends expr.the_ring) (record { send = λ h all. layer_send h (all expr.the_member) })) expr.the_member

hole_sync : IsSync expr.the_hole
hole_sync = fix_sync expr.the_ring (expr.by_members (Syncs expr.the_ring) (record { sync = λ h all. layer_sync h (all expr.the_member) })) expr.the_member

pub expr_send : IsSend expr.the_row
expr_send = variants_send expr.enum (search (sendable, crosses, as_row_send, hole_send, binary.the_send) depth 40)

pub expr_sync : IsSync expr.the_row
expr_sync = variants_sync expr.enum (search (sendable, crosses, as_row_sync, hole_sync, binary.the_sync) depth 40)

-- ---- statements

stmt_layer_send : (h : stmts.the_members → RattleType) → IsSend (h stmt.the_member) → IsSend (row (stmt.the_layer h))
stmt_layer_send h s = search (sendable, crosses, expr_send, dir.the_send, target.the_send, name.the_send) depth 100 fits 20000

stmt_layer_sync : (h : stmts.the_members → RattleType) → IsSync (h stmt.the_member) → IsSync (row (stmt.the_layer h))
stmt_layer_sync h s = search (sendable, crosses, expr_sync, dir.the_sync, target.the_sync, name.the_sync) depth 100 fits 20000

stmt_hole_send : IsSend stmt.the_hole
stmt_hole_send = fix_send stmt.the_ring (stmt.by_members (Sends stmt.the_ring) (record { send = λ h all. stmt_layer_send h (all stmt.the_member) })) stmt.the_member

stmt_hole_sync : IsSync stmt.the_hole
stmt_hole_sync = fix_sync stmt.the_ring (stmt.by_members (Syncs stmt.the_ring) (record { sync = λ h all. stmt_layer_sync h (all stmt.the_member) })) stmt.the_member

pub stmt_send : IsSend stmt.the_row
stmt_send = variants_send stmt.enum (search (sendable, crosses, as_row_send, stmt_hole_send, expr_send, dir.the_send, target.the_send, name.the_send) depth 100 fits 20000)

pub stmt_sync : IsSync stmt.the_row
stmt_sync = variants_sync stmt.enum (search (sendable, crosses, as_row_sync, stmt_hole_sync, expr_sync, dir.the_sync, target.the_sync, name.the_sync) depth 100 fits 20000)

-- ---- systems

kind_send : IsSend kind.the_row
kind_send = let a : IsSend handler.the_row = search (sendable, crosses, stmt_send, name.the_send) depth 40 in
    search (sendable, crosses, name.the_send, port.the_send, var.the_send, slot.the_send, channel.the_send) depth 40

kind_sync : IsSync kind.the_row
kind_sync = let a : IsSync handler.the_row = search (sendable, crosses, stmt_sync, name.the_sync) depth 40 in
    search (sendable, crosses, name.the_sync, port.the_sync, var.the_sync, slot.the_sync, channel.the_sync) depth 40

declared_send : IsSend declared.the_row
declared_send = search (sendable, crosses, kind_send, name.the_send, events.the_send, ports.the_send) depth 40

declared_sync : IsSync declared.the_row
declared_sync = search (sendable, crosses, kind_sync, name.the_sync, events.the_sync, ports.the_sync) depth 40

heights_send : IsSend (Items.the_row u8)
heights_send = search (sendable, crosses) depth 20

heights_sync : IsSync (Items.the_row u8)
heights_sync = search (sendable, crosses) depth 20

pub system_send : IsSend system.the_row
system_send = search (view_send, record_send, declared_send, as_row_send, heights_send) depth 20

pub system_sync : IsSync system.the_row
system_sync = search (view_sync, record_sync, declared_sync, as_row_sync, heights_sync) depth 20

-- ---- jobs

pub job_send : IsSend job.the_row
job_send = search (crosses, record_send, as_row_send, system_send, system_sync, item.the_send, body.the_send, plain_send) depth 20

pub ran_send : IsSend ran.the_row
ran_send = search (record_send, job_send, outcome.the_send) depth 20

-- ---- workers

left_send : IsSend left.the_row
left_send = search (variants_send, job_send, ran_send) depth 20

pub worker_send : IsSend worker.the_row
worker_send = search (record_send, as_row_send, left_send, seat.the_send, lot.the_send, plain_send) depth 20
