-- Which types may cross threads.
use denote.Param.Send.{IsSend, IsSync, sendable}
use Rattle.std.proofs.Crossing.{crosses}
use Rattle.plan_core.proofs.plan.Plan.TheSendSync as plan
use Rattle.vcell.proofs.cell.VCell.TheSendSync as cell
use Rattle.vcell.proofs.cell.Pass.TheSendSync as pass
use Rattle.seat_list.proofs.list.SeatList.TheSendSync as seats
use Rattle.book_core.specs.contracts.book.Book as Book
use Rattle.book_core.specs.contracts.replica.Replica as Replica
use Rattle.book_core.specs.contracts.world.World as World

pub book_send : IsSend Book.the_row
book_send = search (sendable, plan.the_send, crosses) depth 60 fits 100000

pub book_sync : IsSync Book.the_row
book_sync = search (sendable, plan.the_sync, crosses) depth 60 fits 100000

pub replica_send : IsSend Replica.the_row
replica_send = search (sendable, plan.the_send, crosses) depth 60 fits 100000

pub replica_sync : IsSync Replica.the_row
replica_sync = search (sendable, plan.the_sync, crosses) depth 60 fits 100000

pub world_send : IsSend World.the_row
world_send = search (sendable, book_send, replica_send, crosses) depth 60 fits 100000

pub world_sync : IsSync World.the_row
world_sync = search (sendable, book_sync, replica_sync, crosses) depth 60 fits 100000

-- what a thread may take of a book: the book, its replicas and worlds, its lock, and its passes
pub ruleset books = (book_send, book_sync, replica_send, replica_sync, world_send, world_sync, cell.the_send, cell.the_sync, pass.the_send, seats.the_send, seats.the_sync)
