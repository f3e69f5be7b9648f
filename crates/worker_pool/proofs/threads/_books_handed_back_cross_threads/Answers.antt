use denote.Param.Send.{sendable}
use Rattle.std.proofs.Crossing.{crosses}
use Rattle.book_core.proofs.Crossing.{books}
use Rattle.worker_pool.proofs.threads._books_handed_back_cross_threads.Goals as goal

pub crosses-requires-send-T : goal.crosses-requires-send-T
crosses-requires-send-T c κs = search (sendable, books, crosses) depth 40 fits 100000

pub crosses-requires-sync-T : goal.crosses-requires-sync-T
crosses-requires-sync-T c κs = search (sendable, books, crosses) depth 40 fits 100000
