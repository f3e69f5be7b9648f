-- Which types may cross threads.
use mathlib.Core.List.{[], ◌∷◌}
use mir.Syntax.{Sym}
use denote.RattleType.{RattleType}
use denote.Struct.Field.{row_field}
use denote.Struct.Tuple.{TupleAt, type_at}
use denote.Param.Send.{IsSend, IsSync, sendable}
use denote.Param.SendFields.{declared_send, as_row_send}
use Rattle.std.proofs.Crossing.{crosses}
pub use Rattle.std.proofs.Crossing.{sync}
use Rattle.vcell.specs.contracts.cell.VCell as VCell
use Rattle.vcell.specs.contracts.cell.Pass as Pass
use Rattle.claims.proofs.counter.Claims.TheSendSync as claims
use Rattle.claims.proofs.counter.ClaimSeat.TheSendSync as seat
use Rattle.claims.specs.contracts.counter.Claims as Claims
use Rattle.claims.specs.contracts.counter.ClaimSeat as ClaimSeat
use Rattle.flip_cnf.specs.contracts.frame.Frame as Frame
use Rattle.plan_core.specs.contracts.plan.Plan as Plan
use Rattle.book_core.specs.contracts.book.Book as Book
use Rattle.book_core.specs.contracts.entry.Entry as Entry
use Rattle.book_core.specs.contracts.grows.BookGrows.TheImpl.{ghosts}
use Rattle.book_core.proofs.Crossing.{books}
use Rattle.worker_pool.specs.contracts.limits.Limits as Limits

pub cell_sync : IsSync (VCell.the_row Book.the_row Entry.the_row Plan.the_row ghosts)
cell_sync = search (sendable, books, crosses) depth 60 fits 100000

pub pass_send : IsSend (Pass.the_row Book.the_row Entry.the_row Plan.the_row ghosts)
pass_send = search (sendable, books, crosses) depth 60 fits 100000

pub claims_sync : IsSync Claims.the_row
claims_sync = search (sendable, claims.the_sync, crosses) depth 60 fits 100000

pub seat_send : IsSend ClaimSeat.the_row
seat_send = search (sendable, seat.the_send, crosses) depth 60 fits 100000

pub frame_sync : IsSync Frame.the_row
frame_sync = search (sendable, crosses) depth 60 fits 100000

pub limits_sync : IsSync Limits.the_row
limits_sync = search (sendable, crosses) depth 60 fits 100000

-- what takes nine things with it
pub nine_send : (name : Sym) (A B C D E F G H I : RattleType) → IsSend A → IsSend B → IsSend C → IsSend D → IsSend E → IsSend F → IsSend G → IsSend H → IsSend I
    → IsSend (TupleAt name (A ∷ B ∷ C ∷ D ∷ E ∷ F ∷ G ∷ H ∷ I ∷ []))
nine_send name A B C D E F G H I a b c d e f g h i = declared_send (type_at name (A ∷ B ∷ C ∷ D ∷ E ∷ F ∷ G ∷ H ∷ I ∷ [])) (
  as_row_send (row_field A) a,
  (
    as_row_send (row_field B) b,
    (
      as_row_send (row_field C) c,
      (
        as_row_send (row_field D) d,
        (as_row_send (row_field E) e, (as_row_send (row_field F) f, (as_row_send (row_field G) g, (as_row_send (row_field H) h, (as_row_send (row_field I) i, tt))))),
      ),
    ),
  ),
)
