use Rattle.book_core.proofs.Worlds.{events_keep_worlds}
use Rattle.book_core.proofs.laws.Goals as goal

pub returns : goal.returns
returns _ = record { events_keep_worlds = events_keep_worlds }
