-- What a frame is seen as.
use Rattle.flip_cnf.specs.declared.frame.Kind.{Kind}
use Rattle.flip_cnf.specs.declared.frame.Kind.TheVariants as kind
use Rattle.flip_cnf.specs.HeldFrames.{HeldFrame, Listed, Many}

abbrev pub held : Kind → HeldFrame
held (kind.Listed lists) = Listed lists
held (kind.Many n) = Many n
