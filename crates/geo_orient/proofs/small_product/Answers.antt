use Rattle.std.proofs.Common.{◌^◌, arith}
use mir.Syntax.{w64}
use Rattle.geo_orient.proofs.Bits.{exact_product, abs_product}
use Rattle.geo_orient.proofs.small_product.Goals as goal

pub returns-clause-exact : goal.returns-clause-exact
returns-clause-exact c = exact_product w64 c.args.a c.args.b (2 ^ 30) (2 ^ 30) c.requires.left c.requires.right (omega arith) (omega arith) (omega arith)

pub returns-clause-limit : goal.returns-clause-limit
returns-clause-limit c = rw (exact_product w64 c.args.a c.args.b (2 ^ 30) (2 ^ 30) c.requires.left c.requires.right (omega arith) (omega arith) (omega arith)) (abs_product c.args.a c.args.b (2 ^ 30) (2 ^ 30) c.requires.left c.requires.right)
