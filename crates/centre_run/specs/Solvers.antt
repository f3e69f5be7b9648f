-- What a call may rely on that is given a solver.
use Rattle.std.specs.Prelude.{Result, IfOk, IfErr}
use Rattle.tri_check.specs.Problems.{Problem}
use Rattle.lawson_start.specs.declared.fault.StartFault.{StartFault}
use Rattle.lawson_start.specs.Starts.{IsStartFault}
use Rattle.cert_text.specs.Certs.{IsWritable}
use Rattle.verify_core.specs.Faults.{IsShown}
use Rattle.book_solve.specs.declared.order.Order.{Order}
use Rattle.book_cert.specs.declared.writing.Written.{Written}
use Rattle.book_cert.specs.Written.{IsWritten}

-- what is found for an instance and an order: a solution and a certificate, in which a verifier finds no fault, or the fault of the opening
pub record IsFound (instance : Problem) (order : Order) (found : Result Written StartFault) : Type 0 where
  pub written : IfOk found (λ w. IsWritten instance order w.solution w.certificate)
  pub shown : IfOk found (λ w. IsShown instance w.solution w.certificate)
  pub writable : IfOk found (λ w. IsWritable w.certificate)
  pub err : IfErr found (IsStartFault instance.points instance.inputs order.flips)
