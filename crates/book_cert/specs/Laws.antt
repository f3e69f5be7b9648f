-- The laws of what a solver writes. Each is the contract of a function of the crate, so each is proved.
use Rattle.std.specs.Prelude.{◌≡◌}
use Rattle.tri_check.specs.Problems.{Problem, IsProblem}
use Rattle.plan_law.specs.Books.{IsBook}
use Rattle.book_core.specs.Entries.{IsJustifiedRow}
use Rattle.book_core.specs.HeldBooks.{HeldBook, book_of}
use Rattle.solution_json.specs.declared.solution.Solution.{Solution}
use Rattle.cert_text.specs.declared.cert.Cert.{Cert}
use Rattle.cert_text.specs.Certs.{IsWritable}
use Rattle.verify_core.specs.Faults.{IsShown}
use Rattle.book_solve.specs.declared.order.Order.{Order}
use Rattle.book_solve.specs.Solved.{IsSolvedBook}
use Rattle.book_cert.specs.Certificates.{IsSolutionOf, IsCertificateOf}
use Rattle.book_cert.specs.Written.{IsWritten}

-- a book of an instance whose journal is legal
abbrev pub IsLegalBook : HeldBook → Type 0
IsLegalBook b = IsProblem b.problem.points b.problem.inputs × (b.opening.weights ≡ b.problem.weights) × IsBook (IsJustifiedRow b.problem.points b.problem.inputs) b.problem.points b.problem.inputs (book_of b)

-- the certificate of a book has a text
abbrev pub CertificatesAreWritable : Type 0
CertificatesAreWritable = (b : HeldBook) (c : Cert) → IsLegalBook b → IsCertificateOf b c → IsWritable c

-- the solution and the certificate of a solved book are what is written for its instance
abbrev pub SolvedBooksAreWritten : Type 0
SolvedBooksAreWritten =
    (problem : Problem) (order : Order) (b : HeldBook) (s : Solution) (c : Cert) → IsLegalBook b → IsSolvedBook problem order b → IsSolutionOf b s → IsCertificateOf b c → IsWritten problem order s c

-- and a verifier finds no fault in it
abbrev pub WhatIsWrittenIsShown : Type 0
WhatIsWrittenIsShown = (problem : Problem) (order : Order) (s : Solution) (c : Cert) → IsProblem problem.points problem.inputs → IsWritten problem order s c → IsShown problem s c
