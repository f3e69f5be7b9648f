-- Bytes that are put piece by piece.
use Rattle.std.proofs.Common.{◌≡◌, ◌∙◌, ℕ, ◌+◌, ◌-◌, ◌<◌, List, [], ◌++◌, length, take, drop, Option, Some, None, Result, Ok, Err, refl, sym, ap, append_assoc, arith}
use Rattle.std.proofs.lemmas.List.{take-append-drop, append-nil, length-drop}
use Rattle.std.proofs.Math.Seq.{take-add}
use Rattle.host_io.specs.Sink.{Puts, Takes}
use Rattle.host_io.specs.declared.fail.SinkFail.{SinkFail}

-- a piece, and then the rest
pub takes_more : (old new last : Option (List ℕ)) (rest : List ℕ) (n : ℕ) (r : Result (Unit {0}) SinkFail) → Puts old new rest (Ok n) → Takes new last (drop n rest) r → Takes old last rest r
takes_more None new last rest n r puts takes = rw puts at takes
takes_more (Some old) new last rest n (Ok u) puts takes =
    let tail = rw puts.1 at takes in
    (tail.0, tail.1, tail.2 ∙ ap (λ xs. xs ++ drop n rest) puts.2 ∙ append_assoc old (take n rest) (drop n rest) ∙ ap (λ xs. old ++ xs) (take-append-drop n rest))
takes_more (Some old) new last rest n (Err e) puts takes =
    let tail = rw puts.1 at takes in
    let m = tail.2.0 in
    let left : length (drop n rest) ≡ length rest - n = length-drop n rest in
    (tail.0, tail.1, (n + m, omega (arith, left, tail.2.1), tail.2.2 ∙ ap (λ xs. xs ++ take m (drop n rest)) puts.2 ∙ append_assoc old (take n rest) (take m (drop n rest)) ∙ ap (λ xs. old ++ xs) (sym (take-add n m rest))))

-- nothing is left to put
pub takes_all : (old : Option (List ℕ)) → Takes old old [] (Ok tt)
takes_all None = refl
takes_all (Some old) = (old, refl, sym (append-nil old))

-- a put that failed took nothing, where something was to be taken
pub takes_none : (old new : Option (List ℕ)) (rest : List ℕ) (e d : SinkFail) → 0 < length rest → Puts old new rest (Err e) → Takes old new rest (Err d)
takes_none None new rest e d some puts = puts
takes_none (Some old) new rest e d some puts = (puts.0, puts.1, (0, some, puts.2 ∙ sym (append-nil old)))
