-- What a reader gave and what a writer took, where it is known.
use Rattle.std.proofs.Common.{◌≡◌, ◌∙◌, ℕ, ◌-◌, ◌<◌, List, [], ◌++◌, length, take, drop, Option, Some, None, sym, ap, append_assoc, append-nil, take-append-drop}
use Rattle.std.proofs.lemmas.List.{take_rest}
use Rattle.std.specs.Io.KnownBytes.{Keeps, Appends, Consumes, IsAtEnd}
use Rattle.host_io.specs.Folder.{IsAll}

-- a reader that gave nothing more had given all
pub whole : (old mid new : Option (List ℕ)) (bytes piece : List ℕ) (n : ℕ) → Consumes old mid bytes → Consumes mid new (take n piece) × (n ≡ 0 → 0 < length piece → IsAtEnd new) → n ≡ 0 → 0 < length piece → IsAll old bytes
whole None mid new bytes piece n gave last none room = tt
whole (Some known) None new bytes piece n gave last none room = absurd gave
whole (Some known) (Some left) None bytes piece n gave last none room = absurd last.0
whole (Some known) (Some left) (Some end) bytes piece n gave last none room =
    let nothing : left ≡ end = last.0 ∙ ap (λ k. take k piece ++ end) none in
    sym (gave ∙ ap (λ l. bytes ++ l) (nothing ∙ last.1 none room) ∙ append-nil bytes)

pub moves_front : (all done rest : List ℕ) (n : ℕ) → all ≡ done ++ rest → all ≡ (done ++ take n rest) ++ take (length rest - n) (drop n rest)
moves_front all done rest n e =
    e ∙ ap (λ l. done ++ l) (sym (take-append-drop n rest)) ∙ sym (append_assoc done (take n rest) (drop n rest)) ∙ ap (λ l. (done ++ take n rest) ++ l) (sym (take_rest rest n))

-- a writer that took all keeps it
pub taken : (old mid new : Option (List ℕ)) (bytes done rest : List ℕ) → bytes ≡ done ++ rest → rest ≡ [] → Appends old mid done → Keeps mid new → Appends old new bytes
taken None mid new bytes done rest split none took keeps = tt
taken (Some x) None new bytes done rest split none took keeps = absurd took
taken (Some x) (Some y) None bytes done rest split none took keeps = absurd keeps
taken (Some x) (Some y) (Some z) bytes done rest split none took keeps =
    keeps ∙ took ∙ ap (λ l. x ++ l) (sym (split ∙ ap (λ l. done ++ l) none ∙ append-nil done))
