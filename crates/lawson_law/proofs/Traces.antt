-- Runs with the images of their flips.
use Rattle.std.proofs.Common.{◌≡◌, inr, ℕ, zero, suc, ◌≤◌, List, [], ◌∷◌, take, Some, slice_get, Contains, refl, sym, ap₂, subst, arith}
use Rattle.std.proofs.lemmas.Option.{get_or_from_slice_get, slice_get_within}
use Rattle.geo_orient.specs.declared.Point.{Point}
use Rattle.edge_table.specs.declared.edge.Edge.{Edge}
use Rattle.edge_table.proofs.Edges.{contains_here, contains_later}
use Rattle.tri_theory.specs.Points.{ArePlaced}
use Rattle.tri_theory.specs.Triangulations.{IsTriangulation}
use Rattle.tri_theory.proofs.Lists.{one_image_of}
use Rattle.tri_theory.proofs.Single.{flip_triangulation}
use Rattle.lawson_law.specs.LawsonRuns.{LawsonRunsTo, IsTraced, AreNoLaterImages}
use Rattle.lawson_law.proofs.OneRun.{one_next}
use Rattle.lawson_law.proofs.Sinking.{never_returns}

-- ---- what is traced is a run, and a run has one list of images
pub traced_run : (points : List Point) (from flips images to : List Edge) → IsTraced points from flips images to → LawsonRunsTo points from flips to
traced_run points from [] [] to same = same
traced_run points from [] (f ∷ images) to t = absurd t
traced_run points from (e ∷ flips) [] to t = absurd t
traced_run points from (e ∷ flips) (f ∷ images) to (U, least, F, more) = (f, U, least, F, traced_run points U flips images to more)

pub some_trace : (points : List Point) (from flips to : List Edge) → LawsonRunsTo points from flips to → (images : List Edge) × IsTraced points from flips images to
some_trace points from [] to same = ([], same)
some_trace points from (e ∷ flips) to (f, U, least, F, more) = over (some_trace points U flips to more)
  where
    over : (images : List Edge) × IsTraced points U flips images to → (images : List Edge) × IsTraced points from (e ∷ flips) images to
    over (images, t) = (f ∷ images, (U, least, F, t))

pub one_trace : (points : List Point) → ArePlaced points → (from flips images others to : List Edge) → IsTriangulation points from → IsTraced points from flips images to → IsTraced points from flips others to → images ≡ others
one_trace points P from [] [] [] to I t s = refl
one_trace points P from [] [] (g ∷ others) to I t s = absurd s
one_trace points P from [] (f ∷ images) others to I t s = absurd t
one_trace points P from (e ∷ flips) [] others to I t s = absurd t
one_trace points P from (e ∷ flips) (f ∷ images) [] to I t s = absurd s
one_trace points P from (e ∷ flips) (f ∷ images) (g ∷ others) to I (U, least, F, more) (V, least', G, more') =
    let next = one_next points P from I e f g U V F G in
    ap₂ ◌∷◌ (one_image_of points P from I e f g F.flips G.flips)
    (one_trace points P U flips images others to (flip_triangulation points P from U e f I F) more (subst (λ es. IsTraced points es flips others to) (sym next) more'))

-- ---- a flip is no image at its own place or at a later one
among : (es : List Edge) (p q : ℕ) (e : Edge) → p ≤ q → slice_get es p ≡ Some e → Contains (take (suc q) es) e
among [] p q e l h = absurd (let m = slice_get_within [] p e h in omega arith)
among (x ∷ xs) zero q e l h = contains_here e x (take q xs) (get_or_from_slice_get (x ∷ xs) 0 e e h)
among (x ∷ xs) (suc p) zero e l h = absurd (omega arith)
among (x ∷ xs) (suc p) (suc q) e l h = contains_later e x (take (suc q) xs) (among xs p q e (omega arith) h)

-- an image is a member where its flip led
image_there : (points : List Point) (from flips images to : List Edge) (q : ℕ) (f : Edge) → IsTraced points from flips images to → slice_get images q ≡ Some f → (there : List Edge) × LawsonRunsTo points from (take (suc q) flips) there × Contains there f
image_there points from [] [] to q f t h = absurd (let m = slice_get_within [] q f h in omega arith)
image_there points from [] (g ∷ images) to q f t h = absurd t
image_there points from (e ∷ flips) [] to q f t h = absurd t
image_there points from (e ∷ flips) (g ∷ images) to zero f (U, least, F, more) h = (U, (g, U, least, F, refl), (F.members f).1 (inr (sym (get_or_from_slice_get (g ∷ images) 0 f f h))))
image_there points from (e ∷ flips) (g ∷ images) to (suc q) f (U, least, F, more) h = over (image_there points U flips images to q f more h)
  where
    over : (there : List Edge) × LawsonRunsTo points U (take (suc q) flips) there × Contains there f → (there : List Edge) × LawsonRunsTo points from (e ∷ take (suc q) flips) there × Contains there f
    over (there, r, k) = (there, (g, U, least, F, r), k)

pub no_later_images : (points : List Point) → ArePlaced points → (from flips images to : List Edge) → IsTriangulation points from → IsTraced points from flips images to → AreNoLaterImages flips images
no_later_images points P from flips images to I t p q e f l he hf same = over (image_there points from flips images to q f t hf)
  where
    over : (there : List Edge) × LawsonRunsTo points from (take (suc q) flips) there × Contains there f → ⊥
    over (there, r, k) = never_returns points P from (take (suc q) flips) there I r e (among flips p q e l he) (subst (Contains there) (sym same) k)
