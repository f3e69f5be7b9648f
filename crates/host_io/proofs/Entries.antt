-- Looking through the files and the plans of a store in memory.
use Rattle.std.proofs.Common.{◌≡◌, ◌≢◌, ◌∙◌, ℕ, ◌+◌, ◌<◌, ◌==◌, List, ◌∷◌, length, get_or, drop, true, false, cond, Option, Some, string_bytes, map, refl, ap}
use Rattle.std.proofs.lemmas.Bool.{eq-eqb, ne_eqb}
use Rattle.std.proofs.lemmas.List.{drop_more}
use Rattle.std.proofs.lemmas.Map.Text.{is_eq-slice_cmp}
use Rattle.std.specs.Str.{bytes_eq}
use Rattle.std.specs.FinMap.{get, find, get-from_entries}
use Rattle.std.specs.Ordering.{nat_cmp}
use Rattle.std.specs.Cmp.{nat_cmp_total, unsigned_tied}
use Rattle.std.specs.Cmp.Lexicographic.{slice_cmp, nat_list_cmp_total}
use Rattle.host_io.specs.declared.mem_store.File.{File}
use Rattle.host_io.specs.declared.mem_store.Plan.{Plan}
use Rattle.host_io.specs.Log.{file_entry, held_in, plan_entry, planned_in}

-- the bytes of the first file of that name
abbrev pub newest : List File → List ℕ → Option (List ℕ)
newest files name = find (slice_cmp nat_cmp) name (map file_entry files)

newest-cons : (f : File) (fs : List File) (name : List ℕ) → newest (f ∷ fs) name ≡ cond (bytes_eq name (string_bytes f.name)) (Some f.bytes) (newest fs name)
newest-cons f fs name = ap (λ b. cond b (Some f.bytes) (newest fs name)) (is_eq-slice_cmp name (string_bytes f.name))

pub newest_here : (fs : List File) (i : ℕ) (f : File) (name : List ℕ) → i < length fs → f ≡ get_or fs i f → bytes_eq name (string_bytes f.name) ≡ true → newest (drop i fs) name ≡ Some f.bytes
newest_here fs i f name h is same = rw (drop_more fs i f h, ← is) (newest-cons f (drop (i + 1) fs) name ∙ rw same)

pub newest_there : (fs : List File) (i : ℕ) (f : File) (name : List ℕ) → i < length fs → f ≡ get_or fs i f → bytes_eq name (string_bytes f.name) ≡ false → newest (drop i fs) name ≡ newest (drop (i + 1) fs) name
newest_there fs i f name h is other = rw (drop_more fs i f h, ← is) (newest-cons f (drop (i + 1) fs) name ∙ rw other)

-- what is held under a name, by the files
pub get-held_in : (fs : List File) (name : List ℕ) → get (held_in fs) name ≡ newest fs name
get-held_in fs name = get-from_entries nat_list_cmp_total (map file_entry fs) name

-- the count of the first plan for that call
abbrev pub latest : List Plan → ℕ → Option ℕ
latest plans call = find nat_cmp call (map plan_entry plans)

latest-cons : (p : Plan) (ps : List Plan) (call : ℕ) → latest (p ∷ ps) call ≡ cond (call == p.call) (Some p.keep) (latest ps call)
latest-cons p ps call = ap (λ b. cond b (Some p.keep) (latest ps call)) (unsigned_tied call p.call)

pub planned_here : (ps : List Plan) (i : ℕ) (p : Plan) (call : ℕ) → i < length ps → call ≡ (get_or ps i p).call → latest (drop i ps) call ≡ Some (get_or ps i p).keep
planned_here ps i p call h same = rw (drop_more ps i p h) (latest-cons (get_or ps i p) (drop (i + 1) ps) call ∙ rw (eq-eqb _ _ same) refl)

pub planned_there : (ps : List Plan) (i : ℕ) (p : Plan) (call : ℕ) → i < length ps → call ≢ (get_or ps i p).call → latest (drop i ps) call ≡ latest (drop (i + 1) ps) call
planned_there ps i p call h other = rw (drop_more ps i p h) (latest-cons (get_or ps i p) (drop (i + 1) ps) call ∙ rw (ne_eqb _ _ other) refl)

-- what is planned for a call, by the plans
pub get-planned_in : (ps : List Plan) (call : ℕ) → get (planned_in ps) call ≡ latest ps call
get-planned_in ps call = get-from_entries nat_cmp_total (map plan_entry ps) call
