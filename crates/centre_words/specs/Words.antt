-- What the words of a command line ask for.
use Rattle.std.specs.Prelude.{◌≡◌, ◌≢◌, ◌++◌, ℕ, ◌≤◌, true, List, [], ◌∷◌, Option, Some, None, length, codes, cond, map, string_bytes, String}
use Rattle.std.specs.List.{All, AllPairs, list_any}
use Rattle.std.specs.Str.{bytes_eq}
use Rattle.std.specs.Str.Parse.{IsNumeral, digits_value}
use Rattle.std.specs.declared.alloc.Global.{Global}
use Rattle.centre_words.specs.Table.{Number, workers, turns, seed, flips, input, bench_seed, bench_points, bench_inputs, options_of, solve_row}
use Rattle.centre_words.specs.declared.asked.Asked.{Asked}
use Rattle.centre_words.specs.declared.asked.Asked.TheVariants as asked

-- the words as bytes
abbrev pub texts : List (String Global) → List (List ℕ)
texts words = map (λ word. string_bytes word) words

-- a word may be a name or a value: it isn't empty and doesn't begin with a dash
abbrev pub IsPlain : List ℕ → Type 0
IsPlain [] = ⊥
IsPlain (b ∷ bs) = b ≢ 45

-- a word spells n, which may stand for this number: in 1 to 20 decimal digits, and from its least to its greatest value
pub record IsNumberOf (number : Number) (word : List ℕ) (n : ℕ) : Type 0 where
  pub digits : IsNumeral 10 word
  pub short : length word ≤ 20
  pub value : n ≡ digits_value 10 word
  pub large : number.least ≤ n
  pub small : n ≤ number.most

-- the word that stands before an option's value
abbrev pub dashed : List ℕ → List ℕ
dashed option = codes "--" ++ option

-- what may stand behind a command: a name, or an option with its value
pub data Piece : Type 0 where
  name : (word : List ℕ) → Piece
  given : (option value : List ℕ) → Piece

-- the words of the pieces, one piece after the other
abbrev pub spelling : List Piece → List (List ℕ)
spelling [] = []
spelling (name word ∷ pieces) = word ∷ spelling pieces
spelling (given option value ∷ pieces) = dashed option ∷ value ∷ spelling pieces

-- the name may be one, and the option is one of these and its value may be one
abbrev pub IsPlainPiece : List (List ℕ) → Piece → Type 0
IsPlainPiece options (name word) = IsPlain word
IsPlainPiece options (given option value) = (list_any (λ o. bytes_eq o option) options ≡ true) × IsPlain value

-- the names, in the order in which they stand
abbrev pub names_of : List Piece → List (List ℕ)
names_of [] = []
names_of (name word ∷ pieces) = word ∷ names_of pieces
names_of (given option value ∷ pieces) = names_of pieces

-- the values that an option is given, in the order in which they stand
abbrev pub values_of : List ℕ → List Piece → List (List ℕ)
values_of option [] = []
values_of option (name word ∷ pieces) = values_of option pieces
values_of option (given other value ∷ pieces) = cond (bytes_eq other option) (value ∷ values_of option pieces) (values_of option pieces)

-- an option that isn't given has its usual number, one that is given once has the number of its value, and none is given twice
abbrev pub IsChosen : Number → List (List ℕ) → Option ℕ → Type 0
IsChosen number [] n = n ≡ number.usual
IsChosen number (value ∷ []) None = ⊥
IsChosen number (value ∷ []) (Some n) = IsNumberOf number value n
IsChosen number (value ∷ _ ∷ _) n = ⊥

-- no two of the names are equal
unfoldable pub AllDiffer : List (List ℕ) → Type 0
AllDiffer names = AllPairs ◌≢◌ names

-- the words are `solve`, three names no two of which are equal, and options with their values before, between and behind them
pub record AsksSolve (words : List (List ℕ)) (instance solution certificate : List ℕ) (n_workers n_turns n_seed : ℕ) (n_flips : Option ℕ) : Type 0 where
  pub pieces : List Piece
  pub spelled : words ≡ codes "solve" ∷ spelling pieces
  pub plain : All (IsPlainPiece (options_of solve_row)) pieces
  pub names : names_of pieces ≡ instance ∷ solution ∷ certificate ∷ []
  pub differ : AllDiffer (instance ∷ solution ∷ certificate ∷ [])
  pub workers_is : IsChosen workers (values_of workers.name pieces) (Some n_workers)
  pub turns_is : IsChosen turns (values_of turns.name pieces) (Some n_turns)
  pub seed_is : IsChosen seed (values_of seed.name pieces) (Some n_seed)
  pub flips_is : IsChosen flips (values_of flips.name pieces) n_flips

-- the words are those of the command
abbrev pub Asks : List (List ℕ) → Asked → Type 0
Asks words (asked.Check instance) = (words ≡ codes "check" ∷ instance ∷ []) × IsPlain instance
Asks words (asked.Score instance solution) = (words ≡ codes "score" ∷ instance ∷ solution ∷ []) × IsPlain instance × IsPlain solution
Asks words (asked.Solve instance solution certificate n_workers n_turns n_seed n_flips) = AsksSolve words instance solution certificate n_workers n_turns n_seed n_flips
Asks words (asked.Verify instance solution certificate) =
    (words ≡ codes "verify" ∷ instance ∷ solution ∷ certificate ∷ []) × IsPlain instance × IsPlain solution × IsPlain certificate
Asks words (asked.Trace instance t) =
    (word : List ℕ) × (words ≡ codes "trace" ∷ instance ∷ word ∷ []) × IsPlain instance × IsNumberOf input word t
Asks words (asked.Bench n_seed n_points n_inputs) =
    (a b c : List ℕ) × (words ≡ codes "bench" ∷ a ∷ b ∷ c ∷ []) × IsNumberOf bench_seed a n_seed × IsNumberOf bench_points b n_points × IsNumberOf bench_inputs c n_inputs

-- the words are those of no command
abbrev pub IsUnasked : List (List ℕ) → Type 0
IsUnasked words = (a : Asked) → ¬ Asks words a

-- words ask for at most one thing
abbrev pub WordsAskOnce : Type 0
WordsAskOnce = (words : List (List ℕ)) (a b : Asked) → Asks words a → Asks words b → a ≡ b
