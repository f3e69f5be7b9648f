-- Lines of hinted logs: an identifier, the literals, 0, the hints, 0.
use Rattle.std.specs.Prelude.{ℕ, Bool, ◌<◌, ◌≤◌, ◌^◌, nat_le, ◌==◌, if◌then◌else◌, true, false, List, [], ◌∷◌, ◌++◌, map, decimal, Option, Some, None}
use Rattle.std.specs.List.{AllByRecursion}
use Rattle.log_law.specs.declared.Lit.{Lit}
use Rattle.log_law.specs.Logs.{Line as LogLine}
use Rattle.line_text.specs.Words.{Word, Line, line, words_of, ◌>>=◌, each_of, number_of, below}
use Rattle.line_text.specs.declared.log_line.Mark.{Mark}
use Rattle.line_text.specs.declared.log_line.Mark.TheVariants.{End, Literal}

-- a variable that is to be true, or one that is to be false
abbrev pub literal_word : Lit → Word
literal_word l = if l.on then decimal l.var else 45 ∷ decimal l.var

abbrev pub log_of : ℕ → List Lit → List ℕ → LogLine
log_of id literals hints = record { id = id; literals = literals; hints = hints }

abbrev pub log_line : LogLine → Line
log_line l = line (decimal l.id) (map literal_word l.literals ++ (48 ∷ []) ∷ map decimal l.hints ++ (48 ∷ []) ∷ [])

-- a number from 1 that 32 bits hold
abbrev pub IsPositive : ℕ → Type 0
IsPositive n = (1 ≤ n) × (n < 2 ^ 32)

-- variables and hints are numbered from 1
pub record IsFromOne (l : LogLine) : Type 0 where
  pub literals : AllByRecursion (λ x. 1 ≤ x.var) l.literals
  pub hints : AllByRecursion (λ h. 1 ≤ h) l.hints

-- 32 bits hold the numbers
pub record HasSmallNumbers (l : LogLine) : Type 0 where
  pub id : l.id < 2 ^ 32
  pub literals : AllByRecursion (λ x. x.var < 2 ^ 32) l.literals
  pub hints : AllByRecursion (λ h. h < 2 ^ 32) l.hints

-- what has a line
pub record IsLogLine (l : LogLine) : Type 0 where
  pub id : l.id < 2 ^ 32
  pub literals : AllByRecursion (λ x. IsPositive x.var) l.literals
  pub hints : AllByRecursion IsPositive l.hints

-- ---- reading
-- a literal of a variable whose number 32 bits hold
abbrev pub literal_of : ℕ → Bool → Option Mark
literal_of n on = if nat_le 1 n then (below (2 ^ 32) n >>= λ var. Some (Literal (record { var = var; on = on }))) else None

-- a number, which may be 0
abbrev pub unsigned_of : ℕ → Option Mark
unsigned_of n = if n == 0 then Some End else literal_of n true

unfoldable pub mark_of : Word → Option Mark
mark_of [] = None
mark_of (byte ∷ bytes) = if byte == 45 then (number_of bytes >>= λ n. literal_of n false) else (number_of (byte ∷ bytes) >>= unsigned_of)

-- the literals up to the first 0, and the marks after it
unfoldable pub literals_in : List Mark → Option (List Lit × List Mark)
literals_in [] = None
literals_in (End ∷ marks) = Some ([], marks)
literals_in (Literal l ∷ marks) = literals_in marks >>= λ x. Some (l ∷ x.0, x.1)

-- the hint that a mark is, or none for a 0
abbrev pub hint_of : Mark → Option (Option ℕ)
hint_of End = Some None
hint_of (Literal l) = if l.on then Some (Some l.var) else None

-- no hint, where no mark is left
abbrev pub no_hints : List Mark → Option (List ℕ)
no_hints [] = Some []
no_hints (mark ∷ marks) = None

-- a hint before others, or the 0 at the end
abbrev pub hint_before : List Mark → Option (List ℕ) → Option ℕ → Option (List ℕ)
hint_before marks others (Some hint) = others >>= λ hints. Some (hint ∷ hints)
hint_before marks others None = no_hints marks

-- the hints up to the one 0 at the end
unfoldable pub hints_in : List Mark → Option (List ℕ)
hints_in [] = None
hints_in (mark ∷ marks) = hint_of mark >>= hint_before marks (hints_in marks)

-- the number of a line, which 32 bits hold
abbrev pub identifier_of : Word → Option ℕ
identifier_of word = number_of word >>= below (2 ^ 32)

abbrev pub line_of_words : List Word → Option LogLine
line_of_words [] = None
line_of_words (first ∷ others) = identifier_of first >>= λ id. each_of mark_of others >>= literals_in >>= λ x. hints_in x.1 >>= λ hints. Some (record { id = id; literals = x.0; hints = hints })

-- the log line that a line spells
abbrev pub log_line_of : Line → Option LogLine
log_line_of bytes = line_of_words (words_of bytes)
