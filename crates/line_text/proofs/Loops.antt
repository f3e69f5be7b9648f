-- Loops that read one word after another.
use Rattle.std.proofs.Common.{◌≡◌, ◌≢◌, ℕ, ◌+◌, ◌-◌, ◌<◌, ◌≤◌, Bool, true, false, cond, eqb, length, take, drop, get_or, List, [], ◌∷◌, ◌++◌, Option, Some, None, refl, sym, ap, ◌∙◌, append_assoc, arith}
use Rattle.std.specs.Option.{option_map, MatchOption}
use denote.Ref.{Bor}
use Rattle.std.proofs.lemmas.Bool.{eqb-true, eq-eqb, ne_eqb}
use Rattle.std.proofs.lemmas.List.{append-nil, at_drop_more, at_drop_all, drop_all, drop_more, take_rest}
use Rattle.log_law.specs.declared.Lit.{Lit}
use Rattle.log_law.specs.Logs.{Line as LogLine}
use Rattle.line_text.specs.Words.{Word, ◌>>=◌, cut_at, words_of, words_after, each_of, number_of, after_name, numbers_in, with_digit, with_digits}
use Rattle.line_text.specs.LogLines.{literals_in, hint_of, hints_in, identifier_of, log_line_of}
use Rattle.line_text.specs.declared.log_line.Mark.{Mark}
use Rattle.line_text.specs.declared.log_line.Mark.TheVariants.{End, Literal}
use Rattle.line_text.proofs.Cuts.{words_from_cut}

-- what was read before, and what is still read
abbrev pub with_front : {B : Type 0} → List B → Option (List B) → Option (List B)
with_front front read = option_map (λ xs. front ++ xs) read

pub regroup : {B : Type 0} (front : List B) (y : B) (read : Option (List B)) → with_front front (read >>= λ ys. Some (y ∷ ys)) ≡ with_front (front ++ y ∷ []) read
regroup front y (Some ys) = ap (λ (xs : List _). Some xs) (sym (append_assoc front (y ∷ []) ys))
regroup front y None = refl

pub each_goes_on : {B : Type 0} (f : Word → Option B) (front : List B) (left word : List ℕ) (rest : Option (List ℕ)) (next : List ℕ) (y : B) (total : Option (List B)) → (word, rest) ≡ cut_at 32 left → f word ≡ Some y → rest ≡ Some next
    → with_front front (each_of f (words_of left)) ≡ total → with_front (front ++ y ∷ []) (each_of f (words_of next)) ≡ total
unfolding each_of
each_goes_on f front left word rest next y total cut found more so_far =
    let words : words_of left ≡ word ∷ words_of next = words_from_cut left word rest cut ∙ ap (λ (r : Option (List ℕ)). word ∷ words_after r) more in
    let one : with_front front (each_of f (words_of left)) ≡ with_front (front ++ y ∷ []) (each_of f (words_of next)) = rw (words, found) (regroup front y (each_of f (words_of next))) in
    sym one ∙ so_far

pub each_is_last : {B : Type 0} (f : Word → Option B) (front : List B) (left word : List ℕ) (rest : Option (List ℕ)) (y : B) (total : Option (List B)) → (word, rest) ≡ cut_at 32 left → f word ≡ Some y → rest ≡ None
    → with_front front (each_of f (words_of left)) ≡ total → Some (front ++ y ∷ []) ≡ total
unfolding each_of
each_is_last f front left word rest y total cut found none so_far =
    let words : words_of left ≡ word ∷ [] = words_from_cut left word rest cut ∙ ap (λ (r : Option (List ℕ)). word ∷ words_after r) none in
    let one : with_front front (each_of f (words_of left)) ≡ Some (front ++ y ∷ []) = rw (words, found) refl in
    sym one ∙ so_far

pub each_ends : {B : Type 0} (f : Word → Option B) (front : List B) (left word : List ℕ) (rest : Option (List ℕ)) (total : Option (List B)) → (word, rest) ≡ cut_at 32 left → f word ≡ None
    → with_front front (each_of f (words_of left)) ≡ total → None ≡ total
unfolding each_of
each_ends f front left word rest total cut none so_far =
    let one : with_front front (each_of f (words_of left)) ≡ None = rw (words_from_cut left word rest cut, none) refl in
    sym one ∙ so_far

-- ---- the digits of a number
pub digits_go_on : (n m i : ℕ) (bytes : List ℕ) (d : ℕ) (total : Option ℕ) → i < length bytes → with_digit n (get_or bytes i d) ≡ Some m → with_digits n (drop i bytes) ≡ total → with_digits m (drop (i + 1) bytes) ≡ total
unfolding with_digits
digits_go_on n m i bytes d total lt more so_far =
    let one : with_digits n (drop i bytes) ≡ with_digits m (drop (i + 1) bytes) = at_drop_more (with_digits n) bytes i d lt ∙ rw more refl in
    sym one ∙ so_far

pub digits_end : (n i : ℕ) (bytes : List ℕ) (d : ℕ) (total : Option ℕ) → i < length bytes → with_digit n (get_or bytes i d) ≡ None → with_digits n (drop i bytes) ≡ total → None ≡ total
unfolding with_digits
digits_end n i bytes d total lt none so_far =
    let one : with_digits n (drop i bytes) ≡ None = at_drop_more (with_digits n) bytes i d lt ∙ rw none refl in
    sym one ∙ so_far

pub digits_are_done : (n i : ℕ) (bytes : List ℕ) (total : Option ℕ) → length bytes ≤ i → with_digits n (drop i bytes) ≡ total → Some n ≡ total
unfolding with_digits
digits_are_done n i bytes total le so_far = sym (at_drop_all (with_digits n) bytes i le) ∙ so_far

-- ---- the literals of a line
abbrev pub literals_behind : List Lit → Option (List Lit × List Mark) → Option (List Lit × List Mark)
literals_behind front read = option_map (λ x. (front ++ x.0, x.1)) read

regroup_literals : (front : List Lit) (l : Lit) (read : Option (List Lit × List Mark)) → literals_behind front (read >>= λ x. Some (l ∷ x.0, x.1)) ≡ literals_behind (front ++ l ∷ []) read
regroup_literals front l (Some x) = ap (λ (ls : List Lit). Some (ls, x.1)) (sym (append_assoc front (l ∷ []) x.0))
regroup_literals front l None = refl

pub literals_go_on : (front : List Lit) (l : Lit) (i : ℕ) (marks : List Mark) (d : Mark) (total : Option (List Lit × List Mark)) → i < length marks → get_or marks i d ≡ Literal l
    → literals_behind front (literals_in (drop i marks)) ≡ total → literals_behind (front ++ l ∷ []) (literals_in (drop (i + 1) marks)) ≡ total
unfolding literals_in
literals_go_on front l i marks d total lt is so_far =
    let one : literals_in (drop i marks) ≡ (literals_in (drop (i + 1) marks) >>= λ x. Some (l ∷ x.0, x.1)) = at_drop_more literals_in marks i d lt ∙ rw is refl in
    let two = regroup_literals front l (literals_in (drop (i + 1) marks)) in
    sym (ap (literals_behind front) one ∙ two) ∙ so_far

pub literals_end : (front : List Lit) (i : ℕ) (marks : List Mark) (d : Mark) (total : Option (List Lit × List Mark)) → i < length marks → get_or marks i d ≡ End
    → literals_behind front (literals_in (drop i marks)) ≡ total → Some (front, take (length marks - (i + 1)) (drop (i + 1) marks)) ≡ total
unfolding literals_in
literals_end front i marks d total lt is so_far =
    let one : literals_in (drop i marks) ≡ Some ([], drop (i + 1) marks) = at_drop_more literals_in marks i d lt ∙ rw is refl in
    let two : literals_behind front (literals_in (drop i marks)) ≡ Some (front, drop (i + 1) marks) = ap (literals_behind front) one ∙ ap (λ (ls : List Lit). Some (ls, drop (i + 1) marks)) (append-nil front) in
    rw (take_rest marks (i + 1)) (sym two ∙ so_far)

pub literals_lack : (front : List Lit) (i : ℕ) (marks : List Mark) (total : Option (List Lit × List Mark)) → length marks ≤ i → literals_behind front (literals_in (drop i marks)) ≡ total → None ≡ total
unfolding literals_in
literals_lack front i marks total le so_far = sym (ap (literals_behind front) (at_drop_all literals_in marks i le)) ∙ so_far

-- ---- the hints of a line
pub hints_go_on : (front : List ℕ) (hint i : ℕ) (marks : List Mark) (d : Mark) (total : Option (List ℕ)) → i < length marks → hint_of (get_or marks i d) ≡ Some (Some hint)
    → with_front front (hints_in (drop i marks)) ≡ total → with_front (front ++ hint ∷ []) (hints_in (drop (i + 1) marks)) ≡ total
unfolding hints_in
hints_go_on front hint i marks d total lt is so_far =
    let one : hints_in (drop i marks) ≡ (hints_in (drop (i + 1) marks) >>= λ hints. Some (hint ∷ hints)) = at_drop_more hints_in marks i d lt ∙ rw is refl in
    let two = regroup front hint (hints_in (drop (i + 1) marks)) in
    sym (ap (with_front front) one ∙ two) ∙ so_far

pub hints_end : (front : List ℕ) (i : ℕ) (marks : List Mark) (d : Mark) (total : Option (List ℕ)) → i + 1 ≡ length marks → hint_of (get_or marks i d) ≡ Some None
    → with_front front (hints_in (drop i marks)) ≡ total → Some front ≡ total
unfolding hints_in
hints_end front i marks d total last is so_far =
    let lt : i < length marks = omega arith in
    let nothing : drop (i + 1) marks ≡ [] = drop_all (i + 1) marks (omega arith) in
    let one : hints_in (drop i marks) ≡ Some [] = at_drop_more hints_in marks i d lt ∙ rw (is, nothing) refl in
    let two : with_front front (hints_in (drop i marks)) ≡ Some front = ap (with_front front) one ∙ ap (λ (hs : List ℕ). Some hs) (append-nil front) in
    sym two ∙ so_far

pub hints_go_wrong : (front : List ℕ) (i : ℕ) (marks : List Mark) (d : Mark) (total : Option (List ℕ)) → i < length marks → hint_of (get_or marks i d) ≡ None
    → with_front front (hints_in (drop i marks)) ≡ total → None ≡ total
unfolding hints_in
hints_go_wrong front i marks d total lt is so_far =
    let one : hints_in (drop i marks) ≡ None = at_drop_more hints_in marks i d lt ∙ rw is refl in
    sym (ap (with_front front) one) ∙ so_far

pub hints_end_early : (front : List ℕ) (i : ℕ) (marks : List Mark) (d : Mark) (total : Option (List ℕ)) → i + 1 < length marks → hint_of (get_or marks i d) ≡ Some None
    → with_front front (hints_in (drop i marks)) ≡ total → None ≡ total
unfolding hints_in
hints_end_early front i marks d total early is so_far =
    let lt : i < length marks = omega arith in
    let more : drop (i + 1) marks ≡ get_or marks (i + 1) d ∷ drop (i + 1 + 1) marks = drop_more marks (i + 1) d early in
    let one : hints_in (drop i marks) ≡ None = at_drop_more hints_in marks i d lt ∙ rw (is, more) refl in
    sym (ap (with_front front) one) ∙ so_far

pub hints_lack : (front : List ℕ) (i : ℕ) (marks : List Mark) (total : Option (List ℕ)) → length marks ≤ i → with_front front (hints_in (drop i marks)) ≡ total → None ≡ total
unfolding hints_in
hints_lack front i marks total le so_far = sym (ap (with_front front) (at_drop_all hints_in marks i le)) ∙ so_far

-- ---- the numbers after a name
pub name_again : (name rest : List ℕ) → after_name name (name ++ rest) ≡ Some rest
unfolding after_name
name_again [] rest = refl
name_again (c ∷ cs) rest = rw (eq-eqb c c refl) (name_again cs rest)

pub name_takes : (name bytes rest : List ℕ) → after_name name bytes ≡ Some rest → bytes ≡ name ++ rest
unfolding after_name
name_takes [] bytes rest e = cc
name_takes (c ∷ cs) [] rest e = absurd cc
name_takes (c ∷ cs) (b ∷ bs) rest e = by_test (eqb b c) refl e (name_takes cs bs rest)
  where
    by_test : (t : Bool) → eqb b c ≡ t → cond t (after_name cs bs) None ≡ Some rest → (after_name cs bs ≡ Some rest → bs ≡ cs ++ rest) → b ∷ bs ≡ (c ∷ cs) ++ rest
    by_test true t f known = let head = eqb-true b c t in let tail = known f in cc
    by_test false t f known = absurd cc

pub name_is : (name bytes : List ℕ) (r : Option (Bor (List ℕ))) → MatchOption r ((rest : List ℕ) → bytes ≢ name ++ rest) (λ x. bytes ≡ name ++ x.now) → option_map (λ x. x.now) r ≡ after_name name bytes
name_is name bytes (Some x) is = sym (ap (after_name name) is ∙ name_again name x.now)
name_is name bytes None other = by_result (after_name name bytes) refl
  where
    by_result : (r : Option (List ℕ)) → after_name name bytes ≡ r → None ≡ after_name name bytes
    by_result (Some rest) e = absurd (other rest (name_takes name bytes rest e))
    by_result None e = sym e

pub no_numbers : (bytes : List ℕ) → length bytes ≡ 0 → Some [] ≡ numbers_in bytes
no_numbers [] e = refl
no_numbers (b ∷ bs) e = absurd (omega arith)

pub numbers_by_first : (bytes : List ℕ) (d : ℕ) → 0 < length bytes → get_or bytes 0 d ≡ 32 → numbers_in bytes ≡ each_of number_of (words_of (take (length bytes - 1) (drop 1 bytes)))
numbers_by_first [] d some is = absurd (omega arith)
numbers_by_first (b ∷ bs) d some is = rw (eq-eqb b 32 is, take_rest (b ∷ bs) 1) refl

pub other_first : (bytes : List ℕ) (d : ℕ) → 0 < length bytes → get_or bytes 0 d ≢ 32 → None ≡ numbers_in bytes
other_first [] d some is = absurd (omega arith)
other_first (b ∷ bs) d some is = rw (ne_eqb b 32 is) refl

-- a line that is one word is no line of a log
pub one_word : (bytes word : List ℕ) (rest : Option (List ℕ)) → (word, rest) ≡ cut_at 32 bytes → rest ≡ None → None ≡ log_line_of bytes
unfolding each_of literals_in
one_word bytes word rest cut none = let words = words_from_cut bytes word rest cut ∙ ap (λ (r : Option (List ℕ)). word ∷ words_after r) none in rw words (by_id (identifier_of word))
  where
    by_id : (o : Option ℕ) → ◌≡◌ {A = Option LogLine} None (o >>= λ id. None)
    by_id (Some id) = refl
    by_id None = refl
