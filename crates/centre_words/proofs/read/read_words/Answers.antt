use Rattle.std.proofs.Common.{◌≡◌, ◌∙◌, List, None, Some, ap, option_map, sym, true, Err}
use Rattle.std.proofs.lemmas.Result.{IfOk-weaker, err_from_is_err_and}
use Rattle.clap.specs.Walk.{Row, Text}
use Rattle.clap.specs.Words.{found_of, rows_of}
use Rattle.centre_words.specs.PlainWords.{is_word}
use Rattle.centre_words.specs.Words.{texts}
use Rattle.centre_words.specs.declared.asked.WordsFault.TheVariants as faults
use Rattle.std.specs.List.{list_all}
use Rattle.centre_words.proofs.Matches.{found_is}
use Rattle.centre_words.proofs.Meets.{Meets, Read, asks_of_read, by_matches, meets, read}
use Rattle.centre_words.proofs.Tops.{simple}
use Rattle.centre_words.proofs.read.read_words.Goals as goal

pub returns-then-not-are_plain-clause-words : goal.returns-then-not-are_plain-clause-words
returns-then-not-are_plain-clause-words c = λ _ a h.
    let plain : c.are_plain.result ≡ true = c.are_plain.ensures ∙ (meets (texts c.args.words.now) a h).plain in
    let t = c.if-not-are_plain.true in
    cc

pub returns-in_err-matches-clause-words : goal.returns-in_err-matches-clause-words
returns-in_err-matches-clause-words c = λ e a h.
    let memory = c.in_err-matches.ensures.refuses (meets (texts c.args.words.now) a h).faultless in
    let p = err_from_is_err_and c.from_residual.result c.from_residual.ensures.1 in
    let clash : Err p.0 ≡ Err faults.Words = sym p.1 ∙ e in
    let q = p.2 in
    cc

pub returns-in-Some-clause-asked : goal.returns-in-Some-clause-asked
returns-in-Some-clause-asked c =
    let plain : list_all is_word (texts c.args.words.now) ≡ true = sym c.are_plain.ensures ∙ c.if-not-are_plain.false in
    let r : Read (texts c.args.words.now) = read (texts c.args.words.now) plain c.in_ok-matches.ensures.passes in
    let is = found_is c.in_ok-matches.matches c.in-Some.command.now (rows_of (found_of c.in-Some.found.now)) _ (c.in_ok-matches.ensures.matches simple).1 c.in-Some.ensures.name c.in-Some.ensures.rows in
    IfOk-weaker c.asked_by.result _ _ (λ a h. asks_of_read (texts c.args.words.now) r c.in-Some.command.now (rows_of (found_of c.in-Some.found.now)) is a h) c.asked_by.ensures.ok

pub returns-in-Some-clause-words : goal.returns-in-Some-clause-words
returns-in-Some-clause-words c = λ e a h.
    let m : Meets (texts c.args.words.now) a = meets (texts c.args.words.now) a h in
    let is = found_is c.in_ok-matches.matches c.in-Some.command.now (rows_of (found_of c.in-Some.found.now)) _ (c.in_ok-matches.ensures.matches simple).1 c.in-Some.ensures.name c.in-Some.ensures.rows in
    c.asked_by.ensures.words e a (by_matches (texts c.args.words.now) a m c.in-Some.command.now (rows_of (found_of c.in-Some.found.now)) is)

pub returns-clause-words : goal.returns-clause-words
returns-clause-words c = λ _ a h.
    let m : Meets (texts c.args.words.now) a = meets (texts c.args.words.now) a h in
    let is : None ≡ Some m.found = c.in-None.ensures.rows ∙ ap (option_map (λ (p : Text × List Row). p.1)) ((c.in_ok-matches.ensures.matches simple).1 ∙ m.matches) in
    cc
