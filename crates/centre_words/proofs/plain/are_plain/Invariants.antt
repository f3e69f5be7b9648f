use Rattle.std.proofs.Common.{◌≡◌, drop}
use Rattle.std.specs.List.{list_all}
use Rattle.centre_words.specs.Words.{texts}
use Rattle.centre_words.specs.PlainWords.{is_word}
use Rattle.centre_words.proofs.plain.are_plain.Given as goal

abbrev pub invariant-loop-word : goal.invariant-loop-word
invariant-loop-word l = list_all is_word (texts (drop l.word-index l.words)) ≡ list_all is_word (texts l.words)
