use Rattle.centre_words.proofs.read.laws.Goals as goal
use Rattle.centre_words.proofs.Meets.{words_ask_once}

pub returns : goal.returns
returns c = words_ask_once
