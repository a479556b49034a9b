use Rattle.std.proofs.Common.{sym, ◌∙◌}
use Rattle.std.proofs.lemmas.Str.{encodes_same}
use Rattle.ae_text.proofs.SpellingLemmas.{keyword_same}
use Rattle.ae_text.proofs.words.word.Goals as goal

pub returns-in-Some : goal.returns-in-Some
returns-in-Some c = λ cs e w. (encodes_same cs _ (sym e ∙ c.in-Some.ensures ∙ sym (keyword_same _)), tt)
