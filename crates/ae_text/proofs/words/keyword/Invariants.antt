use Rattle.std.proofs.Common.{take}
use Rattle.ae_text.proofs.SpellingLemmas.{NoneIs}
use Rattle.ae_text.proofs.words.keyword.Given as goal

abbrev pub invariant-loop-keyword : goal.invariant-loop-keyword
invariant-loop-keyword l = NoneIs l.s (take l.keyword-index l.keyword-items)
