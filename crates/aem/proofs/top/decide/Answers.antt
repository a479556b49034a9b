use Rattle.std.proofs.Common.{map, string_bytes}
use Rattle.aem.proofs.OneAnswer.{only_answer}
use Rattle.aem.proofs.top.decide.Goals as goal

pub returns-clause-only : goal.returns-clause-only
returns-clause-only g c =
    only_answer c.answers_are_unique.ensures.one (map string_bytes c.args.words.now)
    (g.S.Source.left c.args.source.now) (g.S.Source.left c.find_answer.new.source) c.find_answer.result
    c.find_answer.ensures.answer

pub returns-clause-complete : goal.returns-clause-complete
returns-clause-complete g c =
    λ not_risen command program asked.
    c.answers_are_unique.ensures.answered (map string_bytes c.args.words.now) (g.S.Source.left c.args.source.now)
    (g.S.Source.left c.find_answer.new.source) c.find_answer.result
    command program asked c.find_answer.ensures.answer (λ failed. not_risen (c.find_answer.ensures.fault failed))
