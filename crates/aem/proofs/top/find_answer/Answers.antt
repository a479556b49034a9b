use Rattle.std.proofs.Common.{List, ℕ, map, string_bytes, subst, sym, ◌∙◌}
use Rattle.aem.specs.Top.{IsAnswer}
use Rattle.aem.proofs.Reading.{caused}
use Rattle.aem.proofs.top.find_answer.Goals as goal

pub returns-in-Ok-read_all-clause-answer : goal.returns-in-Ok-read_all-clause-answer
returns-in-Ok-read_all-clause-answer g c =
    let b = c.in-Ok-read_all.ensures.bytes in (
      b.0,
      b.1,
      caused (map string_bytes c.args.words.now) c.in-Ok.command b.0 (g.S.Source.left c.read_all.new.src)
          c.answer_to.result (sym c.in-Ok.ensures) (b.2.1, b.2.2)
          (subst (λ (l : List ℕ). IsAnswer c.in-Ok.command l c.answer_to.result)
          (c.as_slice.ensures ∙ b.2.0) c.answer_to.ensures),
    )
