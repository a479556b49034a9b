use Rattle.std.proofs.Common.{◌++◌, length, sym, ap, ◌∙◌}
use Rattle.ae_text.proofs.ScanLemmas.{front_one, nothing_left}
use Rattle.std.specs.Char.{encode_utf8}
use Rattle.ae_text.proofs.characters.next.Goals as goal

pub returns-in_err-first : goal.returns-in_err-first
returns-in_err-first c = rw (c.from_residual.ensures)
    (nothing_left _ (ap length (sym c.chars-characters.ensures.rest) ∙ c.in_err-first.ensures.steps.0.0))

pub returns : goal.returns
returns c = front_one _ _ _ c.utf8.text (sym c.chars-characters.ensures.rest ∙ c.in_ok-first.ensures.steps.0
    ∙ ap (λ x. encode_utf8 c.in_ok-first.first ++ x) (sym c.as_str.ensures))
