use Rattle.std.proofs.Common.{◌≡◌, [], ◌∷◌, sym, ◌∙◌}
use Rattle.ae_text.proofs.texts.closes.Goals as goal

pub returns-in_err-first : goal.returns-in_err-first
returns-in_err-first c = rw (c.from_residual.ensures)
    (λ after e. let both : [] ≡ 34 ∷ after = sym c.in_err-first.ensures ∙ e in cc)
