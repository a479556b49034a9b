use Rattle.ae_text.proofs.ScanLemmas.{stops_end}
use Rattle.ae_text.proofs.texts.next_in_line.Goals as goal

pub returns-in_err-first : goal.returns-in_err-first
returns-in_err-first c = rw (c.from_residual.ensures) (stops_end _ _ c.in_err-first.ensures)
