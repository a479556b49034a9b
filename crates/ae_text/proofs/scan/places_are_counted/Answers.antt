use Rattle.ae_text.proofs.PlaceLemmas.{place-line, place-first, place-later}
use Rattle.ae_text.proofs.scan.places_are_counted.Goals as goal

pub returns-clause-line : goal.returns-clause-line
returns-clause-line c = λ text at. place-line text at

pub returns-clause-first : goal.returns-clause-first
returns-clause-first c = λ text at e. place-first text at e

pub returns-clause-later : goal.returns-clause-later
returns-clause-later c = λ text before line at e i. place-later text before line at e i
