use Rattle.ae_reads.proofs.CellLemmas.{cells_are_not_read}
use Rattle.ae_reads.proofs.laws.reads_see_no_cells.Goals as goal

pub returns : goal.returns
returns c = cells_are_not_read
