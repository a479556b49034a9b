use Rattle.ae_layout.proofs.Again.{read_again}
use Rattle.ae_layout.proofs.laws.a_layout_is_read_as_the_program.Goals as goal

pub returns : goal.returns
returns c text tokens p l d = read_again text tokens p l d
