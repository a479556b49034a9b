use Rattle.ae_reading.specs.Reads.{Always}
use Rattle.ae_statements.proofs.from_reading.ReadsLemmas.{exits, first, second, both, free}
use Rattle.ae_statements.specs.Productions.{stmt, KeepsStmt, NoElse, shown_stmt}
use Rattle.ae_statements.proofs.SimpleLemmas.{simple_took, simple_failed, has_printed, print_tree, printing_along}
use Rattle.ae_statements.proofs.simple.printing.Goals as goal

pub returns-in_err-at : goal.returns-in_err-at
returns-in_err-at c n levels = exits shown_stmt (stmt n) (KeepsStmt levels) NoElse _ _ _
    (simple_failed print_tree (printing_along n levels _ c.requires)
    (first (free _ Always) has_printed c.in_err-at.ensures)) c.from_residual.ensures.1

pub returns-in_err-kind : goal.returns-in_err-kind
returns-in_err-kind c n levels = exits shown_stmt (stmt n) (KeepsStmt levels) NoElse _ _ _
    (simple_failed print_tree (printing_along n levels _ c.requires)
    (second (free _ Always) c.in_ok-at.ensures c.in_err-kind.ensures)) c.from_residual-in_err-kind.ensures.1

pub returns : goal.returns
returns c n levels = simple_took print_tree (printing_along n levels _ c.requires)
    (both (free _ Always) c.in_ok-at.ensures c.in_ok-kind.ensures)
