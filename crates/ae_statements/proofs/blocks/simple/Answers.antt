use Rattle.ae_statements.proofs.from_reading.ReadsLemmas.{refuses}
use Rattle.ae_statements.specs.Productions.{stmt, KeepsStmt, NoElse, shown_stmt}
use Rattle.ae_statements.proofs.LinesLemmas.{no_words, stmt_refused}
use Rattle.ae_statements.proofs.blocks.simple.Goals as goal

pub returns : goal.returns
returns c = λ n levels. refuses shown_stmt (stmt n) (KeepsStmt levels) NoElse _ _ c.unexpected.ensures
    (stmt_refused n levels c.args.ts.now
    (no_words _ c.requires c.if-is_word_next.ensures c.if-is_word_next-2.ensures c.if-is_word_next-3.ensures
    c.if-is_word_next-4.ensures c.if-is_word_next-5.ensures c.if-is_word_next-6.ensures
    c.if-is_root_next.ensures))
