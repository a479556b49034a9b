use Rattle.ae_parser.specs.Productions.{class_behind, method_behind}
use Rattle.ae_parser.proofs.DeclarationLemmas.{is_declaration, class_there, method_there}
use Rattle.ae_parser.proofs.declarations.add.Goals as goal

pub returns-then-is_word_next : goal.returns-then-is_word_next
returns-then-is_word_next c = is_declaration class_behind _ _ _ _ (class_there _ c.if-is_word_next.ensures)
    c.add_class.ensures

pub returns-else-is_word_next : goal.returns-else-is_word_next
returns-else-is_word_next c = is_declaration method_behind _ _ _ _ (method_there _ c.if-is_word_next.ensures)
    c.add_method.ensures
