use Rattle.std.proofs.Common.{◌∙◌, sym, ap, refl, []}
use Rattle.std.specs.Prelude.{bytes_eq}
use Rattle.indexmap.specs.IndexSet.{insert_all, insert_key}
use Rattle.ae_tree.specs.Names.{spelled_before}
use Rattle.ae_parser.specs.Slices.{slices_bytes}
use Rattle.ae_parser.proofs.NumberLemmas.{inserted}
use Rattle.ae_parser.proofs.numbers.insert_spelling.Goals as goal

pub returns-in_ok-insert-clause-names : goal.returns-in_ok-insert-clause-names
returns-in_ok-insert-clause-names c =
    inserted (λ a b. bytes_eq a.now b.now) (λ a b. refl) c.args.names.now.keys c.insert.new.self.keys
    c.as_slice.result c.in_ok-insert.ensures.keys
    ∙ ap (λ s. insert_key bytes_eq (slices_bytes c.args.names.now.keys) s) c.as_slice.ensures
    ∙ ap (λ k. insert_all bytes_eq (slices_bytes c.args.names.now.keys) (spelled_before k [])) (sym c.in-Name.is)
