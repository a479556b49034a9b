use Rattle.std.proofs.Common.{List, subst, sym}
use Rattle.ae_tree.specs.declared.tree.NameAt.{NameAt}
use Rattle.ae_tree.specs.Grammar.{name, separated}
use Rattle.ae_reading.specs.Reads.{itself, Free, Took}
use Rattle.ae_reading.proofs.ReadsLemmas.{exits}
use Rattle.ae_reading.proofs.Parts.{free_commas, free_parted, took_separated, separated_first, separated_more}
use Rattle.ae_reading.proofs.PartLemmas.{NoComma}
use Rattle.ae_reading.proofs.lists.names.Goals as goal

pub returns-in_err-first : goal.returns-in_err-first
returns-in_err-first c = exits itself (separated name) Free NoComma _ _ _
    (separated_first (λ l x. Free l) free_parted (free_commas (λ o g. g)) (λ l x w. tt) c.in_err-first.ensures)
    c.from_residual.ensures.1

pub returns-in_err-more : goal.returns-in_err-more
returns-in_err-more c = exits itself (separated name) Free NoComma _ _ _
    (separated_more (λ l x. Free l) free_parted (free_commas (λ o g. g)) c.in_ok-first.ensures c.in_err-more.ensures)
    c.from_residual-in_err-more.ensures.1

pub returns : goal.returns
returns c =
    let P : List NameAt → Type 0 = λ l. Took (separated name) Free NoComma c.args.ts.now l c.in_ok-more.rest.now in
    subst P (sym c.in_ok-in_front.ensures)
    (took_separated (λ l x. Free l) free_parted (free_commas (λ o g. g)) c.in_ok-first.ensures
    c.in_ok-more.ensures)
