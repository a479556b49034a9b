use Rattle.std.proofs.Common.{List, sym, subst}
use Rattle.ae_tree.specs.declared.tree.GroupNeed.{GroupNeed}
use Rattle.ae_tree.specs.Grammar.{need}
use Rattle.ae_reading.specs.Reads.{itself, Free, Took}
use Rattle.ae_parser.proofs.from_reading.ReadsLemmas.{exits, first, second, both, free, took_mark, failed_mark}
use Rattle.ae_parser.proofs.from_reading.Parts.{free_commas, free_parted, has_separated, took_separated}
use Rattle.ae_parser.proofs.from_reading.Parts.{separated_first, separated_more}
use Rattle.ae_parser.specs.Productions.{some_needs}
use Rattle.ae_parser.proofs.MethodLemmas.{Opening, has_need, needs_end, with_took, with_failed}
use Rattle.ae_parser.proofs.needs.some_needs.Goals as goal

pub returns-in_err-rest : goal.returns-in_err-rest
returns-in_err-rest c = exits itself some_needs Free Opening _ _ _
    (with_failed _ _ (first (free _ Opening) (has_separated need has_need) (failed_mark c.in_err-rest.ensures)))
    c.from_residual.ensures.1

pub returns-in_err-first : goal.returns-in_err-first
returns-in_err-first c = exits itself some_needs Free Opening _ _ _
    (with_failed _ _ (second (free _ Opening) (took_mark c.in_ok-rest.ensures)
    (separated_first (λ l x. Free l) free_parted (free_commas needs_end) (λ l x w. tt) c.in_err-first.ensures)))
    c.from_residual-in_err-first.ensures.1

pub returns-in_err-more : goal.returns-in_err-more
returns-in_err-more c = exits itself some_needs Free Opening _ _ _
    (with_failed _ _ (second (free _ Opening) (took_mark c.in_ok-rest.ensures)
    (separated_more (λ l x. Free l) free_parted (free_commas needs_end) c.in_ok-first.ensures c.in_err-more.ensures)))
    c.from_residual-in_err-more.ensures.1

pub returns : goal.returns
returns c =
    let P : List GroupNeed → Type 0 = λ l. Took some_needs Free Opening c.args.ts.now l c.in_ok-more.rest.now in
    subst P (sym c.in_ok-in_front.ensures)
    (with_took _ _ _ (both (free _ Opening) (took_mark c.in_ok-rest.ensures)
    (took_separated (λ l x. Free l) free_parted (free_commas needs_end) c.in_ok-first.ensures
    c.in_ok-more.ensures)))
