use Rattle.std.proofs.Common.{◌∙◌, sym}
use Rattle.std.proofs.lemmas.Bool.{false≢true}
use Rattle.ae_parser.proofs.SideLemmas.{begins, closes, unmarked}
use Rattle.ae_parser.proofs.places.with_next.Goals as goal

pub returns-then-is_assign : goal.returns-then-is_assign
returns-then-is_assign c = begins c.args.side c.args.next.now c.args.index (c.is_assign.ensures.0 c.if-is_assign.true)

pub returns-then-not-is_open : goal.returns-then-not-is_open
returns-then-not-is_open c =
    closes c.args.side c.args.next.now c.args.index
    (λ a. false≢true (sym c.if-is_assign.false ∙ c.is_assign.ensures.1 a))
    (sym c.is_open.ensures ∙ c.if-not-is_open.true)

pub returns-else-is_mark : goal.returns-else-is_mark
returns-else-is_mark c =
    unmarked c.args.side c.args.next.now c.args.index
    (λ a. false≢true (sym c.if-is_assign.false ∙ c.is_assign.ensures.1 a))
    (sym c.is_open.ensures ∙ c.if-not-is_open.false) (sym c.is_mark.ensures ∙ c.if-is_mark.false)
