use Rattle.ae_tree.specs.Grammar.{further, name, one_by_one}
use Rattle.ae_reading.specs.Reads.{itself, Free, Always}
use Rattle.ae_reading.proofs.ReadsLemmas.{exits, mark_smaller}
use Rattle.ae_reading.proofs.Begins.{is_isnt}
use Rattle.ae_reading.proofs.Parts.{Comma}
use Rattle.ae_reading.proofs.PartLemmas.{loop_start, loop_more, loop_failed}
use Rattle.ae_reading.proofs.PartLemmas.{NoComma, commas_end}
use Rattle.ae_reading.proofs.lists.further_names.Goals as goal

pub names-init : goal.names-init
names-init c = loop_start (further name) NoComma _ _ c.new-names.ensures

pub returns-in_err-name : goal.returns-in_err-name
returns-in_err-name c = exits itself (one_by_one (further name)) Free NoComma _ _ _
    (loop_failed (further name) NoComma _ _ _ _ (is_isnt Comma _ c.names-test.ensures) c.names.invariant
    c.in_err-name.ensures) c.from_residual.ensures.1

pub names-smaller : goal.names-smaller
names-smaller c = mark_smaller Comma name Free Always _ _ _ c.in_ok-name.ensures

pub names-preserved : goal.names-preserved
names-preserved c = loop_more (further name) NoComma _ _ _ _ _ _ (is_isnt Comma _ c.names-test.ensures)
    c.in_ok-push.ensures.ok c.names.invariant c.in_ok-name.ensures

pub returns : goal.returns
returns c = commas_end name NoComma _ _ _ c.names-test.ensures c.names.invariant
