use Rattle.ae_reading.proofs.ReadsLemmas.{exits, first, second, both, free}
use Rattle.ae_reading.specs.Reads.{itself, Free}
use Rattle.ae_reading.specs.Parts.{class}
use Rattle.ae_reading.proofs.TypeLemmas.{NoLess, has_groups, class_took, class_failed}
use Rattle.ae_reading.proofs.types.class.Goals as goal

pub returns-in_err-name : goal.returns-in_err-name
returns-in_err-name c = exits itself class Free NoLess _ _ _
    (class_failed _ _ (first (free _ NoLess) has_groups c.in_err-name.ensures)) c.from_residual.ensures.1

pub returns-in_err-groups : goal.returns-in_err-groups
returns-in_err-groups c = exits itself class Free NoLess _ _ _
    (class_failed _ _ (second (free _ NoLess) c.in_ok-name.ensures c.in_err-groups.ensures))
    c.from_residual-in_err-groups.ensures.1

pub returns : goal.returns
returns c = class_took _ _ _ _ (both (free _ NoLess) c.in_ok-name.ensures c.in_ok-groups.ensures)
