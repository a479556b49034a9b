use Rattle.ae_reading.proofs.ReadsLemmas.{exits, first, second, both, free}
use Rattle.ae_reading.specs.Reads.{itself, Free}
use Rattle.ae_reading.specs.Parts.{object}
use Rattle.ae_reading.proofs.TypeLemmas.{NoLess, has_kind, object_took, object_failed}
use Rattle.ae_reading.proofs.types.object.Goals as goal

pub returns-in_err-perm : goal.returns-in_err-perm
returns-in_err-perm c = exits itself object Free NoLess _ _ _
    (object_failed _ _ (first (free _ NoLess) has_kind c.in_err-perm.ensures)) c.from_residual.ensures.1

pub returns-in_err-kind : goal.returns-in_err-kind
returns-in_err-kind c = exits itself object Free NoLess _ _ _
    (object_failed _ _ (second (free _ NoLess) c.in_ok-perm.ensures c.in_err-kind.ensures))
    c.from_residual-in_err-kind.ensures.1

pub returns : goal.returns
returns c = object_took _ _ _ _ (both (free _ NoLess) c.in_ok-perm.ensures c.in_ok-kind.ensures)
