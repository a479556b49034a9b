use Rattle.std.proofs.Common.{◌++◌, arith, take}
use Rattle.std.proofs.lemmas.Grind.{common_steps}
use Rattle.std.proofs.KnownBytes.{Consumes-trans}
use Rattle.ae_text.proofs.whole.read_all.Goals as goal

pub returns-then-len-count-gt-MOST-clause-bytes : goal.returns-then-len-count-gt-MOST-clause-bytes
returns-then-len-count-gt-MOST-clause-bytes g c = (
  c.loop-piece.bytes.items ++ take c.in-Ok.count c.read.new.buf,
  Consumes-trans _ _ _ _ _ c.loop-piece.invariant.bytes c.in-Ok.ensures.bytes.0,
  grind (arith, common_steps, c.in-Ok.ensures.bound),
)

pub returns-then-is_err-clause-bytes : goal.returns-then-is_err-clause-bytes
returns-then-is_err-clause-bytes g c = (
  c.loop-piece.bytes.items ++ take c.in-Ok.count c.read.new.buf,
  Consumes-trans _ _ _ _ _ c.loop-piece.invariant.bytes c.in-Ok.ensures.bytes.0,
  grind (arith, common_steps, c.in-Ok.ensures.bound),
)
