use Rattle.std.proofs.Common.{arith}
use Rattle.ae_text.specs.Tokens.{is_digit}
use Rattle.ae_text.proofs.ScanLemmas.{each_at, digit_from, value_at}
use Rattle.ae_text.proofs.words.number.Goals as goal

pub overflow_sub-b : goal.overflow_sub-b
overflow_sub-b c = digit_from _ (each_at is_digit c.args.s.now c.loop-b.b-index c.requires (omega arith))

pub returns-then-n-d : goal.returns-then-n-d
returns-then-n-d c = omega (
  arith,
  value_at c.loop-b.n c.args.s.now c.loop-b.b-index (omega arith),
  c.loop-b.invariant.0,
)
