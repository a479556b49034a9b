use Rattle.std.proofs.Common.{◌≡◌, ◌++◌, drop}
use Rattle.ae_layout.specs.Spelling.{all_escaped}
use Rattle.ae_layout.proofs.spell.escape_all.Given as goal

abbrev pub invariant-loop-byte : goal.invariant-loop-byte
invariant-loop-byte l = l.initial.out.items ++ all_escaped l.bytes ≡ l.out.items
    ++ all_escaped (drop l.byte-index l.bytes)
