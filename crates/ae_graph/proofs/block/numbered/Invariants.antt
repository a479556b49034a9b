use Rattle.std.proofs.Common.{◌≡◌, drop, nat_eq}
use Rattle.std.specs.Prelude.{find}
use Rattle.ae_uses.specs.declared.opened.OpenedBlock.{OpenedBlock}
use Rattle.ae_graph.proofs.block.numbered.Given as goal

-- the first of the rest is the first of all
abbrev pub invariant-loop-block : goal.invariant-loop-block
invariant-loop-block l = find (λ (o : OpenedBlock). nat_eq o.no l.number) l.blocks
    ≡ find (λ (o : OpenedBlock). nat_eq o.no l.number) (drop l.block-index l.blocks)
