use Rattle.std.proofs.Common.{◌≡◌, ◌<◌, ℕ, length}
use Rattle.ae_rules.specs.declared.uses.Resource.{Resource}
use Rattle.ae_rules.specs.Edges.{BlockUses, Preds}
use Rattle.ae_uses.specs.Opened.{AreFootprints}
use Rattle.ae_graph.specs.Graph.{preds_in}
use Rattle.ae_graph.specs.Opened.{kept_of, opened}
use Rattle.ae_graph.proofs.preds.preds_of.Given as goal

abbrev pub invariant-loop-at : goal.invariant-loop-at
invariant-loop-at l = record {
  len : length l.preds ≡ l.at;
  exact : (uses : BlockUses) → AreFootprints uses (length l.footprints) l.footprints → (k : ℕ) → k < l.at
      → Preds uses k (preds_in l.preds k);
  past : (uses : BlockUses) → AreFootprints uses (length l.footprints) l.footprints → (r : Resource)
      → kept_of l.past r ≡ opened uses l.at r;
}
