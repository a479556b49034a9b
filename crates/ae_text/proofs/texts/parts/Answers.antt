use Rattle.ae_text.proofs.ScanLemmas.{front_utf8}
use Rattle.ae_text.proofs.TextLemmas.{parts_start, parts_more, part_smaller, parts_end}
use Rattle.ae_text.proofs.texts.parts.Goals as goal

pub parts-init : goal.parts-init
parts-init c = (c.utf8.text, parts_start _)

pub parts-preserved : goal.parts-preserved
parts-preserved c = (
  front_utf8 _ _ _ c.in-Some.ensures.front c.parts.invariant.0,
  parts_more _ _ _ _ c.parts.invariant.1 c.in-Some.ensures,
)

pub parts-smaller : goal.parts-smaller
parts-smaller c = part_smaller _ _ _ c.in-Some.ensures

pub returns : goal.returns
returns c = parts_end _ _ c.parts.invariant.1 c.in_default.ensures
