use Rattle.std.proofs.Common.{refl, ap, ◌∙◌}
use Rattle.ae_text.proofs.ScanLemmas.{front_utf8}
use Rattle.ae_text.proofs.TextLemmas.{reads_start, reads_more, reads_end, reads_bad, part_smaller}
use Rattle.ae_text.proofs.texts.text.Goals as goal

pub parts-init : goal.parts-init
parts-init c = (c.utf8.inner, reads_start _ _ _ c.requires c.new-value.ensures.bytes)

pub parts-preserved : goal.parts-preserved
parts-preserved c = (
  front_utf8 _ _ _ c.in-Some.ensures.front c.parts.invariant.0,
  reads_more _ _ _ _ _ _ _ c.parts.invariant.1 c.in-Some.ensures c.in-Some-meaning.ensures
      c.in_ok-push-in-Some-meaning.ensures.bytes,
)

pub parts-smaller : goal.parts-smaller
parts-smaller c = part_smaller _ _ _ c.in-Some.ensures

pub returns-in-None : goal.returns-in-None
returns-in-None c = reads_bad _ _ _ _ _ _ _ c.parts.invariant.1 c.in-Some.ensures c.in-None.ensures refl
    c.bad_escape.ensures

pub returns-in-Some-closes : goal.returns-in-Some-closes
returns-in-Some-closes c = reads_end _ _ _ _ _ c.parts.invariant.1 c.in-Some-closes.ensures
    (c.from_vec.ensures ∙ ap (λ v. v.items) c.into_bytes.ensures.value)
