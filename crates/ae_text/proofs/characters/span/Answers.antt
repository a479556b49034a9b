use Rattle.ae_text.proofs.ScanLemmas.{front_utf8, run_start, run_more, run_smaller, run_within, run_end}
use Rattle.ae_text.proofs.characters.span.Goals as goal

pub span-init : goal.span-init
span-init c = (c.utf8.text, run_start _ _)

pub span-preserved : goal.span-preserved
span-preserved c = (
  front_utf8 _ _ _ c.in-Some.ensures.front c.span.invariant.0,
  run_more _ _ _ _ c.span.invariant.1 c.in-Some.ensures,
)

pub span-smaller : goal.span-smaller
span-smaller c = run_smaller _ _ _ c.in-Some.ensures

pub slice_bounds-result-count : goal.slice_bounds-result-count
slice_bounds-result-count c = run_within _ _ _ c.span.invariant.1

pub returns : goal.returns
returns c = rw (c.as_bytes.ensures.value) (run_end _ _ _ c.span.invariant.1 c.in_default.ensures)
