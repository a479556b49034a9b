use Rattle.std.proofs.Common.{ℕ, List, ◌++◌, ap, ◌∙◌}
use Rattle.ae_uses.proofs.OutsideLemmas.{all_of_it_more}
use Rattle.ae_uses.proofs.used.Used.adds_all.Goals as goal

pub returns : goal.returns
returns c =
    let u = c.args.self.now in
    all_of_it_more u _ c.args.other.now
    (c.in_ok-extend_from_slice.ensures.items ∙ ap (λ (l : List ℕ). u.read.items ++ l) c.deref.ensures.value)
    (c.in_ok-extend_from_slice-2.ensures.items ∙ ap (λ (l : List ℕ). u.written.items ++ l) c.deref-2.ensures.value)
    (c.in_ok-extend_from_slice-3.ensures.items ∙ ap (λ (l : List ℕ). u.together.items ++ l) c.deref-3.ensures.value)
    (c.in_ok-extend_from_slice-4.ensures.items ∙ ap (λ (l : List ℕ). u.whole.items ++ l) c.deref-4.ensures.value)
